use Rattle.std.proofs.Common.{rules, refl}
use Rattle.std.specs.Prelude.{◌==◌, not}
use Rattle.std.proofs.lemmas.Fn.{filter_same}
use Rattle.cq_client.proofs.client.Client.ack.Goals as goal

pub returns : goal.returns
returns c = rw (← c.self.view_is) (rw (c.push_reserved.ensures.items) (rw (filter_same _ (λ o. not (o.delivery == c.args.delivery)) _ (λ x b f' k. search rules) _ _ c.retain.ensures.filtered) refl))
