use Rattle.std.proofs.Common.{List, map, take, ap, sym, ◌∙◌}
use Rattle.std.proofs.lemmas.List.{take-map}
use Rattle.cq_inbox.specs.declared.request.Request.{Request}
use Rattle.cq_grammar.proofs.streams.Asked.into_streams.Goals as goal

pub returns : goal.returns
returns c =
    c.from_vec.ensures
    ∙ ap (map (λ v. v.items)) c.truncate.ensures.items
    ∙ sym (take-map (λ v. v.items) c.args.clients c.self.inside.streams.items)
    ∙ ap (λ (l : List (List Request)). take c.args.clients l) c.self.view_is
