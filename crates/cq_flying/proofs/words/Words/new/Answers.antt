use Rattle.std.proofs.lemmas.Grind.{common_steps}
use Rattle.std.proofs.Common.{arith, sym, ap, ◌≡◌, ◌∙◌, ℕ, subst, get_or, [], List}
use mathlib.Core.Option.{some}
use lib.ListN.{get_elem?}
use Rattle.cq_flying.specs.Ends.{opened}
use Rattle.cq_flying.specs.Words.{OneOwner, own_id}
use Rattle.cq_flying.proofs.Clients.{none_open}
use Rattle.cq_inbox.proofs.Places.{all_more}
use Rattle.cq_inbox.proofs.Shown.{in_place, none_each}
use Rattle.cq_flying.proofs.words.Words.new.Goals as goal

pub loop-client-preserved : goal.loop-client-preserved
loop-client-preserved c =
    let i = c.loop-client.invariant in record {
      count = grind (arith, common_steps);
      owners = grind (arith, common_steps);
      ends = grind (arith, common_steps);
      many = grind (arith, common_steps);
      places = subst (λ (l : List OneOwner). (k : ℕ) (o : OneOwner) → get_elem? l k ≡ some o → o.client ≡ k) (sym c.in_ok-push-2.ensures.items)
          (all_more (λ (k : ℕ) (o : OneOwner). o.client ≡ k) c.loop-client.owners.items _ i.places (sym i.many));
      dropped = grind (arith, common_steps);
      written = grind (arith, common_steps);
      seen = grind (arith, common_steps);
    }

pub returns-clause-owners : goal.returns-clause-owners
returns-clause-owners c = in_place (λ (x : OneOwner). x.client) own_id c.loop-client.owners.items _ c.loop-client.invariant.owners c.loop-client.invariant.places

pub returns-clause-fresh : goal.returns-clause-fresh
returns-clause-fresh c = λ k. (
  ap (λ (l : List (List ℕ)). get_or l k []) c.loop-client.invariant.dropped ∙ none_each _ k,
  ap (λ (l : List (List ℕ)). opened (get_or l k [])) c.loop-client.invariant.written ∙ none_open _ k,
  ap (λ (l : List (List ℕ)). get_or l k []) c.loop-client.invariant.seen ∙ none_each _ k,
)
