use Rattle.std.proofs.Common.{arith, sym, ap, ◌∙◌, ◌≡◌, ◌≢◌, ◌<◌, ◌≤◌, ◌+◌, ℕ, length, map, get_or, subst, ⊎_elim, ◌∷◌, ◌++◌, [], List, length-append, Contains}
use Rattle.std.proofs.lemmas.Grind.{common_steps}
use Rattle.std.proofs.lemmas.Bool.{cases_eq, cases_lt}
use Rattle.std.proofs.lemmas.List.{get_or_past}
use mathlib.Core.Option.{some, some-injective}
use lib.ListN.{get_elem?, length-map}
use Rattle.atomic_table.proofs.Lists.{at_last}
use Rattle.cq_flying.specs.Ends.{words_id, look_end_id, seen_at}
use Rattle.cq_flying.specs.Words.{OneOwner, OneEnd, own_id, dropped_by}
use Rattle.cq_inbox.proofs.Places.{inside, in_front, there}
use Rattle.cq_inbox.proofs.Shown.{map_at}
use Rattle.cq_flying.proofs.words.end.close_words.Goals as goal

pub loop-client-init : goal.loop-client-init
loop-client-init c = record {
  owners = c.requires.owners;
  ends = c.requires.seats;
  first_owners = (λ k o lt e. e);
  first_ends = (λ k e lt at. at);
  closed = (λ k o e le eo ee. let h = inside c.args.owners.items k o eo in absurd (omega arith));
}

pub loop-client-preserved : goal.loop-client-preserved
loop-client-preserved c =
    let i = c.loop-client.invariant in
    let clients = c.in-Some.ensures.items in
    let owners = c.in-Some-pop.ensures.items in
    let ends = c.in-Some-pop-2.ensures.items in
    let long : length c.loop-client.owners.items ≡ length c.loop-client.clients.items = sym (length-map c.loop-client.owners.items own_id) ∙ (ap length i.owners ∙ length-map c.loop-client.clients.items words_id) in
    let long' : length c.loop-client.ends.items ≡ length c.loop-client.clients.items = sym (length-map c.loop-client.ends.items look_end_id) ∙ (ap length i.ends ∙ length-map c.loop-client.clients.items words_id) in
    let more : length c.loop-client.clients.items ≡ length c.pop.new.self.items + 1 = ap length clients ∙ length-append c.pop.new.self.items _ in
    let more_o : length c.loop-client.owners.items ≡ length c.pop-in-Some.new.self.items + 1 = ap length owners ∙ length-append c.pop-in-Some.new.self.items _ in
    let more_e : length c.loop-client.ends.items ≡ length c.pop-in-Some-2.new.self.items + 1 = ap length ends ∙ length-append c.pop-in-Some-2.new.self.items _ in
    let n : ℕ = length c.pop-in-Some.new.self.items in record {
      owners = grind (arith, common_steps, owners, clients, i.owners);
      ends = grind (arith, common_steps, ends, clients, i.ends);
      first_owners = (λ k o lt e. in_front c.pop-in-Some.new.self.items _ k o lt (subst (λ (l : List OneOwner). get_elem? l k ≡ some o) owners (i.first_owners k o (omega arith) e)));
      first_ends = (λ k e lt at. in_front c.pop-in-Some-2.new.self.items _ k e (omega arith) (subst (λ (l : List OneEnd). get_elem? l k ≡ some e) ends (i.first_ends k e (omega arith) at)));
      closed = (λ k o e le eo ee. ⊎_elim
          (λ (same : k ≡ n).
          let o_at : get_elem? (c.pop-in-Some.new.self.items ++ c.in-Some-pop.owner ∷ []) k ≡ some o = subst (λ (l : List OneOwner). get_elem? l k ≡ some o) owners (i.first_owners k o (omega arith) eo) in
          let e_at : get_elem? (c.pop-in-Some-2.new.self.items ++ c.in-Some-pop-2.look_end ∷ []) k ≡ some e = subst (λ (l : List OneEnd). get_elem? l k ≡ some e) ends (i.first_ends k e (omega arith) ee) in
          let o_is : c.in-Some-pop.owner ≡ o = some-injective _ _ (sym (at_last c.pop-in-Some.new.self.items c.in-Some-pop.owner k (omega arith)) ∙ o_at) in
          let e_is : c.in-Some-pop-2.look_end ≡ e = some-injective _ _ (sym (at_last c.pop-in-Some-2.new.self.items c.in-Some-pop-2.look_end k (omega arith)) ∙ e_at) in
          subst (λ (y : OneOwner × OneEnd). (d : ℕ) → Contains (seen_at y.1) d → Contains (dropped_by y.0) d) (λ j. (o_is j, e_is j)) c.close.ensures)
          (λ (ne : k ≢ n). i.closed k o e (omega arith) eo ee)
          (cases_eq k n));
    }

pub returns : goal.returns
returns c = λ k d h.
    let i = c.loop-client.invariant in
    let owners : List OneOwner = c.args.owners.items in
    let ends : List OneEnd = c.args.seats.ends.items in
    let long : length c.loop-client.owners.items ≡ length c.loop-client.clients.items = sym (length-map c.loop-client.owners.items own_id) ∙ (ap length i.owners ∙ length-map c.loop-client.clients.items words_id) in
    let none = c.in_default.ensures.cases.0 in
    let at_none = c.loop-client.clients.ok.0 in
    let many : length owners ≡ length ends = sym (length-map owners own_id) ∙ (ap length (c.requires.owners ∙ sym c.requires.seats) ∙ length-map ends look_end_id) in
    ⊎_elim
    (λ (near : k < length ends).
    let e = there ends k near in
    let o = there owners k (omega arith) in
    subst (λ (l : List ℕ). Contains l d) (sym (map_at dropped_by owners k o.0 [] o.1))
    (i.closed k o.0 e.0 (omega arith) o.1 e.1 d (subst (λ (l : List ℕ). Contains l d) (map_at seen_at ends k e.0 [] e.1) h)))
    (λ (past : length ends ≤ k).
    let empty : get_or (map seen_at ends) k [] ≡ [] = get_or_past (map seen_at ends) k [] (subst (λ (n : ℕ). n ≤ k) (sym (length-map ends seen_at)) past) in
    let h' : Contains [] d = subst (λ (l : List ℕ). Contains l d) empty h in
    let bad : h'.0 < 0 = h'.1 in
    absurd (omega arith))
    (cases_lt k (length ends))
