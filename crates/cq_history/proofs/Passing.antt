-- A message that is safe in one queue more: what is kept beside the journal is right again.
use Rattle.std.proofs.Common.{◌≡◌, ◌≢◌, ℕ, ◌-◌, ◌<◌, ◌≤◌, true, false, cond, List, ◌∷◌, refl, sym, ap, ◌∙◌, subst, arith, inl, inr}
use Rattle.std.specs.Prelude.{◌==◌, Option, None, Some, is_some}
use Rattle.std.specs.Ordering.{nat_cmp}
use Rattle.std.specs.FinMap.{FinMap, get, insert, remove}
use Rattle.std.proofs.lemmas.Bool.{or_left, or_right, or_from, both_ways, cases_eq, eq-eqb, ne_eqb, eqb-false, cond-true, cond-false}
use Rattle.cq_map.proofs.Totals.{get_put, get_without}
use Rattle.cq_journal.specs.declared.event.Event.TheVariants as event
use Rattle.cq_journal.specs.declared.event.Entry.{Entry}
use Rattle.cq_journal.specs.Legal.{newest, has, is_publish, is_confirmed_by, Legal}
use Rattle.cq_confirm.specs.declared.lack.Lack.{Lack}
use Rattle.cq_confirm.specs.Lacking.{passed, sure_of}
use Rattle.cq_core.specs.Ids.{Numbering}
use Rattle.cq_core.proofs.Found.{published-brings}
use Rattle.cq_client.specs.Client.{Account}
use Rattle.cq_history.specs.Kept.{IsHistory}
use Rattle.cq_history.specs.Steps.{confirmed_by}
use Rattle.cq_history.proofs.Steps.{not-first, ids-step, other-account}

pub kept-passed : {journal : List Entry} {accounts : ℕ → Account} {n : ℕ} {lacks : FinMap nat_cmp Lack} {ids : Numbering} (stamp x : ℕ) (o : Option Lack)
    → IsHistory journal accounts n lacks ids → newest journal ≤ stamp → get lacks x ≡ o
    → IsHistory (confirmed_by stamp x (sure_of o) journal) accounts n (passed lacks x o) ids
kept-passed {journal} {accounts} {n} {lacks} {ids} stamp x None h later at = h
kept-passed {journal} {accounts} {n} {lacks} {ids} stamp x (Some m) h later at =
    (elim (m.queues == 1) as (λ b. (m.queues == 1) ≡ b → IsHistory (confirmed_by stamp x (cond b (Some (record { client = m.client; number = m.number })) None) journal) accounts n (cond b (remove lacks x) (insert lacks x (record m { queues = m.queues - 1 }))) ids) [
      | true ↦ λ last. (
          let e : Entry = record { event = event.Confirmed m.client m.number x; stamp = stamp } in
          let o = h.owed x m at in
          let gets : (y : ℕ) → get (remove lacks x) y ≡ cond (y == x) None (get lacks y) = get_without lacks x in
          let legal : Legal (e ∷ journal) = (o, not-first journal _ h.some, later, h.legal) in
          record {
            legal = legal;
            some = omega arith;
            next_ids = (tt, h.next_ids);
            ids_are = ids-step e journal ids (λ y. refl) h.ids_are;
            each_lacks = λ y k there. (elim (y == x) as (λ b. cond b None (get lacks y) ≡ Some k → 0 < k.queues) [ true ↦ λ e. cc | false ↦ λ e. h.each_lacks y k e ]) (sym (gets y) ∙ there);
            owed = λ y k there. elim (cases_eq y x) [
              | inl here ↦ (let bad : None ≡ Some k = sym (gets y ∙ cond-true (y == x) None (get lacks y) (eq-eqb y x here)) ∙ there in cc)
              | inr other ↦ (
                  let old = h.owed y k (sym (gets y ∙ cond-false (y == x) None (get lacks y) (ne_eqb y x other)) ∙ there) in
                  (old.0, or_from _ _ (ne_eqb x y (λ z. other (sym z))) old.1))
            ];
            decided = λ c k y there. elim (cases_eq y x) [
              | inl here ↦ inl (or_left _ _ (eq-eqb x y (sym here)))
              | inr other ↦ elim (h.decided c k y there) [
                | inl done ↦ inl (or_right _ _ done)
                | inr waits ↦ inr (ap is_some (gets y ∙ cond-false (y == x) None (get lacks y) (ne_eqb y x other)) ∙ waits)
              ]
            ];
            unbrought = λ y none. or_from _ _ (ne_eqb x y (λ same. both_ways _ (published-brings m.client m.number y journal none) (subst (λ z. has (is_publish m.client m.number z) journal ≡ true) same o.0))) (h.unbrought y none);
            few = h.few;
            accounts_are = λ c below. other-account e journal c (accounts c) legal refl (h.accounts_are c below);
          })
      | false ↦ λ more. (
          let fewer : Lack = record m { queues = m.queues - 1 } in
          let gets : (y : ℕ) → get (insert lacks x fewer) y ≡ cond (y == x) (Some fewer) (get lacks y) = get_put lacks x fewer in
          let left : 0 < m.queues - 1 = (let some : 0 < m.queues = h.each_lacks x m at in let not_one : m.queues ≢ 1 = eqb-false m.queues 1 more in omega (arith, some, not_one)) in
          record {
            legal = h.legal;
            some = h.some;
            next_ids = h.next_ids;
            ids_are = h.ids_are;
            each_lacks = λ y k there. (elim (y == x) as (λ b. cond b (Some fewer) (get lacks y) ≡ Some k → 0 < k.queues) [
              | true ↦ λ e. (let same : fewer ≡ k = cc in subst (λ (z : Lack). 0 < z.queues) same left)
              | false ↦ λ e. h.each_lacks y k e
            ]) (sym (gets y) ∙ there);
            owed = λ y k there. elim (cases_eq y x) [
              | inl here ↦ (
                  let same : fewer ≡ k = (let found : Some fewer ≡ Some k = sym (gets y ∙ cond-true (y == x) (Some fewer) (get lacks y) (eq-eqb y x here)) ∙ there in cc) in
                  subst (λ (z : Lack). (has (is_publish z.client z.number y) journal ≡ true) × (has (is_confirmed_by y) journal ≡ false)) same (h.owed y m (ap (get lacks) here ∙ at)))
              | inr other ↦ h.owed y k (sym (gets y ∙ cond-false (y == x) (Some fewer) (get lacks y) (ne_eqb y x other)) ∙ there)
            ];
            decided = λ c k y there. elim (h.decided c k y there) [
              | inl done ↦ inl done
              | inr waits ↦ inr (ap is_some (gets y) ∙ (elim (y == x) as (λ b. is_some (cond b (Some fewer) (get lacks y)) ≡ true) [ true ↦ refl | false ↦ waits ]))
            ];
            unbrought = h.unbrought;
            few = h.few;
            accounts_are = h.accounts_are;
          })
    ]) refl
