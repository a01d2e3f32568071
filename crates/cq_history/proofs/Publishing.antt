-- A publish keeps what is kept in memory beside the journal.
use Rattle.std.proofs.Common.{◌≡◌, ℕ, ◌+◌, ◌<◌, ◌≤◌, true, false, cond, List, [], ◌∷◌, length, map, refl, sym, ap, ◌∙◌, subst, arith, inl, inr}
use Rattle.std.specs.Prelude.{◌==◌, ◌&&◌, Option, None, Some, is_some}
use Rattle.std.specs.Ordering.{nat_cmp}
use Rattle.std.specs.FinMap.{FinMap, get, insert}
use Rattle.std.proofs.lemmas.Bool.{false≢true, or_left, or_right, or_from, or_parts, or_cases, and_from, and_parts, both_ways, cases_eq, cases_order, eq-eqb, eqb-true, ne_eqb, cond-true, cond-false}
use Rattle.cq_bytes.specs.Numbers.{contains, AreQueues}
use Rattle.cq_map.proofs.Totals.{get_put}
use Rattle.cq_journal.specs.declared.event.Event.{Event}
use Rattle.cq_journal.specs.declared.event.Event.TheVariants as event
use Rattle.cq_journal.specs.declared.event.Entry.{Entry}
use Rattle.cq_journal.specs.declared.reply.Reply.TheVariants as reply
use Rattle.cq_journal.specs.Legal.{newest, brings, has, is_publish, is_confirmed_by, publish_count, published, Legal}
use Rattle.cq_journal.specs.Confirms.{AreConfirmed}
use Rattle.cq_journal_laws.proofs.Changed.{unacked-changes}
use Rattle.cq_confirm.specs.declared.lack.Lack.{Lack}
use Rattle.cq_core.specs.Core.{IsNextId}
use Rattle.cq_core.specs.Ids.{Numbering, IsLeastFree}
use Rattle.cq_core.proofs.Found.{published-brings}
use Rattle.cq_client.specs.Client.{Account}
use Rattle.cq_history.specs.Accounts.{after_publish}
use Rattle.cq_history.specs.History.{NoneLacks}
use Rattle.cq_history.specs.Kept.{open_of, HaveIds, IsHistory}
use Rattle.cq_history.specs.Steps.{noted}
use Rattle.cq_history.proofs.Steps.{not-first, accounts-step, replied}

-- a publish that takes the next id
ids-published : (e : Entry) (journal : List Entry) (ids next : Numbering)
    → ((x : ℕ) → brings x e.event ≡ (ids.next == x)) → next.taken ≡ ids.taken → IsLeastFree next.taken (ids.next + 1) next.next → next.given ≡ ids.given + 1
    → HaveIds journal ids → HaveIds (e ∷ journal) next
ids-published e journal ids next this same least one are = record {
  free = least.free;
  some = omega (arith, least.from_on);
  taken = λ x there. or_right _ _ (are.taken x (subst (λ l. contains l x ≡ true) same there));
  below = λ x some below. elim (cases_order x ids.next) [
    | inl here ↦ or_left _ _ (this x ∙ eq-eqb ids.next x (sym here))
    | inr (inl before) ↦ or_right _ _ (are.below x some before)
    | inr (inr behind) ↦ or_right _ _ (are.taken x (subst (λ l. contains l x ≡ true) same (least.least x (omega (arith, behind)) below)))
  ];
  above = λ x above free. or_from _ _ (this x ∙ ne_eqb ids.next x (λ e. omega (arith, e, above, least.from_on))) (are.above x (omega (arith, above, least.from_on)) (subst (λ l. contains l x ≡ false) same free));
  given = omega (arith, one, are.given);
}

-- ---- the next id

pub next-id : {journal : List Entry} {accounts : ℕ → Account} {n : ℕ} {lacks : FinMap nat_cmp Lack} {ids : Numbering} → IsHistory journal accounts n lacks ids → IsNextId journal ids.next
next-id {journal} {accounts} {n} {lacks} {ids} h = record { some = h.ids_are.some; new = h.ids_are.above ids.next (omega arith) h.ids_are.free; least = h.ids_are.below }

pub one-next : (journal : List Entry) (x y : ℕ) → IsNextId journal x → IsNextId journal y → x ≡ y
one-next journal x y a b = elim (cases_order x y) [
  | inl same ↦ same
  | inr (inl before) ↦ absurd (both_ways _ a.new (b.least x a.some before))
  | inr (inr behind) ↦ absurd (both_ways _ b.new (a.least y b.some behind))
]

pub fresh-lack : {journal : List Entry} {accounts : ℕ → Account} {n : ℕ} {lacks : FinMap nat_cmp Lack} {ids : Numbering} → IsHistory journal accounts n lacks ids → (x : ℕ) → has (brings x) journal ≡ false → get lacks x ≡ None
fresh-lack {journal} {accounts} {n} {lacks} {ids} h x new = by (get lacks x) refl
  where
    by : (o : Option Lack) → get lacks x ≡ o → o ≡ None
    by None e = refl
    by (Some l) e = absurd (both_ways _ (published-brings l.client l.number x journal new) (h.owed x l e).0)

-- ---- the step

pub legal-published : {journal : List Entry} {accounts : ℕ → Account} {n : ℕ} {lacks : FinMap nat_cmp Lack} {ids : Numbering} (c stamp : ℕ) (queues body : List ℕ)
    → IsHistory journal accounts n lacks ids → c < n → newest journal ≤ stamp → AreQueues queues → 0 < length queues
    → Legal (noted (event.Published c (accounts c).published ids.next queues body) stamp journal)
legal-published {journal} {accounts} {n} {lacks} {ids} c stamp queues body h near later are some =
    let next = next-id h in
    ((sym (h.accounts_are c near).published_is, next.new, (λ z. let p : 0 < ids.next = next.some in omega (arith, p, z)), some, are), not-first journal _ h.some, later, h.legal)

pub kept-published : {journal : List Entry} {accounts : ℕ → Account} {n : ℕ} {lacks : FinMap nat_cmp Lack} {ids : Numbering} (c stamp : ℕ) (queues body : List ℕ) (count : ℕ) (now : ℕ → Account) (next : Numbering)
    → IsHistory journal accounts n lacks ids → c < n → newest journal ≤ stamp → AreQueues queues → 0 < length queues
    → next.taken ≡ ids.taken → IsLeastFree next.taken (ids.next + 1) next.next → next.given ≡ ids.given + 1
    → count ≡ n → ((k : ℕ) → now k ≡ cond (c == k) (after_publish (accounts c)) (accounts k))
    → IsHistory (noted (event.Published c (accounts c).published ids.next queues body) stamp journal) now count (insert lacks ids.next (record { client = c; number = (accounts c).published; queues = length queues })) next
kept-published {journal} {accounts} {n} {lacks} {ids} c stamp queues body count now next h near later are some same least one long accounts_are =
    let id : ℕ = ids.next in
    let number : ℕ = (accounts c).published in
    let e : Entry = record { event = event.Published c number id queues body; stamp = stamp } in
    let l : Lack = record { client = c; number = number; queues = length queues } in
    let fresh = next-id h in
    let new : has (brings id) journal ≡ false = fresh.new in
    let legal : Legal (e ∷ journal) = legal-published c stamp queues body h near later are some in
    let k = h.accounts_are c near in
    let gets : (x : ℕ) → get (insert lacks id l) x ≡ cond (x == id) (Some l) (get lacks x) = get_put lacks id l in
    record {
      legal = legal;
      some = omega arith;
      next_ids = (fresh, h.next_ids);
      ids_are = ids-published e journal ids next (λ x. refl) same least one h.ids_are;
      each_lacks = λ x o there. (elim (x == id) as (λ b. cond b (Some l) (get lacks x) ≡ Some o → 0 < o.queues) [
        | true ↦ λ there. (let this : l ≡ o = cc in subst (λ (y : Lack). 0 < y.queues) this some)
        | false ↦ λ there. h.each_lacks x o there
      ]) (sym (gets x) ∙ there);
      owed = λ x o there. elim (cases_eq x id) [
        | inl here ↦ (
            let this : l ≡ o = (let found : Some l ≡ Some o = sym (gets x ∙ cond-true (x == id) (Some l) (get lacks x) (eq-eqb x id here)) ∙ there in cc) in
            subst (λ (y : Lack). (has (is_publish y.client y.number x) (e ∷ journal) ≡ true) × (has (is_confirmed_by x) (e ∷ journal) ≡ false)) this (
              or_left _ _ (and_from _ _ (and_from _ _ (eq-eqb c c refl) (eq-eqb number number refl)) (eq-eqb id x (sym here))),
              h.unbrought x (ap (λ y. has (brings y) journal) here ∙ new),
            ))
        | inr other ↦ (
            let old = h.owed x o (sym (gets x ∙ cond-false (x == id) (Some l) (get lacks x) (ne_eqb x id other)) ∙ there) in
            (or_right _ _ old.0, old.1))
      ];
      decided = λ a b x there. elim (or_cases _ _ there) [
        | inl now ↦ inr (ap is_some (gets x ∙ cond-true (x == id) (Some l) (get lacks x) (eq-eqb x id (sym (eqb-true id x (and_parts (c == a && number == b) (id == x) now).1)))))
        | inr before ↦ elim (h.decided a b x before) [
          | inl done ↦ inl done
          | inr waits ↦ inr (ap is_some (gets x) ∙ (elim (x == id) as (λ b. is_some (cond b (Some l) (get lacks x)) ≡ true) [ true ↦ refl | false ↦ waits ]))
        ]
      ];
      unbrought = λ x free. h.unbrought x (or_parts _ _ free).1;
      few = omega (arith, h.few, long);
      accounts_are = accounts-step e c (after_publish (accounts c)) count now h legal (λ q other. other)
          (record {
            opens_are = ap (map open_of) (unacked-changes journal e c legal) ∙ k.opens_are;
            below = k.below;
            published_is = ap (λ x. published journal c + x) (cond-true (c == c) 1 0 (eq-eqb c c refl)) ∙ ap (λ x. x + 1) k.published_is;
            delivered_is = omega (arith, k.delivered_is);
            replies_are = replied journal c (accounts c).replies (reply.Published number) (reply.Published number) refl k.replies_are;
          })
          long accounts_are;
    }

pub published-within : (journal : List Entry) (c : ℕ) → published journal c ≤ length journal
published-within [] c = omega arith
published-within (e ∷ past) c = omega (arith, published-within past c, one e.event)
  where
    one : (e : Event) → publish_count c e ≤ 1
    one (event.Published client number id queues body) = elim (client == c) as (λ b. cond b 1 0 ≤ 1) [ true ↦ omega arith | false ↦ omega arith ]
    one _ = omega arith

-- where nothing lacks a queue, every publish is confirmed
pub all-confirmed : {journal : List Entry} {accounts : ℕ → Account} {n : ℕ} {lacks : FinMap nat_cmp Lack} {ids : Numbering} → IsHistory journal accounts n lacks ids → NoneLacks lacks → AreConfirmed journal
all-confirmed {journal} {accounts} {n} {lacks} {ids} h none c k x there = elim (h.decided c k x there) [
  | inl done ↦ done
  | inr waits ↦ absurd (false≢true (sym (ap is_some (none x)) ∙ waits))
]
