-- The rows that are computed are those of the definition.
use Rattle.std.proofs.Common.{◌≡◌, ◌≢◌, ℕ, true, not, List, [], ◌∷◌, length, refl, inl, inr, sym, subst, arith}
use Rattle.std.specs.Prelude.{◌==◌, ◌&&◌, nat_lt}
use Rattle.std.specs.List.{list_all, AllByRecursion}
use Rattle.std.proofs.lemmas.Bool.{and_parts, and_from, or_cases, or_left, or_right, ltb-true, lt-ltb, eqb-true, eqb-false, eq-eqb, ne_eqb, not-true, not_from_false, cases_eq, both_ways}
use Rattle.std.specs.Str.{bytes_eq}
use Rattle.std.proofs.lemmas.Slice.Eq.{bytes_eq-Decides}
use Rattle.cq_bytes.specs.Numbers.{contains, AreQueues}
use Rattle.cq_journal.specs.declared.event.Event.{Event}
use Rattle.cq_journal.specs.declared.event.Event.TheVariants.{Opened, Published, Delivered, Empty, Busy, Acked, Unknown, Dropped, Ended, Confirmed, Settled}
use Rattle.cq_journal.specs.declared.event.Entry.{Entry}
use Rattle.cq_journal.specs.declared.lines.Line.{Line}
use Rattle.cq_journal.specs.declared.event.Message.{Message}
use Rattle.cq_journal.specs.History.{unacked, is_open, acked, settled, waiting}
use Rattle.cq_journal.specs.Legal.{published, delivered, has, brings, is_publish, is_confirmed_by, is_dropped_by, IsFirst, AreLines, Allowed, StartsWithOpened, newest, Legal}
use Rattle.cq_plain.specs.Table.{agree, are_lines, are_queues, is_nothing, is_first, starts, allows, may_follow, IsExact}

-- ---- the parts of the rows

abbrev Agree : Line → Line → Type 0
Agree l k = l.id ≡ k.id → (l.queue ≢ k.queue) × (l.body ≡ k.body)

agree-true : (l k : Line) → agree l k ≡ true → Agree l k
agree-true l k h e = elim (or_cases (not (l.id == k.id)) (not (l.queue == k.queue) && bytes_eq l.body k.body) h) [
  | inl n ↦ absurd (both_ways (l.id == k.id) (not-true (l.id == k.id) n) (eq-eqb l.id k.id e))
  | inr a ↦ (let p = and_parts (not (l.queue == k.queue)) (bytes_eq l.body k.body) a in (eqb-false l.queue k.queue (not-true (l.queue == k.queue) p.0), (bytes_eq-Decides l.body k.body).0 p.1))
]

true-agree : (l k : Line) → Agree l k → agree l k ≡ true
true-agree l k a = elim (cases_eq l.id k.id) [
  | inr n ↦ or_left (not (l.id == k.id)) (not (l.queue == k.queue) && bytes_eq l.body k.body) (not_from_false (l.id == k.id) (ne_eqb l.id k.id n))
  | inl e ↦ (
      let p = a e in
      or_right (not (l.id == k.id)) (not (l.queue == k.queue) && bytes_eq l.body k.body)
      (and_from (not (l.queue == k.queue)) (bytes_eq l.body k.body) (not_from_false (l.queue == k.queue) (ne_eqb l.queue k.queue p.0)) ((bytes_eq-Decides l.body k.body).1 p.1)))
]

all-agree : (l : Line) (ls : List Line) → list_all (agree l) ls ≡ true → AllByRecursion (Agree l) ls
all-agree l [] h = tt
all-agree l (k ∷ ks) h = let p = and_parts (agree l k) (list_all (agree l) ks) h in (agree-true l k p.0, all-agree l ks p.1)

agree-all : (l : Line) (ls : List Line) → AllByRecursion (Agree l) ls → list_all (agree l) ls ≡ true
agree-all l [] a = refl
agree-all l (k ∷ ks) a = and_from (agree l k) (list_all (agree l) ks) (true-agree l k a.0) (agree-all l ks a.1)

lines-true : (ls : List Line) → are_lines ls ≡ true → AreLines ls
lines-true [] h = tt
lines-true (l ∷ ls) h =
    let p = and_parts (list_all (agree l) ls) (are_lines ls && not (l.id == 0)) h in
    let r = and_parts (are_lines ls) (not (l.id == 0)) p.1 in
    (all-agree l ls p.0, lines-true ls r.0, eqb-false l.id 0 (not-true (l.id == 0) r.1))

true-lines : (ls : List Line) → AreLines ls → are_lines ls ≡ true
true-lines [] a = refl
true-lines (l ∷ ls) a = and_from (list_all (agree l) ls) (are_lines ls && not (l.id == 0)) (agree-all l ls a.0) (and_from (are_lines ls) (not (l.id == 0)) (true-lines ls a.1) (not_from_false (l.id == 0) (ne_eqb l.id 0 a.2)))

queues-true : (qs : List ℕ) → are_queues qs ≡ true → AreQueues qs
queues-true [] h = tt
queues-true (q ∷ qs) h =
    let p = and_parts (nat_lt q 256) (not (contains qs q) && are_queues qs) h in
    let r = and_parts (not (contains qs q)) (are_queues qs) p.1 in
    (ltb-true q 256 p.0, not-true (contains qs q) r.0, queues-true qs r.1)

pub true-queues : (qs : List ℕ) → AreQueues qs → are_queues qs ≡ true
true-queues [] a = refl
true-queues (q ∷ qs) a = and_from (nat_lt q 256) (not (contains qs q) && are_queues qs) (lt-ltb q 256 a.0) (and_from (not (contains qs q)) (are_queues qs) (not_from_false (contains qs q) a.1) (true-queues qs a.2))

nothing-true : {A : Type 0} → (xs : List A) → is_nothing xs ≡ true → xs ≡ []
nothing-true [] h = refl
nothing-true (x ∷ xs) h = cc

true-nothing : {A : Type 0} → (xs : List A) → xs ≡ [] → is_nothing xs ≡ true
true-nothing [] e = refl
true-nothing (x ∷ xs) e = cc

first-true : (id : ℕ) (ms : List Message) → is_first id ms ≡ true → IsFirst id ms
first-true id [] h = let n : ⊥ = cc in n
first-true id (m ∷ ms) h = eqb-true m.id id h

true-first : (id : ℕ) (ms : List Message) → IsFirst id ms → is_first id ms ≡ true
true-first id [] f = absurd f
true-first id (m ∷ ms) f = eq-eqb m.id id f

-- ---- the rows

pub allows-true : (past : List Entry) (e : Event) → allows past e ≡ true → Allowed past e
allows-true past (Opened lines) h = let p = and_parts (is_nothing past) (are_lines lines) h in (nothing-true past p.0, lines-true lines p.1)
allows-true past (Published c n id queues body) h =
    let p = and_parts (n == published past c) (not (has (brings id) past) && (not (id == 0) && (nat_lt 0 (length queues) && are_queues queues))) h in
    let r = and_parts (not (has (brings id) past)) (not (id == 0) && (nat_lt 0 (length queues) && are_queues queues)) p.1 in
    let s = and_parts (not (id == 0)) (nat_lt 0 (length queues) && are_queues queues) r.1 in
    let t = and_parts (nat_lt 0 (length queues)) (are_queues queues) s.1 in
    (eqb-true n (published past c) p.0, not-true (has (brings id) past) r.0, eqb-false id 0 (not-true (id == 0) s.0), ltb-true 0 (length queues) t.0, queues-true queues t.1)
allows-true past (Delivered c n q id) h =
    let p = and_parts (nat_lt (length (unacked past c)) 64) (is_first id (waiting past q) && n == delivered past c) h in
    let r = and_parts (is_first id (waiting past q)) (n == delivered past c) p.1 in
    (ltb-true (length (unacked past c)) 64 p.0, first-true id (waiting past q) r.0, eqb-true n (delivered past c) r.1)
allows-true past (Empty c q) h = let p = and_parts (nat_lt (length (unacked past c)) 64) (is_nothing (waiting past q)) h in (ltb-true (length (unacked past c)) 64 p.0, nothing-true (waiting past q) p.1)
allows-true past (Busy c q) h = eqb-true (length (unacked past c)) 64 h
allows-true past (Acked c n) h = h
allows-true past (Unknown c n) h = not-true (is_open past c n) h
allows-true past (Dropped c n) h = let p = and_parts (is_open past c n) (not (has (is_dropped_by c n) past)) h in (p.0, not-true (has (is_dropped_by c n) past) p.1)
allows-true past (Ended c) h = tt
allows-true past (Confirmed c n id) h = let p = and_parts (has (is_publish c n id) past) (not (has (is_confirmed_by id) past)) h in (p.0, not-true (has (is_confirmed_by id) past) p.1)
allows-true past (Settled q id) h = let p = and_parts (contains (acked past q) id) (not (contains (settled past q) id)) h in (p.0, not-true (contains (settled past q) id) p.1)

pub true-allows : (past : List Entry) (e : Event) → Allowed past e → allows past e ≡ true
true-allows past (Opened lines) a = and_from (is_nothing past) (are_lines lines) (true-nothing past a.0) (true-lines lines a.1)
true-allows past (Published c n id queues body) a =
    and_from (n == published past c) (not (has (brings id) past) && (not (id == 0) && (nat_lt 0 (length queues) && are_queues queues))) (eq-eqb n (published past c) a.0)
    (and_from (not (has (brings id) past)) (not (id == 0) && (nat_lt 0 (length queues) && are_queues queues)) (not_from_false (has (brings id) past) a.1)
    (and_from (not (id == 0)) (nat_lt 0 (length queues) && are_queues queues) (not_from_false (id == 0) (ne_eqb id 0 a.2))
    (and_from (nat_lt 0 (length queues)) (are_queues queues) (lt-ltb 0 (length queues) a.3) (true-queues queues a.4))))
true-allows past (Delivered c n q id) a =
    and_from (nat_lt (length (unacked past c)) 64) (is_first id (waiting past q) && n == delivered past c) (lt-ltb (length (unacked past c)) 64 a.0)
    (and_from (is_first id (waiting past q)) (n == delivered past c) (true-first id (waiting past q) a.1) (eq-eqb n (delivered past c) a.2))
true-allows past (Empty c q) a = and_from (nat_lt (length (unacked past c)) 64) (is_nothing (waiting past q)) (lt-ltb (length (unacked past c)) 64 a.0) (true-nothing (waiting past q) a.1)
true-allows past (Busy c q) a = eq-eqb (length (unacked past c)) 64 a
true-allows past (Acked c n) a = a
true-allows past (Unknown c n) a = not_from_false (is_open past c n) a
true-allows past (Dropped c n) a = and_from (is_open past c n) (not (has (is_dropped_by c n) past)) a.0 (not_from_false (has (is_dropped_by c n) past) a.1)
true-allows past (Ended c) a = refl
true-allows past (Confirmed c n id) a = and_from (has (is_publish c n id) past) (not (has (is_confirmed_by id) past)) a.0 (not_from_false (has (is_confirmed_by id) past) a.1)
true-allows past (Settled q id) a = and_from (contains (acked past q) id) (not (contains (settled past q) id)) a.0 (not_from_false (contains (settled past q) id) a.1)

starts-true : (past : List Entry) (e : Event) → starts past e ≡ true → StartsWithOpened past e
starts-true [] (Opened lines) h = tt
starts-true [] (Published c n id queues body) h = let n : ⊥ = cc in n
starts-true [] (Delivered c n q id) h = let n : ⊥ = cc in n
starts-true [] (Empty c q) h = let n : ⊥ = cc in n
starts-true [] (Busy c q) h = let n : ⊥ = cc in n
starts-true [] (Acked c n) h = let n : ⊥ = cc in n
starts-true [] (Unknown c n) h = let n : ⊥ = cc in n
starts-true [] (Dropped c n) h = let n : ⊥ = cc in n
starts-true [] (Ended c) h = let n : ⊥ = cc in n
starts-true [] (Confirmed c n id) h = let n : ⊥ = cc in n
starts-true [] (Settled q id) h = let n : ⊥ = cc in n
starts-true (x ∷ past) e h = tt

true-starts : (past : List Entry) (e : Event) → StartsWithOpened past e → starts past e ≡ true
true-starts [] (Opened lines) s = refl
true-starts [] (Published c n id queues body) s = absurd s
true-starts [] (Delivered c n q id) s = absurd s
true-starts [] (Empty c q) s = absurd s
true-starts [] (Busy c q) s = absurd s
true-starts [] (Acked c n) s = absurd s
true-starts [] (Unknown c n) s = absurd s
true-starts [] (Dropped c n) s = absurd s
true-starts [] (Ended c) s = absurd s
true-starts [] (Confirmed c n id) s = absurd s
true-starts [] (Settled q id) s = absurd s
true-starts (x ∷ past) e s = refl

pub exact : IsExact
exact past e = (
  λ h. (let p = and_parts (allows past e) (starts past e) h in (allows-true past e p.0, starts-true past e p.1)),
  λ a. and_from (allows past e) (starts past e) (true-allows past e a.0) (true-starts past e a.1),
)

-- with an event that may follow a history stays legal
pub legal-more : (past now : List Entry) (e : Event) → now ≡ record { event = e; stamp = 0 } ∷ past → may_follow past e ≡ true → Legal past × (newest past ≡ 0) → Legal now × (newest now ≡ 0)
legal-more past now e same h l =
    let a = (exact past e).0 h in
    subst (λ (entries : List Entry). Legal entries × (newest entries ≡ 0)) (sym same) ((a.0, a.1, omega (arith, l.1), l.0), refl)
