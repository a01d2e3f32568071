-- The counts of opened lines, in the order of a map, are shown as the text has them.
use Rattle.std.proofs.Common.{◌≡◌, ℕ, suc, ◌≤◌, ◌+◌, true, false, cond, List, [], ◌∷◌, ◌++◌, length, map, take, refl, sym, ap, ◌∙◌, arith}
use Rattle.std.specs.Prelude.{◌==◌, None, Some, unwrap_or, slice_get}
use Rattle.std.specs.List.{flat_map}
use Rattle.std.specs.Ordering.{nat_cmp}
use Rattle.std.specs.Borrow.{Bor}
use Rattle.std.specs.Map.Iter.{deref_pair}
use Rattle.std.specs.BTreeMap.{BTreeMap, get, IsOrdered}
use Rattle.std.proofs.lemmas.Bool.{eqb-true, ne_eqb}
use Rattle.std.proofs.lemmas.List.{map-append}
use Rattle.std.proofs.lemmas.List.Concat.{flat_map_single}
use Rattle.cq_journal.specs.declared.event.Message.{Message}
use Rattle.cq_journal.specs.declared.lines.Line.{Line}
use Rattle.cq_journal.specs.History.{opened_in}
use Rattle.cq_print.specs.Text.{opened_line, opened_of, queues_end, opened_text}
use Rattle.cq_print.specs.Counts.{counted, CountsOne, HasCounts, counts_lines}
use Rattle.cq_print.proofs.Noted.{taken-next}
use Rattle.cq_print.proofs.Rising.{found, given, told-rising}

-- ---- one more line

length-push : (q : ℕ) (ls : List Line) (l : Line) → length (opened_in q (ls ++ l ∷ [])) ≡ cond (l.queue == q) (length (opened_in q ls) + 1) (length (opened_in q ls))
length-push q [] l =
    let m : Message = record { id = l.id; body = l.body } in
    elim (l.queue == q) as (λ b. length (cond b (m ∷ []) []) ≡ cond b 1 0) [ true ↦ refl | false ↦ refl ]
length-push q (k ∷ ks) l =
    elim (k.queue == q) as (λ b. length (cond b (record { id = k.id; body = k.body } ∷ opened_in q (ks ++ l ∷ [])) (opened_in q (ks ++ l ∷ [])))
    ≡ cond (l.queue == q) (length (cond b (record { id = k.id; body = k.body } ∷ opened_in q ks) (opened_in q ks)) + 1) (length (cond b (record { id = k.id; body = k.body } ∷ opened_in q ks) (opened_in q ks)))) [
      | true ↦ ap suc (length-push q ks l) ∙ (elim (l.queue == q) as (λ b. suc (cond b (length (opened_in q ks) + 1) (length (opened_in q ks))) ≡ cond b (suc (length (opened_in q ks)) + 1) (suc (length (opened_in q ks)))) [ true ↦ omega arith | false ↦ refl ])
      | false ↦ length-push q ks l
    ]

count-is : (n : ℕ) → unwrap_or (counted n) 0 ≡ n
count-is n = (elim (n == 0) as (λ b. (n == 0) ≡ b → unwrap_or (cond b None (Some n)) 0 ≡ n) [
  | true ↦ λ e. sym (eqb-true n 0 e)
  | false ↦ λ e. refl
]) refl

counted-more : (n : ℕ) → Some (unwrap_or (counted n) 0 + 1) ≡ counted (n + 1)
counted-more n = ap (λ k. Some (k + 1)) (count-is n) ∙ sym (ap (λ b. cond b None (Some (n + 1))) (ne_eqb (n + 1) 0 (λ e. omega (arith, e))))

pub counted-next : (q at next : ℕ) (lines : List Line) (l : Line) (old new : BTreeMap ℕ ℕ) → slice_get lines at ≡ Some l → next ≡ at + 1
    → HasCounts old (take at lines) → CountsOne old new l.queue → get nat_cmp new q ≡ counted (length (opened_in q (take next lines)))
counted-next q at next lines l old new h n had one =
    let before = length (opened_in q (take at lines)) in
    one q
    ∙ (elim (l.queue == q) as (λ b. (l.queue == q) ≡ b → cond b (Some (unwrap_or (get nat_cmp old l.queue) 0 + 1)) (get nat_cmp old q) ≡ counted (cond b (before + 1) before)) [
      | true ↦ λ e. ap (λ i. Some (unwrap_or (get nat_cmp old i) 0 + 1)) (eqb-true l.queue q e) ∙ ap (λ o. Some (unwrap_or o 0 + 1)) (had q) ∙ counted-more before
      | false ↦ λ e. had q
    ]) refl
    ∙ ap counted (sym (length-push q (take at lines) l))
    ∙ ap (λ ls. counted (length (opened_in q ls))) (sym (taken-next lines at l h))
    ∙ ap (λ i. counted (length (opened_in q (take i lines)))) (sym n)

-- ---- the text of the counts

pub counts_lines-push : (counts : List (Bor ℕ × Bor ℕ)) (count : Bor ℕ × Bor ℕ)
    → counts_lines (map deref_pair (counts ++ count ∷ [])) ≡ counts_lines (map deref_pair counts) ++ opened_line count.0.now count.1.now ∷ []
counts_lines-push counts count =
    ap counts_lines (map-append deref_pair counts (count ∷ []))
    ∙ map-append (λ c. opened_line c.0 c.1) (map deref_pair counts) ((count.0.now, count.1.now) ∷ [])

-- no queue from the end on stands in the lines
absent : (lines : List Line) (q : ℕ) → queues_end lines ≤ q → opened_in q lines ≡ []
absent [] q h = refl
absent (l ∷ ls) q h =
    ap (λ b. cond b (record { id = l.id; body = l.body } ∷ opened_in q ls) (opened_in q ls)) (ne_eqb l.queue q (λ e. omega (arith, e, h)))
    ∙ absent ls q (omega (arith, h))

one-line : (n count : ℕ) → flat_map (λ c. opened_line c.0 c.1 ∷ []) (found n (counted count)) ≡ cond (count == 0) [] (opened_line n count ∷ [])
one-line n count = elim (count == 0) as (λ b. flat_map (λ c. opened_line c.0 c.1 ∷ []) (found n (cond b None (Some count))) ≡ cond b [] (opened_line n count ∷ [])) [ true ↦ refl | false ↦ refl ]

pub opened-told : (lines : List Line) (counts : BTreeMap ℕ ℕ) → IsOrdered nat_cmp counts → HasCounts counts lines → counts_lines counts.entries ≡ opened_text lines (queues_end lines)
opened-told lines counts s h =
    let f : ℕ × ℕ → List (List ℕ) = λ c. opened_line c.0 c.1 ∷ [] in
    let one : (q : ℕ) → given f counts.entries q ≡ opened_of lines q = λ q. ap (λ o. flat_map f (found q o)) (h q) ∙ one-line q (length (opened_in q lines)) in
    sym (flat_map_single (λ (c : ℕ × ℕ). opened_line c.0 c.1) counts.entries)
    ∙ told-rising f (opened_text lines) counts.entries (queues_end lines) s refl
    (λ q. ap (λ xs. opened_text lines q ++ xs) (sym (one q)))
    (λ q l. one q ∙ ap (λ (ms : List Message). let count = length ms in cond (count == 0) [] (opened_line q count ∷ [])) (absent lines q l))
