use Rattle.std.proofs.Common.{◌≡◌, ◌<◌, ◌+◌, ◌∙◌, ℕ, Bool, List, [], length, Option, Some, None, true, false, refl, sym, ap, subst, arith}
use Rattle.std.specs.Prelude.{if◌then◌else◌, nat_lt, slice_get}
use Rattle.std.proofs.lemmas.Option.{slice_get_read}
use Rattle.cq_queue.specs.QueueSegment.{is_over, present_of}
use Rattle.cq_queue.specs.Lists.{empty_numbers}
use Rattle.cq_queue.specs.declared.segment.QueueSegment.{QueueSegment}
use Rattle.cq_queue.proofs.Changes.{some_same}
use Rattle.cq_queue.proofs.Emptied.{lowest_found, lowest_over, none_long, none_over}
use Rattle.cq_queue.proofs.Goes.{found_within, number_at}
use Rattle.cq_queue.proofs.Over.{over_empty}
use Rattle.cq_queue.proofs.segments.Segments.finished.Goals as goal

pub returns-in_err-lowest-clause-first : goal.returns-in_err-lowest-clause-first
returns-in_err-lowest-clause-first c = let s = c.args.self.now in
    c.from_residual.ensures ∙ none_over s.most s.list.items (sym s.empty_are ∙ none_long s.empty.items c.in_err-lowest.ensures.item.3)

pub returns-in_err-index-clause-first : goal.returns-in_err-index-clause-first
returns-in_err-index-clause-first c = let s = c.args.self.now in
    let n = c.in_ok-lowest.lowest.now in
    let first : slice_get (empty_numbers s.list.items) 0 ≡ Some n = ap (λ (l : List ℕ). slice_get l 0) (sym s.empty_are) ∙ slice_get_read s.empty.items (length s.empty.items) 0 n refl c.in_ok-lowest.ensures.item.3.0 c.in_ok-lowest.ensures.lookup in
    absurd (lowest_found s.list.items n first (sym c.in_err-index.ensures))

pub returns-then-is_over-clause-first : goal.returns-then-is_over-clause-first
returns-then-is_over-clause-first c = let s = c.args.self.now in
    let ps = s.list.items in
    let n = c.in_ok-lowest.lowest.now in
    let i = c.in_ok-index.index in
    let x = c.index.result.now in
    let first : slice_get (empty_numbers ps) 0 ≡ Some n = ap (λ (l : List ℕ). slice_get l 0) (sym s.empty_are) ∙ slice_get_read s.empty.items (length s.empty.items) 0 n refl c.in_ok-lowest.ensures.item.3.0 c.in_ok-lowest.ensures.lookup in
    let is : slice_get ps i ≡ Some x = slice_get_read ps (length ps) i x refl (found_within ps n i (sym c.in_ok-index.ensures)) c.index.ensures in
    let long : length ps ≡ c.len.result = omega (arith, c.len.ensures) in
    let over : is_over (nat_lt (i + 1) (length ps)) s.most x ≡ true = ap (λ (k : ℕ). is_over (nat_lt (i + 1) k) s.most x) long ∙ sym c.is_over.ensures ∙ c.if-is_over.true in
    sym (lowest_over s.most ps n i x s.are.1 first is (number_at ps n i x (sym c.in_ok-index.ensures) is) ∙ ap (λ (b : Bool). if b then Some i else None) over)

pub returns-then-is_over-clause-over : goal.returns-then-is_over-clause-over
returns-then-is_over-clause-over c = let s = c.args.self.now in
    let ps = s.list.items in
    let i = c.in_ok-index.index in
    let x = c.index.result.now in
    let within : i < length ps = found_within ps c.in_ok-lowest.lowest.now i (sym c.in_ok-index.ensures) in
    let is : slice_get ps i ≡ Some x = slice_get_read ps (length ps) i x refl within c.index.ensures in
    record {
      within = within;
      over = λ p at. subst (λ (r : QueueSegment). present_of r ≡ []) (some_same x p (sym is ∙ at)) (over_empty (nat_lt (i + 1) c.len.result) s.most x (sym c.is_over.ensures ∙ c.if-is_over.true));
    }

pub returns-else-is_over-clause-first : goal.returns-else-is_over-clause-first
returns-else-is_over-clause-first c = let s = c.args.self.now in
    let ps = s.list.items in
    let n = c.in_ok-lowest.lowest.now in
    let i = c.in_ok-index.index in
    let x = c.index.result.now in
    let first : slice_get (empty_numbers ps) 0 ≡ Some n = ap (λ (l : List ℕ). slice_get l 0) (sym s.empty_are) ∙ slice_get_read s.empty.items (length s.empty.items) 0 n refl c.in_ok-lowest.ensures.item.3.0 c.in_ok-lowest.ensures.lookup in
    let is : slice_get ps i ≡ Some x = slice_get_read ps (length ps) i x refl (found_within ps n i (sym c.in_ok-index.ensures)) c.index.ensures in
    let long : length ps ≡ c.len.result = omega (arith, c.len.ensures) in
    let over : is_over (nat_lt (i + 1) (length ps)) s.most x ≡ false = ap (λ (k : ℕ). is_over (nat_lt (i + 1) k) s.most x) long ∙ sym c.is_over.ensures ∙ c.if-is_over.false in
    sym (lowest_over s.most ps n i x s.are.1 first is (number_at ps n i x (sym c.in_ok-index.ensures) is) ∙ ap (λ (b : Bool). if b then Some i else None) over)
