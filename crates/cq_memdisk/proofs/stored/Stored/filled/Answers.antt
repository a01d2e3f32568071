use Rattle.std.proofs.Common.{ℕ, List, get_or, refl, ◌∙◌, ap, subst, arith}
use Rattle.cq_memdisk.specs.Ranges.{Copied}
use Rattle.cq_memdisk.specs.Stored.{file_of}
use Rattle.cq_memdisk.proofs.Ranges.{fill_copied}
use Rattle.cq_memdisk.proofs.stored.Stored.filled.Goals as goal

pub returns : goal.returns
returns c =
    let s = c.args.self.now in
    let f = file_of s in
    let start = c.in_ok-bytes.bytes.items in
    let blank = c.in_ok-blank.blank.items in
    let raw : Copied c.deref-3.result.now s.least c.deref-2.result.now start c.copy_ranges.new.to.items = c.copy_ranges.ensures in
    let copied : Copied s.written.items s.least blank start c.copy_ranges.new.to.items =
    subst (λ (l : List (ℕ × ℕ)). Copied l s.least blank start c.copy_ranges.new.to.items) c.deref-3.ensures.value
    (subst (λ (l : List ℕ). Copied c.deref-3.result.now s.least l start c.copy_ranges.new.to.items) c.deref-2.ensures.value raw) in
    let front = c.in_ok-bytes.ensures in
    let all = c.in_ok-blank.ensures in
    fill_copied f s.written.items refl c.requires c.args.byte blank start c.copy_ranges.new.to.items (λ i lt. all.high i (omega arith) lt) front.len_is
    (λ i lt. front.low i lt ∙ ap (λ (l : List ℕ). get_or l i 0) c.deref.ensures.value) front.high copied
