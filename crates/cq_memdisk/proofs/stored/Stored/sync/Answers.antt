use Rattle.std.proofs.Common.{◌≡◌, ℕ, List, [], ◌++◌, take, drop, reverse, length, refl, ◌∙◌, ap, subst, arith}
use Rattle.cq_memdisk.specs.Ranges.{Copied}
use Rattle.cq_memdisk.specs.Stored.{file_of}
use Rattle.cq_memdisk.proofs.Ranges.{sync_copied}
use Rattle.cq_memdisk.proofs.stored.Stored.sync.Goals as goal

pub returns : goal.returns
returns c =
    let s = c.args.self.now in
    let f = file_of s in
    let base : List ℕ = take s.least s.synced.items ++ drop s.least s.bytes.items in
    let joined : c.extend_from.new.to.items ≡ take s.least s.synced.items ++ drop s.least s.bytes.items = c.in_ok-extend_from.ensures ∙ ap (λ (l : List ℕ). take s.least s.synced.items ++ drop s.least l) c.deref.ensures.value in
    let raw : Copied c.deref-3.result.now s.least c.deref-2.result.now c.extend_from.new.to.items c.copy_ranges.new.to.items = c.copy_ranges.ensures in
    let copied : Copied s.written.items s.least s.bytes.items (take s.least s.synced.items ++ drop s.least s.bytes.items) c.copy_ranges.new.to.items =
    subst (λ (l : List (ℕ × ℕ)). Copied l s.least s.bytes.items (take s.least s.synced.items ++ drop s.least s.bytes.items) c.copy_ranges.new.to.items) c.deref-3.ensures.value
    (subst (λ (l : List ℕ). Copied c.deref-3.result.now s.least l (take s.least s.synced.items ++ drop s.least s.bytes.items) c.copy_ranges.new.to.items) c.deref-2.ensures.value
    (subst (λ (l : List ℕ). Copied c.deref-3.result.now s.least c.deref-2.result.now l c.copy_ranges.new.to.items) joined raw)) in
    let synced : c.copy_ranges.new.to.items ≡ s.bytes.items = sync_copied f s.written.items refl c.requires c.copy_ranges.new.to.items copied in
    let none : reverse c.new.result.items ≡ [] = ap (λ (l : List (ℕ × ℕ)). reverse l) c.new.ensures.items in
    let len : c.len.result ≡ length s.bytes.items = omega arith in
    let len' : c.len-2.result ≡ length s.bytes.items = omega arith in
    λ i. record { reads = s.bytes.items; synced = synced i; written = none i; least = len i; most = len' i }
