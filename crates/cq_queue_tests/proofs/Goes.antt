-- What a queue's calls keep of one that tests call on.
use Rattle.std.proofs.Common.{◌≡◌, ℕ, ◌+◌, ◌-◌, ◌^◌, ◌≤◌, List, [], ◌∷◌, Option, Some, None, refl, sym, ap, ◌∙◌, subst}
use Rattle.std.specs.Prelude.{map, slice_get}
use Rattle.std.specs.List.{AllByRecursion}
use Rattle.std.proofs.lemmas.Bool.{false≢true}
use Rattle.std.specs.Prelude.{true, false}
use Rattle.cq_bytes.specs.Numbers.{contains}
use Rattle.cq_disk.specs.declared.name.Name.{Name}
use Rattle.cq_disk.specs.File.{File}
use Rattle.cq_entry.specs.declared.entry.EntryKind.TheVariants.{Small}
use Rattle.cq_items.specs.declared.item.First.{First}
use Rattle.cq_items.specs.Item.{Item}
use Rattle.cq_items.specs.Items.{first_of, undecided_items, waiting_items, waits}
use Rattle.cq_queue.specs.Lists.{AreBelow}
use Rattle.cq_queue.specs.Passing.{MaySkip}
use Rattle.cq_queue.specs.QueueCalls.{CanPass, CanRead}
use Rattle.cq_queue.specs.Values.{IsOnDisk, IsRunning, QueueValue, StaysOnDisk, empty_queue}
use Rattle.cq_queue.proofs.Trying.{below_up}
use Rattle.cq_queue_tests.specs.Goes.{GoesOn, IsFit}

pub goes_none : (v : QueueValue) → GoesOn v v
goes_none v = record { halted = refl; segments = refl; at = λ files at. at }

pub goes_more : (a b c : QueueValue) → GoesOn a b → GoesOn b c → GoesOn a c
goes_more a b c x y = record { halted = y.halted ∙ x.halted; segments = y.segments ∙ x.segments; at = λ files at. y.at files (x.at files at) }

-- a value that differs from another in its messages and its room alone
pub goes_as : (old new same : QueueValue) → new ≡ same → same.halted ≡ old.halted → same.segments ≡ old.segments → StaysOnDisk old new → GoesOn old new
goes_as old new same is halted segments at = record { halted = ap (λ (v : QueueValue). v.halted) is ∙ halted; segments = ap (λ (v : QueueValue). v.segments) is ∙ segments; at = at }

pub goes_reserved : (old new : QueueValue) → new ≡ record old { reserved = 1 } → GoesOn old new
goes_reserved old new is = goes_as old new (record old { reserved = 1 }) is refl refl (λ files at. subst (λ (v : QueueValue). IsOnDisk v files) (sym is) at)

pub fit_goes : (n : ℕ) (old new : QueueValue) (Told : Type 0) (files : Name → Option File) → IsFit n old Told files → GoesOn old new → IsFit n new Told files
fit_goes n old new Told files fit goes = record {
  running = goes.halted ∙ fit.running;
  numbers = subst (AreBelow n) (sym goes.segments) fit.numbers;
  at = λ told. goes.at files (fit.at told);
}

pub fit_up : (n m : ℕ) (v : QueueValue) (Told : Type 0) (files : Name → Option File) → n ≤ m → IsFit n v Told files → IsFit m v Told files
fit_up n m v Told files le fit = record { running = fit.running; numbers = below_up n m v.segments le fit.numbers; at = fit.at }

pub fit_empty : (queue most : ℕ) (v : QueueValue) (Told : Type 0) (files : Name → Option File) → v ≡ empty_queue queue most → (Told → (n : Name) → files n ≡ None) → IsFit 0 v Told files
fit_empty queue most v Told files is none = subst (λ (w : QueueValue). IsFit 0 w Told files) (sym is) (record {
  running = refl;
  numbers = tt;
  at = λ told. record { segments = record { each = tt; none = λ n other. (none told _, none told _) }; stands = tt };
})

skips_none : (is : List Item) → AllByRecursion (λ i. contains [] i.id ≡ true → waits i ≡ false) is
skips_none [] = tt
skips_none (i ∷ is) = ((λ e. absurd (false≢true e)), skips_none is)

-- a commit that skips nothing can be made
pub can_pass : (n : ℕ) (v : QueueValue) (Told : Type 0) (files : Name → Option File) → n ≤ 2 ^ 63 - 1 → IsFit n v Told files → CanPass v []
can_pass n v Told files le fit = record {
  running = fit.running;
  may_skip = skips_none (undecided_items v.items);
  numbers = below_up n (2 ^ 63 - 1) v.segments le fit.numbers;
}

none_some : {A : Type 0} (a : A) → None ≡ Some a → ⊥
none_some a e = cc

some_same : {A : Type 0} {a b : A} → Some a ≡ Some b → a ≡ b
some_same e = cc

reads_first : (v : QueueValue) (is : List Item) (first : First) (id len : ℕ) → waiting_items v.items ≡ is → IsRunning v → Some first ≡ slice_get (map first_of is) 0 → first.kind ≡ Small → first.id ≡ id → first.len ≡ len → CanRead v id len
reads_first v [] first id len are running here small named long = absurd (none_some first (sym here))
reads_first v (i ∷ is) first id len are running here small named long =
    let same : first ≡ first_of i = some_same here in
    record {
      running = running;
      first = i;
      is_first = ap (λ (l : List Item). slice_get l 0) are;
      small = ap (λ (f : First). f.kind) (sym same) ∙ small;
      is_id = ap (λ (f : First). f.id) (sym same) ∙ named;
      is_len = ap (λ (f : First). f.len) (sym same) ∙ long;
    }

-- the first message that waits can be read, where it is a small one
pub can_read : (v : QueueValue) (first : First) (id len : ℕ) → IsRunning v → Some first ≡ slice_get (map first_of (waiting_items v.items)) 0 → first.kind ≡ Small → first.id ≡ id → first.len ≡ len → CanRead v id len
can_read v first id len running is small named long = reads_first v (waiting_items v.items) first id len refl running is small named long
