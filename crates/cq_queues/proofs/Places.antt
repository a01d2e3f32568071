-- One core of a list has changed.
use Rattle.std.proofs.Common.{◌≡◌, ℕ, zero, suc, ◌+◌, ◌<◌, List, [], ◌∷◌, ◌++◌, length, set, get_or, Option, refl, sym, ap, ◌∙◌, subst, arith, inl, inr}
use Rattle.std.specs.Prelude.{slice_get, Result, Ok, Err, IfOk, OnOk, OnErr}
use Rattle.std.proofs.lemmas.Bool.{cases_eq}
use Rattle.cq_disk.specs.declared.name.Name.{Name}
use Rattle.cq_disk.specs.File.{File}
use Rattle.cq_queue.specs.declared.queue.QueueCore.{QueueCore}
use Rattle.cq_queue.specs.Tied.{OtherFilesStay}
use Rattle.cq_queue.specs.Values.{QueueValue, IsOnDisk, IsRunning, IsSameNumber, StaysOnDisk, empty_queue, value_of}
use Rattle.cq_queues.specs.Values.{AreOwn, IsOwn, value_in}
use Rattle.cq_queues.specs.Changes.{AreOnDisk, AreReserved, HasNoQueueFiles, OthersStay, StayOnDisk}
use Rattle.cq_queues.proofs.Elsewhere.{SegmentsAre, own_at, stays_elsewhere}

-- it stands at its place, and the others as they were
pub here : (cores : List QueueCore) (q : ℕ) (x : QueueCore) → q < length cores → value_in (set cores q x) q ≡ value_of x
here [] q x l = absurd (omega (arith, l))
here (c ∷ cs) zero x l = refl
here (c ∷ cs) (suc q) x l = here cs q x (omega (arith, l))

pub there : (cores : List QueueCore) (q : ℕ) (x : QueueCore) → OthersStay q (value_in cores) (value_in (set cores q x))
there [] q x r other = refl
there (c ∷ cs) zero x zero other = absurd (other refl)
there (c ∷ cs) zero x (suc r) other = refl
there (c ∷ cs) (suc q) x zero other = refl
there (c ∷ cs) (suc q) x (suc r) other = there cs q x r (λ same. other (ap suc same))

-- the core at a place
pub at_place : (cores : List QueueCore) (q : ℕ) (d : QueueCore) → q < length cores → value_in cores q ≡ value_of (get_or cores q d)
at_place [] q d l = absurd (omega (arith, l))
at_place (c ∷ cs) zero d l = refl
at_place (c ∷ cs) (suc q) d l = at_place cs q d (omega (arith, l))

-- each segment of a queue is of its number
pub own_segments : (cores : List QueueCore) (q : ℕ) → SegmentsAre (value_in cores q)
own_segments cores q = own_at (slice_get cores q)

module _ (cores : List QueueCore) (q : ℕ) (old new : QueueCore) (near : q < length cores) (is : old ≡ get_or cores q old) where
  pub old_is : value_of old ≡ value_in cores q
  old_is = ap value_of is ∙ sym (at_place cores q old near)

  pub new_is : value_of new ≡ value_in (set cores q new) q
  new_is = sym (here cores q new near)

  -- what is said of the queue alone is said of its place
  pub both : (P : QueueValue → QueueValue → Type 0) → P (value_of old) (value_of new) → P (value_in cores q) (value_in (set cores q new) q)
  both P p = subst (λ (v : QueueValue). P v (value_in (set cores q new) q)) old_is (subst (P (value_of old)) new_is p)

  pub before : (P : QueueValue → Type 0) → P (value_of old) → P (value_in cores q)
  before P p = subst P old_is p

  pub asked : (P : QueueValue → Type 0) → P (value_in cores q) → P (value_of old)
  asked P p = subst P (sym old_is) p

  -- what each queue keeps that stays, and this one
  pub each : (P : QueueValue → QueueValue → Type 0) → ((v : QueueValue) → P v v) → P (value_of old) (value_of new) → (r : ℕ) → P (value_in cores r) (value_in (set cores q new) r)
  each P same p r = elim (cases_eq r q) [
    | inl e ↦ subst (λ (k : ℕ). P (value_in cores k) (value_in (set cores q new) k)) (sym e) (both P p)
    | inr other ↦ subst (P (value_in cores r)) (sym (there cores q new r other)) (same (value_in cores r))
  ]

  pub all_own : (most : ℕ) → AreOwn most (value_in cores) → IsSameNumber (value_of old) (value_of new) → AreOwn most (value_in (set cores q new))
  all_own most own same r l = elim (cases_eq r q) [
    | inl e ↦ subst (λ (k : ℕ). IsOwn most k (value_in (set cores q new) k)) (sym e) (both (λ v w. IsOwn most q w) (let o : IsOwn most q (value_of old) = asked (IsOwn most q) (own q (subst (λ (k : ℕ). k < 256) e l)) in record { number = same.queue ∙ o.number; most_is = same.most ∙ o.most_is }))
    | inr other ↦ subst (IsOwn most r) (sym (there cores q new r other)) (own r l)
  ]

  pub all_stay : StaysOnDisk (value_of old) (value_of new) → StayOnDisk (value_in cores) (value_in (set cores q new))
  all_stay stays r = elim (cases_eq r q) [
    | inl e ↦ subst (λ (k : ℕ). StaysOnDisk (value_in cores k) (value_in (set cores q new) k)) (sym e) (both StaysOnDisk stays)
    | inr other ↦ subst (StaysOnDisk (value_in cores r)) (sym (there cores q new r other)) (λ files at. at)
  ]

  -- the files of all are as their own calls left them, where a call on one of them leaves it so, and the files of the others as they are
  pub all_at : (most : ℕ) (files now : Name → Option File) → q < 256 → AreOwn most (value_in cores) → AreOnDisk (value_in cores) files
      → OtherFilesStay (value_in cores q).queue files now → (IsRunning (value_of new) → IsOnDisk (value_of new) now)
      → AreOnDisk (value_in (set cores q new)) now
  all_at most files now few own at stay mine r l = elim (cases_eq r q) [
    | inl e ↦ subst (λ (k : ℕ). IsRunning (value_in (set cores q new) k) → IsOnDisk (value_in (set cores q new) k) now) (sym e) (both (λ v w. IsRunning w → IsOnDisk w now) mine)
    | inr other ↦ subst (λ (v : QueueValue). IsRunning v → IsOnDisk v now) (sym (there cores q new r other)) (λ running.
        stays_elsewhere (value_in cores q).queue (value_in cores r) files now (λ same. other (sym (own r l).number ∙ same ∙ (own q few).number)) (own_segments cores r) stay (at r l running))
  ]

-- one more core at the end
pub pushed : (cores : List QueueCore) (x : QueueCore) (r : ℕ) → r < length cores → value_in (cores ++ x ∷ []) r ≡ value_in cores r
pushed [] x r l = absurd (omega (arith, l))
pushed (c ∷ cs) x zero l = refl
pushed (c ∷ cs) x (suc r) l = pushed cs x r (omega (arith, l))

pub pushed_last : (cores : List QueueCore) (x : QueueCore) → value_in (cores ++ x ∷ []) (length cores) ≡ value_of x
pushed_last [] x = refl
pushed_last (c ∷ cs) x = pushed_last cs x

-- so many queues without messages, and one more
pub vacant_more : (most n : ℕ) (cores : List QueueCore) (x : QueueCore) → length cores ≡ n → ((r : ℕ) → r < n → value_in cores r ≡ empty_queue r most)
    → value_of x ≡ empty_queue n most → (r : ℕ) → r < n + 1 → value_in (cores ++ x ∷ []) r ≡ empty_queue r most
vacant_more most n cores x count are is r l = elim (cases_eq r n) [
  | inl e ↦ subst (λ (k : ℕ). value_in (cores ++ x ∷ []) k ≡ empty_queue k most) (sym e) (subst (λ (k : ℕ). value_in (cores ++ x ∷ []) k ≡ empty_queue n most) count (pushed_last cores x ∙ is))
  | inr other ↦ let low : r < n = omega (arith, l, other) in pushed cores x r (omega (arith, low, count)) ∙ are r low
]

pub vacant_own : (most : ℕ) (cores : List QueueCore) → ((r : ℕ) → r < 256 → value_in cores r ≡ empty_queue r most) → AreOwn most (value_in cores)
vacant_own most cores are r l = record { number = ap (λ (v : QueueValue). v.queue) (are r l); most_is = ap (λ (v : QueueValue). v.most) (are r l) }

-- room stays, whether or not there was memory for more
pub room_kept : {A E : Type 0} (result : Result A E) (v w : QueueValue) → OnOk result (w ≡ record v { reserved = 1 }) → OnErr result (w ≡ v) → 0 < v.reserved → 0 < w.reserved
room_kept (Ok x) v w ok err some = subst (λ (u : QueueValue). 0 < u.reserved) (sym ok) (omega arith)
room_kept (Err x) v w ok err some = subst (λ (u : QueueValue). 0 < u.reserved) (sym err) some

pub room_only : {A E : Type 0} (result : Result A E) (v w : QueueValue) → OnOk result (w ≡ record v { reserved = 1 }) → OnErr result (w ≡ v) → w ≡ record v { reserved = w.reserved }
room_only (Ok x) v w ok err = ok ∙ ap (λ (n : ℕ). record v { reserved = n }) (sym (ap (λ (u : QueueValue). u.reserved) ok))
room_only (Err x) v w ok err = err ∙ ap (λ (n : ℕ). record v { reserved = n }) (sym (ap (λ (u : QueueValue). u.reserved) err))

pub room_there : {A E : Type 0} (result : Result A E) (v w : QueueValue) (q : ℕ) → OnOk result (w ≡ record v { reserved = 1 }) → OnOk result (AreReserved (λ r. w) (q ∷ []))
room_there (Ok x) v w q ok = (subst (λ (u : QueueValue). 0 < u.reserved) (sym ok) (omega arith), tt)
room_there (Err x) v w q ok = tt

pub of_ok : {A E : Type 0} (result : Result A E) (P Q : A → Type 0) → ((x : A) → P x → Q x) → IfOk result P → IfOk result Q
of_ok (Ok x) P Q more is = more x is
of_ok (Err x) P Q more is = tt

-- queues without messages need no file
pub vacant_at : (most : ℕ) (queues : ℕ → QueueValue) → ((q : ℕ) → q < 256 → queues q ≡ empty_queue q most) → (files : Name → Option File) → HasNoQueueFiles files → AreOnDisk queues files
vacant_at most queues empty files none q l running = subst (λ (v : QueueValue). IsOnDisk v files) (sym (empty q l)) (record { segments = record { each = tt; none = λ n lacks. none q n }; stands = tt })
