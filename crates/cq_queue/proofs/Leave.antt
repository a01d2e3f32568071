-- Entries that go, and files that are removed.
use Rattle.std.proofs.Common.{◌≡◌, ◌≢◌, ℕ, suc, ◌+◌, ◌*◌, ◌<◌, ◌≤◌, List, [], ◌∷◌, length, take, drop, Option, Some, None, Result, Ok, Err, OnOk, refl, sym, ap, ◌∙◌, subst, arith, length-drop}
use Rattle.std.specs.Prelude.{All, Contains, IsSome, slice_index}
use Rattle.std.proofs.lemmas.Bool.{false≢true}
use Rattle.std.proofs.lemmas.List.{drop-drop}
use Rattle.cq_disk.specs.declared.disk.Disk.{Ghosts}
use Rattle.cq_disk.specs.Run.{LeavesOnly}
use Rattle.cq_disk.specs.File.{File}
use Rattle.cq_disk.specs.Files.{BecomesOrNot, IsImageOf, IsThere, Removes}
use Rattle.cq_disk.specs.Moments.{then as after, weaken}
use Rattle.cq_gate.specs.declared.gate.Gate.{Gate}
use Rattle.cq_gate.specs.Calls.{Touches}
use Rattle.cq_gate.specs.Format.{content}
use Rattle.cq_gate.specs.Gated.{Step}
use Rattle.cq_gate.proofs.Gates.{end_is}
use Rattle.cq_gate.proofs.Contents.{content_range}
use Rattle.cq_entry.specs.declared.entry.Seen.{Seen}
use Rattle.cq_entry.specs.declared.entry.Seen.TheVariants.{Gone, Present}
use Rattle.cq_small.specs.Store.{small_name}
use Rattle.cq_index.specs.Codec.{entry_len}
use Rattle.cq_index.specs.Gone.{AreGone, StatusesOnly}
use Rattle.cq_index.specs.Opened.{piece_at}
use Rattle.cq_index.specs.Places.{IsIndexGate, index_name, entry_at}
use Rattle.cq_index.specs.declared.segment.Segment.{Segment}
use Rattle.cq_index.specs.Segments as index
use Rattle.cq_index.proofs.Known.{of_filed}
use Rattle.cq_journal.specs.declared.event.Message.{Message}
use Rattle.cq_folder.specs.Folder.{AreEntries, present, Sharing, folder_of}
use Rattle.cq_folder.specs.Holding.{StillHeld, AreAtPlaces, IsOver}
use Rattle.cq_folder.proofs.Names.{index_own}
use Rattle.cq_folder.proofs.KeptHeld.{keeps_held}
use Rattle.cq_folder.specs.Queue.{content_in, IsIndexAt}
use Rattle.cq_queue.specs.Files.{StaysHeld, StaysHeldOn, LosesHeld, LosesHeldOn}
use Rattle.cq_queue.proofs.Files.{apart}
use Rattle.cq_queue.proofs.Runs.{Tells, held_laws, contents_read}

-- no number stands in no list
no_number : (k : ℕ) → Contains [] k → ⊥
no_number k has = omega (arith, has.1)

nothing_present : (c : List ℕ) (seen : List Seen) → AreEntries c seen → ((k : ℕ) → entry_len * k + entry_len ≤ length c → slice_index (piece_at c k) 0 ≢ 1) → present seen ≡ []
nothing_present c [] are none = refl
nothing_present c (Gone ∷ seen) are none = nothing_present (drop entry_len c) seen are.2 (λ k inside one. none (suc k) (omega (arith, inside, are.0, length-drop entry_len c))
    ((let next : entry_len + entry_len * k ≡ entry_len * suc k = omega arith in ap (λ (n : ℕ). slice_index (take entry_len (drop n c)) 0) (sym next) ∙ ap (λ (l : List ℕ). slice_index (take entry_len l) 0) (sym (drop-drop (entry_len * k) entry_len c))) ∙ one))
nothing_present c (Present e ∷ seen) are none = absurd (none 0 (omega (arith, are.0)) are.1.0)

-- a segment without a present entry
pub none_listed : (segment : Segment) (slot : Option File) → IsIndexAt segment slot → index.present_of segment ≡ [] → IsOver (content_in slot)
none_listed segment slot at none = of_gate segment.gate refl
  where
    with_gate : (g : Gate) → IsIndexGate (index.name_of segment) segment.count g → (o : Option File) → IsThere o (index.Holds g segment.count segment.present.items) → IsOver (content_in o)
    with_gate g is None there seen are = absurd (false≢true there.is_some)
    with_gate g is (Some f) there seen are =
        let holds = there.has f refl in
        let long : length (content f.reads) ≡ entry_len * segment.count = (let e = end_is g f holds.is in let i = is.end_is in omega (arith, e, i)) in
        nothing_present (content f.reads) seen are (λ k inside one.
        let here : piece_at (content f.reads) k ≡ entry_at f.reads k = content_range g f holds.is (entry_len * k) entry_len inside in
        let lt : k < segment.count = omega (arith, inside, long) in
        no_number k (subst (λ (l : List ℕ). Contains l k) none ((holds.lists.listed k lt).1 (ap (λ (l : List ℕ). slice_index l 0) (sym here) ∙ one))))

    bare_over : IsOver []
    bare_over [] are = refl
    bare_over (s ∷ seen) are = let inside = are.0 in absurd (omega (arith, inside))

    of_gate : (o : Option Gate) → segment.gate ≡ o → IsOver (content_in slot)
    of_gate None is = subst (λ (o : Option File). IsOver (content_in o)) (sym (at.knows.absent is)) bare_over
    of_gate (Some g) is = with_gate g (segment.gated g is) slot ((of_filed segment slot at.knows).there g is)

-- a file that isn't there has no entry
pub over_after : (slot : Option File) → slot ≡ None → IsOver (content_in slot)
over_after slot none seen are = of_seen seen (ap content_in none) are
  where
    of_seen : (seen : List Seen) → content_in slot ≡ [] → AreEntries (content_in slot) seen → present seen ≡ []
    of_seen [] empty are = refl
    of_seen (s ∷ seen) empty are = let z : length (content_in slot) ≡ 0 = ap length empty in let inside = are.0 in absurd (omega (arith, z, inside))

-- a segment that lists one of some places is open
pub open_some : (segment : Segment) (at : List ℕ) → 0 < length at → All (Contains (index.present_of segment)) at → index.IsOpen segment
open_some segment [] some all = absurd (omega (arith, some))
open_some segment (k ∷ at) some all = of_gate segment.gate refl
  where
    of_gate : (o : Option Gate) → segment.gate ≡ o → IsSome o
    of_gate None none = absurd (no_number k (subst (λ (l : List ℕ). Contains l k) (segment.vacant none).1 (all 0 0 (omega arith))))
    of_gate (Some g) is = refl

-- two facts at Ok
pub on_both : {T E P Q R : Type 0} (result : Result T E) → (P → Q → R) → OnOk result P → OnOk result Q → OnOk result R
on_both (Ok v) step p q = step p q
on_both (Err e) step p q = tt

-- a file that is there leaves one, and one that isn't leaves none
no_image : (slot : Option File) (c : Option (List ℕ)) → IsSome slot → c ≡ None → IsImageOf slot c → ⊥
no_image None c some none image = false≢true some
no_image (Some f) None some none image = image
no_image (Some f) (Some b) some none image = some_none b none
  where
    some_none : (a : List ℕ) → Some a ≡ None → ⊥
    some_none a e = cc

none_image : (slot : Option File) (c : Option (List ℕ)) → slot ≡ None → IsImageOf slot c → c ≡ None
none_image slot None is image = refl
none_image slot (Some c) is image = absurd (subst (λ (o : Option File). IsImageOf o (Some c)) is image)

module _ {D : Type 0} (g : Ghosts D) (t : Tells g) where
  module _ (old new : D) (queue number : ℕ) (at ids : List ℕ) (places : AreAtPlaces (content_in (g.files old (index_name queue number))) at ids) (touches : Touches g (index_name queue number) old new (StatusesOnly 1 at)) where
    places_then : (sharing : Sharing) (lines : ℕ → List Message) (h : StillHeld (g.files old) sharing lines) → AreAtPlaces (h.contents (index_name queue number)) at ids
    places_then sharing lines h = subst (λ (c : List ℕ). AreAtPlaces c at ids) (sym (contents_read g t old (folder_of sharing h.contents) h.still (index_name queue number) (index_own queue number))) places

    pub gone_on : LosesHeldOn g old new queue ids
    gone_on sharing lines h = (held_laws g t).gone old new sharing lines queue number at ids h (places_then sharing lines h) touches.any_moment

    pub gone_held : Step (g.files old (index_name queue number)) (g.files new (index_name queue number)) (AreGone at) → LosesHeld (g.files old) (g.files new) queue ids
    gone_held gone sharing lines once h = keeps_held.gone (g.files old) (g.files new) sharing lines queue number at ids (t.readable old) (record { this = gone; others = touches.others }) once h (places_then sharing lines h)

  module _ (old new : D) (queue number : ℕ) (over : IsOver (content_in (g.files old (index_name queue number)))) where
    over_then : (sharing : Sharing) (lines : ℕ → List Message) (h : StillHeld (g.files old) sharing lines) → IsOver (h.contents (index_name queue number))
    over_then sharing lines h = subst IsOver (sym (contents_read g t old (folder_of sharing h.contents) h.still (index_name queue number) (index_own queue number))) over

    pub index_off : LeavesOnly g old new (Removes (index_name queue number) (g.files old)) → StaysHeldOn g old new
    index_off run sharing lines h = (held_laws g t).removed_index old new sharing lines queue number h (over_then sharing lines h) run

    pub index_gone : BecomesOrNot (index_name queue number) None (g.files old) (g.files new) → StaysHeld (g.files old) (g.files new)
    index_gone becomes sharing lines h = keeps_held.removed_index (g.files old) (g.files new) sharing lines queue number becomes h (over_then sharing lines h)

    pub small_off : LeavesOnly g old new (Removes (small_name queue number) (g.files old)) → StaysHeldOn g old new
    small_off run sharing lines h = (held_laws g t).removed_small old new sharing lines queue number h (over_then sharing lines h) run

    pub small_gone : BecomesOrNot (small_name queue number) None (g.files old) (g.files new) → StaysHeld (g.files old) (g.files new)
    small_gone becomes sharing lines h = keeps_held.removed_small (g.files old) (g.files new) sharing lines queue number becomes h (over_then sharing lines h)

  -- the index goes first
  module _ (old new : D) (queue number : ℕ) where
    pub index_first : IsSome (g.files old (small_name queue number)) → LeavesOnly g old new (Removes (index_name queue number) (g.files old)) → LeavesOnly g old new (λ image. image (small_name queue number) ≡ None → image (index_name queue number) ≡ None)
    index_first some run = weaken g.moment g.left g.files t.only old new (Removes (index_name queue number) (g.files old)) (λ image. image (small_name queue number) ≡ None → image (index_name queue number) ≡ None)
        (λ image removes none. absurd (no_image (g.files old (small_name queue number)) (image (small_name queue number)) some none (removes.others (small_name queue number) (λ same. apart queue number queue number (sym same))))) run

    pub small_last : g.files old (index_name queue number) ≡ None → LeavesOnly g old new (Removes (small_name queue number) (g.files old)) → LeavesOnly g old new (λ image. image (small_name queue number) ≡ None → image (index_name queue number) ≡ None)
    small_last gone run = weaken g.moment g.left g.files t.only old new (Removes (small_name queue number) (g.files old)) (λ image. image (small_name queue number) ≡ None → image (index_name queue number) ≡ None)
        (λ image removes none. none_image (g.files old (index_name queue number)) (image (index_name queue number)) gone (removes.others (index_name queue number) (apart queue number queue number))) run

  pub index_then : (old mid new : D) (queue number : ℕ) → LeavesOnly g old mid (λ image. image (small_name queue number) ≡ None → image (index_name queue number) ≡ None) → LeavesOnly g mid new (λ image. image (small_name queue number) ≡ None → image (index_name queue number) ≡ None)
      → LeavesOnly g old new (λ image. image (small_name queue number) ≡ None → image (index_name queue number) ≡ None)
  index_then old mid new queue number first second = after g.moment g.left g.files t.only old mid new (λ image. image (small_name queue number) ≡ None → image (index_name queue number) ≡ None) first second
