-- The files of a queue whose entries were all read are sound.
use Rattle.std.proofs.Common.{◌≡◌, ◌∙◌, ℕ, ◌≤◌, false, List, [], ◌∷◌, Option, Some, None, refl, sym, ap, subst, ⊎_elim, arith}
use Rattle.std.specs.Prelude.{◌==◌, ◌||◌, IfSome}
use Rattle.std.specs.List.{AllByRecursion, AllZip}
use Rattle.std.proofs.lemmas.Bool.{cases_Bool}
use Rattle.cq_bytes.specs.Numbers.{contains}
use Rattle.cq_disk.specs.declared.name.Name.{Name}
use Rattle.cq_disk.specs.Call.{Image}
use Rattle.cq_disk.specs.File.{File, IsFileImage}
use Rattle.cq_small.specs.Record.{StandsIn}
use Rattle.cq_small.specs.Store.{small_name}
use Rattle.cq_index.specs.Places.{index_name}
use Rattle.cq_index.specs.declared.segment.Segment.{Segment}
use Rattle.cq_journal.specs.declared.event.Message.{Message}
use Rattle.cq_journal.specs.History.{has_id}
use Rattle.cq_journal.specs.Lists.{HasDistinctIds}
use Rattle.cq_folder.specs.Folder.{IsMessageOf, Sharing, Spot, below, folder_of, present, spots}
use Rattle.cq_folder.specs.Held.{as_read, bytes_in, content_of, contents_of}
use Rattle.cq_folder.specs.Queue.{AreIndexes, has_number, indexes_of}
use Rattle.cq_back_q.specs.declared.found.HeldEntry.{HeldEntry}
use Rattle.cq_back_q.specs.declared.found.FoundQueue.{FoundQueue}
use Rattle.cq_back_q.specs.Sound.{AreFound, IsFound, IsHeldAt, QueueSoundBy}
use Rattle.cq_back_q.specs.Found.{AreTaken, HasDistinct, IsBodyOf, ids_of}
use Rattle.cq_back_q.specs.Read.{AreReadIndexes, AreReadStores, HaveStood, IsSoundOf, StandsAs}
use Rattle.cq_back_q.proofs.Listing.{IsOwn, seen_in, spots_of}
use Rattle.cq_back_q.proofs.Gathering.{gathered, held_in, none_past, past}
use Rattle.cq_back_q.proofs.Indexes.{IsSound, all_known, all_sound, at_number, none_sound}

-- ---- messages of entries

module _ (queue : ℕ) (image : Image) where
  all_own : (held : List HeldEntry) (bodies : List (Option (List ℕ))) → AllZip (IsBodyOf queue) held bodies → HaveStood image held bodies → AllByRecursion (IsOwn queue image) held
  all_own [] [] fit stood = tt
  all_own [] (body ∷ bodies) fit stood = absurd fit
  all_own (h ∷ held) [] fit stood = absurd fit
  all_own (h ∷ held) (body ∷ bodies) fit stood = (record { of_queue = fit.0.of_queue; at = stood.0.at }, all_own held bodies fit.1 stood.1)

  all_stand : (held : List HeldEntry) (bodies : List (Option (List ℕ))) → HaveStood image held bodies → AllByRecursion (IsHeldAt image) held
  all_stand [] [] stood = tt
  all_stand [] (body ∷ bodies) stood = absurd stood
  all_stand (h ∷ held) [] stood = absurd stood
  all_stand (h ∷ held) (body ∷ bodies) stood = (stood.0.at, all_stand held bodies stood.1)

  module _ (sharing : Sharing) where
    its_message : (h : HeldEntry) (body : Option (List ℕ)) (m : Message) → IsBodyOf queue h body → StandsAs image h body → IsFound sharing h body m
        → IsMessageOf (folder_of sharing (contents_of image)) queue (record { segment = h.segment; entry = h.entry }) m
    its_message h body m fits stood found = record {
      id = found.id;
      len = found.len;
      kind = found.kind;
      stands = λ is_small.
          let there = subst (λ (o : Option (List ℕ)). IfSome o (λ b. StandsIn (contents_of image (small_name h.queue h.segment)) h.entry.place b)) (found.small is_small) (stood.small is_small) in
          subst (λ (q : ℕ). StandsIn (contents_of image (small_name q h.segment)) h.entry.place m.body) fits.of_queue there;
      shelved = found.shelved;
    }

    messages_of : (held : List HeldEntry) (bodies : List (Option (List ℕ))) (ms : List Message) → AllZip (IsBodyOf queue) held bodies → HaveStood image held bodies → AreFound sharing held bodies ms
        → AllZip (IsMessageOf (folder_of sharing (contents_of image)) queue) (spots_of held) ms
    messages_of [] [] [] fit stood found = tt
    messages_of [] [] (m ∷ ms) fit stood found = absurd found
    messages_of [] (body ∷ bodies) ms fit stood found = absurd fit
    messages_of (h ∷ held) [] ms fit stood found = absurd fit
    messages_of (h ∷ held) (body ∷ bodies) [] fit stood found = absurd found
    messages_of (h ∷ held) (body ∷ bodies) (m ∷ ms) fit stood found = (its_message h body m fit.0 stood.0 found.0, messages_of held bodies ms fit.1 stood.1 found.1)

-- ---- ids

same_ids : (sharing : Sharing) (held : List HeldEntry) (bodies : List (Option (List ℕ))) (ms : List Message) → AreFound sharing held bodies ms → (id : ℕ) → has_id ms id ≡ contains (ids_of held) id
same_ids sharing [] [] [] found id = refl
same_ids sharing [] [] (m ∷ ms) found id = absurd found
same_ids sharing [] (body ∷ bodies) ms found id = absurd found
same_ids sharing (h ∷ held) [] ms found id = absurd found
same_ids sharing (h ∷ held) (body ∷ bodies) [] found id = absurd found
same_ids sharing (h ∷ held) (body ∷ bodies) (m ∷ ms) found id =
    let here = found.0.id in
    let rest = same_ids sharing held bodies ms found.1 id in
    λ i. (here i == id) || rest i

distinct_ids : (sharing : Sharing) (held : List HeldEntry) (bodies : List (Option (List ℕ))) (ms : List Message) → AreFound sharing held bodies ms → HasDistinct (ids_of held) → HasDistinctIds ms
distinct_ids sharing [] [] [] found once = tt
distinct_ids sharing [] [] (m ∷ ms) found once = absurd found
distinct_ids sharing [] (body ∷ bodies) ms found once = absurd found
distinct_ids sharing (h ∷ held) [] ms found once = absurd found
distinct_ids sharing (h ∷ held) (body ∷ bodies) [] found once = absurd found
distinct_ids sharing (h ∷ held) (body ∷ bodies) (m ∷ ms) found once = (
  ap (has_id ms) found.0.id ∙ same_ids sharing held bodies ms found.1 h.entry.id ∙ once.0,
  distinct_ids sharing held bodies ms found.1 once.1,
)

-- ---- the files

module _ (queue : ℕ) (files : Name → Option File) (readable : (n : Name) (f : File) → files n ≡ Some f → IsFileImage f f.reads)
    (found : FoundQueue) (indexes : AreIndexes queue found.segments.items) (read : AreReadIndexes queue found.segments.items files) (smalls : AreReadStores queue found.segments.items found.stores.items files)
    (taken : AreTaken queue found.segments.items found.held.items found.bodies.items) (stood : HaveStood (as_read files) found.held.items found.bodies.items) where
  abbrev segments : List Segment
  segments = found.segments.items

  abbrev held : List HeldEntry
  held = found.held.items

  none_there : (n : ℕ) → has_number (indexes_of segments) n ≡ false → as_read files (index_name queue n) ≡ None
  none_there n none = ap bytes_in (read.at.none n none)

  each_sound : (n : ℕ) → IsSound (as_read files) (index_name queue n)
  each_sound n = ⊎_elim
      (λ has. at_number (IsSound (as_read files)) (index_name queue) segments indexes.rise (all_sound files readable segments read.known) n has)
      (λ none. none_sound (as_read files) (index_name queue n) (none_there n none))
      (cases_Bool (has_number (indexes_of segments) n))

  none_held : (n : ℕ) → has_number (indexes_of segments) n ≡ false → present (seen_in (contents_of (as_read files) (index_name queue n))) ≡ []
  none_held n none = ap (λ (o : Option (List ℕ)). present (seen_in (content_of o))) (none_there n none)

  all_held : below (held_in queue (as_read files)) (past 0 segments) ≡ spots_of held
  all_held = gathered queue (as_read files) 0 segments held indexes.rise (lowest segments) (all_known files readable segments read.known)
      (λ n ge none. ap (spots n) (none_held n none)) taken.listing (all_own queue (as_read files) held found.bodies.items taken.fit stood)
    where
      lowest : (ss : List Segment) → AllByRecursion (λ (m : Name). 0 ≤ m.number) (indexes_of ss)
      lowest [] = tt
      lowest (s ∷ ss) = (omega arith, lowest ss)

  sound_by : (sharing : Sharing) (ms : List Message) → AreFound sharing held found.bodies.items ms → QueueSoundBy queue (as_read files) sharing ms
  sound_by sharing ms are = record {
    indexes = λ n. (each_sound n).formed;
    smalls = smalls.formed;
    held = record {
      seen = λ n. seen_in (contents_of (as_read files) (index_name queue n));
      entries = λ n. (each_sound n).entries;
      short = λ n. (each_sound n).short;
      most = past 0 segments;
      none = λ n ge. none_held n (none_past (index_name queue) 0 segments indexes.rise n ge);
      each = subst (λ (ss : List Spot). AllZip (IsMessageOf (folder_of sharing (contents_of (as_read files))) queue) ss ms) (sym all_held)
          (messages_of queue (as_read files) sharing held found.bodies.items ms taken.fit stood are);
    };
    once = distinct_ids sharing held found.bodies.items ms are taken.once;
  }

  pub is_sound : IsSoundOf queue (as_read files) found
  is_sound = record { stand = all_stand queue (as_read files) held found.bodies.items stood; sound = sound_by }
