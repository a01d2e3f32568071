-- Files at rest, and a steady journal, as calls are made and entries come.
use Rattle.cq_folder.proofs.Names.{index_own, small_own}
use Rattle.std.proofs.Common.{◌≡◌, ◌≢◌, ⊎_elim, ℕ, suc, ◌≤◌, Bool, false, List, [], ◌∷◌, ◌++◌, Option, Some, None, refl, sym, ap, ◌∙◌, subst, append-nil, arith}
use Rattle.std.specs.Prelude.{if◌then◌else◌, Contains}
use Rattle.std.proofs.lemmas.Bool.{eq-eqb, ne_eqb, cases_eq}
use Rattle.std.proofs.Math.Logic.{∥∥₁_map}
use Rattle.cq_bytes.specs.Numbers.{contains}
use Rattle.cq_disk.specs.declared.name.Name.{Name}
use Rattle.cq_disk.specs.Call.{Image, LeavesOnly}
use Rattle.cq_disk.specs.File.{File, IsFileImage, settled}
use Rattle.cq_folder.specs.Holding.{AreNew, MayReplace, joined, Replaces}
use Rattle.cq_disk.specs.Files.{IsImageOf, IsImage, Among, AmongBytes, Creates, Removes}
use Rattle.cq_disk.specs.Moments.{found, weaken}
use Rattle.cq_disk.specs.Moments as moments
use Rattle.cq_gate.specs.Format.{kind_byte, content, IsGated}
use Rattle.cq_gate.specs.Gated.{KeepsOrAdds, From, Step}
use Rattle.cq_entry.specs.declared.entry.Entry.{Entry as IndexEntry}
use Rattle.cq_entry.specs.declared.entry.EntryKind.{EntryKind}
use Rattle.cq_small.specs.Store.{small_name}
use Rattle.cq_index.specs.Places.{index_name, entries_bytes}
use Rattle.cq_journal.specs.declared.event.Event.{Event}
use Rattle.cq_journal.specs.declared.event.Event.TheVariants.{Opened}
use Rattle.cq_journal.specs.declared.event.Entry.{Entry}
use Rattle.cq_journal.specs.declared.event.Message.{Message}
use Rattle.cq_journal.specs.declared.lines.Line.{Line}
use Rattle.cq_journal.specs.History.{has_id, line, acked, opened_in}
use Rattle.cq_journal.specs.Legal.{AreLines, StartsWithOpened, Legal}
use Rattle.cq_journal.proofs.Laws.{distinct-line}
use Rattle.std.specs.Prelude.{map}
use Rattle.cq_disk.specs.declared.name.Kind.TheVariants.{Shared}
use Rattle.cq_rdq.specs.Records.{shared_name, Shelves}
use Rattle.cq_folder.specs.Held.{bytes_in, as_read, IsShown, Shows, Still, IsSettled, HasAdded, MayHaveAdded, HasShelved, MayHaveShelved}
use Rattle.cq_folder.specs.Folder.{message_in, Folder, Sharing, sharing_of, folder_of, AreApart, Holds, HoldsIn, grown, shelf_in, shelf_joined}
use Rattle.cq_folder.specs.Survives.{SurvivesIn, Survives}
use Rattle.cq_folder.specs.Steady.{AreSound, SoundBy, Agrees, Steady, Agreed}
use Rattle.cq_folder.specs.Standing.{StillSound, Standing, ComeNext, IsSafe, Confirm, confirm_at, confirm_all, IsQuiet}
use Rattle.cq_folder.specs.Laws.{opening, KeepsStanding, KeepsSteady, ReplacesOne}
use Rattle.cq_folder.proofs.Images.{grown_grows, reads_image, step_both, still_image, settled_slot, append_leaves, added_still, shelve_leaves, shelved_still, replaced_still, replaced_shows, replace_leaves, removal_replaces, create_leaves, made_still, no_folder, bare_still}
use Rattle.cq_folder.proofs.Growth.{small_grows, index_grows, index_grows_other}
use Rattle.cq_folder.proofs.Shelves.{records_hold, records_apart, replaced_hold, replaced_apart}
use Rattle.cq_folder.proofs.Sublists.{sublist_self}
use Rattle.cq_folder.proofs.Bodies.{survivors_sound}
use Rattle.cq_folder.proofs.Journals.{more_survive, confirmed_survives, quiet_survives, settled_survives}
use Rattle.cq_folder.proofs.Time.{goes_on, pushed}

-- an image that shows a folder is sound by the messages that the folder holds
pub sound_by : (image : Image) (F : Folder) (lines : ℕ → List Message) → Shows image F → Holds F lines → AreApart F.shelves → AreSound lines → SoundBy image lines
sound_by image F lines shows holds apart are = record { held = record { folder = F; shows = shows; holds = holds; apart = apart }; are = are }

-- and agrees with a journal that they survive
pub agrees : (image : Image) (F : Folder) (past : List Entry) (lines : ℕ → List Message) → Shows image F → Agreed F past lines → Agrees image past
agrees image F past lines shows agreed = ∣ record { lines = lines; sound = sound_by image F lines shows agreed.holds agreed.apart agreed.are; survives = agreed.survives } ∣₁

-- ---- contents

module _ (F : Folder) (past : List Entry) (lines : ℕ → List Message) (agreed : Agreed F past lines) where
  pub records_join : (queue number : ℕ) (bytes : List ℕ) → Agreed (grown F (small_name queue number) bytes) past lines
  records_join queue number bytes = record {
    holds = λ q. small_grows F (grown F (small_name queue number) bytes) queue number bytes (grown_grows F (small_name queue number) bytes) q (lines q) (agreed.holds q);
    apart = agreed.apart;
    are = agreed.are;
    survives = agreed.survives;
  }

  -- records of new messages join a shared file
  pub shelves_join : (k : ℕ) (ms : List Message) → AreNew (sharing_of F) ms → Agreed (shelf_joined F k ms) past lines
  shelves_join k ms new = record { holds = records_hold F k ms new lines agreed.holds; apart = records_apart F k ms new agreed.apart; are = agreed.are; survives = agreed.survives }

  -- a shared file has other records, and all that count
  pub shelf_replaced : (k : ℕ) (ms : List Message) → MayReplace (sharing_of F) lines k ms → Agreed (shelf_in F k ms) past lines
  shelf_replaced k ms may = record { holds = replaced_hold F lines k ms may agreed.holds; apart = replaced_apart F lines k ms may agreed.apart; are = agreed.are; survives = agreed.survives }

  module _ (queue number : ℕ) (entries : List IndexEntry) (ms : List Message) (legal : Legal past) (next : ComeNext F past lines queue number entries ms) where
    abbrev G : Folder
    G = grown F (index_name queue number) (entries_bytes entries)

    at_queue : joined queue ms lines queue ≡ lines queue ++ ms
    at_queue = ap (λ (b : Bool). if b then lines queue ++ ms else lines queue) (eq-eqb queue queue refl)

    off_queue : (q : ℕ) → q ≢ queue → joined queue ms lines q ≡ lines q
    off_queue q other = ap (λ (b : Bool). if b then lines q ++ ms else lines q) (ne_eqb q queue other)

    holds_then : (q : ℕ) → HoldsIn G q (joined queue ms lines q)
    holds_then q = ⊎_elim
        (λ here. subst (λ (r : ℕ). HoldsIn G r (joined queue ms lines r)) (sym here)
        (subst (HoldsIn G queue) (sym at_queue)
        (index_grows F G queue number entries (grown_grows F (index_name queue number) (entries_bytes entries)) (lines queue) ms (agreed.holds queue) next.come.room next.come.last next.come.valid next.come.placed)))
        (λ other. subst (HoldsIn G q) (sym (off_queue q other))
        (index_grows_other F G queue number (entries_bytes entries) (grown_grows F (index_name queue number) (entries_bytes entries)) q (lines q) other (agreed.holds q)))
        (cases_eq q queue)

    survives_then : (q : ℕ) → SurvivesIn past q (joined queue ms lines q)
    survives_then q = ⊎_elim
        (λ here. subst (λ (r : ℕ). SurvivesIn past r (joined queue ms lines r)) (sym here)
        (subst (SurvivesIn past queue) (sym at_queue) (more_survive past queue (lines queue) ms legal (agreed.survives queue) next.sublist next.unsettled)))
        (λ other. subst (SurvivesIn past q) (sym (off_queue q other)) (agreed.survives q))
        (cases_eq q queue)

    pub entries_join : Agreed G past (joined queue ms lines)
    entries_join = record { holds = holds_then; apart = agreed.apart; are = survivors_sound past (joined queue ms lines) legal survives_then; survives = survives_then }

-- ---- files at rest

opened_legal : (stamp : ℕ) (ls : List Line) → AreLines ls → Legal (opening stamp ls ∷ [])
opened_legal stamp ls are = ((refl, are), tt, omega arith, tt)

opened_survives : (stamp : ℕ) (ls : List Line) → AreLines ls → Survives (opening stamp ls ∷ []) (λ q. opened_in q ls)
opened_survives stamp ls are q = record {
  sublist = sublist_self (opened_in q ls);
  once = distinct-line (opening stamp ls ∷ []) q (opened_legal stamp ls are);
  kept = λ x there sure waiting. there;
  gone = λ x gone. cc;
}

opened_stands : (files : Name → Option File) (F : Folder) (stamp : ℕ) (ls : List Line) → Still files F → Holds F (λ q. opened_in q ls) → AreApart F.shelves → AreLines ls → Standing files (sharing_of F) (opening stamp ls ∷ []) (λ q. opened_in q ls)
opened_stands files F stamp ls still holds apart are = record {
  contents = F.contents;
  still = still;
  agreed = record { holds = holds; apart = apart; are = survivors_sound (opening stamp ls ∷ []) (λ q. opened_in q ls) (opened_legal stamp ls are) (opened_survives stamp ls are); survives = opened_survives stamp ls are };
}

none_apart : AreApart (λ k. [])
none_apart = record { once = λ k. tt; apart = λ j k x one two. cc }

bare_holds : (kinds : Message → EntryKind) → Holds (no_folder kinds) (λ q. [])
bare_holds kinds q = record { seen = λ n. []; entries = λ n. refl; short = λ n. omega arith; most = 0; none = λ n ge. refl; each = tt }

pub added_stands : (old new : Name → Option File) (F : Folder) (name : Name) (own : name.kind ≢ Shared) (bytes : List ℕ) → ((n : Name) (f : File) → old n ≡ Some f → IsFileImage f f.reads) → HasAdded name bytes old new → Still old F → Still new (grown F name bytes)
added_stands old new F name own bytes readable added still =
    let f = found (old name) (λ f. Among (new name) (λ g. IsGated (kind_byte name.kind) g.reads × (content g.reads ≡ content f.reads ++ bytes) × (g ≡ settled g.reads))) added.this in
    let g = found (new name) (λ g. IsGated (kind_byte name.kind) g.reads × (content g.reads ≡ content f.file.reads ++ bytes) × (g ≡ settled g.reads)) f.has in
    added_still old new F name own bytes still (readable name) added.others f.file g.file f.is g.is g.has.0 g.has.1 g.has.2

pub shelved_stands : (old new : Name → Option File) (F : Folder) (k : ℕ) (records : List (List ℕ)) → ((n : Name) (f : File) → old n ≡ Some f → IsFileImage f f.reads) → HasShelved k records old new → Still old F → Still new (shelf_joined F k (map message_in records))
shelved_stands old new F k records readable has still =
    let f = found (old (shared_name k)) (λ f. Among (new (shared_name k)) (Shelves records f)) has.this in
    let g = found (new (shared_name k)) (Shelves records f.file) f.has in
    shelved_still old new F k records still (readable (shared_name k)) has.others f.file g.file f.is g.is g.has

confirmed_stands : (files : Name → Option File) (sharing : Sharing) (past : List Entry) (lines : ℕ → List Message) (stamp : ℕ) (p : Confirm) → IsSafe lines past p.id → Standing files sharing past lines → Standing files sharing (confirm_at stamp p ∷ past) lines
confirmed_stands files sharing past lines stamp p safe s = record {
  contents = s.contents;
  still = s.still;
  agreed = record { holds = s.agreed.holds; apart = s.agreed.apart; are = s.agreed.are; survives = λ q. confirmed_survives past stamp p.client p.number p.id q (lines q) (s.agreed.survives q) (safe q) };
}

stays_safe : (past : List Entry) (lines : ℕ → List Message) (stamp : ℕ) (p : Confirm) (id : ℕ) → IsSafe lines past id → IsSafe lines (confirm_at stamp p ∷ past) id
stays_safe past lines stamp p id safe q there waiting =
    safe q (ap (λ (ms : List Message). has_id ms id) (sym (append-nil (line past q))) ∙ there) (ap (λ (xs : List ℕ). contains xs id) (sym (append-nil (acked past q))) ∙ waiting)

-- ---- files that are all on the disk

settled_image : (slot : Option File) (c : Option (List ℕ)) → IsSettled slot → IsImageOf slot c → c ≡ bytes_in slot
settled_image None None all image = refl
settled_image None (Some b) all image = absurd image
settled_image (Some f) c all image = settled_slot f.reads c (subst (λ (g : File). IsImageOf (Some g) c) (all f refl) image)

pub at_rest : (files : Name → Option File) (lines : ℕ → List Message) → ((n : Name) → IsSettled (files n)) → SoundBy (as_read files) lines → StillSound files lines
at_rest files lines all sound = record {
  folder = sound.held.folder;
  still = record { each = λ n c image. subst (IsShown sound.held.folder n) (sym (settled_image (files n) c (all n) image)) (sound.held.shows.each n) };
  holds = sound.held.holds;
  apart = sound.held.apart;
  are = sound.are;
}

pub holding : (files : Name → Option File) (lines : ℕ → List Message) → StillSound files lines → (image : Image) → IsImage files image → SoundBy image lines
holding files lines s image is = sound_by image s.folder lines (still_image files s.folder s.still image is) s.holds s.apart s.are

pub keeps_standing : KeepsStanding
keeps_standing = record {
  at_rest = at_rest;
  holding = holding;
  opened = opened_stands;
  empty = λ files kinds stamp none. opened_stands files (no_folder kinds) stamp [] (bare_still kinds files none) (bare_holds kinds) none_apart tt;
  no_more = λ old new sharing past lines fewer s. record { contents = s.contents; still = record { each = λ n c image. s.still.each n c (fewer n c image) }; agreed = s.agreed };
  made = λ old new sharing past lines name absent becomes s. record { contents = s.contents; still = made_still old (folder_of sharing s.contents) s.still name absent new becomes.this becomes.others; agreed = s.agreed };
  records = λ old new sharing past lines queue number bytes readable added s. record {
    contents = (grown (folder_of sharing s.contents) (small_name queue number) bytes).contents;
    still = added_stands old new (folder_of sharing s.contents) (small_name queue number) (small_own queue number) bytes readable added s.still;
    agreed = records_join (folder_of sharing s.contents) past lines s.agreed queue number bytes;
  };
  entries = λ old new sharing past lines queue number entries ms readable legal added s next. record {
    contents = (grown (folder_of sharing s.contents) (index_name queue number) (entries_bytes entries)).contents;
    still = added_stands old new (folder_of sharing s.contents) (index_name queue number) (index_own queue number) (entries_bytes entries) readable added s.still;
    agreed = entries_join (folder_of sharing s.contents) past lines s.agreed queue number entries ms legal next;
  };
  shelved = λ old new sharing past lines k records readable has s new'. record {
    contents = (shelf_joined (folder_of sharing s.contents) k (map message_in records)).contents;
    still = shelved_stands old new (folder_of sharing s.contents) k records readable has s.still;
    agreed = shelves_join (folder_of sharing s.contents) past lines s.agreed k (map message_in records) new';
  };
  replaced = λ old new sharing past lines k ms s may has. record {
    contents = (shelf_in (folder_of sharing s.contents) k ms).contents;
    still = replaced_still old new (folder_of sharing s.contents) k ms s.still has.this has.others;
    agreed = shelf_replaced (folder_of sharing s.contents) past lines s.agreed k ms may;
  };
  confirmed = confirmed_stands;
  safe = stays_safe;
  settled = λ files sharing past lines stamp queue id lost s. record {
    contents = s.contents;
    still = s.still;
    agreed = record { holds = s.agreed.holds; apart = s.agreed.apart; are = s.agreed.are; survives = λ q. settled_survives past stamp queue id q (lines q) (s.agreed.survives q) (λ own. subst (λ (r : ℕ). has_id (lines r) id ≡ false) own lost) };
  };
  sound = λ files sharing past lines s image is. sound_by image (folder_of sharing s.contents) lines (still_image files (folder_of sharing s.contents) s.still image is) s.agreed.holds s.agreed.apart s.agreed.are;
  quiet = λ files sharing past lines e legal quiet s. record {
    contents = s.contents;
    still = s.still;
    agreed = record { holds = s.agreed.holds; apart = s.agreed.apart; are = s.agreed.are; survives = λ q. quiet_survives past e q (lines q) legal quiet (s.agreed.survives q) };
  };
}

-- ---- a disk

none_first : {A : Type 0} (e : Event) → IsQuiet e → StartsWithOpened [] e → A
none_first (Opened lines) quiet starts = absurd quiet
none_first _ quiet starts = absurd starts

module _ {D : Type 0} (moment : D → ℕ) (left : D → ℕ → ℕ → Image → Type 0) (files : D → Name → Option File) (only : (disk : D) (image : Image) → left disk (moment disk) (moment disk) image → IsImage (files disk) image)
    (each : (disk : D) (t : ℕ) (image : Image) → t ≤ moment disk → IsImage (files disk) image → left disk t (moment disk) image)
    (readable : (disk : D) (name : Name) (f : File) → files disk name ≡ Some f → IsFileImage f f.reads) where
  module _ (old new : D) (sharing : Sharing) (past : List Entry) (lines : ℕ → List Message) (s : Standing (files old) sharing past lines) where
    agrees_at : (image : Image) → Shows image (folder_of sharing s.contents) → Agrees image past
    agrees_at image shows = agrees image (folder_of sharing s.contents) past lines shows s.agreed

    made_run : (name : Name) → files old name ≡ None → LeavesOnly moment left old new (Creates name (files old)) → Steady (left old) (moment old) past → Steady (left new) (moment new) past
    made_run name absent run steady = goes_on moment left old new (Creates name (files old)) run past (λ image is. agrees_at image (create_leaves (files old) (folder_of sharing s.contents) s.still name absent image is)) steady

    records_run : (queue number : ℕ) (bytes : List ℕ) → LeavesOnly moment left old new (MayHaveAdded (small_name queue number) bytes (files old)) → LeavesOnly moment left old new (λ image. Agrees image past)
    records_run queue number bytes run = weaken moment left files only old new (MayHaveAdded (small_name queue number) bytes (files old)) (λ image. Agrees image past)
        (λ image is. ⊎_elim (agrees_at image)
        (λ shows. agrees image (grown (folder_of sharing s.contents) (small_name queue number) bytes) past lines shows (records_join (folder_of sharing s.contents) past lines s.agreed queue number bytes))
        (append_leaves (files old) (folder_of sharing s.contents) s.still (small_name queue number) (small_own queue number) bytes image is)) run

    entries_run : (queue number : ℕ) (entries : List IndexEntry) (ms : List Message) → Legal past → ComeNext (folder_of sharing s.contents) past lines queue number entries ms
        → LeavesOnly moment left old new (MayHaveAdded (index_name queue number) (entries_bytes entries) (files old)) → LeavesOnly moment left old new (λ image. Agrees image past)
    entries_run queue number entries ms legal next run = weaken moment left files only old new (MayHaveAdded (index_name queue number) (entries_bytes entries) (files old)) (λ image. Agrees image past)
        (λ image is. ⊎_elim (agrees_at image)
        (λ shows. agrees image (grown (folder_of sharing s.contents) (index_name queue number) (entries_bytes entries)) past (joined queue ms lines) shows (entries_join (folder_of sharing s.contents) past lines s.agreed queue number entries ms legal next))
        (append_leaves (files old) (folder_of sharing s.contents) s.still (index_name queue number) (index_own queue number) (entries_bytes entries) image is)) run

    shelved_run : (k : ℕ) (records : List (List ℕ)) → AreNew sharing (map message_in records) → LeavesOnly moment left old new (MayHaveShelved k records (files old)) → LeavesOnly moment left old new (λ image. Agrees image past)
    shelved_run k records new' run = weaken moment left files only old new (MayHaveShelved k records (files old)) (λ image. Agrees image past)
        (λ image is. ⊎_elim (agrees_at image)
        (λ shows. agrees image (shelf_joined (folder_of sharing s.contents) k (map message_in records)) past lines shows (shelves_join (folder_of sharing s.contents) past lines s.agreed k (map message_in records) new'))
        (shelve_leaves (files old) (folder_of sharing s.contents) s.still k records image is)) run

    replaced_run : (k : ℕ) → LeavesOnly moment left old new (Replaces sharing lines k (files old)) → LeavesOnly moment left old new (λ image. Agrees image past)
    replaced_run k run = weaken moment left files only old new (Replaces sharing lines k (files old)) (λ image. Agrees image past)
        (λ image is. ⊎_elim (agrees_at image)
        (λ other. agrees image (shelf_in (folder_of sharing s.contents) k other.0) past lines other.1.1 (shelf_replaced (folder_of sharing s.contents) past lines s.agreed k other.0 other.1.0))
        (replace_leaves (files old) (folder_of sharing s.contents) lines k s.still image is)) run

    removed_run : (k : ℕ) → MayReplace sharing lines k [] → LeavesOnly moment left old new (Removes (shared_name k) (files old)) → LeavesOnly moment left old new (λ image. Agrees image past)
    removed_run k may run = replaced_run k (weaken moment left files only old new (Removes (shared_name k) (files old)) (Replaces sharing lines k (files old)) (λ image is. removal_replaces (files old) sharing lines k image may is) run)

  gated_among : (name : Name) (bytes : List ℕ) (g : File) (before : Option File) (slot : Option (List ℕ)) → slot ≡ Some g.reads → AmongBytes slot (From before (KeepsOrAdds (kind_byte name.kind) bytes)) → IsGated (kind_byte name.kind) g.reads
  gated_among name bytes g None None is none = absurd none
  gated_among name bytes g (Some f) None is none = absurd none
  gated_among name bytes g None (Some b) is none = absurd none
  gated_among name bytes g (Some f) (Some b) is has = let e : b ≡ g.reads = cc is in subst (IsGated (kind_byte name.kind)) e has.gated

  module _ (old new : D) (name : Name) (bytes : List ℕ) (run : LeavesOnly moment left old new (MayHaveAdded name bytes (files old))) where
    reads_now : MayHaveAdded name bytes (files old) (as_read (files new))
    reads_now = run.each (as_read (files new)) (each new (moment old) (as_read (files new)) run.later (reads_image (files new) (readable new)))

    added_run : Step (files old name) (files new name) (λ f g. content g.reads ≡ content f.reads ++ bytes) → Step (files old name) (files new name) (λ f g. g ≡ settled g.reads) → ((n : Name) → n ≢ name → files new n ≡ files old n) → HasAdded name bytes (files old) (files new)
    added_run more all others = record {
      this = step_both (files old name) (files new name) _ _ _ (λ f g now m a. (gated_among name bytes g (files old name) (as_read (files new) name) (ap bytes_in now) reads_now.this, m, a)) more all;
      others = others;
    }

  module _ (disk : D) where
    standing_agrees : (sharing : Sharing) (past : List Entry) (lines : ℕ → List Message) → Standing (files disk) sharing past lines → (image : Image) → left disk (moment disk) (moment disk) image → Agrees image past
    standing_agrees sharing past lines s image was = agrees image (folder_of sharing s.contents) past lines (still_image (files disk) (folder_of sharing s.contents) s.still image (only disk image was)) s.agreed

    confirmed_all : (sharing : Sharing) (past : List Entry) (lines : ℕ → List Message) (ps : List Confirm) → ((p : Confirm) → Contains ps p → IsSafe lines past p.id) → Standing (files disk) sharing past lines → Steady (left disk) (moment disk) past → Steady (left disk) (moment disk) (confirm_all (moment disk) ps past)
    confirmed_all sharing past lines [] safe s steady = steady
    confirmed_all sharing past lines (p ∷ ps) safe s steady =
        let here : IsSafe lines past p.id = safe p (0, omega arith, refl) in
        let next = confirmed_stands (files disk) sharing past lines (moment disk) p here s in
        confirmed_all sharing (confirm_at (moment disk) p ∷ past) lines ps
        (λ r there. stays_safe past lines (moment disk) p r.id (safe r (suc there.0, omega (arith, there.1), there.2))) next
        (pushed moment left disk (confirm_at (moment disk) p) past refl (standing_agrees sharing (confirm_at (moment disk) p ∷ past) lines next) steady)

    now_agrees : (past : List Entry) (e : Entry) (image : Image) → Steady (left disk) (moment disk) (e ∷ past) → IsImage (files disk) image → Agrees image (e ∷ past)
    now_agrees past e image steady is = steady.1 image (each disk e.stamp image steady.0 is)

    quiet_pushed : (past : List Entry) (e : Entry) → Legal (e ∷ past) → e.stamp ≡ moment disk → IsQuiet e.event → Steady (left disk) (moment disk) past → Steady (left disk) (moment disk) (e ∷ past)
    quiet_pushed [] e legal now quiet steady = none_first e.event quiet legal.1
    quiet_pushed (p ∷ past) e legal now quiet steady = pushed moment left disk e (p ∷ past) now
        (λ image was. ∥∥₁_map (now_agrees past p image steady (only disk image was)) (λ a. record {
          lines = a.lines;
          sound = a.sound;
          survives = λ q. quiet_survives (p ∷ past) e q (a.lines q) legal quiet (a.survives q);
        })) steady

  no_more_run : (old new : D) (past : List Entry) → LeavesOnly moment left old new (IsImage (files old)) → Steady (left old) (moment old) past → Steady (left new) (moment new) past
  no_more_run old new [] run steady = tt
  no_more_run old new (e ∷ past) run steady = goes_on moment left old new (IsImage (files old)) run (e ∷ past) (λ image is. now_agrees old past e image steady is) steady

  module _ (old mid new : D) (sharing : Sharing) (past : List Entry) (lines : ℕ → List Message) (queue number : ℕ) (bytes : List ℕ) (entries : List IndexEntry) (ms : List Message) (legal : Legal past) (s : Standing (files old) sharing past lines)
      (run : LeavesOnly moment left old mid (MayHaveAdded (small_name queue number) bytes (files old))) (more : HasAdded (small_name queue number) bytes (files old) (files mid))
      (next : (contents : Name → List ℕ) → Still (files mid) (folder_of sharing contents) → ComeNext (folder_of sharing contents) past lines queue number entries ms)
      (run' : LeavesOnly moment left mid new (MayHaveAdded (index_name queue number) (entries_bytes entries) (files mid))) (more' : HasAdded (index_name queue number) (entries_bytes entries) (files mid) (files new)) where
    standing_mid : Standing (files mid) sharing past lines
    standing_mid = keeps_standing.records (files old) (files mid) sharing past lines queue number bytes (readable old) more s

    standing_new : Standing (files new) sharing past (joined queue ms lines)
    standing_new = keeps_standing.entries (files mid) (files new) sharing past lines queue number entries ms (readable mid) legal more' standing_mid (next standing_mid.contents standing_mid.still)

    both_runs : LeavesOnly moment left old new (λ image. Agrees image past)
    both_runs = moments.then moment left files only old mid new (λ image. Agrees image past) (records_run old mid sharing past lines s queue number bytes run)
        (entries_run mid new sharing past lines standing_mid queue number entries ms legal (next standing_mid.contents standing_mid.still) run')

    committed : (ps : List Confirm) → ((p : Confirm) → Contains ps p → IsSafe (joined queue ms lines) past p.id) → Steady (left old) (moment old) past → Steady (left new) (moment new) (confirm_all (moment new) ps past)
    committed ps safe steady = confirmed_all new sharing past (joined queue ms lines) ps safe standing_new (goes_on moment left old new (λ image. Agrees image past) both_runs past (λ image agree. agree) steady)

  pub keeps_steady : KeepsSteady moment left files
  keeps_steady = record {
    opened = λ disk sharing lines ls s. pushed moment left disk (opening (moment disk) ls) [] refl (standing_agrees disk sharing (opening (moment disk) ls ∷ []) lines s) tt;
    no_more = no_more_run;
    made = λ old new sharing past lines name absent s run steady. made_run old new sharing past lines s name absent run steady;
    records = λ old new sharing past lines queue number bytes s run. records_run old new sharing past lines s queue number bytes run;
    entries = λ old new sharing past lines queue number entries ms legal s next run. entries_run old new sharing past lines s queue number entries ms legal next run;
    shelved = λ old new sharing past lines k records s new' run. shelved_run old new sharing past lines s k records new' run;
    replaced = λ old new sharing past lines k s run. replaced_run old new sharing past lines s k run;
    removed = λ old new sharing past lines k s may run. removed_run old new sharing past lines s k may run;
    agreeing = λ old new past run steady. goes_on moment left old new (λ image. Agrees image past) run past (λ image agree. agree) steady;
    added = added_run;
    pushed = λ disk sharing past lines e now s steady. pushed moment left disk e past now (standing_agrees disk sharing (e ∷ past) lines s) steady;
    confirmed = confirmed_all;
    quiet = quiet_pushed;
    agrees_now = now_agrees;
    commit = λ old mid new sharing past lines queue number bytes entries ms ps legal s run more next run' more' safe steady. committed old mid new sharing past lines queue number bytes entries ms legal s run more next run' more' ps safe steady;
  }

-- ---- one law on shared files

pub replaces_one : ReplacesOne
replaces_one image image' k ms lines others formed has s may = record {
  held = record {
    folder = shelf_in s.held.folder k ms;
    shows = replaced_shows image image' s.held.folder k ms s.held.shows formed has others;
    holds = replaced_hold s.held.folder lines k ms may s.held.holds;
    apart = replaced_apart s.held.folder lines k ms may s.held.apart;
  };
  are = s.are;
}
