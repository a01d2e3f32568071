-- What files hold as messages come and leave, and what that keeps of a journal.
use Rattle.cq_folder.proofs.Names.{index_own, small_own}
use Rattle.std.proofs.Common.{◌≡◌, ◌≢◌, inl, inr, ⊎_elim, ℕ, ◌+◌, ◌*◌, ◌≤◌, Bool, true, false, List, [], ◌∷◌, ◌++◌, length, Option, Some, None, refl, sym, ap, ◌∙◌, subst, arith}
use Rattle.std.specs.Prelude.{◌==◌, if◌then◌else◌, Contains, slice_index}
use Rattle.std.specs.BTreeMap.{is_at}
use Rattle.cq_journal.specs.Lists.{HasDistinctIds, IsIn}
use Rattle.std.specs.List.{AllByRecursion, AllZip}
use Rattle.std.proofs.lemmas.Bool.{cases_eq, cases_Bool, eq-eqb, ne_eqb}
use Rattle.cq_bytes.specs.Numbers.{contains}
use Rattle.cq_disk.specs.declared.name.Name.{Name}
use Rattle.cq_disk.specs.Names.{name_cmp}
use Rattle.cq_disk.specs.NamesLemmas.{found_self, apart}
use Rattle.cq_disk.specs.Call.{Image}
use Rattle.cq_disk.specs.File.{File, IsFileImage, settled}
use Rattle.cq_disk.specs.Files.{IsImageOf, Among, AmongBytes, BecomesOrNot, Removes}
use Rattle.cq_disk.specs.Moments.{found}
use Rattle.cq_disk.specs.declared.name.Kind.TheVariants.{Shared}
use Rattle.cq_gate.specs.Format.{kind_byte, content, IsGated}
use Rattle.cq_gate.specs.Gated.{From}
use Rattle.cq_entry.specs.declared.entry.Entry.{Entry as IndexEntry}
use Rattle.cq_entry.specs.declared.entry.Seen.{Seen}
use Rattle.cq_entry.specs.EntryLemmas.{one_entry}
use Rattle.cq_small.specs.Record.{StandsIn}
use Rattle.cq_small.specs.Store.{small_name}
use Rattle.cq_index.specs.Codec.{entry_len, most_entries}
use Rattle.cq_index.specs.Gone.{StatusesOnly, AreGone}
use Rattle.cq_index.specs.Opened.{piece_at}
use Rattle.cq_index.specs.Places.{index_name, entries_bytes}
use Rattle.cq_journal.specs.declared.event.Message.{Message}
use Rattle.cq_folder.specs.Held.{content_of, IsFormedAs, IsShown, Held, Shows, Still}
use Rattle.cq_folder.specs.Folder.{Folder, Sharing, folder_of, AreApart, AreEntries, present, Spot, spots, below, IsMessageOf, Holds, HoldsIn, grown}
use Rattle.cq_folder.specs.Holding.{joined, HoldsSome, StillHeld, Come, Splits, left_out, without, LosesSome, MayHaveFaded, HasFaded, IsAt, AreAtPlaces, IsOver}
use Rattle.cq_folder.proofs.Below.{below_same, zip_wider, all_below, zip_where}
use Rattle.cq_folder.proofs.Images.{at_name, grown_grows, still_image, still_reads, settled_slot, own_shown, same_shown}
use Rattle.cq_folder.proofs.Growth.{small_grows, index_grows, index_grows_other, index_is_not, message_more, small_is_not}
use Rattle.cq_folder.proofs.Splits.{split_left_out, split_apart}
use Rattle.cq_folder.proofs.Fading.{Fades, FadedHolds, fade_holds, fade_other}
use Rattle.cq_folder.proofs.FadedFiles.{faded_gated, faded_content, now_piece}

-- ---- one content is replaced

pub with_content : (Name → List ℕ) → Name → List ℕ → Name → List ℕ
with_content F name bytes n = if is_at (name_cmp name) n then bytes else F n

-- the folder, where the content of one file is another
abbrev pub replaced : Folder → Name → List ℕ → Folder
replaced F name bytes = record F { contents = with_content F.contents name bytes }

pub replaced_this : (F : Folder) (name : Name) (bytes : List ℕ) → (replaced F name bytes).contents name ≡ bytes
unfolding with_content
replaced_this F name bytes = ap (λ (b : Bool). if b then bytes else F.contents name) (found_self name name refl)

pub replaced_others : (F : Folder) (name : Name) (bytes : List ℕ) (n : Name) → n ≢ name → (replaced F name bytes).contents n ≡ F.contents n
unfolding with_content
replaced_others F name bytes n other = ap (λ (b : Bool). if b then bytes else F.contents n) (apart name n other)

-- an image that shows a folder by which messages are held
pub held_by : (image : Image) (F : Folder) (lines : ℕ → List Message) → Shows image F → Holds F lines → AreApart F.shelves → Held image lines
held_by image F lines shows holds apart = record { folder = F; shows = shows; holds = holds; apart = apart }

-- the file of an index or of a small store is of its form, and has this content
pub record HasContent (name : Name) (file : Option (List ℕ)) (bytes : List ℕ) : Type 0 where
  pub formed : IsFormedAs name file
  pub is : content_of file ≡ bytes

shown_content : (F : Folder) (name : Name) (file : Option (List ℕ)) → name.kind ≢ Shared → IsShown F name file → HasContent name file (F.contents name)
shown_content F name file own shown = record { formed = shown.formed; is = shown.content own }

settled_has : (name : Name) (bytes : List ℕ) (c : Option (List ℕ)) → IsGated (kind_byte name.kind) bytes → IsImageOf (Some (settled bytes)) c → HasContent name c (content bytes)
settled_has name bytes c gated image = subst (λ (o : Option (List ℕ)). HasContent name o (content bytes)) (sym (settled_slot bytes c image)) (record { formed = gated; is = refl })

-- ---- one queue's messages change

abbrev at_queue : ℕ → List Message → (ℕ → List Message) → ℕ → List Message
at_queue queue ms lines q = if q == queue then ms else lines q

pub at_this : (queue : ℕ) (ms : List Message) (lines : ℕ → List Message) → at_queue queue ms lines queue ≡ ms
at_this queue ms lines = ap (λ (b : Bool). if b then ms else lines queue) (eq-eqb queue queue refl)

pub at_other : (queue : ℕ) (ms : List Message) (lines : ℕ → List Message) (q : ℕ) → q ≢ queue → at_queue queue ms lines q ≡ lines q
at_other queue ms lines q other = ap (λ (b : Bool). if b then ms else lines q) (ne_eqb q queue other)

pub without_this : (queue : ℕ) (ids : List ℕ) (lines : ℕ → List Message) → without queue ids lines queue ≡ left_out ids (lines queue)
without_this queue ids lines = ap (λ (b : Bool). if b then left_out ids (lines queue) else lines queue) (eq-eqb queue queue refl)

pub without_other : (queue : ℕ) (ids : List ℕ) (lines : ℕ → List Message) (q : ℕ) → q ≢ queue → without queue ids lines q ≡ lines q
without_other queue ids lines q other = ap (λ (b : Bool). if b then left_out ids (lines q) else lines q) (ne_eqb q queue other)

pub joined_this : (queue : ℕ) (ms : List Message) (lines : ℕ → List Message) → joined queue ms lines queue ≡ lines queue ++ ms
joined_this queue ms lines = ap (λ (b : Bool). if b then lines queue ++ ms else lines queue) (eq-eqb queue queue refl)

pub joined_other : (queue : ℕ) (ms : List Message) (lines : ℕ → List Message) (q : ℕ) → q ≢ queue → joined queue ms lines q ≡ lines q
joined_other queue ms lines q other = ap (λ (b : Bool). if b then lines q ++ ms else lines q) (ne_eqb q queue other)

-- ---- contents

module _ (F : Folder) (lines : ℕ → List Message) (holds : Holds F lines) where
  pub grown_small : (queue number : ℕ) (bytes : List ℕ) → Holds (grown F (small_name queue number) bytes) lines
  grown_small queue number bytes q = small_grows F (grown F (small_name queue number) bytes) queue number bytes (grown_grows F (small_name queue number) bytes) q (lines q) (holds q)

  pub grown_index : (queue number : ℕ) (entries : List IndexEntry) (ms : List Message) → Come F queue number entries ms → Holds (grown F (index_name queue number) (entries_bytes entries)) (joined queue ms lines)
  grown_index queue number entries ms come q =
      let G = grown F (index_name queue number) (entries_bytes entries) in
      let grows = grown_grows F (index_name queue number) (entries_bytes entries) in
      ⊎_elim
      (λ (here : q ≡ queue). subst (λ (r : ℕ). HoldsIn G r (joined queue ms lines r)) (sym here) (subst (HoldsIn G queue) (sym (joined_this queue ms lines))
      (index_grows F G queue number entries grows (lines queue) ms (holds queue) come.room come.last come.valid come.placed)))
      (λ other. subst (HoldsIn G q) (sym (joined_other queue ms lines q other)) (index_grows_other F G queue number (entries_bytes entries) grows q (lines q) other (holds q)))
      (cases_eq q queue)

  -- entries of a queue faded
  module _ (queue number : ℕ) (new : List ℕ) (at ids : List ℕ) (fades : Fades (Contains at) (F.contents (index_name queue number)) new) (places : AreAtPlaces (F.contents (index_name queue number)) at ids) where
    abbrev G : Folder
    G = replaced F (index_name queue number) new

    fades_here : Fades (Contains at) (F.contents (index_name queue number)) (G.contents (index_name queue number))
    fades_here = subst (Fades (Contains at) (F.contents (index_name queue number))) (sym (replaced_this F (index_name queue number) new)) fades

    others_same : (n : Name) → n ≢ index_name queue number → G.contents n ≡ F.contents n
    others_same n other = replaced_others F (index_name queue number) new n other

    fh : FadedHolds G queue (lines queue) (F.contents (index_name queue number)) (G.contents (index_name queue number)) (Contains at)
    fh = fade_holds F G queue number (Contains at) refl refl fades_here others_same (lines queue) (holds queue)

    leaves_ids : (m : Message) → IsIn fh.leaves m → contains ids m.id ≡ true
    leaves_ids m there =
        let w = fh.were_lost m there in
        let e = places.each w.0 w.1.0 in
        let same : e.0 ≡ w.1.1.0 = one_at (F.contents (index_name queue number)) w.0 e.0 w.1.1.0 e.1.0 w.1.1.1.0 in
        subst (λ (x : ℕ). contains ids x ≡ true) (ap (λ (d : IndexEntry). d.id) same ∙ sym w.1.1.1.1) e.1.1
      where
        one_at : (content : List ℕ) (k : ℕ) (e d : IndexEntry) → IsAt content k e → IsAt content k d → e ≡ d
        one_at content k e d a b = one_entry (piece_at content k) e d a.is b.is

    all_of : (P : Message → Type 0) (ms : List Message) → ((m : Message) → IsIn ms m → P m) → AllByRecursion P ms
    all_of P [] each = tt
    all_of P (m ∷ ms) each = (each m (inl refl), all_of P ms (λ k there. each k (inr there)))

    pub faded_lines : ℕ → List Message
    faded_lines = at_queue queue fh.keeps lines

    pub faded_holds : Holds (replaced F (index_name queue number) new) faded_lines
    unfolding faded_lines
    faded_holds q = ⊎_elim
        (λ (here : q ≡ queue). subst (λ (r : ℕ). HoldsIn G r (at_queue queue fh.keeps lines r)) (sym here) (subst (HoldsIn G queue) (sym (at_this queue fh.keeps lines)) fh.holds))
        (λ other. subst (HoldsIn G q) (sym (at_other queue fh.keeps lines q other)) (fade_other F G queue number q refl refl others_same other (lines q) (holds q)))
        (cases_eq q queue)

    pub faded_loses : LosesSome queue ids lines faded_lines
    unfolding faded_lines
    faded_loses = record {
      left = fh.leaves;
      this = subst (λ (k : List Message). Splits (lines queue) k fh.leaves) (sym (at_this queue fh.keeps lines)) fh.splits;
      of_ids = all_of (λ m. contains ids m.id ≡ true) fh.leaves leaves_ids;
      others = λ q other. at_other queue fh.keeps lines q other;
    }

    -- where all of them are gone, exactly the messages of their ids have left
    module _ (gone : (k : ℕ) → Contains at k → slice_index (piece_at new k) 0 ≢ 1) (once : HasDistinctIds (lines queue)) where
      kept_apart : (m : Message) → IsIn fh.keeps m → contains ids m.id ≡ false
      kept_apart m there = ⊎_elim
          (λ has.
          let p = places.all m.id has in
          let g : slice_index (piece_at (G.contents (index_name queue number)) p.0) 0 ≢ 1 = subst (λ (c : List ℕ). slice_index (piece_at c p.0) 0 ≢ 1) (sym (replaced_this F (index_name queue number) new)) (gone p.0 p.1.0) in
          let k = fh.all_lost p.0 p.1.1.0 p.1.1.1.0 g in
          split_apart (lines queue) fh.keeps fh.leaves m k.0 fh.splits once there k.1.0 (sym p.1.1.1.1 ∙ sym k.1.1))
          (λ not_there. not_there) (cases_Bool (contains ids m.id))

      pub gone_holds : Holds (replaced F (index_name queue number) new) (without queue ids lines)
      gone_holds q = ⊎_elim
          (λ (here : q ≡ queue). subst (λ (r : ℕ). HoldsIn G r (without queue ids lines r)) (sym here)
          (subst (HoldsIn G queue) (split_left_out ids (lines queue) fh.keeps fh.leaves fh.splits leaves_ids kept_apart ∙ sym (without_this queue ids lines)) fh.holds))
          (λ other. subst (HoldsIn G q) (sym (without_other queue ids lines q other)) (fade_other F G queue number q refl refl others_same other (lines q) (holds q)))
          (cases_eq q queue)

  -- a segment without a present entry: its index's content may be none, and its small store's any
  module _ (queue number : ℕ) (over : IsOver (F.contents (index_name queue number))) where
    over_spots : (k : ℕ) → k ≡ number → spots k (present ((holds queue).seen k)) ≡ []
    over_spots k here = ap (spots k) (over ((holds queue).seen k) (subst (λ (j : ℕ). AreEntries (F.contents (index_name queue j)) ((holds queue).seen k)) here ((holds queue).entries k)))

    seen_then : ℕ → List Seen
    seen_then k = if k == number then [] else (holds queue).seen k

    then_at : seen_then number ≡ []
    unfolding seen_then
    then_at = ap (λ (b : Bool). if b then [] else (holds queue).seen number) (eq-eqb number number refl)

    then_off : (k : ℕ) → k ≢ number → seen_then k ≡ (holds queue).seen k
    unfolding seen_then
    then_off k other = ap (λ (b : Bool). if b then [] else (holds queue).seen k) (ne_eqb k number other)

    spots_then : (k : ℕ) → spots k (present (seen_then k)) ≡ spots k (present ((holds queue).seen k))
    spots_then k = ⊎_elim
        (λ (here : k ≡ number). ap (λ (j : ℕ). spots k (present (seen_then j))) here ∙ ap (λ (s : List Seen). spots k (present s)) then_at ∙ sym (over_spots k here))
        (λ other. ap (λ (s : List Seen). spots k (present s)) (then_off k other))
        (cases_eq k number)

    pub emptied_holds : Holds (replaced F (index_name queue number) []) lines
    emptied_holds q = ⊎_elim
        (λ (here : q ≡ queue). subst (λ (r : ℕ). HoldsIn (replaced F (index_name queue number) []) r (lines r)) (sym here) own)
        (λ other. fade_other F (replaced F (index_name queue number) []) queue number q refl refl (replaced_others F (index_name queue number) []) other (lines q) (holds q))
        (cases_eq q queue)
      where
        others : (n : Name) → n ≢ index_name queue number → (replaced F (index_name queue number) []).contents n ≡ F.contents n
        others = replaced_others F (index_name queue number) []

        entries_at : (k : ℕ) → AreEntries ((replaced F (index_name queue number) []).contents (index_name queue k)) (seen_then k)
        entries_at k = ⊎_elim
            (λ (here : k ≡ number). subst (λ (j : ℕ). AreEntries ((replaced F (index_name queue number) []).contents (index_name queue j)) (seen_then j)) (sym here)
            (subst (AreEntries ((replaced F (index_name queue number) []).contents (index_name queue number))) (sym then_at) (replaced_this F (index_name queue number) [])))
            (λ other. subst (AreEntries ((replaced F (index_name queue number) []).contents (index_name queue k))) (sym (then_off k other))
            (subst (λ (c : List ℕ). AreEntries c ((holds queue).seen k)) (sym (others (index_name queue k) (λ e. other (ap (λ (m : Name). m.number) e)))) ((holds queue).entries k)))
            (cases_eq k number)

        short_at : (k : ℕ) → length (seen_then k) ≤ most_entries
        short_at k = ⊎_elim
            (λ (here : k ≡ number). subst (λ (j : ℕ). length (seen_then j) ≤ most_entries) (sym here) (subst (λ (s : List Seen). length s ≤ most_entries) (sym then_at) (omega arith)))
            (λ other. subst (λ (s : List Seen). length s ≤ most_entries) (sym (then_off k other)) ((holds queue).short k))
            (cases_eq k number)

        none_at : (k : ℕ) → (holds queue).most ≤ k → present (seen_then k) ≡ []
        none_at k ge = ⊎_elim
            (λ (here : k ≡ number). ap (λ (j : ℕ). present (seen_then j)) here ∙ ap present then_at)
            (λ other. ap present (then_off k other) ∙ (holds queue).none k ge)
            (cases_eq k number)

        own : HoldsIn (replaced F (index_name queue number) []) queue (lines queue)
        own = record {
          seen = seen_then;
          entries = entries_at;
          short = short_at;
          most = (holds queue).most;
          none = none_at;
          each = zip_wider (IsMessageOf F queue) (IsMessageOf (replaced F (index_name queue number) []) queue) (below (λ k. spots k (present (seen_then k))) (holds queue).most) (lines queue)
              (message_more F (replaced F (index_name queue number) []) queue [] refl refl (λ k. inl (others (small_name queue k) (small_is_not queue k queue number))))
              (subst (λ (ss : List Spot). AllZip (IsMessageOf F queue) ss (lines queue)) (sym (below_same (λ k. spots k (present (seen_then k))) (λ k. spots k (present ((holds queue).seen k))) (holds queue).most (λ k lt. spots_then k))) (holds queue).each);
        }

    abbrev Used : ℕ → Spot → Type 0
    Used q s = small_name q s.segment ≢ small_name queue number

    used_off : (q k : ℕ) → small_name q k ≢ small_name queue number → (es : List IndexEntry) → AllByRecursion (Used q) (spots k es)
    used_off q k ne [] = tt
    used_off q k ne (e ∷ es) = (ne, used_off q k ne es)

    used : (q k : ℕ) → AllByRecursion (Used q) (spots k (present ((holds q).seen k)))
    used q k = ⊎_elim
        (λ (here : q ≡ queue). ⊎_elim
        (λ (same : k ≡ number). subst (AllByRecursion (Used q)) (sym (ap (spots k) (over ((holds q).seen k) (subst (λ (n : Name). AreEntries (F.contents n) ((holds q).seen k)) (λ i. index_name (here i) (same i)) ((holds q).entries k))))) tt)
        (λ other. used_off q k (λ e. other (ap (λ (n : Name). n.number) e)) (present ((holds q).seen k))) (cases_eq k number))
        (λ other. used_off q k (λ e. other (ap (λ (n : Name). n.queue) e)) (present ((holds q).seen k))) (cases_eq q queue)

    pub unused_holds : (bytes : List ℕ) → Holds (replaced F (small_name queue number) bytes) lines
    unused_holds bytes q = record {
      seen = (holds q).seen;
      entries = λ k. subst (λ (c : List ℕ). AreEntries c ((holds q).seen k)) (sym (others (index_name q k) (index_is_not q k queue number))) ((holds q).entries k);
      short = (holds q).short;
      most = (holds q).most;
      none = (holds q).none;
      each = zip_where (Used q) (IsMessageOf F q) (IsMessageOf (replaced F (small_name queue number) bytes) q) (below (λ k. spots k (present ((holds q).seen k))) (holds q).most) (lines q)
          (all_below (Used q) (λ k. spots k (present ((holds q).seen k))) (holds q).most (used q)) moves (holds q).each;
    }
      where
        others : (n : Name) → n ≢ small_name queue number → (replaced F (small_name queue number) bytes).contents n ≡ F.contents n
        others = replaced_others F (small_name queue number) bytes

        moves : (s : Spot) (m : Message) → Used q s → IsMessageOf F q s m → IsMessageOf (replaced F (small_name queue number) bytes) q s m
        moves s m ne is = record { id = is.id; len = is.len; kind = is.kind; stands = λ small. subst (λ (c : List ℕ). StandsIn c s.entry.place m.body) (sym (others (small_name q s.segment) ne)) (is.stands small); shelved = is.shelved }

-- ---- images, and files at rest

module _ (files : Name → Option File) (F : Folder) (still : Still files F) (name : Name) (own : name.kind ≢ Shared) where
  this_shown : (bytes : List ℕ) (c : Option (List ℕ)) → HasContent name c bytes → IsShown (replaced F name bytes) name c
  this_shown bytes c has = own_shown (replaced F name bytes) name c own has.formed (has.is ∙ sym (replaced_this F name bytes))

  other_shown : (bytes : List ℕ) (n : Name) (c : Option (List ℕ)) → n ≢ name → IsShown F n c → IsShown (replaced F name bytes) n c
  other_shown bytes n c other = same_shown F (replaced F name bytes) n c (λ o. replaced_others F name bytes n other) (λ k e. refl)

  -- an image where one file has another content, and each other is as it might have been left
  pub image_shows : (image : Image) (bytes : List ℕ) → HasContent name (image name) bytes → ((n : Name) → n ≢ name → IsImageOf (files n) (image n)) → Shows image (replaced F name bytes)
  image_shows image bytes this others = record {
    each = at_name (λ n. IsShown (replaced F name bytes) n (image n)) name (this_shown bytes (image name) this) (λ n other. other_shown bytes n (image n) other (still.each n (image n) (others n other)));
  }

  pub files_still : (new : Name → Option File) (bytes : List ℕ) → ((c : Option (List ℕ)) → IsImageOf (new name) c → HasContent name c bytes) → ((n : Name) → n ≢ name → new n ≡ files n) → Still new (replaced F name bytes)
  files_still new bytes this others = record {
    each = at_name (λ n. (c : Option (List ℕ)) → IsImageOf (new n) c → IsShown (replaced F name bytes) n c) name
        (λ c image. this_shown bytes c (this c image))
        (λ n other c image. other_shown bytes n c other (still.each n c (subst (λ (o : Option File). IsImageOf o c) (others n other) image)));
  }

-- the status of what is present at a place is 1
is_one : (content : List ℕ) (at ids : List ℕ) → AreAtPlaces content at ids → (k : ℕ) → Contains at k → slice_index (piece_at content k) 0 ≡ 1
is_one content at ids places k has = let e = places.each k has in ap (λ (l : List ℕ). slice_index l 0) e.1.0.is.spelled

module _ (files : Name → Option File) (sharing : Sharing) (lines : ℕ → List Message) (h : StillHeld files sharing lines) (queue number : ℕ) where
  abbrev F : Folder
  F = folder_of sharing h.contents

  abbrev name : Name
  name = index_name queue number

  module _ (at ids : List ℕ) (places : AreAtPlaces (h.contents (index_name queue number)) at ids) where
    -- an image within the run
    pub faded_image : (image : Image) → MayHaveFaded (index_name queue number) at files image → HoldsSome (LosesSome queue ids lines) image
    faded_image image on = of_bytes (image name) (files name) refl refl on.this
      where
        of_bytes : (slot : Option (List ℕ)) (file : Option File) → image name ≡ slot → files name ≡ file → AmongBytes slot (From file (StatusesOnly 1 at)) → HoldsSome (LosesSome queue ids lines) image
        of_bytes None file now was none = absurd none
        of_bytes (Some b) None now was none = absurd none
        of_bytes (Some b) (Some f) now was has =
            let known : HasContent name (Some has.before) (h.contents name) = shown_content F name (Some has.before) (index_own queue number) (h.still.each name (Some has.before) (subst (λ (o : Option File). IsImageOf o (Some has.before)) (sym was) has.image)) in
            let ones : (k : ℕ) → Contains at k → slice_index (piece_at (content has.before) k) 0 ≡ 1 = subst (λ (c : List ℕ). (k : ℕ) → Contains at k → slice_index (piece_at c k) 0 ≡ 1) (sym known.is) (is_one (h.contents name) at ids places) in
            let fades : Fades (Contains at) (h.contents name) (content b) = subst (λ (c : List ℕ). Fades (Contains at) c (content b)) known.is (faded_content 1 at has.before b has.len has.same known.formed ones) in
            let shows : Shows image (replaced F name (content b)) = image_shows files F h.still name (index_own queue number) image (content b) (subst (λ (o : Option (List ℕ)). HasContent name o (content b)) (sym now) (record { is = refl; formed = has.gated known.formed })) on.others in
            record {
              lines = faded_lines F lines h.holds queue number (content b) at ids fades places;
              is = faded_loses F lines h.holds queue number (content b) at ids fades places;
              by = held_by image (replaced F name (content b)) (faded_lines F lines h.holds queue number (content b) at ids fades places) shows (faded_holds F lines h.holds queue number (content b) at ids fades places) h.apart;
            }

    -- the files once they went
    pub gone_files : (new : Name → Option File) → ((n : Name) (f : File) → files n ≡ Some f → IsFileImage f f.reads) → HasFaded (index_name queue number) at files new → HasDistinctIds (lines queue) → StillHeld new sharing (without queue ids lines)
    gone_files new readable faded once =
        let f = found (files name) (λ f. Among (new name) (AreGone at f)) faded.this in
        let g = found (new name) (AreGone at f.file) f.has in
        let known : HasContent name (Some f.file.reads) (h.contents name) = shown_content F name (Some f.file.reads) (index_own queue number) (still_reads files F name f.file h.still f.is (readable name f.file f.is)) in
        let ones : (k : ℕ) → Contains at k → slice_index (piece_at (content f.file.reads) k) 0 ≡ 1 = subst (λ (c : List ℕ). (k : ℕ) → Contains at k → slice_index (piece_at c k) 0 ≡ 1) (sym known.is) (is_one (h.contents name) at ids places) in
        let fades : Fades (Contains at) (h.contents name) (content g.file.reads) = subst (λ (c : List ℕ). Fades (Contains at) c (content g.file.reads)) known.is (faded_content 1 at f.file.reads g.file.reads g.has.len g.has.same known.formed ones) in
        let gone : (k : ℕ) → Contains at k → slice_index (piece_at (content g.file.reads) k) 0 ≢ 1 = λ k has.
        let e = places.each k has in
        let z : slice_index (piece_at (content g.file.reads) k) 0 ≡ 0 = ap (λ (l : List ℕ). slice_index l 0) (now_piece 1 at f.file.reads g.file.reads g.has.len g.has.same known.formed k (subst (λ (c : List ℕ). entry_len * k + entry_len ≤ length c) (sym known.is) e.1.0.inside)) ∙ g.has.gone k has in
        (λ one. absurd (omega (arith, z, one))) in
        record {
          contents = (replaced F name (content g.file.reads)).contents;
          still = files_still files F h.still name (index_own queue number) new (content g.file.reads)
              (λ c image. settled_has name g.file.reads c (faded_gated 1 at f.file.reads g.file.reads g.has.len g.has.same known.formed) (subst (λ (o : Option File). IsImageOf o c) (g.is ∙ ap Some g.has.all) image)) faded.others;
          holds = gone_holds F lines h.holds queue number (content g.file.reads) at ids fades places gone once;
          apart = h.apart;
        }

  module _ (over : IsOver (h.contents (index_name queue number))) where
    pub index_image : (image : Image) → Removes (index_name queue number) files image → HoldsSome (λ l. l ≡ lines) image
    index_image image r = ⊎_elim
        (λ none. record {
          lines = lines;
          is = refl;
          by = held_by image (replaced F name []) lines
              (image_shows files F h.still name (index_own queue number) image [] (subst (λ (o : Option (List ℕ)). HasContent name o []) (sym none) (record { is = refl; formed = tt })) r.others)
              (emptied_holds F lines h.holds queue number over) h.apart;
        })
        (λ as_was. record { lines = lines; is = refl; by = held_by image F lines (still_image files F h.still image (at_name (λ n. IsImageOf (files n) (image n)) name as_was r.others)) h.holds h.apart })
        r.this

    pub small_image : (image : Image) → Removes (small_name queue number) files image → HoldsSome (λ l. l ≡ lines) image
    small_image image r = ⊎_elim
        (λ none. record {
          lines = lines;
          is = refl;
          by = held_by image (replaced F (small_name queue number) []) lines
              (image_shows files F h.still (small_name queue number) (small_own queue number) image [] (subst (λ (o : Option (List ℕ)). HasContent (small_name queue number) o []) (sym none) (record { is = refl; formed = tt })) r.others)
              (unused_holds F lines h.holds queue number over []) h.apart;
        })
        (λ as_was. record { lines = lines; is = refl; by = held_by image F lines (still_image files F h.still image (at_name (λ n. IsImageOf (files n) (image n)) (small_name queue number) as_was r.others)) h.holds h.apart })
        r.this

    none_has : (n : Name) (slot : Option File) (c : Option (List ℕ)) → slot ≡ None → IsImageOf slot c → HasContent n c []
    none_has n slot None none image = record { is = refl; formed = tt }
    none_has n slot (Some b) none image = absurd (subst (λ (o : Option File). IsImageOf o (Some b)) none image)

    as_before : (new : Name → Option File) (n : Name) → new n ≡ files n → ((m : Name) → m ≢ n → new m ≡ files m) → StillHeld new sharing lines
    as_before new n same others = record {
      contents = h.contents;
      still = record { each = λ m c image. h.still.each m c (subst (λ (o : Option File). IsImageOf o c) (at_name (λ k. new k ≡ files k) n same others m) image) };
      holds = h.holds;
      apart = h.apart;
    }

    pub index_removed : (new : Name → Option File) → BecomesOrNot (index_name queue number) None files new → StillHeld new sharing lines
    index_removed new becomes = ⊎_elim
        (λ none. record { contents = (replaced F name []).contents; still = files_still files F h.still name (index_own queue number) new [] (λ c image. none_has name (new name) c none image) becomes.others; holds = emptied_holds F lines h.holds queue number over; apart = h.apart })
        (λ same. as_before new name same becomes.others) becomes.this

    pub small_removed : (new : Name → Option File) → BecomesOrNot (small_name queue number) None files new → StillHeld new sharing lines
    small_removed new becomes = ⊎_elim
        (λ none. record { contents = (replaced F (small_name queue number) []).contents; still = files_still files F h.still (small_name queue number) (small_own queue number) new [] (λ c image. none_has (small_name queue number) (new (small_name queue number)) c none image) becomes.others; holds = unused_holds F lines h.holds queue number over []; apart = h.apart })
        (λ same. as_before new (small_name queue number) same becomes.others) becomes.this
