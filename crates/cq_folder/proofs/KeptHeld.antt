-- What is kept of messages that are held, with a journal, and over the runs of a disk.
use Rattle.cq_folder.proofs.Names.{index_own, small_own}
use Rattle.std.proofs.Common.{◌≡◌, inl, inr, ⊎_elim, ℕ, suc, Bool, true, false, List, [], ◌∷◌, ◌++◌, filter, Option, refl, sym, ap, ◌∙◌, subst, arith}
use Rattle.std.specs.Prelude.{◌==◌, ◌||◌, not, if◌then◌else◌, Contains, map}
use Rattle.cq_journal.specs.Lists.{IsSublist}
use Rattle.std.specs.List.{AllByRecursion}
use Rattle.std.proofs.lemmas.Bool.{cases_eq, eq-eqb, eqb-true}
use Rattle.cq_bytes.specs.Numbers.{contains}
use Rattle.cq_disk.specs.declared.name.Name.{Name}
use Rattle.cq_disk.specs.Call.{Image, LeavesOnly}
use Rattle.cq_disk.specs.File.{File}
use Rattle.cq_disk.specs.Files.{IsImage, Creates, Removes}
use Rattle.cq_disk.specs.Moments.{weaken}
use Rattle.cq_rdq.specs.Records.{shared_name}
use Rattle.cq_small.specs.Store.{small_name}
use Rattle.cq_index.specs.Places.{index_name, entries_bytes}
use Rattle.cq_journal.specs.declared.event.Entry.{Entry}
use Rattle.cq_journal.specs.declared.event.Message.{Message}
use Rattle.cq_journal.specs.History.{has_id, line, acked, settled as settled_ids}
use Rattle.cq_journal.specs.Legal.{Legal}
use Rattle.cq_folder.specs.Held.{MayHaveAdded, MayHaveShelved}
use Rattle.cq_folder.specs.Folder.{Sharing, folder_of, message_in, grown, shelf_in, shelf_joined}
use Rattle.cq_folder.specs.Survives.{SurvivesIn, Survives}
use Rattle.cq_folder.specs.Steady.{Agrees, Steady}
use Rattle.cq_folder.specs.Standing.{Standing, IsSafe, Confirm, confirm_at, confirm_all}
use Rattle.cq_folder.specs.Holding.{joined, HoldsSome, StillHeld, IsEither, Splits, left_out, without, LosesSome, MayHaveFaded, Replaces}
use Rattle.cq_folder.specs.HeldLaws.{settle_at, settle_all, KeepsHeld, KeepsHeldOn}
use Rattle.cq_folder.proofs.Images.{still_image, shelve_leaves, replaced_still, replace_leaves, removal_replaces, append_leaves, create_leaves, made_still}
use Rattle.cq_folder.proofs.Shelves.{records_hold, records_apart, replaced_hold, replaced_apart}
use Rattle.cq_folder.proofs.Sublists.{sublist_any, sublist_distinct, or_true, clash}
use Rattle.cq_folder.proofs.Bodies.{survivors_sound}
use Rattle.cq_folder.proofs.Journals.{more_survive}
use Rattle.cq_folder.proofs.Splits.{split_has, split_sublist, sublist_trans, left_out_lacks}
use Rattle.cq_folder.proofs.Kept.{keeps_standing, added_stands, shelved_stands, agrees}
use Rattle.cq_folder.proofs.Time.{goes_on, pushed}
use Rattle.cq_folder.proofs.Leaving.{faded_image, gone_files, grown_index, grown_small, held_by, index_image, index_removed, joined_other, joined_this, small_image, small_removed, without_other, without_this}

lost_unhas : (ids : List ℕ) (ms : List Message) (x : ℕ) → AllByRecursion (λ m. contains ids m.id ≡ true) ms → contains ids x ≡ false → has_id ms x ≡ false
lost_unhas ids [] x all none = refl
lost_unhas ids (m ∷ ms) x all none = (elim (m.id == x) as (λ (b : Bool). (m.id == x) ≡ b → (b || has_id ms x) ≡ false) [
  | true ↦ λ same. clash (contains ids x) none (subst (λ (y : ℕ). contains ids y ≡ true) (eqb-true m.id x same) all.0)
  | false ↦ λ other. lost_unhas ids ms x all.1 none
]) refl

module _ (past : List Entry) (queue : ℕ) (ids : List ℕ) (removed : (x : ℕ) → contains ids x ≡ true → contains (acked past queue) x ≡ true) where
  -- messages that were removed from the queue may be lost
  split_survives : (all kept left : List Message) → Splits all kept left → AllByRecursion (λ m. contains ids m.id ≡ true) left → SurvivesIn past queue all → SurvivesIn past queue kept
  split_survives all kept left s of_ids was = record {
    sublist = sublist_trans kept all (line past queue) (split_sublist all kept left s) was.sublist;
    once = sublist_distinct kept all (split_sublist all kept left s) was.once;
    kept = λ x there sure waiting. split_has all kept left x s (lost_unhas ids left x of_ids (not_true (contains ids x) (λ has. clash (contains (acked past queue) x) waiting (removed x has)))) (was.kept x there sure waiting);
    gone = λ x gone. sublist_any (λ m. m.id == x) kept all (split_sublist all kept left s) (was.gone x gone);
  }
    where
      not_true : (b : Bool) → (b ≡ true → ⊥) → b ≡ false
      not_true true no_way = absurd (no_way refl)
      not_true false no_way = refl

  pub loss_survives : (old new : ℕ → List Message) → LosesSome queue ids old new → Survives past old → Survives past new
  loss_survives old new loss was q = ⊎_elim
      (λ (here : q ≡ queue). subst (λ (r : ℕ). SurvivesIn past r (new r)) (sym here) (split_survives (old queue) (new queue) loss.left loss.this loss.of_ids (was queue)))
      (λ other. subst (SurvivesIn past q) (sym (loss.others q other)) (was q))
      (cases_eq q queue)

taken_out : List ℕ → List Message → List Message
taken_out ids ms = filter (λ m. contains ids m.id) ms

filter_splits : (ids : List ℕ) (ms : List Message) → Splits ms (left_out ids ms) (taken_out ids ms)
unfolding taken_out
filter_splits ids [] = (refl, refl)
filter_splits ids (m ∷ ms) = (elim (contains ids m.id) as (λ (b : Bool). Splits (m ∷ ms) (if not b then m ∷ left_out ids ms else left_out ids ms) (if b then m ∷ taken_out ids ms else taken_out ids ms)) [
  | true ↦ inr (taken_out ids ms, (refl, filter_splits ids ms))
  | false ↦ inl (left_out ids ms, (refl, filter_splits ids ms))
])

filter_all : (ids : List ℕ) (ms : List Message) → AllByRecursion (λ m. contains ids m.id ≡ true) (taken_out ids ms)
unfolding taken_out
filter_all ids [] = tt
filter_all ids (m ∷ ms) = (elim (contains ids m.id) as (λ (b : Bool). contains ids m.id ≡ b → AllByRecursion (λ k. contains ids k.id ≡ true) (if b then m ∷ taken_out ids ms else taken_out ids ms)) [
  | true ↦ λ has. (has, filter_all ids ms)
  | false ↦ λ none. filter_all ids ms
]) refl

pub without_loses : (lines : ℕ → List Message) (queue : ℕ) (ids : List ℕ) → LosesSome queue ids lines (without queue ids lines)
without_loses lines queue ids = record {
  left = taken_out ids (lines queue);
  this = subst (λ (k : List Message). Splits (lines queue) k (taken_out ids (lines queue))) (sym (without_this queue ids lines)) (filter_splits ids (lines queue));
  of_ids = filter_all ids (lines queue);
  others = λ q other. without_other queue ids lines q other;
}

without_lacks : (lines : ℕ → List Message) (queue : ℕ) (ids : List ℕ) (x : ℕ) → contains ids x ≡ true → has_id (without queue ids lines queue) x ≡ false
without_lacks lines queue ids x has = ap (λ (ms : List Message). has_id ms x) (without_this queue ids lines) ∙ left_out_lacks ids (lines queue) x has

-- messages that come next
come_survives : (past : List Entry) (lines : ℕ → List Message) (queue : ℕ) (ms : List Message) → Legal past → IsSublist (lines queue ++ ms) (line past queue) → ((x : ℕ) → contains (settled_ids past queue) x ≡ true → has_id ms x ≡ false) → Survives past lines → Survives past (joined queue ms lines)
come_survives past lines queue ms legal sublist unsettled was q = ⊎_elim
    (λ (here : q ≡ queue). subst (λ (r : ℕ). SurvivesIn past r (joined queue ms lines r)) (sym here) (subst (SurvivesIn past queue) (sym (joined_this queue ms lines)) (more_survive past queue (lines queue) ms legal (was queue) sublist unsettled)))
    (λ other. subst (SurvivesIn past q) (sym (joined_other queue ms lines q other)) (was q))
    (cases_eq q queue)

stands_by : (files : Name → Option File) (sharing : Sharing) (past : List Entry) (lines : ℕ → List Message) → Legal past → StillHeld files sharing lines → Survives past lines → Standing files sharing past lines
stands_by files sharing past lines legal h survives = record { contents = h.contents; still = h.still; agreed = record { holds = h.holds; apart = h.apart; are = survivors_sound past lines legal survives; survives = survives } }

held_of : (files : Name → Option File) (sharing : Sharing) (past : List Entry) (lines : ℕ → List Message) → Standing files sharing past lines → StillHeld files sharing lines
held_of files sharing past lines s = record { contents = s.contents; still = s.still; holds = s.agreed.holds; apart = s.agreed.apart }

contains_first : (id : ℕ) (ids : List ℕ) → contains (id ∷ ids) id ≡ true
contains_first id ids = ap (λ (b : Bool). b || contains ids id) (eq-eqb id id refl)

confirmed_all_stand : (files : Name → Option File) (sharing : Sharing) (past : List Entry) (lines : ℕ → List Message) (stamp : ℕ) (ps : List Confirm) → ((p : Confirm) → Contains ps p → IsSafe lines past p.id) → Standing files sharing past lines → Standing files sharing (confirm_all stamp ps past) lines
confirmed_all_stand files sharing past lines stamp [] safe s = s
confirmed_all_stand files sharing past lines stamp (p ∷ ps) safe s = confirmed_all_stand files sharing (confirm_at stamp p ∷ past) lines stamp ps
    (λ r there. keeps_standing.safe past lines stamp p r.id (safe r (suc there.0, omega (arith, there.1), there.2)))
    (keeps_standing.confirmed files sharing past lines stamp p (safe p (0, omega arith, refl)) s)

settled_all_stand : (files : Name → Option File) (sharing : Sharing) (past : List Entry) (lines : ℕ → List Message) (stamp queue : ℕ) (ids : List ℕ) → ((x : ℕ) → contains ids x ≡ true → has_id (lines queue) x ≡ false) → Standing files sharing past lines → Standing files sharing (settle_all stamp queue ids past) lines
settled_all_stand files sharing past lines stamp queue [] lost s = s
settled_all_stand files sharing past lines stamp queue (id ∷ ids) lost s = settled_all_stand files sharing (settle_at stamp queue id ∷ past) lines stamp queue ids
    (λ x has. lost x (or_true (id == x) (contains ids x) has))
    (keeps_standing.settled files sharing past lines stamp queue id (lost id (contains_first id ids)) s)

pub keeps_held : KeepsHeld
keeps_held = record {
  no_more = λ old new sharing lines fewer h. record { contents = h.contents; still = record { each = λ n c image. h.still.each n c (fewer n c image) }; holds = h.holds; apart = h.apart };
  made = λ old new sharing lines name absent becomes h. record { contents = h.contents; still = made_still old (folder_of sharing h.contents) h.still name absent new becomes.this becomes.others; holds = h.holds; apart = h.apart };
  records = λ old new sharing lines queue number bytes readable added h. record {
    contents = (grown (folder_of sharing h.contents) (small_name queue number) bytes).contents;
    still = added_stands old new (folder_of sharing h.contents) (small_name queue number) (small_own queue number) bytes readable added h.still;
    holds = grown_small (folder_of sharing h.contents) lines h.holds queue number bytes;
    apart = h.apart;
  };
  entries = λ old new sharing lines queue number entries ms readable added h come. record {
    contents = (grown (folder_of sharing h.contents) (index_name queue number) (entries_bytes entries)).contents;
    still = added_stands old new (folder_of sharing h.contents) (index_name queue number) (index_own queue number) (entries_bytes entries) readable added h.still;
    holds = grown_index (folder_of sharing h.contents) lines h.holds queue number entries ms come;
    apart = h.apart;
  };
  gone = λ old new sharing lines queue number at ids readable faded once h places. gone_files old sharing lines h queue number at ids places new readable faded once;
  removed_index = λ old new sharing lines queue number becomes h over. index_removed old sharing lines h queue number over new becomes;
  removed_small = λ old new sharing lines queue number becomes h over. small_removed old sharing lines h queue number over new becomes;
  shelved = λ old new sharing lines k records readable has h new'. record {
    contents = h.contents;
    still = shelved_stands old new (folder_of sharing h.contents) k records readable has h.still;
    holds = records_hold (folder_of sharing h.contents) k (map message_in records) new' lines h.holds;
    apart = records_apart (folder_of sharing h.contents) k (map message_in records) new' h.apart;
  };
  replaced = λ old new sharing lines k ms h may has. record {
    contents = h.contents;
    still = replaced_still old new (folder_of sharing h.contents) k ms h.still has.this has.others;
    holds = replaced_hold (folder_of sharing h.contents) lines k ms may h.holds;
    apart = replaced_apart (folder_of sharing h.contents) lines k ms may h.apart;
  };
  standing = stands_by;
  held = held_of;
  survives = λ files sharing past lines s. s.agreed.survives;
  once = λ files sharing past lines s. s.agreed.are.once;
  come = come_survives;
  lose = λ past old new queue ids removed loss was. loss_survives past queue ids removed old new loss was;
  loses = without_loses;
  lacks = without_lacks;
  confirmed = confirmed_all_stand;
  settled = settled_all_stand;
}

-- ---- a disk

module _ {D : Type 0} (moment : D → ℕ) (left : D → ℕ → ℕ → Image → Type 0) (files : D → Name → Option File) (only : (disk : D) (image : Image) → left disk (moment disk) (moment disk) image → IsImage (files disk) image) where
  pub held_wider : (old new : D) (P Q : (ℕ → List Message) → Type 0) → ((l : ℕ → List Message) → P l → Q l) → LeavesOnly moment left old new (HoldsSome P) → LeavesOnly moment left old new (HoldsSome Q)
  held_wider old new P Q step run = weaken moment left files only old new (HoldsSome P) (HoldsSome Q) (λ image h. record { lines = h.lines; is = step h.lines h.is; by = h.by }) run

  -- where all that may be held survives, every image agrees
  pub held_agrees : (old new : D) (past : List Entry) (P : (ℕ → List Message) → Type 0) → Legal past → ((l : ℕ → List Message) → P l → Survives past l) → LeavesOnly moment left old new (HoldsSome P) → LeavesOnly moment left old new (λ image. Agrees image past)
  held_agrees old new past P legal survive run = weaken moment left files only old new (HoldsSome P) (λ image. Agrees image past)
      (λ image h. ∣ record { lines = h.lines; sound = record { held = h.by; are = survivors_sound past h.lines legal (survive h.lines h.is) }; survives = survive h.lines h.is } ∣₁) run

  -- every image at this moment
  now_held : (disk : D) (sharing : Sharing) (past : List Entry) (lines : ℕ → List Message) → Standing (files disk) sharing past lines → (image : Image) → left disk (moment disk) (moment disk) image → Agrees image past
  now_held disk sharing past lines s image was = agrees image (folder_of sharing s.contents) past lines (still_image (files disk) (folder_of sharing s.contents) s.still image (only disk image was)) s.agreed

  settled_each : (disk : D) (sharing : Sharing) (past : List Entry) (lines : ℕ → List Message) (queue : ℕ) (ids : List ℕ) → ((x : ℕ) → contains ids x ≡ true → has_id (lines queue) x ≡ false) → Standing (files disk) sharing past lines → Steady (left disk) (moment disk) past → Steady (left disk) (moment disk) (settle_all (moment disk) queue ids past)
  settled_each disk sharing past lines queue [] lost s steady = steady
  settled_each disk sharing past lines queue (id ∷ ids) lost s steady =
      let next = keeps_standing.settled (files disk) sharing past lines (moment disk) queue id (lost id (first id ids)) s in
      settled_each disk sharing (settle_at (moment disk) queue id ∷ past) lines queue ids (λ x has. lost x (or_true (id == x) (contains ids x) has)) next
      (pushed moment left disk (settle_at (moment disk) queue id) past refl (now_held disk sharing (settle_at (moment disk) queue id ∷ past) lines next) steady)
    where
      first : (id : ℕ) (ids : List ℕ) → contains (id ∷ ids) id ≡ true
      first id ids = ap (λ (b : Bool). b || contains ids id) (eq-eqb id id refl)

  replaced_on : (old new : D) (sharing : Sharing) (lines : ℕ → List Message) (k : ℕ) → StillHeld (files old) sharing lines → LeavesOnly moment left old new (Replaces sharing lines k (files old)) → LeavesOnly moment left old new (HoldsSome (λ l. l ≡ lines))
  replaced_on old new sharing lines k h run = weaken moment left files only old new (Replaces sharing lines k (files old)) (HoldsSome (λ l. l ≡ lines))
      (λ image is. ⊎_elim
      (λ shows. record { lines = lines; is = refl; by = held_by image (folder_of sharing h.contents) lines shows h.holds h.apart })
      (λ other. record {
        lines = lines;
        is = refl;
        by = held_by image (shelf_in (folder_of sharing h.contents) k other.0) lines other.1.1 (replaced_hold (folder_of sharing h.contents) lines k other.0 other.1.0 h.holds) (replaced_apart (folder_of sharing h.contents) lines k other.0 other.1.0 h.apart);
      })
      (replace_leaves (files old) (folder_of sharing h.contents) lines k h.still image is)) run

  pub keeps_held_on : KeepsHeldOn moment left files
  keeps_held_on = record {
    quiet = λ old new sharing lines h run. weaken moment left files only old new (IsImage (files old)) (HoldsSome (λ l. l ≡ lines))
        (λ image is. record { lines = lines; is = refl; by = held_by image (folder_of sharing h.contents) lines (still_image (files old) (folder_of sharing h.contents) h.still image is) h.holds h.apart }) run;
    made = λ old new sharing lines name absent h run. weaken moment left files only old new (Creates name (files old)) (HoldsSome (λ l. l ≡ lines))
        (λ image is. record { lines = lines; is = refl; by = held_by image (folder_of sharing h.contents) lines (create_leaves (files old) (folder_of sharing h.contents) h.still name absent image is) h.holds h.apart }) run;
    records = λ old new sharing lines queue number bytes h run. weaken moment left files only old new (MayHaveAdded (small_name queue number) bytes (files old)) (HoldsSome (λ l. l ≡ lines))
        (λ image is. ⊎_elim
        (λ shows. record { lines = lines; is = refl; by = held_by image (folder_of sharing h.contents) lines shows h.holds h.apart })
        (λ shows. record { lines = lines; is = refl; by = held_by image (grown (folder_of sharing h.contents) (small_name queue number) bytes) lines shows (grown_small (folder_of sharing h.contents) lines h.holds queue number bytes) h.apart })
        (append_leaves (files old) (folder_of sharing h.contents) h.still (small_name queue number) (small_own queue number) bytes image is)) run;
    entries = λ old new sharing lines queue number entries ms h come run. weaken moment left files only old new (MayHaveAdded (index_name queue number) (entries_bytes entries) (files old)) (HoldsSome (IsEither lines queue ms))
        (λ image is. ⊎_elim
        (λ shows. record { lines = lines; is = inl refl; by = held_by image (folder_of sharing h.contents) lines shows h.holds h.apart })
        (λ shows. record { lines = joined queue ms lines; is = inr refl; by = held_by image (grown (folder_of sharing h.contents) (index_name queue number) (entries_bytes entries)) (joined queue ms lines) shows (grown_index (folder_of sharing h.contents) lines h.holds queue number entries ms come) h.apart })
        (append_leaves (files old) (folder_of sharing h.contents) h.still (index_name queue number) (index_own queue number) (entries_bytes entries) image is)) run;
    gone = λ old new sharing lines queue number at ids h places run. weaken moment left files only old new (MayHaveFaded (index_name queue number) at (files old)) (HoldsSome (LosesSome queue ids lines))
        (λ image is. faded_image (files old) sharing lines h queue number at ids places image is) run;
    removed_index = λ old new sharing lines queue number h over run. weaken moment left files only old new (Removes (index_name queue number) (files old)) (HoldsSome (λ l. l ≡ lines)) (λ image is. index_image (files old) sharing lines h queue number over image is) run;
    removed_small = λ old new sharing lines queue number h over run. weaken moment left files only old new (Removes (small_name queue number) (files old)) (HoldsSome (λ l. l ≡ lines)) (λ image is. small_image (files old) sharing lines h queue number over image is) run;
    shelved = λ old new sharing lines k records h new' run. weaken moment left files only old new (MayHaveShelved k records (files old)) (HoldsSome (λ l. l ≡ lines))
        (λ image is. ⊎_elim
        (λ shows. record { lines = lines; is = refl; by = held_by image (folder_of sharing h.contents) lines shows h.holds h.apart })
        (λ shows. record { lines = lines; is = refl; by = held_by image (shelf_joined (folder_of sharing h.contents) k (map message_in records)) lines shows (records_hold (folder_of sharing h.contents) k (map message_in records) new' lines h.holds) (records_apart (folder_of sharing h.contents) k (map message_in records) new' h.apart) })
        (shelve_leaves (files old) (folder_of sharing h.contents) h.still k records image is)) run;
    replaced = replaced_on;
    removed = λ old new sharing lines k h may run. replaced_on old new sharing lines k h (weaken moment left files only old new (Removes (shared_name k) (files old)) (Replaces sharing lines k (files old)) (λ image is. removal_replaces (files old) sharing lines k image may is) run);
    keeps = λ old new past lines legal was run. held_agrees old new past (λ l. l ≡ lines) legal (λ l same. subst (Survives past) (sym same) was) run;
    comes = λ old new past lines queue ms legal was more run. held_agrees old new past (IsEither lines queue ms) legal (λ l either. ⊎_elim (λ same. subst (Survives past) (sym same) was) (λ same. subst (Survives past) (sym same) more) either) run;
    loses = λ old new past lines queue ids legal was removed run. held_agrees old new past (LosesSome queue ids lines) legal (λ l loss. loss_survives past queue ids removed lines l loss was) run;
    settle = λ old new sharing past lines queue ids legal s removed run rest steady.
        let was = s.agreed.survives in
        let after = stands_by (files new) sharing past (without queue ids lines) legal rest (loss_survives past queue ids removed lines (without queue ids lines) (without_loses lines queue ids) was) in
        settled_each new sharing past (without queue ids lines) queue ids (without_lacks lines queue ids) after
        (goes_on moment left old new (λ image. Agrees image past) (held_agrees old new past (LosesSome queue ids lines) legal (λ l loss. loss_survives past queue ids removed lines l loss was) run) past (λ image agree. agree) steady);
  }
