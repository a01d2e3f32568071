-- The messages of a queue after a commit: where they stand, and what holds of each.
use Prim.Native.Nat.{suc}
use Rattle.std.proofs.Common.{◌≡◌, ◌≢◌, ⊎_elim, ℕ, ◌+◌, ◌-◌, Bool, true, false, cond, List, [], ◌∷◌, ◌++◌, length, Option, Some, None, refl, sym, ap, ◌∙◌, subst, arith, append_assoc}
use Rattle.std.specs.Prelude.{is_some, nat_lt}
use Rattle.std.specs.List.{AllByRecursion}
use Rattle.std.proofs.lemmas.Bool.{cases_Bool, cases_eq}
use Rattle.cq_bytes.specs.Numbers.{contains}
use Rattle.cq_disk.specs.declared.name.Name.{Name}
use Rattle.cq_disk.specs.File.{File}
use Rattle.cq_entry.specs.declared.entry.Entry.{Entry as IndexEntry}
use Rattle.cq_entry.specs.declared.entry.EntryKind.{EntryKind}
use Rattle.cq_entry.specs.declared.entry.EntryKind.TheVariants.{Small, Shared as SharedEntry}
use Rattle.cq_small.specs.Record.{StandsIn}
use Rattle.cq_small.specs.Store.{small_name}
use Rattle.cq_small.proofs.Records.{record_body}
use Rattle.cq_index.specs.Places.{index_name}
use Rattle.cq_folder.specs.Queue.{content_in, listed_in}
use Rattle.cq_folder.specs.Holding.{IsAt}
use Rattle.cq_items.specs.Item.{Item}
use Rattle.cq_items.specs.declared.item.Stand.{Stand}
use Rattle.cq_items.specs.Items.{decide, skips, undecided_items}
use Rattle.cq_queue.specs.Files.{HasEntriesFrom, HasRecords, KeepsEntries, KeepsRecords}
use Rattle.cq_queue.specs.Laid.{place_of, next_of}
use Rattle.cq_queue.specs.Passing.{HasLength, IsReady, commit_items, kept_items}
use Rattle.cq_queue.specs.Planning.{body_record, entries_in, item_entry, records_in}
use Rattle.cq_queue.specs.Tied.{AreInPlace, AreSplit, IsInPlace, IsWholeRecord, body_at, entry_at, listing_of, standing_at}
use Rattle.cq_queue.proofs.Changes.{some_same}
use Rattle.cq_queue.proofs.Come.{first_record, rest_records}
use Rattle.cq_queue.proofs.Passes.{commit_keep, commit_skip, commit_stop, commit_yes, und_no, und_yes}
use Rattle.cq_queue.proofs.Picked.{upto}
use Rattle.cq_queue.proofs.Planned.{keep_kept, skip_kept, stop_kept}

not_none : {A : Type 0} (x : A) (xs : List A) → x ∷ xs ≡ [] → ⊥
not_none x xs e = cc

true_false : {A : Type 0} → true ≡ false → A
true_false e = absurd (subst (λ (b : Bool). cond b (Unit {0}) ⊥) e tt)

abbrev IsOpenOne : Item → Type 0
IsOpenOne j = is_some j.stand ≡ false

-- what is kept becomes this, and has a property
abbrev pub Comes : (Item → Type 0) → ℕ → ℕ → ℕ → List Item → Type 0
Comes Q segment at place [] = Unit {0}
Comes Q segment at place (i ∷ is) = Q (decide (record { segment = segment; at = at; place = place_of i.kind place }) i) × Comes Q segment (at + 1) (next_of i.kind place i.len) is

-- by what a commit does with the first message
module _ (skip : List ℕ) (segment : ℕ) where
  -- what holds of each message before, and of what is kept, holds of each afterwards
  pub commit_all : (Q : Item → Type 0) (room at place : ℕ) (items : List Item) → AllByRecursion Q items → Comes Q segment at place (kept_items skip room (undecided_items items)) → AllByRecursion Q (commit_items skip room segment at place items)
  commit_all Q room at place [] all comes = tt
  commit_all Q room at place (i ∷ is) all comes = ⊎_elim
      (λ (yes' : is_some i.stand ≡ true).
      subst (AllByRecursion Q) (sym (commit_yes i is skip room segment at place yes'))
      (all.0, commit_all Q room at place is all.1 (subst (λ (l : List Item). Comes Q segment at place (kept_items skip room l)) (und_yes i is yes') comes)))
      (λ (no' : is_some i.stand ≡ false).
      let here : Comes Q segment at place (kept_items skip room (i ∷ undecided_items is)) = subst (λ (l : List Item). Comes Q segment at place (kept_items skip room l)) (und_no i is no') comes in
      ⊎_elim
      (λ (skipped : skips (contains skip i.id) i ≡ true).
      subst (AllByRecursion Q) (sym (commit_skip i is skip room segment at place no' skipped))
      (commit_all Q room at place is all.1 (subst (Comes Q segment at place) (skip_kept skip i (undecided_items is) room skipped) here)))
      (λ (not_skipped : skips (contains skip i.id) i ≡ false). ⊎_elim
      (λ (some : nat_lt 0 room ≡ true).
      let both : Comes Q segment at place (i ∷ kept_items skip (room - 1) (undecided_items is)) = subst (Comes Q segment at place) (keep_kept skip i (undecided_items is) room not_skipped some) here in
      subst (AllByRecursion Q) (sym (commit_keep i is skip room segment at place no' not_skipped some))
      (both.0, commit_all Q (room - 1) (at + 1) (next_of i.kind place i.len) is all.1 both.1))
      (λ (none : nat_lt 0 room ≡ false). subst (AllByRecursion Q) (sym (commit_stop i is skip room segment at place no' not_skipped none)) all)
      (cases_Bool (nat_lt 0 room)))
      (cases_Bool (skips (contains skip i.id) i)))
      (cases_Bool (is_some i.stand))

  -- what is still undecided was
  pub commit_undecided : (P : Item → Type 0) (room at place : ℕ) (items : List Item) → AllByRecursion P (undecided_items items) → AllByRecursion P (undecided_items (commit_items skip room segment at place items))
  commit_undecided P room at place [] all = tt
  commit_undecided P room at place (i ∷ is) all = ⊎_elim
      (λ (yes' : is_some i.stand ≡ true).
      subst (λ (l : List Item). AllByRecursion P (undecided_items l)) (sym (commit_yes i is skip room segment at place yes'))
      (subst (AllByRecursion P) (sym (und_yes i (commit_items skip room segment at place is) yes')) (commit_undecided P room at place is (subst (AllByRecursion P) (und_yes i is yes') all))))
      (λ (no' : is_some i.stand ≡ false).
      let here : AllByRecursion P (i ∷ undecided_items is) = subst (AllByRecursion P) (und_no i is no') all in
      ⊎_elim
      (λ (skipped : skips (contains skip i.id) i ≡ true). subst (λ (l : List Item). AllByRecursion P (undecided_items l)) (sym (commit_skip i is skip room segment at place no' skipped)) (commit_undecided P room at place is here.1))
      (λ (not_skipped : skips (contains skip i.id) i ≡ false). ⊎_elim
      (λ (some : nat_lt 0 room ≡ true). subst (λ (l : List Item). AllByRecursion P (undecided_items l)) (sym (commit_keep i is skip room segment at place no' not_skipped some)) (commit_undecided P (room - 1) (at + 1) (next_of i.kind place i.len) is here.1))
      (λ (none : nat_lt 0 room ≡ false). subst (λ (l : List Item). AllByRecursion P (undecided_items l)) (sym (commit_stop i is skip room segment at place no' not_skipped none)) all)
      (cases_Bool (nat_lt 0 room)))
      (cases_Bool (skips (contains skip i.id) i)))
      (cases_Bool (is_some i.stand))

nowhere : (s : Option Stand) → is_some s ≡ false → listing_of s ≡ []
nowhere None none = refl
nowhere (Some s) some = true_false some

none_stands : (items : List Item) → AllByRecursion IsOpenOne items → standing_at items ≡ []
none_stands [] all = refl
none_stands (i ∷ is) all = (λ k. nowhere i.stand all.0 k ++ none_stands is all.1 k)

undecided_all : (items : List Item) → AllByRecursion IsOpenOne items → undecided_items items ≡ items
undecided_all [] all = refl
undecided_all (i ∷ is) all = und_no i is all.0 ∙ ap (λ (l : List Item). i ∷ l) (undecided_all is all.1)

all_split : (items : List Item) → AllByRecursion IsOpenOne items → AreSplit items
all_split [] all = tt
all_split (i ∷ is) all = ((λ none. all.1), all_split is all.1)

module _ (skip : List ℕ) (segment : ℕ) where
  -- of those that none is committed of
  behind_lists : (room at place : ℕ) (items : List Item) → AllByRecursion IsOpenOne items → standing_at (commit_items skip room segment at place items) ≡ listed_in segment (upto at (length (kept_items skip room items)))
  behind_lists room at place [] all = refl
  behind_lists room at place (i ∷ is) all = ⊎_elim
      (λ (skipped : skips (contains skip i.id) i ≡ true).
      ap standing_at (commit_skip i is skip room segment at place all.0 skipped) ∙ behind_lists room at place is all.1 ∙ ap (λ (ks : List Item). listed_in segment (upto at (length ks))) (sym (skip_kept skip i is room skipped)))
      (λ (not_skipped : skips (contains skip i.id) i ≡ false). ⊎_elim
      (λ (some : nat_lt 0 room ≡ true).
      ap standing_at (commit_keep i is skip room segment at place all.0 not_skipped some)
      ∙ ap (λ (l : List (ℕ × ℕ)). (segment, at) ∷ l) (behind_lists (room - 1) (at + 1) (next_of i.kind place i.len) is all.1)
      ∙ ap (λ (ks : List Item). listed_in segment (upto at (length ks))) (sym (keep_kept skip i is room not_skipped some)))
      (λ (none : nat_lt 0 room ≡ false).
      ap standing_at (commit_stop i is skip room segment at place all.0 not_skipped none) ∙ none_stands (i ∷ is) all ∙ ap (λ (ks : List Item). listed_in segment (upto at (length ks))) (sym (stop_kept skip i is room not_skipped none)))
      (cases_Bool (nat_lt 0 room)))
      (cases_Bool (skips (contains skip i.id) i))

  behind_split : (room at place : ℕ) (items : List Item) → AllByRecursion IsOpenOne items → AreSplit (commit_items skip room segment at place items)
  behind_split room at place [] all = tt
  behind_split room at place (i ∷ is) all = ⊎_elim
      (λ (skipped : skips (contains skip i.id) i ≡ true). subst AreSplit (sym (commit_skip i is skip room segment at place all.0 skipped)) (behind_split room at place is all.1))
      (λ (not_skipped : skips (contains skip i.id) i ≡ false). ⊎_elim
      (λ (some : nat_lt 0 room ≡ true). subst AreSplit (sym (commit_keep i is skip room segment at place all.0 not_skipped some)) ((λ none. true_false none), behind_split (room - 1) (at + 1) (next_of i.kind place i.len) is all.1))
      (λ (none : nat_lt 0 room ≡ false). subst AreSplit (sym (commit_stop i is skip room segment at place all.0 not_skipped none)) (all_split (i ∷ is) all))
      (cases_Bool (nat_lt 0 room)))
      (cases_Bool (skips (contains skip i.id) i))

  -- a queue's listing goes on
  pub commit_lists : (room at place : ℕ) (items : List Item) → AreSplit items → standing_at (commit_items skip room segment at place items) ≡ standing_at items ++ listed_in segment (upto at (length (kept_items skip room (undecided_items items))))
  commit_lists room at place [] split = refl
  commit_lists room at place (i ∷ is) split = ⊎_elim
      (λ (yes' : is_some i.stand ≡ true).
      ap standing_at (commit_yes i is skip room segment at place yes')
      ∙ ap (λ (l : List (ℕ × ℕ)). listing_of i.stand ++ l) (commit_lists room at place is split.1)
      ∙ sym (append_assoc (listing_of i.stand) (standing_at is) (listed_in segment (upto at (length (kept_items skip room (undecided_items is))))))
      ∙ ap (λ (l : List Item). standing_at (i ∷ is) ++ listed_in segment (upto at (length (kept_items skip room l)))) (sym (und_yes i is yes')))
      (λ (no' : is_some i.stand ≡ false).
      let all : AllByRecursion IsOpenOne (i ∷ is) = (no', split.0 no') in
      behind_lists room at place (i ∷ is) all
      ∙ ap (λ (l : List Item). listed_in segment (upto at (length (kept_items skip room l)))) (sym (undecided_all (i ∷ is) all))
      ∙ ap (λ (l : List (ℕ × ℕ)). l ++ listed_in segment (upto at (length (kept_items skip room (undecided_items (i ∷ is)))))) (sym (none_stands (i ∷ is) all)))
      (cases_Bool (is_some i.stand))

  pub commit_split : (room at place : ℕ) (items : List Item) → AreSplit items → AreSplit (commit_items skip room segment at place items)
  commit_split room at place [] split = tt
  commit_split room at place (i ∷ is) split = ⊎_elim
      (λ (yes' : is_some i.stand ≡ true). subst AreSplit (sym (commit_yes i is skip room segment at place yes')) ((λ none. true_false (sym yes' ∙ none)), commit_split room at place is split.1))
      (λ (no' : is_some i.stand ≡ false). behind_split room at place (i ∷ is) (no', split.0 no'))
      (cases_Bool (is_some i.stand))

-- where nothing is kept, it doesn't matter where the next entry would stand
pub commit_anywhere : (skip : List ℕ) (room a b p segment at place : ℕ) (items : List Item) → kept_items skip room (undecided_items items) ≡ [] → commit_items skip room a b p items ≡ commit_items skip room segment at place items
commit_anywhere skip room a b p segment at place [] none = refl
commit_anywhere skip room a b p segment at place (i ∷ is) none = ⊎_elim
    (λ (yes' : is_some i.stand ≡ true).
    commit_yes i is skip room a b p yes' ∙ ap (λ (l : List Item). i ∷ l) (commit_anywhere skip room a b p segment at place is (sym (ap (kept_items skip room) (und_yes i is yes')) ∙ none)) ∙ sym (commit_yes i is skip room segment at place yes'))
    (λ (no' : is_some i.stand ≡ false). ⊎_elim
    (λ (skipped : skips (contains skip i.id) i ≡ true).
    commit_skip i is skip room a b p no' skipped ∙ commit_anywhere skip room a b p segment at place is (sym (ap (kept_items skip room) (und_no i is no') ∙ skip_kept skip i (undecided_items is) room skipped) ∙ none)
    ∙ sym (commit_skip i is skip room segment at place no' skipped))
    (λ (not_skipped : skips (contains skip i.id) i ≡ false). ⊎_elim
    (λ (some : nat_lt 0 room ≡ true). absurd (not_none i (kept_items skip (room - 1) (undecided_items is)) (sym (ap (kept_items skip room) (und_no i is no') ∙ keep_kept skip i (undecided_items is) room not_skipped some) ∙ none)))
    (λ (full : nat_lt 0 room ≡ false). commit_stop i is skip room a b p no' not_skipped full ∙ sym (commit_stop i is skip room segment at place no' not_skipped full))
    (cases_Bool (nat_lt 0 room)))
    (cases_Bool (skips (contains skip i.id) i)))
    (cases_Bool (is_some i.stand))

-- ---- in the files

whole_of : (content : List ℕ) (place : ℕ) (body : List ℕ) → StandsIn content place body → IsWholeRecord content place (length body)
whole_of content place body at =
    let e : body_at content place (length body) ≡ body = record_body content (place - 128) body at.is in
    record { len_is = ap length e; stands = subst (StandsIn content place) (sym e) at }

whole_keeps : (old new : List ℕ) → KeepsRecords old new → (place len : ℕ) → IsWholeRecord old place len → IsWholeRecord new place len
whole_keeps old new keeps place len is = subst (IsWholeRecord new place) is.len_is (whole_of new place (body_at old place len) (keeps place (body_at old place len) is.stands))

module _ (queue number : ℕ) (old new : Name → Option File)
    (records : KeepsRecords (content_in (old (small_name queue number))) (content_in (new (small_name queue number))))
    (entries : KeepsEntries (content_in (old (index_name queue number))) (content_in (new (index_name queue number))))
    (others : (n : ℕ) → n ≢ number → (new (index_name queue n) ≡ old (index_name queue n)) × (new (small_name queue n) ≡ old (small_name queue n)))
  where
    one_stays : (i : Item) (s : Stand) → IsInPlace queue old i s → IsInPlace queue new i s
    one_stays i s is = ⊎_elim
        (λ (same : s.segment ≡ number). record {
          entry = subst (λ (n : ℕ). IsAt (content_in (old (index_name queue n))) s.at (entry_at i s) → IsAt (content_in (new (index_name queue n))) s.at (entry_at i s)) (sym same) (entries s.at (entry_at i s)) is.entry;
          record_is = λ small. subst (λ (n : ℕ). IsWholeRecord (content_in (old (small_name queue n))) s.place i.len → IsWholeRecord (content_in (new (small_name queue n))) s.place i.len) (sym same) (whole_keeps (content_in (old (small_name queue number))) (content_in (new (small_name queue number))) records s.place i.len) (is.record_is small);
        })
        (λ (other : s.segment ≢ number). record {
          entry = subst (λ (o : Option File). IsAt (content_in o) s.at (entry_at i s)) (sym (others s.segment other).0) is.entry;
          record_is = λ small. subst (λ (o : Option File). IsWholeRecord (content_in o) s.place i.len) (sym (others s.segment other).1) (is.record_is small);
        })
        (cases_eq s.segment number)

    -- what stood in its place does
    pub places_stay : (items : List Item) → AreInPlace queue old items → AreInPlace queue new items
    places_stay [] stood = tt
    places_stay (i ∷ is) stood = ((λ s at. one_stays i s (stood.0 s at)), places_stay is stood.1)

first_item : (content : List ℕ) (body : Option (List ℕ)) (len base : ℕ) (rest : List ℕ) → HasLength body len → HasRecords base (body_record Small body ++ rest) content → IsWholeRecord content base len
first_item content None len base rest has stand = absurd has
first_item content (Some body) len base rest has stand =
    let here : base + 0 ≡ base = omega arith in
    subst (IsWholeRecord content base) has (whole_of content base body (subst (λ (k : ℕ). StandsIn content k body) here (stand 0 body (first_record (record { id = 0; body = body }) rest))))

rest_items : (content : List ℕ) (kind : EntryKind) (body : Option (List ℕ)) (len base : ℕ) (rest : List ℕ) → (kind ≡ Small → HasLength body len) → HasRecords base (body_record kind body ++ rest) content → HasRecords (next_of kind base len) rest content
rest_items content Small None len base rest has stand = absurd (has refl)
rest_items content Small (Some body) len base rest has stand = subst (λ (n : ℕ). HasRecords (next_of Small base n) rest content) (has refl) (rest_records Small content base (record { id = 0; body = body }) rest stand)
rest_items content SharedEntry body len base rest has stand = stand

rest_entries : (content : List ℕ) (at : ℕ) (e : IndexEntry) (es : List IndexEntry) → HasEntriesFrom at (e ∷ es) content → HasEntriesFrom (at + 1) es content
rest_entries content at e es has = λ i x is. let next : at + suc i ≡ at + 1 + i = omega arith in subst (λ (k : ℕ). IsAt content k x) next (has (suc i) x is)

-- what comes stands in its place
pub places_come : (queue number : ℕ) (files : Name → Option File) (at place : ℕ) (ks : List Item) → AllByRecursion IsReady ks
    → HasRecords place (records_in ks) (content_in (files (small_name queue number))) → HasEntriesFrom at (entries_in place ks) (content_in (files (index_name queue number)))
    → Comes (λ i. (s : Stand) → i.stand ≡ Some s → IsInPlace queue files i s) number at place ks
places_come queue number files at place [] ready records entries = tt
places_come queue number files at place (i ∷ ks) ready records entries =
    let small : List ℕ = content_in (files (small_name queue number)) in
    let index : List ℕ = content_in (files (index_name queue number)) in
    let here : Stand = record { segment = number; at = at; place = place_of i.kind place } in
    let none : at + 0 ≡ at = omega arith in (
      (λ (s : Stand) is_at. subst (IsInPlace queue files (decide here i)) (some_same here s is_at) (record {
        entry = subst (λ (k : ℕ). IsAt index k (item_entry place i)) none (entries 0 (item_entry place i) refl);
        record_is = λ is_small.
            subst (λ (p : ℕ). IsWholeRecord small p i.len) (sym (ap (λ (k : EntryKind). place_of k place) is_small))
            (first_item small i.body i.len place (records_in ks) (ready.0.body is_small) (subst (λ (k : EntryKind). HasRecords place (body_record k i.body ++ records_in ks) small) is_small records));
      })),
      places_come queue number files (at + 1) (next_of i.kind place i.len) ks ready.1
          (rest_items small i.kind i.body i.len place (records_in ks) ready.0.body records)
          (rest_entries index at (item_entry place i) (entries_in (next_of i.kind place i.len) ks) entries),
    )
