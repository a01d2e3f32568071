-- Entries that go: from the bytes of a file to the messages that are held.
use Rattle.std.proofs.Common.{◌≡◌, ◌≢◌, ◌⊎◌, inl, inr, ⊎_elim, ℕ, zero, suc, ◌+◌, ◌*◌, ◌≤◌, ◌<◌, Bool, List, [], ◌∷◌, length, take, drop, refl, sym, ap, ◌∙◌, subst, arith, length-drop}
use Rattle.std.specs.Prelude.{◌==◌, if◌then◌else◌, slice_index}
use Rattle.std.proofs.lemmas.Bool.{cases_eq, cases_lt, eq-eqb, ne_eqb}
use Rattle.std.proofs.lemmas.List.{drop-drop}
use Rattle.cq_disk.specs.declared.name.Name.{Name}
use Rattle.cq_entry.specs.declared.entry.Entry.{Entry}
use Rattle.cq_entry.specs.declared.entry.Seen.{Seen}
use Rattle.cq_entry.specs.declared.entry.Seen.TheVariants.{Gone, Present}
use Rattle.cq_entry.specs.Entry.{IsPresent, IsSeen}
use Rattle.cq_entry.specs.EntryLemmas.{one_entry}
use Rattle.cq_small.specs.Store.{small_name}
use Rattle.cq_index.specs.Codec.{entry_len, most_entries}
use Rattle.cq_index.specs.Opened.{piece_at}
use Rattle.cq_index.specs.Places.{index_name}
use Rattle.cq_journal.specs.declared.event.Message.{Message}
use Rattle.cq_folder.specs.Folder.{AreEntries, present, Spot, spots, below, Folder, IsMessageOf, HoldsIn}
use Rattle.std.specs.List.{AllZip}
use Rattle.cq_journal.specs.Lists.{IsIn}
use Rattle.cq_folder.specs.Holding.{Splits, IsAt}
use Rattle.cq_folder.proofs.Below.{zip_wider}
use Rattle.cq_folder.proofs.Growth.{message_more, small_is_not}
use Rattle.cq_folder.proofs.Members.{below_in, in_below, spot_in, in_spot, zip_right, zip_left}
use Rattle.cq_folder.proofs.Splits.{ZipSplit, zip_split, split_self, split_below, split_spots}

-- ---- contents

-- of pieces of 32 bytes each is as it was, or it may be lost and its status isn't 1
pub record Fades (lost : ℕ → Type 0) (old new : List ℕ) : Type 0 where
  pub len : length new ≡ length old
  pub each : (k : ℕ) → entry_len * k + entry_len ≤ length old → (piece_at new k ≡ piece_at old k) ⊎ (lost k × (slice_index (piece_at new k) 0 ≢ 1))

next_piece : (c : List ℕ) (k : ℕ) → piece_at (drop entry_len c) k ≡ piece_at c (suc k)
next_piece c k =
    let next : entry_len + entry_len * k ≡ entry_len * suc k = omega arith in
    ap (take entry_len) (drop-drop (entry_len * k) entry_len c) ∙ ap (λ (n : ℕ). take entry_len (drop n c)) next

no_bytes : (c : List ℕ) → length c ≡ 0 → c ≡ []
no_bytes [] none = refl
no_bytes (x ∷ c) none = absurd (omega (arith, none))

fades_next : (lost : ℕ → Type 0) (old new : List ℕ) → entry_len ≤ length old → Fades lost old new → Fades (λ k. lost (suc k)) (drop entry_len old) (drop entry_len new)
fades_next lost old new inside f = record {
  len = omega (arith, f.len, length-drop entry_len old, length-drop entry_len new);
  each = λ k here. ⊎_elim
      (λ same. inl (next_piece new k ∙ same ∙ sym (next_piece old k)))
      (λ gone. inr (gone.0, subst (λ (p : List ℕ). slice_index p 0 ≢ 1) (sym (next_piece new k)) gone.1))
      (f.each (suc k) (omega (arith, here, inside, length-drop entry_len old)));
}

-- entries of which some are gone then
pub record Faded (lost : ℕ → Type 0) (old new : List ℕ) (seen : List Seen) : Type 0 where
  pub now : List Seen
  pub entries : AreEntries new now
  pub many : length now ≡ length seen
  pub gone : List Entry
  pub splits : Splits (present seen) (present now) gone
  pub were_lost : (e : Entry) → IsIn gone e → (k : ℕ) × (lost k × IsAt old k e)
  pub all_lost : (k : ℕ) (e : Entry) → IsAt old k e → slice_index (piece_at new k) 0 ≢ 1 → IsIn gone e

status_one : (bytes : List ℕ) (e : Entry) → IsPresent bytes e → slice_index bytes 0 ≡ 1
status_one bytes e is = ap (λ (l : List ℕ). slice_index l 0) is.spelled

next_at : (old : List ℕ) (k : ℕ) (e : Entry) → entry_len ≤ length old → IsAt (drop entry_len old) k e → IsAt old (suc k) e
next_at old k e some at = record { inside = omega (arith, at.inside, some, length-drop entry_len old); is = subst (λ (p : List ℕ). IsPresent p e) (next_piece old k) at.is }

back_at : (old : List ℕ) (k : ℕ) (e : Entry) → IsAt old (suc k) e → IsAt (drop entry_len old) k e
back_at old k e at = record { inside = omega (arith, at.inside, length-drop entry_len old); is = subst (λ (p : List ℕ). IsPresent p e) (sym (next_piece old k)) at.is }

-- one entry more in front, which stays
fade_kept : (lost : ℕ → Type 0) (old new : List ℕ) (s : Seen) (seen : List Seen) → entry_len ≤ length old → IsSeen (take entry_len old) s → length new ≡ length old → take entry_len new ≡ take entry_len old
    → Faded (λ k. lost (suc k)) (drop entry_len old) (drop entry_len new) seen → Faded lost old new (s ∷ seen)
fade_kept lost old new s seen some is len same rest = record {
  now = s ∷ rest.now;
  entries = (omega (arith, some, len), subst (λ (p : List ℕ). IsSeen p s) (sym same) is, rest.entries);
  many = ap suc rest.many;
  gone = rest.gone;
  splits = front s;
  were_lost = λ e there. let w = rest.were_lost e there in (suc w.0, (w.1.0, next_at old w.0 e some w.1.1));
  all_lost = all;
}
  where
    front : (s : Seen) → Splits (present (s ∷ seen)) (present (s ∷ rest.now)) rest.gone
    front Gone = rest.splits
    front (Present e) = inl (present rest.now, (refl, rest.splits))

    all : (k : ℕ) (e : Entry) → IsAt old k e → slice_index (piece_at new k) 0 ≢ 1 → IsIn rest.gone e
    all zero e at ne = absurd (ne (ap (λ (p : List ℕ). slice_index p 0) same ∙ status_one (take entry_len old) e at.is))
    all (suc k) e at ne = rest.all_lost k e (back_at old k e at) (subst (λ (p : List ℕ). slice_index p 0 ≢ 1) (sym (next_piece new k)) ne)

-- one entry more in front, which goes
fade_gone : (lost : ℕ → Type 0) (old new : List ℕ) (s : Seen) (seen : List Seen) → entry_len ≤ length old → IsSeen (take entry_len old) s → length new ≡ length old → lost 0 → slice_index (take entry_len new) 0 ≢ 1
    → Faded (λ k. lost (suc k)) (drop entry_len old) (drop entry_len new) seen → Faded lost old new (s ∷ seen)
fade_gone lost old new Gone seen some is len lost_0 ne rest = record {
  now = Gone ∷ rest.now;
  entries = (omega (arith, some, len), ne, rest.entries);
  many = ap suc rest.many;
  gone = rest.gone;
  splits = rest.splits;
  were_lost = λ e there. let w = rest.were_lost e there in (suc w.0, (w.1.0, next_at old w.0 e some w.1.1));
  all_lost = all;
}
  where
    all : (k : ℕ) (e : Entry) → IsAt old k e → slice_index (piece_at new k) 0 ≢ 1 → IsIn rest.gone e
    all zero e at was = absurd (is (status_one (take entry_len old) e at.is))
    all (suc k) e at was = rest.all_lost k e (back_at old k e at) (subst (λ (p : List ℕ). slice_index p 0 ≢ 1) (sym (next_piece new k)) was)
fade_gone lost old new (Present d) seen some is len lost_0 ne rest = record {
  now = Gone ∷ rest.now;
  entries = (omega (arith, some, len), ne, rest.entries);
  many = ap suc rest.many;
  gone = d ∷ rest.gone;
  splits = inr (rest.gone, (refl, rest.splits));
  were_lost = λ e there. ⊎_elim
      (λ (here : d ≡ e). (0, (lost_0, record { inside = omega (arith, some); is = subst (λ (x : Entry). IsPresent (take entry_len old) x) here is.1 })))
      (λ later. let w = rest.were_lost e later in (suc w.0, (w.1.0, next_at old w.0 e some w.1.1))) there;
  all_lost = all;
}
  where
    all : (k : ℕ) (e : Entry) → IsAt old k e → slice_index (piece_at new k) 0 ≢ 1 → IsIn (d ∷ rest.gone) e
    all zero e at was = inl (one_entry (take entry_len old) d e is.1 at.is)
    all (suc k) e at was = inr (rest.all_lost k e (back_at old k e at) (subst (λ (p : List ℕ). slice_index p 0 ≢ 1) (sym (next_piece new k)) was))

pub fade_seen : (lost : ℕ → Type 0) (old new : List ℕ) (seen : List Seen) → AreEntries old seen → Fades lost old new → Faded lost old new seen
fade_seen lost old new [] none f =
    let empty : length old ≡ 0 = ap length none in
    record {
      now = [];
      entries = no_bytes new (omega (arith, f.len, empty));
      many = refl;
      gone = [];
      splits = (refl, refl);
      were_lost = λ e there. absurd there;
      all_lost = λ k e at ne. let inside = at.inside in absurd (omega (arith, inside, empty));
    }
fade_seen lost old new (s ∷ seen) are f =
    let rest = fade_seen (λ k. lost (suc k)) (drop entry_len old) (drop entry_len new) seen are.2 (fades_next lost old new are.0 f) in
    ⊎_elim
    (λ same. fade_kept lost old new s seen are.0 are.1 f.len same rest)
    (λ gone. fade_gone lost old new s seen are.0 are.1 f.len gone.0 gone.1 rest)
    (f.each 0 (omega (arith, are.0)))

-- ---- messages

-- what a queue holds once entries of a segment faded
pub record FadedHolds (G : Folder) (q : ℕ) (l : List Message) (old : List ℕ) (new : List ℕ) (lost : ℕ → Type 0) : Type 0 where
  pub keeps : List Message
  pub leaves : List Message
  pub splits : Splits l keeps leaves
  pub holds : HoldsIn G q keeps
  pub were_lost : (m : Message) → IsIn leaves m → (k : ℕ) × (lost k × ((e : Entry) × (IsAt old k e × (m.id ≡ e.id))))
  pub all_lost : (k : ℕ) (e : Entry) → IsAt old k e → slice_index (piece_at new k) 0 ≢ 1 → (m : Message) × (IsIn leaves m × (m.id ≡ e.id))

module _ (F G : Folder) (q n : ℕ) (lost : ℕ → Type 0) (shelves : G.shelves ≡ F.shelves) (kinds : G.kinds ≡ F.kinds) (fades : Fades lost (F.contents (index_name q n)) (G.contents (index_name q n))) (others : (m : Name) → m ≢ index_name q n → G.contents m ≡ F.contents m) (l : List Message) (h : HoldsIn F q l) where
  faded : Faded lost (F.contents (index_name q n)) (G.contents (index_name q n)) (h.seen n)
  faded = fade_seen lost (F.contents (index_name q n)) (G.contents (index_name q n)) (h.seen n) (h.entries n) fades

  seen' : ℕ → List Seen
  seen' k = if k == n then faded.now else h.seen k

  lefts : ℕ → List Spot
  lefts k = if k == n then spots n faded.gone else []

  at_n : seen' n ≡ faded.now
  unfolding seen'
  at_n = ap (λ (b : Bool). if b then faded.now else h.seen n) (eq-eqb n n refl)

  off_n : (k : ℕ) → k ≢ n → seen' k ≡ h.seen k
  unfolding seen'
  off_n k other = ap (λ (b : Bool). if b then faded.now else h.seen k) (ne_eqb k n other)

  lefts_at : lefts n ≡ spots n faded.gone
  unfolding lefts
  lefts_at = ap (λ (b : Bool). if b then spots n faded.gone else []) (eq-eqb n n refl)

  lefts_off : (k : ℕ) → k ≢ n → lefts k ≡ []
  unfolding lefts
  lefts_off k other = ap (λ (b : Bool). if b then spots n faded.gone else []) (ne_eqb k n other)

  split_each : (k : ℕ) → Splits (spots k (present (h.seen k))) (spots k (present (seen' k))) (lefts k)
  split_each k = ⊎_elim
      (λ (here : k ≡ n). subst (λ (j : ℕ). Splits (spots j (present (h.seen j))) (spots j (present (seen' j))) (lefts j)) (sym here)
      (subst (λ (s : List Seen). Splits (spots n (present (h.seen n))) (spots n (present s)) (lefts n)) (sym at_n)
      (subst (Splits (spots n (present (h.seen n))) (spots n (present faded.now))) (sym lefts_at)
      (split_spots n (present (h.seen n)) (present faded.now) faded.gone faded.splits))))
      (λ other. subst (λ (s : List Seen). Splits (spots k (present (h.seen k))) (spots k (present s)) (lefts k)) (sym (off_n k other))
      (subst (Splits (spots k (present (h.seen k))) (spots k (present (h.seen k)))) (sym (lefts_off k other)) (split_self (spots k (present (h.seen k))))))
      (cases_eq k n)

  zipped : ZipSplit (IsMessageOf F q) (below (λ k. spots k (present (seen' k))) h.most) (below lefts h.most) l
  zipped = zip_split (IsMessageOf F q) (below (λ k. spots k (present (h.seen k))) h.most) (below (λ k. spots k (present (seen' k))) h.most) (below lefts h.most) l h.each
      (split_below (λ k. spots k (present (h.seen k))) (λ k. spots k (present (seen' k))) lefts h.most split_each)

  entries_now : (k : ℕ) → AreEntries (G.contents (index_name q k)) (seen' k)
  entries_now k = ⊎_elim
      (λ (here : k ≡ n). subst (λ (j : ℕ). AreEntries (G.contents (index_name q j)) (seen' j)) (sym here) (subst (AreEntries (G.contents (index_name q n))) (sym at_n) faded.entries))
      (λ other. subst (AreEntries (G.contents (index_name q k))) (sym (off_n k other))
      (subst (λ (c : List ℕ). AreEntries c (h.seen k)) (sym (others (index_name q k) (λ e. other (ap (λ (m : Name). m.number) e)))) (h.entries k)))
      (cases_eq k n)

  short_now : (k : ℕ) → length (seen' k) ≤ most_entries
  short_now k = ⊎_elim
      (λ (here : k ≡ n). subst (λ (j : ℕ). length (seen' j) ≤ most_entries) (sym here) (subst (λ (s : List Seen). length s ≤ most_entries) (sym at_n) (omega (arith, faded.many, h.short n))))
      (λ other. subst (λ (s : List Seen). length s ≤ most_entries) (sym (off_n k other)) (h.short k))
      (cases_eq k n)

  nothing_of_none : (all kept left : List Entry) → Splits all kept left → all ≡ [] → (kept ≡ []) × (left ≡ [])
  nothing_of_none [] kept left s none = s
  nothing_of_none (x ∷ all) kept left s none = let e : suc (length all) ≡ 0 = ap length none in absurd (omega (arith, e))

  none_now : (k : ℕ) → h.most ≤ k → present (seen' k) ≡ []
  none_now k ge = ⊎_elim
      (λ (here : k ≡ n). subst (λ (j : ℕ). h.most ≤ j → present (seen' j) ≡ []) (sym here)
      (λ le. ap present at_n ∙ (nothing_of_none (present (h.seen n)) (present faded.now) faded.gone faded.splits (h.none n le)).0) ge)
      (λ other. ap present (off_n k other) ∙ h.none k ge)
      (cases_eq k n)

  still : (ss : List Spot) (ms : List Message) → AllZip (IsMessageOf F q) ss ms → AllZip (IsMessageOf G q) ss ms
  still ss ms z = zip_wider (IsMessageOf F q) (IsMessageOf G q) ss ms (message_more F G q [] shelves kinds (λ k. inl (others (small_name q k) (small_is_not q k q n)))) z

  of_lefts : (k : ℕ) (s : Spot) → IsIn (lefts k) s → IsIn faded.gone s.entry
  of_lefts k s there = ⊎_elim
      (λ (here : k ≡ n). (in_spot n faded.gone s (subst (λ (ss : List Spot). IsIn ss s) (ap lefts here ∙ lefts_at) there)).1)
      (λ other. absurd (subst (λ (ss : List Spot). IsIn ss s) (lefts_off k other) there))
      (cases_eq k n)

  some_below : (e : Entry) → IsIn faded.gone e → n < h.most
  some_below e there = ⊎_elim (λ (lt : n < h.most). lt)
      (λ (ge : h.most ≤ n). absurd (subst (λ (es : List Entry). IsIn es e) (nothing_of_none (present (h.seen n)) (present faded.now) faded.gone faded.splits (h.none n ge)).1 there))
      (cases_lt n h.most)

  pub fade_holds : FadedHolds G q l (F.contents (index_name q n)) (G.contents (index_name q n)) lost
  fade_holds = record {
    keeps = zipped.keeps;
    leaves = zipped.leaves;
    splits = zipped.splits;
    holds = record { seen = seen'; entries = entries_now; short = short_now; most = h.most; none = none_now; each = still (below (λ k. spots k (present (seen' k))) h.most) zipped.keeps zipped.here };
    were_lost = λ m there.
        let s = zip_left (IsMessageOf F q) (below lefts h.most) zipped.leaves m zipped.gone there in
        let k = in_below lefts h.most s.0 s.1.0 in
        let w = faded.were_lost s.0.entry (of_lefts k.0 s.0 k.1) in
        (w.0, (w.1.0, (s.0.entry, (w.1.1, s.1.1.id))));
    all_lost = λ k e at ne.
        let there = faded.all_lost k e at ne in
        let spot = below_in lefts h.most n (record { segment = n; entry = e }) (some_below e there) (subst (λ (ss : List Spot). IsIn ss (record { segment = n; entry = e })) (sym lefts_at) (spot_in n faded.gone e there)) in
        let m = zip_right (IsMessageOf F q) (below lefts h.most) zipped.leaves (record { segment = n; entry = e }) zipped.gone spot in
        (m.0, (m.1.0, m.1.1.id));
  }

-- another queue holds what it held
pub fade_other : (F G : Folder) (r n q : ℕ) → G.shelves ≡ F.shelves → G.kinds ≡ F.kinds → ((m : Name) → m ≢ index_name r n → G.contents m ≡ F.contents m) → q ≢ r → (l : List Message) → HoldsIn F q l → HoldsIn G q l
fade_other F G r n q shelves kinds others other l h = record {
  seen = h.seen;
  entries = λ k. subst (λ (c : List ℕ). AreEntries c (h.seen k)) (sym (others (index_name q k) (λ e. other (ap (λ (m : Name). m.queue) e)))) (h.entries k);
  short = h.short;
  most = h.most;
  none = h.none;
  each = zip_wider (IsMessageOf F q) (IsMessageOf G q) (below (λ k. spots k (present (h.seen k))) h.most) l (message_more F G q [] shelves kinds (λ k. inl (others (small_name q k) (small_is_not q k r n)))) h.each;
}
