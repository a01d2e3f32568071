-- Files whose contents have grown hold what they held, and more.
use Rattle.std.proofs.Common.{◌≡◌, ◌≢◌, ◌⊎◌, inl, inr, ⊎_elim, ℕ, suc, ◌+◌, ◌*◌, ◌-◌, ◌≤◌, Bool, List, [], ◌∷◌, ◌++◌, length, map, refl, sym, ap, ◌∙◌, subst, append_assoc, length-append, arith}
use Rattle.std.specs.Prelude.{◌==◌, if◌then◌else◌}
use Rattle.cq_folder.specs.Holding.{IsLast}
use Rattle.std.specs.List.{AllByRecursion, AllZip}
use Rattle.std.proofs.lemmas.Bool.{cases_eq, eq-eqb, ne_eqb}
use Rattle.std.proofs.lemmas.List.{length-map}
use Rattle.cq_disk.specs.declared.name.Kind.TheVariants.{Index, Small}
use Rattle.cq_disk.specs.declared.name.Name.{Name}
use Rattle.cq_entry.specs.declared.entry.Entry.{Entry}
use Rattle.cq_entry.specs.declared.entry.Seen.{Seen}
use Rattle.cq_entry.specs.declared.entry.Seen.TheVariants.{Present}
use Rattle.cq_entry.specs.Entry.{entry_bytes, IsPresent}
use Rattle.cq_small.specs.Record.{StandsIn}
use Rattle.cq_small.specs.Store.{small_name}
use Rattle.cq_small.proofs.Records.{record_kept}
use Rattle.cq_index.specs.Codec.{entry_len, most_entries}
use Rattle.cq_index.specs.Places.{index_name, entries_bytes}
use Rattle.cq_journal.specs.declared.event.Message.{Message}
use Rattle.cq_folder.specs.Folder.{AreEntries, present, Spot, spots, below, IsMessageOf, HoldsIn, Folder, IsShelved, Grows}
use Rattle.cq_folder.proofs.Below.{below_same, below_both, zip_append, zip_wider}
use Rattle.cq_folder.proofs.Entries.{entries_append, entries_are, length-seen, present_append}
use Rattle.cq_folder.proofs.Images.{at_name}

grows_each : (name : Name) (bytes : List ℕ) (F G : Folder) → Grows name bytes F G → (n : Name) → (G.contents n ≡ F.contents n) ⊎ (G.contents n ≡ F.contents n ++ bytes)
grows_each name bytes F G grows = at_name (λ n. (G.contents n ≡ F.contents n) ⊎ (G.contents n ≡ F.contents n ++ bytes)) name (inr grows.this) (λ n other. inl (grows.others n other))

pub index_is_not : (q n q' n' : ℕ) → index_name q n ≢ small_name q' n'
index_is_not q n q' n' e = let k : Index ≡ Small = ap (λ (m : Name). m.kind) e in cc

pub small_is_not : (q n q' n' : ℕ) → small_name q n ≢ index_name q' n'
small_is_not q n q' n' e = index_is_not q' n' q n (sym e)

-- ---- records more

stands_more : (place : ℕ) (body content more : List ℕ) → StandsIn content place body → StandsIn (content ++ more) place body
stands_more place body content more s = record { from = s.from; is = record_kept content more (place - 128) body s.is }

-- where the indexes stay, and each entry's message stays its message
pub same_index : (F G : Folder) (q : ℕ) (l : List Message) → ((n : ℕ) → G.contents (index_name q n) ≡ F.contents (index_name q n)) → ((s : Spot) (m : Message) → IsMessageOf F q s m → IsMessageOf G q s m) → HoldsIn F q l → HoldsIn G q l
same_index F G q l same still h = record {
  seen = h.seen;
  entries = λ n. subst (λ (c : List ℕ). AreEntries c (h.seen n)) (sym (same n)) (h.entries n);
  short = h.short;
  most = h.most;
  none = h.none;
  each = zip_wider (IsMessageOf F q) (IsMessageOf G q) (below (λ n. spots n (present (h.seen n))) h.most) l still h.each;
}

pub message_more : (F G : Folder) (q : ℕ) (bytes : List ℕ) → G.shelves ≡ F.shelves → G.kinds ≡ F.kinds → ((n : ℕ) → (G.contents (small_name q n) ≡ F.contents (small_name q n)) ⊎ (G.contents (small_name q n) ≡ F.contents (small_name q n) ++ bytes)) → (s : Spot) (m : Message) → IsMessageOf F q s m → IsMessageOf G q s m
message_more F G q bytes shelves kinds more s m was = record {
  id = was.id;
  len = was.len;
  kind = was.kind ∙ sym (λ i. kinds i m);
  stands = λ small. ⊎_elim
      (λ same. subst (λ (c : List ℕ). StandsIn c s.entry.place m.body) (sym same) (was.stands small))
      (λ grew. subst (λ (c : List ℕ). StandsIn c s.entry.place m.body) (sym grew) (stands_more s.entry.place m.body (F.contents (small_name q s.segment)) bytes (was.stands small)))
      (more s.segment);
  shelved = λ shared. subst (λ (S : ℕ → List Message). IsShelved S m) (sym shelves) (was.shelved shared);
}

-- bytes that join a small store change nothing of what is held
pub small_grows : (F G : Folder) (r n : ℕ) (bytes : List ℕ) → Grows (small_name r n) bytes F G → (q : ℕ) (l : List Message) → HoldsIn F q l → HoldsIn G q l
small_grows F G r n bytes grows q l h = same_index F G q l (λ k. grows.others (index_name q k) (index_is_not q k r n)) (message_more F G q bytes grows.shelves grows.kinds (λ k. grows_each (small_name r n) bytes F G grows (small_name q k))) h

-- ---- entries more

spots_append : (n : ℕ) (a b : List Entry) → spots n (a ++ b) ≡ spots n a ++ spots n b
spots_append n [] b = refl
spots_append n (e ∷ es) b = ap (λ (ss : List Spot). record { segment = n; entry = e } ∷ ss) (spots_append n es b)

-- another queue holds what it held
pub index_grows_other : (F G : Folder) (r n : ℕ) (bytes : List ℕ) → Grows (index_name r n) bytes F G → (q : ℕ) (l : List Message) → q ≢ r → HoldsIn F q l → HoldsIn G q l
index_grows_other F G r n bytes grows q l other h = same_index F G q l
    (λ k. grows.others (index_name q k) (λ e. other (ap (λ (m : Name). m.queue) e)))
    (message_more F G q bytes grows.shelves grows.kinds (λ k. inl (grows.others (small_name q k) (small_is_not q k r n)))) h

module _ (F G : Folder) (q n : ℕ) (es : List Entry) (grows : Grows (index_name q n) (entries_bytes es) F G) (l ms : List Message) (h : HoldsIn F q l)
    (room : length (F.contents (index_name q n)) + entry_len * length es ≤ entry_len * most_entries) (last : IsLast F.contents q n) (valid : AllByRecursion (λ e. IsPresent (entry_bytes e) e) es) (new : AllZip (IsMessageOf F q) (spots n es) ms) where
  abbrev seen' : ℕ → List Seen
  seen' k = if k == n then h.seen k ++ map Present es else h.seen k

  at_n : seen' n ≡ h.seen n ++ map Present es
  at_n = ap (λ (b : Bool). if b then h.seen n ++ map Present es else h.seen n) (eq-eqb n n refl)

  off_n : (k : ℕ) → k ≢ n → seen' k ≡ h.seen k
  off_n k other = ap (λ (b : Bool). if b then h.seen k ++ map Present es else h.seen k) (ne_eqb k n other)

  front : ℕ → List Spot
  front k = spots k (present (h.seen k))

  next : ℕ → List Spot
  next k = spots k (present (seen' k))

  off_next : (k : ℕ) → k ≢ n → next k ≡ front k
  unfolding front next
  off_next k other = ap (λ (s : List Seen). spots k (present s)) (off_n k other)

  at_next : next n ≡ front n ++ spots n es
  unfolding front next
  at_next = ap (λ (s : List Seen). spots n (present s)) at_n ∙ ap (spots n) (present_append (h.seen n) es) ∙ spots_append n (present (h.seen n)) es

  above_none : (k : ℕ) → suc n ≤ k → present (h.seen k) ≡ []
  above_none k gt = last k (omega (arith, gt)) (h.seen k) (h.entries k)

  above : (k : ℕ) → suc n ≤ k → front k ≡ []
  unfolding front
  above k gt = ap (spots k) (above_none k gt)

  above_old : (k : ℕ) → h.most ≤ k → front k ≡ []
  unfolding front
  above_old k ge = ap (spots k) (h.none k ge)

  all_next : below next (suc n) ≡ below front h.most ++ spots n es
  all_next =
      let start : below next n ≡ below front n = below_same next front n (λ k lt. off_next k (λ e. omega (arith, e, lt))) in
      ap (λ (xs : List Spot). xs ++ next n) start
      ∙ ap (λ (xs : List Spot). below front n ++ xs) at_next
      ∙ sym (append_assoc (below front n) (front n) (spots n es))
      ∙ ap (λ (xs : List Spot). xs ++ spots n es) (below_both front (suc n) h.most above above_old)

  entries_next : (k : ℕ) → AreEntries (G.contents (index_name q k)) (seen' k)
  entries_next k = ⊎_elim
      (λ here. subst (λ (j : ℕ). AreEntries (G.contents (index_name q j)) (seen' j)) (sym here)
      (subst (λ (s : List Seen). AreEntries (G.contents (index_name q n)) s) (sym at_n)
      (subst (λ (c : List ℕ). AreEntries c (h.seen n ++ map Present es)) (sym grows.this) (entries_append (F.contents (index_name q n)) (entries_bytes es) (h.seen n) (map Present es) (h.entries n) (entries_are es valid)))))
      (λ other. subst (λ (s : List Seen). AreEntries (G.contents (index_name q k)) s) (sym (off_n k other))
      (subst (λ (c : List ℕ). AreEntries c (h.seen k)) (sym (grows.others (index_name q k) (λ e. other (ap (λ (m : Name). m.number) e)))) (h.entries k)))
      (cases_eq k n)

  short_next : (k : ℕ) → length (seen' k) ≤ most_entries
  short_next k = ⊎_elim
      (λ here. let long = length-append (h.seen n) (map Present es) in let added = length-map es Present in let bytes = length-seen (F.contents (index_name q n)) (h.seen n) (h.entries n) in
      subst (λ (j : ℕ). length (seen' j) ≤ most_entries) (sym here) (subst (λ (s : List Seen). length s ≤ most_entries) (sym at_n) (omega (arith, long, added, bytes, room))))
      (λ other. subst (λ (s : List Seen). length s ≤ most_entries) (sym (off_n k other)) (h.short k))
      (cases_eq k n)

  -- the queue's greatest segment has got entries
  pub index_grows : HoldsIn G q (l ++ ms)
  unfolding front next
  index_grows = record {
    seen = seen';
    entries = entries_next;
    short = short_next;
    most = suc n;
    none = λ k ge. ap present (off_n k (λ e. omega (arith, e, ge))) ∙ above_none k ge;
    each = subst (λ (ss : List Spot). AllZip (IsMessageOf G q) ss (l ++ ms)) (sym all_next)
        (zip_append (IsMessageOf G q) (below front h.most) (spots n es) l ms (still (below front h.most) l h.each) (still (spots n es) ms new));
  }
    where
      still : (ss : List Spot) (ks : List Message) → AllZip (IsMessageOf F q) ss ks → AllZip (IsMessageOf G q) ss ks
      still ss ks z = zip_wider (IsMessageOf F q) (IsMessageOf G q) ss ks (message_more F G q [] grows.shelves grows.kinds (λ k. inl (grows.others (small_name q k) (small_is_not q k q n)))) z
