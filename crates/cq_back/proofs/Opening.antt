-- What the opened files of a folder tell.
use Rattle.std.proofs.Common.{◌≡◌, ◌⊎◌, inl, inr, ⊎_elim, ℕ, ◌+◌, ◌*◌, ◌-◌, ◌<◌, Bool, true, false, List, [], Option, Some, None, Result, Ok, Err, IfOk, IfErr, OnOk, OnErr, Contains, IfSome, IsSome, MatchOption, length, refl, sym, ◌∙◌, ap, subst, arith}
use Rattle.std.specs.Prelude.{◌↔◌, slice_index}
use Rattle.std.proofs.lemmas.Bool.{false≢true, cases_Bool}
use Rattle.std.specs.BTreeMap.{is_at}
use Rattle.cq_disk.specs.Names.{name_cmp}
use Rattle.cq_disk.specs.NamesLemmas.{found_is, distinct}
use Rattle.cq_disk.specs.Call.{Image, Elapses, LeavesOnly}
use Rattle.cq_disk.specs.Moments.{started, goes_on}
use Rattle.cq_entry.specs.declared.entry.Entry.{Entry}
use Rattle.cq_entry.specs.declared.entry.EntryKind.TheVariants.{Small as SmallEntry}
use Rattle.cq_entry.specs.Entry.{IsEntry, IsPresent, IsSeen, entry_bytes}
use Rattle.cq_index.proofs.Looked.{byte_of}
use Rattle.cq_back.specs.declared.found.HeldEntry.{HeldEntry}
use Rattle.cq_disk.specs.declared.name.Name.{Name}
use Rattle.cq_disk.specs.File.{File, settled}
use Rattle.cq_disk.specs.Files.{Among, AmongBytes, IsThere, SameFiles, IsImage, IsImageOf, Becomes, BecomesOrNot}
use Rattle.cq_gate.specs.declared.gate.Gate.{Gate}
use Rattle.cq_gate.specs.Format.{content, kind_byte, IsGated, IsFormed}
use Rattle.cq_gate.specs.Gate.{IsGate, Shows, kind_of}
use Rattle.cq_gate.proofs.Gates.{end_is}
use Rattle.cq_gate.proofs.Contents.{content_inside}
use Rattle.cq_small.specs.declared.store.SmallStore.{SmallStore}
use Rattle.cq_gate.specs.Calls.{BreaksHeader}
use Rattle.cq_gate.specs.Opened.{gate_len, IsThereGate}
use Rattle.cq_small.specs.Calls.{IsOpened}
use Rattle.cq_small.specs.Store.{IsWhole, StandsAt, IsSmallStore, name_of as store_name, len_of as store_len, IsVacant as IsStoreVacant}
use Rattle.cq_small.proofs.Records.{record_inside}
use Rattle.cq_index.specs.declared.segment.Segment.{Segment}
use Rattle.cq_index.specs.Codec.{entry_len}
use Rattle.cq_index.specs.Places.{place_of, entry_at}
use Rattle.cq_index.specs.Opened.{IsIndex}
use Rattle.cq_index.specs.Segments.{name_of, count_of, present_of, IsVacant, IsSegment, Knows}
use Rattle.cq_index.proofs.Entries.{entry_in}
use Rattle.cq_folder.specs.Held.{bytes_in, content_of, IsSettled}
use Rattle.cq_folder.proofs.Images.{at_name}
use Rattle.cq_back.specs.Folder.{index_file, small_file, file_bytes, IsStray, IsImageOrWithout}
use Rattle.cq_back.specs.declared.error.BackError.{BackError}
use Rattle.cq_back.specs.declared.error.BackError.TheVariants.{Fault, Memory, Damaged}
use Rattle.cq_back.specs.Read.{IsIndexOf, IsLacking, IsBodyAt, IfDamaged, Breaks, Misfits, holds_id, piece, seen_of}
use Rattle.cq_back.specs.Read.Misfits.{Lacking}
use Rattle.cq_back.specs.Found.{BreaksSmall}
use Rattle.cq_back.specs.Cause.{HasCause, WasUnfit}
use Rattle.cq_back.specs.Cause.HasCause.{OfUnfit}

-- a fact of the bytes of a file
pub among_bytes : (slot : Option File) (P : List ℕ → Type 0) → Among slot (λ f. P f.reads) → AmongBytes (bytes_in slot) P
among_bytes None P none = none
among_bytes (Some f) P has = has

-- a header that breaks a rule
pub header_broken : (slot : Option File) (place found : ℕ) → Among slot (BreaksHeader 2 place found) → AmongBytes (bytes_in slot) (λ file. BreaksSmall file place × (found ≡ slice_index file place))
header_broken None place found none = none
header_broken (Some f) place found b = ((b.long, b.breaks), b.found_is)

pub bytes_have : (slot : Option File) (P : List ℕ → Type 0) → Among slot (λ f. P f.reads) → P (file_bytes slot)
bytes_have None P none = absurd none
bytes_have (Some f) P has = has

no_header : (file : List ℕ) (kind : ℕ) → file ≡ [] → IsGated kind file
no_header file kind none = λ long. let l : length file ≡ 0 = ap length none in absurd (omega (arith, l, long))

-- ---- the index

pub vacant_index : (segment : Segment) (slot : Option File) → count_of segment ≡ 0 → present_of segment ≡ [] → slot ≡ None → IsIndexOf (count_of segment) (present_of segment) (file_bytes slot)
vacant_index segment None count none is = record {
  formed = no_header [] 1 refl;
  len = let z : entry_len * count_of segment ≡ 0 = omega (arith, count) in sym z;
  lists = record { listed = λ k lt. absurd (omega (arith, lt, count)); formed = λ k lt. absurd (omega (arith, lt, count)) };
  pieces = λ k lt. absurd (omega (arith, lt, count));
}
vacant_index segment (Some f) count none is = absurd (some_none is)
  where
    some_none : Some f ≡ None → ⊥
    some_none e = cc

pub vacant_segment : (segment : Segment) (slot : Option File) → IsVacant segment → slot ≡ None → IsSegment segment slot
vacant_segment segment slot vacant is = record { absent = λ v. is; there = λ gate open_. absurd (none_some gate (sym vacant ∙ open_)) }
  where
    none_some : (gate : Gate) → None ≡ Some gate → ⊥
    none_some gate e = cc

module _ (segment : Segment) (f : File) (name : name_of segment ≡ index_file) (is : IsSegment segment (Some f)) where
  gated : (o : Option Gate) → segment.gate ≡ o → IsThereGate o (λ gate. IsIndex gate (count_of segment) (present_of segment) f.reads) → IsIndexOf (count_of segment) (present_of segment) f.reads
  gated None none knows = absurd knows
  gated (Some gate) open_ knows =
      let g : IsGate gate f = ((is.there gate open_).has f refl).is in
      let ends : gate.end ≡ place_of (count_of segment) = omega (arith, end_is gate f g, knows.entries.len) in
      let kind : kind_of gate ≡ 1 = ap (λ (n : Name). kind_byte n.kind) ((segment.gated gate open_).name_is ∙ name) in
      record {
        formed = λ long. subst (λ (k : ℕ). IsFormed k f.reads) kind (knows.shows.selected (omega (arith, long, knows.shows.len))).formed;
        len = knows.entries.len;
        lists = knows.lists;
        pieces = λ k lt. entry_in gate f (count_of segment) k g ends lt;
      }

pub opened_segment : (segment : Segment) (slot : Option File) → IsSettled slot → IsThere slot (λ f. f ≡ settled f.reads → IsSegment segment (Some f)) → IsSegment segment slot
opened_segment segment None settled_ is = absurd (false≢true is.is_some)
opened_segment segment (Some f) settled_ is = is.has f refl (settled_ f refl)

pub opened_index : (segment : Segment) (slot : Option File) → name_of segment ≡ index_file → IsSettled slot → IsThere slot (Knows segment) → IsThere slot (λ f. f ≡ settled f.reads → IsSegment segment (Some f)) → IsIndexOf (count_of segment) (present_of segment) (file_bytes slot)
opened_index segment None name settled_ knows is = absurd (false≢true is.is_some)
opened_index segment (Some f) name settled_ knows is = gated segment f name (is.has f refl (settled_ f refl)) segment.gate refl (knows.has f refl)

-- ---- the small store

pub vacant_small : (store : SmallStore) (slot : Option File) → IsStoreVacant store → slot ≡ None → IsSmallStore store slot
vacant_small store slot vacant is = record { absent = λ v. is; there = λ gate open_. absurd (none_some gate (sym vacant ∙ open_)) }
  where
    none_some : (gate : Gate) → None ≡ Some gate → ⊥
    none_some gate e = cc

pub absent_formed : (slot : Option File) → slot ≡ None → IsGated 2 (file_bytes slot)
absent_formed slot is = no_header (file_bytes slot) 2 (ap file_bytes is)

same_file : (f h : File) → Some f ≡ Some h → f ≡ h
same_file f h e = cc

pub opened_small : (store : SmallStore) (slot : Option File) → IsSettled slot → IsThere slot (IsOpened store) → IsSmallStore store slot
opened_small store None settled_ is = absurd (false≢true is.is_some)
opened_small store (Some f) settled_ is = record {
  absent = λ none. absurd (subst (λ (o : Option Gate). IsThereGate o (λ gate. IsGate gate f)) none known);
  there = λ gate open_. record { is_some = refl; has = λ h same. subst (IsGate gate) (same_file f h same) (subst (λ (o : Option Gate). IsThereGate o (λ gate'. IsGate gate' f)) open_ known) };
}
  where
    known : IsThereGate store.gate (λ gate. IsGate gate f)
    known = (is.has f refl).is (settled_ f refl)

pub small_formed : (store : SmallStore) (slot : Option File) → store_name store ≡ small_file → IsThere slot (IsOpened store) → IsGated 2 (file_bytes slot)
small_formed store None name is = absurd (false≢true is.is_some)
small_formed store (Some f) name is = shown store.gate refl (is.has f refl).knows
  where
    shown : (o : Option Gate) → store.gate ≡ o → IsThereGate o (λ gate. Shows gate f.reads) → IsGated 2 f.reads
    shown None none shows = absurd shows
    shown (Some gate) open_ shows =
        let kind : kind_of gate ≡ 2 = ap (λ (n : Name). kind_byte n.kind) ((store.gated gate open_).name_is ∙ name) in
        λ long. subst (λ (k : ℕ). IsFormed k f.reads) kind (shows.selected (omega (arith, long, shows.len))).formed

-- ---- a record

lacks_none : (content : List ℕ) (place len : ℕ) → length content ≡ 0 → IsLacking content place len
lacks_none content place len none body is stands = let inside = record_inside content (place - 128) body stands.is in absurd (omega (arith, inside, none))

-- no store, no record
pub none_lacks : (slot : Option File) (place len : ℕ) → slot ≡ None → IsLacking (content_of (bytes_in slot)) place len
none_lacks None place len is = lacks_none [] place len refl
none_lacks (Some f) place len is = absurd (some_none is)
  where
    some_none : Some f ≡ None → ⊥
    some_none e = cc

-- a record ends within the file
pub outside_lacks : (slot : Option File) (gate : Gate) (place len : ℕ) → IsThere slot (IsGate gate) → gate.len < place + (len + 5) → IsLacking (content_of (bytes_in slot)) place len
outside_lacks None gate place len is past body same stands = absurd (false≢true is.is_some)
outside_lacks (Some f) gate place len is past body same stands =
    let g = is.has f refl in
    let inside = record_inside (content f.reads) (place - 128) body stands.is in
    let whole = content_inside gate f g in
    absurd (grind (arith, inside, whole, g.len_is, past, same, stands.from))

pub store_lacks : (store : SmallStore) (slot : Option File) (place len : ℕ) → IsSmallStore store slot → store_len store < place + (len + 5) → IsLacking (content_of (bytes_in slot)) place len
store_lacks store slot place len is past = of_gate store.gate refl past
  where
    of_gate : (o : Option Gate) → store.gate ≡ o → gate_len o < place + (len + 5) → IsLacking (content_of (bytes_in slot)) place len
    of_gate None none past = none_lacks slot place len (is.absent none)
    of_gate (Some gate) open_ past = outside_lacks slot gate place len (is.there gate open_) past

pub not_whole : (slot : Option File) (whole : Bool) (place len : ℕ) → whole ≡ false → ((whole ≡ true) ↔ Among slot (λ f. IsWhole f.reads place len)) → IsLacking (content_of (bytes_in slot)) place len
not_whole None whole place len off is = lacks_none [] place len refl
not_whole (Some f) whole place len off is = λ body same stands. false≢true (sym off ∙ is.1 (body, (same, stands)))

pub is_whole : (slot : Option File) (whole : Bool) (place len : ℕ) → whole ≡ true → ((whole ≡ true) ↔ Among slot (λ f. IsWhole f.reads place len)) → Among slot (λ f. IsWhole f.reads place len)
is_whole slot whole place len yes_ is = is.0 yes_

pub body_stands : (slot : Option File) (place len : ℕ) (body : List ℕ) → length body ≡ len → Among slot (λ f. StandsAt f.reads place body) → IsBodyAt (content_of (bytes_in slot)) place len body
body_stands None place len body same none = absurd none
body_stands (Some f) place len body same stands = record { len_is = same; stands = stands }

-- ---- errors and files that stay

pub damaged_to : (error : BackError) (P Q : Name → ℕ → ℕ → Type 0) → ((name : Name) (place byte : ℕ) → P name place byte → Q name place byte) → IfDamaged error P → IfDamaged error Q
damaged_to Fault P Q step has = tt
damaged_to Memory P Q step has = tt
damaged_to (Damaged name place byte) P Q step has = step name place byte has

pub same_files : (old new : Name → Option File) → SameFiles old new → new ≡ old
same_files old new same = λ i n. same n i

-- the store's file is the folder's
pub store_named : (store : SmallStore) (files : Name → Option File) → store_name store ≡ small_file → IsSmallStore store (files small_file) → IsSmallStore store (files (store_name store))
store_named store files name is = subst (λ (n : Name). IsSmallStore store (files n)) (sym name) is

-- an entry that doesn't fit is told by its field's first byte
pub breaks_at : (Told : Type 0) (small file : List ℕ) (held : List HeldEntry) (at : ℕ) (e : Entry) (byte : ℕ) (error : BackError) → error ≡ Damaged index_file (place_of at + byte) (slice_index (entry_bytes e) byte) → byte < 32
    → (Told → IsPresent (entry_at file at) e) → (Told → Misfits small held e byte) → IfDamaged error (λ name place found. Told → Breaks small file held at e name place found)
breaks_at Told small file held at e byte error is inside stored misfits =
    subst (λ (x : BackError). IfDamaged x (λ name place found. Told → Breaks small file held at e name place found)) (sym is) (λ told. record {
      byte = byte;
      misfits = misfits told;
      name_is = refl;
      place_is = refl;
      found_is = ap (λ (l : List ℕ). slice_index l byte) (sym (stored told).spelled) ∙ byte_of file at byte inside;
    })

-- on each disk
pub unfit_at : (held : List HeldEntry) (at : ℕ) (e : Entry) (byte : ℕ) (error : BackError) → error ≡ Damaged index_file (place_of at + byte) (slice_index (entry_bytes e) byte) → IsEntry e → WasUnfit held e byte → IfDamaged error HasCause
unfit_at held at e byte error is valid unfit =
    subst (λ (x : BackError). IfDamaged x HasCause) (sym is) (OfUnfit refl (record { at = at; held = held; entry = e; valid = valid; byte = byte; unfit = unfit; place_is = refl; found_is = refl }))

pub lacks_of : (small : List ℕ) (held : List HeldEntry) (e : Entry) (body : Option (List ℕ)) → body ≡ None → holds_id held e.id ≡ false → e.kind ≡ SmallEntry → MatchOption body (IsLacking small e.place e.len) (λ b. IsBodyAt small e.place e.len b) → Misfits small held e 24
lacks_of small held e None is new kind lacks = Lacking refl new kind lacks
lacks_of small held e (Some b) is new kind lacks = absurd (some_none is)
  where
    some_none : Some b ≡ None → ⊥
    some_none x = cc

-- what stands at an entry's place
seen_there : (file : List ℕ) (count : ℕ) (present : List ℕ) (at : ℕ) (entry : Option Entry) → at < count → IsIndexOf count present file → (IsSome entry ↔ Contains present at) → IfSome entry (λ e. IsPresent (entry_at file at) e) → IsSeen (piece file at) (seen_of entry)
seen_there file count present at None lt is listed stands = λ one. false≢true (listed.1 ((is.lists.listed at lt).1 (ap (λ (l : List ℕ). slice_index l 0) (is.pieces at lt) ∙ one)))
seen_there file count present at (Some e) lt is listed stands = (ap (λ (l : List ℕ). slice_index l 0) (sym (is.pieces at lt)) ∙ (is.lists.listed at lt).0 (listed.0 refl), subst (λ (l : List ℕ). IsPresent l e) (is.pieces at lt) stands)

some_stands : (Told : Type 0) → Told → (slot : Option File) (at : ℕ) (entry : Option Entry) → IfSome entry (λ e. Told → Among slot (λ f. IsPresent (entry_at f.reads at) e)) → IfSome entry (λ e. IsPresent (entry_at (file_bytes slot) at) e)
some_stands Told told slot at None stands = tt
some_stands Told told slot at (Some e) stands = bytes_have slot (λ l. IsPresent (entry_at l at) e) (stands told)

pub next_seen : (Told : Type 0) → Told → (files : Name → Option File) (name : Name) (count : ℕ) (present : List ℕ) (at : ℕ) (entry : Option Entry) → name ≡ index_file → at < count → IsIndexOf count present (file_bytes (files index_file)) → (IsSome entry ↔ Contains present at)
    → IfSome entry (λ e. Told → Among (files name) (λ f. IsPresent (entry_at f.reads at) e)) → IsSeen (piece (file_bytes (files index_file)) at) (seen_of entry)
next_seen Told told files name count present at entry is lt index listed stands =
    seen_there (file_bytes (files index_file)) count present at entry lt index listed
    (some_stands Told told (files index_file) at entry (subst (λ (n : Name). IfSome entry (λ e. Told → Among (files n) (λ f. IsPresent (entry_at f.reads at) e))) is stands))

-- ---- a small store goes

removed : {T E : Type 0} → T → (result : Result (Unit {0}) E) (name : Name) (old new : Name → Option File) → OnOk result (T → Becomes name None old new) → OnErr result (T → BecomesOrNot name None old new) → BecomesOrNot name None old new
removed told (Ok v) name old new ok fault = record { this = inl (ok told).this; others = (ok told).others }
removed told (Err e) name old new ok fault = fault told

-- no file is there that wasn't there before
pub none_removed : {T E : Type 0} → T → (result : Result (Unit {0}) E) (name : Name) (old new : Name → Option File) → OnOk result (T → Becomes name None old new) → OnErr result (T → BecomesOrNot name None old new) → (n : Name) → old n ≡ None → new n ≡ None
none_removed told result name old new ok fault =
    let step = removed told result name old new ok fault in
    at_name (λ n. old n ≡ None → new n ≡ None) name (λ none. ⊎_elim (λ gone. gone) (λ same. same ∙ none) step.this) (λ n other none. step.others n other ∙ none)

gone_image : (slot : Option File) (c : Option (List ℕ)) → slot ≡ None → IsImageOf slot c → c ≡ None
gone_image None None is image = refl
gone_image None (Some c) is image = absurd image
gone_image (Some f) c is image = absurd (some_none is)
  where
    some_none : Some f ≡ None → ⊥
    some_none x = cc

module _ {D : Type 0} (moment : D → ℕ) (left : D → ℕ → ℕ → Image → Type 0) (files : D → Name → Option File) (now_only : (disk : D) (image : Image) → left disk (moment disk) (moment disk) image → IsImage (files disk) image) where
  -- the small store is there, or it isn't
  pub remove_only : {T E : Type 0} → T → (old new : D) (result : Result (Unit {0}) E) → files old index_file ≡ None → OnOk result (T → Becomes small_file None (files old) (files new)) → OnErr result (T → BecomesOrNot small_file None (files old) (files new))
      → Elapses (moment old) (moment new) (left old) (left new) → LeavesOnly moment left old new (IsImageOrWithout (files old))
  remove_only told old new result alone ok fault time =
      let step = removed told result small_file (files old) (files new) ok fault in
      goes_on moment left files now_only old old new (IsImageOrWithout (files old)) (started moment left files now_only old (IsImageOrWithout (files old)) (λ c image n. inl (image n))) time
      (λ c image n. ⊎_elim
      (λ this. let e = found_is small_file n this in
      subst (λ (m : Name). IsImageOf (files old m) (c m) ⊎ (IsStray (files old) m × (c m ≡ None))) (sym e)
      (⊎_elim (λ none. inr (record { kind = refl; alone = alone }, gone_image (files new small_file) (c small_file) none (image small_file)))
      (λ same. inl (subst (λ (o : Option File). IsImageOf o (c small_file)) same (image small_file))) step.this))
      (λ other. inl (subst (λ (o : Option File). IsImageOf o (c n)) (step.others n (distinct small_file n other)) (image n)))
      (cases_Bool (is_at (name_cmp small_file) n)))

pub if_err : {T E : Type 0} (result : Result T E) (P Q : E → Type 0) → ((e : E) → P e → Q e) → IfErr result P → IfErr result Q
if_err (Ok v) P Q step has = tt
if_err (Err e) P Q step has = step e has

pub if_ok : {T E : Type 0} (result : Result T E) (P Q : T → Type 0) → ((v : T) → P v → Q v) → IfOk result P → IfOk result Q
if_ok (Ok v) P Q step has = step v has
if_ok (Err e) P Q step has = tt

pub if_ok_with : {T E : Type 0} (result : Result T E) (A : Type 0) (P Q : T → Type 0) → ((v : T) → A → P v → Q v) → OnOk result A → IfOk result P → IfOk result Q
if_ok_with (Ok v) A P Q step all has = step v all has
if_ok_with (Err e) A P Q step all has = tt

-- one error, whatever a value would be
pub err_of : {T S E : Type 0} (fault e : E) → Path (Result T E) (Err e) (Err fault) → Path (Result S E) (Err e) (Err fault)
err_of {T = T} {S = S} {E = E} fault e is = let same : e ≡ fault = one is in ap Err same
  where
    one : Path (Result T E) (Err e) (Err fault) → e ≡ fault
    one h = cc

-- a value is no error
pub no_error_of : {T E : Type 0} {v : T} {fault : E} → Path (Result T E) (Ok v) (Err fault) → ⊥
no_error_of e = cc

-- a fact of an answer, by its case
pub at_each : {T E : Type 0} (result : Result T E) (P : T → Type 0) → ((x : T) → result ≡ Ok x → P x) → IfOk result P
at_each (Ok x) P at = at x refl
at_each (Err e) P at = tt

pub at_error : {T E : Type 0} (result : Result T E) (P : E → Type 0) → ((e : E) → result ≡ Err e → P e) → IfErr result P
at_error (Ok x) P at = tt
at_error (Err e) P at = at e refl

pub of_ok : {T E : Type 0} (P : T → Type 0) (result : Result T E) (x : T) → result ≡ Ok x → IfOk result P → P x
of_ok P (Ok y) x is has = (let same : y ≡ x = cc in subst P same has)
of_ok P (Err e) x is has = cc

pub of_err : {T E : Type 0} (P : E → Type 0) (result : Result T E) (e : E) → result ≡ Err e → IfErr result P → P e
of_err P (Ok y) e is has = cc
of_err P (Err f) e is has = (let same : f ≡ e = cc in subst P same has)
