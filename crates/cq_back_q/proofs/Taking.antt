-- One entry more, with its body.
use Rattle.std.proofs.Common.{◌≡◌, ⊎_elim, ℕ, ◌+◌, ◌<◌, Bool, true, false, List, [], ◌∷◌, ◌++◌, length, Option, Some, None, refl, sym, ap, ◌∙◌, subst, arith}
use Rattle.std.specs.Prelude.{◌==◌, ◌||◌, slice_index}
use Rattle.std.specs.Ordering.{nat_cmp}
use Rattle.std.specs.BTreeSet as set
use Rattle.std.specs.List.{AllByRecursion, AllZip}
use Rattle.std.proofs.lemmas.Bool.{or_cases, or_from, or_parts, eqb-true, eqb-false, ne_eqb, false≢true}
use Rattle.std.proofs.lemmas.List.Folds.{list_any-append}
use Rattle.cq_bytes.specs.Numbers.{contains}
use Rattle.cq_disk.specs.declared.name.Name.{Name}
use Rattle.cq_disk.specs.Call.{Image}
use Rattle.cq_disk.specs.File.{File}
use Rattle.cq_disk.specs.Files.{Among}
use Rattle.cq_entry.specs.declared.entry.Entry.{Entry}
use Rattle.cq_entry.specs.declared.entry.EntryKind.TheVariants.{Small as SmallEntry}
use Rattle.cq_entry.specs.Entry.{IsEntry, entry_bytes}
use Rattle.cq_small.specs.Record.{StandsIn, IsWhole}
use Rattle.cq_small.specs.Store.{small_name}
use Rattle.cq_small.proofs.Records.{record_inside}
use Rattle.cq_index.specs.Places.{index_name, place_of}
use Rattle.cq_folder.specs.Held.{as_read, bytes_in, content_of}
use Rattle.cq_folder.proofs.Below.{zip_append}
use Rattle.cq_back_q.specs.declared.found.HeldEntry.{HeldEntry}
use Rattle.cq_back_q.specs.declared.error.BackError.{BackError}
use Rattle.cq_back_q.specs.declared.error.BackError.TheVariants.{Damaged}
use Rattle.cq_back_q.specs.declared.taken.Taken.{Taken}
use Rattle.cq_back_q.specs.Sound.{IsHeldAt}
use Rattle.cq_back_q.specs.Found.{HasDistinct, IsBodyOf, ids_of, places_of}
use Rattle.cq_back_q.specs.Read.{HaveStood, StandsAs}
use Rattle.cq_back_q.specs.Damage.{IfDamaged, IsBefore, IsMisread, Misfits, WasUnfit}
use Rattle.cq_back_q.specs.Damage.HasCause.{OfUnfit}
use Rattle.cq_back_q.specs.Damage.Misfits.{Repeated, Lacking}
use Rattle.cq_back_q.specs.Reading.{HaveRead, ReadsMore}

-- ---- an entry that doesn't fit

-- it is told by its field's first byte
pub unfit_at : (Told : Type 0) (image : Image) (h : HeldEntry) (byte : ℕ) (error : BackError) → error ≡ Damaged (index_name h.queue h.segment) (place_of h.at + byte) (slice_index (entry_bytes h.entry) byte) → byte < 32 → IsEntry h.entry → WasUnfit h.entry byte
    → (Told → IsHeldAt image h) → (Told → Misfits h.queue image h.segment h.at h.entry byte) → IfDamaged error (IsMisread Told h.queue image)
unfit_at Told image h byte error is inside valid unfit at misfits = subst (λ (x : BackError). IfDamaged x (IsMisread Told h.queue image)) (sym is) (record {
  own = refl;
  cause = OfUnfit refl (record { at = h.at; entry = h.entry; valid = valid; byte = byte; unfit = unfit; place_is = refl; found_is = refl });
  told = λ told. record {
    segment = h.segment;
    at = h.at;
    entry = h.entry;
    is = at told;
    byte = byte;
    short = inside;
    misfits = misfits told;
    name_is = refl;
    place_is = refl;
    found_is = refl;
  };
})

-- no record stands in a content that is empty
none_stands : (place : ℕ) (body : List ℕ) → StandsIn [] place body → ⊥
none_stands place body stands = let inside = record_inside [] _ body stands.is in absurd (omega (arith, inside))

-- where no record of this length is in a file, there is none in its content
lacks_in : (slot : Option File) (place len : ℕ) → (Among slot (λ f. IsWhole f.reads place len) → ⊥) → (body : List ℕ) → length body ≡ len → StandsIn (content_of (bytes_in slot)) place body → ⊥
lacks_in None place len none body same stands = none_stands place body stands
lacks_in (Some f) place len none body same stands = none (body, (same, stands))

pub lacks : (files : Name → Option File) (queue segment at : ℕ) (e : Entry) (name : Name) → name ≡ small_name queue segment → e.kind ≡ SmallEntry → (Among (files name) (λ f. IsWhole f.reads e.place e.len) → ⊥) → Misfits queue (as_read files) segment at e 24
lacks files queue segment at e name is kind none = Lacking refl kind (lacks_in (files (small_name queue segment)) e.place e.len (subst (λ (n : Name). Among (files n) (λ f. IsWhole f.reads e.place e.len) → ⊥) is none))

-- an entry of this id was read before
pub repeats : (queue : ℕ) (image : Image) (segment at : ℕ) (e : Entry) (held : List HeldEntry) (bodies : List (Option (List ℕ))) → AllZip (IsBodyOf queue) held bodies → HaveStood image held bodies → AllByRecursion (λ h. IsBefore h segment at) held → contains (ids_of held) e.id ≡ true
    → Misfits queue image segment at e 8
repeats queue image segment at e [] bodies fit stood before has = absurd (false≢true has)
repeats queue image segment at e (h ∷ held) [] fit stood before has = absurd fit
repeats queue image segment at e (h ∷ held) (body ∷ bodies) fit stood before has = ⊎_elim
    (λ (here : (h.entry.id == e.id) ≡ true). Repeated refl h fit.0.of_queue stood.0.at before.0 (eqb-true h.entry.id e.id here))
    (λ (later : contains (ids_of held) e.id ≡ true). repeats queue image segment at e held bodies fit.1 stood.1 before.1 later)
    (or_cases _ _ has)

-- ---- one that fits

places_append : (xs ys : List HeldEntry) → places_of (xs ++ ys) ≡ places_of xs ++ places_of ys
places_append [] ys = refl
places_append (x ∷ xs) ys = ap (λ (l : List (ℕ × ℕ)). (x.segment, x.at) ∷ l) (places_append xs ys)

ids_append : (xs ys : List HeldEntry) → ids_of (xs ++ ys) ≡ ids_of xs ++ ids_of ys
ids_append [] ys = refl
ids_append (x ∷ xs) ys = ap (λ (l : List ℕ). x.entry.id ∷ l) (ids_append xs ys)

or_none : (b : Bool) → (b || false) ≡ b
or_none true = refl
or_none false = refl

contains_one : (xs : List ℕ) (x id : ℕ) → contains (xs ++ x ∷ []) id ≡ (contains xs id || (x == id))
contains_one xs x id = list_any-append (λ y. y == id) xs (x ∷ []) ∙ ap (λ (b : Bool). contains xs id || b) (or_none (x == id))

distinct_one : (xs : List ℕ) (x : ℕ) → HasDistinct xs → contains xs x ≡ false → HasDistinct (xs ++ x ∷ [])
distinct_one [] x d new = (refl, tt)
distinct_one (y ∷ xs) x d new =
    let parts = or_parts _ _ new in
    let other : (x == y) ≡ false = ne_eqb x y (λ e. eqb-false y x parts.0 (sym e)) in
    (contains_one xs x y ∙ or_from _ _ d.0 other, distinct_one xs x d.1 parts.1)

pub takes_more : (Told : Type 0) (queue : ℕ) (files : Name → Option File) (old new : Taken) (h : HeldEntry) (body : Option (List ℕ)) → HaveRead Told queue files old → contains (ids_of old.held.items) h.entry.id ≡ false → IsBodyOf queue h body → (Told → StandsAs (as_read files) h body)
    → new.held.items ≡ old.held.items ++ h ∷ [] → new.bodies.items ≡ old.bodies.items ++ body ∷ [] → ((id : ℕ) → set.contains nat_cmp new.ids id ≡ (contains (ids_of old.held.items) id || (h.entry.id == id))) → ReadsMore Told queue files ((h.segment, h.at) ∷ []) old new
takes_more Told queue files old new h body read is_new fit stand held_is bodies_is ids_are = record {
  read = record {
    fit = both (IsBodyOf queue) read.fit fit;
    once = subst HasDistinct (sym ids_is) (distinct_one (ids_of old.held.items) h.entry.id read.once is_new);
    ids = λ id. ids_are id ∙ sym (contains_one (ids_of old.held.items) h.entry.id id) ∙ ap (λ (xs : List ℕ). contains xs id) (sym ids_is);
    stand = λ told. both (StandsAs (as_read files)) (read.stand told) (stand told);
  };
  listing = ap places_of held_is ∙ places_append old.held.items (h ∷ []);
}
  where
    ids_is : ids_of new.held.items ≡ ids_of old.held.items ++ h.entry.id ∷ []
    ids_is = ap ids_of held_is ∙ ids_append old.held.items (h ∷ [])

    both : (R : HeldEntry → Option (List ℕ) → Type 0) → AllZip R old.held.items old.bodies.items → R h body → AllZip R new.held.items new.bodies.items
    both R before here = subst (λ (hs : List HeldEntry). AllZip R hs new.bodies.items) (sym held_is) (subst (λ (bs : List (Option (List ℕ))). AllZip R (old.held.items ++ h ∷ []) bs) (sym bodies_is) (zip_append R old.held.items (h ∷ []) old.bodies.items (body ∷ []) before (here, tt)))
