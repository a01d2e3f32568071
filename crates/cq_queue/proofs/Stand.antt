-- Entries at their places, as a segment's content changes.
use Rattle.std.proofs.Common.{◌≡◌, ℕ, zero, suc, ◌+◌, ◌*◌, ◌<◌, ◌≤◌, List, [], ◌∷◌, ◌++◌, length, take, drop, get_or, Option, Some, None, refl, sym, ap, ◌∙◌, subst, arith, length-append, length-drop}
use Rattle.std.specs.Prelude.{IsSome, slice_get}
use Rattle.std.proofs.lemmas.Bool.{false≢true}
use Rattle.std.proofs.lemmas.List.{take-append-le, drop-append-le}
use Rattle.cq_disk.specs.File.{File}
use Rattle.cq_gate.specs.Format.{content}
use Rattle.cq_gate.specs.Gated.{Step}
use Rattle.cq_entry.specs.declared.entry.Entry.{Entry}
use Rattle.cq_entry.specs.Entry.{IsPresent}
use Rattle.cq_gate.specs.declared.gate.Gate.{Gate}
use Rattle.cq_gate.proofs.Contents.{content_range}
use Rattle.cq_index.specs.Codec.{entry_len}
use Rattle.cq_index.specs.Gone.{AreGone}
use Rattle.cq_index.specs.declared.segment.Segment.{Segment}
use Rattle.cq_index.specs.Segments as index
use Rattle.cq_index.specs.Opened.{piece_at}
use Rattle.cq_index.specs.Places.{Adds, entry_at}
use Rattle.cq_folder.specs.Queue.{content_in, IsIndexAt}
use Rattle.cq_queue.specs.Files.{KeepsEntries, HasEntriesFrom, KeepsOtherEntries}
use Rattle.cq_queue.proofs.Files.{index_length}

pub keeps_entries : (old new more : List ℕ) → new ≡ old ++ more → KeepsEntries old new
keeps_entries old new more grew k e at = record {
  inside = (let l = ap length grew ∙ length-append old more in omega (arith, l, at.inside));
  is = subst (λ (c : List ℕ). IsPresent (piece_at c k) e) (sym grew) (subst (λ (p : List ℕ). IsPresent p e) (sym same) at.is);
}
  where
    same : piece_at (old ++ more) k ≡ piece_at old k
    same = ap (take entry_len) (drop-append-le (entry_len * k) old more (omega (arith, at.inside))) ∙ take-append-le entry_len (drop (entry_len * k) old) more (omega (arith, at.inside, length-drop (entry_len * k) old))

none_some : {A : Type 0} (x : A) → None ≡ Some x → ⊥
none_some x e = cc

some_same : {A : Type 0} (a b : A) → Some a ≡ Some b → a ≡ b
some_same a b e = cc

pub inside_get : {A : Type 0} (xs : List A) (i : ℕ) (x : A) → slice_get xs i ≡ Some x → i < length xs
inside_get [] i x is = absurd (none_some x is)
inside_get (y ∷ xs) zero x is = omega arith
inside_get (y ∷ xs) (suc i) x is = omega (arith, inside_get xs i x is)

get_is : (xs : List Entry) (i : ℕ) (x : Entry) → slice_get xs i ≡ Some x → get_or xs i x ≡ x
get_is [] i x is = absurd (none_some x is)
get_is (y ∷ xs) zero x is = some_same y x is
get_is (y ∷ xs) (suc i) x is = get_is xs i x is

-- an entry of a segment's content stands in its file
pub entry_in : (segment : Segment) (f : File) → IsIndexAt segment (Some f) → index.IsOpen segment → (k : ℕ) → entry_len * k + entry_len ≤ length (content f.reads) → piece_at (content f.reads) k ≡ entry_at f.reads k
entry_in segment f at some k inside = of_gate segment.gate refl some
  where
    of_gate : (o : Option Gate) → segment.gate ≡ o → IsSome o → piece_at (content f.reads) k ≡ entry_at f.reads k
    of_gate None is some = absurd (false≢true some)
    of_gate (Some g) is some = content_range g f ((at.knows.there g is).has f refl).0 (entry_len * k) entry_len inside

-- the entries that were added stand there
pub new_entries : (new : Segment) (a b : Option File) (count : ℕ) (es : List Entry) → IsIndexAt new b → index.IsOpen new → index.count_of new ≡ count + length es → Step a b (Adds count es) → HasEntriesFrom count es (content_in b)
new_entries new None b count es at some long none i e is = absurd none
new_entries new (Some f) None count es at some long none i e is = absurd none
new_entries new (Some f) (Some g) count es at some long adds i e is =
    let lt : i < length es = inside_get es i e is in
    let inside : entry_len * (count + i) + entry_len ≤ length (content g.reads) = omega (arith, lt, long, index_length new (Some g) at) in
    let there : IsPresent (entry_at g.reads (count + i)) e = subst (λ (x : Entry). IsPresent (entry_at g.reads (count + i)) x) (get_is es i e is) (adds.added i e lt) in
    record { inside = inside; is = subst (λ (p : List ℕ). IsPresent p e) (sym (entry_in new g at some (count + i) inside)) there }

pub gone_entries : (places : List ℕ) (old new : Segment) (a b : Option File) → IsIndexAt old a → IsIndexAt new b → index.count_of new ≡ index.count_of old → index.IsOpen old → index.IsOpen new → Step a b (AreGone places) → KeepsOtherEntries places (content_in a) (content_in b)
gone_entries places old new None b old_at new_at same old_open new_open none k e apart at = absurd none
gone_entries places old new (Some f) None old_at new_at same old_open new_open none k e apart at = absurd none
gone_entries places old new (Some f) (Some g) old_at new_at same old_open new_open gone k e apart at =
    let long : length (content g.reads) ≡ length (content f.reads) = index_length new (Some g) new_at ∙ ap (λ (n : ℕ). entry_len * n) same ∙ sym (index_length old (Some f) old_at) in
    let inside : entry_len * k + entry_len ≤ length (content g.reads) = omega (arith, long, at.inside) in
    let piece : piece_at (content g.reads) k ≡ piece_at (content f.reads) k = entry_in new g new_at new_open k inside ∙ gone.others k apart ∙ sym (entry_in old f old_at old_open k at.inside) in
    record { inside = inside; is = subst (λ (p : List ℕ). IsPresent p e) (sym piece) at.is }
