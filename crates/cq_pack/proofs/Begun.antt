-- Before the first move each record stands alone behind its hole.
use Rattle.std.proofs.Common.{◌≡◌, ℕ, ◌+◌, ◌-◌, Bool, true, false, cond, List, [], ◌∷◌, map, refl, sym, ap, subst}
use Rattle.std.specs.Prelude.{filter}
use Rattle.std.specs.List.Sorted.{IsPermutation}
use Rattle.std.proofs.lemmas.List.Sorted.{IsPermutation-refl}
use Rattle.std.proofs.lemmas.List.{append-nil}
use Rattle.cq_block.specs.declared.layout.Block.{Block}
use Rattle.cq_block.specs.declared.layout.Move.{Move}
use Rattle.cq_pack.specs.Packing.{Packs, source, standing, live_of, AreSpaced, AreWhole, AreBelow, AreBlocks, ArePackable, CanPack}
use Rattle.cq_pack.specs.Holes.{starts_before, sizes_before}
use Rattle.cq_pack.proofs.Groups.{Group, size, flat_on, inners_on, none, AreGroups}
use Rattle.cq_pack.proofs.Going.{Going, rec_of, start_of}

abbrev groups_of : ℕ → List Move → List Group
groups_of start [] = []
groups_of start (m ∷ ms) = record { inner = []; start = start; rec = m } ∷ groups_of (m.to + m.len) ms

groups : (start : ℕ) (takes : ℕ → Bool) (ms : List Move) → AreSpaced start ms → AreWhole ms → AreBelow ms → AreGroups start takes (groups_of start ms)
groups start takes [] spaced whole below = tt
groups start takes (m ∷ ms) spaced whole below =
    (record { fills = refl; barred = tt; before = spaced.0; long = whole.0; short = below.0 }, groups (m.to + m.len) _ ms spaced.2 whole.1 below.1)

recs : (start : ℕ) (ms : List Move) → map rec_of (groups_of start ms) ≡ ms
recs start [] = refl
recs start (m ∷ ms) = ap (λ l. m ∷ l) (recs (m.to + m.len) ms)

starts : (start : ℕ) (ms : List Move) → map start_of (groups_of start ms) ≡ starts_before start ms
starts start [] = refl
starts start (m ∷ ms) = ap (λ l. start ∷ l) (starts (m.to + m.len) ms)

sizes : (start : ℕ) (ms : List Move) → map size (groups_of start ms) ≡ sizes_before start ms
sizes start [] = refl
sizes start (m ∷ ms) = ap (λ l. (m.to - start) ∷ l) (sizes (m.to + m.len) ms)

flat : (start : ℕ) (ms : List Move) → flat_on (groups_of start ms) [] ≡ ms
flat start [] = refl
flat start (m ∷ ms) = ap (λ l. m ∷ l) (flat (m.to + m.len) ms)

inners : (start : ℕ) (ms : List Move) → inners_on (groups_of start ms) [] ≡ []
inners start [] = refl
inners start (m ∷ ms) = inners (m.to + m.len) ms

pub begun : (records : List Move) → ArePackable records → Going records records [] (starts_before 128 records) (sizes_before 128 records)
begun records are = record {
  groups = groups_of 128 records;
  some = are.some;
  are = groups 128 none records are.spaced are.whole are.below;
  standing_are = recs 128 records;
  starts_are = starts 128 records;
  sizes_are = sizes 128 records;
  moved_are = subst (λ l. IsPermutation l []) (sym (inners 128 records)) (IsPermutation-refl []);
  packs = λ end packs. subst (λ l. Packs l end) (flat 128 records) packs;
  sources = ap (map source) (append-nil records);
}

below : (p : Block → Bool) (start : ℕ) (bs : List Block) → AreBlocks start bs → AreBelow (map standing (filter p bs))
below p start [] are = tt
below p start (b ∷ bs) are = elim (p b) as (λ t. AreBelow (map standing (cond t (b ∷ filter p bs) (filter p bs)))) [
  | true ↦ (are.1, below p (b.at + b.len) bs are.2)
  | false ↦ below p (b.at + b.len) bs are.2
]

-- the live records of blocks that can be packed
pub packable : (blocks : List Block) (live : List ℕ) → CanPack blocks live → ArePackable (live_of live blocks)
packable blocks live can = record { some = can.some; spaced = can.spaced; whole = can.whole; below = below _ 128 blocks can.in_order }
