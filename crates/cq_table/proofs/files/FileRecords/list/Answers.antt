use Rattle.std.proofs.Common.{◌≡◌, ℕ, List, map, ap, ◌∙◌, sym, subst, rules}
use Rattle.std.specs.FinMap as maps
use Rattle.std.specs.List.Sorted.{IsPermutation}
use Rattle.std.proofs.lemmas.List.Sorted.{IsPermutation-map, IsPermutation-trans, IsNonDecreasingBy-from_sort_by_key}
use Rattle.cq_block.specs.declared.layout.Block.{Block}
use Rattle.cq_table.specs.declared.Place.{Place}
use Rattle.cq_table.specs.Records.{Places, block_of, blocks_of}
use Rattle.cq_table.proofs.files.FileRecords.list.Goals as goal

all : (m : Places) (pairs : List (ℕ × Place)) (read list sorted : List Block) → IsPermutation (maps.entries m) pairs → read ≡ map block_of pairs → IsPermutation read sorted → IsPermutation (blocks_of m) sorted
all m pairs read list sorted first is last =
    IsPermutation-trans (blocks_of m) read sorted (subst (IsPermutation (blocks_of m)) (sym is) (IsPermutation-map block_of (maps.entries m) pairs first)) last

pub returns-clause-all : goal.returns-clause-all
returns-clause-all c =
    all c.args.self.now c.in_ok-pairs.pairs.items c.in_ok-list.list.items c.in_ok-list.list.items c.sort_by_key.new.self.items
    (subst (λ (m : Places). IsPermutation (maps.entries m) c.in_ok-pairs.pairs.items) c.self.view_is c.in_ok-pairs.ensures)
    (c.in_ok-list.ensures ∙ ap (map block_of) c.deref.ensures.value)
    c.in_ok-sort_by_key.ensures.permutation

pub returns-clause-rising : goal.returns-clause-rising
returns-clause-rising c = IsNonDecreasingBy-from_sort_by_key (λ (b : Block). b.at) _ c.in_ok-sort_by_key.ensures.sorted (λ a r q k. search rules)
