use Rattle.std.proofs.Common.{◌≡◌, ℕ, [], length, map, replicate}
use mathlib.Core.Option.{some}
use lib.ListN.{get_elem?}
use Rattle.cq_flying.specs.Ends.{words_id, look_end_id, names, seen_at}
use Rattle.cq_flying.specs.Words.{OneOwner, owner_ids, dropped_by}
use Rattle.cq_flying.proofs.words.Words.new.Given as goal

abbrev pub invariant-loop-client : goal.invariant-loop-client
invariant-loop-client l = record {
  count : length (map words_id l.words.items) ≡ l.client;
  owners : owner_ids l.owners.items ≡ map words_id l.words.items;
  ends : map look_end_id l.ends.items ≡ map words_id l.words.items;
  many : length l.owners.items ≡ l.client;
  places : (c : ℕ) (o : OneOwner) → get_elem? l.owners.items c ≡ some o → o.client ≡ c;
  dropped : map dropped_by l.owners.items ≡ replicate l.client [];
  written : map names l.ends.items ≡ replicate l.client (replicate 64 0);
  seen : map seen_at l.ends.items ≡ replicate l.client [];
}
