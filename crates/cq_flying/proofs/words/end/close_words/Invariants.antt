use Rattle.std.proofs.Common.{◌≡◌, ℕ, ◌<◌, ◌≤◌, length, map, vec_len, Contains}
use mathlib.Core.Option.{some}
use lib.ListN.{get_elem?}
use Rattle.cq_flying.specs.Ends.{words_id, look_end_id, seen_at}
use Rattle.cq_flying.specs.Words.{OneOwner, OneEnd, owner_ids, dropped_by}
use Rattle.cq_flying.proofs.words.end.close_words.Given as goal

abbrev pub invariant-loop-client : goal.invariant-loop-client
invariant-loop-client l = record {
  owners : owner_ids l.owners.items ≡ map words_id l.clients.items;
  ends : map look_end_id l.ends.items ≡ map words_id l.clients.items;
  first_owners : (k : ℕ) (o : OneOwner) → k < length l.owners.items → get_elem? l.fn.owners.items k ≡ some o → get_elem? l.owners.items k ≡ some o;
  first_ends : (k : ℕ) (e : OneEnd) → k < length l.owners.items → get_elem? l.fn.seats.ends.items k ≡ some e → get_elem? l.ends.items k ≡ some e;
  closed : (k : ℕ) (o : OneOwner) (e : OneEnd) → length l.owners.items ≤ k → get_elem? l.fn.owners.items k ≡ some o → get_elem? l.fn.seats.ends.items k ≡ some e → (d : ℕ) → Contains (seen_at e) d → Contains (dropped_by o) d;
}

abbrev pub decreases-loop-client : goal.decreases-loop-client
decreases-loop-client l = vec_len l.clients
