use Rattle.cq_lane.specs.Lanes.{lane_ids}
use Rattle.cq_bench.proofs.lanes.many_lanes.Given as goal

abbrev pub ghosts-beside_many : goal.ghosts-beside_many
ghosts-beside_many g a = record { tables = lane_ids a.lanes.now }
