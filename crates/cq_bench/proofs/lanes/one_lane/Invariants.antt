use Rattle.cq_lane.specs.Lanes.{lane_ids}
use Rattle.cq_bench.proofs.lanes.one_lane.Given as goal

abbrev pub ghosts-beside : goal.ghosts-beside
ghosts-beside g a = record { tables = lane_ids a.lanes }
