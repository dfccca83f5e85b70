use Rattle.rept_narrow.proofs.Truth.{lane_true}
use Rattle.rept_narrow.proofs.lanes.lanes.lane_true.Goals as goal

pub returns : goal.returns
returns c = lane_true
