use Rattle.rept_report.specs.Log.{oldest}
use Rattle.rept_log.specs.Bytes.{AreTold}
use Rattle.rept_log.proofs.fact_log.FactLog.bytes_below.Given as goal

abbrev pub invariant-loop-place : goal.invariant-loop-place
invariant-loop-place g l = AreTold (oldest l.place l.self.log) l.end l.a l.bytes.items
