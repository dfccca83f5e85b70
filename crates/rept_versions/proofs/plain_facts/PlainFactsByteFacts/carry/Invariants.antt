use Rattle.std.proofs.Common.{◌+◌, ◌-◌}
use Rattle.rept_versions.specs.Facts.{Between}
use Rattle.rept_versions.specs.Listed.{store}
use Rattle.rept_versions.proofs.Steps.{Gone}
use Rattle.rept_versions.proofs.plain_facts.PlainFactsByteFacts.carry.Given as goal

abbrev pub invariant-loop-point : goal.invariant-loop-point
invariant-loop-point l = record {
  way : Between l.from l.to l.point;
  gone : Gone (store l.initial.self) (store l.self) l.a l.from l.point l.value l.more;
}

abbrev pub decreases-loop-point : goal.decreases-loop-point
decreases-loop-point l = (l.to - l.point) + (l.point - l.to)
