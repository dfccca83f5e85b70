use Rattle.rept_moments.specs.Several.{seen_of}
use Rattle.rept_report.specs.Timeline.{IsStrip}
use Rattle.rept_extents.specs.Timelines.{as_timeline}
use Rattle.rept_timeline.specs.Strips.{AreStripsBelow}
use Rattle.rept_timeline.proofs.strips.Strips.new.Given as goal

abbrev pub invariant-loop-number : goal.invariant-loop-number
invariant-loop-number l = record {
  strips : AreStripsBelow (as_timeline (seen_of l.many)) l.number l.list.items;
  strip : IsStrip (as_timeline (seen_of l.many)) l.number l.strip;
}
