use Rattle.std.proofs.Common.{◌≡◌, ◌≤◌, ◌-◌}
use Rattle.rept_timeline.specs.Strips.{IsHint, IsPart}
use Rattle.rept_timeline.proofs.strips.strip_from.Given as goal

abbrev pub invariant-loop-strip : goal.invariant-loop-strip
invariant-loop-strip l = record {
  first : l.strip.first ≡ l.first;
  inside : l.strip.last ≤ l.last;
  part : IsPart l.many l.strip;
  hint : IsHint l.many l.hint;
}

abbrev pub decreases-loop-strip : goal.decreases-loop-strip
decreases-loop-strip l = l.last - l.strip.last
