use Rattle.rept_moments.specs.Courses.{seen_in}
use Rattle.rept_report.specs.Timeline.{IsLine}
use Rattle.rept_extents.specs.Carry.Lines.{AreLinesBelow}
use Rattle.rept_extents.proofs.carry.lines.all_lines.Given as goal

abbrev pub invariant-loop-number : goal.invariant-loop-number
invariant-loop-number l = record {
  lines : AreLinesBelow (seen_in l.ways).moments l.number l.list.items;
  line : IsLine (seen_in l.ways).moments l.number l.line;
}
