use Rattle.std.proofs.Common.{◌≡◌, ◌+◌, ◌-◌, ◌≤◌}
use Rattle.rept_report.proofs.NearestLemmas.Searching.{GrowsBelow}
use Rattle.rept_report.proofs.nearest.search.add_links.Given as goal

abbrev pub invariant-loop-least : goal.invariant-loop-least
invariant-loop-least g l = record {
  below : GrowsBelow (g.N.Net.links l.net) l.fn.reach l.reach l.number l.least;
  last : l.last ≡ (g.N.Net.links l.net).last;
  near : l.least ≤ l.last + 1;
}

abbrev pub decreases-loop-least : goal.decreases-loop-least
decreases-loop-least g l = l.last + 1 - l.least
