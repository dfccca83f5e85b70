use Rattle.std.proofs.Common.{◌≡◌, ◌+◌, ◌-◌, ◌≤◌, length}
use Rattle.rept_report.specs.Nearest.Reached.{IsBall}
use Rattle.rept_report.proofs.nearest.search.search.Given as goal

abbrev pub invariant-loop-start : goal.invariant-loop-start
invariant-loop-start g l = record {
  ball : IsBall (g.N.Net.links l.net) l.from l.reach.list l.start l.links;
  bound : l.reach.bound ≡ (g.N.Net.links l.net).last + 1;
  low : l.start ≤ length l.reach.list;
}

abbrev pub decreases-loop-start : goal.decreases-loop-start
decreases-loop-start g l = (g.N.Net.links l.net).last + 1 - l.start
