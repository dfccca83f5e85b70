use Rattle.std.proofs.Common.{◌≡◌, length}
use Rattle.rept_report.proofs.NearestLemmas.Searching.{GrowsUpTo}
use Rattle.rept_report.proofs.nearest.search.add_beside.Given as goal

abbrev pub invariant-loop-k : goal.invariant-loop-k
invariant-loop-k g l = record {
  up_to : GrowsUpTo (g.N.Net.links l.net) l.fn.reach l.reach l.start l.k;
  end : l.end ≡ length l.fn.reach.list;
}
