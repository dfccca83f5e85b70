use Rattle.std.proofs.Common.{◌≡◌, true}
use Rattle.rept_found.specs.Inferred.Writing.{all_below, is_lined_at}
use Rattle.rept_found.proofs.inferred.writing.are_lined.Given as goal

abbrev pub invariant-loop-point : goal.invariant-loop-point
invariant-loop-point g l = record { lined : all_below (is_lined_at (g.F.Findings.shown l.found)) l.point ≡ true }
