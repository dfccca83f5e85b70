use Rattle.std.proofs.Common.{◌≡◌, ◌≤◌, ◌*◌}
use Rattle.rept_facts.specs.Sums.{sum_to}
use Rattle.rept_infer.specs.Path.{path_reader, told_in}
use Rattle.rept_found.specs.Inferred.Added.{added_at}
use Rattle.rept_found.proofs.inferred.overlay.InferredCrash.values_added.Given as goal

abbrev pub invariant-loop-point : goal.invariant-loop-point
invariant-loop-point g l = record {
  value : l.sum ≡ sum_to (added_at (told_in (path_reader g.K.KnownPath.set g.K.KnownPath.byte g.P.PathPremises.premises) l.self.inferred) (g.F.Findings.shown l.self.found.now)) l.point;
  few : l.sum ≤ 32 * l.point;
  points : l.points ≡ (g.F.Findings.shown l.self.found.now).points;
}
