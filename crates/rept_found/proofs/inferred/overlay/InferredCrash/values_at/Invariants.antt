use Rattle.std.proofs.Common.{◌≡◌, ◌≤◌}
use Rattle.rept_facts.specs.Sums.{count_true}
use Rattle.rept_infer.specs.Path.{path_reader, told_in}
use Rattle.rept_found.specs.Inferred.Added.{is_added}
use Rattle.rept_found.proofs.inferred.overlay.InferredCrash.values_at.Given as goal

abbrev pub invariant-loop-r : goal.invariant-loop-r
invariant-loop-r g l = record {
  value : l.sum ≡ count_true (λ r. is_added ((g.F.Findings.shown l.self.found.now).register l.point r) ((told_in (path_reader g.K.KnownPath.set g.K.KnownPath.byte g.P.PathPremises.premises) l.self.inferred).set l.point r)) l.r;
  few : l.sum ≤ l.r;
}
