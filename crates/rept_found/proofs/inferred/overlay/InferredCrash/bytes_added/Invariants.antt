use Rattle.std.proofs.Common.{◌≡◌, ◌≤◌, ◌*◌, length}
use Rattle.rept_facts.specs.Sums.{sum_to}
use Rattle.rept_infer.specs.Path.{path_reader, told_in}
use Rattle.rept_found.specs.Inferred.Added.{step_added}
use Rattle.rept_found.proofs.inferred.overlay.InferredCrash.bytes_added.Given as goal

abbrev pub invariant-loop-index : goal.invariant-loop-index
invariant-loop-index g l = record {
  value : l.sum ≡ sum_to (step_added (told_in (path_reader g.K.KnownPath.set g.K.KnownPath.byte g.P.PathPremises.premises) l.self.inferred) (g.F.Findings.shown l.self.found.now)) l.index;
  few : l.sum ≤ 4 * l.index;
  steps : l.steps ≡ length ((g.F.Findings.shown l.self.found.now).rows 0);
}
