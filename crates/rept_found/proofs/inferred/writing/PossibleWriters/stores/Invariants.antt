use Rattle.std.proofs.Common.{◌≡◌, ◌+◌, ◌≤◌, length, slice_get}
use Rattle.rept_facts.specs.Sums.{count_true}
use Rattle.rept_infer.specs.Path.{path_reader, told_in}
use Rattle.rept_found.specs.Inferred.Writing.{row_stores}
use Rattle.rept_found.proofs.inferred.writing.PossibleWriters.stores.Given as goal

abbrev pub invariant-loop-index : goal.invariant-loop-index
invariant-loop-index g l = record {
  value : l.sum ≡ count_true (λ j. row_stores l.known (told_in (path_reader g.K.KnownPath.set g.K.KnownPath.byte g.P.PathPremises.premises) l.self.inferred.now) (g.F.Findings.shown l.self.found.now) ((g.F.Findings.shown l.self.found.now).first 0 + j) (slice_get ((g.F.Findings.shown l.self.found.now).rows 0) j)) l.index;
  few : l.sum ≤ l.index;
  steps : l.steps ≡ length ((g.F.Findings.shown l.self.found.now).rows 0);
}
