use Rattle.std.proofs.Common.{◌≡◌, ◌≤◌}
use Rattle.rept_isa.specs.Numbers.{beside}
use Rattle.rept_facts.specs.Sums.{count_true}
use Rattle.rept_infer.specs.Path.{path_reader, told_in}
use Rattle.rept_found.specs.Inferred.Added.{is_byte_added}
use Rattle.rept_found.proofs.inferred.overlay.InferredCrash.loaded_bytes.Given as goal

abbrev pub invariant-loop-k : goal.invariant-loop-k
invariant-loop-k g l = record {
  value : l.sum ≡ count_true (λ k. is_byte_added (told_in (path_reader g.K.KnownPath.set g.K.KnownPath.byte g.P.PathPremises.premises) l.self.inferred) (g.F.Findings.shown l.self.found.now) l.moment (beside l.address k)) l.k;
  few : l.sum ≤ l.k;
}
