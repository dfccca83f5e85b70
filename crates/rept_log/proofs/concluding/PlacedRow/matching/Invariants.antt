use Rattle.rept_timeline.specs.Paths.{timeline}
use Rattle.std.proofs.Common.{◌≡◌, ◌<◌, ℕ, get_or}
use Rattle.rept_reason.specs.declared.view.inferred.Conclusion.{Conclusion}
use Rattle.rept_log.specs.Fronts.{Gives}
use Rattle.rept_log.proofs.concluding.PlacedRow.matching.Given as goal

abbrev pub invariant-loop-inferred : goal.invariant-loop-inferred
invariant-loop-inferred l = (d : Conclusion) (k : ℕ) → k < l.inferred-index → get_or l.list k d ≡ d → Gives (timeline l.self.paths.now).moments l.self.number d l.fact → ⊥
