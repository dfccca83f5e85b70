use Rattle.std.proofs.Common.{◌≡◌, [], take}
use Rattle.std.specs.Prelude.{slice_get}
use Rattle.std.specs.List.{filter}
use Rattle.rept_questions.specs.Texts.{is_of}
use Rattle.rept_questions.proofs.writers.is_newest.Given as goal

abbrev pub invariant-loop-other : goal.invariant-loop-other
invariant-loop-other l = filter (λ k. is_of l.pc (slice_get l.rows k)) (take l.other-index l.steps) ≡ []
