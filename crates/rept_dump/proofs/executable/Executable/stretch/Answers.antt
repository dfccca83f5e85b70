use Rattle.std.proofs.Common.{List, ℕ, ap, subst}
use Rattle.rept_elf.specs.Segments.{ElfSegment, segments}
use Rattle.rept_dump.specs.Stretch.{AnswersAlike, sought_kept}
use Rattle.rept_dump.proofs.executable.Executable.stretch.Goals as goal

pub returns-clause-alike : goal.returns-clause-alike
returns-clause-alike c = subst (λ (ss : List ElfSegment). AnswersAlike (sought_kept ss) c.stretch_near.result) (ap segments c.image.ensures) c.stretch_near.ensures.alike
