-- What a session keeps of a line that it answered. This project's own.
use Rattle.std.specs.Prelude.{◌≡◌, ℕ, List, Option, Some}
use Rattle.rept_findings.specs.Shown.{SessionTold}
use Rattle.rept_findings.specs.declared.place.ThreadPoint.{ThreadPoint}
use Rattle.rept_session.specs.Serving.Replies.{IsAnswer}
use Rattle.rept_session.specs.declared.reply.Answer.{Answer}
use Rattle.rept_session.specs.declared.serving.kept.KeptAnswer.{KeptAnswer}

-- it is of this line, asked at this cursor and answered so
pub record IsKeptOf (kept : KeptAnswer) (cursor : ThreadPoint) (said : Option (List ℕ)) (answer : Answer) : Type 0 where
  pub at : kept.cursor ≡ cursor
  pub asked : Some kept.line ≡ said
  pub told : kept.answer ≡ answer

-- its answer is one to its line at its cursor
abbrev pub IsKept : SessionTold → KeptAnswer → Type 0
IsKept t kept = IsAnswer t kept.cursor (Some kept.line) kept.answer
