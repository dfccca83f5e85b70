use Rattle.std.proofs.Common.{◌≡◌, [], take}
use Rattle.std.specs.List.{fold}
use Rattle.rept_questions.specs.Frames.Frames.{after_row}
use Rattle.rept_questions.proofs.frames.frames.frames_of.Given as goal

-- the calls after the rows so far
abbrev pub invariant-loop-row : goal.invariant-loop-row
invariant-loop-row l = l.frames.items ≡ fold after_row [] (take l.row-index l.rows)
