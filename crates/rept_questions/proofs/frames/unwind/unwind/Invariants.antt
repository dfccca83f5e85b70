use Rattle.std.proofs.Common.{◌≡◌, vec_len}
use Rattle.rept_questions.specs.Frames.Frames.{unwound}
use Rattle.rept_questions.proofs.frames.unwind.unwind.Given as goal

-- the calls that are left decide
abbrev pub invariant-loop-frame : goal.invariant-loop-frame
invariant-loop-frame l = unwound l.next l.frames.items ≡ unwound l.next l.initial.frames.items

abbrev pub decreases-loop-frame : goal.decreases-loop-frame
decreases-loop-frame l = vec_len l.frames
