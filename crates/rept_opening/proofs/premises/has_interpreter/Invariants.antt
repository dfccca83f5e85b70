use Rattle.std.proofs.Common.{◌≡◌, drop}
use Rattle.std.specs.List.{list_any}
use Rattle.rept_elf.specs.Image.{segments_of}
use Rattle.rept_opening.specs.Beyond.{is_interpreter}
use Rattle.rept_opening.proofs.premises.has_interpreter.Given as goal

-- the segments that are left decide
abbrev pub invariant-loop-i : goal.invariant-loop-i
invariant-loop-i l = list_any is_interpreter (segments_of l.program) ≡ list_any is_interpreter (drop l.i (segments_of l.program))
