use Rattle.std.proofs.Common.{◌≡◌, drop}
use Rattle.std.specs.List.{list_any}
use Rattle.rept_elf.specs.Image.{segments_of}
use Rattle.rept_opening.specs.Beyond.{has_page}
use Rattle.rept_opening.proofs.premises.has_page_after.Given as goal

-- the segments that are left decide
abbrev pub invariant-loop-i : goal.invariant-loop-i
invariant-loop-i l = list_any (has_page l.a) (drop l.from (segments_of l.program)) ≡ list_any (has_page l.a) (drop l.i (segments_of l.program))
