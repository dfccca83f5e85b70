use Rattle.std.proofs.Common.{◌≡◌, length, drop}
use Rattle.rept_elf.specs.Segments.{segments}
use Rattle.rept_elf.proofs.SegmentLemmas.{checked_from}
use Rattle.rept_elf.proofs.checks.check_segments.Given as goal

-- the checks that are left decide
abbrev pub invariant-loop-index : goal.invariant-loop-index
invariant-loop-index l =
    checked_from l.want (length l.bytes) 0 (segments l.bytes) ≡ checked_from l.want (length l.bytes) l.index (drop l.index (segments l.bytes))
