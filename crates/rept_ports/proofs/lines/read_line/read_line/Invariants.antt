use Rattle.std.proofs.Common.{◌+◌, ◌-◌, length}
use Rattle.rept_ports.proofs.LineLemmas.{SoFar}
use Rattle.rept_ports.proofs.lines.read_line.read_line.Given as goal

abbrev pub invariant-loop-line : goal.invariant-loop-line
invariant-loop-line g l = SoFar l.fn.intake l.intake (g.S.Source.port l.fn.source) (g.S.Source.port l.source) l.line.items l.is_long

abbrev pub decreases-loop-line : goal.decreases-loop-line
decreases-loop-line g l = (1048576 - l.intake.count) + length l.intake.pending
