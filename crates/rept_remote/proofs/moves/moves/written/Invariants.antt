use Rattle.std.proofs.Common.{◌≡◌, drop}
use Rattle.rept_remote.specs.Moves.Halts.{written}
use Rattle.rept_remote.proofs.moves.moves.written.Given as goal

abbrev pub invariant-loop-address : goal.invariant-loop-address
invariant-loop-address g l = written (g.F.Findings.shown l.findings) l.at l.addresses ≡ written (g.F.Findings.shown l.findings) l.at (drop l.address-index l.addresses)
