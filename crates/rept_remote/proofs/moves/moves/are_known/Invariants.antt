use Rattle.std.proofs.Common.{◌≡◌, drop}
use Rattle.rept_remote.specs.Moves.Halts.{are_known}
use Rattle.rept_remote.proofs.moves.moves.are_known.Given as goal

abbrev pub invariant-loop-address : goal.invariant-loop-address
invariant-loop-address g l = are_known (g.F.Findings.shown l.findings) l.at l.addresses ≡ are_known (g.F.Findings.shown l.findings) l.at (drop l.address-index l.addresses)
