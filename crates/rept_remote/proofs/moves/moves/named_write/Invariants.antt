use Rattle.std.proofs.Common.{◌≡◌, ◌<◌, drop, take, IfSome}
use Rattle.rept_remote.specs.Moves.Halts.{has_open, last_write}
use Rattle.rept_remote.proofs.moves.moves.named_write.Given as goal

abbrev pub invariant-loop-address : goal.invariant-loop-address
invariant-loop-address g l = record {
  open_left : has_open (g.F.Findings.shown l.findings) l.at l.addresses ≡ has_open (g.F.Findings.shown l.findings) l.at (drop l.address-index l.addresses);
  value : l.best ≡ last_write (g.F.Findings.shown l.findings) l.at (take l.address-index l.addresses);
  within : IfSome l.best (λ found. found.point < l.at.point);
}
