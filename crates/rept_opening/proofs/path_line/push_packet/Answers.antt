use Rattle.std.proofs.Common.{append_assoc, refl}
use Rattle.rept_opening.proofs.path_line.push_packet.Goals as goal

pub returns : goal.returns
returns c = rw (c.in_ok-push_placed.ensures, c.in_ok-push_numbered.ensures, c.from.ensures) (simp append_assoc refl)
