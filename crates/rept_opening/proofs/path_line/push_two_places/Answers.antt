use Rattle.std.proofs.Common.{append_assoc, refl}
use Rattle.rept_opening.proofs.path_line.push_two_places.Goals as goal

pub returns : goal.returns
returns c = rw (c.in_ok-push_placed-2.ensures, c.in_ok-push_placed.ensures) (simp append_assoc refl)
