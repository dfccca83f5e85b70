use Rattle.std.proofs.Common.{append_assoc, refl}
use Rattle.rept_opening.proofs.refusal.push_two_values.Goals as goal

pub returns : goal.returns
returns c =
    rw (
      c.in_ok-push_value-2.ensures,
      c.in_ok-push-4.ensures.ok,
      c.in_ok-push_value.ensures,
      c.in_ok-push-3.ensures.ok,
      c.in_ok-push_cell.ensures,
      c.in_ok-push-2.ensures.ok,
      c.in_ok-push_place.ensures,
      c.in_ok-push.ensures.ok,
    )
    (simp append_assoc refl)
