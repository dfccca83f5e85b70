use Rattle.std.proofs.Common.{◌≡◌, ◌≤◌, ◌<◌, sym, ◌∙◌, arith}
use Rattle.rept_infer.proofs.Frame.{set_past}
use Rattle.rept_infer.proofs.path.InferredPath.set.Goals as goal

pub returns-else-point-points : goal.returns-else-point-points
returns-else-point-points g c =
    let past = c.if-point-points.false in
    let points = c.points.ensures.points in
    let value = c.number-number.ensures.value in
    let below = c.number-number.ensures.in_file in
    let small : c.args.register < 32 = omega (arith, value, below) in
    let outside : c.self.inside.table.points ≤ c.args.point = omega (arith, past, points) in
    rw (← c.self.view_is) (set_past (g.K.KnownPath.set c.self.inside.known.now) c.self.inside.table c.args.point c.args.register c.set-known.result c.points.ensures.long outside small c.set-known.ensures)
