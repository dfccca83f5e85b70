use Rattle.std.proofs.Common.{◌≤◌, length, arith}
use Rattle.rept_infer.proofs.round.begin_back.Goals as goal

pub returns-clause-holds : goal.returns-clause-holds
returns-clause-holds g c = λ story run le around t.
    let same = c.in_ok-start_back.ensures.point in
    let still : c.start_back.new.sweep.point ≤ length story.rows = omega (arith, le, same) in
    c.in_ok-start_around.ensures.holds story run still around (c.in_ok-start_back.ensures.holds story run le around t)
