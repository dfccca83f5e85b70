use Rattle.std.proofs.Common.{◌≡◌, ◌≤◌, length, Err, ap, ◌∙◌, arith}
use Rattle.rept_narrow.specs.Sweeps.{memory_of}
use Rattle.rept_narrow.proofs.Sentences.{same_err}
use Rattle.rept_infer.proofs.round.sweep_back.Goals as goal

pub returns-in-Err-all_back-clause-refuses : goal.returns-in-Err-all_back-clause-refuses
returns-in-Err-all_back-clause-refuses g c = λ empty is story run e around h.
    let long : length story.rows ≡ length c.args.earlier.now.rows.now = ap length e in
    let points = c.points.ensures.points in
    let table = c.requires.points in
    let at = c.new-sweep.ensures.point in
    let le : c.new-sweep.result.point ≤ length story.rows = omega (arith, long, points, table, at) in
    c.all_back.ensures.refuses empty (c.in-Err-all_back.is ∙ ap Err (same_err is)) story run e around (record { sets = h; bytes = c.in-Ok.ensures.holds story run le around (c.new-sweep.ensures.holds (memory_of run)) })

pub returns-in-Ok-finish-clause-keeps : goal.returns-in-Ok-finish-clause-keeps
returns-in-Ok-finish-clause-keeps g c = λ story run e around h.
    let long : length story.rows ≡ length c.args.earlier.now.rows.now = ap length e in
    let points = c.points.ensures.points in
    let table = c.requires.points in
    let at = c.new-sweep.ensures.point in
    let le : c.new-sweep.result.point ≤ length story.rows = omega (arith, long, points, table, at) in
    let f = c.in-Ok-all_back.ensures.keeps story run e around (record { sets = h; bytes = c.in-Ok.ensures.holds story run le around (c.new-sweep.ensures.holds (memory_of run)) }) in
    (f.sets, c.in-Ok-finish.ensures (memory_of run) f.bytes)
