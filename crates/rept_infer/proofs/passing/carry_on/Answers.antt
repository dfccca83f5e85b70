use Rattle.std.proofs.Common.{◌≡◌, ◌≤◌, length, ap, arith}
use Rattle.std.proofs.lemmas.Result.{on_ok_weaker}
use Rattle.rept_narrow.proofs.Sentences.{row_here}
use Rattle.rept_infer.proofs.passing.carry_on.Goals as goal

pub returns-then-not-stores-clause-keeps : goal.returns-then-not-stores-clause-keeps
returns-then-not-stores-clause-keeps g c = on_ok_weaker c.cross_on.result (λ holds story run e around f.
    let at = row_here story.rows c.args.earlier.now.rows.now c.args.index c.index-earlier-index.result e c.requires.inside in
    let long : length story.rows ≡ length c.args.earlier.now.rows.now = ap length e in
    let here = c.requires.here in
    let inside = c.requires.inside in
    let before : c.args.sweep.now.point ≤ length story.rows = omega (arith, long, here, inside) in
    let one = c.in_ok-all.ensures.holds story run before around f.bytes in
    record { sets = f.sets; bytes = holds story run at f.sets around one }) c.cross_on.ensures.holds

pub returns-clause-keeps : goal.returns-clause-keeps
returns-clause-keeps g c = λ story run e around f.
    let at = row_here story.rows c.args.earlier.now.rows.now c.args.index c.index-earlier-index.result e c.requires.inside in
    let long : length story.rows ≡ length c.args.earlier.now.rows.now = ap length e in
    let here = c.requires.here in
    let inside = c.requires.inside in
    let crossed = c.in_ok-cross_on.ensures.point in
    let before : c.args.sweep.now.point ≤ length story.rows = omega (arith, long, here, inside) in
    let after : c.cross_on-2.new.sweep.point ≤ length story.rows = omega (arith, long, crossed, inside) in
    let one = c.in_ok-all.ensures.holds story run before around f.bytes in
    let two = c.in_ok-note_loaded.ensures.holds story run at f.sets one in
    let three = c.in_ok-cross_on.ensures.holds story run at f.sets around two in
    let four = c.in_ok-_all.ensures.holds story run after around three in
    record { sets = f.sets; bytes = c.in_ok-note_stored.ensures.holds story run at f.sets four }
