use Rattle.std.proofs.Common.{◌≡◌, ◌+◌, ◌≤◌, length, ap, arith}
use Rattle.rept_infer.proofs.Handing.{heap_zero}
use Rattle.rept_infer.proofs.fresh.fresh_heap.Goals as goal

pub returns-in-Some-value_at : goal.returns-in-Some-value_at
returns-in-Some-value_at c = λ story run e h call.
    let long : length story.rows ≡ length c.args.rows.now = ap length e in
    let inside = c.requires.inside in
    let le : c.args.index + 1 ≤ length story.rows = omega (arith, long, inside) in
    heap_zero story run c.args.index c.in-Some.old c.in-Some-value_at.new c.page_from.result c.wide.result h.admitted (c.in-Some.ensures story run e h) call (c.in-Some-value_at.ensures story run le h) c.page_from.ensures c.wide.ensures
