use Rattle.std.proofs.Common.{◌≡◌, ◌<◌, length, ap, arith}
use Rattle.std.proofs.lemmas.Option.{IfSome_then}
use Rattle.rept_infer.proofs.Handing.{row_read}
use Rattle.rept_infer.proofs.fresh.fresh_at.Goals as goal

pub returns-then-is_call : goal.returns-then-is_call
returns-then-is_call c = IfSome_then c.fresh_heap.result c.fresh_heap.ensures (λ z zero story run e h.
    let at = row_read story.rows c.args.rows.now c.args.index c.index-rows-index.result e c.requires.inside c.index-rows-index.is in
    zero story run e h (c.is_call.ensures c.if-is_call.true story run at h))

pub returns-then-is_call-2 : goal.returns-then-is_call-2
returns-then-is_call-2 c = IfSome_then c.fresh_map.result c.fresh_map.ensures (λ z zero story run e h.
    let at = row_read story.rows c.args.rows.now c.args.index c.index-rows-index.result e c.requires.inside c.index-rows-index.is in
    let long : length story.rows ≡ length c.args.rows.now = ap length e in
    let inside = c.requires.inside in
    let less : c.args.index < length story.rows = omega (arith, long, inside) in
    zero story run less h (c.is_call-else-is_call.ensures c.if-is_call-2.true story run at h))
