use Rattle.std.proofs.Common.{◌+◌, ◌≤◌, length, arith}
use Rattle.std.proofs.lemmas.Option.{IfSome_then}
use Rattle.rept_narrow.proofs.Sentences.{inside_rows}
use Rattle.rept_infer.proofs.fresh.brk_answer.Goals as goal

pub returns-then-is_call : goal.returns-then-is_call
returns-then-is_call c = IfSome_then c.value_at.result c.value_at.ensures (λ v value story run at h.
    let inside = inside_rows story.rows c.args.index c.args.row.now at in
    let le : c.args.index + 1 ≤ length story.rows = omega (arith, inside) in
    (c.is_call.ensures c.if-is_call.true story run at h, value story run le h))
