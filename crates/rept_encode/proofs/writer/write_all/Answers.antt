use Rattle.std.proofs.Common.{ℕ, List, ◌++◌, ◌∙◌, ap, subst}
use Rattle.rept_encode.specs.Encoded.{start_at}
use Rattle.rept_encode.specs.Written.{Appends}
use Rattle.rept_encode.proofs.Sending.{get_at, whole_tells}
use Rattle.rept_encode.proofs.writer.write_all.Goals as goal

pub returns-clause-tells : goal.returns-clause-tells
returns-clause-tells c =
    let first = get_at c.args.rows.now 0 c.index-rows-0.result c.index-rows-0.is c.requires.given.walkable.some in
    let front : List ℕ = c.push_start.new.text in
    let start : Appends c.args.halves _ c.push_start.new.text (start_at c.index-rows-0.result) = c.in_ok-push_start.ensures in
    whole_tells c.args.halves c.args.rows.now c.index-rows-0.result c.push_start.new.text c.in_ok-body.body _ c.requires.given.few first (subst (λ (t : List ℕ). Appends c.args.halves t c.push_start.new.text (start_at c.index-rows-0.result)) c.in_ok-trace.ensures start) c.in_ok-body.ensures.tells (c.in_ok-push.ensures.ok ∙ ap (λ (xs : List ℕ). c.push_start.new.text ++ xs) c.bytes.ensures)
