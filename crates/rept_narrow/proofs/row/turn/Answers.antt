use Rattle.std.proofs.Common.{◌≤◌, length, sym, ◌∙◌, arith}
use Rattle.rept_narrow.proofs.Sentences.{any_err, inside_rows, keeps_then, refuses_then, still_sound, refuses_turn, first_sound, second_sound}
use Rattle.rept_narrow.proofs.row.turn.Goals as goal

pub returns-in-None-clause-refuses : goal.returns-in-None-clause-refuses
returns-in-None-clause-refuses c = λ story at. refuses_turn story c.args.table.now c.args.index c.args.row.now c.operand-a.result c.operand-b.result c.reads.result.0 c.reads.result.1 at c.reads.ensures.first c.reads.ensures.second c.operand-a.ensures c.operand-b.ensures (sym c.narrow.ensures ∙ c.in-None.is)

pub returns-in_err-one-in-Some-clause-refuses : goal.returns-in_err-one-in-Some-clause-refuses
returns-in_err-one-in-Some-clause-refuses c = any_err c.from_residual.result (λ story at.
    let inside = inside_rows story.rows c.args.index c.args.row.now at in
    let last : c.args.index ≤ length story.rows = omega (arith, inside) in
    let first = first_sound story c.args.table.now c.args.index c.args.row.now c.operand-a.result c.operand-b.result c.reads.result.0 c.reads.result.1 at c.reads.ensures.first c.reads.ensures.second c.operand-a.ensures c.operand-b.ensures c.in-Some.x c.in-Some.y (sym c.narrow.ensures ∙ c.in-Some.is) in
    c.in_err-one-in-Some.ensures.refuses story first last)

pub returns-in_err-other-in-Some-clause-refuses : goal.returns-in_err-other-in-Some-clause-refuses
returns-in_err-other-in-Some-clause-refuses c = any_err c.from_residual-in_err-other-in-Some.result (λ story at.
    let inside = inside_rows story.rows c.args.index c.args.row.now at in
    let last : c.args.index ≤ length story.rows = omega (arith, inside) in
    let first = first_sound story c.args.table.now c.args.index c.args.row.now c.operand-a.result c.operand-b.result c.reads.result.0 c.reads.result.1 at c.reads.ensures.first c.reads.ensures.second c.operand-a.ensures c.operand-b.ensures c.in-Some.x c.in-Some.y (sym c.narrow.ensures ∙ c.in-Some.is) in
    let second = second_sound story c.args.table.now c.args.index c.args.row.now c.operand-a.result c.operand-b.result c.reads.result.0 c.reads.result.1 at c.reads.ensures.first c.reads.ensures.second c.operand-a.ensures c.operand-b.ensures c.in-Some.x c.in-Some.y (sym c.narrow.ensures ∙ c.in-Some.is) in
    refuses_then story c.args.table.now c.narrow_operand.new.table (c.in_ok-one-in-Some.ensures.keeps story first)
    (c.in_err-other-in-Some.ensures.refuses story (λ s e. still_sound story c.args.table.now c.narrow_operand.new.table c.args.index s c.in-Some.y (c.narrow_operand.ensures.narrower story) (second s e)) last))

pub returns-after-one-clause-keeps : goal.returns-after-one-clause-keeps
returns-after-one-clause-keeps c = λ story at.
    let first = first_sound story c.args.table.now c.args.index c.args.row.now c.operand-a.result c.operand-b.result c.reads.result.0 c.reads.result.1 at c.reads.ensures.first c.reads.ensures.second c.operand-a.ensures c.operand-b.ensures c.in-Some.x c.in-Some.y (sym c.narrow.ensures ∙ c.in-Some.is) in
    let second = second_sound story c.args.table.now c.args.index c.args.row.now c.operand-a.result c.operand-b.result c.reads.result.0 c.reads.result.1 at c.reads.ensures.first c.reads.ensures.second c.operand-a.ensures c.operand-b.ensures c.in-Some.x c.in-Some.y (sym c.narrow.ensures ∙ c.in-Some.is) in
    keeps_then story c.args.table.now c.narrow_operand.new.table c.narrow_operand-in-Some.new.table (c.in_ok-one-in-Some.ensures.keeps story first)
    (c.in_ok-other-in-Some.ensures.keeps story (λ s e. still_sound story c.args.table.now c.narrow_operand.new.table c.args.index s c.in-Some.y (c.narrow_operand.ensures.narrower story) (second s e)))
