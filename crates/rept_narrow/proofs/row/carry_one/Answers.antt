use Rattle.std.proofs.Common.{◌+◌, ◌≤◌, length, arith}
use Rattle.rept_narrow.proofs.Sentences.{any_err, inside_rows, carried_on, carried_back, keeps_then, refuses_then}
use Rattle.rept_narrow.proofs.row.carry_one.Goals as goal

pub returns-in_err-onward-clause-refuses : goal.returns-in_err-onward-clause-refuses
returns-in_err-onward-clause-refuses c = any_err c.from_residual.result (λ story at.
    let inside = inside_rows story.rows c.args.index c.args.row.now at in
    let last : c.args.index + 1 ≤ length story.rows = omega (arith, inside) in
    λ run h. c.in_err-onward.ensures.refuses story run h ((carried_on story c.args.table.now c.args.index c.args.r c.args.row.now c.at-before.result at c.requires.kept c.at-before.ensures.value) run h) last)

pub returns-in_err-back-clause-refuses : goal.returns-in_err-back-clause-refuses
returns-in_err-back-clause-refuses c = any_err c.from_residual-in_err-back.result (λ story at.
    let inside = inside_rows story.rows c.args.index c.args.row.now at in
    let last : c.args.index ≤ length story.rows = omega (arith, inside) in
    refuses_then story c.args.table.now c.narrow.new.self
    (λ run h. c.in_ok-onward.ensures.keeps story run h ((carried_on story c.args.table.now c.args.index c.args.r c.args.row.now c.at-before.result at c.requires.kept c.at-before.ensures.value) run h))
    (λ run h. c.in_err-back.ensures.refuses story run h ((carried_back story c.narrow.new.self c.args.index c.args.r c.args.row.now c.at-after.result at c.requires.kept c.at-after.ensures.value) run h) last))

pub returns-clause-keeps : goal.returns-clause-keeps
returns-clause-keeps c = λ story at.
    keeps_then story c.args.table.now c.narrow.new.self c.narrow-2.new.self
    (λ run h. c.in_ok-onward.ensures.keeps story run h ((carried_on story c.args.table.now c.args.index c.args.r c.args.row.now c.at-before.result at c.requires.kept c.at-before.ensures.value) run h))
    (λ run h. c.in_ok-back.ensures.keeps story run h ((carried_back story c.narrow.new.self c.args.index c.args.r c.args.row.now c.at-after.result at c.requires.kept c.at-after.ensures.value) run h))
