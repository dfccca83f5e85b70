use Rattle.std.proofs.Common.{sym, ◌∙◌}
use Rattle.rept_relate.proofs.Summing.{any_err, plain, known_word}
use Rattle.rept_relate.proofs.rules.root_term.Goals as goal

pub returns-in_err-join_sum-in-Some-clause-refuses : goal.returns-in_err-join_sum-in-Some-clause-refuses
returns-in_err-join_sum-in-Some-clause-refuses c = any_err c.from_residual.result (λ value zero small valued.
    let has = c.set_of.ensures.has value valued in
    let same = known_word value c.args.node c.in-Some.v c.set_of.result zero small (sym c.as_exact.ensures ∙ c.in-Some.is) has in
    let onward = c.set_of.ensures.same.onward value valued in
    c.in_err-join_sum-in-Some.ensures.refuses value same onward)

pub returns-in-None-clause-keeps : goal.returns-in-None-clause-keeps
returns-in-None-clause-keeps c = λ value zero small valued.
    let onward = c.set_of.ensures.same.onward value valued in
    (c.find.ensures.same.onward value onward, sym (c.find.ensures.alike value onward ∙ plain value c.args.node small))

pub returns-in_ok-join_sum-in-Some-clause-keeps : goal.returns-in_ok-join_sum-in-Some-clause-keeps
returns-in_ok-join_sum-in-Some-clause-keeps c = λ value zero small valued.
    let has = c.set_of.ensures.has value valued in
    let same = known_word value c.args.node c.in-Some.v c.set_of.result zero small (sym c.as_exact.ensures ∙ c.in-Some.is) has in
    let onward = c.set_of.ensures.same.onward value valued in
    (c.in_ok-join_sum-in-Some.ensures.keeps value same onward, same)
