use Rattle.std.proofs.Common.{◌+◌, ◌≤◌, length, sym, ◌∙◌, arith}
use Rattle.std.proofs.lemmas.Result.{on_ok_weaker, on_err_weaker}
use Rattle.rept_narrow.proofs.Answering.{answer_sound}
use Rattle.rept_narrow.proofs.Sentences.{inside_rows}
use Rattle.rept_narrow.proofs.answers.tell_answer.Goals as goal

pub returns-in-Some-clause-keeps : goal.returns-in-Some-clause-keeps
returns-in-Some-clause-keeps g c = on_ok_weaker c.narrow.result (λ keeps story row at call end_is premises_are run h.
    keeps story run h (answer_sound story run c.args.table.now c.args.index c.in-Some.number c.register.result c.register-in-Some.result c.register-in-Some-2.result c.register-in-Some-3.result row (g.P.PathPremises.premises c.args.premises.now) c.args.image_end c.at.result c.at-asked.result c.at-answer.result c.answer_set-set.result at call end_is premises_are c.register.ensures c.at.ensures.value (sym c.as_exact.ensures ∙ c.in-Some.is) c.register-in-Some.ensures c.at-asked.ensures.value c.register-in-Some-2.ensures c.at-answer.ensures.value c.register-in-Some-3.ensures c.answer_set-set.ensures h)) c.narrow.ensures.keeps

pub returns-in-Some-clause-refuses : goal.returns-in-Some-clause-refuses
returns-in-Some-clause-refuses g c = on_err_weaker c.narrow.result (λ refuses story row at call end_is premises_are run h.
    let inside = inside_rows story.rows c.args.index row at in
    let last : c.args.index + 1 ≤ length story.rows = omega (arith, inside) in
    refuses story run h (answer_sound story run c.args.table.now c.args.index c.in-Some.number c.register.result c.register-in-Some.result c.register-in-Some-2.result c.register-in-Some-3.result row (g.P.PathPremises.premises c.args.premises.now) c.args.image_end c.at.result c.at-asked.result c.at-answer.result c.answer_set-set.result at call end_is premises_are c.register.ensures c.at.ensures.value (sym c.as_exact.ensures ∙ c.in-Some.is) c.register-in-Some.ensures c.at-asked.ensures.value c.register-in-Some-2.ensures c.at-answer.ensures.value c.register-in-Some-3.ensures c.answer_set-set.ensures h) last) c.narrow.ensures.refuses
