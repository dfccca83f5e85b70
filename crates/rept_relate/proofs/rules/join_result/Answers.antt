use Rattle.std.proofs.Common.{ap, ◌∙◌}
use Rattle.std.proofs.lemmas.Result.{on_ok_weaker, on_err_weaker}
use Rattle.rept_isa.specs.declared.instr.RegOp.{RegOp}
use Rattle.rept_machine.specs.Arithmetic.{computed}
use Rattle.rept_relate.specs.Classes.Valuations.{word_of}
use Rattle.rept_relate.proofs.rules.join_result.Goals as goal

pub returns-in-Add-clause-keeps : goal.returns-in-Add-clause-keeps
returns-in-Add-clause-keeps c =
    on_ok_weaker c.join_added.result (λ keeps value h valued. keeps value ((h.0, h.1 ∙ ap (λ (o : RegOp). computed o (word_of value c.args.operation.now.first) (word_of value c.args.operation.now.second)) c.in-Add.is)) valued) c.join_added.ensures.keeps

pub returns-in-Add-clause-refuses : goal.returns-in-Add-clause-refuses
returns-in-Add-clause-refuses c =
    on_err_weaker c.join_added.result (λ refuses value h valued. refuses value ((h.0, h.1 ∙ ap (λ (o : RegOp). computed o (word_of value c.args.operation.now.first) (word_of value c.args.operation.now.second)) c.in-Add.is)) valued) c.join_added.ensures.refuses

pub returns-in-Sub-clause-keeps : goal.returns-in-Sub-clause-keeps
returns-in-Sub-clause-keeps c =
    on_ok_weaker c.join_subtracted.result (λ keeps value h valued. keeps value ((h.0, h.1 ∙ ap (λ (o : RegOp). computed o (word_of value c.args.operation.now.first) (word_of value c.args.operation.now.second)) c.in-Sub.is)) valued) c.join_subtracted.ensures.keeps

pub returns-in-Sub-clause-refuses : goal.returns-in-Sub-clause-refuses
returns-in-Sub-clause-refuses c =
    on_err_weaker c.join_subtracted.result (λ refuses value h valued. refuses value ((h.0, h.1 ∙ ap (λ (o : RegOp). computed o (word_of value c.args.operation.now.first) (word_of value c.args.operation.now.second)) c.in-Sub.is)) valued) c.join_subtracted.ensures.refuses
