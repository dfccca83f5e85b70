use Rattle.std.proofs.Common.{sym, ap, ◌∙◌}
use Rattle.rept_isa.specs.declared.class.Turn.{Turn}
use Rattle.rept_relate.specs.Relations.{equates}
use Rattle.rept_relate.proofs.Summing.{any_err, plain_both}
use Rattle.rept_relate.proofs.relating.relate_branch.Goals as goal

pub returns-in_err-join-clause-refuses : goal.returns-in_err-join-clause-refuses
returns-in_err-join-clause-refuses c =
    let went = sym (c.equates.ensures ∙ ap (λ (t : Turn). equates c.args.op t) c.turn.ensures) ∙ c.if-equates.true in
    any_err c.from_residual.result (λ value same valued. c.in_err-join.ensures.refuses value valued (plain_both value c.args.nodes.first c.args.nodes.second (same went)))

pub returns-in_ok-join-clause-keeps : goal.returns-in_ok-join-clause-keeps
returns-in_ok-join-clause-keeps c =
    let went = sym (c.equates.ensures ∙ ap (λ (t : Turn). equates c.args.op t) c.turn.ensures) ∙ c.if-equates.true in
    λ value same valued. c.in_ok-join.ensures.keeps value valued (plain_both value c.args.nodes.first c.args.nodes.second (same went))
