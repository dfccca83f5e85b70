use Rattle.std.proofs.Common.{◌≡◌, Bool, sym, subst, ◌∙◌}
use Rattle.std.specs.Prelude.{MatchBool}
use Rattle.std.proofs.lemmas.Result.{IfOk-weaker}
use Rattle.rept_findings.specs.Shown.{session_told}
use Rattle.rept_questions.specs.Texts.{IsReasoned, IsRuled}
use Rattle.rept_questions.proofs.reasons.explain.Goals as goal

pub returns : goal.returns
returns g c = record {
  text = λ skipped.
      let t = session_told (g.F.Findings.shown c.args.findings.now) skipped (g.F.Findings.reasons c.args.findings.now) in
      IfOk-weaker c.explain_reported.result _ _ (λ text h. subst (λ (b : Bool). MatchBool b (IsRuled c.args.row text) (IsReasoned t c.args.fact text)) (sym (sym c.is_inferred.ensures ∙ c.if-is_inferred.false)) h)
      (c.explain_reported.ensures.text skipped);
}
