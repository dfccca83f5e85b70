use Rattle.std.proofs.Common.{◌≡◌, ◌∙◌, ℕ, Option, Some, sym, ap, subst, IfOk}
use Rattle.rept_reason.specs.declared.fact.Cell.TheVariants.{Byte}
use Rattle.rept_findings.specs.Shown.{session_told}
use Rattle.rept_questions.specs.Texts.{IsExplained, byte_row}
use Rattle.rept_questions.proofs.reasons.why_byte.Goals as goal

pub returns-in-Some : goal.returns-in-Some
returns-in-Some g c = record {
  text = λ skipped.
      let s = g.F.Findings.shown c.args.findings.now in
      let t = session_told s skipped (g.F.Findings.reasons c.args.findings.now) in
      let a = c.args.address in
      let told : Some c.from.result ≡ s.byte c.moment_of-moment.result a = ap Some c.from.ensures ∙ sym c.in-Some.is ∙ c.byte.ensures in
      subst (λ (m : ℕ). IfOk c.explain.result (IsExplained t (byte_row s m a) m (Byte a) (s.byte m a))) c.moment_of-moment.ensures.value
      (subst (λ (row : ℕ). IfOk c.explain.result (IsExplained t row c.moment_of-moment.result (Byte a) (s.byte c.moment_of-moment.result a))) c.byte_row-row.ensures
      (subst (λ (o : Option ℕ). IfOk c.explain.result (IsExplained t c.byte_row-row.result c.moment_of-moment.result (Byte a) o)) told (c.explain.ensures.text skipped)));
}
