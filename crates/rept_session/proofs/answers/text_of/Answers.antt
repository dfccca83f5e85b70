use Rattle.std.proofs.Common.{sym, subst, IfOk}
use Rattle.rept_session.specs.declared.command.Command.{Command}
use Rattle.rept_findings.specs.Shown.{session_told}
use Rattle.rept_session.specs.Texts.{IsText}
use Rattle.rept_session.proofs.answers.text_of.Goals as goal

pub returns-in-WhyReg : goal.returns-in-WhyReg
returns-in-WhyReg g c = record {
  text = subst (λ (k : Command). IfOk c.why_register.result (λ text. IsText (session_told (g.F.Findings.shown c.args.findings.now) c.args.skipped (g.F.Findings.reasons c.args.findings.now)) c.args.at k text)) (sym c.in-WhyReg.is)
      (c.why_register.ensures.text c.args.skipped);
}

pub returns-in-WhyByte : goal.returns-in-WhyByte
returns-in-WhyByte g c = record {
  text = subst (λ (k : Command). IfOk c.why_byte.result (λ text. IsText (session_told (g.F.Findings.shown c.args.findings.now) c.args.skipped (g.F.Findings.reasons c.args.findings.now)) c.args.at k text)) (sym c.in-WhyByte.is)
      (c.why_byte.ensures.text c.args.skipped);
}
