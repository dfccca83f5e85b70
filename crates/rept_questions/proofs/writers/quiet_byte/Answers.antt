use Rattle.std.proofs.Common.{◌≡◌, ℕ, ◌≤◌, ap, subst, ◌∙◌}
use Rattle.rept_report.specs.declared.writer.Writer.{Writer}
use Rattle.rept_findings.specs.LastWriters.{writer_at}
use Rattle.rept_findings.specs.Texts.{at}
use Rattle.rept_questions.specs.Writers.{quiet_after}
use Rattle.rept_questions.proofs.WriterLemmas.{quiet_byte}
use Rattle.rept_questions.proofs.writers.quiet_byte.Goals as goal

pub returns-clause-quiet : goal.returns-clause-quiet
returns-clause-quiet g c =
    let s = g.F.Findings.shown c.args.findings.now in
    let a = c.args.address in
    let t = c.args.at.thread in
    let p = c.args.at.point in
    let w : Writer = writer_at s (at t p) a in
    let writer_is : c.writer-writer.result ≡ w = c.writer-writer.ensures.value ∙ ap (λ m. s.writer m a) c.moment_of.ensures.value in
    let from_is : c.quiet_after.result ≡ quiet_after s (at t p) w = c.quiet_after.ensures.value ∙ ap (quiet_after s (at t p)) writer_is in
    λ k over upto. quiet_byte s t a p (c.writer-writer.ensures.last t) c.requires k (subst (λ r. r ≤ k) from_is over) upto
