use Rattle.std.proofs.Common.{ℕ, ◌++◌, Option, codes, ap, sym, ◌∙◌}
use Rattle.rept_report.specs.declared.writer.Writer.{Writer}
use Rattle.rept_word.specs.Hex.{hex_word}
use Rattle.rept_findings.specs.Shown.{moment_at}
use Rattle.rept_findings.specs.Texts.{writer_text}
use Rattle.rept_questions.specs.Texts.{byte_end}
use Rattle.rept_findings.proofs.TextLemmas.{four_pieces}
use Rattle.rept_questions.proofs.trail_text.push_byte_end.Goals as goal

pub returns : goal.returns
returns g c =
    let s = g.F.Findings.shown c.args.findings.now in
    let a = c.in-Some.address in
    four_pieces c.args.text.now (codes " ") (hex_word a) (codes " ") (writer_text s (s.writer (moment_at s c.args.at) a)) c.push.new.self c.push_word.new.self c.push-2.new.self c.push_writer.new.text
    c.in_ok-push.ensures.ok c.in_ok-push_word.ensures.ok c.in_ok-push-2.ensures.ok
    (c.in_ok-push_writer.ensures ∙ ap (λ (w : Writer). c.push-2.new.self ++ writer_text s w) c.writer-writer.ensures.value ∙ ap (λ m. c.push-2.new.self ++ writer_text s (s.writer m a)) c.moment_of.ensures.value)
    ∙ ap (λ (o : Option ℕ). c.args.text.now ++ byte_end s c.args.at o) (sym c.in-Some.is)
