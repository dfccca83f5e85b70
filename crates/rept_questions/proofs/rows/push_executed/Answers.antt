use Rattle.std.proofs.Common.{ℕ, ◌+◌, ◌++◌, Option, ap, ◌∙◌}
use Rattle.rept_isa.specs.Operands.{first_read, second_read, written_by}
use Rattle.rept_findings.specs.Shown.{number}
use Rattle.rept_questions.specs.Texts.{access_text, named_row, reads_text, writes_text}
use Rattle.rept_findings.proofs.TextLemmas.{four_pieces}
use Rattle.rept_questions.proofs.rows.push_executed.Goals as goal

pub returns : goal.returns
returns g c =
    let s = g.F.Findings.shown c.args.findings.now in
    let i = c.args.row.now.instr in
    let n = number s c.args.at in
    let before = c.number_of-number.ensures.value in
    four_pieces c.args.text.now (named_row s c.args.at.point c.args.row.now) (reads_text s n (first_read i) (second_read i)) (access_text s n i) (writes_text s (n + 1) (written_by i))
    c.push_named_row.new.text c.push_reads.new.text c.push_access.new.text c.push_writes.new.text
    c.in_ok-push_named_row.ensures
    (c.in_ok-push_reads.ensures
    ∙ ap (λ m. c.push_named_row.new.text ++ reads_text s m c.reads-first.result.0 c.reads-first.result.1) before
    ∙ ap (λ (o : Option ℕ). c.push_named_row.new.text ++ reads_text s n o c.reads-first.result.1) c.reads-first.ensures.first
    ∙ ap (λ (o : Option ℕ). c.push_named_row.new.text ++ reads_text s n (first_read i) o) c.reads-first.ensures.second)
    (c.in_ok-push_access.ensures ∙ ap (λ m. c.push_reads.new.text ++ access_text s m i) before)
    (c.in_ok-push_writes.ensures
    ∙ ap (λ m. c.push_access.new.text ++ writes_text s m c.writes.result) c.number_after-after.ensures.value
    ∙ ap (λ (o : Option ℕ). c.push_access.new.text ++ writes_text s (n + 1) o) c.writes.ensures)
