use Rattle.std.proofs.Common.{◌<◌, ◌∙◌, ℕ, Option, length, arith, ap, sym}
use Rattle.std.specs.Prelude.{slice_get, get_or}
use Rattle.std.proofs.lemmas.Option.{slice_get-get_or}
use Rattle.rept_questions.specs.Texts.{is_of, is_value}
use Rattle.rept_questions.proofs.WriterLemmas.{first_passing}
use Rattle.rept_questions.proofs.writers.is_newest.Goals as goal

pub returns-then-is_of : goal.returns-then-is_of
returns-then-is_of c =
    let i = c.loop-other.other-index in
    let x : ℕ = get_or c.args.steps.now i 0 in
    let below : i < length c.args.steps.now = omega arith in
    let first = first_passing (λ (k : ℕ). is_of c.args.pc (slice_get c.args.rows.now k)) c.args.steps.now i x c.loop-other.invariant (slice_get-get_or c.args.steps.now i 0 below) (sym c.is_of.ensures ∙ c.if-is_of.true) in
    ap (λ (o : Option ℕ). is_value c.args.step o) (sym first)
