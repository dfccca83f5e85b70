use Rattle.std.proofs.Common.{◌≡◌, ℕ, suc, ◌+◌, ◌-◌, ◌<◌, Bool, false, Some, cond, length, arith, ap, sym, ◌∙◌}
use Rattle.std.proofs.lemmas.Option.{slice_get-get_or}
use Rattle.std.specs.Prelude.{slice_get}
use Rattle.std.specs.List.{find, range_with_len}
use Rattle.rept_questions.specs.Trail.{writes_register}
use Rattle.rept_questions.proofs.LostLemmas.{first_more}
use Rattle.rept_questions.proofs.lost.next_writer.Goals as goal

pub loop-step-preserved : goal.loop-step-preserved
loop-step-preserved c =
    let rows = c.args.rows.now in
    let k = c.loop-step.step in
    let test : ℕ → Bool = λ j. writes_register c.args.register (slice_get rows j) in
    let few = c.requires.few in
    let inside : k < length rows = omega (arith, few, c.loop-step-test.true) in
    let one : length rows - k ≡ suc (length rows - (k + 1)) = omega (arith, inside) in
    let passed : test k ≡ false =
    ap (writes_register c.args.register) (slice_get-get_or rows k c.index-rows-step.result inside) ∙ sym c.is_written.ensures ∙ c.if-is_written.false
    in
    c.loop-step.invariant ∙ first_more test k (length rows - k) (length rows - (k + 1)) one
    ∙ ap (λ b. cond b (Some k) (find test (range_with_len (k + 1) (length rows - (k + 1))))) passed
