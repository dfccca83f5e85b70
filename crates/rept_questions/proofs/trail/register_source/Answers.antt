use Rattle.std.proofs.Common.{◌≡◌, ℕ, suc, ◌-◌, ◌<◌, Bool, false, Some, cond, length, arith, ap, sym, ◌∙◌}
use Rattle.std.proofs.lemmas.Option.{slice_get-get_or}
use Rattle.std.specs.Prelude.{slice_get}
use Rattle.std.specs.List.{find}
use Rattle.rept_questions.specs.Trail.{falling, writes_register}
use Rattle.rept_questions.proofs.TrailLemmas.{falling_one}
use Rattle.rept_questions.proofs.trail.register_source.Goals as goal

pub back-preserved : goal.back-preserved
back-preserved c =
    let rows = c.args.rows.now in
    let k = c.back.below - 1 in
    let test : ℕ → Bool = λ j. writes_register c.args.register (slice_get rows j) in
    let few = c.back.invariant.within in
    let long = c.requires in
    let inside : k < length rows = omega (arith, few, long, c.back-test.true) in
    let one : c.back.below ≡ suc k = omega (arith, c.back-test.true) in
    let passed : test k ≡ false =
    ap (writes_register c.args.register) (slice_get-get_or rows k c.index-rows-below.result inside) ∙ sym c.is_written.ensures ∙ c.if-is_written.false
    in
    record {
      same = c.back.invariant.same ∙ falling_one test c.back.below k one ∙ ap (λ b. cond b (Some k) (find test (falling k))) passed;
      within = omega (arith, few);
    }
