use Rattle.std.proofs.Common.{◌≡◌, ℕ, suc, ◌+◌, ◌-◌, ◌<◌, List, Bool, true, false, Some, cond, length, take, arith, ap, sym, ◌∙◌}
use Rattle.std.specs.Prelude.{nat_le, slice_get}
use Rattle.std.specs.List.{find, range_with_len}
use Rattle.rept_questions.specs.Calls.{after_step, depth_at}
use Rattle.rept_questions.specs.Frames.Frames.{frames_of}
use Rattle.rept_questions.specs.declared.frames.frames.Frame.{Frame}
use Rattle.rept_questions.proofs.CallLemmas.{one_step}
use Rattle.rept_questions.proofs.LostLemmas.{first_more}
use Rattle.rept_questions.proofs.calls.return_of.Goals as goal

pub loop-point-preserved : goal.loop-point-preserved
loop-point-preserved c =
    let rows = c.args.rows.now in
    let k = c.loop-point.point in
    let few = c.requires.few in
    let inside : k < length rows = omega (arith, few, c.loop-point-test.true) in
    let one : length rows - k ≡ suc (length rows - (k + 1)) = omega (arith, inside) in
    let test : ℕ → Bool = λ p. nat_le (depth_at rows p) (depth_at rows c.args.step) in
    let grown : c.follow_at.new.frames.items ≡ frames_of (take (k + 1) rows) =
    c.in_ok-follow_at.ensures ∙ ap (λ (fs : List Frame). after_step fs (slice_get rows k)) c.loop-point.invariant.frames ∙ sym (one_step rows k inside)
    in
    let deep : c.len-depth.result ≡ depth_at rows c.args.step = c.len-depth.ensures ∙ c.in_ok-frames.frames.ok.0 ∙ ap length c.in_ok-frames.ensures in
    let passed : test (k + 1) ≡ false =
    sym (c.has_returned.ensures ∙ ap (λ (fs : List Frame). nat_le (length fs) c.len-depth.result) (c.as_slice.ensures.value ∙ grown) ∙ ap (nat_le (depth_at rows (k + 1))) deep) ∙ c.if-has_returned.false
    in
    record {
      frames = grown;
      same = c.loop-point.invariant.same ∙ first_more test (k + 1) (length rows - k) (length rows - (k + 1)) one ∙ ap (λ b. cond b (Some (k + 1)) (find test (range_with_len (k + 1 + 1) (length rows - (k + 1))))) passed;
    }

pub returns-then-has_returned : goal.returns-then-has_returned
returns-then-has_returned c =
    let rows = c.args.rows.now in
    let k = c.loop-point.point in
    let few = c.requires.few in
    let inside : k < length rows = omega (arith, few, c.loop-point-test.true) in
    let one : length rows - k ≡ suc (length rows - (k + 1)) = omega (arith, inside) in
    let test : ℕ → Bool = λ p. nat_le (depth_at rows p) (depth_at rows c.args.step) in
    let grown : c.follow_at.new.frames.items ≡ frames_of (take (k + 1) rows) =
    c.in_ok-follow_at.ensures ∙ ap (λ (fs : List Frame). after_step fs (slice_get rows k)) c.loop-point.invariant.frames ∙ sym (one_step rows k inside)
    in
    let deep : c.len-depth.result ≡ depth_at rows c.args.step = c.len-depth.ensures ∙ c.in_ok-frames.frames.ok.0 ∙ ap length c.in_ok-frames.ensures in
    let passed : test (k + 1) ≡ true =
    sym (c.has_returned.ensures ∙ ap (λ (fs : List Frame). nat_le (length fs) c.len-depth.result) (c.as_slice.ensures.value ∙ grown) ∙ ap (nat_le (depth_at rows (k + 1))) deep) ∙ c.if-has_returned.true
    in
    sym (c.loop-point.invariant.same ∙ first_more test (k + 1) (length rows - k) (length rows - (k + 1)) one ∙ ap (λ b. cond b (Some (k + 1)) (find test (range_with_len (k + 1 + 1) (length rows - (k + 1))))) passed)
