use Rattle.std.proofs.Common.{◌≡◌, ℕ, ◌+◌, ◌++◌, List, arith, ap, ◌∙◌}
use Rattle.std.specs.Prelude.{slice_get}
use Rattle.std.specs.List.{filter, range_with_len}
use Rattle.rept_questions.specs.Calls.{is_call_row}
use Rattle.rept_questions.specs.Spots.{one_where}
use Rattle.rept_questions.proofs.SpotLemmas.{points_more}
use Rattle.rept_questions.proofs.calls.calls_before.Goals as goal

pub loop-step-preserved : goal.loop-step-preserved
loop-step-preserved c =
    points_more (λ j. is_call_row (slice_get c.args.rows.now j)) c.loop-step.step (c.loop-step.step + 1) c.loop-step.steps.items c.push_where.new.points.items (omega arith) c.loop-step.invariant
    (c.in_ok-push_where.ensures ∙ ap (λ b. c.loop-step.steps.items ++ one_where b c.loop-step.step) c.is_call_at.ensures)

pub returns : goal.returns
returns c =
    let all : c.loop-step.step ≡ c.args.point = omega arith in
    c.loop-step.invariant ∙ ap (λ n. filter (λ j. is_call_row (slice_get c.args.rows.now j)) (range_with_len 0 n)) all
