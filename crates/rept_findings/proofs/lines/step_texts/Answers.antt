use Rattle.std.proofs.Common.{◌≡◌, ℕ, ◌+◌, ◌-◌, List, arith, ap, ◌∙◌, slice_get}
use Rattle.std.specs.List.{flat_map, range_with_len}
use Rattle.rept_findings.specs.Texts.{step_line, step_lines}
use Rattle.rept_findings.proofs.TextLemmas.{grown_whole}
use Rattle.rept_findings.proofs.lines.step_texts.Goals as goal

pub loop-step-preserved : goal.loop-step-preserved
loop-step-preserved c =
    let f : ℕ → List ℕ = λ j. step_line j (slice_get c.args.rows.now j) in
    grown_whole f c.args.first (c.loop-step.step - c.args.first) c.loop-step.step (c.loop-step.step + 1 - c.args.first) c.loop-step.text c.push_existing_step.new.text (omega arith) (omega arith) c.loop-step.invariant
    c.in_ok-push_existing_step.ensures

pub returns : goal.returns
unfolding step_lines
returns c =
    let all : c.loop-step.step - c.args.first ≡ c.args.count = omega arith in
    c.loop-step.invariant ∙ ap (λ n. flat_map (λ j. step_line j (slice_get c.args.rows.now j)) (range_with_len c.args.first n)) all
