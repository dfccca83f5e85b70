use Rattle.std.proofs.Common.{◌≡◌, ℕ, ◌++◌, List, [], Bool, true, ap, sym, ◌∙◌}
use Rattle.std.specs.Prelude.{slice_get, if◌then◌else◌}
use Rattle.std.specs.List.{filter}
use Rattle.rept_isa.specs.declared.row.StepRow.{StepRow}
use Rattle.rept_questions.specs.Texts.{group_line, group_of, is_of, is_value}
use Rattle.rept_questions.proofs.writers.push_group.Goals as goal

pub returns-then-is_newest : goal.returns-then-is_newest
returns-then-is_newest g c =
    let s = g.F.Findings.shown c.args.findings.now in
    let t = c.args.sought.thread in
    let row = c.args.row.now in
    let j = c.args.step in
    let group : c.in_ok-group.group.items ≡ group_of s t row.at c.args.steps.now =
    c.in_ok-group.ensures ∙ ap (λ (rows : List StepRow). filter (λ k. is_of row.at (slice_get rows k)) c.args.steps.now) c.rows-rows.ensures.list
    in
    let first : is_value j (slice_get (group_of s t row.at c.args.steps.now) 0) ≡ true =
    ap (λ (rows : List StepRow). is_value j (slice_get (filter (λ k. is_of row.at (slice_get rows k)) c.args.steps.now) 0)) (sym c.rows-rows.ensures.list) ∙ sym c.is_newest.ensures ∙ c.if-is_newest.true
    in
    c.in_ok-push_line.ensures
    ∙ ap (λ (xs : List ℕ). c.args.text.now ++ group_line s c.args.sought.bytes t j row xs) (c.as_slice.ensures.value ∙ group)
    ∙ ap (λ (b : Bool). c.args.text.now ++ (if b then group_line s c.args.sought.bytes t j row (group_of s t row.at c.args.steps.now) else [])) (sym first)
