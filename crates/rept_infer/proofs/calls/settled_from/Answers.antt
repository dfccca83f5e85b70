use Rattle.std.proofs.Common.{◌≡◌, ◌+◌, ◌-◌, ◌<◌, ◌≤◌, ℕ, List, length, get_or, ap, sym, subst, ◌∙◌, arith}
use Rattle.rept_isa.specs.declared.row.StepRow.{StepRow}
use Rattle.rept_machine.specs.State.{State}
use Rattle.rept_narrow.specs.Admitted.{Story, IsSettled}
use Rattle.rept_narrow.proofs.Calling.{settled_before, settled_end}
use Rattle.rept_infer.proofs.calls.settled_from.Goals as goal

pub loop-back-init : goal.loop-back-init
loop-back-init c = λ story run e h.
    let points = c.requires.points in
    let long : length story.rows ≡ length c.args.rows.now = ap length e in
    settled_end story run (c.args.table.now.points - 1 - 0) (omega (arith, points, long))

pub loop-back-preserved : goal.loop-back-preserved
loop-back-preserved c = λ story run e h.
    let points = c.requires.points in
    let test = c.loop-back-test.true in
    let last = c.points-last.ensures.points in
    let i = c.points-last.result - 1 - 1 - c.loop-back.back in
    let here : i ≡ c.args.table.now.points - 1 - (c.loop-back.back + 1) = omega (arith, last) in
    let next : c.args.table.now.points - 1 - c.loop-back.back ≡ i + 1 = omega (arith, last, test) in
    let long : length story.rows ≡ length c.args.rows.now = ap length e in
    let inside : i < length story.rows = omega (arith, last, test, long, points) in
    let row = c.index-rows-index.result in
    let is : row ≡ get_or story.rows i row = subst (λ (x : List StepRow). row ≡ get_or x i row) (sym e) c.index-rows-index.is in
    let later : IsSettled story run (i + 1) = subst (λ (m : ℕ). IsSettled story run m) next (c.loop-back.invariant story run e h) in
    subst (λ (m : ℕ). IsSettled story run m) here (settled_before story run i row row is (c.row_leaves_pages.ensures c.if-not-row_leaves_pages.false story run inside h) later)

pub returns-then-not-row_leaves_pages : goal.returns-then-not-row_leaves_pages
returns-then-not-row_leaves_pages c =
    let last = c.points-last.ensures.points in
    let test = c.loop-back-test.true in
    let same : c.args.table.now.points - 1 - c.loop-back.back ≡ c.points-last.result - 1 - 1 - c.loop-back.back + 1 = omega (arith, last, test) in
    record { settled = λ story run e h. subst (λ (m : ℕ). IsSettled story run m) same (c.loop-back.invariant story run e h) }

pub returns : goal.returns
returns c =
    let last = c.points-last.ensures.points in
    let test = c.loop-back-test.false in
    let same : c.args.table.now.points - 1 - c.loop-back.back ≡ 0 = omega (arith, last, test) in
    record { settled = λ story run e h. subst (λ (m : ℕ). IsSettled story run m) same (c.loop-back.invariant story run e h) }
