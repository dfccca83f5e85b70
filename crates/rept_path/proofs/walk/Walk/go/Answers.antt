use Rattle.std.proofs.Common.{◌∙◌, sym, inr}
use Rattle.std.proofs.lemmas.Result.{err_from_is_err_and}
use Rattle.rept_path.specs.Program.{code_of}
use Rattle.rept_path.proofs.Loop.{came_first_near, goes_on_near, arrives_near, has_left_near, blocked_near, one_step_less, rests_at}
use Rattle.rept_path.proofs.walk.Walk.go.Goals as goal

pub loop-target-init : goal.loop-target-init
loop-target-init c =
    let near = c.near-near in (
      c.in_ok-step.ensures.same ∙ near.ensures.code,
      came_first_near (code_of c.args.program.now) (code_of near.result) near.ensures.code c.args.packet c.args.target c.args.aim c.args.self.now c.step.new.self c.in_ok-step.ensures.ok,
    )

pub loop-target-smaller : goal.loop-target-smaller
loop-target-smaller c = one_step_less (code_of c.loop-target.near) _ c.loop-target.self c.step-in-loop-target.new.self c.in_ok-step-2.ensures.ok

pub loop-target-preserved : goal.loop-target-preserved
loop-target-preserved c =
    let i = c.loop-target.invariant in (
      c.step-in-loop-target.ensures.same ∙ i.0,
      goes_on_near (code_of c.args.program.now) (code_of c.loop-target.near) i.0 c.args.packet c.args.target c.args.aim c.args.self.now c.loop-target.self i.1 c.step-in-loop-target.new.self (sym c.stops.ensures ∙ c.loop-target-test.true) c.in_ok-step-2.ensures.ok,
    )

pub returns-in_err-step-2-clause-err : goal.returns-in_err-step-2-clause-err
returns-in_err-step-2-clause-err c =
    let i = c.loop-target.invariant in
    let p = err_from_is_err_and c.from_residual-in_err-step-2.result c.from_residual-in_err-step-2.ensures.1 in
    rw (p.1, p.2) (blocked_near (code_of c.args.program.now) (code_of c.loop-target.near) i.0 c.args.packet c.args.target c.args.aim c.args.self.now c.loop-target.self i.1 c.in_err-step-2.field-0.0 (sym c.stops.ensures ∙ c.loop-target-test.true) c.in_err-step-2.ensures.err)

pub returns-then-misfits-clause-err : goal.returns-then-misfits-clause-err
returns-then-misfits-clause-err c =
    let i = c.loop-target.invariant in
    inr (has_left_near (code_of c.args.program.now) (code_of c.loop-target.near) i.0 c.args.packet c.args.target c.args.aim c.args.self.now c.loop-target.self i.1 c.unused.result (sym c.stops.ensures ∙ c.loop-target-test.false) (sym c.misfits.ensures ∙ c.if-misfits.true) c.unused.ensures.value)

pub returns-clause-ok : goal.returns-clause-ok
returns-clause-ok c =
    let i = c.loop-target.invariant in
    arrives_near (code_of c.args.program.now) (code_of c.loop-target.near) i.0 c.args.packet c.args.target c.args.aim c.args.self.now c.loop-target.self i.1 (sym c.stops.ensures ∙ c.loop-target-test.false) (sym c.misfits.ensures ∙ c.if-misfits.false)

pub returns-clause-rests : goal.returns-clause-rests
returns-clause-rests c = rests_at (code_of c.loop-target.near) c.args.aim c.loop-target.self (sym c.stops.ensures ∙ c.loop-target-test.false) (sym c.misfits.ensures ∙ c.if-misfits.false)
