use Rattle.std.proofs.Common.{◌+◌, ℕ, [], ◌∷◌, ◌++◌, refl, arith, length-append, ap, ◌∙◌}
use Rattle.rept_machine.proofs.Running.{ran_none, ran_is_run, ran_on}
use Rattle.rept_machine.proofs.machine.Machine.run.Goals as goal

pub loop-init : goal.loop-init
loop-init c = ([], refl, ran_none c.args.self.now (record { zero = c.args.self.now.zero; words = c.args.self.now.words; bytes = c.args.self.now.memory.small }))

pub returns-in-Err-clause-halted : goal.returns-in-Err-clause-halted
returns-in-Err-clause-halted c =
    let i = c.loop.invariant in
    let e = c.in-Err.ensures in
    let size = i.1 in
    let more = c.loop-test.true in
    (i.0, c.loop.self, omega (arith, size, more), ran_is_run c.args.self.now c.loop.self i.0 i.2, e.cause, e.halt)

pub loop-preserved : goal.loop-preserved
loop-preserved c =
    let i = c.loop.invariant in
    let e = c.in_default.ensures in
    let row = c.in_default.field-0 in (
      i.0 ++ row ∷ [],
      length-append i.0 (row ∷ []) ∙ ap (λ (n : ℕ). n + 1) i.1,
      ran_on c.args.self.now c.loop.self c.step.new.self i.0 i.2 row e.lawful e.state e.at e.next e.instr e.code e.base,
    )

pub returns-clause-ran : goal.returns-clause-ran
returns-clause-ran c =
    let i = c.loop.invariant in
    let size = i.1 in
    let done = c.loop-test.false in
    let end = c.loop.auto.counter-end in
    (i.0, omega (arith, size, done, end), ran_is_run c.args.self.now c.loop.self i.0 i.2)
