use Rattle.std.proofs.Common.{◌≡◌, ℕ, sym, subst, arith}
use Rattle.rept_machine.specs.State.{State}
use Rattle.test_kit.specs.Threads.Turns.Turns.{all_rows}
use Rattle.test_kit.specs.Threads.Play.Ran.{RanTurns, IsStartState}
use Rattle.test_kit.proofs.ThreadsLemmas.PlayLemmas.Running.{ran_first}
use Rattle.test_kit.proofs.threads.play.machine.run.Goals as goal

pub loop-k-init : goal.loop-k-init
loop-k-init c = λ code turns playable words.
    let m = c.new-machine.ensures in
    let ran = ran_first code turns c.new-machine.result c.args.words.now words m.code m.base m.pc m.state in
    (ran.0, subst (λ (s : State). IsStartState c.args.registers s) (sym ran.1) (record { registers = m.registers; memory = m.memory }))

pub step-requires : goal.step-requires
step-requires c =
    let r = c.requires in
    let size = r.3.size in
    (r.0, r.1, c.loop-k.k, r.2, omega (arith, c.loop-k-test.true, c.loop-k.auto.k-end), (c.loop-k.invariant r.0 r.1 r.2 r.3).0)

pub loop-k-preserved : goal.loop-k-preserved
loop-k-preserved c = λ code turns playable words.
    let size = words.size in
    let before = c.loop-k.invariant code turns playable words in
    let next = c.in_ok-step.ensures code turns c.loop-k.k playable (omega (arith, c.loop-k-test.true, c.loop-k.auto.k-end)) before.0 in
    (next.0, subst (λ (s : State). IsStartState c.args.registers s) (sym next.1) before.1)

pub returns : goal.returns
returns c = λ code turns playable words.
    let size = words.size in
    let end : c.loop-k.k ≡ all_rows turns = omega (arith, c.loop-k-test.false, c.loop-k.auto.k-end) in
    subst (λ (k : ℕ). (ran : RanTurns code turns k c.loop-k.machine) × IsStartState c.args.registers (ran.states 0)) end (c.loop-k.invariant code turns playable words)
