use Rattle.std.proofs.Common.{List, ℕ, subst}
use Rattle.rept_streams.specs.Slices.Stamps.{clock_of, context_of}
use Rattle.rept_streams.specs.declared.threads.walks.Walked.{Walked}
use Rattle.rept_streams.proofs.ThreadsLemmas.Standing.{Turns, processes_rise, stands}
use Rattle.rept_streams.proofs.threads.walks.put_in_order.Goals as goal

abbrev time : Walked → ℕ
time w = clock_of w.slice.start

abbrev owner : Walked → ℕ
owner w = context_of w.slice.start

pub returns-then-stand_in_order-clause-processes : goal.returns-then-stand_in_order-clause-processes
returns-then-stand_in_order-clause-processes c =
    let turns : Turns time owner c.args.slices.now.items = subst (λ (ws : List Walked). Turns time owner ws) c.deref.ensures.value (c.stand_in_order.ensures c.if-stand_in_order.true) in
    processes_rise time owner c.args.slices.now.items turns

pub returns-then-stand_in_order-clause-times : goal.returns-then-stand_in_order-clause-times
returns-then-stand_in_order-clause-times c = λ process.
    let turns : Turns time owner c.args.slices.now.items = subst (λ (ws : List Walked). Turns time owner ws) c.deref.ensures.value (c.stand_in_order.ensures c.if-stand_in_order.true) in
    stands time owner process c.args.slices.now.items turns
