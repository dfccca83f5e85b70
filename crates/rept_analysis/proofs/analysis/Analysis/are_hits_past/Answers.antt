use Rattle.std.proofs.Common.{arith}
use Rattle.rept_analysis.proofs.analysis.Analysis.are_hits_past.Goals as goal

pub loop-hit-init : goal.loop-hit-init
loop-hit-init g c = record { past = λ k w found from to hits. absurd (omega (arith, from, to)) }

pub entry-row-requires-clause-within : goal.entry-row-requires-clause-within
entry-row-requires-clause-within g c =
    let next = (rw c.in-Some.is at c.next_hit.ensures.next).1 in
    next.inside

pub entry-row-requires-clause-writings : goal.entry-row-requires-clause-writings
entry-row-requires-clause-writings g c = c.requires.writings

pub overflow_add-low : goal.overflow_add-low
overflow_add-low g c =
    let next = (rw c.in-Some.is at c.next_hit.ensures.next).1 in
    let within = next.inside in
    let few = c.next_hit.ensures.few in
    omega (arith, within, few)

pub loop-hit-smaller : goal.loop-hit-smaller
loop-hit-smaller g c =
    let next = (rw c.in-Some.is at c.next_hit.ensures.next).1 in
    let low = next.from in
    let within = next.inside in
    omega (arith, low, within)
