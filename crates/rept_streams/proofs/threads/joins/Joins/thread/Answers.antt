use Rattle.std.proofs.Common.{◌≡◌, ◌⊎◌, ◌+◌, ℕ, Ok, Err, length, drop, refl, sym, subst, arith}
use Rattle.rept_path.specs.declared.fault.PathFault.TheVariants.{OutOfMemory}
use Rattle.rept_streams.specs.Slices.Order.{head_of}
use Rattle.rept_streams.specs.Slices.Joins.{ThreadGround, bridge}
use Rattle.rept_streams.specs.Threads.Joining.{ending_of}
use Rattle.rept_streams.proofs.ThreadsLemmas.MeetLemmas.{rest_whole}
use Rattle.rept_streams.proofs.ThreadsLemmas.Joinery.{Joining, none_joined, next_join, one_joined, one_unjoined, all_joined, asked_slice, same_ending, goes_on, goes_to}
use Rattle.rept_streams.proofs.threads.joins.Joins.thread.Goals as goal

pub loop-i-init : goal.loop-i-init
loop-i-init c = (
  (λ rs a. none_joined (ending_of c.args.self.now c.args.pc) c.args.self.now.count rs c.args.self.now.stretches.items c.args.walked.now _ a c.new.ensures c.new-2.ensures),
  record { program = refl; packets = refl; stretches = refl; count = refl },
  c.requires.few,
)

pub add_slice-requires-clause-ran : goal.add_slice-requires-clause-ran
add_slice-requires-clause-ran c =
    let q = c.requires.ran in
    let j = c.args.self.now in
    let ws = c.args.walked.now in
    let i = c.loop-i.i in
    let n = next_join (ending_of j c.args.pc) j.count q.0 j.stretches.items ws i c.loop-i.self.count c.loop-i.rows c.loop-i-test.true (c.loop-i.invariant.0 q.0 q.1) in
    let x = n.ready q.2 in
    (n.r, n.later, asked_slice j c.loop-i.self c.loop-i.self.count (drop i ws) _ n.r n.later c.loop-i.invariant.1 (rest_whole ws i) n.are, x.1, (x.0).0)

pub returns-in-Err-clause-err : goal.returns-in-Err-clause-err
returns-in-Err-clause-err c = λ rs a.
    let j = c.args.self.now in
    let ws = c.args.walked.now in
    let i = c.loop-i.i in
    let g = c.loop-i.invariant.1 in
    let f = c.in-Err.fault in
    let n = next_join (ending_of j c.args.pc) j.count rs j.stretches.items ws i c.loop-i.self.count c.loop-i.rows c.loop-i-test.true (c.loop-i.invariant.0 rs a) in
    let h = c.in-Err.ensures.err n.r n.later (asked_slice j c.loop-i.self c.loop-i.self.count (drop i ws) _ n.r n.later g (rest_whole ws i) n.are) in
    one_unjoined (ending_of j c.args.pc) j.count rs j.stretches.items (drop i ws) (drop (i + 1) ws) c.loop-i.self.count c.loop-i.rows n f
    (subst (λ (e : ThreadGround). (f ≡ OutOfMemory) ⊎ (bridge e c.loop-i.self.count n.r (head_of n.later) ≡ Err f)) (same_ending j c.loop-i.self c.loop-i.self.count c.args.pc g) h)

pub loop-i-preserved : goal.loop-i-preserved
loop-i-preserved c =
    let j = c.args.self.now in
    let ws = c.args.walked.now in
    let i = c.loop-i.i in
    let g = c.loop-i.invariant.1 in
    let new = c.add_slice.new in
    let q = c.requires.ran in
    let first = next_join (ending_of j c.args.pc) j.count q.0 j.stretches.items ws i c.loop-i.self.count c.loop-i.rows c.loop-i-test.true (c.loop-i.invariant.0 q.0 q.1) in
    let there = c.in_default.ensures.ok first.r first.later (asked_slice j c.loop-i.self c.loop-i.self.count (drop i ws) _ first.r first.later g (rest_whole ws i) first.are) in (
      (λ rs a.
          let n = next_join (ending_of j c.args.pc) j.count rs j.stretches.items ws i c.loop-i.self.count c.loop-i.rows c.loop-i-test.true (c.loop-i.invariant.0 rs a) in
          let h = c.in_default.ensures.ok n.r n.later (asked_slice j c.loop-i.self c.loop-i.self.count (drop i ws) _ n.r n.later g (rest_whole ws i) n.are) in
          let b = subst (λ (e : ThreadGround). bridge e c.loop-i.self.count n.r (head_of n.later) ≡ Ok h.0) (same_ending j c.loop-i.self c.loop-i.self.count c.args.pc g) h.1 in
          subst (λ (m : ℕ). Joining (ending_of j c.args.pc) j.count rs j.stretches.items (drop (i + 1) ws) m new.thread) (sym h.2.count)
          (one_joined (ending_of j c.args.pc) j.count rs j.stretches.items (drop i ws) (drop (i + 1) ws) c.loop-i.self.count c.loop-i.rows new.thread n h.0 b h.4 (λ k. (let x = n.ready k in c.in_default.ensures.ready n.r n.later (asked_slice j c.loop-i.self c.loop-i.self.count (drop i ws) _ n.r n.later g (rest_whole ws i) n.are) x.1 (x.0).0)))),
      goes_on j c.loop-i.self new.self c.loop-i.self.count (c.loop-i.self.count + length there.0) g there.2,
      let few = there.3 in let count = there.2.count in omega (arith, few, count),
    )

pub returns-clause-ok : goal.returns-clause-ok
returns-clause-ok c = λ rs a.
    let j = c.args.self.now in
    let x = all_joined (ending_of j c.args.pc) j.count rs j.stretches.items c.args.walked.now c.loop-i.i c.loop-i.self.count c.loop-i.rows c.loop-i-test.false (c.loop-i.invariant.0 rs a) in
    (x.0, x.1, x.2, goes_to j c.loop-i.self c.loop-i.self.count _ c.loop-i.invariant.1 x.3, c.loop-i.invariant.2)
