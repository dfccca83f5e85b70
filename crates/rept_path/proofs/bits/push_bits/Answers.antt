use Rattle.std.proofs.Common.{◌++◌, arith}
use Rattle.rept_path.specs.Packets.{low_bits}
use Rattle.rept_path.proofs.BitLemmas.{one_more, all_taken}
use Rattle.rept_path.proofs.bits.push_bits.Goals as goal

pub loop-preserved : goal.loop-preserved
loop-preserved c =
    let size = c.loop.invariant.1 in
    let len = c.in_ok-push.ensures.len in
    (rw c.in_ok-push.ensures.items (one_more c.loop.bits.items (c.args.bits.now.items ++ low_bits c.args.count c.args.map) c.args.count c.loop.counter c.loop.rest c.loop-test.true c.loop.invariant.0), omega (arith, size, len))

pub returns-clause-bits : goal.returns-clause-bits
returns-clause-bits c = all_taken c.loop.bits.items (c.args.bits.now.items ++ low_bits c.args.count c.args.map) c.args.count c.loop.counter c.loop.rest c.loop-test.false c.loop.invariant.0

pub returns-clause-size : goal.returns-clause-size
returns-clause-size c =
    let size = c.loop.invariant.1 in
    let end = c.loop.auto.counter-end in
    let past = c.loop-test.false in
    omega (arith, size, end, past)
