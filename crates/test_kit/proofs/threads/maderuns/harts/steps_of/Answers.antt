use Rattle.std.proofs.Common.{arith}
use Rattle.test_kit.proofs.ThreadsLemmas.MaderunsLemmas.Linking.{next_ends, next_copied, all_copied}
use Rattle.test_kit.proofs.threads.maderuns.harts.steps_of.Goals as goal

pub push-requires : goal.push-requires
push-requires c = next_ends c.args.rows.now c.loop-i.steps c.loop-i.i c.index-rows-i.result c.requires.linked (omega arith) c.loop-i.invariant c.index-rows-i.is

pub loop-i-preserved : goal.loop-i-preserved
loop-i-preserved c = next_copied c.args.rows.now c.loop-i.steps c.push.new.self c.loop-i.i c.index-rows-i.result (omega arith) c.loop-i.invariant c.index-rows-i.is c.in-Ok.ensures.ok

pub returns : goal.returns
returns c = all_copied c.args.rows.now c.loop-i.steps c.loop-i.i (omega arith) c.loop-i.invariant
