use Rattle.std.proofs.Common.{◌≡◌, ◌∙◌, length, arith}
use Rattle.rept_extents.proofs.CarryLemmas.Linking.{pairs_more, pairs_all}
use Rattle.rept_extents.proofs.carry.links.Links.add_all.Goals as goal

pub loop-to-preserved : goal.loop-to-preserved
loop-to-preserved c = record {
  onward = c.add.ensures.onward ∙ c.loop-to.invariant.onward;
  back = c.add.ensures.back ∙ c.loop-to.invariant.back;
  adds = pairs_more c.args.from c.args.list.now c.loop-to.to-index c.args.self.now c.loop-to.self c.add.new.self c.loop-to-test.true c.loop-to.invariant.adds c.in_ok-add.ensures.adds;
}

pub returns-clause-adds : goal.returns-clause-adds
returns-clause-adds c =
    let all : c.loop-to.to-index ≡ length c.args.list.now = omega (arith, c.loop-to-test.false, c.loop-to.auto.to-index-end) in
    pairs_all c.args.from c.args.list.now c.loop-to.to-index c.args.self.now c.loop-to.self all c.loop-to.invariant.adds
