use Rattle.std.proofs.Common.{length, ap, arith}
use Rattle.rept_relate.proofs.Counting.{length_more, places_more}
use Rattle.rept_relate.proofs.numbering.first_nodes.Goals as goal

pub loop-r-init : goal.loop-r-init
loop-r-init c = record {
  count = ap length c.in_ok-nodes.ensures.items;
  places = λ k less. absurd (omega arith);
}

pub loop-r-preserved : goal.loop-r-preserved
loop-r-preserved c =
    let i = c.loop-r.invariant in
    record {
      count = length_more c.loop-r.nodes.items c.push.new.self.items c.loop-r.r c.loop-r.r i.count c.in_ok-push.ensures.items;
      places = places_more c.loop-r.nodes.items c.push.new.self.items c.loop-r.r i.count i.places c.in_ok-push.ensures.items;
    }

pub returns-clause-length : goal.returns-clause-length
returns-clause-length c =
    let past = c.loop-r-test.false in
    let most = c.loop-r.auto.r-end in
    let count = c.loop-r.invariant.count in
    omega arith

pub returns-clause-nodes : goal.returns-clause-nodes
returns-clause-nodes c =
    let past = c.loop-r-test.false in
    λ r less. c.loop-r.invariant.places r (omega arith)
