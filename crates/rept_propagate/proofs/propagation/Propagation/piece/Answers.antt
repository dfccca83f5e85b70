use Rattle.std.proofs.Common.{refl, arith}
use Rattle.rept_facts.specs.State.{state_of}
use Rattle.rept_facts.proofs.Listing.{piece_last, piece_hit}
use Rattle.rept_propagate.proofs.propagation.Propagation.piece.Goals as goal

pub returns-in-None : goal.returns-in-None
returns-in-None g c =
    let its = c.requires.strip in
    piece_last (state_of g.W.Partial.sets g.W.Transfer.moves g.R.RowRules.rules g.B.ByteFacts.store c.args.self.now.facts) c.requires.writings c.args.a (omega arith) c.args.strip c.args.point its c.requires.calm c.listed_before-low.result c.listed_before-last.result c.args.point c.past_hit-k.result (c.listed_before-low.ensures.split c.requires.writings.barriers.order) (c.listed_before-last.ensures.split c.requires.writings.barriers.order) its.from its.to c.past_hit-k.ensures.bound (c.past_hit-k.ensures.past c.requires.writings.barriers.order) _ (rw c.number_past.ensures.value at c.max-from.ensures) c.loose_before-before.ensures refl refl c.in-None.ensures.next

pub returns-in-Some : goal.returns-in-Some
returns-in-Some g c =
    let its = c.requires.strip in
    piece_hit (state_of g.W.Partial.sets g.W.Transfer.moves g.R.RowRules.rules g.B.ByteFacts.store c.args.self.now.facts) c.requires.writings c.args.a (omega arith) c.args.strip c.args.point its c.requires.calm c.listed_before-low.result c.listed_before-last.result c.args.point c.past_hit-k.result (c.listed_before-low.ensures.split c.requires.writings.barriers.order) (c.listed_before-last.ensures.split c.requires.writings.barriers.order) its.from its.to c.past_hit-k.ensures.bound (c.past_hit-k.ensures.past c.requires.writings.barriers.order) _ (rw c.number_past.ensures.value at c.max-from.ensures) c.loose_before-before.ensures c.in-Some.hit c.entry.result c.min.ensures c.loose_end.ensures c.in-Some.ensures.next.1 c.entry.ensures.found
