use Rattle.std.proofs.Common.{sym, ◌∙◌, arith}
use Rattle.rept_trace.specs.Packets.{rest_of, number_of}
use Rattle.rept_streams.proofs.SlicesLemmas.Backs.{back_first, back_on, back_here, back_none, back_room}
use Rattle.rept_streams.proofs.slices.back.time_back.Goals as goal

pub loop-packet-init : goal.loop-packet-init
loop-packet-init c = back_first (rest_of c.args.packets) c.args.number c.requires.0 c.requires.1 c.requires.2

pub next_packet-requires : goal.next_packet-requires
next_packet-requires c = (c.loop-packet.invariant.more, c.loop-packet.invariant.hold)

pub returns-in-None : goal.returns-in-None
returns-in-None c = λ list h.
    back_here (rest_of c.args.packets) c.args.number (rest_of c.loop-packet.rest) c.loop-packet.k c.loop-packet.latest c.loop-packet.invariant (number_of c.loop-packet.rest) (number_of c.next_packet.new.rest) (rest_of c.next_packet.new.rest) c.in-Some.packet c.in-Some.ensures.some (sym c.latest_after.ensures ∙ c.in-None.is) list h

pub overflow_add-k : goal.overflow_add-k
overflow_add-k c =
    let r = back_room (rest_of c.args.packets) c.args.number (rest_of c.loop-packet.rest) c.loop-packet.k c.loop-packet.latest c.loop-packet.invariant (number_of c.loop-packet.rest) (number_of c.next_packet.new.rest) (rest_of c.next_packet.new.rest) c.in-Some.packet c.in-Some.ensures.some in
    omega arith

pub loop-packet-preserved : goal.loop-packet-preserved
loop-packet-preserved c =
    back_on (rest_of c.args.packets) c.args.number (rest_of c.loop-packet.rest) c.loop-packet.k c.loop-packet.latest c.loop-packet.invariant (number_of c.loop-packet.rest) (number_of c.next_packet.new.rest) (rest_of c.next_packet.new.rest) c.in-Some.packet c.in-Some.ensures.some c.in-Some-latest_after.time (sym c.latest_after.ensures ∙ c.in-Some-latest_after.is)

pub returns : goal.returns
returns c = λ list h.
    back_none (rest_of c.args.packets) c.args.number (rest_of c.loop-packet.rest) c.loop-packet.k c.loop-packet.latest c.loop-packet.invariant (number_of c.loop-packet.rest) (number_of c.next_packet.new.rest) (rest_of c.next_packet.new.rest) c.in_default.ensures.none list h
