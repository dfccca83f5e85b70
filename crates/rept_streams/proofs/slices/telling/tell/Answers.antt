use Rattle.std.proofs.Common.{◌∷◌, None, arith}
use Rattle.rept_trace.specs.Packets.{rest_of, number_of}
use Rattle.rept_streams.specs.Slices.Parts.{told_from}
use Rattle.rept_streams.proofs.SlicesLemmas.TellLemmas.{tells_first, tells_on, tells_room, tells_end}
use Rattle.rept_streams.proofs.slices.telling.tell.Goals as goal

pub loop-packet-init : goal.loop-packet-init
loop-packet-init c = rw c.running_after-inside.ensures (tells_first c.args.stream c.args.number c.args.start c.args.later c.requires.0 c.args.entries.now.items c.add_start.new.entries.items c.requires.1 c.requires.2 c.in_ok-add_start.ensures.ok)

pub overflow_add-k-in-Some : goal.overflow_add-k-in-Some
overflow_add-k-in-Some c =
    let r = tells_room c.args.stream (λ list. told_from c.args.stream c.args.number None (c.args.start ∷ list)) (rest_of c.args.later) c.args.entries.now.items c.loop-packet.k c.loop-packet.inside (rest_of c.loop-packet.rest) c.loop-packet.entries.items c.loop-packet.invariant (number_of c.loop-packet.rest) (number_of c.next_packet.new.rest) c.next_packet.new.rest c.in-Some.packet c.in-Some.ensures.some in
    omega arith

pub loop-packet-preserved : goal.loop-packet-preserved
loop-packet-preserved c =
    rw c.running_after-inside-in-Some.ensures (tells_on c.args.stream (λ list. told_from c.args.stream c.args.number None (c.args.start ∷ list)) (rest_of c.args.later) c.args.entries.now.items c.loop-packet.k c.loop-packet.inside (rest_of c.loop-packet.rest) c.loop-packet.entries.items c.loop-packet.invariant (number_of c.loop-packet.rest) (number_of c.next_packet.new.rest) c.next_packet.new.rest c.in-Some.packet c.in-Some.ensures.some c.add_start-in-Some.new.entries.items c.in_ok-add_start-2.ensures.ok)

pub returns-clause-ok : goal.returns-clause-ok
returns-clause-ok c = λ list h.
    tells_end c.args.stream (λ list. told_from c.args.stream c.args.number None (c.args.start ∷ list)) (rest_of c.args.later) c.args.entries.now.items c.loop-packet.k c.loop-packet.inside (rest_of c.loop-packet.rest) c.loop-packet.entries.items c.loop-packet.invariant (number_of c.loop-packet.rest) (number_of c.next_packet.new.rest) (rest_of c.next_packet.new.rest) c.in_default.ensures.none list h
