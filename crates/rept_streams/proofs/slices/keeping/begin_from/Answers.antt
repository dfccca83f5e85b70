use Rattle.std.proofs.Common.{◌∷◌, refl, sym, ◌∙◌, arith}
use Rattle.rept_trace.specs.Packets.{rest_of, number_of}
use Rattle.rept_streams.proofs.SlicesLemmas.KeepLemmas.{here_first, passes_first, passes_on, passes_room, passes_to, passes_all}
use Rattle.rept_streams.proofs.slices.keeping.begin_from.Goals as goal

pub returns-then-starts_from : goal.returns-then-starts_from
returns-then-starts_from c = λ list h. here_first c.args.time c.args.begin.number c.args.begin list h refl (sym c.starts_from.ensures ∙ c.if-starts_from.true)

pub loop-packet-init : goal.loop-packet-init
loop-packet-init c = passes_first c.args.time c.args.begin.number c.args.begin.first (rest_of c.args.begin.later) c.requires.0 c.requires.1 c.requires.2 (sym c.starts_from.ensures ∙ c.if-starts_from.false)

pub next_packet-requires : goal.next_packet-requires
next_packet-requires c = (c.loop-packet.invariant.more, c.loop-packet.invariant.hold)

pub loop-packet-preserved : goal.loop-packet-preserved
loop-packet-preserved c =
    passes_on c.args.time c.args.begin.number (λ list. c.args.begin.first ∷ list) (rest_of c.args.begin.later) c.loop-packet.number (rest_of c.loop-packet.rest) c.loop-packet.invariant (number_of c.loop-packet.rest) (number_of c.next_packet.new.rest) c.next_packet.new.rest c.in-Some.packet c.in-Some.ensures.some (sym c.starts_from-in-Some.ensures ∙ c.if-starts_from-2.false)

pub returns : goal.returns
returns c = λ list h.
    passes_all c.args.time c.args.begin.number (λ list. c.args.begin.first ∷ list) (rest_of c.args.begin.later) c.loop-packet.number (rest_of c.loop-packet.rest) c.loop-packet.invariant (number_of c.loop-packet.rest) (number_of c.next_packet.new.rest) (rest_of c.next_packet.new.rest) c.in_default.ensures.none list h

pub returns-then-starts_from-2 : goal.returns-then-starts_from-2
returns-then-starts_from-2 c = λ list h.
    passes_to c.args.time c.args.begin.number (λ list. c.args.begin.first ∷ list) (rest_of c.args.begin.later) c.loop-packet.number (rest_of c.loop-packet.rest) c.loop-packet.invariant (number_of c.loop-packet.rest) (number_of c.next_packet.new.rest) c.next_packet.new.rest c.in-Some.packet c.in-Some.ensures.some (sym c.starts_from-in-Some.ensures ∙ c.if-starts_from-2.true) list h

pub overflow_add-number-in-Some : goal.overflow_add-number-in-Some
overflow_add-number-in-Some c =
    let r = passes_room c.args.time c.args.begin.number (λ list. c.args.begin.first ∷ list) (rest_of c.args.begin.later) c.loop-packet.number (rest_of c.loop-packet.rest) c.loop-packet.invariant (number_of c.loop-packet.rest) (number_of c.next_packet.new.rest) c.next_packet.new.rest c.in-Some.packet c.in-Some.ensures.some in
    omega arith
