use Rattle.std.proofs.Common.{sym, ◌∙◌}
use Rattle.rept_trace.specs.Packets.{rest_of, number_of}
use Rattle.rept_streams.proofs.SlicesLemmas.Scanning.{same_first, same_on, same_later, same_from, same_none, time_past, past_on, past_here}
use Rattle.rept_streams.proofs.slices.scan.time_beyond.Goals as goal

pub loop-packet-init : goal.loop-packet-init
loop-packet-init c = same_first time_past (rest_of c.args.later) c.requires.0 c.requires.1

pub next_packet-requires : goal.next_packet-requires
next_packet-requires c = (c.loop-packet.invariant.more, c.loop-packet.invariant.hold)

pub time_from-requires : goal.time_from-requires
time_from-requires c =
    same_later time_past (rest_of c.args.later) (rest_of c.loop-packet.rest) (rest_of c.next_packet.new.rest) (number_of c.loop-packet.rest) (number_of c.next_packet.new.rest) c.in-Some.packet c.loop-packet.invariant c.in-Some.ensures.some

pub returns-then-closes : goal.returns-then-closes
returns-then-closes c = λ list h.
    same_from time_past (rest_of c.args.later) (rest_of c.loop-packet.rest) (rest_of c.next_packet.new.rest) (number_of c.loop-packet.rest) (number_of c.next_packet.new.rest) c.in-Some.packet c.time_from.result c.loop-packet.invariant c.in-Some.ensures.some (λ later k. c.time_from.ensures later k ∙ sym (past_here c.in-Some.packet later (sym c.closes.ensures ∙ c.if-closes.true))) list h

pub loop-packet-preserved : goal.loop-packet-preserved
loop-packet-preserved c =
    same_on time_past (rest_of c.args.later) (rest_of c.loop-packet.rest) (rest_of c.next_packet.new.rest) (number_of c.loop-packet.rest) (number_of c.next_packet.new.rest) c.in-Some.packet c.loop-packet.invariant c.in-Some.ensures.some (λ later. past_on c.in-Some.packet later (sym c.closes.ensures ∙ c.if-closes.false))

pub returns : goal.returns
returns c = λ list h.
    same_none time_past (rest_of c.args.later) (rest_of c.loop-packet.rest) (rest_of c.next_packet.new.rest) (number_of c.loop-packet.rest) (number_of c.next_packet.new.rest) c.loop-packet.invariant c.in_default.ensures.none list h
