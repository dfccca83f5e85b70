use Rattle.std.proofs.Common.{sym, ◌∙◌, Some}
use Rattle.rept_trace.specs.Packets.{rest_of, number_of}
use Rattle.rept_streams.specs.Slices.Parts.{first_time}
use Rattle.rept_streams.proofs.SlicesLemmas.Scanning.{same_first, same_on, same_found, same_none, time_on, time_here}
use Rattle.rept_streams.proofs.slices.scan.first_time.Goals as goal

pub loop-packet-init : goal.loop-packet-init
loop-packet-init c = same_first first_time (rest_of c.args.packets) c.requires.0 c.requires.1

pub next_packet-requires : goal.next_packet-requires
next_packet-requires c = (c.loop-packet.invariant.more, c.loop-packet.invariant.hold)

pub returns-in-Some-time_of : goal.returns-in-Some-time_of
returns-in-Some-time_of c = λ list h.
    same_found first_time (rest_of c.args.packets) (rest_of c.loop-packet.rest) (rest_of c.next_packet.new.rest) (number_of c.loop-packet.rest) (number_of c.next_packet.new.rest) c.in-Some.packet (Some c.in-Some-time_of.time) c.loop-packet.invariant c.in-Some.ensures.some (λ later. time_here c.in-Some.packet later c.in-Some-time_of.time (sym c.time_of.ensures ∙ c.in-Some-time_of.is)) list h

pub loop-packet-preserved : goal.loop-packet-preserved
loop-packet-preserved c =
    same_on first_time (rest_of c.args.packets) (rest_of c.loop-packet.rest) (rest_of c.next_packet.new.rest) (number_of c.loop-packet.rest) (number_of c.next_packet.new.rest) c.in-Some.packet c.loop-packet.invariant c.in-Some.ensures.some (λ later. time_on c.in-Some.packet later (sym c.time_of.ensures ∙ c.in_default-time_of.is))

pub returns : goal.returns
returns c = λ list h.
    same_none first_time (rest_of c.args.packets) (rest_of c.loop-packet.rest) (rest_of c.next_packet.new.rest) (number_of c.loop-packet.rest) (number_of c.next_packet.new.rest) c.loop-packet.invariant c.in_default.ensures.none list h
