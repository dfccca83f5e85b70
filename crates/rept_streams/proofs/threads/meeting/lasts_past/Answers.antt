use Rattle.std.proofs.Common.{sym, ◌∙◌, true}
use Rattle.rept_trace.specs.Packets.{rest_of, number_of}
use Rattle.rept_streams.proofs.SlicesLemmas.Lasting.{lasts, lasts_here, lasts_past_it, lasts_after}
use Rattle.rept_streams.proofs.SlicesLemmas.Scanning.{same_first, same_on, same_found, same_none}
use Rattle.rept_streams.proofs.threads.meeting.lasts_past.Goals as goal

pub loop-packet-init : goal.loop-packet-init
loop-packet-init c = same_first (lasts c.args.time) (rest_of c.args.later) c.requires.0 c.requires.1

pub returns-then-closes : goal.returns-then-closes
returns-then-closes c = λ t h.
    same_found (lasts c.args.time) (rest_of c.args.later) (rest_of c.loop-packet.rest) (rest_of c.next_packet.new.rest) (number_of c.loop-packet.rest) (number_of c.next_packet.new.rest) c.in-Some.packet c.starts_past.result c.loop-packet.invariant c.in-Some.ensures.some (λ later. lasts_here c.args.time c.in-Some.packet later c.starts_past.result (sym c.closes.ensures ∙ c.if-closes.true) (sym c.starts_past.ensures)) t.later h

pub returns-then-is_past : goal.returns-then-is_past
returns-then-is_past c = λ t h.
    same_found (lasts c.args.time) (rest_of c.args.later) (rest_of c.loop-packet.rest) (rest_of c.next_packet.new.rest) (number_of c.loop-packet.rest) (number_of c.next_packet.new.rest) c.in-Some.packet true c.loop-packet.invariant c.in-Some.ensures.some (λ later. lasts_past_it c.args.time c.in-Some.packet later (sym c.closes.ensures ∙ c.if-closes.false) (sym c.is_past.ensures ∙ c.if-is_past.true)) t.later h

pub loop-packet-preserved : goal.loop-packet-preserved
loop-packet-preserved c =
    same_on (lasts c.args.time) (rest_of c.args.later) (rest_of c.loop-packet.rest) (rest_of c.next_packet.new.rest) (number_of c.loop-packet.rest) (number_of c.next_packet.new.rest) c.in-Some.packet c.loop-packet.invariant c.in-Some.ensures.some (λ later. lasts_after c.args.time c.in-Some.packet later (sym c.closes.ensures ∙ c.if-closes.false) (sym c.is_past.ensures ∙ c.if-is_past.false))

pub returns : goal.returns
returns c = λ t h.
    same_none (lasts c.args.time) (rest_of c.args.later) (rest_of c.loop-packet.rest) (rest_of c.next_packet.new.rest) (number_of c.loop-packet.rest) (number_of c.next_packet.new.rest) c.loop-packet.invariant c.in_default.ensures.none t.later h
