use Rattle.std.proofs.Common.{◌∙◌, sym, ap, List}
use Rattle.rept_trace.specs.declared.packet.Packet.{Packet}
use Rattle.rept_trace.specs.Packets.{rest_of, number_of}
use Rattle.rept_path.proofs.Packeting.{none_left}
use Rattle.rept_streams.specs.Slices.Stretches.{same_stretch}
use Rattle.rept_streams.proofs.SlicesLemmas.Going.{ends_there}
use Rattle.rept_streams.proofs.threads.stretch.next_of_stretch.Goals as goal

pub returns-in-None-clause-none : goal.returns-in-None-clause-none
returns-in-None-clause-none c = λ more h.
    let a = rw c.in-None.is at c.next_packet.ensures.none in
    ap (λ (xs : List Packet). same_stretch c.args.waits xs) (none_left (number_of c.args.rest.now) (number_of c.next_packet.new.rest) (rest_of c.args.rest.now) (rest_of c.next_packet.new.rest) more h a)

pub returns-then-begins-clause-none : goal.returns-then-begins-clause-none
returns-then-begins-clause-none c = λ more h.
    let a = rw c.in-Some.is at c.next_packet.ensures.some in
    ends_there (number_of c.args.rest.now) (number_of c.next_packet.new.rest) (rest_of c.args.rest.now) (rest_of c.next_packet.new.rest) c.args.waits c.in-Some.packet more h a (sym c.begins.ensures ∙ c.if-begins.true)
