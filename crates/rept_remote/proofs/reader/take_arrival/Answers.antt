use Rattle.rept_remote.proofs.Taking.{arrival_comes, arrival_halts}
use Rattle.rept_remote.proofs.reader.take_arrival.Goals as goal

pub returns-in-Ok-take_packet : goal.returns-in-Ok-take_packet
returns-in-Ok-take_packet g c = let call = c.in-Ok-eq36.ensures in
    arrival_comes _ _ _ _ _ _ call.0 call.1 c.in-Ok-eq36.field-0 c.in-Ok-eq36.field-0-test call.3 c.take_packet.new.carried.items c.in-Ok-take_packet.arrival c.in-Ok-take_packet.ensures

pub returns-in-Err-take_packet : goal.returns-in-Err-take_packet
returns-in-Err-take_packet g c = let call = c.in-Ok-eq36.ensures in
    rw c.ending_of.ensures (arrival_halts _ _ _ _ _ _ call.0 call.1 c.in-Ok-eq36.field-0 c.in-Ok-eq36.field-0-test call.3 c.take_packet.new.carried.items c.in-Err-take_packet.why c.in-Err-take_packet.ensures)
