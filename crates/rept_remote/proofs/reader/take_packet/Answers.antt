use Rattle.rept_remote.proofs.Taking.{packet_halts, packet_comes}
use Rattle.rept_remote.proofs.reader.take_packet.Goals as goal

pub returns-in-Ok : goal.returns-in-Ok
returns-in-Ok g c = let told = c.in_ok-told.ensures in
    packet_comes _ _ _ _ _ _ told.0 told.1.plain told.2 c.bring.new.carried.items c.bring.result c.in-Ok.digits c.in-Ok.ensures (c.bring.ensures told.0 told.1)

pub returns-in-Err : goal.returns-in-Err
returns-in-Err g c = let told = c.in_ok-told.ensures in
    packet_halts _ _ _ _ _ _ told.0 told.1.plain told.2 c.args.carried.now.items c.in-Err.why c.in-Err.ensures
