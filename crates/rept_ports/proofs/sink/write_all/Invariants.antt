use Rattle.std.proofs.Common.{◌≡◌, ◌≤◌, ◌-◌, length, take}
use Rattle.std.specs.Io.KnownBytes.{Appends}
use Rattle.rept_ports.proofs.sink.write_all.Given as goal

-- the bytes so far were written
abbrev pub invariant-loop-done : goal.invariant-loop-done
invariant-loop-done g l =
    let port = g.K.Sink.port in
    record {
      within : l.done ≤ length l.text;
      bytes : Appends (port l.fn.sink).bytes (port l.sink).bytes (take l.done l.text);
      calm : (port l.sink).faults ≡ (port l.fn.sink).faults;
    }

abbrev pub decreases-loop-done : goal.decreases-loop-done
decreases-loop-done g l = length l.text - l.done
