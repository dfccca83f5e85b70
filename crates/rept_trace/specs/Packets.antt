-- What is left of a trace.
use Rattle.std.specs.Prelude.{ℕ}
use Rattle.rept_trace.specs.declared.packets.Packets.{Packets}
use Rattle.rept_trace.specs.Stream.{Stream}

-- what is left to read
abbrev pub rest_of : Packets → Stream
rest_of packets = record { widths = packets.widths; bytes = packets.rest.now }

-- the number of the next packet
abbrev pub number_of : Packets → ℕ
number_of packets = packets.number
