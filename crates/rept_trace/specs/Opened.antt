-- The streams of the bytes of a trace file after its header, by their lengths alone. This project's
-- own.
use Rattle.std.specs.Prelude.{ℕ, zero, suc, List, [], ◌∷◌, take, drop}
use Rattle.byteorder.specs.Endian.{little_number}

-- so many streams, one after the other
abbrev pub streams_in : ℕ → List ℕ → List (List ℕ)
streams_in zero bytes = []
streams_in (suc count) bytes = take (little_number 4 bytes) (drop 4 bytes) ∷ streams_in count (drop (little_number 4 bytes) (drop 4 bytes))
