-- What is answered to a request (GDB manual, appendix Remote Serial Protocol, sections Packets,
-- StopReason Reply Packets and General Query Packets).
use Rattle.std.specs.Prelude.{ℕ, ◌+◌, ◌/◌, ◌%◌, ◌^◌, min, List, [], ◌∷◌, ◌++◌, map, length, drop, take, ◌==◌, nat_lt, nat_le, Option, None, Some, codes, if◌then◌else◌}
use Rattle.std.specs.List.{flat_map, range_with_len}
use Rattle.rept_word.specs.Hex.{hex_byte}
use Rattle.rept_remote.specs.Escapes.{digits_value}
use Rattle.rept_findings.specs.Shown.{Shown, number}
use Rattle.rept_findings.specs.declared.place.ThreadPoint.{ThreadPoint}
use Rattle.rept_findings.specs.Texts.{pc_at}
use Rattle.rept_remote.specs.declared.moves.halt.StopReason.{StopReason}
use Rattle.rept_stub.specs.Signals.{debugger_signal}
use Rattle.rept_remote.specs.declared.moves.halt.StopReason.TheVariants as stop

-- bytes as pairs of digits
abbrev pub digits_of : List ℕ → List ℕ
digits_of bytes = flat_map hex_byte bytes

-- the four bytes of a word, from the lowest byte on and from the highest
abbrev pub little_word : ℕ → List ℕ
little_word value = hex_byte (value % 2 ^ 8) ++ hex_byte (value / 2 ^ 8 % 2 ^ 8) ++ hex_byte (value / 2 ^ 16 % 2 ^ 8) ++ hex_byte (value / 2 ^ 24 % 2 ^ 8)

abbrev pub big_word : ℕ → List ℕ
big_word value = hex_byte (value / 2 ^ 24 % 2 ^ 8) ++ hex_byte (value / 2 ^ 16 % 2 ^ 8) ++ hex_byte (value / 2 ^ 8 % 2 ^ 8) ++ hex_byte (value % 2 ^ 8)

-- the value of a register; one that isn't known is `xxxxxxxx`
abbrev pub value_digits : Option ℕ → List ℕ
value_digits None = codes "xxxxxxxx"
value_digits (Some value) = little_word value

-- x0 to x31 and the address at a point of a thread
abbrev pub registers_reply : Shown → ThreadPoint → List ℕ
registers_reply s c = flat_map (λ r. value_digits (s.register (number s c) r)) (range_with_len 0 32) ++ little_word (pc_at s c)

abbrev pub error : List ℕ
error = codes "E01"

-- one of them by its number
abbrev pub register_reply : Shown → ThreadPoint → ℕ → List ℕ
register_reply s c register =
    if nat_lt register 32 then value_digits (s.register (number s c) register) else if register == 32 then little_word (pc_at s c) else error

-- what stands before the first gap
abbrev pub known_run : List (Option ℕ) → List ℕ
known_run [] = []
known_run (None ∷ more) = []
known_run (Some byte ∷ more) = byte ∷ known_run more

abbrev pub memory_digits : List ℕ → List ℕ
memory_digits [] = error
memory_digits bytes = digits_of bytes

abbrev pub memory_bytes : List ℕ → List ℕ
memory_bytes [] = error
memory_bytes bytes = codes "b" ++ bytes

-- why a thread stopped
abbrev pub stop_part : StopReason → List ℕ
stop_part stop.Step = []
stop_part (stop.Unseen address) = []
stop_part (stop.Write address) = codes "watch:" ++ big_word address ++ codes ";"
stop_part (stop.Access address) = codes "awatch:" ++ big_word address ++ codes ";"
stop_part stop.Begin = codes "replaylog:begin;"
stop_part stop.End = codes "replaylog:end;"

-- at its last point stands the signal that ended the process, by the debugger's number
abbrev pub signal_reply : Shown → ℕ → ThreadPoint → List ℕ
signal_reply s signal c = if c.point == length (s.rows c.thread) then codes "T" ++ hex_byte (debugger_signal signal) else codes "T05"

-- a part of a text, and whether it is the last one; at most 2000 bytes, each of which may be sent as
-- two
abbrev pub part_reply : List ℕ → ℕ → ℕ → List ℕ
part_reply text offset count =
    if nat_le (length (drop offset text)) (min count 2000) then codes "l" ++ drop offset text else codes "m" ++ take (min count 2000) (drop offset text)

-- the bytes that pairs of digits are
abbrev pub with_first : Option ℕ → Option (List ℕ) → Option (List ℕ)
with_first (Some byte) (Some bytes) = Some (byte ∷ bytes)
with_first _ _ = None

abbrev pub decoded : List ℕ → Option (List ℕ)
decoded [] = Some []
decoded (digit ∷ []) = None
decoded (high ∷ low ∷ digits) = with_first (digits_value high low) (decoded digits)

-- a text of a session, as pairs of digits; `OK` where there is none
abbrev pub text_reply : List ℕ → List ℕ
text_reply [] = codes "OK"
text_reply text = digits_of text
