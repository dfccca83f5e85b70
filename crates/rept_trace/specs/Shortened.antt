-- What an encoder may leave out (Efficient Trace for RISC-V 2.0, on packets: bytes at a payload's
-- end whose bits all equal the bit before them needn't be sent).
use Rattle.std.specs.Prelude.{◌≡◌, ℕ, ◌-◌, ◌*◌, ◌<◌, List, ◌++◌, length, All, if◌then◌else◌}
use Rattle.rept_word.specs.Bits.{bit_of}

-- the byte that is made of copies of the payload's last bit
abbrev pub filler : List ℕ → ℕ
filler payload = if bit_of payload (8 * length payload - 1) then 255 else 0

-- The payload `short` is `full` without some bytes at its end, whose bits all equal the last one
-- that is left.
pub record IsShortened (short full : List ℕ) : Type 0 where
  pub some : 0 < length short
  pub left_out : List ℕ
  pub whole : full ≡ short ++ left_out
  pub copies : All (λ byte. byte ≡ filler short) left_out
