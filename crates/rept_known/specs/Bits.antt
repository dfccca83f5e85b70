-- Words of which some bits are known, as sets of values: the known bits of compilers (LLVM's
-- KnownBits), the tristate numbers of the Linux kernel (tnum).
use Rattle.std.proofs.Common.{arith}
use Rattle.std.specs.Prelude.{◌≡◌, ℕ, ◌+◌, ◌<◌, ◌^◌, Bool, ◌&&◌, nat_lt, ◌==◌, if◌then◌else◌, Option, Some, None, bit_and, bit_or, bit_xor}
use Rattle.rept_known.specs.declared.bits.Bits.{Bits}
use Rattle.rept_known.specs.Masks.{but, but_apart, but_le, apart_small}
use Rattle.rept_partial.specs.Sets.{Sets}
use Rattle.rept_partial.specs.Ranges.{word}

-- the words that agree with a word outside some bits, in which it has none
abbrev pub agreeing : (value loose : ℕ) → bit_and value loose ≡ 0 → value + loose < 2 ^ 32 → Bits
agreeing value loose apart small = record { value = value; loose = loose; apart = apart; small = small }

pub none_open : (v loose : ℕ) → bit_and (but (word v) (word loose)) (word loose) ≡ 0
none_open v loose = but_apart (word v) (word loose) (omega arith)

pub in_word : (v loose : ℕ) → but (word v) (word loose) + word loose < 2 ^ 32
in_word v loose = let l = but_le (word v) (word loose) in apart_small (but (word v) (word loose)) (word loose) (none_open v loose) (omega (arith, l)) (omega arith)

-- the words that agree with a number outside some bits; both are read as words
abbrev pub outside : ℕ → ℕ → Bits
outside v loose = agreeing (but (word v) (word loose)) (word loose) (none_open v loose) (in_word v loose)

-- a word agrees with the value outside the open bits
abbrev pub bits_has : Bits → ℕ → Bool
bits_has a v = nat_lt v (2 ^ 32) && (but v a.loose == a.value)

-- the words that agree with both; there are some where no bit that both know differs
abbrev pub bits_meet : Bits → Bits → Option Bits
bits_meet a b = if but (bit_xor a.value b.value) (bit_or a.loose b.loose) == 0 then Some (outside (bit_or a.value b.value) (bit_and a.loose b.loose)) else None

-- no bit is open
abbrev pub bits_exact : Bits → Option ℕ
bits_exact a = if a.loose == 0 then Some a.value else None

abbrev pub bits_sets : Sets Bits
bits_sets = record { has = bits_has; unknown = outside 0 4294967295; exact = λ v. outside v 0; meet = bits_meet; as_exact = bits_exact; lo = λ a. a.value; hi = λ a. a.value + a.loose }
