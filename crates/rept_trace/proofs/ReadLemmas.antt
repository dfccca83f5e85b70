-- The flags of a report.
use Rattle.std.proofs.Common.{◌≡◌, ℕ, ◌+◌, ◌-◌, ◌*◌, ◌/◌, ◌^◌, ◌≤◌, List, Bool, true, false, not, cond, nat_eq, refl, ◌∙◌, ap, arith}
use Rattle.rept_word.specs.Bits.{bit_of, field}
use Rattle.rept_word.proofs.BitLemmas.{field_one, last_bit}
use Rattle.rept_trace.specs.declared.parameters.Parameters.{Parameters}
use Rattle.rept_trace.specs.Grammar.{changes, address_width, sent_address}

unequal : (a b : Bool) (v w : ℕ) → v ≡ cond a 1 0 → w ≡ cond b 1 0 → not (nat_eq v w) ≡ cond a (not b) b
unequal true true v w e f = rw (e, f) refl
unequal true false v w e f = rw (e, f) refl
unequal false true v w e f = rw (e, f) refl
unequal false false v w e f = rw (e, f) refl

-- two bits one after the other
pub flag_is : (p : List ℕ) (i j v w : ℕ) → j ≡ i + 1 → v ≡ field p j 1 → w ≡ field p i 1 → not (nat_eq v w) ≡ changes p j
flag_is p i j v w next e f =
    let back : j - 1 ≡ i = omega arith in
    rw back (unequal (bit_of p j) (bit_of p i) v w (e ∙ field_one p j) (f ∙ field_one p i))

-- the highest bit of a difference
highest_by : (halves : Bool) (p : List ℕ) (i : ℕ) → 2 ^ cond halves 1 2 * field p i (32 - cond halves 1 2) / 2147483648 ≡ field p (i + (32 - cond halves 1 2 - 1)) 1
highest_by true p i = let e : 2 * field p i 31 / 2147483648 ≡ field p i 31 / 1073741824 = omega arith in e ∙ last_bit p i 30
highest_by false p i = let e : 4 * field p i 30 / 2147483648 ≡ field p i 30 / 536870912 = omega arith in e ∙ last_bit p i 29

pub highest : (widths : Parameters) (p : List ℕ) (i v : ℕ) → v ≡ sent_address widths p i → v / 2147483648 ≡ field p (i + (address_width widths - 1)) 1
highest widths p i v e = ap (λ n. n / 2147483648) e ∙ highest_by widths.halves p i

-- a sent address has bits
wide_by : (halves : Bool) → 30 ≤ 32 - cond halves 1 2
wide_by true = omega arith
wide_by false = omega arith

pub wide : (widths : Parameters) → 30 ≤ address_width widths
wide widths = wide_by widths.halves
