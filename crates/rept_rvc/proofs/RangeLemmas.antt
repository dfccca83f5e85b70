-- The expansion of a half is in range.
use Rattle.std.specs.Prelude.{◌≡◌, ℕ, suc, ◌+◌, ◌-◌, ◌*◌, ◌%◌, ◌^◌, ◌<◌, Bool, true, false, nat_lt, if◌then◌else◌, pos, negsuc, Option, Some, None, IfSome}
use Rattle.std.proofs.Common.{arith, refl}
use Rattle.std.proofs.lemmas.Bool.Decides.{nat_tests}
use Rattle.rept_isa.specs.declared.instr.Instr.{Instr}
use Rattle.rept_isa.specs.Numbers.{word}
use Rattle.rept_isa.specs.Words.{field}
use Rattle.rept_isa.specs.Range.{InRange, InBits, IsEven, IsAmount, IsUpperPart}
use Rattle.rept_rvc.specs.Halves.{addi4spn_immediate, word_offset, lwsp_offset, swsp_offset, six_bit_immediate, addi16sp_immediate, lui_immediate, jump_offset, branch_offset, IsHalf}
use Rattle.rept_rvc.specs.Halves.IsHalf.{c_addi4spn, c_lw, c_sw, c_addi, c_jal, c_li, c_addi16sp, c_lui, c_srli, c_srai, c_andi, c_sub, c_xor, c_or, c_and, c_j, c_beqz, c_bnez, c_slli, c_lwsp, c_jr, c_mv, c_ebreak, c_jalr, c_add, c_swsp}

-- a signed number of few bits is one of more
in_bits : (bound n width : ℕ) (b : Bool) → nat_lt n bound ≡ b → n < 2 * bound → bound < 2 ^ (width - 1) → InBits width (if b then pos n else negsuc (2 * bound - suc n))
in_bits bound n width true e fits small = grind (arith, nat_tests)
in_bits bound n width false e fits small = grind (arith, nat_tests)

even_when : (bound n : ℕ) (b : Bool) → nat_lt n bound ≡ b → n < 2 * bound → n % 2 ≡ 0 → IsEven (if b then pos n else negsuc (2 * bound - suc n))
even_when bound n true e fits even = even
even_when bound n false e fits even = omega arith

six : (half : ℕ) → InBits 12 (six_bit_immediate half)
six half = let n : ℕ = field half 2 5 + 2 ^ 5 * field half 12 1 in in_bits (2 ^ 5) n 12 (nat_lt n (2 ^ 5)) refl (omega arith) (omega arith)

sixteen : (half : ℕ) → InBits 12 (addi16sp_immediate half)
sixteen half =
    let n : ℕ = 2 ^ 4 * field half 6 1 + 2 ^ 5 * field half 2 1 + 2 ^ 6 * field half 5 1 + 2 ^ 7 * field half 3 2 + 2 ^ 9 * field half 12 1 in
    in_bits (2 ^ 9) n 12 (nat_lt n (2 ^ 9)) refl (omega arith) (omega arith)

jump : (half : ℕ) → InBits 21 (jump_offset half) × IsEven (jump_offset half)
jump half =
    let n : ℕ = 2 ^ 1 * field half 3 3 + 2 ^ 4 * field half 11 1 + 2 ^ 5 * field half 2 1 + 2 ^ 6 * field half 7 1 + 2 ^ 7 * field half 6 1 + 2 ^ 8 * field half 9 2 + 2 ^ 10 * field half 8 1 + 2 ^ 11 * field half 12 1 in
    (in_bits (2 ^ 11) n 21 (nat_lt n (2 ^ 11)) refl (omega arith) (omega arith), even_when (2 ^ 11) n (nat_lt n (2 ^ 11)) refl (omega arith) (omega arith))

branch : (half : ℕ) → InBits 13 (branch_offset half) × IsEven (branch_offset half)
branch half =
    let n : ℕ = 2 ^ 1 * field half 3 2 + 2 ^ 3 * field half 10 2 + 2 ^ 5 * field half 2 1 + 2 ^ 6 * field half 5 2 + 2 ^ 8 * field half 12 1 in
    (in_bits (2 ^ 8) n 13 (nat_lt n (2 ^ 8)) refl (omega arith) (omega arith), even_when (2 ^ 8) n (nat_lt n (2 ^ 8)) refl (omega arith) (omega arith))

upper_part : (bound n : ℕ) (b : Bool) → nat_lt n bound ≡ b → n < 2 * bound → bound < 2 ^ 20 → bound % 2 ^ 12 ≡ 0 → n % 2 ^ 12 ≡ 0 → IsUpperPart (word (if b then pos n else negsuc (2 * bound - suc n)))
unfolding word
upper_part bound n true e fits small whole low = (omega arith, omega arith)
upper_part bound n false e fits small whole low = (omega arith, omega arith)

upper : (half : ℕ) → IsUpperPart (lui_immediate half)
upper half =
    let n : ℕ = 2 ^ 12 * field half 2 5 + 2 ^ 17 * field half 12 1 in
    upper_part (2 ^ 17) n (nat_lt n (2 ^ 17)) refl (omega arith) (omega arith) refl (omega arith)

amount : (half : ℕ) → IsAmount (pos (field half 2 5))
amount half = omega arith

fits : (half n : ℕ) → n < 2 ^ 11 → InBits 12 (pos n)
fits half n small = small

pub in_range : (half : ℕ) (i : Instr) → IsHalf half i → InRange i
in_range half i (c_addi4spn at some is) = rw is (fits half (addi4spn_immediate half) (omega arith))
in_range half i (c_lw at is) = rw is (fits half (word_offset half) (omega arith))
in_range half i (c_sw at is) = rw is (fits half (word_offset half) (omega arith))
in_range half i (c_addi at is) = rw is (six half)
in_range half i (c_jal at is) = rw is (jump half)
in_range half i (c_li at is) = rw is (six half)
in_range half i (c_addi16sp at two some is) = rw is (sixteen half)
in_range half i (c_lui at other some is) = rw is (upper half)
in_range half i (c_srli at low is) = rw is (amount half)
in_range half i (c_srai at low is) = rw is (amount half)
in_range half i (c_andi at is) = rw is (six half)
in_range half i (c_sub at is) = rw is tt
in_range half i (c_xor at is) = rw is tt
in_range half i (c_or at is) = rw is tt
in_range half i (c_and at is) = rw is tt
in_range half i (c_j at is) = rw is (jump half)
in_range half i (c_beqz at is) = rw is (branch half)
in_range half i (c_bnez at is) = rw is (branch half)
in_range half i (c_slli at low is) = rw is (amount half)
in_range half i (c_lwsp at some is) = rw is (fits half (lwsp_offset half) (omega arith))
in_range half i (c_jr at some none is) = rw is (fits half 0 (omega arith))
in_range half i (c_mv at some is) = rw is tt
in_range half i (c_ebreak at none_ none is) = rw is tt
in_range half i (c_jalr at some none is) = rw is (fits half 0 (omega arith))
in_range half i (c_add at some is) = rw is tt
in_range half i (c_swsp at is) = rw is (fits half (swsp_offset half) (omega arith))

pub in_range_some : (half : ℕ) (r : Option Instr) → IfSome r (IsHalf half) → IfSome r (λ i. InRange i)
in_range_some half None h = h
in_range_some half (Some i) h = in_range half i h
