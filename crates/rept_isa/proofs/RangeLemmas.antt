-- What a word spells is in range.
use Rattle.std.specs.Prelude.{◌≡◌, ℕ, suc, ◌+◌, ◌-◌, ◌*◌, ◌%◌, ◌^◌, ◌<◌, Bool, true, false, nat_lt, if◌then◌else◌, ℤ, pos, negsuc, Option, Some, None, IfSome, IfNone}
use Rattle.std.proofs.Common.{arith, refl, sym, subst}
use Rattle.std.proofs.lemmas.Bool.Decides.{nat_tests}
use Rattle.rept_isa.specs.declared.instr.Instr.{Instr}
use Rattle.rept_isa.specs.declared.instr.Instr.TheVariants.{Lui, Auipc, Jal, Jalr, Branch, Load, Store, Imm, Op, Amo, Fence, Ecall, Ebreak, Counter}
use Rattle.rept_isa.specs.declared.instr.ImmOp.TheVariants.{Addi, Slti, Sltiu, Xori, Ori, Andi, Slli, Srli, Srai}
use Rattle.rept_isa.specs.Words.{IsWord, field, signed, i_immediate, s_immediate, b_immediate, u_immediate, j_immediate, rs2_field}
use Rattle.rept_isa.specs.Range.{InRange, InBits, IsEven, IsAmount, IsUpperPart}

in_bits_when : (half n : ℕ) (b : Bool) → nat_lt n half ≡ b → 0 < half → n < 2 * half → (width : ℕ) → 2 ^ (width - 1) ≡ half → InBits width (if b then pos n else negsuc (2 * half - suc n))
in_bits_when half n true e some fits width w = rw w (grind (arith, nat_tests))
in_bits_when half n false e some fits width w = rw w (grind (arith, nat_tests))

signed_12 : (n : ℕ) → n < 2 ^ 12 → InBits 12 (signed 12 n)
signed_12 n fits = in_bits_when (2 ^ 11) n (nat_lt n (2 ^ 11)) refl (omega arith) fits 12 refl

signed_13 : (n : ℕ) → n < 2 ^ 13 → InBits 13 (signed 13 n)
signed_13 n fits = in_bits_when (2 ^ 12) n (nat_lt n (2 ^ 12)) refl (omega arith) fits 13 refl

signed_21 : (n : ℕ) → n < 2 ^ 21 → InBits 21 (signed 21 n)
signed_21 n fits = in_bits_when (2 ^ 20) n (nat_lt n (2 ^ 20)) refl (omega arith) fits 21 refl

even_when : (half n : ℕ) (b : Bool) → half % 2 ≡ 0 → nat_lt n half ≡ b → n < 2 * half → n % 2 ≡ 0 → IsEven (if b then pos n else negsuc (2 * half - suc n))
even_when half n true w e fits even = even
even_when half n false w e fits even = omega arith

even_13 : (n : ℕ) → n < 2 ^ 13 → n % 2 ≡ 0 → IsEven (signed 13 n)
even_13 n fits even = even_when (2 ^ 12) n (nat_lt n (2 ^ 12)) refl refl fits even

even_21 : (n : ℕ) → n < 2 ^ 21 → n % 2 ≡ 0 → IsEven (signed 21 n)
even_21 n fits even = even_when (2 ^ 20) n (nat_lt n (2 ^ 20)) refl refl fits even

i_fits : (word : ℕ) (imm : ℤ) → imm ≡ i_immediate word → InBits 12 imm
i_fits word imm e = subst (InBits 12) (sym e) (signed_12 (field word 20 12) (omega arith))

s_fits : (word : ℕ) (imm : ℤ) → imm ≡ s_immediate word → InBits 12 imm
s_fits word imm e = subst (InBits 12) (sym e) (signed_12 (field word 7 5 + 2 ^ 5 * field word 25 7) (omega arith))

b_fits : (word : ℕ) (imm : ℤ) → imm ≡ b_immediate word → InBits 13 imm × IsEven imm
b_fits word imm e =
    let n : ℕ = 2 ^ 1 * field word 8 4 + 2 ^ 5 * field word 25 6 + 2 ^ 11 * field word 7 1 + 2 ^ 12 * field word 31 1 in
    let P : ℤ → Type 0 = λ z. InBits 13 z × IsEven z in
    subst P (sym e) (signed_13 n (omega arith), even_13 n (omega arith) (omega arith))

j_fits : (word : ℕ) (imm : ℤ) → imm ≡ j_immediate word → InBits 21 imm × IsEven imm
j_fits word imm e =
    let n : ℕ = 2 ^ 1 * field word 21 10 + 2 ^ 11 * field word 20 1 + 2 ^ 12 * field word 12 8 + 2 ^ 20 * field word 31 1 in
    let P : ℤ → Type 0 = λ z. InBits 21 z × IsEven z in
    subst P (sym e) (signed_21 n (omega arith), even_21 n (omega arith) (omega arith))

u_fits : (word imm : ℕ) → imm ≡ u_immediate word → IsUpperPart imm
u_fits word imm e = (omega arith, omega arith)

amount_fits : (word : ℕ) (imm : ℤ) → imm ≡ pos (rs2_field word) → IsAmount imm
amount_fits word imm e = let lt : rs2_field word < 32 = omega arith in subst IsAmount (sym e) lt

pub in_range : (word : ℕ) (i : Instr) → IsWord word i → InRange i
in_range word (Lui rd imm) h = u_fits word imm h.number
in_range word (Auipc rd imm) h = u_fits word imm h.number
in_range word (Jal rd imm) h = j_fits word imm h.number
in_range word (Jalr rd rs1 imm) h = i_fits word imm h.number
in_range word (Branch op rs1 rs2 imm) h = b_fits word imm h.number
in_range word (Load op rd rs1 imm) h = i_fits word imm h.number
in_range word (Store op rs1 rs2 imm) h = s_fits word imm h.number
in_range word (Imm Addi rd rs1 imm) h = i_fits word imm h.number
in_range word (Imm Slti rd rs1 imm) h = i_fits word imm h.number
in_range word (Imm Sltiu rd rs1 imm) h = i_fits word imm h.number
in_range word (Imm Xori rd rs1 imm) h = i_fits word imm h.number
in_range word (Imm Ori rd rs1 imm) h = i_fits word imm h.number
in_range word (Imm Andi rd rs1 imm) h = i_fits word imm h.number
in_range word (Imm Slli rd rs1 imm) h = amount_fits word imm h.amount
in_range word (Imm Srli rd rs1 imm) h = amount_fits word imm h.amount
in_range word (Imm Srai rd rs1 imm) h = amount_fits word imm h.amount
in_range word (Op op rd rs1 rs2) h = tt
in_range word (Amo op rd rs1 rs2) h = h.source
in_range word Fence h = tt
in_range word Ecall h = tt
in_range word Ebreak h = tt
in_range word (Counter rd csr) h = h.counter

pub in_range_some : (word : ℕ) (r : Option Instr) → IfSome r (λ i. IsWord word i) → IfSome r (λ i. InRange i)
in_range_some word None h = h
in_range_some word (Some i) h = in_range word i h

-- where nothing is read the word spells nothing
pub spells_none : (word : ℕ) (r : Option Instr) → ((i : Instr) → IsWord word i → r ≡ Some i) → IfNone r ((i : Instr) → IsWord word i → ⊥)
spells_none word None h = λ i w. (let e = h i w in absurd (cc))
spells_none word (Some i) h = tt
