-- What the operations compute (RISC-V unprivileged manual 20191213, chapters 2.4 to 2.6 for RV32I,
-- 7 for M, 8 for A). Operands and results are 32-bit words. `cast_signed w32 a` is a word's signed
-- number in two's complement, `word z` the word of a number.
use Rattle.std.specs.Prelude.{ℕ, ◌+◌, ◌-◌, ◌*◌, ◌/◌, ◌%◌, ◌^◌, nat_lt, ◌==◌, Bool, not, if◌then◌else◌, ℤ, pos, ◌*ℤ◌, bit_and, bit_or, bit_xor, int_div, int_rem, int_lt}
use Rattle.std.specs.Int.{cast_signed, cast_unsigned, int_shr}
use mir.Syntax.{w32, w64}
use Rattle.rept_isa.specs.declared.instr.AmoOp.{AmoOp}
use Rattle.rept_isa.specs.declared.instr.AmoOp.TheVariants as atomic
use Rattle.rept_isa.specs.declared.instr.BranchOp.{BranchOp}
use Rattle.rept_isa.specs.declared.instr.BranchOp.TheVariants.{Beq, Bne, Blt, Bge, Bltu, Bgeu}
use Rattle.rept_isa.specs.declared.instr.LoadOp.{LoadOp}
use Rattle.rept_isa.specs.declared.instr.LoadOp.TheVariants.{Lb, Lh, Lw, Lbu, Lhu}
use Rattle.rept_isa.specs.declared.instr.StoreOp.{StoreOp}
use Rattle.rept_isa.specs.declared.instr.StoreOp.TheVariants.{Sb, Sh, Sw}
use Rattle.rept_isa.specs.declared.instr.ImmOp.{ImmOp}
use Rattle.rept_isa.specs.declared.instr.ImmOp.TheVariants.{Addi, Slti, Sltiu, Xori, Ori, Andi, Slli, Srli, Srai}
use Rattle.rept_isa.specs.declared.instr.RegOp.{RegOp}
use Rattle.rept_isa.specs.declared.instr.RegOp.TheVariants.{Add, Sub, Sll, Slt, Sltu, Xor, Srl, Sra, Or, And, Mul, Mulh, Mulhsu, Mulhu, Div, Divu, Rem, Remu}
use Rattle.rept_isa.specs.Numbers.{word, beside}

abbrev pub signed_word : ℕ → ℤ
signed_word a = cast_signed w32 a

abbrev pub below_signed : ℕ → ℕ → Bool
below_signed a b = int_lt (signed_word a) (signed_word b)

-- the upper word of a number's 64 bits in two's complement
abbrev pub high_word : ℤ → ℕ
high_word z = cast_unsigned w64 z / 2 ^ 32

-- The result of an operation on two registers. Shifts use the low five bits of the second operand.
-- Division rounds towards zero; by zero it has all ones as its quotient and the dividend as its
-- remainder. The one signed quotient that is too large, -2 ^ 31 by -1, wraps to -2 ^ 31, with
-- remainder 0.
abbrev pub computed : RegOp → ℕ → ℕ → ℕ
computed Add a b = (a + b) % 2 ^ 32
computed Sub a b = (a + (2 ^ 32 - b)) % 2 ^ 32
computed Sll a b = a * 2 ^ (b % 32) % 2 ^ 32
computed Slt a b = if below_signed a b then 1 else 0
computed Sltu a b = if nat_lt a b then 1 else 0
computed Xor a b = bit_xor a b
computed Srl a b = a / 2 ^ (b % 32)
computed Sra a b = word (int_shr (signed_word a) (b % 32))
computed Or a b = bit_or a b
computed And a b = bit_and a b
computed Mul a b = a * b % 2 ^ 32
computed Mulh a b = high_word (signed_word a *ℤ signed_word b)
computed Mulhsu a b = high_word (signed_word a *ℤ pos b)
computed Mulhu a b = a * b / 2 ^ 32
computed Div a b = if b == 0 then 2 ^ 32 - 1 else word (int_div (signed_word a) (signed_word b))
computed Divu a b = if b == 0 then 2 ^ 32 - 1 else a / b
computed Rem a b = if b == 0 then a else word (int_rem (signed_word a) (signed_word b))
computed Remu a b = if b == 0 then a else a % b

-- the operation on registers that does the same with the immediate, sign-extended, as its second
-- operand
abbrev pub register_form : ImmOp → RegOp
register_form Addi = Add
register_form Slti = Slt
register_form Sltiu = Sltu
register_form Xori = Xor
register_form Ori = Or
register_form Andi = And
register_form Slli = Sll
register_form Srli = Srl
register_form Srai = Sra

abbrev pub computed_imm : ImmOp → ℕ → ℤ → ℕ
computed_imm op a imm = computed (register_form op) a (word imm)

-- What an atomic instruction leaves in memory where it writes, by the word that was there and the
-- value of its source (chapter 8.4): the minimum and maximum of signed numbers for MIN and MAX, of
-- unsigned ones for MINU and MAXU. An SC writes its source (chapter 8.2), and an LR leaves the word
-- as it is.
abbrev pub combined : AmoOp → ℕ → ℕ → ℕ
combined atomic.Lr held source = held
combined atomic.Sc held source = source
combined atomic.Swap held source = source
combined atomic.Add held source = (held + source) % 2 ^ 32
combined atomic.Xor held source = bit_xor held source
combined atomic.And held source = bit_and held source
combined atomic.Or held source = bit_or held source
combined atomic.Min held source = if below_signed held source then held else source
combined atomic.Max held source = if below_signed held source then source else held
combined atomic.Minu held source = if nat_lt held source then held else source
combined atomic.Maxu held source = if nat_lt held source then source else held

-- the condition of a branch
abbrev pub branch_holds : BranchOp → ℕ → ℕ → Bool
branch_holds Beq a b = a == b
branch_holds Bne a b = not (a == b)
branch_holds Blt a b = below_signed a b
branch_holds Bge a b = not (below_signed a b)
branch_holds Bltu a b = nat_lt a b
branch_holds Bgeu a b = not (nat_lt a b)

-- a number of so many bits, with its highest bit repeated up to bit 31
abbrev pub extended : ℕ → ℕ → ℕ
extended width n = if nat_lt n (2 ^ (width - 1)) then n else n + (2 ^ 32 - 2 ^ width)

-- the number in two bytes of memory, the lowest byte first
abbrev pub half_at : (ℕ → ℕ) → ℕ → ℕ
half_at memory base = memory (beside base 0) + 2 ^ 8 * memory (beside base 1)

-- the number in four
abbrev pub word_at : (ℕ → ℕ) → ℕ → ℕ
word_at memory base = memory (beside base 0) + 2 ^ 8 * memory (beside base 1) + 2 ^ 16 * memory (beside base 2) + 2 ^ 24 * memory (beside base 3)

-- what a load at this address puts into its register
abbrev pub loaded : LoadOp → (ℕ → ℕ) → ℕ → ℕ
loaded Lb memory base = extended 8 (memory (beside base 0))
loaded Lh memory base = extended 16 (half_at memory base)
loaded Lw memory base = word_at memory base
loaded Lbu memory base = memory (beside base 0)
loaded Lhu memory base = half_at memory base

-- how many bytes a store writes
abbrev pub store_width : StoreOp → ℕ
store_width Sb = 1
store_width Sh = 2
store_width Sw = 4

-- byte k of a number, the lowest first
abbrev pub byte_of : ℕ → ℕ → ℕ
byte_of n k = n / 2 ^ (8 * k) % 2 ^ 8
