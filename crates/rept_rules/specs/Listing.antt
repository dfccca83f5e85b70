-- The conclusions of a row as a list, in the order in which they are listed. What they are is told
-- by `Conclusions`.
use Rattle.std.specs.Prelude.{ℕ, suc, zero, ◌+◌, ◌*◌, ◌^◌, nat_lt, ℤ, Bool, ◌&&◌, if◌then◌else◌, Option, Some, None, List, [], ◌∷◌, ◌++◌}
use Rattle.rept_isa.specs.declared.instr.Instr.{Instr}
use Rattle.rept_isa.specs.declared.instr.Instr.TheVariants.{Lui, Auipc, Jal, Jalr, Branch, Load, Store, Imm, Op, Amo, Fence, Ecall, Ebreak, Counter}
use Rattle.rept_isa.specs.declared.instr.BranchOp.{BranchOp}
use Rattle.rept_isa.specs.declared.instr.LoadOp.{LoadOp}
use Rattle.rept_isa.specs.declared.instr.LoadOp.TheVariants.{Lb, Lh, Lw, Lbu, Lhu}
use Rattle.rept_isa.specs.declared.instr.StoreOp.{StoreOp}
use Rattle.rept_isa.specs.declared.instr.StoreOp.TheVariants.{Sb, Sh, Sw}
use Rattle.rept_isa.specs.declared.class.Turn.{Turn}
use Rattle.rept_isa.specs.declared.row.StepRow.{StepRow}
use Rattle.rept_isa.specs.Numbers.{plus, beside}
use Rattle.rept_isa.specs.Operands.{written_by, first_read, second_read, turn_of, unless_zero}
use Rattle.rept_isa.specs.Rows.{from_of}
use Rattle.rept_partial.specs.declared.flat.Flat.{Flat}
use Rattle.rept_partial.specs.declared.flat.Flat.TheVariants.{Unknown, Known}
use Rattle.rept_machine.specs.Arithmetic.{store_width, extended}
use Rattle.rept_reason.specs.Facts.{flat}
use Rattle.rept_reason.specs.declared.view.inferred.When.{When}
use Rattle.rept_reason.specs.declared.view.inferred.When.TheVariants.{Before, After}
use Rattle.rept_reason.specs.declared.view.inferred.Conclusion.{Conclusion}
use Rattle.rept_reason.specs.View.Seen.{Seen}
use Rattle.rept_rules.specs.declared.operand.Side.{Side}
use Rattle.rept_rules.specs.declared.operand.Side.TheVariants.{First, Second}
use Rattle.rept_rules.specs.Results.{forward_of}
use Rattle.rept_rules.specs.Operands.{solve_of, copied, operand_of, opposite}
use Rattle.rept_rules.specs.Conclusions.{seen_operand, on_register, on_byte, load_width, solving_rule, equates}

-- x1 to x31
abbrev pub is_named : ℕ → Bool
is_named r = nat_lt 0 r && nat_lt r 32

abbrev pub if_named : ℕ → Conclusion → List Conclusion
if_named r d = if is_named r then d ∷ [] else []

-- a register has a known value
abbrev pub register_inferred : ℕ → When → ℕ → Flat → List Conclusion
register_inferred rule when r Unknown = []
register_inferred rule when r (Known v) = if_named r (on_register rule when r v)

-- the same, where there is such a register
abbrev pub some_inferred : ℕ → When → Option ℕ → Flat → List Conclusion
some_inferred rule when None x = []
some_inferred rule when (Some r) x = register_inferred rule when r x

-- the low bytes of a value from a base on
abbrev pub bytes_inferred : ℕ → When → ℕ → ℕ → ℕ → List Conclusion
bytes_inferred rule when base v zero = []
bytes_inferred rule when base v (suc k) = bytes_inferred rule when base v k ++ on_byte rule when base v k ∷ []

-- the same, where base and value are known
abbrev pub known_bytes_inferred : ℕ → When → Flat → ℤ → Flat → ℕ → List Conclusion
known_bytes_inferred rule when Unknown imm v width = []
known_bytes_inferred rule when (Known b) imm Unknown width = []
known_bytes_inferred rule when (Known b) imm (Known v) width = bytes_inferred rule when (plus b imm) v width

-- the numbers in two and four bytes, where these are known
abbrev pub two_bytes : Option ℕ → Option ℕ → Flat
two_bytes (Some a) (Some b) = Known (a + 2 ^ 8 * b)
two_bytes (Some a) None = Unknown
two_bytes None b = Unknown

abbrev pub four_bytes : Option ℕ → Option ℕ → Option ℕ → Option ℕ → Flat
four_bytes (Some a) (Some b) (Some c) (Some d) = Known (a + 2 ^ 8 * b + 2 ^ 16 * c + 2 ^ 24 * d)
four_bytes (Some a) (Some b) (Some c) None = Unknown
four_bytes (Some a) (Some b) None d = Unknown
four_bytes (Some a) None c d = Unknown
four_bytes None b c d = Unknown

abbrev pub half_from : (ℕ → Option ℕ) → ℕ → Flat
half_from byte base = two_bytes (byte (beside base 0)) (byte (beside base 1))

abbrev pub word_from : (ℕ → Option ℕ) → ℕ → Flat
word_from byte base = four_bytes (byte (beside base 0)) (byte (beside base 1)) (byte (beside base 2)) (byte (beside base 3))

abbrev pub extended_from : ℕ → Flat → Flat
extended_from width Unknown = Unknown
extended_from width (Known n) = Known (extended width n)

-- what a load at an address puts into its register, where its bytes are known
abbrev pub loaded_from : LoadOp → (ℕ → Option ℕ) → ℕ → Flat
loaded_from Lb byte base = extended_from 8 (flat (byte (beside base 0)))
loaded_from Lh byte base = extended_from 16 (half_from byte base)
loaded_from Lw byte base = word_from byte base
loaded_from Lbu byte base = flat (byte (beside base 0))
loaded_from Lhu byte base = half_from byte base

-- at a base, where it is known
abbrev pub at_known : Flat → ℤ → (ℕ → Flat) → Flat
at_known Unknown imm f = Unknown
at_known (Known b) imm f = f (plus b imm)

-- what is known of a register
abbrev pub known_at : Seen → When → ℕ → Flat
known_at s when r = flat (s.register when r)

-- what is known after the row of the register that it writes
abbrev pub known_after : Seen → Option ℕ → Flat
known_after s None = Unknown
known_after s (Some rd) = flat (s.register After rd)

abbrev pub result_inferred : StepRow → Seen → List Conclusion
result_inferred row s = some_inferred 7 After (written_by row.instr) (forward_of row.instr (from_of row) (seen_operand s (first_read row.instr)) (seen_operand s (second_read row.instr)))

abbrev pub solve_known : Instr → Side → Flat → Flat → Flat
solve_known instr side Unknown other = Unknown
solve_known instr side (Known v) other = solve_of instr side v other

abbrev pub by_rule : Option ℕ → Option ℕ → Flat → List Conclusion
by_rule None r x = []
by_rule (Some rule) r x = some_inferred rule Before r x

-- the operand on one side of an operation
abbrev pub solved_inferred : Instr → Side → Seen → List Conclusion
solved_inferred instr side s = by_rule (solving_rule instr) (operand_of instr side) (solve_known instr side (known_after s (written_by instr)) (seen_operand s (operand_of instr (opposite side))))

abbrev pub both_inferred : ℕ → ℕ → Seen → List Conclusion
both_inferred rd source s = register_inferred 18 After rd (known_at s Before source) ++ register_inferred 18 Before source (known_at s After rd)

abbrev pub copied_between : Option ℕ → Option ℕ → Seen → List Conclusion
copied_between None source s = []
copied_between (Some rd) None s = []
copied_between (Some rd) (Some source) s = both_inferred rd source s

-- a copy and its source
abbrev pub copy_inferred : Instr → Seen → List Conclusion
copy_inferred instr s = copied_between (written_by instr) (copied instr) s

-- all of an operation's operands
abbrev pub operation_inferred : Instr → Seen → List Conclusion
operation_inferred instr s = solved_inferred instr First s ++ solved_inferred instr Second s ++ copy_inferred instr s

abbrev pub load_inferred : LoadOp → ℕ → ℕ → ℤ → Seen → List Conclusion
load_inferred op rd rs1 imm s = register_inferred 8 After rd (at_known (known_at s Before rs1) imm (loaded_from op (s.byte Before))) ++ known_bytes_inferred 15 Before (known_at s Before rs1) imm (known_after s (unless_zero rd)) (load_width op)

abbrev pub store_back_inferred : StoreOp → Flat → ℕ → ℤ → Seen → List Conclusion
store_back_inferred Sw base rs2 imm s = register_inferred 16 Before rs2 (at_known base imm (word_from (s.byte After)))
store_back_inferred Sb base rs2 imm s = []
store_back_inferred Sh base rs2 imm s = []

abbrev pub store_inferred : StoreOp → ℕ → ℕ → ℤ → Seen → List Conclusion
store_inferred op rs1 rs2 imm s = known_bytes_inferred 9 After (known_at s Before rs1) imm (known_at s Before rs2) (store_width op) ++ store_back_inferred op (known_at s Before rs1) rs2 imm s

-- a branch that went this way
abbrev pub branch_inferred : BranchOp → ℕ → ℕ → Turn → Seen → List Conclusion
branch_inferred op rs1 rs2 turn s = if equates op turn then register_inferred 14 Before rs2 (known_at s Before rs1) ++ register_inferred 14 Before rs1 (known_at s Before rs2) else []

abbrev pub others_inferred : Instr → Turn → Seen → List Conclusion
others_inferred (Load op rd rs1 imm) turn s = load_inferred op rd rs1 imm s
others_inferred (Store op rs1 rs2 imm) turn s = store_inferred op rs1 rs2 imm s
others_inferred (Imm op rd rs1 imm) turn s = operation_inferred (Imm op rd rs1 imm) s
others_inferred (Op op rd rs1 rs2) turn s = operation_inferred (Op op rd rs1 rs2) s
others_inferred (Branch op rs1 rs2 imm) turn s = branch_inferred op rs1 rs2 turn s
others_inferred (Lui rd imm) turn s = []
others_inferred (Auipc rd imm) turn s = []
others_inferred (Jal rd imm) turn s = []
others_inferred (Jalr rd rs1 imm) turn s = []
others_inferred (Amo op rd rs1 rs2) turn s = []
others_inferred Fence turn s = []
others_inferred Ecall turn s = []
others_inferred Ebreak turn s = []
others_inferred (Counter rd csr) turn s = []

abbrev pub conclusions : StepRow → Seen → List Conclusion
conclusions row s = result_inferred row s ++ others_inferred row.instr (turn_of row) s
