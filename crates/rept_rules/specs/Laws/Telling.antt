-- The registers that a row reads tell all that its conclusions rest on.
use Rattle.std.proofs.Common.{◌≡◌, ℕ, ◌⊎◌, inl, inr, refl, ap, ◌∙◌, Some, if◌then◌else◌, ◌==◌, List, [], ◌++◌}
use Rattle.rept_isa.specs.declared.instr.Instr.{Instr}
use Rattle.rept_isa.specs.declared.instr.Instr.TheVariants.{Lui, Auipc, Jal, Jalr, Branch, Load, Store, Imm, Op, Amo, Fence, Ecall, Ebreak, Counter}
use Rattle.rept_isa.specs.declared.instr.RegOp.{RegOp}
use Rattle.rept_isa.specs.Operands.{first_read, second_read}
use Rattle.rept_partial.specs.declared.flat.Flat.{Flat}
use Rattle.rept_reason.specs.Facts.{flat}
use Rattle.rept_reason.specs.declared.view.inferred.When.TheVariants.{Before, After}
use Rattle.rept_reason.specs.declared.view.inferred.Conclusion.{Conclusion}
use Rattle.rept_reason.specs.declared.view.inferred.Premise.{Premise}
use Rattle.rept_reason.specs.View.Seen.{Seen}
use Rattle.rept_rules.specs.Results.{operand, cancels}
use Rattle.rept_rules.specs.Operands.{copied_register}
use Rattle.rept_rules.specs.Conclusions.{load_width}
use Rattle.rept_rules.specs.Listing.{known_at}
use Rattle.rept_rules.specs.Needs.{register_need, both_needs, known_byte_needs, decides, other_register, copy_needs, by_when, needs_of}

-- the same is known before the row of each register that it reads
abbrev HasSameOperands : Instr → Seen → Seen → Type 0
HasSameOperands instr s t = (r : ℕ) → (first_read instr ≡ Some r) ⊎ (second_read instr ≡ Some r) → t.register Before r ≡ s.register Before r

-- the needs of a result, from what is known of its two operands
abbrev result_by : RegOp → ℕ → ℕ → Flat → Flat → List Premise
result_by op rs1 rs2 x y =
    if cancels op rs1 rs2 then []
    else if decides op (operand rs1 x) then register_need Before rs1
    else if decides op (operand rs2 y) then register_need Before rs2
    else both_needs rs1 rs2

pub needs_told_by : (instr : Instr) (s t : Seen) (d : Conclusion) → HasSameOperands instr s t → needs_of instr t d ≡ needs_of instr s d
needs_told_by (Op op rd rs1 rs2) s t d same =
    let rest = if d.rule == 18 then copy_needs d.when rd (copied_register op rs1 rs2) else register_need After rd ++ register_need Before (other_register d.cell rs1 rs2) in
    let by = λ (x y : Flat). if d.rule == 7 then result_by op rs1 rs2 x y else rest in
    ap (λ (x : Flat). by x (known_at t Before rs2)) (ap flat (same rs1 (inl refl))) ∙ ap (λ (y : Flat). by (known_at s Before rs1) y) (ap flat (same rs2 (inr refl)))
needs_told_by (Load op rd rs1 imm) s t d same = ap (λ (x : Flat). by_when d.when (register_need After rd ++ register_need Before rs1) (register_need Before rs1 ++ known_byte_needs Before x imm (load_width op))) (ap flat (same rs1 (inl refl)))
needs_told_by (Store op rs1 rs2 imm) s t d same = ap (λ (x : Flat). by_when d.when (register_need Before rs1 ++ known_byte_needs After x imm 4) (both_needs rs1 rs2)) (ap flat (same rs1 (inl refl)))
needs_told_by (Imm op rd rs1 imm) s t d same = refl
needs_told_by (Branch op rs1 rs2 imm) s t d same = refl
needs_told_by (Lui rd imm) s t d same = refl
needs_told_by (Auipc rd imm) s t d same = refl
needs_told_by (Jal rd imm) s t d same = refl
needs_told_by (Jalr rd rs1 imm) s t d same = refl
needs_told_by (Amo op rd rs1 rs2) s t d same = refl
needs_told_by Fence s t d same = refl
needs_told_by Ecall s t d same = refl
needs_told_by Ebreak s t d same = refl
needs_told_by (Counter rd csr) s t d same = refl
