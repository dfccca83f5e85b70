-- The result of an operation on known values.
use Rattle.std.proofs.Common.{◌≡◌, ◌≢◌, ℕ, ℤ, ◌+◌, ◌<◌, ◌≤◌, ◌^◌, true, length, Some, slice_get, sym, subst, subst₂, arith}
use Rattle.rept_isa.specs.declared.instr.Instr.{Instr}
use Rattle.rept_isa.specs.declared.instr.Instr.TheVariants.{Op, Imm}
use Rattle.rept_isa.specs.declared.instr.ImmOp.{ImmOp}
use Rattle.rept_isa.specs.declared.instr.RegOp.{RegOp}
use Rattle.rept_isa.specs.declared.row.StepRow.{StepRow}
use Rattle.rept_isa.specs.Rows.{addresses_of}
use Rattle.rept_machine.specs.Step.{HasEffect}
use Rattle.rept_machine.specs.Arithmetic.{computed, computed_imm}
use Rattle.rept_known.specs.declared.both.Both.{Both}
use Rattle.rept_known.specs.Both.{both_has, both_sets}
use Rattle.rept_known.specs.Laws.BothLaws.{both_lawful}
use Rattle.rept_span.specs.Filled.{View}
use Rattle.rept_narrow.specs.Admitted.{Story}
use Rattle.rept_narrow.specs.Rules.{set_at, IsSound}
use Rattle.rept_narrow.proofs.Sentences.{inside_rows}

pub result_sound : (story : Story) (table : View Both) (i : ℕ) (op : RegOp) (rd rs1 rs2 x y : ℕ) (row : StepRow) (a b made : Both) → slice_get story.rows i ≡ Some row → row.instr ≡ Op op rd rs1 rs2 → rd ≢ 0 → set_at table i rs1 ≡ Some a → both_sets.as_exact a ≡ Some x → set_at table i rs2 ≡ Some b → both_sets.as_exact b ≡ Some y → made ≡ both_sets.exact (computed op x y) → IsSound story table (i + 1) rd made
result_sound story table i op rd rs1 rs2 x y row a b made at form named at_a exact_a at_b exact_b is = λ run h le.
    let inside = inside_rows story.rows i row at in
    let early : i ≤ length story.rows = omega (arith, inside) in
    let step : HasEffect (Op op rd rs1 rs2) story.image_end (addresses_of row) (run i) (run (i + 1)) = subst (λ (n : Instr). HasEffect n story.image_end (addresses_of row) (run i) (run (i + 1))) form (h.admitted.execution.steps i row at) in
    let first : (run i).register rs1 ≡ x = both_lawful.as_exact a x ((run i).register rs1) exact_a (h.sets i rs1 a early at_a) in
    let second : (run i).register rs2 ≡ y = both_lawful.as_exact b y ((run i).register rs2) exact_b (h.sets i rs2 b early at_b) in
    let value : (run (i + 1)).register rd ≡ computed op x y = subst₂ (λ m n. (run (i + 1)).register rd ≡ computed op m n) first second (step.result.written named) in
    let small : computed op x y < 2 ^ 32 = subst (λ (n : ℕ). n < 2 ^ 32) value ((h.admitted.execution.states (i + 1) le).words rd) in
    subst (λ (w : Both). both_has w ((run (i + 1)).register rd) ≡ true) (sym is) (subst (λ (n : ℕ). both_has (both_sets.exact (computed op x y)) n ≡ true) (sym value) (both_lawful.exact (computed op x y) small))

pub immediate_sound : (story : Story) (table : View Both) (i : ℕ) (op : ImmOp) (rd rs1 : ℕ) (imm : ℤ) (x : ℕ) (row : StepRow) (a made : Both) → slice_get story.rows i ≡ Some row → row.instr ≡ Imm op rd rs1 imm → rd ≢ 0 → set_at table i rs1 ≡ Some a → both_sets.as_exact a ≡ Some x → made ≡ both_sets.exact (computed_imm op x imm) → IsSound story table (i + 1) rd made
immediate_sound story table i op rd rs1 imm x row a made at form named at_a exact_a is = λ run h le.
    let inside = inside_rows story.rows i row at in
    let early : i ≤ length story.rows = omega (arith, inside) in
    let step : HasEffect (Imm op rd rs1 imm) story.image_end (addresses_of row) (run i) (run (i + 1)) = subst (λ (n : Instr). HasEffect n story.image_end (addresses_of row) (run i) (run (i + 1))) form (h.admitted.execution.steps i row at) in
    let first : (run i).register rs1 ≡ x = both_lawful.as_exact a x ((run i).register rs1) exact_a (h.sets i rs1 a early at_a) in
    let value : (run (i + 1)).register rd ≡ computed_imm op x imm = subst (λ m. (run (i + 1)).register rd ≡ computed_imm op m imm) first (step.result.written named) in
    let small : computed_imm op x imm < 2 ^ 32 = subst (λ (n : ℕ). n < 2 ^ 32) value ((h.admitted.execution.states (i + 1) le).words rd) in
    subst (λ (w : Both). both_has w ((run (i + 1)).register rd) ≡ true) (sym is) (subst (λ (n : ℕ). both_has (both_sets.exact (computed_imm op x imm)) n ≡ true) (sym value) (both_lawful.exact (computed_imm op x imm) small))
