-- What the result of an operation on two registers tells of its operands.
use Rattle.std.proofs.Common.{◌≡◌, ◌≢◌, ℕ, ◌+◌, ◌-◌, ◌%◌, ◌^◌, ◌<◌, Bool, true, ℤ, Some, slice_get, refl, sym, ap, subst, ◌∙◌, arith}
use Rattle.std.specs.Prelude.{bit_and, bit_xor}
use Rattle.std.specs.Int.Bits.{xor_self, xor_zero_r, xor_assoc}
use Rattle.std.proofs.lemmas.Nat.{and_comm, xor_comm}
use Rattle.rept_isa.specs.declared.instr.Instr.{Instr}
use Rattle.rept_isa.specs.declared.instr.Instr.TheVariants.{Op, Imm}
use Rattle.rept_isa.specs.declared.instr.ImmOp.{ImmOp}
use Rattle.rept_isa.specs.declared.instr.RegOp.{RegOp}
use Rattle.rept_isa.specs.declared.instr.RegOp.TheVariants.{Add, Sub, Xor, And}
use Rattle.rept_isa.specs.declared.row.StepRow.{StepRow}
use Rattle.rept_isa.specs.Numbers.{word}
use Rattle.rept_isa.specs.Rows.{addresses_of}
use Rattle.rept_machine.specs.State.{State}
use Rattle.rept_machine.specs.Step.{HasEffect}
use Rattle.rept_machine.specs.Arithmetic.{computed, register_form}
use Rattle.rept_known.specs.declared.both.Both.{Both}
use Rattle.rept_known.specs.Both.{both_has, both_sets}
use Rattle.rept_known.specs.Laws.BothLaws.{both_lawful}
use Rattle.rept_span.specs.Laws.RangeBounds.{word_small}
use Rattle.rept_span.specs.Filled.{View}
use Rattle.rept_narrow.specs.Admitted.{Story}
use Rattle.rept_narrow.specs.Rules.{set_at, HasSets, IsSound}
use Rattle.rept_narrow.proofs.Sentences.{inside_rows}

-- ---- operations that undo one another
xor_back : (a b : ℕ) → bit_xor (bit_xor a b) b ≡ a
xor_back a b = xor_assoc a b b ∙ ap (λ (n : ℕ). bit_xor a n) (xor_self b) ∙ xor_zero_r a

add_undone : (x y : ℕ) → x < 2 ^ 32 → y < 2 ^ 32 → computed Sub (computed Add x y) y ≡ x
add_undone x y s t = omega (arith, s, t)

add_undone_left : (x y : ℕ) → x < 2 ^ 32 → y < 2 ^ 32 → computed Sub (computed Add x y) x ≡ y
add_undone_left x y s t = omega (arith, s, t)

sub_undone : (x y : ℕ) → x < 2 ^ 32 → y < 2 ^ 32 → computed Add (computed Sub x y) y ≡ x
sub_undone x y s t = omega (arith, s, t)

sub_undone_left : (x y : ℕ) → x < 2 ^ 32 → y < 2 ^ 32 → computed Sub x (computed Sub x y) ≡ y
sub_undone_left x y s t = omega (arith, s, t)

xor_undone_left : (x y : ℕ) → computed Xor (computed Xor x y) x ≡ y
xor_undone_left x y = ap (λ (n : ℕ). bit_xor n x) (xor_comm x y) ∙ xor_back y x

-- a set of what an operation computes of two sets has the operand
given : (op : RegOp) (a b result : Both) (p q x : ℕ) → ((m n : ℕ) → both_has a m ≡ true → both_has b n ≡ true → computed op m n < 2 ^ 32 → both_has result (computed op m n) ≡ true) → both_has a p ≡ true → both_has b q ≡ true → computed op p q ≡ x → x < 2 ^ 32 → both_has result x ≡ true
given op a b result p q x makes f g e small = subst (λ (n : ℕ). both_has result n ≡ true) e (makes p q f g (subst (λ (n : ℕ). n < 2 ^ 32) (sym e) small))

pub first_of_add : (made second result : Both) → ((m n : ℕ) → both_has made m ≡ true → both_has second n ≡ true → computed Sub m n < 2 ^ 32 → both_has result (computed Sub m n) ≡ true) → (x y : ℕ) → x < 2 ^ 32 → both_has made (computed Add x y) ≡ true → both_has second y ≡ true → both_has result x ≡ true
first_of_add made second result makes x y small f g = given Sub made second result (computed Add x y) y x makes f g (add_undone x y small (both_lawful.words second y g)) small

pub first_of_sub : (made second result : Both) → ((m n : ℕ) → both_has made m ≡ true → both_has second n ≡ true → computed Add m n < 2 ^ 32 → both_has result (computed Add m n) ≡ true) → (x y : ℕ) → x < 2 ^ 32 → both_has made (computed Sub x y) ≡ true → both_has second y ≡ true → both_has result x ≡ true
first_of_sub made second result makes x y small f g = given Add made second result (computed Sub x y) y x makes f g (sub_undone x y small (both_lawful.words second y g)) small

pub first_of_xor : (made second result : Both) → ((m n : ℕ) → both_has made m ≡ true → both_has second n ≡ true → computed Xor m n < 2 ^ 32 → both_has result (computed Xor m n) ≡ true) → (x y : ℕ) → x < 2 ^ 32 → both_has made (computed Xor x y) ≡ true → both_has second y ≡ true → both_has result x ≡ true
first_of_xor made second result makes x y small f g = given Xor made second result (computed Xor x y) y x makes f g (xor_back x y) small

pub second_of_add : (made first result : Both) → ((m n : ℕ) → both_has made m ≡ true → both_has first n ≡ true → computed Sub m n < 2 ^ 32 → both_has result (computed Sub m n) ≡ true) → (x y : ℕ) → y < 2 ^ 32 → both_has made (computed Add x y) ≡ true → both_has first x ≡ true → both_has result y ≡ true
second_of_add made first result makes x y small f g = given Sub made first result (computed Add x y) x y makes f g (add_undone_left x y (both_lawful.words first x g) small) small

pub second_of_sub : (made first result : Both) → ((m n : ℕ) → both_has first m ≡ true → both_has made n ≡ true → computed Sub m n < 2 ^ 32 → both_has result (computed Sub m n) ≡ true) → (x y : ℕ) → y < 2 ^ 32 → both_has made (computed Sub x y) ≡ true → both_has first x ≡ true → both_has result y ≡ true
second_of_sub made first result makes x y small f g = given Sub first made result x (computed Sub x y) y makes g f (sub_undone_left x y (both_lawful.words first x g) small) small

pub second_of_xor : (made first result : Both) → ((m n : ℕ) → both_has made m ≡ true → both_has first n ≡ true → computed Xor m n < 2 ^ 32 → both_has result (computed Xor m n) ≡ true) → (x y : ℕ) → y < 2 ^ 32 → both_has made (computed Xor x y) ≡ true → both_has first x ≡ true → both_has result y ≡ true
second_of_xor made first result makes x y small f g = given Xor made first result (computed Xor x y) x y makes f g (xor_undone_left x y) small

-- ---- the operands of a row
op_result : (story : Story) (table : View Both) (run : ℕ → State) (i rd rs1 rs2 : ℕ) (op : RegOp) (row : StepRow) → slice_get story.rows i ≡ Some row → row.instr ≡ Op op rd rs1 rs2 → rd ≢ 0 → HasSets story table run → (run (i + 1)).register rd ≡ computed op ((run i).register rs1) ((run i).register rs2)
op_result story table run i rd rs1 rs2 op row at form named h =
    let step : HasEffect (Op op rd rs1 rs2) story.image_end (addresses_of row) (run i) (run (i + 1)) = subst (λ (n : Instr). HasEffect n story.image_end (addresses_of row) (run i) (run (i + 1))) form (h.admitted.execution.steps i row at) in
    step.result.written named

pub first_sound : (story : Story) (table : View Both) (i rd rs1 rs2 : ℕ) (op : RegOp) (row : StepRow) (made known result : Both) → slice_get story.rows i ≡ Some row → row.instr ≡ Op op rd rs1 rs2 → rd ≢ 0 → set_at table (i + 1) rd ≡ Some made → set_at table i rs2 ≡ Some known → ((x y : ℕ) → x < 2 ^ 32 → both_has made (computed op x y) ≡ true → both_has known y ≡ true → both_has result x ≡ true) → IsSound story table i rs1 result
first_sound story table i rd rs1 rs2 op row made known result at form named is other makes = λ run h le.
    let inside = inside_rows story.rows i row at in
    let has : both_has made (computed op ((run i).register rs1) ((run i).register rs2)) ≡ true = subst (λ (n : ℕ). both_has made n ≡ true) (op_result story table run i rd rs1 rs2 op row at form named h) (h.sets (i + 1) rd made (omega (arith, inside)) is) in
    makes ((run i).register rs1) ((run i).register rs2) ((h.admitted.execution.states i le).words rs1) has (h.sets i rs2 known le other)

pub second_sound : (story : Story) (table : View Both) (i rd rs1 rs2 : ℕ) (op : RegOp) (row : StepRow) (made known result : Both) → slice_get story.rows i ≡ Some row → row.instr ≡ Op op rd rs1 rs2 → rd ≢ 0 → set_at table (i + 1) rd ≡ Some made → set_at table i rs1 ≡ Some known → ((x y : ℕ) → y < 2 ^ 32 → both_has made (computed op x y) ≡ true → both_has known x ≡ true → both_has result y ≡ true) → IsSound story table i rs2 result
second_sound story table i rd rs1 rs2 op row made known result at form named is other makes = λ run h le.
    let inside = inside_rows story.rows i row at in
    let has : both_has made (computed op ((run i).register rs1) ((run i).register rs2)) ≡ true = subst (λ (n : ℕ). both_has made n ≡ true) (op_result story table run i rd rs1 rs2 op row at form named h) (h.sets (i + 1) rd made (omega (arith, inside)) is) in
    makes ((run i).register rs1) ((run i).register rs2) ((h.admitted.execution.states i le).words rs2) has (h.sets i rs1 known le other)

-- and of an operation on a register and an immediate
pub operand_sound : (story : Story) (table : View Both) (i rd rs1 : ℕ) (imm : ℤ) (op : ImmOp) (row : StepRow) (made known result : Both) → slice_get story.rows i ≡ Some row → row.instr ≡ Imm op rd rs1 imm → rd ≢ 0 → set_at table (i + 1) rd ≡ Some made → known ≡ both_sets.exact (word imm) → ((x y : ℕ) → x < 2 ^ 32 → both_has made (computed (register_form op) x y) ≡ true → both_has known y ≡ true → both_has result x ≡ true) → IsSound story table i rs1 result
operand_sound story table i rd rs1 imm op row made known result at form named is exact makes = λ run h le.
    let inside = inside_rows story.rows i row at in
    let step : HasEffect (Imm op rd rs1 imm) story.image_end (addresses_of row) (run i) (run (i + 1)) = subst (λ (n : Instr). HasEffect n story.image_end (addresses_of row) (run i) (run (i + 1))) form (h.admitted.execution.steps i row at) in
    let value : (run (i + 1)).register rd ≡ computed (register_form op) ((run i).register rs1) (word imm) = step.result.written named in
    let has : both_has made (computed (register_form op) ((run i).register rs1) (word imm)) ≡ true = subst (λ (n : ℕ). both_has made n ≡ true) value (h.sets (i + 1) rd made (omega (arith, inside)) is) in
    let other : both_has known (word imm) ≡ true = subst (λ (b : Both). both_has b (word imm) ≡ true) (sym exact) (both_lawful.exact (word imm) (word_small imm)) in
    makes ((run i).register rs1) (word imm) ((h.admitted.execution.states i le).words rs1) has other

-- the operands of AND may change places
pub second_of_and : (made first result : Both) → ((x y : ℕ) → x < 2 ^ 32 → both_has made (bit_and x y) ≡ true → both_has first y ≡ true → both_has result x ≡ true) → (x y : ℕ) → y < 2 ^ 32 → both_has made (computed And x y) ≡ true → both_has first x ≡ true → both_has result y ≡ true
second_of_and made first result makes x y small f g = makes y x small (subst (λ (n : ℕ). both_has made n ≡ true) (and_comm x y) f) g
