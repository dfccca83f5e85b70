-- What a step of a row tells of the words of its operands and its result.
use Rattle.std.proofs.Common.{◌≡◌, ◌≢◌, ℕ, ◌+◌, ◌%◌, ◌^◌, ◌<◌, ◌⊎◌, inl, inr, ℤ, true, false, not, Some, List, [], ◌∷◌, zero, suc, length, slice_get, refl, sym, ap, subst, ◌∙◌, arith}
use Rattle.std.specs.Prelude.{◌==◌, if◌then◌else◌}
use Rattle.std.proofs.lemmas.Bool.{cases_Bool, eqb-true, ne_eqb, true≢false}
use Rattle.std.proofs.lemmas.Option.{slice_get_within}
use Rattle.rept_isa.specs.declared.instr.Instr.{Instr}
use Rattle.rept_isa.specs.declared.instr.Instr.TheVariants.{Branch, Imm, Op}
use Rattle.rept_isa.specs.declared.instr.BranchOp.{BranchOp}
use Rattle.rept_isa.specs.declared.instr.BranchOp.TheVariants.{Beq, Bne}
use Rattle.rept_isa.specs.declared.instr.ImmOp.{ImmOp}
use Rattle.rept_isa.specs.declared.instr.RegOp.{RegOp}
use Rattle.rept_isa.specs.declared.row.StepRow.{StepRow}
use Rattle.rept_isa.specs.declared.class.Turn.{Turn}
use Rattle.rept_isa.specs.declared.class.Turn.TheVariants.{Taken, NotTaken}
use Rattle.rept_isa.specs.Numbers.{word, plus, following}
use Rattle.rept_isa.specs.Operands.{unless_zero, written_by, first_read, second_read, way, turn_by, turn_of}
use Rattle.rept_isa.specs.Rows.{addresses_of, from_of}
use Rattle.rept_machine.specs.Arithmetic.{branch_holds, computed, register_form}
use Rattle.rept_machine.specs.State.{State}
use Rattle.rept_machine.specs.Step.{HasEffect, IsStep}
use Rattle.rept_machine.specs.Ways.{TurnTells, way_tells}
use Rattle.rept_relate.specs.declared.classes.node.ClassNode.{ClassNode}
use Rattle.rept_relate.specs.declared.classes.node.Term.{Term}
use Rattle.rept_relate.specs.Classes.Valuations.{word_of, IsValued}
use Rattle.rept_relate.specs.declared.numbering.OperandNodes.{OperandNodes}
use Rattle.rept_relate.specs.Numbering.{value_in, IsWalk, IsNumbered}
use Rattle.rept_relate.specs.Relations.{equates, IsRowOf, IsOfRow, IsComputed, IsComputedOf, IsResult}
use Rattle.rept_relate.proofs.Counting.{value_zero, value_of_node, value_of_row}
use Rattle.rept_relate.proofs.Summing.{own, plain}

-- ---- the words that all nodes have together
element_at : (xs : List ClassNode) (i : ℕ) → i < length xs → (x : ClassNode) × (slice_get xs i ≡ Some x)
element_at [] i less = absurd (omega arith)
element_at (x ∷ xs) zero less = (x, refl)
element_at (x ∷ xs) (suc i) less = element_at xs i (omega arith)

pub inside_small : (value : ℕ → ℕ) (nodes : List ClassNode) (x : ℕ) → x < length nodes → IsValued nodes value → value x < 2 ^ 32
inside_small value nodes x less valued =
    let node = element_at nodes x less in
    let e = (valued x node.0 node.1).stands in
    omega (arith, e)

pub plain_of : (value : ℕ → ℕ) (nodes : List ClassNode) (node known : ℕ) → known < length nodes → IsValued nodes value → value node ≡ value known → value node ≡ word_of value (own known)
plain_of value nodes node known less valued e = e ∙ sym (plain value known (inside_small value nodes known less valued))

-- ---- branches
pub effect : (instr : Instr) (image_end : ℕ) (row : StepRow) (s t : State) → row.instr ≡ instr → IsStep image_end row s t → HasEffect instr image_end (addresses_of row) s t
effect instr image_end row s t is h = subst (λ (i : Instr). HasEffect i image_end (addresses_of row) s t) is h

equates_is : (op : BranchOp) (turn : Turn) → equates op turn ≡ true → ((op ≡ Beq) × (turn ≡ Taken)) ⊎ ((op ≡ Bne) × (turn ≡ NotTaken))
equates_is Beq Taken t = inl (refl, refl)
equates_is Bne NotTaken t = inr (refl, refl)
equates_is _ _ t = absurd (true≢false (sym t))

equal_not : (a b : ℕ) → not (a == b) ≡ false → a ≡ b
equal_not a b e = elim (cases_Bool (a == b)) [ inl t ↦ eqb-true a b t | inr f ↦ absurd (true≢false (rw f at e)) ]

went_equal : (op : BranchOp) (from target next a b : ℕ) → next ≡ (if branch_holds op a b then target else following from) → equates op (way from target next) ≡ true → a ≡ b
went_equal op from target next a b effect t =
    let tells : TurnTells (way from target next) (branch_holds op a b) = way_tells (branch_holds op a b) from target next effect in
    elim (equates_is op (way from target next) t) [
      | inl (is, went) ↦
          let holds : branch_holds op a b ≡ true = subst (λ (w : Turn). TurnTells w (branch_holds op a b)) went tells in
          eqb-true a b (subst (λ (o : BranchOp). branch_holds o a b ≡ true) is holds)
      | inr (is, went) ↦
          let fails : branch_holds op a b ≡ false = subst (λ (w : Turn). TurnTells w (branch_holds op a b)) went tells in
          equal_not a b (subst (λ (o : BranchOp). branch_holds o a b ≡ false) is fails)
    ]

pub branch_equal : (row : StepRow) (node : ℕ) (nodes : OperandNodes) (value : ℕ → ℕ) (op : BranchOp) (rs1 rs2 : ℕ) (imm : ℤ) → row.instr ≡ Branch op rs1 rs2 imm → IsOfRow row node nodes value → equates op (turn_of row) ≡ true → value nodes.first ≡ value nodes.second
branch_equal row node nodes value op rs1 rs2 imm is w e =
    let h : HasEffect (Branch op rs1 rs2 imm) w.0 (addresses_of row) w.1 w.2 = effect (Branch op rs1 rs2 imm) w.0 row w.1 w.2 is w.3.step in
    let turned : turn_of row ≡ way (from_of row) (plus row.at imm) row.next = ap (λ (i : Instr). turn_by i (addresses_of row)) is in
    let went = subst (λ (t : Turn). equates op t ≡ true) turned e in
    w.3.first rs1 (ap first_read is) ∙ went_equal op (from_of row) (plus row.at imm) row.next (w.1.register rs1) (w.1.register rs2) h.onward went ∙ sym (w.3.second rs2 (ap second_read is))

-- ---- operations
pub unless_named : (rd : ℕ) → rd ≢ 0 → unless_zero rd ≡ Some rd
unless_named rd ne = rw (ne_eqb rd 0 ne) refl

pub imm_computed : (row : StepRow) (node : ℕ) (nodes : OperandNodes) (value : ℕ → ℕ) (op : ImmOp) (rd rs1 : ℕ) (imm : ℤ) → row.instr ≡ Imm op rd rs1 imm → rd ≢ 0 → IsOfRow row node nodes value → IsComputedOf (register_form op) node nodes.first (word imm) value
imm_computed row node nodes value op rd rs1 imm is named w =
    let h : HasEffect (Imm op rd rs1 imm) w.0 (addresses_of row) w.1 w.2 = effect (Imm op rd rs1 imm) w.0 row w.1 w.2 is w.3.step in
    let first = w.3.first rs1 (ap first_read is) in
    record {
      zero = w.3.zero;
      small = subst (λ (n : ℕ). n < 2 ^ 32) (sym first) (w.3.before.words rs1);
      result = w.3.result rd (ap written_by is ∙ unless_named rd named) ∙ h.result.written named ∙ ap (λ (n : ℕ). computed (register_form op) n (word imm)) (sym first);
    }

pub op_computed : (row : StepRow) (node : ℕ) (nodes : OperandNodes) (value : ℕ → ℕ) (op : RegOp) (rd rs1 rs2 : ℕ) → row.instr ≡ Op op rd rs1 rs2 → rd ≢ 0 → IsOfRow row node nodes value → IsComputed op node nodes.first nodes.second value
op_computed row node nodes value op rd rs1 rs2 is named w =
    let h : HasEffect (Op op rd rs1 rs2) w.0 (addresses_of row) w.1 w.2 = effect (Op op rd rs1 rs2) w.0 row w.1 w.2 is w.3.step in
    let first = w.3.first rs1 (ap first_read is) in
    let second = w.3.second rs2 (ap second_read is) in
    record {
      zero = w.3.zero;
      small_first = subst (λ (n : ℕ). n < 2 ^ 32) (sym first) (w.3.before.words rs1);
      small_second = subst (λ (n : ℕ). n < 2 ^ 32) (sym second) (w.3.before.words rs2);
      result = w.3.result rd (ap written_by is ∙ unless_named rd named) ∙ h.result.written named ∙ ap (λ (n : ℕ). computed op n (w.1.register rs2)) (sym first) ∙ ap (λ (n : ℕ). computed op (value nodes.first) n) (sym second);
    }

-- the same of terms that have the words
pub of_terms : (value : ℕ → ℕ) (op : RegOp) (node one other : ℕ) (first second : Term) → IsComputed op node one other value → value one ≡ word_of value first → value other ≡ word_of value second → IsResult value (record { op = op; first = first; second = second; node = node })
of_terms value op node one other first second h e f = h.result ∙ ap (λ (n : ℕ). computed op n (value other)) e ∙ ap (λ (n : ℕ). computed op (word_of value first) n) f

pub of_constant : (value : ℕ → ℕ) (op : RegOp) (node base constant : ℕ) (first : Term) → constant < 2 ^ 32 → IsComputedOf op node base constant value → value base ≡ word_of value first → IsResult value (record { op = op; first = first; second = record { node = 0; offset = constant }; node = node })
of_constant value op node base constant first small h e =
    let zero = h.zero in
    let same : constant ≡ (value 0 + constant) % 2 ^ 32 = omega (arith, zero, small) in
    h.result ∙ ap (λ (n : ℕ). computed op n constant) e ∙ ap (λ (n : ℕ). computed op (word_of value first) n) same

-- ---- rows of an execution

pub step_of_walk : (image_end : ℕ) (rows : List StepRow) (run : ℕ → State) (i : ℕ) (row : StepRow) (nodes : OperandNodes) → IsWalk image_end rows run → slice_get rows i ≡ Some row → IsNumbered rows i row nodes → IsRowOf row (32 + i) nodes (value_in rows run) image_end (run i) (run (i + 1))
step_of_walk image_end rows run i row nodes walk at numbered =
    let inside = slice_get_within rows i row at in
    record {
      zero = value_zero image_end rows run walk;
      before = walk.states i (omega (arith, inside));
      after = walk.states (i + 1) (omega (arith, inside));
      step = walk.steps i row at;
      first = λ r e. ap (value_in rows run) (numbered.first r e) ∙ value_of_node image_end rows run walk i r (omega (arith, inside)) (numbered.first_named r e);
      second = λ r e. ap (value_in rows run) (numbered.second r e) ∙ value_of_node image_end rows run walk i r (omega (arith, inside)) (numbered.second_named r e);
      result = λ r e. value_of_row rows run i r row at e;
    }

pub row_of_walk : (image_end : ℕ) (rows : List StepRow) (run : ℕ → State) (i : ℕ) (row : StepRow) (nodes : OperandNodes) → IsWalk image_end rows run → slice_get rows i ≡ Some row → IsNumbered rows i row nodes → IsOfRow row (32 + i) nodes (value_in rows run)
row_of_walk image_end rows run i row nodes walk at numbered = (image_end, run i, run (i + 1), step_of_walk image_end rows run i row nodes walk at numbered)
