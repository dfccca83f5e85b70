-- Each conclusion of a row holds in each step that has all that is seen.
use Rattle.std.proofs.Common.{◌≡◌, ◌≢◌, ℕ, zero, suc, ◌+◌, ◌-◌, ◌*◌, ◌/◌, ◌%◌, ◌<◌, ◌^◌, ◌⊎◌, true, false, inl, inr, refl, sym, ap, subst, ◌∙◌, if◌then◌else◌, arith, Option, Some, None, ℤ, ◌==◌, nat_lt, lit<}
use Rattle.std.specs.Prelude.{not}
use Rattle.rept_isa.specs.declared.instr.Instr.{Instr}
use Rattle.rept_isa.specs.declared.instr.Instr.TheVariants.{Branch, Load, Store, Imm, Op}
use Rattle.rept_isa.specs.declared.instr.BranchOp.{BranchOp}
use Rattle.rept_isa.specs.declared.instr.BranchOp.TheVariants.{Beq, Bne}
use Rattle.rept_isa.specs.declared.instr.LoadOp.{LoadOp}
use Rattle.rept_isa.specs.declared.instr.LoadOp.TheVariants.{Lb, Lh, Lw, Lbu, Lhu}
use Rattle.rept_isa.specs.declared.instr.StoreOp.TheVariants.{Sw}
use Rattle.rept_isa.specs.declared.class.Turn.{Turn}
use Rattle.rept_isa.specs.declared.class.Turn.TheVariants.{Taken, NotTaken}
use Rattle.rept_isa.specs.declared.row.StepRow.{StepRow}
use Rattle.rept_isa.specs.Numbers.{plus, following, beside}
use Rattle.rept_isa.specs.Operands.{written_by, first_read, second_read, turn_of, turn_by, way}
use Rattle.rept_isa.specs.Rows.{Addresses, from_of, addresses_of}
use Rattle.rept_partial.specs.declared.flat.Flat.{Flat}
use Rattle.rept_partial.specs.declared.flat.Flat.TheVariants.{Known}
use Rattle.rept_machine.specs.Arithmetic.{loaded, word_at, byte_of, extended, branch_holds}
use Rattle.rept_machine.specs.State.{State, IsState}
use Rattle.rept_machine.specs.Step.{HasEffect, IsStep}
use Rattle.rept_machine.specs.Ways.{TurnTells, way_tells}
use Rattle.rept_reason.specs.Facts.{flat}
use Rattle.rept_reason.specs.declared.view.inferred.When.{When}
use Rattle.rept_reason.specs.declared.view.inferred.When.TheVariants.{Before, After}
use Rattle.rept_reason.specs.declared.view.inferred.Conclusion.{Conclusion}
use Rattle.rept_reason.specs.View.Seen.{Seen, Meets, state_at, held}
use Rattle.rept_reason.specs.View.Rules.{IsSeenStep}
use Rattle.rept_rules.specs.Results.{Admits, HoldsIn}
use Rattle.rept_rules.specs.Operands.{copied, operand_of, opposite, is_neutral}
use Rattle.rept_rules.specs.Conclusions.{ConcludesByRow, IsOnRegister, IsKnown, AreKnown, on_register, on_byte, seen_operand, load_width, solving_rule, equates}
use Rattle.rept_rules.specs.Conclusions as rules
use Rattle.rept_rules.specs.Laws.ValueLemmas.{either_way, true≢false, same_some, no_some, destination, equal, forward_sound}
use Rattle.rept_rules.specs.Laws.SolveLemmas.{neutral_is, copied_is, solve_sound}

-- the conclusion holds
abbrev pub InferredHolds : State → State → Conclusion → Type 0
InferredHolds before after d = held (state_at before after d.when) d.cell ≡ d.value

pub says_holds : (before after : State) (d : Conclusion) (rule : ℕ) (when : When) (r v : ℕ) → IsOnRegister d rule when r v → (state_at before after when).register r ≡ v → InferredHolds before after d
says_holds before after d rule when r v says h = subst (λ (x : Conclusion). InferredHolds before after x) (sym says.is) h

byte_holds : (before after : State) (d : Conclusion) (rule : ℕ) (when : When) (base v k : ℕ) → d ≡ on_byte rule when base v k → (state_at before after when).memory (beside base k) ≡ byte_of v k → InferredHolds before after d
byte_holds before after d rule when base v k is h = subst (λ (x : Conclusion). InferredHolds before after x) (sym is) h

admitted : (x : Option ℕ) (v : ℕ) → ((w : ℕ) → x ≡ Some w → v ≡ w) → Admits (flat x) v
admitted None v h = tt
admitted (Some w) v h = h w refl

seen_holds : (view : Seen) (before after : State) (o : Option ℕ) → Meets view before after → HoldsIn before o (seen_operand view o)
seen_holds view before after None meets = tt
seen_holds view before after (Some r) meets = admitted (view.register Before r) (before.register r) (λ w e. meets.register Before r w e)

admits_known : (x : Flat) (v w : ℕ) → x ≡ Known w → Admits x v → v ≡ w
admits_known x v w e h = let g : Admits (Known w) v = subst (λ (y : Flat). Admits y v) e h in g

pub over_none : (r : ℕ) → 0 < r → r ≢ 0
over_none r h e = omega (arith, h, e)

-- a load reads its bytes alone
loaded_same : (op : LoadOp) (m n : ℕ → ℕ) (base : ℕ) → ((k : ℕ) → k < load_width op → m (beside base k) ≡ n (beside base k)) → loaded op m base ≡ loaded op n base
loaded_same Lb m n base h = ap (extended 8) (h 0 (lit< tt))
loaded_same Lh m n base h = let p = h 0 (lit< tt) in let q = h 1 (lit< tt) in rw (p, q) refl
loaded_same Lw m n base h = let p = h 0 (lit< tt) in let q = h 1 (lit< tt) in let r = h 2 (lit< tt) in let s = h 3 (lit< tt) in rw (p, q, r, s) refl
loaded_same Lbu m n base h = h 0 (lit< tt)
loaded_same Lhu m n base h = let p = h 0 (lit< tt) in let q = h 1 (lit< tt) in rw (p, q) refl

extended_low : (x : ℕ) → x < 2 ^ 8 → x ≡ extended 8 x % 2 ^ 8
extended_low x small = elim (either_way (nat_lt x (2 ^ (8 - 1)))) [
  | inl t ↦ rw t (omega arith)
  | inr f ↦ rw f (omega arith)
]

extended_first : (x y : ℕ) → x < 2 ^ 8 → y < 2 ^ 8 → x ≡ extended 16 (x + 2 ^ 8 * y) % 2 ^ 8
extended_first x y small fits = elim (either_way (nat_lt (x + 2 ^ 8 * y) (2 ^ (16 - 1)))) [
  | inl t ↦ rw t (omega arith)
  | inr f ↦ rw f (omega arith)
]

extended_second : (x y : ℕ) → x < 2 ^ 8 → y < 2 ^ 8 → y ≡ extended 16 (x + 2 ^ 8 * y) / 2 ^ 8 % 2 ^ 8
extended_second x y small fits = elim (either_way (nat_lt (x + 2 ^ 8 * y) (2 ^ (16 - 1)))) [
  | inl t ↦ rw t (omega arith)
  | inr f ↦ rw f (omega arith)
]

-- the low bytes of what it reads are its bytes
pub byte_back : (op : LoadOp) (m : ℕ → ℕ) (base k : ℕ) → ((a : ℕ) → m a < 2 ^ 8) → k < load_width op → m (beside base k) ≡ byte_of (loaded op m base) k
byte_back Lb m base zero small below = let p = small (beside base 0) in extended_low (m (beside base 0)) p ∙ omega arith
byte_back Lh m base zero small below = let p = small (beside base 0) in let q = small (beside base 1) in extended_first (m (beside base 0)) (m (beside base 1)) p q ∙ omega arith
byte_back Lh m base (suc zero) small below = let p = small (beside base 0) in let q = small (beside base 1) in extended_second (m (beside base 0)) (m (beside base 1)) p q
byte_back Lw m base zero small below = let p = small (beside base 0) in let q = small (beside base 1) in let r = small (beside base 2) in let s = small (beside base 3) in omega arith
byte_back Lw m base (suc zero) small below = let p = small (beside base 0) in let q = small (beside base 1) in let r = small (beside base 2) in let s = small (beside base 3) in omega arith
byte_back Lw m base (suc (suc zero)) small below = let p = small (beside base 0) in let q = small (beside base 1) in let r = small (beside base 2) in let s = small (beside base 3) in omega arith
byte_back Lw m base (suc (suc (suc zero))) small below = let p = small (beside base 0) in let q = small (beside base 1) in let r = small (beside base 2) in let s = small (beside base 3) in omega arith
byte_back Lbu m base zero small below = let p = small (beside base 0) in omega arith
byte_back Lhu m base zero small below = let p = small (beside base 0) in let q = small (beside base 1) in omega arith
byte_back Lhu m base (suc zero) small below = let p = small (beside base 0) in let q = small (beside base 1) in omega arith
byte_back _ m base k small below = absurd (omega (arith, below))

-- a word is made of its bytes
pub word_back : (w : ℕ) → w < 2 ^ 32 → byte_of w 0 + 2 ^ 8 * byte_of w 1 + 2 ^ 16 * byte_of w 2 + 2 ^ 24 * byte_of w 3 ≡ w
word_back w small = omega arith

pub word_at_is : (m n : ℕ → ℕ) (base w : ℕ) → w < 2 ^ 32 → ((k : ℕ) → k < 4 → m (beside base k) ≡ n (beside base k)) → ((k : ℕ) → k < 4 → m (beside base k) ≡ byte_of w k) → w ≡ word_at n base
word_at_is m n base w small same bytes =
    let p = sym (bytes 0 (lit< tt)) ∙ same 0 (lit< tt) in
    let q = sym (bytes 1 (lit< tt)) ∙ same 1 (lit< tt) in
    let r = sym (bytes 2 (lit< tt)) ∙ same 2 (lit< tt) in
    let s = sym (bytes 3 (lit< tt)) ∙ same 3 (lit< tt) in
    sym (word_back w small) ∙ rw (p, q, r, s) refl

equates_is : (op : BranchOp) (turn : Turn) → equates op turn ≡ true → ((op ≡ Beq) × (turn ≡ Taken)) ⊎ ((op ≡ Bne) × (turn ≡ NotTaken))
equates_is Beq Taken t = inl (refl, refl)
equates_is Bne NotTaken t = inr (refl, refl)
equates_is _ _ t = absurd (true≢false (sym t))

equal_not : (a b : ℕ) → not (a == b) ≡ false → a ≡ b
equal_not a b e = elim (either_way (a == b)) [ inl t ↦ equal a b t | inr f ↦ absurd (true≢false (rw f at e)) ]

-- a branch that went the way of equal operands had equal ones
went_equal : (op : BranchOp) (from target next a b : ℕ) → next ≡ (if branch_holds op a b then target else following from) → equates op (way from target next) ≡ true → a ≡ b
went_equal op from target next a b effect t =
    let tells : TurnTells (way from target next) (branch_holds op a b) = way_tells (branch_holds op a b) from target next effect in
    elim (equates_is op (way from target next) t) [
      | inl (is, went) ↦
          let holds : branch_holds op a b ≡ true = subst (λ (w : Turn). TurnTells w (branch_holds op a b)) went tells in
          equal a b (subst (λ (o : BranchOp). branch_holds o a b ≡ true) is holds)
      | inr (is, went) ↦
          let fails : branch_holds op a b ≡ false = subst (λ (w : Turn). TurnTells w (branch_holds op a b)) went tells in
          equal_not a b (subst (λ (o : BranchOp). branch_holds o a b ≡ false) is fails)
    ]

copied_sound : (instr : Instr) (image_end rd source : ℕ) (place : Addresses) (s t : State) → IsState s → HasEffect instr image_end place s t → written_by instr ≡ Some rd → copied instr ≡ Some source → t.register rd ≡ s.register source
copied_sound (Imm op n rs1 imm) image_end rd source place s t is h named from = elim (either_way (is_neutral op imm)) [
  | inl u ↦
      let d = destination n rd named in
      let same = same_some (rw u at from) in
      ap t.register (sym d.0) ∙ h.result.written d.1 ∙ neutral_is op imm (s.register rs1) (is.words rs1) u ∙ ap s.register same
  | inr f ↦ absurd (no_some (rw f at from))
]
copied_sound (Op op n rs1 rs2) image_end rd source place s t is h named from =
    let d = destination n rd named in
    ap t.register (sym d.0) ∙ h.result.written d.1 ∙ copied_is op rs1 rs2 source s is from
copied_sound _ image_end rd source place s t is h named from = absurd (no_some from)

-- the effect of the row's instruction
effect : (instr : Instr) (image_end : ℕ) (row : StepRow) (s t : State) → row.instr ≡ instr → IsStep image_end row s t → HasEffect instr image_end (addresses_of row) s t
effect instr image_end row s t is h = subst (λ (i : Instr). HasEffect i image_end (addresses_of row) s t) is h

same_operands : (op : BranchOp) (rs1 rs2 : ℕ) (imm : ℤ) (image_end : ℕ) (row : StepRow) (s t : State) → row.instr ≡ Branch op rs1 rs2 imm → equates op (turn_of row) ≡ true → IsStep image_end row s t → s.register rs1 ≡ s.register rs2
same_operands op rs1 rs2 imm image_end row s t is way step =
    let h = effect (Branch op rs1 rs2 imm) image_end row s t is step in
    went_equal op (from_of row) (plus row.at imm) row.next (s.register rs1) (s.register rs2) h.onward (sym (ap (λ (i : Instr). equates op (turn_by i (addresses_of row))) is) ∙ way)

pub sound_by : (image_end : ℕ) (row : StepRow) (view : Seen) (before after : State) (d : Conclusion) → IsSeenStep image_end row view before after → ConcludesByRow row view d → InferredHolds before after d
sound_by image_end row view before after d step (rules.result rd v named value says) =
    says_holds before after d 7 After rd v says (admits_known _ (after.register rd) v value (forward_sound row.instr image_end rd (addresses_of row) before after _ _ step.state_before step.step (seen_holds view before after (first_read row.instr) step.meets) (seen_holds view before after (second_read row.instr) step.meets) named))
sound_by image_end row view before after d step (rules.load op rd rs1 imm b memory is base bytes says) =
    let h = effect (Load op rd rs1 imm) image_end row before after is step.step in
    let e = step.meets.register Before rs1 b base in
    let here = h.result.written (over_none rd says.named) in
    says_holds before after d 8 After rd _ says (here ∙ ap (λ (x : ℕ). loaded op before.memory (plus x imm)) e ∙ loaded_same op before.memory memory (plus b imm) (λ k below. step.meets.byte Before _ _ (bytes k below)))
sound_by image_end row view before after d step (rules.store op rs1 rs2 imm b v k is base value below e) =
    let h = effect (Store op rs1 rs2 imm) image_end row before after is step.step in
    byte_holds before after d 9 After (plus b imm) v k e (subst (λ (x : ℕ). after.memory (beside (plus x imm) k) ≡ byte_of v k) (step.meets.register Before rs1 b base) (h.written k below ∙ ap (λ (x : ℕ). byte_of x k) (step.meets.register Before rs2 v value)))
sound_by image_end row view before after d step (rules.solved rule rd r v w side by named read value solved says) =
    says_holds before after d rule Before r w says (solve_sound row.instr side image_end (addresses_of row) rd r v w _ before after step.state_before step.step named (step.meets.register After rd v value) read (seen_holds view before after (operand_of row.instr (opposite side)) step.meets) solved)
sound_by image_end row view before after d step (rules.equal_second op rs1 rs2 imm v is way value says) =
    says_holds before after d 14 Before rs2 v says (sym (same_operands op rs1 rs2 imm image_end row before after is way step.step) ∙ step.meets.register Before rs1 v value)
sound_by image_end row view before after d step (rules.equal_first op rs1 rs2 imm v is way value says) =
    says_holds before after d 14 Before rs1 v says (same_operands op rs1 rs2 imm image_end row before after is way step.step ∙ step.meets.register Before rs2 v value)
sound_by image_end row view before after d step (rules.load_back op rd rs1 imm b v k is named base value below e) =
    let h = effect (Load op rd rs1 imm) image_end row before after is step.step in
    let dest = destination rd rd (sym (ap written_by is) ∙ named) in
    let v_is : loaded op before.memory (plus (before.register rs1) imm) ≡ v = sym (h.result.written dest.1) ∙ step.meets.register After rd v value in
    byte_holds before after d 15 Before (plus b imm) v k e (subst (λ (x : ℕ). before.memory (beside (plus x imm) k) ≡ byte_of v k) (step.meets.register Before rs1 b base) (byte_back op before.memory (plus (before.register rs1) imm) k step.state_before.bytes below ∙ ap (λ (x : ℕ). byte_of x k) v_is))
sound_by image_end row view before after d step (rules.store_back rs1 rs2 imm b memory is base bytes says) =
    let h = effect (Store Sw rs1 rs2 imm) image_end row before after is step.step in
    let e = step.meets.register Before rs1 b base in
    says_holds before after d 16 Before rs2 _ says (word_at_is after.memory memory (plus b imm) (before.register rs2) (step.state_before.words rs2) (λ k below. step.meets.byte After _ _ (bytes k below)) (λ k below. subst (λ (x : ℕ). after.memory (beside (plus x imm) k) ≡ byte_of (before.register rs2) k) e (h.written k below)))
sound_by image_end row view before after d step (rules.copy rd source v named from value says) =
    says_holds before after d 18 After rd v says (copied_sound row.instr image_end rd source (addresses_of row) before after step.state_before step.step named from ∙ step.meets.register Before source v value)
sound_by image_end row view before after d step (rules.copy_back rd source v named from value says) =
    says_holds before after d 18 Before source v says (sym (copied_sound row.instr image_end rd source (addresses_of row) before after step.state_before step.step named from) ∙ step.meets.register After rd v value)
