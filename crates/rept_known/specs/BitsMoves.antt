-- Known bits keep the laws of sets that instructions change.
use Rattle.std.proofs.Common.{◌≡◌, ◌≢◌, ℕ, ◌-◌, ◌*◌, ◌/◌, ◌%◌, ◌^◌, ◌<◌, ◌≤◌, ◌⊎◌, Bool, true, false, not, Option, Some, None, inl, inr, refl, sym, ap, subst, ◌∙◌, arith, lit<}
use Rattle.std.specs.Prelude.{◌==◌, nat_lt, if◌then◌else◌}
use Rattle.std.specs.Int.{bit_at, int_shr}
use Rattle.std.proofs.lemmas.Nat.Bits.{bit_at-zero, bit_at_ones, bit_at_above, same_from_bits_below}
use Rattle.std.proofs.lemmas.Bool.{cases_eq, cases_lt, eq-eqb, ne_eqb, eqb-true}
use Rattle.std.specs.Prelude.{bit_and}
use Rattle.rept_isa.specs.declared.instr.Instr.{Instr}
use Rattle.rept_isa.specs.declared.instr.Instr.TheVariants.{Lui, Auipc, Jal, Jalr, Branch, Load, Imm, Op}
use Rattle.rept_isa.specs.declared.instr.RegOp.{RegOp}
use Rattle.rept_isa.specs.declared.instr.RegOp.TheVariants.{Add, Sub, Sll, Slt, Sltu, Xor, Srl, Sra, Or, And, Mul, Mulh, Mulhsu, Mulhu, Div, Divu, Rem, Remu}
use Rattle.rept_isa.specs.declared.instr.LoadOp.{LoadOp}
use Rattle.rept_isa.specs.declared.instr.LoadOp.TheVariants.{Lb, Lh, Lw, Lbu, Lhu}
use Rattle.rept_isa.specs.declared.instr.BranchOp.{BranchOp}
use Rattle.rept_isa.specs.declared.instr.BranchOp.TheVariants.{Beq, Bne, Blt, Bge, Bltu, Bgeu}
use Rattle.rept_isa.specs.declared.row.StepRow.{StepRow}
use Rattle.rept_isa.specs.declared.class.Turn.{Turn}
use Rattle.rept_isa.specs.declared.class.Turn.TheVariants.{Taken, NotTaken, Either, NoBranch}
use Rattle.rept_isa.specs.Numbers.{plus, following, beside}
use Rattle.rept_isa.specs.Numbers as numbers
use Rattle.rept_isa.specs.Operands.{written_by, unless_zero, first_read, second_read, turn_of, turn_by}
use Rattle.rept_isa.specs.Rows.{Addresses, from_of, addresses_of}
use Rattle.rept_machine.specs.Arithmetic.{computed, computed_imm, register_form, branch_holds, loaded, signed_word, below_signed}
use Rattle.rept_machine.specs.State.{State, IsState}
use Rattle.rept_machine.specs.Step.{HasEffect}
use Rattle.rept_machine.specs.Ways.{TurnTells, way_tells}
use Rattle.rept_partial.specs.Sets.{IsWithin}
use Rattle.rept_partial.specs.Ranges.{word}
use Rattle.rept_span.specs.Laws.RangeBounds.{word_small}
use Rattle.rept_span.specs.Laws.RangeMoves.{named_target}
use Rattle.rept_span.specs.Moves.{Moves, CoversOperand, StepsFrom, AreWithin, AreMoves}
use Rattle.rept_known.specs.declared.bits.Bits.{Bits}
use Rattle.rept_known.specs.Masks.{bit_of_word}
use Rattle.rept_known.specs.Bits.{bits_has, bits_meet, bits_sets}
use Rattle.rept_known.specs.Laws.BitsLaws.{Agrees, KnowsAll, value_small, loose_small, has_parts, has_agrees, agrees_has, within_knows, knows_within, in_outside, all_agree, one_agrees, bits_lawful}
use Rattle.rept_known.specs.Operations.{all_open, all_known, low_open, amount, operation_bits, loaded_bits, applied_bits, tells_equal, with_both, left_bits, narrowed_bits}
use Rattle.rept_known.specs.Laws.Sums.{sum_covers, sum_knows, difference_covers, difference_knows}
use Rattle.rept_known.specs.Laws.Selected.{moved_covers, moved_knows, left_moves, right_moves, sign_moves}
use Rattle.rept_known.specs.Laws.Joined.{and_covers, and_knows, or_covers, or_knows, xor_covers, xor_knows}

abbrev pub bits_moves : Moves Bits
bits_moves = record { apply = λ instr address a b. applied_bits instr address a b; narrow = λ row a b. narrowed_bits row a b; note = λ a. Some (2 ^ 32 - 1 - a.loose, a.value) }

zero_one : (n : ℕ) → n ≡ 0 → n ≡ 1 → ⊥
zero_one n e f = omega arith

-- ---- covering
pub low_agrees : (k n : ℕ) → k ≤ 32 → n < 2 ^ k → n < 2 ^ 32 → Agrees (low_open k) n
low_agrees k n le small word = in_outside 0 (2 ^ k - 1) n word bit
  where
    bit : (i : ℕ) → i < 32 → bit_at (2 ^ k - 1) i ≡ 0 → bit_at n i ≡ bit_at 0 i
    bit i l e = elim (cases_lt i k) [
      | inl lt ↦ absurd (zero_one (bit_at (2 ^ k - 1) i) e (bit_at_ones k i lt))
      | inr ge ↦ bit_at_above n k i small ge ∙ sym (bit_at-zero i)
    ]

truth_agrees : (t : Bool) → Agrees (low_open 1) (if t then 1 else 0)
truth_agrees true = low_agrees 1 1 (omega arith) (lit< tt) (lit< tt)
truth_agrees false = low_agrees 1 0 (omega arith) (lit< tt) (lit< tt)

amount_one : (b : Bits) → b.loose ≡ 0 → amount b ≡ Some (b.value % 32)
amount_one b e = rw (eq-eqb b.loose 0 e) refl

amount_many : (b : Bits) → (b.loose ≡ 0 → ⊥) → amount b ≡ None
amount_many b ne = rw (ne_eqb b.loose 0 ne) refl

no_bit : (n i : ℕ) → n ≡ 0 → bit_at n i ≡ 0
no_bit n i e = ap (λ m. bit_at m i) e ∙ bit_at-zero i

is_one : (b : Bits) (y : ℕ) → Agrees b y → b.loose ≡ 0 → y ≡ b.value
is_one b y h e = same_from_bits_below 32 y b.value h.small (value_small b) (λ i l. h.same i l (no_bit b.loose i e))

-- five bits of five bits are these
five_bits : (x y : ℕ) → computed Sra x y ≡ computed Sra x (y % 32)
five_bits x y = let e : y % 32 ≡ y % 32 % 32 = omega arith in ap (λ m. numbers.word (int_shr (signed_word x) m)) e

below_32 : (n : ℕ) → n % 32 < 32
below_32 n = omega arith

left_shift_covers : (a b : Bits) (x y : ℕ) → Agrees a x → Agrees b y → Agrees (operation_bits Sll a b) (computed Sll x y)
left_shift_covers a b x y h k = elim (cases_eq b.loose 0) [
  | inl e ↦ rw (amount_one b e, is_one b y k e) (moved_covers (λ v. word (v * 2 ^ (b.value % 32))) (left_moves (b.value % 32)) a x h)
  | inr ne ↦ rw (amount_many b ne) (all_agree (computed Sll x y) (omega arith))
]

right_shift_covers : (a b : Bits) (x y : ℕ) → computed Srl x y < 2 ^ 32 → Agrees a x → Agrees b y → Agrees (operation_bits Srl a b) (computed Srl x y)
right_shift_covers a b x y small h k = elim (cases_eq b.loose 0) [
  | inl e ↦ rw (amount_one b e, is_one b y k e) (moved_covers (λ v. v / 2 ^ (b.value % 32)) (right_moves (b.value % 32)) a x h)
  | inr ne ↦ rw (amount_many b ne) (all_agree (computed Srl x y) small)
]

signed_shift_covers : (a b : Bits) (x y : ℕ) → computed Sra x y < 2 ^ 32 → Agrees a x → Agrees b y → Agrees (operation_bits Sra a b) (computed Sra x y)
signed_shift_covers a b x y small h k = elim (cases_eq b.loose 0) [
  | inl e ↦ rw (amount_one b e, is_one b y k e, five_bits x b.value) (moved_covers (λ v. computed Sra v (b.value % 32)) (sign_moves (b.value % 32) (below_32 b.value)) a x h)
  | inr ne ↦ rw (amount_many b ne) (all_agree (computed Sra x y) small)
]

pub operation_covers : (op : RegOp) (a b : Bits) (x y : ℕ) → computed op x y < 2 ^ 32 → Agrees a x → Agrees b y → Agrees (operation_bits op a b) (computed op x y)
operation_covers Add a b x y small h k = sum_covers a b x y h k
operation_covers Sub a b x y small h k = difference_covers a b x y h k
operation_covers And a b x y small h k = and_covers a b x y h k
operation_covers Or a b x y small h k = or_covers a b x y h k
operation_covers Xor a b x y small h k = xor_covers a b x y h k
operation_covers Sll a b x y small h k = left_shift_covers a b x y h k
operation_covers Srl a b x y small h k = right_shift_covers a b x y small h k
operation_covers Sra a b x y small h k = signed_shift_covers a b x y small h k
operation_covers Slt a b x y small h k = truth_agrees (below_signed x y)
operation_covers Sltu a b x y small h k = truth_agrees (nat_lt x y)
operation_covers Mul a b x y small h k = all_agree (computed Mul x y) small
operation_covers Mulh a b x y small h k = all_agree (computed Mulh x y) small
operation_covers Mulhsu a b x y small h k = all_agree (computed Mulhsu x y) small
operation_covers Mulhu a b x y small h k = all_agree (computed Mulhu x y) small
operation_covers Div a b x y small h k = all_agree (computed Div x y) small
operation_covers Divu a b x y small h k = all_agree (computed Divu x y) small
operation_covers Rem a b x y small h k = all_agree (computed Rem x y) small
operation_covers Remu a b x y small h k = all_agree (computed Remu x y) small

-- the value that is written
written_agrees : (a : Bits) (s t : State) (rd r value : ℕ) → unless_zero rd ≡ Some r → (rd ≢ 0 → t.register rd ≡ value) → Agrees a value → Agrees a (t.register r)
written_agrees a s t rd r value w is h =
    let target = named_target rd r w in
    let e : value ≡ t.register r = sym (is target.0) ∙ ap (λ n. t.register n) target.1 in
    subst (λ (v : ℕ). Agrees a v) e h

written_small : (s t : State) (rd r value : ℕ) → IsState t → unless_zero rd ≡ Some r → (rd ≢ 0 → t.register rd ≡ value) → value < 2 ^ 32
written_small s t rd r value state w is = let target = named_target rd r w in let e = is target.0 in let small = state.words rd in omega arith

loaded_agrees : (op : LoadOp) (s : State) (base : ℕ) → IsState s → loaded op s.memory base < 2 ^ 32 → Agrees (loaded_bits op) (loaded op s.memory base)
loaded_agrees Lbu s base state small = let b = state.bytes (beside base 0) in low_agrees 8 (loaded Lbu s.memory base) (omega arith) (omega arith) small
loaded_agrees Lhu s base state small =
    let b = state.bytes (beside base 0) in
    let c = state.bytes (beside base 1) in
    low_agrees 16 (loaded Lhu s.memory base) (omega arith) (omega arith) small
loaded_agrees Lb s base state small = all_agree (loaded Lb s.memory base) small
loaded_agrees Lh s base state small = all_agree (loaded Lh s.memory base) small
loaded_agrees Lw s base state small = all_agree (loaded Lw s.memory base) small

covers_agrees : (a : Bits) (place : Option ℕ) (s : State) (r : ℕ) → CoversOperand bits_sets a place s → place ≡ Some r → Agrees a (s.register r)
covers_agrees a place s r c e = has_agrees a (s.register r) (c r e)

applied_covers : (instr : Instr) (image_end : ℕ) (place : Addresses) (s t : State) (a b : Bits) (r : ℕ) → IsState s → IsState t → HasEffect instr image_end place s t → CoversOperand bits_sets a (first_read instr) s → CoversOperand bits_sets b (second_read instr) s → written_by instr ≡ Some r → Agrees (applied_bits instr place.from a b) (t.register r)
applied_covers (Lui rd imm) image_end place s t a b r before after h x y w =
    let is = h.result.written in
    written_agrees _ s t rd r imm w is (one_agrees imm (written_small s t rd r imm after w is))
applied_covers (Auipc rd imm) image_end place s t a b r before after h x y w = written_agrees _ s t rd r (beside place.from imm) w h.result.written (one_agrees (beside place.from imm) (omega arith))
applied_covers (Jal rd imm) image_end place s t a b r before after h x y w = written_agrees _ s t rd r (following place.from) w h.link.written (one_agrees (following place.from) (omega arith))
applied_covers (Jalr rd rs1 imm) image_end place s t a b r before after h x y w = written_agrees _ s t rd r (following place.from) w h.link.written (one_agrees (following place.from) (omega arith))
applied_covers (Load op rd rs1 imm) image_end place s t a b r before after h x y w =
    let is = h.result.written in
    let value = loaded op s.memory (plus (s.register rs1) imm) in
    written_agrees _ s t rd r value w is (loaded_agrees op s (plus (s.register rs1) imm) before (written_small s t rd r value after w is))
applied_covers (Imm op rd rs1 imm) image_end place s t a b r before after h x y w =
    let is = h.result.written in
    let value = computed_imm op (s.register rs1) imm in
    written_agrees _ s t rd r value w is (operation_covers (register_form op) a (all_known (numbers.word imm)) (s.register rs1) (numbers.word imm) (written_small s t rd r value after w is) (covers_agrees a (Some rs1) s rs1 x refl) (one_agrees (numbers.word imm) (word_small imm)))
applied_covers (Op op rd rs1 rs2) image_end place s t a b r before after h x y w =
    let is = h.result.written in
    let value = computed op (s.register rs1) (s.register rs2) in
    written_agrees _ s t rd r value w is (operation_covers op a b (s.register rs1) (s.register rs2) (written_small s t rd r value after w is) (covers_agrees a (Some rs1) s rs1 x refl) (covers_agrees b (Some rs2) s rs2 y refl))
applied_covers _ image_end place s t a b r before after h x y w = all_agree (t.register r) (after.words r)

-- ---- smaller sets
knows_itself : (a : Bits) → KnowsAll a a
knows_itself a = record { known = λ i l e. e; same = λ i l e. refl }

knows_open : (a : Bits) → KnowsAll a all_open
knows_open a = record { known = λ i l e. absurd (none i l e); same = λ i l e. absurd (none i l e) }
  where
    none : (i : ℕ) → i < 32 → bit_at all_open.loose i ≡ 0 → ⊥
    none i l e = zero_one (bit_at all_open.loose i) e (bit_of_word 4294967295 i l ∙ bit_at_ones 32 i l)

-- what knows all that a single word knows is that word
still_one : (b b' : Bits) → KnowsAll b b' → b'.loose ≡ 0 → b.loose ≡ 0
still_one b b' k e = same_from_bits_below 32 b.loose 0 (loose_small b) (omega arith) (λ i l. k.known i l (no_bit b'.loose i e) ∙ sym (bit_at-zero i))

same_one : (b b' : Bits) → KnowsAll b b' → b'.loose ≡ 0 → b.value ≡ b'.value
same_one b b' k e = same_from_bits_below 32 b.value b'.value (value_small b) (value_small b') (λ i l. k.same i l (no_bit b'.loose i e))

left_shift_knows : (a a' b b' : Bits) → KnowsAll a a' → KnowsAll b b' → KnowsAll (operation_bits Sll a b) (operation_bits Sll a' b')
left_shift_knows a a' b b' h k = elim (cases_eq b'.loose 0) [
  | inl e ↦ rw (amount_one b (still_one b b' k e), amount_one b' e, same_one b b' k e) (moved_knows (λ v. word (v * 2 ^ (b'.value % 32))) (left_moves (b'.value % 32)) a a' h)
  | inr ne ↦ rw (amount_many b' ne) (knows_open (operation_bits Sll a b))
]

right_shift_knows : (a a' b b' : Bits) → KnowsAll a a' → KnowsAll b b' → KnowsAll (operation_bits Srl a b) (operation_bits Srl a' b')
right_shift_knows a a' b b' h k = elim (cases_eq b'.loose 0) [
  | inl e ↦ rw (amount_one b (still_one b b' k e), amount_one b' e, same_one b b' k e) (moved_knows (λ v. v / 2 ^ (b'.value % 32)) (right_moves (b'.value % 32)) a a' h)
  | inr ne ↦ rw (amount_many b' ne) (knows_open (operation_bits Srl a b))
]

signed_shift_knows : (a a' b b' : Bits) → KnowsAll a a' → KnowsAll b b' → KnowsAll (operation_bits Sra a b) (operation_bits Sra a' b')
signed_shift_knows a a' b b' h k = elim (cases_eq b'.loose 0) [
  | inl e ↦ rw (amount_one b (still_one b b' k e), amount_one b' e, same_one b b' k e) (moved_knows (λ v. computed Sra v (b'.value % 32)) (sign_moves (b'.value % 32) (below_32 b'.value)) a a' h)
  | inr ne ↦ rw (amount_many b' ne) (knows_open (operation_bits Sra a b))
]

pub operation_knows : (op : RegOp) (a a' b b' : Bits) → KnowsAll a a' → KnowsAll b b' → KnowsAll (operation_bits op a b) (operation_bits op a' b')
operation_knows Add a a' b b' h k = sum_knows a a' b b' h k
operation_knows Sub a a' b b' h k = difference_knows a a' b b' h k
operation_knows And a a' b b' h k = and_knows a a' b b' h k
operation_knows Or a a' b b' h k = or_knows a a' b b' h k
operation_knows Xor a a' b b' h k = xor_knows a a' b b' h k
operation_knows Sll a a' b b' h k = left_shift_knows a a' b b' h k
operation_knows Srl a a' b b' h k = right_shift_knows a a' b b' h k
operation_knows Sra a a' b b' h k = signed_shift_knows a a' b b' h k
operation_knows Slt a a' b b' h k = knows_itself (low_open 1)
operation_knows Sltu a a' b b' h k = knows_itself (low_open 1)
operation_knows Mul a a' b b' h k = knows_itself all_open
operation_knows Mulh a a' b b' h k = knows_itself all_open
operation_knows Mulhsu a a' b b' h k = knows_itself all_open
operation_knows Mulhu a a' b b' h k = knows_itself all_open
operation_knows Div a a' b b' h k = knows_itself all_open
operation_knows Divu a a' b b' h k = knows_itself all_open
operation_knows Rem a a' b b' h k = knows_itself all_open
operation_knows Remu a a' b b' h k = knows_itself all_open

pub applied_knows : (instr : Instr) (address : ℕ) (a a' b b' : Bits) → KnowsAll a a' → KnowsAll b b' → KnowsAll (applied_bits instr address a b) (applied_bits instr address a' b')
applied_knows (Lui rd imm) address a a' b b' h k = knows_itself (all_known imm)
applied_knows (Auipc rd imm) address a a' b b' h k = knows_itself (all_known (beside address imm))
applied_knows (Jal rd imm) address a a' b b' h k = knows_itself (all_known (following address))
applied_knows (Jalr rd rs1 imm) address a a' b b' h k = knows_itself (all_known (following address))
applied_knows (Load op rd rs1 imm) address a a' b b' h k = knows_itself (loaded_bits op)
applied_knows (Imm op rd rs1 imm) address a a' b b' h k = operation_knows (register_form op) a a' (all_known (numbers.word imm)) (all_known (numbers.word imm)) h (knows_itself (all_known (numbers.word imm)))
applied_knows (Op op rd rs1 rs2) address a a' b b' h k = operation_knows op a a' b b' h k
applied_knows _ address a a' b b' h k = knows_itself all_open

-- ---- equal operands
lies : false ≡ true → ⊥
lies e = cc

not_false : (b : Bool) → not b ≡ false → b ≡ true
not_false true e = refl
not_false false e = absurd (lies (sym e))

-- the operands of a branch whose way tells that they are equal
told_equal : (op : BranchOp) (x y : ℕ) (turn : Turn) → TurnTells turn (branch_holds op x y) → tells_equal op turn ≡ true → x ≡ y
told_equal Beq x y Taken told e = eqb-true x y told
told_equal Bne x y NotTaken told e = eqb-true x y (not_false (x == y) told)
told_equal Beq x y NotTaken told e = absurd (lies e)
told_equal Beq x y Either told e = absurd (lies e)
told_equal Beq x y NoBranch told e = absurd told
told_equal Bne x y Taken told e = absurd (lies e)
told_equal Bne x y Either told e = absurd (lies e)
told_equal Bne x y NoBranch told e = absurd told
told_equal Blt x y turn told e = absurd (lies e)
told_equal Bge x y turn told e = absurd (lies e)
told_equal Bltu x y turn told e = absurd (lies e)
told_equal Bgeu x y turn told e = absurd (lies e)

some_pair : {x y : Bits × Bits} → Some x ≡ Some y → x ≡ y
some_pair e = cc

no_pair : {x : Bits × Bits} → None ≡ Some x → ⊥
no_pair e = cc

some_number : {x y : ℕ} → Some x ≡ Some y → x ≡ y
some_number e = cc

meet_cases : (a b : Bits) → (bits_meet a b ≡ None) ⊎ ((c : Bits) × (bits_meet a b ≡ Some c))
meet_cases a b = elim (bits_meet a b) as (λ x. (x ≡ None) ⊎ ((c : Bits) × (x ≡ Some c))) [ None ↦ inl refl | Some c ↦ inr (c, refl) ]

-- what is left has the operands' values
record Leaves (left : Option (Bits × Bits)) (x y : ℕ) : Type 0 where
  pub pair : Bits × Bits
  pub is : left ≡ Some pair
  pub first : bits_has pair.0 x ≡ true
  pub second : bits_has pair.1 y ≡ true

all_left : (a b : Bits) (x y : ℕ) → bits_has a x ≡ true → bits_has b y ≡ true → Leaves (Some (a, b)) x y
all_left a b x y h k = record { pair = (a, b); is = refl; first = h; second = k }

equal_left : (a b : Bits) (x y : ℕ) → bits_has a x ≡ true → bits_has b y ≡ true → x ≡ y → Leaves (with_both (bits_meet a b)) x y
equal_left a b x y h k e =
    let k' : bits_has b x ≡ true = subst (λ (n : ℕ). bits_has b n ≡ true) (sym e) k in
    elim (meet_cases a b) [
      | inl none ↦ absurd (bits_lawful.meet_none a b x none h k')
      | inr (c, some) ↦
          let p = bits_lawful.meet_some a b c x some h k' in
          record { pair = (c, c); is = ap with_both some; first = p; second = subst (λ (n : ℕ). bits_has c n ≡ true) e p }
    ]

branch_left : (t : Bool) (a b : Bits) (x y : ℕ) → bits_has a x ≡ true → bits_has b y ≡ true → (t ≡ true → x ≡ y) → Leaves (if t then with_both (bits_meet a b) else Some (a, b)) x y
branch_left true a b x y h k e = equal_left a b x y h k (e refl)
branch_left false a b x y h k e = all_left a b x y h k

-- what is left covers the operands
record CoversLeft (left : Option (Bits × Bits)) (first second : Option ℕ) (s : State) : Type 0 where
  pub pair : Bits × Bits
  pub is : left ≡ Some pair
  pub one : CoversOperand bits_sets pair.0 first s
  pub two : CoversOperand bits_sets pair.1 second s

has_covers : (a : Bits) (s : State) (r : ℕ) → bits_has a (s.register r) ≡ true → CoversOperand bits_sets a (Some r) s
has_covers a s r h q e = subst (λ (n : ℕ). bits_has a (s.register n) ≡ true) (some_number e) h

left_covers : (instr : Instr) (image_end : ℕ) (place : Addresses) (s t : State) (a b : Bits) → HasEffect instr image_end place s t → CoversOperand bits_sets a (first_read instr) s → CoversOperand bits_sets b (second_read instr) s → CoversLeft (left_bits instr (turn_by instr place) a b) (first_read instr) (second_read instr) s
left_covers (Branch op rs1 rs2 imm) image_end place s t a b h x y =
    let turn = turn_by (Branch op rs1 rs2 imm) place in
    let kept = branch_left (tells_equal op turn) a b (s.register rs1) (s.register rs2) (x rs1 refl) (y rs2 refl) (told_equal op (s.register rs1) (s.register rs2) turn (way_tells (branch_holds op (s.register rs1) (s.register rs2)) place.from (plus place.at imm) place.next h.onward)) in
    record { pair = kept.pair; is = kept.is; one = has_covers kept.pair.0 s rs1 kept.first; two = has_covers kept.pair.1 s rs2 kept.second }
left_covers _ image_end place s t a b h x y = record { pair = (a, b); is = refl; one = x; two = y }

-- of smaller sets no more is left
abbrev LeavesNoMore : Option (Bits × Bits) → Option (Bits × Bits) → Type 0
LeavesNoMore left left' = (n : Bits × Bits) → left ≡ Some n → (n' : Bits × Bits) × (left' ≡ Some n') × AreWithin bits_sets n n'

all_no_more : (a a' b b' : Bits) → IsWithin bits_sets a a' → IsWithin bits_sets b b' → LeavesNoMore (Some (a, b)) (Some (a', b'))
all_no_more a a' b b' h k n e =
    let is : (a, b) ≡ n = some_pair e in
    ((a', b'), refl, record { first = rw (← is) h; second = rw (← is) k })

met_more : (a a' b b' c : Bits) → IsWithin bits_sets a a' → IsWithin bits_sets b b' → bits_meet a b ≡ Some c → (c' : Bits) × (bits_meet a' b' ≡ Some c') × IsWithin bits_sets c c'
met_more a a' b b' c h k e = elim (meet_cases a' b') [
  | inl none ↦
      let one = bits_lawful.some c in
      let parts = bits_lawful.meet_within a b c one.0 e one.1 in
      absurd (bits_lawful.meet_none a' b' one.0 none (h one.0 parts.0) (k one.0 parts.1))
  | inr (c', some) ↦ (c', some, λ v t. let parts = bits_lawful.meet_within a b c v e t in bits_lawful.meet_some a' b' c' v some (h v parts.0) (k v parts.1))
]

equal_no_more : (a a' b b' : Bits) → IsWithin bits_sets a a' → IsWithin bits_sets b b' → LeavesNoMore (with_both (bits_meet a b)) (with_both (bits_meet a' b'))
equal_no_more a a' b b' h k n e = elim (meet_cases a b) [
  | inl none ↦ absurd (no_pair (sym (ap with_both none) ∙ e))
  | inr (c, some) ↦
      let more = met_more a a' b b' c h k some in
      let is : (c, c) ≡ n = some_pair (sym (ap with_both some) ∙ e) in
      ((more.0, more.0), ap with_both more.1, record { first = rw (← is) more.2; second = rw (← is) more.2 })
]

branch_no_more : (t : Bool) (a a' b b' : Bits) → IsWithin bits_sets a a' → IsWithin bits_sets b b' → LeavesNoMore (if t then with_both (bits_meet a b) else Some (a, b)) (if t then with_both (bits_meet a' b') else Some (a', b'))
branch_no_more true a a' b b' h k = equal_no_more a a' b b' h k
branch_no_more false a a' b b' h k = all_no_more a a' b b' h k

left_no_more : (instr : Instr) (turn : Turn) (a a' b b' : Bits) → IsWithin bits_sets a a' → IsWithin bits_sets b b' → LeavesNoMore (left_bits instr turn a b) (left_bits instr turn a' b')
left_no_more (Branch op rs1 rs2 imm) turn a a' b b' h k = branch_no_more (tells_equal op turn) a a' b b' h k
left_no_more _ turn a a' b b' h k = all_no_more a a' b b' h k

covering : (row : StepRow) (a b : Bits) (image_end : ℕ) (s t : State) → StepsFrom bits_sets row a b image_end s t → (r : ℕ) → written_by row.instr ≡ Some r → bits_sets.has (bits_moves.apply row.instr (from_of row) a b) (t.register r) ≡ true
covering row a b image_end s t h r w = agrees_has (applied_bits row.instr (from_of row) a b) (t.register r) (applied_covers row.instr image_end (addresses_of row) s t a b r h.before h.after h.step h.first h.second w)

monotony : (instr : Instr) (address : ℕ) (a a' b b' : Bits) → IsWithin bits_sets a a' → IsWithin bits_sets b b' → IsWithin bits_sets (bits_moves.apply instr address a b) (bits_moves.apply instr address a' b')
monotony instr address a a' b b' h k = knows_within (applied_bits instr address a b) (applied_bits instr address a' b') (applied_knows instr address a a' b b' (within_knows a a' h) (within_knows b b' k))

narrowed : (row : StepRow) (a b : Bits) (image_end : ℕ) (s t : State) → StepsFrom bits_sets row a b image_end s t → (n : Bits × Bits) × (bits_moves.narrow row a b ≡ Some n) × StepsFrom bits_sets row n.0 n.1 image_end s t
narrowed row a b image_end s t h =
    let kept = left_covers row.instr image_end (addresses_of row) s t a b h.step h.first h.second in
    (kept.pair, kept.is, record { before = h.before; after = h.after; step = h.step; first = kept.one; second = kept.two })

narrower : (row : StepRow) (a a' b b' : Bits) (n : Bits × Bits) → IsWithin bits_sets a a' → IsWithin bits_sets b b' → bits_moves.narrow row a b ≡ Some n → (n' : Bits × Bits) × (bits_moves.narrow row a' b' ≡ Some n') × AreWithin bits_sets n n'
narrower row a a' b b' n h k e = left_no_more row.instr (turn_of row) a a' b b' h k n e

-- the known bits are those of each word
noted : (a : Bits) (n : ℕ × ℕ) → bits_moves.note a ≡ Some n → (v : ℕ) → bits_has a v ≡ true → bit_and v n.0 ≡ n.1
noted a n e v h = subst (λ (x : ℕ × ℕ). bit_and v x.0 ≡ x.1) (same_note e) ((has_parts a v h).1)
  where
    same_note : {x y : ℕ × ℕ} → Some x ≡ Some y → x ≡ y
    same_note e = cc

pub bits_covers : AreMoves bits_sets bits_moves
bits_covers = record { covering = covering; monotony = monotony; narrowed = narrowed; narrower = narrower; noted = noted }
