-- What instructions make of a range and known bits together: each part's, and what the two have in
-- common. These sets keep the laws of sets that instructions change.
use Rattle.std.proofs.Common.{◌≡◌, ◌≢◌, ℕ, ◌%◌, ◌^◌, ◌<◌, ◌⊎◌, Bool, true, false, Option, Some, None, inl, inr, refl, sym, ap, subst, ◌∙◌, arith, lit<}
use Rattle.std.specs.Prelude.{ℤ, ◌==◌, nat_lt, if◌then◌else◌}
use Rattle.std.proofs.lemmas.Nat.{and_le_l, or_lt, xor_lt, shr_le}
use Rattle.std.proofs.Math.Nat.{div-le_self, mod-le}
use Rattle.std.specs.Prelude.{bit_and}
use Rattle.rept_isa.specs.declared.instr.Instr.{Instr}
use Rattle.rept_isa.specs.declared.instr.Instr.TheVariants.{Lui, Auipc, Jal, Jalr, Branch, Load, Imm, Op}
use Rattle.rept_isa.specs.declared.instr.RegOp.{RegOp}
use Rattle.rept_isa.specs.declared.instr.RegOp.TheVariants.{Add, Sub, Sll, Slt, Sltu, Xor, Srl, Sra, Or, And, Mul, Mulh, Mulhsu, Mulhu, Div, Divu, Rem, Remu}
use Rattle.rept_isa.specs.declared.instr.ImmOp.{ImmOp}
use Rattle.rept_isa.specs.declared.instr.ImmOp.TheVariants.{Addi, Slti, Sltiu, Xori, Ori, Andi, Slli, Srli, Srai}
use Rattle.rept_isa.specs.declared.instr.LoadOp.{LoadOp}
use Rattle.rept_isa.specs.declared.instr.LoadOp.TheVariants.{Lb, Lh, Lw, Lbu, Lhu}
use Rattle.rept_isa.specs.declared.row.StepRow.{StepRow}
use Rattle.rept_isa.specs.Numbers.{following, beside}
use Rattle.rept_isa.specs.Numbers as numbers
use Rattle.rept_isa.specs.Operands.{written_by, first_read, second_read}
use Rattle.rept_isa.specs.Rows.{from_of}
use Rattle.rept_machine.specs.Arithmetic.{computed, computed_imm, register_form, below_signed}
use Rattle.rept_machine.specs.State.{State}
use Rattle.rept_partial.specs.declared.range.Range.{Range}
use Rattle.rept_partial.specs.Sets.{IsWithin}
use Rattle.rept_partial.specs.Ranges.{range_has, range_sets, word}
use Rattle.rept_span.specs.Tables.{full, applied_range, operation_range, immediate_range, loaded_range, narrowed_range}
use Rattle.rept_span.specs.Laws.RangeBounds.{IsIn, in_has, in_from_to, in_full, in_one, word_small, shifted_small}
use Rattle.rept_span.specs.Laws.RangeCovering.{upper_small}
use Rattle.rept_span.specs.Laws.RangeCovering as ranges
use Rattle.rept_span.specs.Laws.RangeMoves.{range_covers}
use Rattle.rept_span.specs.Moves.{Moves, CoversOperand, StepsFrom, AreWithin, AreMoves}
use Rattle.rept_known.specs.declared.bits.Bits.{Bits}
use Rattle.rept_known.specs.declared.both.Both.{Both}
use Rattle.rept_known.specs.Masks.{bit_of_word}
use Rattle.rept_known.specs.Bits.{bits_has, bits_sets}
use Rattle.rept_known.specs.Laws.BitsLaws.{Agrees, has_agrees, agrees_has, in_outside, all_agree, one_agrees}
use Rattle.rept_known.specs.Operations.{all_open, all_known, operation_bits, loaded_bits, applied_bits, narrowed_bits}
use Rattle.rept_known.specs.BitsMoves.{bits_moves, bits_covers, low_agrees}
use Rattle.rept_known.specs.BitsMoves as bits
use Rattle.rept_known.specs.Both.{both_has, whole, reduced, both_sets}
use Rattle.rept_known.specs.Laws.BothLaws.{both_parts, lowest_has, reduced_common, reduced_none, range_within, bits_within}

-- a set that isn't empty; the other case doesn't come
abbrev pub or_all : Option Both → Both
or_all None = whole all_open
or_all (Some a) = a

-- what an instruction can put into its register
abbrev pub applied_both : Instr → ℕ → Both → Both → Both
applied_both instr address a b = or_all (reduced (applied_range instr address a.range b.range) (applied_bits instr address a.bits b.bits))

abbrev pub pair_of : Option Both → Option Both → Option (Both × Both)
pair_of (Some a) (Some b) = Some (a, b)
pair_of (Some a) None = None
pair_of None b = None

-- two sets of common words, where both parts have left something
abbrev pub both_common : Option (Range × Range) → Option (Bits × Bits) → Option (Both × Both)
both_common (Some r) (Some b) = pair_of (reduced r.0 b.0) (reduced r.1 b.1)
both_common (Some r) None = None
both_common None b = None

abbrev pub with_second : Both → Option Both → Option (Both × Both)
with_second b None = None
with_second b (Some a) = Some (a, b)

-- the same, where only the first operand's range is cut
abbrev pub first_common : Option (Range × Range) → Both → Both → Option (Both × Both)
first_common (Some r) a b = with_second b (reduced r.0 a.bits)
first_common None a b = None

-- what an instruction leaves of both parts of its operands: of a branch what both parts leave, of a
-- JALR what its range leaves of the base, and of any other all
abbrev pub left_both : Instr → Option (Range × Range) → Option (Bits × Bits) → Both → Both → Option (Both × Both)
left_both (Branch op rs1 rs2 imm) r k a b = both_common r k
left_both (Jalr rd rs1 imm) r k a b = first_common r a b
left_both _ r k a b = Some (a, b)

-- what a row leaves of its operands
abbrev pub narrowed_both : StepRow → Both → Both → Option (Both × Both)
narrowed_both row a b = left_both row.instr (narrowed_range row a.range b.range) (narrowed_bits row a.bits b.bits) a b

abbrev pub both_moves : Moves Both
both_moves = record { apply = λ instr address a b. applied_both instr address a b; narrow = λ row a b. narrowed_both row a b; note = λ a. bits_moves.note a.bits }

pub reduced_cases : (r : Range) (b : Bits) → (reduced r b ≡ None) ⊎ ((c : Both) × (reduced r b ≡ Some c))
reduced_cases r b = elim (reduced r b) as (λ x. (x ≡ None) ⊎ ((c : Both) × (x ≡ Some c))) [ None ↦ inl refl | Some c ↦ inr (c, refl) ]

-- a common word of both parts is in what is made of them
made_has : (r : Range) (b : Bits) (v : ℕ) → range_has r v ≡ true → bits_has b v ≡ true → both_has (or_all (reduced r b)) v ≡ true
made_has r b v p q = elim (reduced_cases r b) [
  | inl none ↦ absurd (reduced_none r b none v p q)
  | inr (c, some) ↦ rw some ((reduced_common r b c some).into v p q)
]

made_within : (r r' : Range) (b b' : Bits) (v : ℕ) → range_has r v ≡ true → bits_has b v ≡ true → IsWithin range_sets r r' → IsWithin bits_sets b b' → IsWithin both_sets (or_all (reduced r b)) (or_all (reduced r' b'))
made_within r r' b b' v p q h k u t = elim (reduced_cases r b) [
  | inl none ↦ absurd (reduced_none r b none v p q)
  | inr (c, some) ↦
      let parts = (reduced_common r b c some).out u (rw some at t) in
      made_has r' b' u (h u parts.0) (k u parts.1)
]

-- ---- there is a common word
pub record Common (r : Range) (b : Bits) : Type 0 where
  pub value : ℕ
  pub in_range : range_has r value ≡ true
  pub in_bits : bits_has b value ≡ true

common : (r : Range) (b : Bits) (v : ℕ) → IsIn r v → Agrees b v → Common r b
common r b v p q = record { value = v; in_range = in_has r v p; in_bits = agrees_has b v q }

any_common : Common full all_open
any_common = common full all_open 0 (in_full 0 (lit< tt)) (all_agree 0 (lit< tt))

word_common : (v : ℕ) → v < 2 ^ 32 → Common (applied_range (Lui 0 v) 0 full full) (all_known v)
word_common v s = common (applied_range (Lui 0 v) 0 full full) (all_known v) v (in_one v s) (one_agrees v s)

any_word_common : (v : ℕ) → Common (applied_range (Lui 0 v) 0 full full) (all_known v)
any_word_common v = common (applied_range (Lui 0 v) 0 full full) (all_known v) (word v) (record { low = omega arith; high = omega arith }) (in_outside v 0 (word v) (omega arith) (λ i l e. bit_of_word v i l))

load_common : (op : LoadOp) → Common (loaded_range op) (loaded_bits op)
load_common Lbu = common (loaded_range Lbu) (loaded_bits Lbu) 0 (in_from_to 0 255 0 (omega arith) (omega arith) (lit< tt)) (low_agrees 8 0 (omega arith) (lit< tt) (lit< tt))
load_common Lhu = common (loaded_range Lhu) (loaded_bits Lhu) 0 (in_from_to 0 65535 0 (omega arith) (omega arith) (lit< tt)) (low_agrees 16 0 (omega arith) (lit< tt) (lit< tt))
load_common Lb = any_common
load_common Lh = any_common
load_common Lw = any_common

truth_small : (t : Bool) → (if t then 1 else 0) < 2 ^ 32
truth_small true = lit< tt
truth_small false = lit< tt

if_small : (t : Bool) (x y : ℕ) → x < 2 ^ 32 → y < 2 ^ 32 → (if t then x else y) < 2 ^ 32
if_small true x y s t = s
if_small false x y s t = t

in_word : (a : Both) → a.range.lo < 2 ^ 32
in_word a = let o = a.range.ordered in let s = a.range.small in omega arith

lowest_in : (a : Both) → IsIn a.range a.range.lo
lowest_in a = record { low = omega arith; high = a.range.ordered }

by_value : (op : RegOp) (a b : Both) → computed op a.range.lo b.range.lo < 2 ^ 32 → Common (operation_range op a.range b.range) (operation_bits op a.bits b.bits)
by_value op a b small =
    common (operation_range op a.range b.range) (operation_bits op a.bits b.bits) (computed op a.range.lo b.range.lo)
    (ranges.operation_covers op a.range b.range a.range.lo b.range.lo (lowest_in a) (lowest_in b) small)
    (bits.operation_covers op a.bits b.bits a.range.lo b.range.lo small (has_agrees a.bits a.range.lo a.least) (has_agrees b.bits b.range.lo b.least))

-- the results of operations are words
computed_small : (op : RegOp) (x y : ℕ) → op ≢ Mulh → op ≢ Mulhsu → x < 2 ^ 32 → y < 2 ^ 32 → computed op x y < 2 ^ 32
computed_small Add x y m n s t = omega arith
computed_small Sub x y m n s t = omega arith
computed_small Sll x y m n s t = omega arith
computed_small Slt x y m n s t = truth_small (below_signed x y)
computed_small Sltu x y m n s t = truth_small (nat_lt x y)
computed_small Xor x y m n s t = xor_lt 32 x y s t
computed_small Srl x y m n s t = let d = shr_le x (y % 32) in omega (arith, d)
computed_small Sra x y m n s t = shifted_small x y
computed_small Or x y m n s t = or_lt 32 x y s t
computed_small And x y m n s t = let l = and_le_l x y in omega (arith, l)
computed_small Mul x y m n s t = omega arith
computed_small Mulh x y m n s t = absurd (m refl)
computed_small Mulhsu x y m n s t = absurd (n refl)
computed_small Mulhu x y m n s t = upper_small x y s t
computed_small Div x y m n s t = if_small (y == 0) _ _ (lit< tt) (word_small _)
computed_small Divu x y m n s t = if_small (y == 0) _ _ (lit< tt) (let d = div-le_self x y in omega (arith, d))
computed_small Rem x y m n s t = if_small (y == 0) _ _ s (word_small _)
computed_small Remu x y m n s t = if_small (y == 0) _ _ s (let d = mod-le x y in omega (arith, d))

operation_common : (op : RegOp) (a b : Both) → Common (operation_range op a.range b.range) (operation_bits op a.bits b.bits)
operation_common Mulh a b = any_common
operation_common Mulhsu a b = any_common
operation_common Add a b = by_value Add a b (computed_small Add a.range.lo b.range.lo (λ e. cc) (λ e. cc) (in_word a) (in_word b))
operation_common Sub a b = by_value Sub a b (computed_small Sub a.range.lo b.range.lo (λ e. cc) (λ e. cc) (in_word a) (in_word b))
operation_common Sll a b = by_value Sll a b (computed_small Sll a.range.lo b.range.lo (λ e. cc) (λ e. cc) (in_word a) (in_word b))
operation_common Slt a b = by_value Slt a b (computed_small Slt a.range.lo b.range.lo (λ e. cc) (λ e. cc) (in_word a) (in_word b))
operation_common Sltu a b = by_value Sltu a b (computed_small Sltu a.range.lo b.range.lo (λ e. cc) (λ e. cc) (in_word a) (in_word b))
operation_common Xor a b = by_value Xor a b (computed_small Xor a.range.lo b.range.lo (λ e. cc) (λ e. cc) (in_word a) (in_word b))
operation_common Srl a b = by_value Srl a b (computed_small Srl a.range.lo b.range.lo (λ e. cc) (λ e. cc) (in_word a) (in_word b))
operation_common Sra a b = by_value Sra a b (computed_small Sra a.range.lo b.range.lo (λ e. cc) (λ e. cc) (in_word a) (in_word b))
operation_common Or a b = by_value Or a b (computed_small Or a.range.lo b.range.lo (λ e. cc) (λ e. cc) (in_word a) (in_word b))
operation_common And a b = by_value And a b (computed_small And a.range.lo b.range.lo (λ e. cc) (λ e. cc) (in_word a) (in_word b))
operation_common Mul a b = by_value Mul a b (computed_small Mul a.range.lo b.range.lo (λ e. cc) (λ e. cc) (in_word a) (in_word b))
operation_common Mulhu a b = by_value Mulhu a b (computed_small Mulhu a.range.lo b.range.lo (λ e. cc) (λ e. cc) (in_word a) (in_word b))
operation_common Div a b = by_value Div a b (computed_small Div a.range.lo b.range.lo (λ e. cc) (λ e. cc) (in_word a) (in_word b))
operation_common Divu a b = by_value Divu a b (computed_small Divu a.range.lo b.range.lo (λ e. cc) (λ e. cc) (in_word a) (in_word b))
operation_common Rem a b = by_value Rem a b (computed_small Rem a.range.lo b.range.lo (λ e. cc) (λ e. cc) (in_word a) (in_word b))
operation_common Remu a b = by_value Remu a b (computed_small Remu a.range.lo b.range.lo (λ e. cc) (λ e. cc) (in_word a) (in_word b))

immediate_small : (op : ImmOp) (x : ℕ) (imm : ℤ) → x < 2 ^ 32 → computed_imm op x imm < 2 ^ 32
immediate_small Addi x imm s = computed_small Add x (numbers.word imm) (λ e. cc) (λ e. cc) s (word_small imm)
immediate_small Slti x imm s = computed_small Slt x (numbers.word imm) (λ e. cc) (λ e. cc) s (word_small imm)
immediate_small Sltiu x imm s = computed_small Sltu x (numbers.word imm) (λ e. cc) (λ e. cc) s (word_small imm)
immediate_small Xori x imm s = computed_small Xor x (numbers.word imm) (λ e. cc) (λ e. cc) s (word_small imm)
immediate_small Ori x imm s = computed_small Or x (numbers.word imm) (λ e. cc) (λ e. cc) s (word_small imm)
immediate_small Andi x imm s = computed_small And x (numbers.word imm) (λ e. cc) (λ e. cc) s (word_small imm)
immediate_small Slli x imm s = computed_small Sll x (numbers.word imm) (λ e. cc) (λ e. cc) s (word_small imm)
immediate_small Srli x imm s = computed_small Srl x (numbers.word imm) (λ e. cc) (λ e. cc) s (word_small imm)
immediate_small Srai x imm s = computed_small Sra x (numbers.word imm) (λ e. cc) (λ e. cc) s (word_small imm)

immediate_common : (op : ImmOp) (a : Both) (imm : ℤ) → Common (immediate_range op a.range imm) (operation_bits (register_form op) a.bits (all_known (numbers.word imm)))
immediate_common op a imm =
    let small = immediate_small op a.range.lo imm (in_word a) in
    common (immediate_range op a.range imm) (operation_bits (register_form op) a.bits (all_known (numbers.word imm))) (computed_imm op a.range.lo imm)
    (ranges.immediate_covers op a.range a.range.lo imm (lowest_in a) small)
    (bits.operation_covers (register_form op) a.bits (all_known (numbers.word imm)) a.range.lo (numbers.word imm) small (has_agrees a.bits a.range.lo a.least) (one_agrees (numbers.word imm) (word_small imm)))

pub applied_common : (instr : Instr) (address : ℕ) (a b : Both) → Common (applied_range instr address a.range b.range) (applied_bits instr address a.bits b.bits)
applied_common (Lui rd imm) address a b = any_word_common imm
applied_common (Auipc rd imm) address a b = any_word_common (beside address imm)
applied_common (Jal rd imm) address a b = any_word_common (following address)
applied_common (Jalr rd rs1 imm) address a b = any_word_common (following address)
applied_common (Load op rd rs1 imm) address a b = load_common op
applied_common (Imm op rd rs1 imm) address a b = immediate_common op a imm
applied_common (Op op rd rs1 rs2) address a b = operation_common op a b
applied_common _ address a b = any_common

-- ---- the laws
range_covered : (a : Both) (place : Option ℕ) (s : State) → CoversOperand both_sets a place s → CoversOperand range_sets a.range place s
range_covered a place s c r e = (both_parts a (s.register r) (c r e)).0

bits_covered : (a : Both) (place : Option ℕ) (s : State) → CoversOperand both_sets a place s → CoversOperand bits_sets a.bits place s
bits_covered a place s c r e = (both_parts a (s.register r) (c r e)).1

range_steps : (row : StepRow) (a b : Both) (image_end : ℕ) (s t : State) → StepsFrom both_sets row a b image_end s t → StepsFrom range_sets row a.range b.range image_end s t
range_steps row a b image_end s t h = record { before = h.before; after = h.after; step = h.step; first = range_covered a (first_read row.instr) s h.first; second = range_covered b (second_read row.instr) s h.second }

bits_steps : (row : StepRow) (a b : Both) (image_end : ℕ) (s t : State) → StepsFrom both_sets row a b image_end s t → StepsFrom bits_sets row a.bits b.bits image_end s t
bits_steps row a b image_end s t h = record { before = h.before; after = h.after; step = h.step; first = bits_covered a (first_read row.instr) s h.first; second = bits_covered b (second_read row.instr) s h.second }

covering : (row : StepRow) (a b : Both) (image_end : ℕ) (s t : State) → StepsFrom both_sets row a b image_end s t → (r : ℕ) → written_by row.instr ≡ Some r → both_has (applied_both row.instr (from_of row) a b) (t.register r) ≡ true
covering row a b image_end s t h r w =
    made_has (applied_range row.instr (from_of row) a.range b.range) (applied_bits row.instr (from_of row) a.bits b.bits) (t.register r)
    (range_covers.covering row a.range b.range image_end s t (range_steps row a b image_end s t h) r w)
    (bits_covers.covering row a.bits b.bits image_end s t (bits_steps row a b image_end s t h) r w)

monotony : (instr : Instr) (address : ℕ) (a a' b b' : Both) → IsWithin both_sets a a' → IsWithin both_sets b b' → IsWithin both_sets (applied_both instr address a b) (applied_both instr address a' b')
monotony instr address a a' b b' h k =
    let c = applied_common instr address a b in
    made_within (applied_range instr address a.range b.range) (applied_range instr address a'.range b'.range) (applied_bits instr address a.bits b.bits) (applied_bits instr address a'.bits b'.bits) c.value c.in_range c.in_bits
    (range_covers.monotony instr address a.range a'.range b.range b'.range (range_within a a' h) (range_within b b' k))
    (bits_covers.monotony instr address a.bits a'.bits b.bits b'.bits (bits_within a a' h) (bits_within b b' k))

some_number : {x y : ℕ} → Some x ≡ Some y → x ≡ y
some_number e = cc

pub some_pair : {x y : Both × Both} → Some x ≡ Some y → x ≡ y
some_pair e = cc

pub none_pair : {x : Both × Both} → None ≡ Some x → ⊥
none_pair e = cc

some_common : (r : Range) (b : Bits) (v : ℕ) → range_has r v ≡ true → bits_has b v ≡ true → (c : Both) × (reduced r b ≡ Some c) × (both_has c v ≡ true)
some_common r b v p q = elim (reduced_cases r b) [
  | inl none ↦ absurd (reduced_none r b none v p q)
  | inr (c, some) ↦ (c, some, (reduced_common r b c some).into v p q)
]

has_covers : (c : Both) (place : Option ℕ) (s : State) (q : ℕ) → place ≡ Some q → both_has c (s.register q) ≡ true → CoversOperand both_sets c place s
has_covers c place s q e h r f = subst (λ (n : ℕ). both_has c (s.register n) ≡ true) (some_number (sym e ∙ f)) h

-- what is left covers the operands
abbrev LeavesFrom : Instr → StepRow → Both → Both → ℕ → State → State → Type 0
LeavesFrom instr row a b image_end s t = (n : Both × Both) × (left_both instr (narrowed_range row a.range b.range) (narrowed_bits row a.bits b.bits) a b ≡ Some n) × StepsFrom both_sets row n.0 n.1 image_end s t

by_instr : (instr : Instr) (row : StepRow) (a b : Both) (image_end : ℕ) (s t : State) → row.instr ≡ instr → StepsFrom both_sets row a b image_end s t → LeavesFrom instr row a b image_end s t
by_instr (Branch op rs1 rs2 imm) row a b image_end s t is h =
    let e : first_read row.instr ≡ Some rs1 = ap (λ i. first_read i) is in
    let f : second_read row.instr ≡ Some rs2 = ap (λ i. second_read i) is in
    let r = range_covers.narrowed row a.range b.range image_end s t (range_steps row a b image_end s t h) in
    let q = bits_covers.narrowed row a.bits b.bits image_end s t (bits_steps row a b image_end s t h) in
    let one = some_common r.0.0 q.0.0 (s.register rs1) (r.2.first rs1 e) (q.2.first rs1 e) in
    let two = some_common r.0.1 q.0.1 (s.register rs2) (r.2.second rs2 f) (q.2.second rs2 f) in (
      (one.0, two.0),
      pairs_are (narrowed_range row a.range b.range) (narrowed_bits row a.bits b.bits) r.0 q.0 one.0 two.0 r.1 q.1 one.1 two.1,
      record {
        before = h.before;
        after = h.after;
        step = h.step;
        first = has_covers one.0 (first_read row.instr) s rs1 e one.2;
        second = has_covers two.0 (second_read row.instr) s rs2 f two.2;
      },
    )
  where
    pairs_are : (r : Option (Range × Range)) (k : Option (Bits × Bits)) (x : Range × Range) (y : Bits × Bits) (c d : Both) → r ≡ Some x → k ≡ Some y → reduced x.0 y.0 ≡ Some c → reduced x.1 y.1 ≡ Some d → both_common r k ≡ Some (c, d)
    pairs_are r k x y c d e f g h = ap (λ z. both_common z k) e ∙ ap (λ z. both_common (Some x) z) f ∙ ap (λ z. pair_of z (reduced x.1 y.1)) g ∙ ap (λ z. pair_of (Some c) z) h
by_instr (Jalr rd rs1 imm) row a b image_end s t is h =
    let e : first_read row.instr ≡ Some rs1 = ap (λ i. first_read i) is in
    let r = range_covers.narrowed row a.range b.range image_end s t (range_steps row a b image_end s t h) in
    let one = some_common r.0.0 a.bits (s.register rs1) (r.2.first rs1 e) ((both_parts a (s.register rs1) (h.first rs1 e)).1) in (
      (one.0, b),
      ap (λ z. first_common z a b) r.1 ∙ ap (λ z. with_second b z) one.1,
      record {
        before = h.before;
        after = h.after;
        step = h.step;
        first = has_covers one.0 (first_read row.instr) s rs1 e one.2;
        second = h.second;
      },
    )
by_instr _ row a b image_end s t is h = ((a, b), refl, h)

narrowed : (row : StepRow) (a b : Both) (image_end : ℕ) (s t : State) → StepsFrom both_sets row a b image_end s t → (n : Both × Both) × (narrowed_both row a b ≡ Some n) × StepsFrom both_sets row n.0 n.1 image_end s t
narrowed row a b image_end s t h = by_instr row.instr row a b image_end s t refl h

-- ---- smaller sets
abbrev NoMore : Option (Both × Both) → Option (Both × Both) → Type 0
NoMore left left' = (n : Both × Both) → left ≡ Some n → (n' : Both × Both) × (left' ≡ Some n') × AreWithin both_sets n n'

common_more : (r r' : Range) (b b' : Bits) (c : Both) → IsWithin range_sets r r' → IsWithin bits_sets b b' → reduced r b ≡ Some c → (c' : Both) × (reduced r' b' ≡ Some c') × IsWithin both_sets c c'
common_more r r' b b' c h k e =
    let m = reduced_common r b c e in
    elim (reduced_cases r' b') [
      | inl none ↦ let p = m.out c.range.lo (lowest_has c) in absurd (reduced_none r' b' none c.range.lo (h c.range.lo p.0) (k c.range.lo p.1))
      | inr (c', some) ↦ (c', some, λ v t. let p = m.out v t in (reduced_common r' b' c' some).into v (h v p.0) (k v p.1))
    ]

-- two sets that are both there
pub record PairIs (x y : Option Both) (n : Both × Both) : Type 0 where
  pub first : x ≡ Some n.0
  pub second : y ≡ Some n.1

pub pair_is : (x y : Option Both) (n : Both × Both) → pair_of x y ≡ Some n → PairIs x y n
pair_is (Some x) (Some y) n e = record { first = ap (λ (z : Both × Both). Some z.0) (some_pair e); second = ap (λ (z : Both × Both). Some z.1) (some_pair e) }
pair_is (Some x) None n e = absurd (none_pair e)
pair_is None y n e = absurd (none_pair e)

both_no_more : (r r' : Option (Range × Range)) (k k' : Option (Bits × Bits)) → ((n : Range × Range) → r ≡ Some n → (n' : Range × Range) × (r' ≡ Some n') × AreWithin range_sets n n') → ((n : Bits × Bits) → k ≡ Some n → (n' : Bits × Bits) × (k' ≡ Some n') × AreWithin bits_sets n n') → NoMore (both_common r k) (both_common r' k')
both_no_more (Some r) r' (Some k) k' h g n e =
    let p = h r refl in
    let q = g k refl in
    let is = pair_is (reduced r.0 k.0) (reduced r.1 k.1) n e in
    let one = common_more r.0 p.0.0 k.0 q.0.0 n.0 p.2.first q.2.first is.first in
    let two = common_more r.1 p.0.1 k.1 q.0.1 n.1 p.2.second q.2.second is.second in
    ((one.0, two.0), ap (λ z. both_common z k') p.1 ∙ ap (λ z. both_common (Some p.0) z) q.1 ∙ ap (λ z. pair_of z (reduced p.0.1 q.0.1)) one.1 ∙ ap (λ z. pair_of (Some one.0) z) two.1, record { first = one.2; second = two.2 })
both_no_more (Some r) r' None k' h g n e = absurd (none_pair e)
both_no_more None r' k k' h g n e = absurd (none_pair e)

pub second_is : (b : Both) (x : Option Both) (n : Both × Both) → with_second b x ≡ Some n → (x ≡ Some n.0) × (b ≡ n.1)
second_is b (Some x) n e = (ap (λ (z : Both × Both). Some z.0) (some_pair e), ap (λ (z : Both × Both). z.1) (some_pair e))
second_is b None n e = absurd (none_pair e)

first_no_more : (r r' : Option (Range × Range)) (a a' b b' : Both) → ((n : Range × Range) → r ≡ Some n → (n' : Range × Range) × (r' ≡ Some n') × AreWithin range_sets n n') → IsWithin bits_sets a.bits a'.bits → IsWithin both_sets b b' → NoMore (first_common r a b) (first_common r' a' b')
first_no_more (Some r) r' a a' b b' h g k n e =
    let p = h r refl in
    let is = second_is b (reduced r.0 a.bits) n e in
    let one = common_more r.0 p.0.0 a.bits a'.bits n.0 p.2.first g is.0 in
    ((one.0, b'), ap (λ z. first_common z a' b') p.1 ∙ ap (λ z. with_second b' z) one.1, record { first = one.2; second = subst (λ (z : Both). IsWithin both_sets z b') is.1 k })
first_no_more None r' a a' b b' h g k n e = absurd (none_pair e)

left_no_more : (instr : Instr) (r r' : Option (Range × Range)) (q q' : Option (Bits × Bits)) (a a' b b' : Both) → ((n : Range × Range) → r ≡ Some n → (n' : Range × Range) × (r' ≡ Some n') × AreWithin range_sets n n') → ((n : Bits × Bits) → q ≡ Some n → (n' : Bits × Bits) × (q' ≡ Some n') × AreWithin bits_sets n n') → IsWithin both_sets a a' → IsWithin both_sets b b' → NoMore (left_both instr r q a b) (left_both instr r' q' a' b')
left_no_more (Branch op rs1 rs2 imm) r r' q q' a a' b b' x y h k = both_no_more r r' q q' x y
left_no_more (Jalr rd rs1 imm) r r' q q' a a' b b' x y h k = first_no_more r r' a a' b b' x (bits_within a a' h) k
left_no_more _ r r' q q' a a' b b' x y h k =
    λ n e. ((a', b'), refl, record { first = subst (λ (z : Both × Both). IsWithin both_sets z.0 a') (some_pair e) h; second = subst (λ (z : Both × Both). IsWithin both_sets z.1 b') (some_pair e) k })

narrower : (row : StepRow) (a a' b b' : Both) (n : Both × Both) → IsWithin both_sets a a' → IsWithin both_sets b b' → narrowed_both row a b ≡ Some n → (n' : Both × Both) × (narrowed_both row a' b' ≡ Some n') × AreWithin both_sets n n'
narrower row a a' b b' n h k e =
    left_no_more row.instr (narrowed_range row a.range b.range) (narrowed_range row a'.range b'.range) (narrowed_bits row a.bits b.bits) (narrowed_bits row a'.bits b'.bits) a a' b b'
    (λ m f. range_covers.narrower row a.range a'.range b.range b'.range m (range_within a a' h) (range_within b b' k) f)
    (λ m f. bits_covers.narrower row a.bits a'.bits b.bits b'.bits m (bits_within a a' h) (bits_within b b' k) f)
    h k n e

noted : (a : Both) (n : ℕ × ℕ) → both_moves.note a ≡ Some n → (v : ℕ) → both_has a v ≡ true → bit_and v n.0 ≡ n.1
noted a n e v h = bits_covers.noted a.bits n e v ((both_parts a v h).1)

pub both_covers : AreMoves both_sets both_moves
both_covers = record { covering = covering; monotony = monotony; narrowed = narrowed; narrower = narrower; noted = noted }
