-- Conclusions are on the row's own cells, and bytes have places of their own.
use Rattle.std.proofs.Common.{◌≡◌, ℕ, zero, suc, ◌<◌, ◌⊎◌, inl, inr, refl, sym, ap, subst, ◌∙◌, arith, Some, ℤ, ◌==◌}
use Rattle.rept_isa.specs.declared.instr.Instr.{Instr}
use Rattle.rept_isa.specs.declared.instr.Instr.TheVariants.{Load, Store, Imm, Op}
use Rattle.rept_isa.specs.declared.instr.LoadOp.{LoadOp}
use Rattle.rept_isa.specs.declared.instr.LoadOp.TheVariants.{Lb, Lh, Lw, Lbu, Lhu}
use Rattle.rept_isa.specs.declared.instr.StoreOp.{StoreOp}
use Rattle.rept_isa.specs.declared.instr.StoreOp.TheVariants.{Sb, Sh, Sw}
use Rattle.rept_isa.specs.declared.instr.RegOp.{RegOp}
use Rattle.rept_isa.specs.declared.instr.RegOp.TheVariants.{Or, And}
use Rattle.rept_isa.specs.declared.row.StepRow.{StepRow}
use Rattle.rept_isa.specs.Numbers.{plus, beside}
use Rattle.rept_isa.specs.Operands.{written_by, first_read, second_read, unless_zero}
use Rattle.rept_machine.specs.Arithmetic.{store_width}
use Rattle.rept_reason.specs.declared.fact.Cell.{Cell}
use Rattle.rept_reason.specs.declared.fact.Cell.TheVariants.{Register, Byte}
use Rattle.rept_reason.specs.Facts.{IsCell}
use Rattle.rept_reason.specs.declared.view.inferred.When.{When}
use Rattle.rept_reason.specs.declared.view.inferred.When.TheVariants.{Before, After}
use Rattle.rept_reason.specs.declared.view.inferred.Conclusion.{Conclusion}
use Rattle.rept_reason.specs.View.Seen.{Seen}
use Rattle.rept_reason.specs.View.Rules.{IsRowCell, IsRowByte, offset_of}
use Rattle.rept_rules.specs.declared.operand.Side.{Side}
use Rattle.rept_rules.specs.declared.operand.Side.TheVariants.{First, Second}
use Rattle.rept_rules.specs.Operands.{copied, operand_of, is_neutral, copied_register}
use Rattle.rept_rules.specs.Conclusions.{ConcludesByRow, IsOnRegister, on_register, on_byte, load_width}
use Rattle.rept_rules.specs.Conclusions as rules
use Rattle.rept_rules.specs.MayWrite.{places_of}
use Rattle.rept_rules.specs.Base.{base_rules}
use Rattle.rept_rules.specs.Laws.ValueLemmas.{either_way, same_some, no_some, over_zero}

-- the moment of a row's byte conclusions
abbrev moment : Instr → When
moment (Load op rd rs1 imm) = Before
moment _ = After

-- a conclusion on a byte
record IsOnByte (row : StepRow) (s : Seen) (d : Conclusion) : Type 0 where
  r : ℕ
  b : ℕ
  k : ℕ
  read : first_read row.instr ≡ Some r
  base : s.register Before r ≡ Some b
  below : k < places_of row.instr
  four : k < 4
  when : d.when ≡ moment row.instr
  cell : d.cell ≡ Byte (beside (plus b (offset_of row.instr)) k)
  slot : d.slot ≡ k

few_load : (op : LoadOp) (k : ℕ) → k < load_width op → k < 4
few_load Lb k h = omega (arith, h)
few_load Lh k h = omega (arith, h)
few_load Lw k h = h
few_load Lbu k h = omega (arith, h)
few_load Lhu k h = omega (arith, h)

few_store : (op : StoreOp) (k : ℕ) → k < store_width op → k < 4
few_store Sb k h = omega (arith, h)
few_store Sh k h = omega (arith, h)
few_store Sw k h = h

store_byte : (row : StepRow) (s : Seen) (d : Conclusion) (op : StoreOp) (rs1 rs2 : ℕ) (imm : ℤ) (b v k : ℕ) → row.instr ≡ Store op rs1 rs2 imm → s.register Before rs1 ≡ Some b → k < store_width op → d ≡ on_byte 9 After (plus b imm) v k → IsOnByte row s d
store_byte row s d op rs1 rs2 imm b v k is base below e = record {
  r = rs1;
  b = b;
  k = k;
  read = ap first_read is;
  base = base;
  below = subst (λ (i : Instr). k < places_of i) (sym is) below;
  four = few_store op k below;
  when = ap (λ (x : Conclusion). x.when) e ∙ ap moment (sym is);
  cell = ap (λ (x : Conclusion). x.cell) e ∙ ap (λ (i : Instr). Byte (beside (plus b (offset_of i)) k)) (sym is);
  slot = ap (λ (x : Conclusion). x.slot) e;
}

load_byte : (row : StepRow) (s : Seen) (d : Conclusion) (op : LoadOp) (rd rs1 : ℕ) (imm : ℤ) (b v k : ℕ) → row.instr ≡ Load op rd rs1 imm → s.register Before rs1 ≡ Some b → k < load_width op → d ≡ on_byte 15 Before (plus b imm) v k → IsOnByte row s d
load_byte row s d op rd rs1 imm b v k is base below e = record {
  r = rs1;
  b = b;
  k = k;
  read = ap first_read is;
  base = base;
  below = subst (λ (i : Instr). k < places_of i) (sym is) below;
  four = few_load op k below;
  when = ap (λ (x : Conclusion). x.when) e ∙ ap moment (sym is);
  cell = ap (λ (x : Conclusion). x.cell) e ∙ ap (λ (i : Instr). Byte (beside (plus b (offset_of i)) k)) (sym is);
  slot = ap (λ (x : Conclusion). x.slot) e;
}

register_byte : (r a : ℕ) → Register r ≡ Byte a → ⊥
register_byte r a e = cc

pub not_byte : (d : Conclusion) (rule : ℕ) (when : When) (r v a : ℕ) → IsOnRegister d rule when r v → d.cell ≡ Byte a → ⊥
not_byte d rule when r v a says e = register_byte r a (sym (ap (λ (x : Conclusion). x.cell) says.is) ∙ e)

on_bytes : (row : StepRow) (s : Seen) (d : Conclusion) (a : ℕ) → d.cell ≡ Byte a → ConcludesByRow row s d → IsOnByte row s d
on_bytes row s d a e (rules.result rd v named value says) = absurd (not_byte d 7 After rd v a says e)
on_bytes row s d a e (rules.load op rd rs1 imm b memory is base bytes says) = absurd (not_byte d 8 After rd _ a says e)
on_bytes row s d a e (rules.store op rs1 rs2 imm b v k is base value below f) = store_byte row s d op rs1 rs2 imm b v k is base below f
on_bytes row s d a e (rules.solved rule rd r v w side by named read value solved says) = absurd (not_byte d rule Before r w a says e)
on_bytes row s d a e (rules.equal_second op rs1 rs2 imm v is way value says) = absurd (not_byte d 14 Before rs2 v a says e)
on_bytes row s d a e (rules.equal_first op rs1 rs2 imm v is way value says) = absurd (not_byte d 14 Before rs1 v a says e)
on_bytes row s d a e (rules.load_back op rd rs1 imm b v k is named base value below f) = load_byte row s d op rd rs1 imm b v k is base below f
on_bytes row s d a e (rules.store_back rs1 rs2 imm b memory is base bytes says) = absurd (not_byte d 16 Before rs2 _ a says e)
on_bytes row s d a e (rules.copy rd source v named from value says) = absurd (not_byte d 18 After rd v a says e)
on_bytes row s d a e (rules.copy_back rd source v named from value says) = absurd (not_byte d 18 Before source v a says e)

-- its own cell
abbrev Own : StepRow → Seen → When → Cell → Type 0
Own row s when cell = IsRowCell base_rules row s when cell × IsCell cell

own_register : (row : StepRow) (s : Seen) (d : Conclusion) (rule : ℕ) (when : When) (r v : ℕ) → IsOnRegister d rule when r v → IsRowCell base_rules row s when (Register r) → Own row s d.when d.cell
own_register row s d rule when r v says h = subst (λ (x : Conclusion). Own row s x.when x.cell) (sym says.is) (h, (says.named, says.in_file))

row_byte : (row : StepRow) (s : Seen) (d : Conclusion) (h : IsOnByte row s d) → IsRowByte base_rules row s (beside (plus h.b (offset_of row.instr)) h.k)
row_byte row s d h = record { base_register = h.r; base = h.b; k = h.k; read = h.read; base_known = h.base; below_places = h.below; below_four = h.four; address = refl }

row_byte_at : (row : StepRow) (s : Seen) (when : When) (a : ℕ) → IsRowByte base_rules row s a → IsRowCell base_rules row s when (Byte a)
row_byte_at row s Before a h = h
row_byte_at row s After a h = h

own_byte : (row : StepRow) (s : Seen) (d : Conclusion) → IsOnByte row s d → Own row s d.when d.cell
own_byte row s d h = subst (λ (c : Cell). Own row s d.when c) (sym h.cell) (row_byte_at row s d.when _ (row_byte row s d h), omega arith)

destination_is : (r : ℕ) → 0 < r → unless_zero r ≡ Some r
destination_is zero h = absurd (omega (arith, h))
destination_is (suc n) h = rw (over_zero n) refl

copied_read_register : (op : RegOp) (rs1 rs2 r : ℕ) → copied_register op rs1 rs2 ≡ Some r → (rs1 ≡ r) ⊎ (rs2 ≡ r)
copied_read_register Or rs1 rs2 r e = elim (either_way (rs1 == rs2)) [
  | inl t ↦ inl (same_some (rw t at e))
  | inr f ↦ elim (either_way (rs1 == 0)) [
    | inl t ↦ inr (same_some (rw (f, t) at e))
    | inr g ↦ elim (either_way (rs2 == 0)) [
      | inl t ↦ inl (same_some (rw (f, g, t) at e))
      | inr h ↦ absurd (no_some (rw (f, g, h) at e))
    ]
  ]
]
copied_read_register And rs1 rs2 r e = elim (either_way (rs1 == rs2)) [
  | inl t ↦ inl (same_some (rw t at e))
  | inr f ↦ absurd (no_some (rw f at e))
]
copied_read_register _ rs1 rs2 r e = absurd (no_some e)

-- a copy's source is one of the registers that the instruction reads
pub copied_read : (instr : Instr) (r : ℕ) → copied instr ≡ Some r → (first_read instr ≡ Some r) ⊎ (second_read instr ≡ Some r)
copied_read (Imm op rd rs1 imm) r e = elim (either_way (is_neutral op imm)) [
  | inl t ↦ inl (rw t at e)
  | inr f ↦ absurd (no_some (rw f at e))
]
copied_read (Op op rd rs1 rs2) r e = elim (copied_read_register op rs1 rs2 r e) [ inl f ↦ inl (ap Some f) | inr f ↦ inr (ap Some f) ]
copied_read _ r e = absurd (no_some e)

pub read_on : (instr : Instr) (side : Side) (r : ℕ) → operand_of instr side ≡ Some r → (first_read instr ≡ Some r) ⊎ (second_read instr ≡ Some r)
read_on instr First r e = inl e
read_on instr Second r e = inr e

pub own_by : (row : StepRow) (s : Seen) (d : Conclusion) → ConcludesByRow row s d → Own row s d.when d.cell
own_by row s d (rules.result rd v named value says) = own_register row s d 7 After rd v says named
own_by row s d (rules.load op rd rs1 imm b memory is base bytes says) = own_register row s d 8 After rd _ says (ap written_by is ∙ destination_is rd says.named)
own_by row s d (rules.store op rs1 rs2 imm b v k is base value below f) = own_byte row s d (store_byte row s d op rs1 rs2 imm b v k is base below f)
own_by row s d (rules.solved rule rd r v w side by named read value solved says) = own_register row s d rule Before r w says (read_on row.instr side r read)
own_by row s d (rules.equal_second op rs1 rs2 imm v is way value says) = own_register row s d 14 Before rs2 v says (inr (ap second_read is))
own_by row s d (rules.equal_first op rs1 rs2 imm v is way value says) = own_register row s d 14 Before rs1 v says (inl (ap first_read is))
own_by row s d (rules.load_back op rd rs1 imm b v k is named base value below f) = own_byte row s d (load_byte row s d op rd rs1 imm b v k is base below f)
own_by row s d (rules.store_back rs1 rs2 imm b memory is base bytes says) = own_register row s d 16 Before rs2 _ says (inr (ap second_read is))
own_by row s d (rules.copy rd source v named from value says) = own_register row s d 18 After rd v says named
own_by row s d (rules.copy_back rd source v named from value says) = own_register row s d 18 Before source v says (copied_read row.instr source from)

-- a slot is one of the row's places
pub slot_inside_by : (row : StepRow) (s : Seen) (d : Conclusion) (a : ℕ) → ConcludesByRow row s d → d.cell ≡ Byte a → d.slot < places_of row.instr
slot_inside_by row s d a c e = let h = on_bytes row s d a e c in let below = h.below in let slot = h.slot in omega (arith, below, slot)

same_byte : (a b : ℕ) → Byte a ≡ Byte b → a ≡ b
same_byte a b e = cc

-- and stands for one moment and address
pub slot_once_by : (row : StepRow) (s t : Seen) (d e : Conclusion) (a b r : ℕ) → ConcludesByRow row s d → ConcludesByRow row t e → d.cell ≡ Byte a → e.cell ≡ Byte b → first_read row.instr ≡ Some r → s.register Before r ≡ t.register Before r → d.slot ≡ e.slot → (d.when ≡ e.when) × (a ≡ b)
slot_once_by row s t d e a b r c f on_a on_b read same slots =
    let h = on_bytes row s d a on_a c in
    let g = on_bytes row t e b on_b f in
    let r_is : h.r ≡ r = same_some (sym h.read ∙ read) in
    let q_is : g.r ≡ r = same_some (sym g.read ∙ read) in
    let bases : h.b ≡ g.b = same_some (sym h.base ∙ ap (s.register Before) r_is ∙ same ∙ ap (t.register Before) (sym q_is) ∙ g.base) in
    let places : h.k ≡ g.k = sym h.slot ∙ slots ∙ g.slot in
    let cells : Byte a ≡ Byte b = sym on_a ∙ h.cell ∙ ap (λ (x : ℕ). Byte (beside (plus x (offset_of row.instr)) h.k)) bases ∙ ap (λ (x : ℕ). Byte (beside (plus g.b (offset_of row.instr)) x)) places ∙ sym g.cell ∙ on_b in
    (h.when ∙ sym g.when, same_byte a b cells)
