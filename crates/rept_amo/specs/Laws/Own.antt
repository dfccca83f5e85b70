-- Conclusions of a row of an atomic instruction are on the row's own cells, and bytes have places
-- of their own.
use Rattle.std.proofs.Common.{◌≡◌, ◌≢◌, ℕ, zero, suc, ◌+◌, ◌<◌, ◌≤◌, ◌^◌, inr, refl, sym, ap, subst, ◌∙◌, arith, Option, Some, ℤ, lit≤}
use Rattle.rept_isa.specs.declared.instr.AmoOp.{AmoOp}
use Rattle.rept_isa.specs.declared.instr.AmoOp.TheVariants as atomic
use Rattle.rept_isa.specs.declared.row.StepRow.{StepRow}
use Rattle.rept_reason.specs.declared.view.inferred.When.{When}
use Rattle.rept_reason.specs.declared.view.inferred.When.TheVariants.{Before, After}
use Rattle.rept_reason.specs.declared.view.inferred.Conclusion.{Conclusion}
use Rattle.rept_reason.specs.View.Seen.{Seen}
use Rattle.rept_isa.specs.Numbers.{plus, beside}
use Rattle.rept_isa.specs.Operands.{written_by, first_read, second_read, unless_zero, source_of}
use Rattle.rept_machine.specs.Arithmetic.{word_at, combined}
use Rattle.rept_reason.specs.declared.fact.Cell.{Cell}
use Rattle.rept_reason.specs.declared.fact.Cell.TheVariants.{Register, Byte}
use Rattle.rept_reason.specs.Facts.{IsCell}
use Rattle.rept_reason.specs.View.Rules.{IsRowCell, IsRowByte, offset_of, Fits}
use Rattle.rept_rules.specs.Conclusions.{IsOnRegister}
use Rattle.rept_rules.specs.Laws.ValueLemmas.{same_some, over_zero}
use Rattle.rept_rules.specs.Laws.WriteLemmas.{beside_plain}
use Rattle.rept_rules.specs.Laws.Own.{not_byte}
use Rattle.rept_amo.specs.declared.form.WordInferred.{WordInferred}
use Rattle.rept_amo.specs.declared.form.Form.{Form}
use Rattle.rept_amo.specs.declared.form.AtomicAccess.{AtomicAccess}
use Rattle.rept_amo.specs.Conclusions.{IsAtomicAccess, ReadsWord, IsOperation, form_of, byte_inferred, word_before, word_after, word_stored, undone, AtomicConcludes}
use Rattle.rept_amo.specs.Conclusions as rules
use Rattle.rept_amo.specs.Writes.{places_by, places_of}
use Rattle.rept_amo.specs.Atomic.{atomic_rules}
use Rattle.rept_amo.specs.Laws.Listed.{undone_operation}
use Rattle.rept_amo.specs.Laws.Sound.{form_is}

four_places : (op : AmoOp) → 4 ≤ places_by op
four_places atomic.Lr = lit≤ tt
four_places atomic.Sc = lit≤ tt
four_places atomic.Swap = lit≤ tt
four_places atomic.Add = lit≤ tt
four_places atomic.Xor = lit≤ tt
four_places atomic.And = lit≤ tt
four_places atomic.Or = lit≤ tt
four_places atomic.Min = lit≤ tt
four_places atomic.Max = lit≤ tt
four_places atomic.Minu = lit≤ tt
four_places atomic.Maxu = lit≤ tt

eight_places : (op : AmoOp) → IsOperation op → places_by op ≡ 8
eight_places atomic.Lr h = absurd h
eight_places atomic.Sc h = absurd h
eight_places atomic.Swap h = refl
eight_places atomic.Add h = refl
eight_places atomic.Xor h = refl
eight_places atomic.And h = refl
eight_places atomic.Or h = refl
eight_places atomic.Min h = refl
eight_places atomic.Max h = refl
eight_places atomic.Minu h = refl
eight_places atomic.Maxu h = refl

source_read : (op : AmoOp) (r : ℕ) → IsOperation op → source_of op r ≡ Some r
source_read atomic.Lr r h = absurd h
source_read atomic.Sc r h = absurd h
source_read atomic.Swap r h = refl
source_read atomic.Add r h = refl
source_read atomic.Xor r h = refl
source_read atomic.And r h = refl
source_read atomic.Or r h = refl
source_read atomic.Min r h = refl
source_read atomic.Max r h = refl
source_read atomic.Minu r h = refl
source_read atomic.Maxu r h = refl

destination_is : (r : ℕ) → 0 < r → unless_zero r ≡ Some r
destination_is zero h = absurd (omega (arith, h))
destination_is (suc n) h = rw (over_zero n) refl

-- where the bytes of a moment begin among the row's places
abbrev pub first_place : AmoOp → When → ℕ
first_place atomic.Sc Before = 4
first_place atomic.Sc After = 0
first_place atomic.Lr Before = 0
first_place atomic.Lr After = 4
first_place atomic.Swap Before = 0
first_place atomic.Swap After = 4
first_place atomic.Add Before = 0
first_place atomic.Add After = 4
first_place atomic.Xor Before = 0
first_place atomic.Xor After = 4
first_place atomic.And Before = 0
first_place atomic.And After = 4
first_place atomic.Or Before = 0
first_place atomic.Or After = 4
first_place atomic.Min Before = 0
first_place atomic.Min After = 4
first_place atomic.Max Before = 0
first_place atomic.Max After = 4
first_place atomic.Minu Before = 0
first_place atomic.Minu After = 4
first_place atomic.Maxu Before = 0
first_place atomic.Maxu After = 4

read_place : (op : AmoOp) → ReadsWord op → first_place op Before ≡ 0
read_place atomic.Lr h = refl
read_place atomic.Sc h = absurd h
read_place atomic.Swap h = refl
read_place atomic.Add h = refl
read_place atomic.Xor h = refl
read_place atomic.And h = refl
read_place atomic.Or h = refl
read_place atomic.Min h = refl
read_place atomic.Max h = refl
read_place atomic.Minu h = refl
read_place atomic.Maxu h = refl

operation_reads : (op : AmoOp) → IsOperation op → ReadsWord op
operation_reads atomic.Lr h = tt
operation_reads atomic.Sc h = h
operation_reads atomic.Swap h = tt
operation_reads atomic.Add h = tt
operation_reads atomic.Xor h = tt
operation_reads atomic.And h = tt
operation_reads atomic.Or h = tt
operation_reads atomic.Min h = tt
operation_reads atomic.Max h = tt
operation_reads atomic.Minu h = tt
operation_reads atomic.Maxu h = tt

written_place : (op : AmoOp) → IsOperation op → first_place op After ≡ 4
written_place atomic.Lr h = refl
written_place atomic.Sc h = absurd h
written_place atomic.Swap h = refl
written_place atomic.Add h = refl
written_place atomic.Xor h = refl
written_place atomic.And h = refl
written_place atomic.Or h = refl
written_place atomic.Min h = refl
written_place atomic.Max h = refl
written_place atomic.Minu h = refl
written_place atomic.Maxu h = refl

-- the two moments have places of their own
one_moment : (op : AmoOp) (w u : When) (k j : ℕ) → k < 4 → j < 4 → first_place op w + k ≡ first_place op u + j → (w ≡ u) × (k ≡ j)
one_moment atomic.Lr Before Before k j p q e = (refl, omega arith)
one_moment atomic.Lr Before After k j p q e = absurd (omega arith)
one_moment atomic.Lr After Before k j p q e = absurd (omega arith)
one_moment atomic.Lr After After k j p q e = (refl, omega arith)
one_moment atomic.Sc Before Before k j p q e = (refl, omega arith)
one_moment atomic.Sc Before After k j p q e = absurd (omega arith)
one_moment atomic.Sc After Before k j p q e = absurd (omega arith)
one_moment atomic.Sc After After k j p q e = (refl, omega arith)
one_moment atomic.Swap Before Before k j p q e = (refl, omega arith)
one_moment atomic.Swap Before After k j p q e = absurd (omega arith)
one_moment atomic.Swap After Before k j p q e = absurd (omega arith)
one_moment atomic.Swap After After k j p q e = (refl, omega arith)
one_moment atomic.Add Before Before k j p q e = (refl, omega arith)
one_moment atomic.Add Before After k j p q e = absurd (omega arith)
one_moment atomic.Add After Before k j p q e = absurd (omega arith)
one_moment atomic.Add After After k j p q e = (refl, omega arith)
one_moment atomic.Xor Before Before k j p q e = (refl, omega arith)
one_moment atomic.Xor Before After k j p q e = absurd (omega arith)
one_moment atomic.Xor After Before k j p q e = absurd (omega arith)
one_moment atomic.Xor After After k j p q e = (refl, omega arith)
one_moment atomic.And Before Before k j p q e = (refl, omega arith)
one_moment atomic.And Before After k j p q e = absurd (omega arith)
one_moment atomic.And After Before k j p q e = absurd (omega arith)
one_moment atomic.And After After k j p q e = (refl, omega arith)
one_moment atomic.Or Before Before k j p q e = (refl, omega arith)
one_moment atomic.Or Before After k j p q e = absurd (omega arith)
one_moment atomic.Or After Before k j p q e = absurd (omega arith)
one_moment atomic.Or After After k j p q e = (refl, omega arith)
one_moment atomic.Min Before Before k j p q e = (refl, omega arith)
one_moment atomic.Min Before After k j p q e = absurd (omega arith)
one_moment atomic.Min After Before k j p q e = absurd (omega arith)
one_moment atomic.Min After After k j p q e = (refl, omega arith)
one_moment atomic.Max Before Before k j p q e = (refl, omega arith)
one_moment atomic.Max Before After k j p q e = absurd (omega arith)
one_moment atomic.Max After Before k j p q e = absurd (omega arith)
one_moment atomic.Max After After k j p q e = (refl, omega arith)
one_moment atomic.Minu Before Before k j p q e = (refl, omega arith)
one_moment atomic.Minu Before After k j p q e = absurd (omega arith)
one_moment atomic.Minu After Before k j p q e = absurd (omega arith)
one_moment atomic.Minu After After k j p q e = (refl, omega arith)
one_moment atomic.Maxu Before Before k j p q e = (refl, omega arith)
one_moment atomic.Maxu Before After k j p q e = absurd (omega arith)
one_moment atomic.Maxu After Before k j p q e = absurd (omega arith)
one_moment atomic.Maxu After After k j p q e = (refl, omega arith)

-- a conclusion on a byte of the access
pub record IsOnAtomicByte (row : StepRow) (s : Seen) (d : Conclusion) : Type 0 where
  pub x : AtomicAccess
  pub k : ℕ
  pub access : IsAtomicAccess row s x
  pub below : k < 4
  pub cell : d.cell ≡ Byte (beside x.base k)
  pub slot : d.slot ≡ first_place x.form.op d.when + k
  pub inside : d.slot < places_by x.form.op
  pub fits : d.value < 2 ^ 8

on_word : (row : StepRow) (s : Seen) (d : Conclusion) (x : AtomicAccess) (w : WordInferred) (k : ℕ) → IsAtomicAccess row s x → w.base ≡ x.base → w.place ≡ first_place x.form.op w.when → k < 4 → w.place + k < places_by x.form.op → d ≡ byte_inferred w k → IsOnAtomicByte row s d
on_word row s d x w k acc base place below inside is = record {
  x = x;
  k = k;
  access = acc;
  below = below;
  cell = ap (λ (e : Conclusion). e.cell) is ∙ ap (λ (b : ℕ). Byte (beside b k)) base;
  slot = ap (λ (e : Conclusion). e.slot) is ∙ ap (λ (n : ℕ). n + k) place ∙ ap (λ (m : When). first_place x.form.op m + k) (sym (ap (λ (e : Conclusion). e.when) is));
  inside = subst (λ (n : ℕ). n < places_by x.form.op) (sym (ap (λ (e : Conclusion). e.slot) is)) inside;
  fits = subst (λ (n : ℕ). n < 2 ^ 8) (sym (ap (λ (e : Conclusion). e.value) is)) (omega arith);
}

on_byte : (row : StepRow) (s : Seen) (d : Conclusion) (a : ℕ) → d.cell ≡ Byte a → AtomicConcludes row s d → IsOnAtomicByte row s d
on_byte row s d a e (rules.read x m acc reads bytes says) = absurd (not_byte d 19 After x.form.rd _ a says e)
on_byte row s d a e (rules.written x m v k acc operation value bytes below is) =
    let eight = eight_places x.form.op operation in
    on_word row s d x (word_after x.base (combined x.form.op (word_at m x.base) v)) k acc refl (sym (written_place x.form.op operation)) below (omega (arith, eight, below)) is
on_byte row s d a e (rules.read_back x v k acc reads named value below is) =
    let four = four_places x.form.op in
    on_word row s d x (word_before 21 x.base v) k acc refl (sym (read_place x.form.op reads)) below (omega (arith, four, below)) is
on_byte row s d a e (rules.swapped x m acc swap bytes says) = absurd (not_byte d 22 Before x.form.rs2 _ a says e)
on_byte row s d a e (rules.source x m n v acc there left solved says) = absurd (not_byte d 22 Before x.form.rs2 v a says e)
on_byte row s d a e (rules.word_back x n v w k acc value left solved below is) =
    let four = four_places x.form.op in
    let reads = operation_reads x.form.op (undone_operation x.form.op (word_at n x.base) v w solved) in
    on_word row s d x (word_before 23 x.base w) k acc refl (sym (read_place x.form.op reads)) below (omega (arith, four, below)) is
on_byte row s d a e (rules.stored x v k acc sc named value success below is) =
    let four = four_places x.form.op in
    on_word row s d x (word_stored x.base v) k acc refl (sym (ap (λ (op : AmoOp). first_place op After) sc)) below (omega (arith, four, below)) is

-- the bytes of the access are the row's
pub access_byte : (row : StepRow) (s : Seen) (x : AtomicAccess) (k : ℕ) → IsAtomicAccess row s x → k < 4 → IsRowByte atomic_rules row s (beside x.base k)
access_byte row s x k acc below =
    let is = form_is row.instr x.form acc.is_row in
    let four = four_places x.form.op in record {
      base_register = x.form.rs1;
      base = x.base;
      k = k;
      read = ap first_read is;
      base_known = acc.base;
      below_places = subst (λ (o : Option Form). k < places_of o row) (sym acc.is_row) (omega (arith, four, below));
      below_four = below;
      address = sym (beside_plain x.base k) ∙ ap (λ (z : ℤ). beside (plus x.base z) k) (sym (ap offset_of is));
    }

pub cell_byte : (row : StepRow) (s : Seen) (when : When) (a : ℕ) → IsRowByte atomic_rules row s a → IsRowCell atomic_rules row s when (Byte a)
cell_byte row s Before a h = h
cell_byte row s After a h = h

abbrev pub Own : StepRow → Seen → Conclusion → Type 0
Own row s d = IsRowCell atomic_rules row s d.when d.cell × IsCell d.cell × Fits d.cell d.value

own_register : (row : StepRow) (s : Seen) (d : Conclusion) (rule : ℕ) (when : When) (r v : ℕ) → IsOnRegister d rule when r v → IsRowCell atomic_rules row s when (Register r) → Own row s d
own_register row s d rule when r v says h = subst (λ (x : Conclusion). Own row s x) (sym says.is) (h, (says.named, says.in_file), tt)

own_byte : (row : StepRow) (s : Seen) (d : Conclusion) → IsOnAtomicByte row s d → Own row s d
own_byte row s d h =
    let here = cell_byte row s d.when (beside h.x.base h.k) (access_byte row s h.x h.k h.access h.below) in
    let fits = h.fits in
    subst (λ (c : Cell). IsRowCell atomic_rules row s d.when c × IsCell c × Fits c d.value) (sym h.cell) (here, omega arith, fits)

pub own_source : (row : StepRow) (s : Seen) (x : AtomicAccess) → IsAtomicAccess row s x → IsOperation x.form.op → IsRowCell atomic_rules row s Before (Register x.form.rs2)
own_source row s x acc operation = inr (ap second_read (form_is row.instr x.form acc.is_row) ∙ source_read x.form.op x.form.rs2 operation)

pub own_stored : (row : StepRow) (s : Seen) (x : AtomicAccess) → IsAtomicAccess row s x → x.form.op ≡ atomic.Sc → IsRowCell atomic_rules row s Before (Register x.form.rs2)
own_stored row s x acc sc = inr (ap second_read (form_is row.instr x.form acc.is_row) ∙ ap (λ (op : AmoOp). source_of op x.form.rs2) sc)

over : (r : ℕ) → r ≢ 0 → 0 < r
over zero named = absurd (named refl)
over (suc n) named = omega arith

pub destination_of : (row : StepRow) (s : Seen) (x : AtomicAccess) → IsAtomicAccess row s x → x.form.rd ≢ 0 → IsRowCell atomic_rules row s After (Register x.form.rd)
destination_of row s x acc named = ap written_by (form_is row.instr x.form acc.is_row) ∙ destination_is x.form.rd (over x.form.rd named)

pub own_by : (row : StepRow) (s : Seen) (d : Conclusion) → AtomicConcludes row s d → Own row s d
own_by row s d (rules.read x m acc reads bytes says) = own_register row s d 19 After x.form.rd _ says (ap written_by (form_is row.instr x.form acc.is_row) ∙ destination_is x.form.rd says.named)
own_by row s d (rules.swapped x m acc swap bytes says) = own_register row s d 22 Before x.form.rs2 _ says (own_source row s x acc (subst IsOperation (sym swap) tt))
own_by row s d (rules.source x m n v acc there left solved says) = own_register row s d 22 Before x.form.rs2 v says (own_source row s x acc (undone_operation x.form.op (word_at n x.base) (word_at m x.base) v solved))
own_by row s d (rules.written x m v k acc operation value bytes below is) = own_byte row s d (on_byte row s d (beside x.base k) (ap (λ (e : Conclusion). e.cell) is) (rules.written x m v k acc operation value bytes below is))
own_by row s d (rules.read_back x v k acc reads named value below is) = own_byte row s d (on_byte row s d (beside x.base k) (ap (λ (e : Conclusion). e.cell) is) (rules.read_back x v k acc reads named value below is))
own_by row s d (rules.word_back x n v w k acc value left solved below is) = own_byte row s d (on_byte row s d (beside x.base k) (ap (λ (e : Conclusion). e.cell) is) (rules.word_back x n v w k acc value left solved below is))
own_by row s d (rules.stored x v k acc sc named value success below is) = own_byte row s d (on_byte row s d (beside x.base k) (ap (λ (e : Conclusion). e.cell) is) (rules.stored x v k acc sc named value success below is))

pub slot_inside_by : (row : StepRow) (s : Seen) (d : Conclusion) (a : ℕ) → AtomicConcludes row s d → d.cell ≡ Byte a → d.slot < places_of (form_of row.instr) row
slot_inside_by row s d a c e = let h = on_byte row s d a e c in subst (λ (o : Option Form). d.slot < places_of o row) (sym h.access.is_row) h.inside

same_byte : (a b : ℕ) → Byte a ≡ Byte b → a ≡ b
same_byte a b e = cc

pub slot_once_by : (row : StepRow) (s t : Seen) (d e : Conclusion) (a b r : ℕ) → AtomicConcludes row s d → AtomicConcludes row t e → d.cell ≡ Byte a → e.cell ≡ Byte b → first_read row.instr ≡ Some r → s.register Before r ≡ t.register Before r → d.slot ≡ e.slot → (d.when ≡ e.when) × (a ≡ b)
slot_once_by row s t d e a b r c f on_a on_b read same slots =
    let h = on_byte row s d a on_a c in
    let g = on_byte row t e b on_b f in
    let forms : h.x.form ≡ g.x.form = same_some (sym h.access.is_row ∙ g.access.is_row) in
    let r_is : r ≡ h.x.form.rs1 = same_some (sym read ∙ ap first_read (form_is row.instr h.x.form h.access.is_row)) in
    let bases : h.x.base ≡ g.x.base = same_some (sym h.access.base ∙ subst (λ (n : ℕ). s.register Before n ≡ t.register Before n) r_is same ∙ ap (λ (y : Form). t.register Before y.rs1) forms ∙ g.access.base) in
    let places = sym h.slot ∙ slots ∙ g.slot ∙ ap (λ (y : Form). first_place y.op e.when + g.k) (sym forms) in
    let m = one_moment h.x.form.op d.when e.when h.k g.k h.below g.below places in
    let cells : Byte a ≡ Byte b = sym on_a ∙ h.cell ∙ ap (λ (n : ℕ). Byte (beside n h.k)) bases ∙ ap (λ (n : ℕ). Byte (beside g.x.base n)) m.1 ∙ sym g.cell ∙ on_b in
    (m.0, same_byte a b cells)
