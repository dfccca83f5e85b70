-- The rules of rows as one record of functions, and their laws as another. This project's own.
use Rattle.std.specs.Prelude.{◌≡◌, ℕ, ◌<◌, ◌≤◌, ◌^◌, ◌⊎◌, Bool, true, List, length, Contains, Some, ℤ, pos}
use Rattle.std.specs.List.{All}
use Rattle.rept_isa.specs.declared.instr.Instr.{Instr}
use Rattle.rept_isa.specs.declared.instr.Instr.TheVariants.{Load, Store}
use Rattle.rept_isa.specs.declared.row.StepRow.{StepRow}
use Rattle.rept_isa.specs.Numbers.{plus, beside}
use Rattle.rept_isa.specs.Operands.{written_by, first_read, second_read}
use Rattle.rept_machine.specs.State.{State, IsState}
use Rattle.rept_machine.specs.Step.{IsStep}
use Rattle.rept_reason.specs.declared.fact.Cell.{Cell}
use Rattle.rept_reason.specs.declared.fact.Cell.TheVariants.{Register, Byte}
use Rattle.rept_reason.specs.Facts.{IsCell}
use Rattle.rept_reason.specs.declared.view.inferred.When.{When}
use Rattle.rept_reason.specs.declared.view.inferred.When.TheVariants.{Before, After}
use Rattle.rept_reason.specs.declared.view.inferred.Conclusion.{Conclusion}
use Rattle.rept_reason.specs.declared.view.inferred.Premise.{Premise}
use Rattle.rept_reason.specs.declared.view.inferred.RegisterAt.{RegisterAt}
use Rattle.rept_reason.specs.View.Seen.{Seen, IsLawful, KnowsMore, Meets, seen_cell, state_at, held}
use Rattle.rept_reason.specs.View.Written.{Writes}

pub record Rules : Type 0 where
  -- all that a row lets one conclude from what is seen
  pub infer : StepRow → Seen → List Conclusion
  -- what one of these conclusions rests on
  pub needs : StepRow → Seen → Conclusion → List Premise
  -- whether the row may write the byte at an address, by the end of the program's own memory and
  -- the address
  pub touched : StepRow → Seen → ℕ → ℕ → Bool
  -- the registers whose ranges tell these bytes
  pub tells : StepRow → List RegisterAt
  -- whether it writes all bytes that it may write
  pub sure : StepRow → Seen → Bool
  -- a bound on how many byte facts it lets one conclude
  pub places : StepRow → ℕ

-- the offset from the register in the place of rs1 at which a row's bytes begin; 0 where its form
-- has none
abbrev pub offset_of : Instr → ℤ
offset_of (Load op rd rs1 imm) = imm
offset_of (Store op rs1 rs2 imm) = imm
offset_of _ = pos 0

-- the bytes that a row's rules look at: as many as it has places, but at most four, from where the
-- register in the place of rs1 and the offset lead, modulo 2 ^ 32
pub record IsRowByte (rules : Rules) (row : StepRow) (s : Seen) (a : ℕ) : Type 0 where
  pub base_register : ℕ
  pub base : ℕ
  pub k : ℕ
  pub read : first_read row.instr ≡ Some base_register
  pub base_known : s.register Before base_register ≡ Some base
  pub below_places : k < rules.places row
  pub below_four : k < 4
  pub address : a ≡ beside (plus base (offset_of row.instr)) k

-- the registers and bytes that a row's rules look at: those that it reads, before it; the one that
-- it writes, after it; its bytes
abbrev pub IsRowCell : Rules → StepRow → Seen → When → Cell → Type 0
IsRowCell rules row s Before (Register r) = (first_read row.instr ≡ Some r) ⊎ (second_read row.instr ≡ Some r)
IsRowCell rules row s After (Register r) = written_by row.instr ≡ Some r
IsRowCell rules row s w (Byte a) = IsRowByte rules row s a

-- a value that fits a byte; a register takes any word
abbrev pub Fits : Cell → ℕ → Type 0
Fits (Register r) v = Unit {0}
Fits (Byte a) v = v < 2 ^ 8

-- it has all that the conclusion rests on, with the same values
abbrev pub HasNeeds : Rules → StepRow → Seen → Conclusion → Seen → Type 0
HasNeeds rules row s d t = (n : Premise) → Contains (rules.needs row s d) n → seen_cell t n.when n.cell ≡ seen_cell s n.when n.cell

-- two views have the same of each of the row's own cells
abbrev pub HasSameCells : Rules → StepRow → Seen → Seen → Type 0
HasSameCells rules row s t = (w : When) (c : Cell) → IsRowCell rules row s w c → seen_cell t w c ≡ seen_cell s w c

-- a step by the row that has all that is seen
pub record IsSeenStep (image_end : ℕ) (row : StepRow) (view : Seen) (before after : State) : Type 0 where
  pub state_before : IsState before
  pub state_after : IsState after
  pub step : IsStep image_end row before after
  pub meets : Meets view before after

pub record AreLawfulRules (rules : Rules) : Type 0 where
  -- each conclusion holds in each step that has all that is seen
  pub sound : (image_end : ℕ) (row : StepRow) (view : Seen) (before after : State) (d : Conclusion) → IsLawful view → IsSeenStep image_end row view before after → Contains (rules.infer row view) d → held (state_at before after d.when) d.cell ≡ d.value
  -- conclusions are on the row's own cells, never on x0, and their values fit
  pub own : (row : StepRow) (view : Seen) (d : Conclusion) → IsLawful view → Contains (rules.infer row view) d → IsRowCell rules row view d.when d.cell × IsCell d.cell × Fits d.cell d.value
  -- so is what they rest on, which is known
  pub needs_own : (row : StepRow) (view : Seen) (d : Conclusion) (n : Premise) → IsLawful view → Contains (rules.infer row view) d → Contains (rules.needs row view d) n → IsRowCell rules row view n.when n.cell × ((v : ℕ) × (seen_cell view n.when n.cell ≡ Some v))
  -- and it is enough
  pub needs_enough : (row : StepRow) (s t : Seen) (d : Conclusion) → IsLawful s → IsLawful t → Contains (rules.infer row s) d → HasNeeds rules row s d t → Contains (rules.infer row t) d
  -- the row's own cells tell all that a conclusion rests on
  pub needs_told : (row : StepRow) (s t : Seen) (d : Conclusion) → HasSameCells rules row s t → rules.needs row t d ≡ rules.needs row s d
  pub few_inferred : (row : StepRow) (view : Seen) → length (rules.infer row view) ≤ 16
  pub few_needs : (row : StepRow) (view : Seen) (d : Conclusion) → length (rules.needs row view d) ≤ 10
  pub few_places : (row : StepRow) → rules.places row ≤ 8
  -- a byte's slot is one of the row's places
  pub slot_inside : (row : StepRow) (view : Seen) (d : Conclusion) (a : ℕ) → IsLawful view → Contains (rules.infer row view) d → d.cell ≡ Byte a → d.slot < rules.places row
  -- for one value of the base, a slot stands for one moment and one address, whatever else is known
  pub slot_once : (row : StepRow) (s t : Seen) (d e : Conclusion) (a b r : ℕ) → IsLawful s → IsLawful t → Contains (rules.infer row s) d → Contains (rules.infer row t) e → d.cell ≡ Byte a → e.cell ≡ Byte b → first_read row.instr ≡ Some r → s.register Before r ≡ t.register Before r → d.slot ≡ e.slot → (d.when ≡ e.when) × (a ≡ b)
  -- each byte that the step writes is touched
  pub covers : (image_end : ℕ) (row : StepRow) (view : Seen) (before after : State) (a : ℕ) → IsLawful view → IsSeenStep image_end row view before after → a < 2 ^ 32 → Writes image_end row before after a → rules.touched row view image_end a ≡ true
  -- where the row is sure, each byte that is touched is written
  pub certain : (image_end : ℕ) (row : StepRow) (view : Seen) (before after : State) (a : ℕ) → IsLawful view → IsSeenStep image_end row view before after → a < 2 ^ 32 → rules.sure row view ≡ true → rules.touched row view image_end a ≡ true → Writes image_end row before after a
  -- where more is known, no more bytes are touched, and what was sure stays sure
  pub touched_less : (image_end : ℕ) (row : StepRow) (s t : Seen) (a : ℕ) → IsLawful s → IsLawful t → KnowsMore s t → a < 2 ^ 32 → rules.touched row t image_end a ≡ true → rules.touched row s image_end a ≡ true
  pub sure_more : (row : StepRow) (s t : Seen) → IsLawful s → IsLawful t → KnowsMore s t → rules.sure row s ≡ true → rules.sure row t ≡ true
  -- the ranges of the registers that tell a row's bytes are all that tells them
  pub told : (image_end : ℕ) (row : StepRow) (s t : Seen) (a : ℕ) → All (λ x. s.range x.when x.register ≡ t.range x.when x.register) (rules.tells row) → rules.touched row s image_end a ≡ rules.touched row t image_end a
