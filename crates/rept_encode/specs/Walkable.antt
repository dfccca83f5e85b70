-- Rows that a hart can execute one after another, as far as their addresses tell (RISC-V
-- unprivileged manual 20191213, chapters 1.5, 2.2,
-- 2.5, 2.8 and 16). Whether code may be compressed is a Bool.
use Rattle.std.specs.Prelude.{◌≡◌, ℕ, ◌+◌, ◌<◌, ◌≤◌, ◌%◌, Bool, true, false, List, length, slice_get, Some, ◌⊎◌, if◌then◌else◌}
use Rattle.std.specs.List.{All}
use Rattle.rept_isa.specs.declared.row.StepRow.{StepRow}
use Rattle.rept_isa.specs.Numbers.{plus, following}
use Rattle.rept_isa.specs.Rows.{Addresses, addresses_of}
use Rattle.rept_path.specs.declared.flow.Flow.{Flow}
use Rattle.rept_path.specs.declared.flow.Flow.TheVariants.{Plain, Branch, Jump, Fixed, Far, Call, Stop}
use Rattle.rept_path.specs.Code.{flow_of, jumps_far}

-- instructions stand at multiples of this
abbrev pub alignment_by : Bool → ℕ
alignment_by halves = if halves then 2 else 4

-- An instruction with these addresses leads to the next one, for some values of the registers. An
-- uninferable jump leads to each address where an instruction may stand; a breakpoint leads
-- nowhere.
abbrev pub MayLead : Bool → Flow → Addresses → Type 0
MayLead halves Plain a = a.next ≡ following a.from
MayLead halves (Branch imm) a = (a.next ≡ plus a.at imm) ⊎ (a.next ≡ following a.from)
MayLead halves (Jump imm) a = a.next ≡ plus a.at imm
MayLead halves (Fixed to) a = a.next ≡ to
MayLead halves Far a = a.next % alignment_by halves ≡ 0
MayLead halves Call a = a.next ≡ following a.from
MayLead halves Stop a = ⊥

abbrev pub calls : Flow → Bool
calls Call = true
calls _ = false

-- The row stands where an instruction may stand, goes where its instruction may lead, and is marked
-- as a call where it is one. It is short only where code may be compressed.
pub record IsStepped (halves : Bool) (row : StepRow) : Type 0 where
  pub aligned : row.at % alignment_by halves ≡ 0
  pub lead : MayLead halves (flow_of row.instr) (addresses_of row)
  pub call : row.call ≡ calls (flow_of row.instr)
  pub long : halves ≡ false → row.short ≡ false

-- There is a row, and each one is a step.
pub record IsWalkable (halves : Bool) (rows : List StepRow) : Type 0 where
  pub some : 0 < length rows
  pub steps : All (IsStepped halves) rows

-- No row before this number is a call.
abbrev pub AreStraight : List StepRow → ℕ → Type 0
AreStraight rows i = (j : ℕ) (row : StepRow) → j < i → slice_get rows j ≡ Some row → row.call ≡ false

-- The row of this number is a call, and the one before it an uninferable jump.
pub record IsJumpEnd (rows : List StepRow) (i : ℕ) : Type 0 where
  pub jump : StepRow
  pub call : StepRow
  pub before : ℕ
  pub next : i ≡ before + 1
  pub jumps : slice_get rows before ≡ Some jump
  pub far : jumps_far (flow_of jump.instr) ≡ true
  pub follows : slice_get rows i ≡ Some call
  pub is_call : call.call ≡ true

-- It is the first such row.
pub record IsFirstJumpEnd (rows : List StepRow) (i : ℕ) : Type 0 where
  pub there : IsJumpEnd rows i
  pub first : (j : ℕ) → IsJumpEnd rows j → i ≤ j
