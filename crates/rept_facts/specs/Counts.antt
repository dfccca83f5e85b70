-- How many rows a path has, of which kind, and how much is known along it. This project's own; what
-- a store and an environment call are is in the RISC-V unprivileged manual 20191213, chapters 2.6
-- and 2.8.
use Rattle.std.specs.Prelude.{◌≡◌, ℕ, ◌+◌, Bool, true, false, not, Option, Some, None, is_some}
use Rattle.rept_isa.specs.declared.instr.Instr.{Instr}
use Rattle.rept_isa.specs.declared.instr.Instr.TheVariants.{Store}
use Rattle.rept_isa.specs.declared.row.StepRow.{StepRow}
use Rattle.rept_isa.specs.Operands.{is_call}
use Rattle.rept_reason.specs.Facts.{Knowledge, register_known, register_fact}
use Rattle.rept_span.specs.Ranges.{Legs}
use Rattle.rept_report.specs.Setting.{Setting}
use Rattle.rept_report.specs.declared.counts.Counts.{Counts}
use Rattle.rept_facts.specs.Sums.{count_true, sum_to}

-- the register of a store's base
abbrev pub base_of : Instr → Option ℕ
base_of (Store op rs1 rs2 imm) = Some rs1
base_of _ = None

-- whether there is a base, and it is known before row i or isn't
abbrev pub is_base : Bool → Knowledge → ℕ → Option ℕ → Bool
is_base known K i None = false
is_base true K i (Some r) = is_some (register_known K i r)
is_base false K i (Some r) = not (is_some (register_known K i r))

abbrev pub is_store : Bool → Knowledge → ℕ → Instr → Bool
is_store known K i instr = is_base known K i (base_of instr)

abbrev pub row_is : Option StepRow → (Instr → Bool) → Bool
row_is None test = false
row_is (Some row) test = test row.instr

-- from how many of the first n points a row leads
abbrev pub rows_below : Legs → ℕ → ℕ
rows_below legs n = count_true (λ i. is_some (legs.row i)) n

-- how many of the first n rows are environment calls
abbrev pub calls_below : Legs → ℕ → ℕ
calls_below legs n = count_true (λ i. row_is (legs.row i) is_call) n

-- how many of them are stores of a known base, or of an unknown one
abbrev pub stores_below : Legs → Knowledge → Bool → ℕ → ℕ
stores_below legs K known n = count_true (λ i. row_is (legs.row i) (is_store known K i)) n

-- how many of the first n registers other than x0 are known at a point
abbrev pub known_at : Knowledge → ℕ → ℕ → ℕ
known_at K p n = count_true (λ r. is_some (register_fact K p r)) n

-- how many are at all of the first n points
abbrev pub known_below : Knowledge → ℕ → ℕ
known_below K n = sum_to (λ p. known_at K p 32) n

-- these are the numbers of a path along which so much is known
pub record IsCounted {W : Type 0} (S : Setting W) (K : Knowledge) (counts : Counts) : Type 0 where
  pub steps : counts.steps ≡ rows_below S.legs S.legs.count
  pub calls : counts.calls ≡ calls_below S.legs S.legs.count
  pub registers : counts.registers ≡ known_below K (S.legs.count + 1)
  pub exact : counts.exact ≡ stores_below S.legs K true S.legs.count
  pub inexact : counts.inexact ≡ stores_below S.legs K false S.legs.count
