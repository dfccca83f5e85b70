-- Where a value came from: the steps that wrote last what went into it. This project's own.
use Rattle.std.specs.Prelude.{◌≡◌, ℕ, zero, suc, ℤ, pos, ◌+◌, ◌<◌, ◌≤◌, ◌%◌, ◌^◌, ◌⊎◌, List, [], ◌∷◌, ◌++◌, length, map, Bool, true, false, ◌==◌, ◌&&◌, nat_lt, Option, None, Some, option_map, slice_get, if◌then◌else◌}
use Rattle.std.specs.List.{All, AllPairs, Contains, find, flat_map, range_with_len}
use Rattle.std.specs.Option.{option_to_list}
use Rattle.rept_isa.specs.declared.instr.Instr.{Instr}
use Rattle.rept_isa.specs.declared.instr.Instr.TheVariants.{Load, Store, Amo, Imm, Op}
use Rattle.rept_isa.specs.declared.instr.LoadOp.{LoadOp}
use Rattle.rept_isa.specs.declared.instr.LoadOp.TheVariants as loads
use Rattle.rept_isa.specs.declared.instr.AmoOp.{AmoOp}
use Rattle.rept_isa.specs.declared.instr.AmoOp.TheVariants as atomic
use Rattle.rept_isa.specs.declared.row.StepRow.{StepRow}
use Rattle.rept_isa.specs.Numbers.{plus}
use Rattle.rept_isa.specs.Operands.{second_read, written_by}
use Rattle.rept_report.specs.declared.writer.Writer.{Writer}
use Rattle.rept_report.specs.declared.writer.Writer.TheVariants as writer
use Rattle.rept_findings.specs.Shown.{Shown, moment_at, number}
use Rattle.rept_findings.specs.declared.place.ThreadPoint.{ThreadPoint}

-- the numbers below this one, from the greatest on
abbrev pub falling : ℕ → List ℕ
falling zero = []
falling (suc k) = k ∷ falling k

abbrev pub is_some_of : ℕ → Option ℕ → Bool
is_some_of r None = false
is_some_of r (Some written) = written == r

abbrev pub writes_register : ℕ → Option StepRow → Bool
writes_register r None = false
writes_register r (Some row) = is_some_of r (written_by row.instr)

-- the last step before a point that writes a register
abbrev pub register_source : List StepRow → ℕ → ℕ → Option ℕ
register_source rows point r = find (λ j. writes_register r (slice_get rows j)) (falling point)

-- a step of this thread that came before this point
abbrev pub own_step : ThreadPoint → ThreadPoint → Option ℕ
own_step c step = if (step.thread == c.thread) && nat_lt step.point c.point then Some step.point else None

abbrev pub sure_step : Shown → ThreadPoint → Writer → Option ℕ
sure_step s c (writer.Writes row) = own_step c (s.point row)
sure_step s c _ = None

-- the step of the thread that is known to have written a byte last
abbrev pub byte_source : Shown → ThreadPoint → ℕ → Option ℕ
byte_source s c a = sure_step s c (s.writer (moment_at s c) a)

-- the register of the address at which an instruction loads or stores, and what is added to it
abbrev pub base_of : Instr → Option (ℕ × ℤ)
base_of (Load op rd rs1 imm) = Some (rs1, imm)
base_of (Store op rs1 rs2 imm) = Some (rs1, imm)
base_of (Amo op rd rs1 rs2) = Some (rs1, pos 0)
base_of _ = None

-- the address itself, where the register is known
abbrev pub address_by : Shown → ℕ → Option (ℕ × ℤ) → Option ℕ
address_by s point None = None
address_by s point (Some base) = option_map (λ value. plus value base.1) (s.register point base.0)

-- how many bytes an instruction loads
abbrev pub loaded_by : LoadOp → ℕ
loaded_by loads.Lb = 1
loaded_by loads.Lh = 2
loaded_by loads.Lw = 4
loaded_by loads.Lbu = 1
loaded_by loads.Lhu = 2

abbrev pub atomic_loaded : AmoOp → ℕ
atomic_loaded atomic.Sc = 0
atomic_loaded _ = 4

abbrev pub loaded : Instr → ℕ
loaded (Load op rd rs1 imm) = loaded_by op
loaded (Amo op rd rs1 rs2) = atomic_loaded op
loaded _ = 0

abbrev pub bytes_from : ℕ → Option ℕ → List ℕ
bytes_from count None = []
bytes_from count (Some address) = map (λ i. (address + i) % 2 ^ 32) (range_with_len 0 count)

-- the bytes that a step reads, where their address is known
abbrev pub bytes_read : Shown → ThreadPoint → Instr → List ℕ
bytes_read s c instr = bytes_from (loaded instr) (address_by s (number s c) (base_of instr))

-- a register that is read; x0 has no writer
abbrev pub unless_zero : Option ℕ → List ℕ
unless_zero None = []
unless_zero (Some r) = if r == 0 then [] else r ∷ []

abbrev pub is_none_of : List ℕ → Bool
is_none_of [] = true
is_none_of (r ∷ rs) = false

-- the register in the place of rs1, where its value goes into the result; that of a load, a store
-- or a jump tells a place
abbrev pub first_value : Instr → Option ℕ
first_value (Imm op rd rs1 imm) = Some rs1
first_value (Op op rd rs1 rs2) = Some rs1
first_value _ = None

-- the registers whose values go into what a step writes
abbrev pub registers_read : Instr → List ℕ
registers_read instr = unless_zero (first_value instr) ++ unless_zero (second_read instr)

-- it reads no register but x0, and no byte
abbrev pub is_constant : Instr → Bool
is_constant instr = is_none_of (registers_read instr) && (loaded instr == 0)

abbrev pub register_sources : List StepRow → ℕ → List ℕ → List ℕ
register_sources rows point registers = flat_map (λ r. option_to_list (register_source rows point r)) registers

abbrev pub byte_sources : Shown → ThreadPoint → List ℕ → List ℕ
byte_sources s c bytes = flat_map (λ a. option_to_list (byte_source s c a)) bytes

-- the steps that wrote last what a step reads: those before it in its thread that are known to
abbrev pub row_sources : Shown → ThreadPoint → Option StepRow → List ℕ
row_sources s c None = []
row_sources s c (Some row) = register_sources (s.rows c.thread) c.point (registers_read row.instr) ++ byte_sources s c (bytes_read s c row.instr)

abbrev pub sources_of : Shown → ThreadPoint → List ℕ
sources_of s c = row_sources s c (slice_get (s.rows c.thread) c.point)

module _ (s : Shown) (thread first : ℕ) where
  abbrev pub here : ℕ → ThreadPoint
  here j = record { thread = thread; point = j }

  -- steps that lead from the first one to this one, each of them a source of the one before it
  abbrev pub Lead : List ℕ → ℕ → Type 0
  Lead [] k = k ≡ first
  Lead (j ∷ js) k = Contains (sources_of s (here j)) k × Lead js j

  -- the least set of steps with the first one and the sources of each of its steps
  abbrev pub IsTraced : ℕ → Type 0
  IsTraced k = (js : List ℕ) × Lead js k

  -- The steps of that set from the newest on: all of them, or the newest 64 where there are more.
  pub record IsTrail (rows : List ℕ) (more : Bool) : Type 0 where
    pub right : (k : ℕ) → Contains rows k → IsTraced k
    pub whole : (k : ℕ) → IsTraced k → Contains rows k ⊎ ((more ≡ true) × All (λ j. k < j) rows)
    pub falls : AllPairs (λ x y. y < x) rows
    pub left : more ≡ true → (length rows ≡ 64) × ((k : ℕ) × (IsTraced k × All (λ j. k < j) rows))

abbrev pub greater_of : Option ℕ → ℕ → Option ℕ
greater_of None x = Some x
greater_of (Some k) x = if nat_lt k x then Some x else Some k

-- the greater one of two numbers, where the second is below a limit
abbrev pub greater : ℕ → Option ℕ → ℕ → Option ℕ
greater limit greatest x = if nat_lt x limit then greater_of greatest x else greatest

-- the greatest of some numbers that are below a limit
abbrev pub IsGreatest : ℕ → List ℕ → Option ℕ → Type 0
IsGreatest limit numbers None = All (λ k. limit ≤ k) numbers
IsGreatest limit numbers (Some found) = (found < limit) × (Contains numbers found × All (λ k. k < limit → k ≤ found) numbers)
