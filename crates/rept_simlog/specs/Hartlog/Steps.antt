-- The steps that entries of a log tell over the code of a program. An entry's step leads to the
-- address of the next entry of its thread, however many entries of other threads stand between the
-- two. The last entry of a thread, where it stopped, has no step.
use Rattle.std.specs.Prelude.{◌≡◌, ◌⊎◌, ℕ, ◌==◌, List, [], ◌∷◌, ◌++◌, Option, None, Some, Ok, Err, if◌then◌else◌}
use Rattle.rept_isa.specs.declared.instr.Instr.{Instr}
use Rattle.rept_isa.specs.declared.row.StepRow.{StepRow}
use Rattle.rept_path.specs.declared.fault.PathFault.{PathFault}
use Rattle.rept_path.specs.Code.{Code, look, is_short}
use Rattle.rept_encode.specs.Walkable.{IsStepped}
use Rattle.rept_encode.specs.Added.{AskedStep, asked_of, MayAddStep}
use Rattle.rept_simlog.specs.Program.{site_of}
use Rattle.rept_simlog.specs.declared.hartlog.log.HartLogLine.{HartLogLine}

-- the address of the first of these entries that is of the thread
abbrev pub next_address : List HartLogLine → ℕ → Option ℕ
next_address [] thread = None
next_address (entry ∷ entries) thread = if entry.thread == thread then Some entry.address else next_address entries thread

-- The row is the step of an entry to an address, by the instruction that stands there.
pub record IsEntryStep (code : Code) (from : HartLogLine) (to : ℕ) (row : StepRow) : Type 0 where
  pub stepped : IsStepped code.halves row
  pub at : row.at ≡ from.address
  pub next : row.next ≡ to
  pub instr : look code row.at ≡ Ok row.instr
  pub short : row.short ≡ is_short code row.at

-- One row was added, the step of an entry to an address.
pub record AddsLoggedRow (code : Code) (old new : List StepRow) (from : HartLogLine) (to : ℕ) : Type 0 where
  pub row : StepRow
  pub rows : new ≡ old ++ row ∷ []
  pub step : IsEntryStep code from to row

-- an entry with its step
pub record Logged : Type 0 where
  pub entry : HartLogLine
  pub row : StepRow

abbrev pub logged_as : HartLogLine → StepRow → Logged
logged_as entry row = record { entry = entry; row = row }

-- These are, in order, the entries that aren't the last ones of their threads, each with its step.
-- The rest follows them in the log.
abbrev pub AreLoggedThen : Code → List HartLogLine → List HartLogLine → List Logged → Type 0
AreLoggedThen code [] rest logged = logged ≡ []
AreLoggedThen code (entry ∷ entries) rest logged = ((next_address (entries ++ rest) entry.thread ≡ None) × AreLoggedThen code entries rest logged) ⊎ ((to : ℕ) × (row : StepRow) × (later : List Logged) × (next_address (entries ++ rest) entry.thread ≡ Some to) × (logged ≡ logged_as entry row ∷ later) × IsEntryStep code entry to row × AreLoggedThen code entries rest later)

-- These are the steps of all entries.
abbrev pub AreLogged : Code → List HartLogLine → List Logged → Type 0
AreLogged code entries logged = AreLoggedThen code entries [] logged

-- All entries before this one have their steps, and the next one of its thread is at this address.
pub record IsEntryReached (code : Code) (entries : List HartLogLine) (from : HartLogLine) (to : ℕ) : Type 0 where
  pub before : List HartLogLine
  pub after : List HartLogLine
  pub order : entries ≡ before ++ from ∷ after
  pub logged : List Logged
  pub steps : AreLoggedThen code before (from ∷ after) logged
  pub next : next_address after from.thread ≡ Some to

-- the step of an instruction from an entry to an address
abbrev pub step_asked : Code → Instr → HartLogLine → ℕ → AskedStep
step_asked code instr from to = asked_of code.halves (site_of code from.address instr) to

-- No instruction can have run at the entry's address, by this fault.
abbrev pub HasNoInstruction : Code → HartLogLine → PathFault → Type 0
HasNoInstruction code from fault = look code from.address ≡ Err fault

-- The instruction at the entry's address doesn't lead to this one.
abbrev pub HasNoStep : Code → HartLogLine → ℕ → Type 0
HasNoStep code from to = (instr : Instr) × (look code from.address ≡ Ok instr) × (MayAddStep (step_asked code instr from to) → ⊥)

-- The entry of this line is the first one that has no step though its thread goes on, since no
-- instruction can have run there.
abbrev pub LacksInstruction : Code → List HartLogLine → ℕ → PathFault → Type 0
LacksInstruction code entries line fault = (from : HartLogLine) × (to : ℕ) × IsEntryReached code entries from to × (from.line ≡ line) × HasNoInstruction code from fault

-- The entry of this line is the first one from which the code can't go on to where its thread goes
-- on.
abbrev pub LacksStep : Code → List HartLogLine → ℕ → Type 0
LacksStep code entries line = (from : HartLogLine) × (to : ℕ) × IsEntryReached code entries from to × (from.line ≡ line) × HasNoStep code from to
