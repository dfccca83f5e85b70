-- What the lines of `writers` claim of an execution. HEX below is `0x` and eight lower-case
-- hexadecimal digits. This project's own.
use Rattle.std.specs.Prelude.{◌≡◌, ◌⊎◌, ℕ, ◌+◌, ◌<◌, ◌==◌, List, [], ◌∷◌, ◌++◌, map, Bool, true, false, Option, None, Some, slice_get, codes, MatchBool, if◌then◌else◌}
use Rattle.std.specs.List.{All, AllPairs, Contains, filter, flat_map, range_with_len}
use Rattle.rept_isa.specs.declared.instr.Instr.{Instr}
use Rattle.rept_isa.specs.declared.row.StepRow.{StepRow}
use Rattle.rept_isa.specs.Operands.{is_call}
use Rattle.rept_steps.specs.Course.{Row, row_of}
use Rattle.rept_order.specs.Writers.{Writer}
use Rattle.rept_order.specs.Writers.Writer.{writes, may_write, several, none}
use Rattle.rept_findings.specs.Shown.{Shown}
use Rattle.rept_findings.specs.Texts.{at, wrapped}
use Rattle.rept_findings.specs.declared.place.ThreadPoint.{ThreadPoint}
use Rattle.rept_questions.specs.Texts.{group_counts, group_of, is_value, left_line, named_row}
use Rattle.rept_questions.specs.Trail.{bytes_from}
use Rattle.rept_questions.specs.Writers.{stored}
use Rattle.rept_questions.specs.declared.writers.SoughtBytes.{SoughtBytes}
use Rattle.rept_app.specs.TrueSteps.{address_in}
use Rattle.rept_app.specs.TrueValues.{IsWriterLineTrue, PointHeld}

-- the bytes that are asked for, and the point before which steps may have written them
pub record WritersAsked : Type 0 where
  pub cursor : ThreadPoint
  pub bytes : SoughtBytes

abbrev pub writers_asked : ThreadPoint → ℕ → ℕ → WritersAsked
writers_asked c a count = record { cursor = c; bytes = record { address = a; count = count } }

-- the addresses of these bytes
abbrev pub addresses : SoughtBytes → List ℕ
addresses b = map (λ i. wrapped (b.address + i)) (range_with_len 0 b.count)

-- the step wrote the byte: right after the step it is the last one that did
abbrev pub Wrote : (ThreadPoint → PointHeld) → ThreadPoint → ℕ → Type 0
Wrote held step a = (held (at step.thread (step.point + 1))).last_writer a (writes (row_of step.thread step.point))

-- the step wrote one of these bytes
abbrev pub WroteOneOf : (ThreadPoint → PointHeld) → ThreadPoint → List ℕ → Type 0
WroteOneOf held step bytes = (a : ℕ) × Contains bytes a × Wrote held step a

-- the bytes that an instruction stores, by the values of registers
abbrev pub bytes_stored : (ℕ → ℕ) → Instr → List ℕ
bytes_stored register instr = bytes_from (stored instr) (address_in register instr)

-- the step is no call, and stores nothing to the byte
abbrev pub StoresElsewhere : (ThreadPoint → PointHeld) → Shown → ThreadPoint → ℕ → Type 0
StoresElsewhere held s step a = (row : StepRow) → slice_get (s.rows step.thread) step.point ≡ Some row → (is_call row.instr ≡ false) × (Contains (bytes_stored (held step).register row.instr) a → ⊥)

-- this row is the one that wrote last, or may be
abbrev pub IsNamedRow : Writer → Row → Type 0
IsNamedRow (writes r) step = r ≡ step
IsNamedRow (may_write r) step = r ≡ step
IsNamedRow several step = ⊥
IsNamedRow none step = ⊥

-- Right after the step another one is the last that wrote the byte, or none is. In a run that is
-- one path the step then didn't write it (`misses_none` in `proofs/PathWriters.antt`). With several
-- threads another one may have written it since, and `several` says nothing.
abbrev pub IsPassedOver : (ThreadPoint → PointHeld) → ThreadPoint → ℕ → Type 0
IsPassedOver held step a = (w : Writer) × (held (at step.thread (step.point + 1))).last_writer a w × (IsNamedRow w (row_of step.thread step.point) → ⊥)

-- the steps of the thread that are told, from the newest on; which of them are sure; and how many
-- older ones are left out
pub record WritersTold : Type 0 where
  pub steps : List ℕ
  pub is_sure : ℕ → Bool
  pub left : ℕ

-- a step before the cursor that isn't told, and isn't left out as older than all that are
pub record IsUntold (q : WritersAsked) (told : WritersTold) (j : ℕ) : Type 0 where
  pub before : j < q.cursor.point
  pub untold : Contains told.steps j → ⊥
  pub reached : (told.left ≡ 0) ⊎ ((k : ℕ) × Contains told.steps k × (k < j))

-- `J HEX NAME+0xOFFSET TEXT steps K sure S oldest I`, of the K told steps of an instruction, where
-- J is the newest of them: I is the oldest, and S of them are sure
abbrev pub group_told : Shown → (ℕ → Bool) → StepRow → List ℕ → ℕ → List ℕ
group_told s is_sure row group j = if is_value j (slice_get group 0) then named_row s j row ++ group_counts group (filter is_sure group) else []

abbrev pub step_told : Shown → WritersTold → ThreadPoint → Option StepRow → List ℕ
step_told s told step None = []
step_told s told step (Some row) = group_told s told.is_sure row (group_of s step.thread row.at told.steps) step.point

-- a line for each instruction, and `left out K`
abbrev pub lines_told : Shown → ℕ → WritersTold → List ℕ
lines_told s thread told = flat_map (λ j. step_told s told (at thread j) (slice_get (s.rows thread) j)) told.steps ++ left_line told.left

-- where no step is told: of one byte the line of `writer`, of several `no step of the thread`
abbrev pub IsNoStepTrue : (ThreadPoint → PointHeld) → Shown → WritersAsked → List ℕ → Type 0
IsNoStepTrue held s q text = MatchBool (q.bytes.count == 1) (IsWriterLineTrue s.threads (held q.cursor) q.bytes.address text) (text ≡ codes "no step of the thread" ++ 10 ∷ [])

-- Different steps of the thread before the cursor are told. Each sure one wrote one of the bytes.
-- Each step before the cursor that is neither told nor left out stores elsewhere, or another step
-- wrote the byte last, or none did. J, HEX, NAME, TEXT, K and I are the path's: they claim nothing
-- of values.
pub record IsWritersTrue (held : ThreadPoint → PointHeld) (s : Shown) (q : WritersAsked) (text : List ℕ) : Type 0 where
  pub told : WritersTold
  pub falls : AllPairs (λ x y. y < x) told.steps
  pub before : All (λ j. j < q.cursor.point) told.steps
  pub wrote : (j : ℕ) → Contains told.steps j → told.is_sure j ≡ true → WroteOneOf held (at q.cursor.thread j) (addresses q.bytes)
  pub others : (j a : ℕ) → IsUntold q told j → Contains (addresses q.bytes) a → StoresElsewhere held s (at q.cursor.thread j) a ⊎ IsPassedOver held (at q.cursor.thread j) a
  pub is : ((told.steps ≡ []) × (told.left ≡ 0) × IsNoStepTrue held s q text) ⊎ (text ≡ lines_told s q.cursor.thread told)
