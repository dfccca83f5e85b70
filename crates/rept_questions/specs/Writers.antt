-- The steps of a thread that wrote one of some bytes before a point, or may have. This project's own.
use Rattle.std.specs.Prelude.{ℕ, ◌+◌, ◌-◌, ◌%◌, ◌^◌, List, Bool, true, false, not, ◌==◌, ◌&&◌, ◌||◌, nat_lt, Option, None, Some, is_some, slice_get, if◌then◌else◌}
use Rattle.std.specs.List.{filter, list_any, range_with_len}
use Rattle.rept_report.specs.declared.writer.Writer.{Writer}
use Rattle.rept_report.specs.declared.writer.Writer.TheVariants as writer
use Rattle.rept_isa.specs.declared.instr.Instr.{Instr}
use Rattle.rept_isa.specs.declared.instr.Instr.TheVariants.{Store, Amo}
use Rattle.rept_isa.specs.declared.instr.StoreOp.{StoreOp}
use Rattle.rept_isa.specs.declared.instr.StoreOp.TheVariants as stores
use Rattle.rept_isa.specs.declared.row.StepRow.{StepRow}
use Rattle.rept_isa.specs.Operands.{is_call}
use Rattle.rept_findings.specs.Shown.{Shown, moment_at, number}
use Rattle.rept_findings.specs.Texts.{wrapped}
use Rattle.rept_questions.specs.Trail.{address_by, base_of, falling, own_step}
use Rattle.rept_questions.specs.declared.writers.SoughtBytes.{SoughtBytes}
use Rattle.rept_findings.specs.declared.place.ThreadPoint.{ThreadPoint}

-- two steps are one
abbrev pub is_step : ThreadPoint → ThreadPoint → Bool
is_step c step = (step.thread == c.thread) && (step.point == c.point)

-- a writer that is told is this step, for certain or not
abbrev pub names : Shown → ThreadPoint → Writer → Bool
names s c (writer.Writes row) = is_step c (s.point row)
names s c (writer.MayWrite row) = is_step c (s.point row)
names s c writer.Several = false
names s c writer.None = false

-- a writer that is told is this step for certain
abbrev pub names_surely : Shown → ThreadPoint → Writer → Bool
names_surely s c (writer.Writes row) = is_step c (s.point row)
names_surely s c _ = false

-- what is told of the last writer of a byte at the point after a step
abbrev pub writer_after : Shown → ℕ → ThreadPoint → Writer
writer_after s a c = s.writer (moment_at s (record { thread = c.thread; point = c.point + 1 })) a

-- how many bytes an instruction stores
abbrev pub stored_by : StoreOp → ℕ
stored_by stores.Sb = 1
stored_by stores.Sh = 2
stored_by stores.Sw = 4

abbrev pub stored : Instr → ℕ
stored (Store op rs1 rs2 imm) = stored_by op
stored (Amo op rd rs1 rs2) = 4
stored _ = 0

-- a byte is one of so many from an address on, as far as that is known
abbrev pub is_among : ℕ → ℕ → Option ℕ → Bool
is_among a count None = true
is_among a count (Some address) = nat_lt ((a + (2 ^ 32 - address)) % 2 ^ 32) count

-- a step that calls, or stores to a byte as far as its address is known
abbrev pub may_touch : Shown → ℕ → ℕ → Instr → Bool
may_touch s point a instr = if is_call instr then true else if stored instr == 0 then false else is_among a (stored instr) (address_by s point (base_of instr))

abbrev pub row_touches : Shown → ℕ → ThreadPoint → Option StepRow → Bool
row_touches s a c None = false
row_touches s a c (Some row) = may_touch s (number s c) a row.instr

abbrev pub touches : Shown → ℕ → ThreadPoint → Bool
touches s a c = row_touches s a c (slice_get (s.rows c.thread) c.point)

-- such a step that is told to be the last writer of a byte, right after it, or that it may be
abbrev pub is_writer : Shown → ℕ → ThreadPoint → Bool
is_writer s a c = touches s a c && names s c (writer_after s a c)

-- a step that stores or calls; no other may write memory
abbrev pub is_store : Option StepRow → Bool
is_store None = false
is_store (Some row) = is_call row.instr || not (stored row.instr == 0)

-- a step is one that wrote one of some bytes, or may have
abbrev pub is_some_writer : Shown → SoughtBytes → ThreadPoint → Bool
is_some_writer s b c = list_any (λ i. is_writer s (wrapped (b.address + i)) c) (range_with_len 0 b.count)

abbrev pub writes_some : Shown → SoughtBytes → ThreadPoint → Bool
writes_some s b c = is_store (slice_get (s.rows c.thread) c.point) && is_some_writer s b c

-- the steps before a point that wrote one of some bytes, or may have, from the newest on
abbrev pub writers_before : Shown → SoughtBytes → ThreadPoint → List ℕ
writers_before s b c = filter (λ k. writes_some s b (record { thread = c.thread; point = k })) (falling c.point)

-- a step is known to have written a byte
abbrev pub is_sure_writer : Shown → ℕ → ThreadPoint → Bool
is_sure_writer s a c = touches s a c && names_surely s c (writer_after s a c)

-- it is known where a step writes: a call tells it, and a store whose address is known
abbrev pub has_place : Shown → ThreadPoint → Instr → Bool
has_place s c instr = is_call instr || is_some (address_by s (number s c) (base_of instr))

-- a step is known to have written one of some bytes
abbrev pub is_sure_of_some : Shown → SoughtBytes → ThreadPoint → Bool
is_sure_of_some s b c = list_any (λ i. is_sure_writer s (wrapped (b.address + i)) c) (range_with_len 0 b.count)

-- after a step of the thread, or else the point itself
abbrev pub after_step : ThreadPoint → Option ℕ → ℕ
after_step c None = c.point
after_step c (Some step) = step + 1

-- where what is told of a byte's last writer at a point names none of the steps up to the point
abbrev pub quiet_after : Shown → ThreadPoint → Writer → ℕ
quiet_after s c (writer.Writes row) = after_step c (own_step c (s.point row))
quiet_after s c (writer.MayWrite row) = after_step c (own_step c (s.point row))
quiet_after s c writer.Several = c.point
quiet_after s c writer.None = 0
