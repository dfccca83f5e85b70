-- What a session answers to questions of the path and of its values. HEX below is `0x` and eight
-- lower-case hexadecimal digits. This project's own.
use Rattle.std.specs.Prelude.{◌≡◌, ℕ, ℤ, ◌+◌, ◌-◌, ◌%◌, ◌^◌, min, List, [], ◌∷◌, ◌++◌, length, map, reverse, take, Bool, true, false, is_none, ◌==◌, ◌&&◌, Option, None, Some, slice_get, codes, MatchBool, if◌then◌else◌}
use Rattle.std.specs.List.{filter, find, flat_map, range_with_len}
use Rattle.std.specs.Option.{option_and_then}
use Rattle.std.specs.Fmt.{decimal}
use Rattle.rept_elf.specs.Symbols.{FunctionSymbol}
use Rattle.rept_questions.specs.Frames.Frames.{frames_of}
use Rattle.rept_isa.specs.declared.instr.Instr.{Instr}
use Rattle.rept_isa.specs.Operands.{first_read, is_call, second_read, written_by}
use Rattle.rept_word.specs.Hex.{hex_word}
use Rattle.rept_isa.specs.declared.row.StepRow.{StepRow}
use Rattle.rept_isa.specs.Texts.{hex_text, instruction_text, register_text}
use Rattle.rept_reason.specs.declared.fact.Fact.{Fact}
use Rattle.rept_reason.specs.declared.fact.Cell.{Cell}
use Rattle.rept_reason.specs.declared.fact.Cell.TheVariants.{Register, Byte}
use Rattle.rept_report.specs.Why.{Because}
use Rattle.rept_report.specs.declared.writer.Writer.{Writer}
use Rattle.rept_report.specs.declared.writer.Writer.TheVariants as writer
use Rattle.rept_findings.specs.Shown.{SessionTold, Shown, moment_at, number}
use Rattle.rept_findings.specs.declared.findings.BeyondRule.{BeyondRule}
use Rattle.rept_findings.specs.declared.place.ThreadPoint.{ThreadPoint}
use Rattle.rept_questions.specs.Spots.{point_text, points_where, spots_line}
use Rattle.rept_questions.specs.Trail.{IsTrail, address_by, base_of, byte_source, bytes_read, is_constant, register_source, registers_read}
use Rattle.rept_questions.specs.Writers.{has_place, is_sure_of_some}
use Rattle.rept_questions.specs.declared.writers.SoughtBytes.{SoughtBytes}
use Rattle.rept_findings.specs.Texts.{at, looked_line, pc_at, premise_line, rule_line, value_text, visible, writer_line, writer_text}

-- ` NAME+0xOFFSET`: the function that has an address, and how far the address is from its first
-- one; nothing where none is named
abbrev pub function_text : ℕ → Option FunctionSymbol → List ℕ
function_text address None = []
function_text address (Some s) = codes " " ++ map visible s.name ++ codes "+" ++ hex_text ((address + (2 ^ 32 - s.value)) % 2 ^ 32)

-- `#K HEX`, and the function that has the address; nothing where the stack has no such place
abbrev pub place_line : ℕ → Option ℕ → Option FunctionSymbol → List ℕ
place_line k None function = []
place_line k (Some address) function = codes "#" ++ decimal k ++ codes " " ++ hex_word address ++ function_text address function ++ 10 ∷ []

-- the same, with the function that is named of the address
abbrev pub frame_line : Shown → ℕ → Option ℕ → List ℕ
frame_line s k place = place_line k place (option_and_then s.symbol place)

-- the address at a point, and those of the calls that the thread is in there, the last call first
abbrev pub stack_at : Shown → ThreadPoint → List ℕ
stack_at s c = pc_at s c ∷ reverse (map (λ f. f.at) (frames_of (take c.point (s.rows c.thread))))

-- the first 256 places of the stack
unfoldable pub stack_lines : Shown → ThreadPoint → List ℕ
stack_lines s c = flat_map (λ k. frame_line s k (slice_get (stack_at s c) k)) (range_with_len 0 256)

-- `rule N`, its premises, and the ranges that it looked at
abbrev pub reason_lines : Shown → Because → List ℕ
reason_lines s why = codes "rule " ++ decimal why.rule ++ 10 ∷ [] ++ flat_map (premise_line s) why.premises ++ flat_map (looked_line s) why.ranges

-- the text tells a reason of the fact
abbrev pub IsReasoned : SessionTold → Fact → List ℕ → Type 0
IsReasoned t fact text = (why : Because) × (t.reasons fact why × (text ≡ reason_lines t.shown why))

-- the text tells by which rule a value was inferred that this step left
abbrev pub IsRuled : ℕ → List ℕ → Type 0
IsRuled row text = (rule : BeyondRule) × (text ≡ rule_line row rule)

abbrev pub or_first : Option ℕ → ℕ
or_first None = 0
or_first (Some step) = step

-- the step that left a register's value at a point of a thread; 0 where none wrote it
abbrev pub register_row : Shown → ThreadPoint → ℕ → ℕ
register_row s c r = or_first (register_source (s.rows c.thread) c.point r)

abbrev pub row_named : Shown → Writer → ℕ
row_named s (writer.Writes j) = (s.point j).point
row_named s (writer.MayWrite j) = (s.point j).point
row_named s writer.Several = 0
row_named s writer.None = 0

-- the step that is named as the last writer of a byte at a moment; 0 where none is
abbrev pub byte_row : Shown → ℕ → ℕ → ℕ
byte_row s moment a = row_named s (s.writer moment a)

-- why a cell has this value at a point or moment: `unknown` where it has none; where the value isn't
-- one of the report the step that left it, and a rule; else a reason of the fact
abbrev pub IsExplained : SessionTold → ℕ → ℕ → Cell → Option ℕ → List ℕ → Type 0
IsExplained t row point cell None text = text ≡ codes "unknown" ++ 10 ∷ []
IsExplained t row point cell (Some value) text =
    MatchBool (t.shown.is_inferred point cell) (IsRuled row text) (IsReasoned t (record { point = point; cell = cell; value = value }) text)

-- of a register, of which x0 always has one value
abbrev pub IsRegisterExplained : SessionTold → ThreadPoint → ℕ → List ℕ → Type 0
IsRegisterExplained t c r text =
    MatchBool (r == 0) (text ≡ codes "constant" ++ 10 ∷ []) (IsExplained t (register_row t.shown c r) (number t.shown c) (Register r) (t.shown.register (number t.shown c) r) text)

-- of a byte
abbrev pub IsByteExplained : SessionTold → ThreadPoint → ℕ → List ℕ → Type 0
IsByteExplained t c a text = IsExplained t (byte_row t.shown (moment_at t.shown c) a) (moment_at t.shown c) (Byte a) (t.shown.byte (moment_at t.shown c) a) text

-- a space, a register, and its value or `unknown`
abbrev pub operand_text : Shown → ℕ → ℕ → List ℕ
operand_text s point r = codes " " ++ register_text r ++ codes " " ++ value_text (s.register point r)

abbrev pub second_text : Shown → ℕ → Option ℕ → List ℕ
second_text s point None = []
second_text s point (Some r) = operand_text s point r

-- ` reads xN HEX xM HEX`: the registers in the places of rs1 and rs2, with their values at a point
abbrev pub reads_text : Shown → ℕ → Option ℕ → Option ℕ → List ℕ
reads_text s point None second = []
reads_text s point (Some r) second = codes " reads" ++ operand_text s point r ++ second_text s point second

-- ` writes xN HEX`: the register that is written, with its value at a point
abbrev pub writes_text : Shown → ℕ → Option ℕ → List ℕ
writes_text s point None = []
writes_text s point (Some r) = codes " writes" ++ operand_text s point r

abbrev pub address_text : Option (ℕ × ℤ) → Option ℕ → List ℕ
address_text None address = []
address_text (Some base) address = codes " address " ++ value_text address

-- ` address HEX`, of an instruction that loads or stores
abbrev pub access_text : Shown → ℕ → Instr → List ℕ
access_text s point instr = address_text (base_of instr) (address_by s point (base_of instr))

-- `J HEX NAME+0xOFFSET TEXT`: a step, its address, the function there, and its instruction
abbrev pub named_row : Shown → ℕ → StepRow → List ℕ
named_row s j row = decimal j ++ codes " " ++ hex_word row.at ++ function_text row.at (s.symbol row.at) ++ codes " " ++ instruction_text row.at row.instr

-- a step, the values that it reads, its address of memory, and the value that it leaves in a
-- register
abbrev pub executed_text : Shown → ThreadPoint → StepRow → List ℕ
executed_text s c row =
    named_row s c.point row ++ reads_text s (number s c) (first_read row.instr) (second_read row.instr) ++ access_text s (number s c) row.instr ++ writes_text s (number s c + 1) (written_by row.instr)

-- the line of a step and its values
abbrev pub executed_line : Shown → ThreadPoint → StepRow → List ℕ
executed_line s c row = executed_text s c row ++ 10 ∷ []

-- `N HEX NAME+0xOFFSET end`: the last point of a thread
abbrev pub end_line : Shown → ThreadPoint → List ℕ
end_line s c = decimal c.point ++ codes " " ++ hex_word (s.end_pc c.thread) ++ function_text (s.end_pc c.thread) (s.symbol (s.end_pc c.thread)) ++ codes " end" ++ 10 ∷ []

abbrev pub row_line : Shown → ThreadPoint → Option StepRow → List ℕ
row_line s c None = end_line s c
row_line s c (Some row) = executed_line s c row

-- the line of a point of a thread
abbrev pub at_line : Shown → ThreadPoint → List ℕ
at_line s c = row_line s c (slice_get (s.rows c.thread) c.point)

-- the lines of the points of a thread that are so near to this one
unfoldable pub around_lines : Shown → ThreadPoint → ℕ → List ℕ
around_lines s c count = flat_map (λ p. at_line s (at c.thread p)) (range_with_len (c.point - count) (min (c.point + count) (length (s.rows c.thread)) + 1 - (c.point - count)))

-- the points of a thread at which its path is at an address
unfoldable pub visits_line : Shown → ThreadPoint → ℕ → List ℕ
visits_line s c address = spots_line (points_where (λ p. pc_at s (at c.thread p) == address) (length (s.rows c.thread))) c.point

abbrev pub is_value : ℕ → Option ℕ → Bool
is_value value None = false
is_value value (Some known) = known == value

-- whether a register is known to have a value
abbrev pub is_held : Shown → ThreadPoint → ℕ → ℕ → Bool
is_held s c r value = is_value value (s.register (number s c) r)

-- the points of a thread at which a register is known to have a value
unfoldable pub find_line : Shown → ThreadPoint → ℕ → ℕ → List ℕ
find_line s c r value = spots_line (points_where (λ p. is_held s (at c.thread p) r value) (length (s.rows c.thread))) c.point

-- words where a value has no step that wrote it
abbrev pub unless_from : Option ℕ → List ℕ → List ℕ
unless_from None words = words
unless_from (Some step) words = []

-- ` xN start of the path`: a register that no step before this point wrote
abbrev pub register_end : Shown → ThreadPoint → ℕ → List ℕ
register_end s c r = unless_from (register_source (s.rows c.thread) c.point r) (codes " " ++ register_text r ++ codes " start of the path")

-- ` HEX`, and what is known of the last writer of a byte
abbrev pub byte_end : Shown → ThreadPoint → Option ℕ → List ℕ
byte_end s c None = []
byte_end s c (Some a) = codes " " ++ hex_word a ++ codes " " ++ writer_text s (s.writer (moment_at s c) a)

-- of the bytes that a step reads the first one whose writer isn't known
abbrev pub bytes_end : Shown → ThreadPoint → Instr → List ℕ
bytes_end s c instr = byte_end s c (find (λ a. is_none (byte_source s c a)) (bytes_read s c instr))

-- ` call N`, with the number in x17; ` constant`, where no register but x0 and no byte is read
abbrev pub call_text : Option ℕ → List ℕ
call_text None = codes " call unknown"
call_text (Some call) = codes " call " ++ decimal call

abbrev pub leaf_text : Shown → ℕ → Instr → List ℕ
leaf_text s point instr = if is_call instr then call_text (s.register point 17) else if is_constant instr then codes " constant" else []

-- what a step reads that no step is known to have written
abbrev pub ends_text : Shown → ThreadPoint → Instr → List ℕ
ends_text s c instr = flat_map (register_end s c) (registers_read instr) ++ bytes_end s c instr ++ leaf_text s (number s c) instr

-- the line of a step of a trail
abbrev pub trail_line : Shown → ThreadPoint → Option StepRow → List ℕ
trail_line s c None = []
trail_line s c (Some row) = executed_text s c row ++ ends_text s c row.instr ++ 10 ∷ []

abbrev pub trail_at : Shown → ℕ → ℕ → List ℕ
trail_at s thread j = trail_line s (at thread j) (slice_get (s.rows thread) j)

-- `more`, where there are more steps
abbrev pub more_line : Bool → List ℕ
more_line true = codes "more" ++ 10 ∷ []
more_line false = []

-- the lines of the steps that lead to a step, from the newest on
abbrev pub IsTrailText : Shown → ℕ → ℕ → List ℕ → Type 0
IsTrailText s thread first text = (rows : List ℕ) × ((more : Bool) × (IsTrail s thread first rows more × (text ≡ flat_map (trail_at s thread) rows ++ more_line more)))

-- `constant` of x0, and `start of the path` of a register that no step wrote
abbrev pub start_line : ℕ → List ℕ
start_line r = if r == 0 then codes "constant" ++ 10 ∷ [] else codes "start of the path" ++ 10 ∷ []

-- where the value of a register came from
abbrev pub IsFromRegister : Shown → ThreadPoint → ℕ → Option ℕ → List ℕ → Type 0
IsFromRegister s c r None text = text ≡ start_line r
IsFromRegister s c r (Some step) text = IsTrailText s c.thread step text

-- where a byte came from; where no step is known to have written it, what is known of its writer
abbrev pub IsFromByte : Shown → ThreadPoint → ℕ → Option ℕ → List ℕ → Type 0
IsFromByte s c a None text = text ≡ writer_line s (s.writer (moment_at s c) a)
IsFromByte s c a (Some step) text = IsTrailText s c.thread step text

-- a step is one of the instruction at an address
abbrev pub is_of : ℕ → Option StepRow → Bool
is_of pc None = false
is_of pc (Some row) = row.at == pc

-- the steps of an instruction, among some steps of a thread
abbrev pub group_of : Shown → ℕ → ℕ → List ℕ → List ℕ
group_of s thread pc steps = filter (λ k. is_of pc (slice_get (s.rows thread) k)) steps

abbrev pub is_sure_row : Shown → SoughtBytes → ThreadPoint → Option StepRow → Bool
is_sure_row s b c None = false
is_sure_row s b c (Some row) = has_place s c row.instr && is_sure_of_some s b c

-- a step of the thread is known to have written one of some bytes
abbrev pub is_sure_step : Shown → SoughtBytes → ℕ → ℕ → Bool
is_sure_step s b thread k = is_sure_row s b (at thread k) (slice_get (s.rows thread) k)

-- ` steps K sure S oldest J`: how many steps there are, how many of them are sure, and the oldest
abbrev pub group_counts : List ℕ → List ℕ → List ℕ
group_counts group sure =
    codes " steps " ++ decimal (length group) ++ (codes " sure " ++ decimal (length sure)) ++ (codes " oldest " ++ point_text (slice_get group (length group - 1))) ++ 10 ∷ []

-- the line of an instruction, with the newest one of its steps
abbrev pub group_line : Shown → SoughtBytes → ℕ → ℕ → StepRow → List ℕ → List ℕ
group_line s b thread j row group = named_row s j row ++ group_counts group (filter (is_sure_step s b thread) group)

-- the line of an instruction, where this step is its newest one
abbrev pub group_at : Shown → SoughtBytes → ℕ → ℕ → StepRow → List ℕ → List ℕ
group_at s b thread j row group = if is_value j (slice_get group 0) then group_line s b thread j row group else []

abbrev pub group_by : Shown → SoughtBytes → ℕ → List ℕ → ℕ → Option StepRow → List ℕ
group_by s b thread steps j None = []
group_by s b thread steps j (Some row) = group_at s b thread j row (group_of s thread row.at steps)

abbrev pub group_entry : Shown → SoughtBytes → ℕ → List ℕ → ℕ → List ℕ
group_entry s b thread steps j = group_by s b thread steps j (slice_get (s.rows thread) j)

-- `left out K`
abbrev pub left_line : ℕ → List ℕ
left_line count = if count == 0 then [] else codes "left out " ++ decimal count ++ 10 ∷ []

-- the newest 8,192 of some steps
unfoldable pub newest_of : List ℕ → List ℕ
newest_of steps = take 8192 steps

-- where no step wrote the bytes: of one byte, what is known of its last writer
abbrev pub unwritten_line : Shown → ThreadPoint → SoughtBytes → List ℕ
unwritten_line s c b = if b.count == 1 then writer_line s (s.writer (moment_at s c) b.address) else codes "no step of the thread" ++ 10 ∷ []

-- the instructions of the newest 8,192 steps, and how many more there are
abbrev pub writers_lines : Shown → ThreadPoint → SoughtBytes → List ℕ → List ℕ
writers_lines s c b [] = unwritten_line s c b
writers_lines s c b (step ∷ steps) =
    flat_map (group_entry s b c.thread (newest_of (step ∷ steps))) (newest_of (step ∷ steps)) ++ left_line (length (step ∷ steps) - length (newest_of (step ∷ steps)))
