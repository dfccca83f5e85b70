-- Pieces of what a session answers. HEX below is `0x` and eight lower-case hexadecimal digits. This
-- project's own.
use Rattle.std.specs.Prelude.{ℕ, ◌+◌, ◌-◌, ◌*◌, ◌/◌, ◌%◌, ◌^◌, min, List, [], ◌∷◌, ◌++◌, Bool, true, false, ◌&&◌, nat_le, nat_lt, Option, None, Some, slice_get, codes, if◌then◌else◌}
use Rattle.std.specs.List.{flat_map, range_with_len}
use Rattle.std.specs.Option.{option_map_or}
use Rattle.std.specs.Fmt.{decimal}
use Rattle.rept_word.specs.Hex.{hex_word, hex_byte}
use Rattle.rept_isa.specs.declared.row.StepRow.{StepRow}
use Rattle.rept_isa.specs.Texts.{instruction_text, register_text}
use Rattle.rept_partial.specs.declared.range.Range.{Range}
use Rattle.rept_reason.specs.declared.fact.Fact.{Fact}
use Rattle.rept_reason.specs.declared.fact.Cell.{Cell}
use Rattle.rept_reason.specs.declared.fact.Cell.TheVariants.{Register, Byte}
use Rattle.rept_reason.specs.declared.reason.RangePremise.{RangePremise}
use Rattle.rept_report.specs.declared.writer.Writer.{Writer}
use Rattle.rept_report.specs.declared.writer.Writer.TheVariants as writer
use Rattle.rept_findings.specs.Shown.{Shown}
use Rattle.rept_findings.specs.declared.findings.BeyondRule.{BeyondRule}
use Rattle.rept_findings.specs.declared.findings.BeyondRule.TheVariants as rules
use Rattle.rept_findings.specs.declared.findings.KnownBeyond.{KnownBeyond}
use Rattle.rept_findings.specs.declared.findings.PremisesTaken.{PremisesTaken}
use Rattle.rept_findings.specs.declared.place.Place.{Place}
use Rattle.rept_findings.specs.declared.place.Place.TheVariants as places
use Rattle.rept_findings.specs.declared.place.ThreadPoint.{ThreadPoint}
use Rattle.rept_findings.specs.declared.place.ThreadPlace.{ThreadPlace}

-- the address at a point of a thread: that of the step that begins there, or the one after the last
-- step
abbrev pub pc_at : Shown → ThreadPoint → ℕ
pc_at s c = option_map_or (λ row. row.at) (slice_get (s.rows c.thread) c.point) (s.end_pc c.thread)

-- ` of T` in a run of several threads; nothing in a run of one
abbrev pub thread_named : ℕ → ℕ → List ℕ
thread_named threads thread = if nat_lt 1 threads then codes " of " ++ decimal thread else []

abbrev pub of_thread : Shown → ℕ → List ℕ
of_thread s thread = thread_named s.threads thread

-- `HEX` or `unknown`: the name of the register stands before it, by `value_line`
abbrev pub value_text : Option ℕ → List ℕ
value_text None = codes "unknown"
value_text (Some value) = hex_word value

-- `xN HEX` or `xN unknown`
abbrev pub value_line : ℕ → Option ℕ → List ℕ
value_line r value = register_text r ++ codes " " ++ value_text value ++ 10 ∷ []

abbrev pub register_line : Shown → ℕ → ℕ → List ℕ
register_line s point r = value_line r (s.register point r)

-- the lines of x1 to x31
unfoldable pub register_lines : Shown → ℕ → List ℕ
register_lines s point = flat_map (register_line s point) (range_with_len 1 31)

-- `xN HEX..HEX`: the lowest and the highest value
abbrev pub range_text : ℕ → Range → List ℕ
range_text r range = register_text r ++ codes " " ++ hex_word range.lo ++ codes ".." ++ hex_word range.hi

-- ` known HEX value HEX`: a mask of the bits in which all values are alike, and what they are;
-- nothing where bits aren't followed
abbrev pub note_text : Option (ℕ × ℕ) → List ℕ
note_text None = []
note_text (Some known) = codes " known " ++ hex_word known.0 ++ codes " value " ++ hex_word known.1

-- addresses go on from the highest one to 0
abbrev pub wrapped : ℕ → ℕ
wrapped address = address % 2 ^ 32

-- a space, and a byte as two digits or `??`
abbrev pub byte_text : Option ℕ → List ℕ
byte_text None = codes "??"
byte_text (Some byte) = hex_byte byte

abbrev pub byte_piece : Shown → ℕ → ℕ → List ℕ
byte_piece s moment address = codes " " ++ byte_text (s.byte moment address)

-- so many bytes from an address on: the address as HEX and `:`, and the bytes
abbrev pub memory_line : Shown → ℕ → ℕ → ℕ → List ℕ
memory_line s moment address count =
    hex_word address ++ codes ":" ++ flat_map (λ i. byte_piece s moment (wrapped (address + i))) (range_with_len 0 count) ++ 10 ∷ []

-- lines of 16 bytes, the last one shorter where the count is no multiple of 16
unfoldable pub memory_lines : Shown → ℕ → ℕ → ℕ → List ℕ
memory_lines s moment address count =
    flat_map (λ k. memory_line s moment (wrapped (address + 16 * k)) (min 16 (count - 16 * k))) (range_with_len 0 ((count + 15) / 16))

-- `J`, and ` of T`: a step of a thread
abbrev pub step_text : Shown → ThreadPoint → List ℕ
step_text s step = decimal step.point ++ of_thread s step.thread

-- `writes J of T`, `may write J of T`, `several` or `none`
abbrev pub writer_text : Shown → Writer → List ℕ
writer_text s (writer.Writes j) = codes "writes " ++ step_text s (s.point j)
writer_text s (writer.MayWrite j) = codes "may write " ++ step_text s (s.point j)
writer_text s writer.Several = codes "several"
writer_text s writer.None = codes "none"

abbrev pub writer_line : Shown → Writer → List ℕ
writer_line s w = writer_text s w ++ 10 ∷ []

-- `J HEX TEXT`: a step, its address and its instruction; nothing where the path has no such step
abbrev pub step_line : ℕ → Option StepRow → List ℕ
step_line j None = []
step_line j (Some row) = decimal j ++ codes " " ++ hex_word row.at ++ codes " " ++ instruction_text row.at row.instr ++ 10 ∷ []

-- so many steps of a thread from one on
unfoldable pub step_lines : List StepRow → ℕ → ℕ → List ℕ
step_lines rows first count = flat_map (λ j. step_line j (slice_get rows j)) (range_with_len first count)

-- a byte of a name, or `?` where it is no visible character of ASCII
abbrev pub visible : ℕ → ℕ
visible byte = if nat_le 33 byte && nat_le byte 126 then byte else 63

-- ` NAME` of a premise that was taken
abbrev pub premise_name : Bool → List ℕ → List ℕ
premise_name true name = name
premise_name false name = []

abbrev pub premise_names : PremisesTaken → List ℕ
premise_names p = premise_name p.read_only (codes " read-only") ++ premise_name p.answers (codes " answers") ++ premise_name p.first_memory (codes " first-memory") ++ premise_name p.fresh_pages (codes " fresh-pages")

-- `inferred REGISTERS BYTES premises NAME NAME ..`, where more than a report was asked for
abbrev pub beyond_line : Option KnownBeyond → List ℕ
beyond_line None = []
beyond_line (Some b) = codes "inferred " ++ decimal b.registers ++ codes " " ++ decimal b.bytes ++ codes " premises" ++ premise_names b.premises ++ 10 ∷ []

-- the line of a premise that was taken
abbrev pub premise_told : Bool → List ℕ → List ℕ
premise_told true line = line ++ 10 ∷ []
premise_told false line = []

-- a line for each premise that was taken; `none` where nothing more than a report was asked for
abbrev pub premises_lines : Option KnownBeyond → List ℕ
premises_lines None = codes "none" ++ 10 ∷ []
premises_lines (Some b) =
    premise_told b.premises.read_only (codes "read-only no step writes what the program can't write") ++ premise_told b.premises.answers (codes "answers calls answer as Linux's do")
    ++ premise_told b.premises.first_memory (codes "first-memory memory begins as the executable says") ++ premise_told b.premises.fresh_pages (codes "fresh-pages pages that a call hands out are 0")

-- `xN HEX`, or the address as HEX and the byte as two digits
abbrev pub cell_text : Cell → ℕ → List ℕ
cell_text (Register r) value = register_text r ++ codes " " ++ hex_word value
cell_text (Byte a) value = hex_word a ++ codes " " ++ hex_byte (value % 2 ^ 8)

-- `P`, `after-J` or `end`
abbrev pub place_text : Place → List ℕ
place_text (places.Point p) = decimal p
place_text (places.After j) = codes "after-" ++ decimal j
place_text places.End = codes "end"

-- the thread and place at which a register or a byte has a value
abbrev pub place_of : Shown → Cell → ℕ → ThreadPlace
place_of s (Register r) point = record { thread = (s.point point).thread; place = places.Point (s.point point).point }
place_of s (Byte a) moment = s.place moment

-- two spaces, and `point P` with a register or byte, and ` of T`
abbrev pub fact_line : Shown → ThreadPlace → Fact → List ℕ
fact_line s at fact = codes "  point " ++ place_text at.place ++ codes " " ++ cell_text fact.cell fact.value ++ of_thread s at.thread ++ 10 ∷ []

abbrev pub premise_line : Shown → Fact → List ℕ
premise_line s fact = fact_line s (place_of s fact.cell fact.point) fact

-- two spaces, and `range P xN HEX..HEX`, and ` of T`
abbrev pub range_at_line : Shown → ThreadPoint → RangePremise → List ℕ
range_at_line s at looked = codes "  range " ++ decimal at.point ++ codes " " ++ range_text looked.reg looked.range ++ of_thread s at.thread ++ 10 ∷ []

abbrev pub looked_line : Shown → RangePremise → List ℕ
looked_line s looked = range_at_line s (s.point looked.point) looked

abbrev pub rule_name : BeyondRule → List ℕ
rule_name rules.Value = codes "value"
rule_name rules.Call = codes "call"
rule_name rules.Class = codes "class"
rule_name rules.Miss = codes "miss"
rule_name rules.ReadOnly = codes "read-only"
rule_name rules.FirstMemory = codes "first-memory"

-- `inferred ROW RULE`
abbrev pub rule_line : ℕ → BeyondRule → List ℕ
rule_line row rule = codes "inferred " ++ decimal row ++ codes " " ++ rule_name rule ++ 10 ∷ []

-- a point of a thread
abbrev pub at : ℕ → ℕ → ThreadPoint
at thread point = record { thread = thread; point = point }
