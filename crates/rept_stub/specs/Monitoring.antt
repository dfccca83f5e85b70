-- Lines of a debugger's user that are no lines of a session. This project's own.
use Rattle.std.specs.Prelude.{ℕ, zero, suc, List, [], ◌∷◌, ◌++◌, drop, Bool, ◌==◌, nat_eq, Option, None, Some, codes, if◌then◌else◌}
use Rattle.std.specs.Fmt.{decimal}
use Rattle.std.specs.List.{flat_map, starts_with}
use Rattle.std.specs.Str.{bytes_eq}
use Rattle.rept_word.specs.Parsing.Numbers.{number_of_word}
use Rattle.rept_report.specs.declared.writer.Writer.{Writer}
use Rattle.rept_findings.specs.Shown.{Shown}
use Rattle.rept_session.specs.Session.{cursor_of, said_at}
use Rattle.rept_findings.specs.Texts.{at, writer_line}
use Rattle.rept_findings.specs.declared.place.ThreadPoint.{ThreadPoint}
use Rattle.rept_findings.specs.LastWriters.{named_row, writer_at}
use Rattle.rept_remote.specs.Moves.Halts.{before}
use Rattle.rept_stub.specs.declared.monitoring.MonitorRequest.{MonitorRequest}
use Rattle.rept_stub.specs.declared.monitoring.MonitorRequest.TheVariants as asked

abbrev pub writers_asked : Option ℕ → MonitorRequest
writers_asked None = asked.Session
writers_asked (Some address) = asked.Writers address

unfoldable pub is_writers : List ℕ → Bool
is_writers line = starts_with nat_eq line (codes "writers ")

abbrev pub asked_when : List ℕ → MonitorRequest
asked_when line = if bytes_eq line (codes "when") then asked.When else asked.Session

-- `signal`, `help`, `writers ADDRESS`, `when`; any other line is one of a session
abbrev pub asked_of : List ℕ → MonitorRequest
asked_of line =
    if bytes_eq line (codes "signal") then asked.Signal
    else if bytes_eq line (codes "help") then asked.Help
    else if is_writers line then writers_asked (number_of_word (drop 8 line))
    else asked_when line

-- `signal N`, by the number that Linux gives to it
abbrev pub signal_text : ℕ → List ℕ
signal_text signal = codes "signal " ++ decimal signal ++ 10 ∷ []

unfoldable pub help_text : List ℕ
help_text = codes "where | when | thread T | goto POINT | back COUNT | fwd COUNT | at | around [COUNT] | reg R | reg pc | regs | range R | mem ADDRESS [COUNT] | writer ADDRESS | writers ADDRESS [COUNT] | why R | why ADDRESS | lost R | lost ADDRESS | from R | from ADDRESS | visits ADDRESS | find R VALUE | list [STEP [COUNT]] | stack | calls [COUNT] | summary | premises | signal" ++ 10 ∷ []

-- the point before a row, where that is the thread's own and before this point
abbrev pub own_before : ThreadPoint → ThreadPoint → Option ℕ
own_before c row = if row.thread == c.thread then before c.point row.point else None

abbrev pub row_of : Shown → ThreadPoint → Option ℕ → Option ℕ
row_of s c None = None
row_of s c (Some row) = own_before c (s.point row)

-- the row that the report names of a byte at a point of a thread, where it is the thread's own
abbrev pub row_before : Shown → ThreadPoint → ℕ → Option ℕ
row_before s c address = row_of s c (named_row (writer_at s c address))

-- what a report names, and, where that is a row, what comes before it
abbrev pub listed : Writer → Option ℕ → (ℕ → List Writer) → List Writer
listed named None before = named ∷ []
listed named (Some row) before = named ∷ before row

-- The rows that write a byte before a point, or may, from the newest one on: what the report names
-- at the point, then what it names at the point before that row, and so on, up to where it names no
-- row of this thread, so many at most.
abbrev pub writers_from : Shown → ℕ → ℕ → ThreadPoint → List Writer
writers_from s address zero c = []
writers_from s address (suc most) c = listed (writer_at s c address) (row_before s c address) (λ row. writers_from s address most (at c.thread row))

-- a line of each, as a session tells it; 256 at most
abbrev pub writers_text : Shown → ThreadPoint → ℕ → List ℕ
writers_text s c address = flat_map (writer_line s) (writers_from s address 256 c)

-- the point of a cursor, where it is one of this thread; else the thread's own
abbrev pub point_in : ThreadPoint → ThreadPoint → ℕ
point_in c cursor = if cursor.thread == c.thread then cursor.point else c.point

-- the point to which a line leads from one: `goto`, `back` and `fwd` of a session lead along the
-- thread; one that leads to another thread, and any other line, leads nowhere
abbrev pub line_point : Shown → ThreadPoint → List ℕ → MonitorRequest → ℕ
line_point s c line asked.Session = point_in c (cursor_of s c (said_at s c line))
line_point s c line request = c.point

-- gdb keeps the registers that it has read: how it reads them anew
unfoldable pub flush_text : List ℕ
flush_text = codes "maintenance flush register-cache  shows it in gdb" ++ 10 ∷ []

-- after a line that leads to another point
abbrev pub moved_words : ThreadPoint → ℕ → List ℕ
moved_words c point = if point == c.point then [] else flush_text
