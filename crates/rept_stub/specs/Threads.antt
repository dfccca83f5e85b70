-- What is answered about threads (GDB manual, appendix Remote Serial Protocol, sections Packets,
-- StopReason Reply Packets and General Query Packets). A run of one thread has the number 1 for it,
-- and isn't asked which of its threads stopped; of several, the number of a thread is that of its
-- process.
use Rattle.std.specs.Prelude.{ℕ, ◌-◌, List, [], ◌∷◌, ◌++◌, length, Bool, false, ◌&&◌, ◌==◌, nat_lt, Option, None, Some, codes, if◌then◌else◌}
use Rattle.std.specs.Fmt.{decimal}
use Rattle.std.specs.List.{flat_map, range_with_len}
use Rattle.rept_word.specs.Hex.{hex_byte}
use Rattle.rept_findings.specs.Shown.{Shown}
use Rattle.rept_findings.specs.declared.place.ThreadPoint.{ThreadPoint}
use Rattle.rept_remote.specs.declared.moves.halt.StopReason.{StopReason}
use Rattle.rept_remote.specs.declared.moves.halt.StopReason.TheVariants as stop
use Rattle.rept_stub.specs.Replies.{big_word, digits_of, error, signal_reply, stop_part}
use Rattle.rept_stub.specs.Signals.{debugger_signal}
use Rattle.rept_stub.specs.Standing.{is_alone}

abbrev pub number_text : Shown → ℕ → List ℕ
number_text s thread = if is_alone s then codes "1" else big_word (s.process thread)

-- `thread:N;` of a stop, in a run of several
abbrev pub thread_part : Shown → ℕ → List ℕ
thread_part s thread = if is_alone s then [] else codes "thread:" ++ big_word (s.process thread) ++ codes ";"

-- the selected thread
abbrev pub thread_reply : Shown → ℕ → List ℕ
thread_reply s thread = codes "QC" ++ number_text s thread

-- all threads, with commas between them
abbrev pub threads_reply : Shown → List ℕ
threads_reply s = codes "m" ++ number_text s 0 ++ flat_map (λ t. 44 ∷ number_text s t) (range_with_len 1 (s.threads - 1))

-- a text about a thread, as pairs of digits: which one it is in a session, and how many steps of it
-- there are; of one thread, `crashed`
abbrev pub about : Shown → ℕ → List ℕ
about s thread = if is_alone s then codes "crashed" else codes "thread " ++ decimal thread ++ codes ", " ++ decimal (length (s.rows thread)) ++ codes " steps"

abbrev pub about_reply : Shown → Option ℕ → List ℕ
about_reply s None = error
about_reply s (Some thread) = digits_of (about s thread)

-- whether there is such a thread
abbrev pub there_reply : Option ℕ → List ℕ
there_reply None = error
there_reply (Some thread) = codes "OK"

-- `thread T point P`, before an answer to a line of the debugger's user in a run of several: where
-- that is asked
abbrev pub cursor_words : Shown → ThreadPoint → List ℕ
cursor_words s c = if is_alone s then [] else codes "thread " ++ decimal c.thread ++ codes " point " ++ decimal c.point ++ 10 ∷ []

-- A move forward came to the crash: to the last point of thread 0, whose register note, the first
-- one, is that of the thread that crashed. A core file that was taken of a running process has no
-- signal.
abbrev pub is_crash : ℕ → ℕ → StopReason → Bool
is_crash signal thread stop.End = thread == 0 && nat_lt 0 signal
is_crash signal thread _ = false

-- why a move stopped, and of which thread: at the crash by the signal that ended the process
abbrev pub stop_reply : Shown → ℕ → ℕ → StopReason → List ℕ
stop_reply s signal thread stop =
    if is_crash signal thread stop then codes "T" ++ hex_byte (debugger_signal signal) ++ thread_part s thread
    else codes "T05" ++ thread_part s thread ++ stop_part stop

-- why a thread stands where it does
abbrev pub reason_reply : Shown → ℕ → ThreadPoint → List ℕ
reason_reply s signal c = signal_reply s signal c ++ thread_part s c.thread
