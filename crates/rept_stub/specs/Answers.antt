-- What is answered to a packet, and where a debugger stands then: the answers to a list of packets
-- are a fold over it (GDB manual, appendix Remote Serial Protocol, sections Packets, General Query
-- Packets and vCont). What is asked of no thread by name is asked of the selected one, at its
-- cursor.
use Rattle.std.specs.Prelude.{◌≡◌, ℕ, List, [], ◌++◌, drop, length, Bool, true, false, ◌||◌, ◌&&◌, nat_lt, Option, None, Some, codes, if◌then◌else◌}
use Rattle.rept_findings.specs.Shown.{SessionTold, Shown}
use Rattle.rept_session.specs.Session.{IsReply, said_at}
use Rattle.rept_findings.specs.declared.place.ThreadPoint.{ThreadPoint}
use Rattle.rept_remote.specs.Request.Requests.{request_of}
use Rattle.rept_remote.specs.declared.request.request.GdbRequest.{GdbRequest}
use Rattle.rept_remote.specs.declared.request.request.GdbRequest.TheVariants as request
use Rattle.rept_remote.specs.declared.request.request.Movement.{Movement}
use Rattle.rept_remote.specs.declared.request.request.Movement.TheVariants as way
use Rattle.rept_stub.specs.Consoles.{console_line}
use Rattle.rept_stub.specs.Files.{bytes_shown, object_text, offsets_reply}
use Rattle.rept_remote.specs.Moves.Halts.{Wanted, continued, continued_back, is_unseen, stepped, stepped_back, stepped_within, wanted}
use Rattle.rept_stub.specs.Replies.{decoded, error, memory_bytes, memory_digits, part_reply, register_reply, registers_reply, text_reply}
use Rattle.rept_stub.specs.Monitoring.{asked_of, help_text, line_point, moved_words, signal_text, writers_text}
use Rattle.rept_remote.specs.Moves.Spots.{Spots, Watch, is_small, region, watch_of, with_break, with_region, without_break, without_region}
use Rattle.rept_stub.specs.Standing.{cursor_of, here, led, moving_thread, named_thread, put, selected, selected_moving}
use Rattle.rept_stub.specs.Threads.{about_reply, cursor_words, reason_reply, stop_reply, there_reply, thread_reply, threads_reply}
use Rattle.rept_findings.specs.Texts.{at}
use Rattle.rept_remote.specs.declared.moves.halt.MoveEnd.{MoveEnd}
use Rattle.rept_remote.specs.declared.moves.halt.StopReason.{StopReason}
use Rattle.rept_stub.specs.declared.monitoring.MonitorRequest.{MonitorRequest}
use Rattle.rept_stub.specs.declared.monitoring.MonitorRequest.TheVariants as asked
use Rattle.rept_stub.specs.declared.answers.Setting.{Setting}
use Rattle.rept_stub.specs.declared.answers.Stand.{Stand}
use Rattle.rept_stub.specs.declared.files.ProcessFiles.{ProcessFiles}

-- to the next stop, or back to the last one
abbrev pub is_far : Movement → Bool
is_far way.Continue = true
is_far way.ContinueBack = true
is_far _ = false

-- The bytes that are watched in a move. While gdb steps by itself it doesn't see that a step ended
-- past a row, so in steps it is told of a watchpoint even if its copy of the bytes may be older.
abbrev pub watch_in : Stand → Movement → Watch
watch_in stand way = watch_of stand.spots (stand.is_stale && is_far way)

abbrev pub wanted_in : Stand → Movement → Wanted
wanted_in stand way = wanted stand.spots.breaks (watch_in stand way)

-- where a way leads to from a point of a thread
abbrev pub halt_by : Shown → Stand → Movement → ThreadPoint → MoveEnd
halt_by s stand way.Step c = stepped s (watch_in stand way.Step) c
halt_by s stand (way.StepWithin range) c = stepped_within s (wanted_in stand (way.StepWithin range)) range c
halt_by s stand way.StepBack c = stepped_back s (watch_in stand way.StepBack) c
halt_by s stand way.Continue c = continued s (wanted_in stand way.Continue) c
halt_by s stand way.ContinueBack c = continued_back s (wanted_in stand way.ContinueBack) c

-- where a thread stops that goes this way from its cursor
abbrev pub halt_of : Shown → Stand → Movement → ℕ → MoveEnd
halt_of s stand way thread = halt_by s stand way (cursor_of stand thread)

-- gdb's copy of the watched bytes may be older than the cursor after a stop past a row of which it
-- isn't told as of a watchpoint, and as long as something is watched
abbrev pub stale_after : Stand → StopReason → Bool
stale_after stand stop = is_unseen stop || stand.is_stale && nat_lt 0 (length stand.spots.regions)

-- a move of a thread: its cursor is where it stops, and it is the one that stopped and the selected
-- one then; without a thread nothing moves
abbrev pub moved : Shown → Stand → Movement → Option ℕ → Stand
moved s stand way None = stand
moved s stand way (Some thread) = put stand (at thread (halt_of s stand way thread).point) (stale_after stand (halt_of s stand way thread).stop)

-- the answer to it; the signal is that which ended the process
abbrev pub move_reply : Shown → ℕ → Stand → Movement → Option ℕ → List ℕ
move_reply s signal stand way None = error
move_reply s signal stand way (Some thread) = stop_reply s signal thread (halt_of s stand way thread).stop

-- the line for gdb's console before the answer, of a move that stops at a row; else it is empty
abbrev pub move_line : Shown → Stand → Movement → Option ℕ → List ℕ
move_line s stand way None = []
move_line s stand way (Some thread) = console_line s way thread (halt_of s stand way thread)

abbrev pub line_by : Shown → Stand → GdbRequest → List ℕ
line_by s stand (request.Move way name) = move_line s stand way (moving_thread s stand name)
line_by s stand request = []

abbrev pub line_before : Shown → Stand → List ℕ → List ℕ
line_before s stand packet = line_by s stand (request_of packet)

-- what a packet makes of breakpoints and watchpoints; a region of no byte or of more than 1024
-- isn't taken
abbrev pub spots_after : Spots → GdbRequest → Option Spots
spots_after spots (request.Break address) = Some (with_break spots address)
spots_after spots (request.Unbreak address) = Some (without_break spots address)
spots_after spots (request.Watch kind address length) = if is_small length then Some (with_region spots (region kind address length)) else None
spots_after spots (request.Unwatch kind address length) = Some (without_region spots (region kind address length))
spots_after spots _ = None

-- answers that are always the same; one to a packet that isn't known is empty
abbrev pub fixed_reply : GdbRequest → List ℕ
fixed_reply request.Features = codes "PacketSize=1000;ReverseStep+;ReverseContinue+;qXfer:features:read+;qXfer:auxv:read+;qXfer:siginfo:read+;QStartNoAckMode+;vContSupported+"
fixed_reply request.NoAcknowledgments = codes "OK"
fixed_reply request.Moves = codes "vCont;c;C;s;S;r"
fixed_reply request.MoreThreads = codes "l"
fixed_reply request.Attached = codes "1"
fixed_reply request.Change = error
fixed_reply (request.Watch kind address length) = error
fixed_reply request.Detach = codes "OK"
fixed_reply _ = []

-- the answer about threads, where nothing moves or changes
abbrev pub threads_still : Shown → Stand → GdbRequest → List ℕ
threads_still s stand (request.SelectThread name) = there_reply (named_thread s stand name)
threads_still s stand (request.SelectMoving name) = there_reply (named_thread s stand name)
threads_still s stand (request.IsAlive name) = there_reply (named_thread s stand name)
threads_still s stand (request.ThreadText name) = about_reply s (named_thread s stand name)
threads_still s stand request.Thread = thread_reply s stand.thread
threads_still s stand request.Threads = threads_reply s
threads_still s stand request = fixed_reply request

-- the answer about registers and memory at the cursor of the selected thread
abbrev pub cursor_reply : Shown → ProcessFiles → Stand → GdbRequest → List ℕ
cursor_reply s files stand request.Registers = registers_reply s (here stand)
cursor_reply s files stand (request.Register number) = register_reply s (here stand) number
cursor_reply s files stand (request.Memory address count) = memory_digits (bytes_shown s files (here stand) address count)
cursor_reply s files stand (request.Bytes address count) = memory_bytes (bytes_shown s files (here stand) address count)
cursor_reply s files stand request = threads_still s stand request

-- the answer where nothing moves or changes
abbrev pub still_reply : Shown → Setting → Stand → GdbRequest → List ℕ
still_reply s setting stand request.Reason = reason_reply s setting.signal (cursor_of stand stand.stopped)
still_reply s setting stand request.Offsets = offsets_reply setting.files.load_address
still_reply s setting stand (request.Part object offset count) = part_reply (object_text s setting.files (here stand) object) offset count
still_reply s setting stand request = cursor_reply s setting.files stand request

-- a line of the debugger's user, at a cursor: one of this project's own, or a line of a session
abbrev pub IsLineAnswered : SessionTold → ℕ → ThreadPoint → List ℕ → MonitorRequest → List ℕ → Type 0
IsLineAnswered t signal c line asked.Signal said = said ≡ signal_text signal
IsLineAnswered t signal c line asked.Help said = said ≡ help_text
IsLineAnswered t signal c line asked.When said = IsReply t c (said_at t.shown c (codes "where")) said
IsLineAnswered t signal c line (asked.Writers address) said = said ≡ writers_text t.shown c address
IsLineAnswered t signal c line asked.Session said = IsReply t c (said_at t.shown c line) said

abbrev pub IsMonitored : SessionTold → ℕ → ThreadPoint → Option (List ℕ) → List ℕ → Type 0
IsMonitored t signal c None text = text ≡ error
IsMonitored t signal c (Some line) text =
    (said : List ℕ) × IsLineAnswered t signal c line (asked_of line) said
    × (text ≡ text_reply (cursor_words t.shown c ++ said ++ moved_words c (line_point t.shown c line (asked_of line))))

-- A line of a session that leads its cursor along the thread leads the cursor of the selected
-- thread there.
abbrev pub monitored : Shown → Stand → Option (List ℕ) → Stand
monitored s stand None = stand
monitored s stand (Some line) = led stand (line_point s (here stand) line (asked_of line))

-- a packet, where a debugger stands, and what is told besides what was found
pub record Still : Type 0 where
  pub setting : Setting
  pub stand : Stand
  pub packet : List ℕ

-- the answer to a request that moves nothing
abbrev pub changed_reply : Shown → Still → GdbRequest → Option Spots → List ℕ
changed_reply s still request (Some spots) = codes "OK"
changed_reply s still request None = still_reply s still.setting still.stand request

abbrev pub IsAnswerTo : SessionTold → Still → GdbRequest → List ℕ → Type 0
IsAnswerTo t still (request.Move way name) text = text ≡ move_reply t.shown still.setting.signal still.stand way (moving_thread t.shown still.stand name)
IsAnswerTo t still request.Monitor text = IsMonitored t still.setting.signal (here still.stand) (decoded (drop 6 still.packet)) text
IsAnswerTo t still request text = text ≡ changed_reply t.shown still request (spots_after still.stand.spots request)

-- whether a text answers a packet
abbrev pub IsStubAnswer : SessionTold → Setting → Stand → List ℕ → List ℕ → Type 0
IsStubAnswer t setting stand packet text = IsAnswerTo t (record { setting = setting; stand = stand; packet = packet }) (request_of packet) text

-- which threads are selected after a packet that is no move
abbrev pub selected_by : Shown → Stand → GdbRequest → Stand
selected_by s stand (request.SelectThread name) = selected stand (named_thread s stand name)
selected_by s stand (request.SelectMoving name) = selected_moving stand name (named_thread s stand name)
selected_by s stand request = stand

abbrev pub changed : Shown → Stand → GdbRequest → Option Spots → Stand
changed s stand request (Some spots) = record stand { spots = spots }
changed s stand request None = selected_by s stand request

abbrev pub stand_by : Shown → Stand → List ℕ → GdbRequest → Stand
stand_by s stand packet (request.Move way name) = moved s stand way (moving_thread s stand name)
stand_by s stand packet request.Monitor = monitored s stand (decoded (drop 6 packet))
stand_by s stand packet request = changed s stand request (spots_after stand.spots request)

-- where it stands after a packet
abbrev pub stand_after : Shown → Stand → List ℕ → Stand
stand_after s stand packet = stand_by s stand packet (request_of packet)
