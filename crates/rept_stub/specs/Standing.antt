-- Where a debugger stands in a run of threads: each thread has a cursor of its own, and one thread
-- is selected. This project's own; the packets that select threads are those of GDB's manual,
-- appendix Remote Serial Protocol, section Packets (`H`).
use Rattle.std.specs.Prelude.{◌≡◌, ℕ, ◌<◌, ◌≤◌, List, length, map, Bool, false, nat_le, ◌==◌, Option, None, Some, get_or, set, IfSome, if◌then◌else◌}
use Rattle.std.specs.List.{find, range_with_len}
use Rattle.std.specs.Option.{unwrap_or}
use Rattle.rept_remote.specs.declared.request.request.ThreadName.{ThreadName}
use Rattle.rept_remote.specs.declared.request.request.ThreadName.TheVariants as name
use Rattle.rept_findings.specs.Shown.{Shown}
use Rattle.rept_findings.specs.Texts.{at}
use Rattle.rept_findings.specs.declared.place.ThreadPoint.{ThreadPoint}
use Rattle.rept_remote.specs.Moves.Spots.{Spots}
use Rattle.rept_stub.specs.declared.answers.Stand.{Stand}

-- the last point of each thread
abbrev pub last_points : Shown → List ℕ
last_points s = map (λ t. length (s.rows t)) (range_with_len 0 s.threads)

-- a debugger that begins: each cursor is at the last point of its thread, and thread 0 is selected,
-- and is the one that stopped
abbrev pub start_of : Shown → Spots → Stand
start_of s spots = record { cursors = last_points s; thread = 0; stopped = 0; moving = None; spots = spots; is_stale = false }

-- the cursor of a thread
abbrev pub cursor_of : Stand → ℕ → ThreadPoint
cursor_of stand thread = at thread (get_or stand.cursors thread 0)

-- that of the selected thread
abbrev pub here : Stand → ThreadPoint
here stand = cursor_of stand stand.thread

-- each thread has a cursor, at one of its points
pub record AreCursors (s : Shown) (cursors : List ℕ) : Type 0 where
  pub each : length cursors ≡ s.threads
  pub within : (t : ℕ) → t < s.threads → get_or cursors t 0 ≤ length (s.rows t)

-- so it is, and the selected threads and the one that stopped are some of the run
abbrev pub IsStandLawful : Shown → Stand → Type 0
IsStandLawful s stand = AreCursors s stand.cursors × (stand.thread < s.threads) × (stand.stopped < s.threads) × IfSome stand.moving (λ t. t < s.threads)

-- a run of one thread, which has any name
abbrev pub is_alone : Shown → Bool
is_alone s = nat_le s.threads 1

-- the first thread of a process
abbrev pub thread_of : Shown → ℕ → Option ℕ
thread_of s process = find (λ t. s.process t == process) (range_with_len 0 s.threads)

-- of several threads, the one that a packet names which is no move; any one is the selected one
abbrev pub named_of_several : Shown → Stand → ThreadName → Option ℕ
named_of_several s stand name.Selected = Some stand.thread
named_of_several s stand name.Any = Some stand.thread
named_of_several s stand (name.One process) = thread_of s process
named_of_several s stand name.Unreadable = None

-- the thread that a packet names
abbrev pub named_thread : Shown → Stand → ThreadName → Option ℕ
named_thread s stand name = if is_alone s then Some stand.thread else named_of_several s stand name

-- Of several threads, the one that a move names: the one that was selected for moves, or else the
-- one that stopped last; any one is the one that stopped last. A thread that is selected for all
-- else moves only by its name: gdb selects one to look at it.
abbrev pub moving_of_several : Shown → Stand → ThreadName → Option ℕ
moving_of_several s stand name.Selected = Some (unwrap_or stand.moving stand.stopped)
moving_of_several s stand name.Any = Some stand.stopped
moving_of_several s stand (name.One process) = thread_of s process
moving_of_several s stand name.Unreadable = None

-- the thread that a move names
abbrev pub moving_thread : Shown → Stand → ThreadName → Option ℕ
moving_thread s stand name = if is_alone s then Some stand.thread else moving_of_several s stand name

-- a thread is selected, where there is one
abbrev pub selected : Stand → Option ℕ → Stand
selected stand None = stand
selected stand (Some thread) = record stand { thread = thread }

-- a thread is selected for moves; where any one is named, none is
abbrev pub selected_moving : Stand → ThreadName → Option ℕ → Stand
selected_moving stand name.Any named = record stand { moving = None }
selected_moving stand name None = stand
selected_moving stand name (Some thread) = record stand { moving = Some thread }

-- the cursor of the selected thread is put to one of its points
abbrev pub led : Stand → ℕ → Stand
led stand point = record stand { cursors = set stand.cursors stand.thread point }

-- the cursor of a thread is put to one of its points, and the thread is the one that stopped, and
-- the selected one; and whether gdb's copy of watched bytes may be older
abbrev pub put : Stand → ThreadPoint → Bool → Stand
put stand c is_stale = record stand { cursors = set stand.cursors c.thread c.point; thread = c.thread; stopped = c.thread; is_stale = is_stale }
