-- Where a thread is led to by a move, and why it stops there. The point p of a thread lies before
-- its row p, and after its row p - 1. A move leads along the rows of one thread, and the cursors of
-- the others stay. This project's own; the reasons are those of GDB's manual, appendix Remote
-- Serial Protocol, section Stop Reply Packets.
use Rattle.std.specs.Prelude.{◌≡◌, ℕ, zero, suc, ◌+◌, ◌-◌, List, length, Bool, true, false, not, ◌||◌, ◌==◌, nat_lt, Option, None, Some, is_some, fold, ◌&&◌, nat_le, if◌then◌else◌}
use Rattle.std.specs.List.{find, list_all, list_any, range_with_len}
use Rattle.rept_report.specs.declared.writer.Writer.{Writer}
use Rattle.rept_report.specs.declared.writer.Writer.TheVariants as writer
use Rattle.rept_findings.specs.LastWriters.{named_row, writer_at}
use Rattle.rept_findings.specs.Shown.{Shown, moment_at}
use Rattle.rept_findings.specs.Texts.{at, pc_at}
use Rattle.rept_findings.specs.declared.place.ThreadPoint.{ThreadPoint}
use Rattle.rept_remote.specs.declared.request.request.CodeRange.{CodeRange}
use Rattle.rept_remote.specs.Moves.Told.{byte_told}
use Rattle.rept_remote.specs.Moves.Spots.{Watch}
use Rattle.rept_remote.specs.declared.moves.halt.StopReason.{StopReason}
use Rattle.rept_remote.specs.declared.moves.halt.StopReason.TheVariants as stop
use Rattle.rept_remote.specs.declared.moves.halt.MoveEnd.{MoveEnd}
use Rattle.rept_remote.specs.declared.moves.halt.LastWrite.{LastWrite}

abbrev pub halt : ℕ → StopReason → MoveEnd
halt point why = record { point = point; stop = why }

abbrev pub is_row : Option ℕ → ℕ → Bool
is_row None row = false
is_row (Some named) row = named == row

-- this row is named at a point
abbrev pub names : Shown → ThreadPoint → ℕ → ℕ → Bool
names s c address row = is_row (named_row (writer_at s c address)) row

abbrev pub back_one : ThreadPoint → ThreadPoint
back_one c = at c.thread (c.point - 1)

-- The row that is named at a point came since the point before it: it is the thread's own row
-- between the two, or a row of another thread that isn't named at the point before.
abbrev pub came : Shown → ThreadPoint → ℕ → Option ℕ → Bool
came s c address None = false
came s c address (Some row) =
    if (s.point row).thread == c.thread then (s.point row).point == c.point - 1 else not (names s (back_one c) address row)

-- since the point before, a row wrote the byte, or may have
abbrev pub is_written : Shown → ThreadPoint → ℕ → Bool
is_written s c address = came s c address (named_row (writer_at s c address))

-- the first of the bytes of which that is so
abbrev pub written : Shown → ThreadPoint → List ℕ → Option ℕ
written s c addresses = find (is_written s c) addresses

-- the report names a row that surely wrote the byte
abbrev pub is_sure : Writer → Bool
is_sure (writer.Writes row) = true
is_sure _ = false

-- a byte can be read at a point
abbrev pub is_known : Shown → ThreadPoint → ℕ → Bool
is_known s c address = is_some (byte_told s (moment_at s c) address)

-- each of these bytes can
abbrev pub are_known : Shown → ThreadPoint → List ℕ → Bool
are_known s c addresses = list_all (is_known s c) addresses

-- the watched bytes can be read at a point, or at the point before it
abbrev pub is_compared : Shown → ThreadPoint → List ℕ → Bool
is_compared s c addresses = are_known s c addresses || are_known s (back_one c) addresses

-- What is told of a row by which a byte was written since the point before, or may have been. gdb
-- compares its copy of the watched bytes with what they are after it, and goes on where they are
-- the same, or can be read at neither: so it is told of a watchpoint only where the row surely
-- wrote, they can be read at one of the two, and the copy isn't older. Of a watchpoint that is to
-- stop at each access it goes on at none.
abbrev pub write_stop : Shown → Watch → ThreadPoint → ℕ → StopReason
write_stop s w c address =
    if list_any (λ a. a == address) w.accesses then stop.Access address
    else if not w.is_stale && (is_sure (writer_at s c address) && is_compared s c w.addresses) then stop.Write address
    else stop.Unseen address

abbrev pub stop_by : Shown → Watch → ThreadPoint → Option ℕ → StopReason
stop_by s w c None = stop.Step
stop_by s w c (Some address) = write_stop s w c address

-- what is told of the rows since the point before
abbrev pub stop_at : Shown → Watch → ThreadPoint → StopReason
stop_at s w c = stop_by s w c (written s c w.addresses)

-- gdb takes a watchpoint for one that is told before the row runs, and makes one step over the row
-- by itself, in the direction of the move
abbrev pub is_stepped_over : StopReason → Bool
is_stepped_over (stop.Write address) = true
is_stepped_over (stop.Access address) = true
is_stepped_over _ = false

-- gdb isn't told of the row as of one that a watchpoint is for
abbrev pub is_unseen : StopReason → Bool
is_unseen (stop.Unseen address) = true
is_unseen _ = false

-- a stop of a move over the row before a point: forward to the point, and back to the point before
-- it; short of the row where gdb steps over it
abbrev pub forward : ThreadPoint → StopReason → MoveEnd
forward c why = halt (if is_stepped_over why then c.point - 1 else c.point) why

abbrev pub backward : ThreadPoint → StopReason → MoveEnd
backward c why = halt (if is_stepped_over why then c.point else c.point - 1) why

-- one step forward, and one back
abbrev pub stepped : Shown → Watch → ThreadPoint → MoveEnd
stepped s w c =
    if nat_lt c.point (length (s.rows c.thread)) then forward (at c.thread (c.point + 1)) (stop_at s w (at c.thread (c.point + 1))) else halt c.point stop.End

abbrev pub stepped_back : Shown → Watch → ThreadPoint → MoveEnd
stepped_back s w c = if nat_lt 0 c.point then backward c (stop_at s w c) else halt c.point stop.Begin

-- the addresses of breakpoints, and the bytes that are watched
pub record Wanted : Type 0 where
  pub breaks : List ℕ
  pub watch : Watch

abbrev pub wanted : List ℕ → Watch → Wanted
wanted breaks watch = record { breaks = breaks; watch = watch }

abbrev pub is_break : Shown → List ℕ → ThreadPoint → Bool
is_break s breaks c = list_any (λ address. address == pc_at s c) breaks

-- rows may write the byte, and none is named as the last one
abbrev pub is_open : Writer → Bool
is_open writer.Several = true
is_open _ = false

abbrev pub has_open : Shown → ThreadPoint → List ℕ → Bool
has_open s c addresses = list_any (λ address. is_open (writer_at s c address)) addresses

-- a byte was written since the point before, or may have been
abbrev pub is_touched : Shown → ThreadPoint → ℕ → Bool
is_touched s c address = is_written s c address || is_open (writer_at s c address)

-- a breakpoint stands at the point; or since the point before, a watched byte was written, or may
-- have been
abbrev pub is_stop : Shown → List ℕ → List ℕ → ThreadPoint → Bool
is_stop s breaks addresses c = is_break s breaks c || list_any (is_touched s c) addresses

-- a row is named that isn't named at a point
abbrev pub is_new : Shown → ThreadPoint → ℕ → Option ℕ → Bool
is_new s c address None = false
is_new s c address (Some row) = not (names s c address row)

-- at a later point of the thread a row is named that isn't named at this one, or none of several is
-- known to be the last
abbrev pub has_changed : Shown → ThreadPoint → ℕ → Writer → Bool
has_changed s c address later = is_new s c address (named_row later) || is_open later

-- at a point of the thread no row is named that isn't named at this one
abbrev pub NamesNoOther : Shown → ThreadPoint → ℕ → ℕ → Type 0
NamesNoOther s c point address = (row : ℕ) → names s (at c.thread point) address row ≡ true → names s c address row ≡ true

abbrev pub halt_at : Shown → Watch → ℕ → Option ℕ → MoveEnd
halt_at s w thread None = halt (length (s.rows thread)) stop.End
halt_at s w thread (Some point) = forward (at thread point) (stop_at s w (at thread point))

-- the first such point after this one
abbrev pub first_stop : Shown → List ℕ → List ℕ → ThreadPoint → Option ℕ
first_stop s breaks addresses c =
    find (λ point. is_stop s breaks addresses (at c.thread point)) (range_with_len (c.point + 1) (length (s.rows c.thread) - c.point))

-- forward to it, or to the last point
abbrev pub continued : Shown → Wanted → ThreadPoint → MoveEnd
continued s w c = halt_at s w.watch c.thread (first_stop s w.breaks w.watch.addresses c)

-- the address at a point is none of a range
abbrev pub is_outside : Shown → CodeRange → ThreadPoint → Bool
is_outside s range c = not (nat_le range.first (pc_at s c) && nat_lt (pc_at s c) range.end)

-- the first point after this one at which that is so
abbrev pub first_outside : Shown → CodeRange → ThreadPoint → Option ℕ
first_outside s range c =
    find (λ point. is_outside s range (at c.thread point)) (range_with_len (c.point + 1) (length (s.rows c.thread) - c.point))

-- the lesser of two points
abbrev pub sooner_of : Option ℕ → Option ℕ → Option ℕ
sooner_of None other = other
sooner_of (Some point) None = Some point
sooner_of (Some point) (Some other) = Some (if nat_lt point other then point else other)

-- forward to the first point outside of a range, or to the first stop where that comes before; or
-- to the last point
abbrev pub stepped_within : Shown → Wanted → CodeRange → ThreadPoint → MoveEnd
stepped_within s w range c = halt_at s w.watch c.thread (sooner_of (first_outside s range c) (first_stop s w.breaks w.watch.addresses c))

-- the last number below n that passes
abbrev pub last_below : (ℕ → Bool) → ℕ → Option ℕ
last_below test zero = None
last_below test (suc n) = if test n then Some n else last_below test n

-- the last point before this one at which a breakpoint stands
abbrev pub break_before : Shown → List ℕ → ThreadPoint → Option ℕ
break_before s breaks c = last_below (λ point. is_break s breaks (at c.thread point)) c.point

-- of two points the later one, and the first one where they are one
abbrev pub later : Option LastWrite → Option ℕ → ℕ → Option LastWrite
later best None address = best
later None (Some point) address = Some (record { point = point; address = address })
later (Some best) (Some point) address = if nat_lt best.point point then Some (record { point = point; address = address }) else Some best

abbrev pub before : ℕ → ℕ → Option ℕ
before point row = if nat_lt row point then Some row else None

-- The last point before which the row that is named came: that before it, where it is the thread's
-- own; and where it is another thread's, the last point at which it isn't named yet.
abbrev pub point_before : Shown → ThreadPoint → ℕ → Option ℕ → Option ℕ
point_before s c address None = None
point_before s c address (Some row) =
    if (s.point row).thread == c.thread then before c.point (s.point row).point
    else last_below (λ point. not (names s (at c.thread point) address row)) c.point

abbrev pub write_before : Shown → ThreadPoint → ℕ → Option ℕ
write_before s c address = point_before s c address (named_row (writer_at s c address))

-- the last of those of some bytes
abbrev pub last_write : Shown → ThreadPoint → List ℕ → Option LastWrite
last_write s c addresses = fold (λ best address. later best (write_before s c address) address) None addresses

-- a write isn't before a breakpoint
abbrev pub is_later : LastWrite → Option ℕ → Bool
is_later write None = true
is_later write (Some point) = nat_le point write.point

abbrev pub break_halt : Option ℕ → MoveEnd
break_halt None = halt 0 stop.Begin
break_halt (Some point) = halt point stop.Step

-- back over the row of a write
abbrev pub back_over : Shown → Watch → ℕ → LastWrite → MoveEnd
back_over s w thread write = backward (at thread (write.point + 1)) (write_stop s w (at thread (write.point + 1)) write.address)

abbrev pub latest : Shown → Watch → ℕ → Option ℕ → Option LastWrite → MoveEnd
latest s w thread found None = break_halt found
latest s w thread found (Some write) = if is_later write found then back_over s w thread write else break_halt found

-- Back to before the last write that the report names of a watched byte, or to the last breakpoint,
-- whichever is later; to point 0 where there is none. Where rows may write a watched byte and none
-- is named, one step is made, since more could pass one of them over.
abbrev pub continued_back : Shown → Wanted → ThreadPoint → MoveEnd
continued_back s w c =
    if has_open s c w.watch.addresses then stepped_back s w.watch c
    else latest s w.watch c.thread (break_before s w.breaks c) (last_write s c w.watch.addresses)
