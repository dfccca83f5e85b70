-- The calls in which threads stand as their rows begin. As a window opens most threads stand in
-- calls. The kernel writes for these until they return, but the rows that entered them aren't in
-- the window. So each such call is made a row, before the others of its thread. This project's own.
use Rattle.std.specs.Prelude.{map, ℕ, ◌+◌, ◌-◌, nat_le, nat_lt, List, [], ◌∷◌, length, Option, Some, None, is_some, Bool, ◌&&◌, ◌||◌, if◌then◌else◌}
use Rattle.rept_isa.specs.declared.row.StepRow.{StepRow}
use Rattle.rept_path.specs.Code.{Code, look, calls_there}
use Rattle.rept_path.specs.Gap.{call_row}
use Rattle.rept_steps.specs.declared.run.Run.{Run}
use Rattle.rept_steps.specs.declared.slice.Slice.{Slice}
use Rattle.rept_steps.specs.declared.threads.ThreadRows.{ThreadRows}
use Rattle.rept_timeline.specs.Small.{rows_in}

-- the row of the call that stands right before an address, if one does
abbrev pub call_before : Code → ℕ → Option StepRow
call_before code a = if nat_le 4 a && calls_there (look code (a - 4)) then Some (call_row code (a - 4) a) else None

-- where the rows of a thread begin: at the first one; of a thread without rows at the program
-- counter of its note
abbrev pub begin_address : List StepRow → ℕ → ℕ
begin_address [] pc = pc
begin_address (row ∷ rows) pc = row.at

-- The slice of such a row, of begin and end 0: the call is entered before all other rows, and
-- returns as the thread's next slice begins.
abbrev pub entry_slice : Slice
entry_slice = record { stream = 0; begin = 0; end = 0; first = 0; count = 1 }

-- the same slice, whose rows stand so many places later
abbrev pub later_by : ℕ → Slice → Slice
later_by n s = record { stream = s.stream; begin = s.begin; end = s.end; first = s.first + n; count = s.count }

abbrev pub with_row : StepRow → ThreadRows → ThreadRows
with_row row th = record { steps = row ∷ th.steps; slices = entry_slice ∷ map (later_by 1) th.slices }

abbrev pub with_entry : Option StepRow → ThreadRows → ThreadRows
with_entry None th = th
with_entry (Some row) th = with_row row th

-- a thread that ends at this program counter
abbrev pub with_call : Code → ℕ → ThreadRows → ThreadRows
with_call code pc th = with_entry (call_before code (begin_address th.steps pc)) th

-- threads that end at these
abbrev pub with_calls : Code → List ℕ → List ThreadRows → List ThreadRows
with_calls code pcs [] = []
with_calls code [] (th ∷ ths) = th ∷ ths
with_calls code (pc ∷ pcs) (th ∷ ths) = with_call code pc th ∷ with_calls code pcs ths

-- the run of threads that end at these, with the calls in which they stand as their rows begin
abbrev pub with_all : Code → List ℕ → Run → Run
with_all code pcs run = record { threads = with_calls code pcs run.threads; untraced = run.untraced; skipped = run.skipped }

-- whether it is more than one thread of which all is traced
abbrev pub is_shared : Run → Bool
is_shared run = nat_lt 1 (length run.threads) || is_some run.untraced

-- That run. Nothing is added to a run of one thread without an untraced prefix: its call had
-- returned as the window opened. Nor is it where there would be more than 65,536 rows.
abbrev pub entered : Code → List ℕ → Run → Run
entered code pcs run = if is_shared run && nat_le (rows_in (with_calls code pcs run.threads)) 65536 then with_all code pcs run else run
