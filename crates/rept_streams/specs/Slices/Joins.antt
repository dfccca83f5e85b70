-- The slices of a thread joined one to the next, and the last one to the end. The rows of a join
-- are the last ones of the former slice. This project's own.
use Rattle.std.specs.Prelude.{ℕ, ◌+◌, ◌-◌, ◌==◌, List, [], ◌∷◌, ◌++◌, length, reverse, Option, Some, None, option_map, Result, Ok, is_none, if◌then◌else◌}
use Rattle.std.specs.List.{filter, flat_map, sum_by}
use Rattle.rept_isa.specs.declared.row.StepRow.{StepRow}
use Rattle.rept_steps.specs.declared.slice.Slice.{Slice}
use Rattle.rept_steps.specs.declared.threads.ThreadRows.{ThreadRows}
use Rattle.rept_path.specs.Code.{Code}
use Rattle.rept_path.specs.declared.fault.PathFault.{PathFault}
use Rattle.rept_path.specs.Moves.{Stand, ◌>>=◌}
use Rattle.rept_path.specs.Gap.{gap_to_start, gap_to_end}
use Rattle.rept_streams.specs.Slices.Stamps.{address_of}
use Rattle.rept_streams.specs.Slices.Parts.{ToldSlice, thread_of, begin_of, end_before}
use Rattle.rept_streams.specs.Slices.Order.{by_time, head_of}
use Rattle.rept_streams.specs.Slices.Stretches.{RanSlice}

-- a thread's note: its process (`pr_pid`, the thread's own number), and its program counter at the
-- end
pub record ThreadNote : Type 0 where
  pub process : ℕ
  pub pc : ℕ

-- what joins are made over: the program, the count of all packets, and the thread's program counter
-- at the end
pub record ThreadGround : Type 0 where
  pub code : Code
  pub packets : ℕ
  pub pc : ℕ

-- where a slice's stretch stands before a packet, where so many rows stand in all threads
abbrev pub stand_at : ℕ → RanSlice → ℕ → Stand
stand_at k r count = record { packet = k; bits = r.bits; place = record { at = r.last.at; rows = []; branches = r.last.branches }; room = 65536 - count }

-- The rows, newest first, that lead from a slice to the next one of its thread, or to the end. A
-- slice that begins while the trace runs stands where the former one ended.
abbrev pub bridge : ThreadGround → ℕ → RanSlice → Option RanSlice → Result (List StepRow) PathFault
bridge e count r None = gap_to_end e.code (stand_at e.packets r count) e.pc
bridge e count r (Some next) =
    if is_none next.told.inside then gap_to_start e.code (stand_at next.told.number r count) (address_of next.told.start)
    else Ok []

-- A slice with the rows that lead on from it, oldest first.
pub record JoinedSlice : Type 0 where
  pub told : ToldSlice
  pub rows : List StepRow

abbrev pub with_rows : RanSlice → List StepRow → JoinedSlice
with_rows r more = record { told = r.told; rows = r.rows ++ reverse more }

-- the slices of a thread, in their order, where so many rows stand in all threads
abbrev pub join : ThreadGround → ℕ → List RanSlice → Result (List JoinedSlice) PathFault
join e count [] = Ok []
join e count (r ∷ rs) = do
  more ← bridge e count r (head_of rs)
  others ← join e (count + length more) rs
  Ok (with_rows r more ∷ others)

abbrev pub slice_by : JoinedSlice → Option JoinedSlice → ℕ → Slice
slice_by j next first =
    record { stream = j.told.stream; begin = begin_of j.told; end = end_before j.told (option_map (λ (n : JoinedSlice). begin_of n.told) next); first = first; count = length j.rows }

-- the slices of a thread, which take its rows from this number on
abbrev pub slices : ℕ → List JoinedSlice → List Slice
slices first [] = []
slices first (j ∷ js) = slice_by j (head_of js) first ∷ slices (first + length j.rows) js

abbrev pub thread : List JoinedSlice → ThreadRows
thread js = record { steps = flat_map (λ (j : JoinedSlice). j.rows) js; slices = slices 0 js }

-- the slices of a thread in order
abbrev pub of_thread : ℕ → List RanSlice → List RanSlice
of_thread process rs = by_time (λ r. begin_of r.told) (filter (λ r. thread_of r.told == process) rs)

abbrev pub thread_ground : Code → ℕ → ThreadNote → ThreadGround
thread_ground code packets note = record { code = code; packets = packets; pc = note.pc }

abbrev pub rows_in : List JoinedSlice → ℕ
rows_in js = sum_by (λ (j : JoinedSlice). length j.rows) js

abbrev pub ran_rows : List RanSlice → ℕ
ran_rows rs = sum_by (λ (r : RanSlice). length r.rows) rs

-- a program, and how many packets there are
pub record JoinGround : Type 0 where
  pub code : Code
  pub packets : ℕ

-- all threads, in the order of their notes, where so many rows stand in all threads; the rows of
-- joins are counted as they are made
abbrev pub threads : JoinGround → ℕ → List ThreadNote → List RanSlice → Result (List ThreadRows) PathFault
threads g count [] rs = Ok []
threads g count (note ∷ notes) rs = do
  js ← join (thread_ground g.code g.packets note) count (of_thread note.process rs)
  others ← threads g (count + (rows_in js - ran_rows (of_thread note.process rs))) notes rs
  Ok (thread js ∷ others)
