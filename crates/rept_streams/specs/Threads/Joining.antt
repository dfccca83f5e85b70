-- What joins are made from, as it is kept. This project's own.
use Rattle.std.specs.Prelude.{◌≡◌, ◌==◌, ℕ, List, length, Option, Some, None, is_none, if◌then◌else◌}
use Rattle.std.specs.List.{filter}
use Rattle.rept_path.specs.Program.{code_of}
use Rattle.rept_path.specs.declared.fault.PathFault.TheVariants.{Gap, End}
use Rattle.rept_streams.specs.Slices.Stamps.{address_of, context_of}
use Rattle.rept_streams.specs.Slices.Joins.{JoinGround, JoinedSlice, ThreadGround, of_thread}
use Rattle.rept_streams.specs.Slices.Parts.{begin_of, end_before}
use Rattle.rept_steps.specs.declared.slice.Slice.{Slice}
use Rattle.rept_streams.specs.Threads.Kept.{AreRan}
use Rattle.rept_streams.specs.Slices.Stretches.{RanSlice}
use Rattle.rept_streams.specs.declared.slices.telling.StreamSlice.{StreamSlice}
use Rattle.rept_streams.specs.declared.threads.walks.FinishedWalk.{FinishedWalk}
use Rattle.rept_streams.specs.declared.threads.walks.Walked.{Walked}
use Rattle.rept_streams.specs.declared.threads.joins.Joins.{Joins}
use Rattle.rept_streams.specs.declared.threads.joins.Lead.{Lead}

-- where a slice leads that stands at an address, where there are so many packets: to the next
-- slice, or to the end, this address
abbrev pub onward : ℕ → ℕ → ℕ → Option StreamSlice → Option Lead
onward packets at pc None = Some (record { packet = packets; to = pc; otherwise = End at pc })
onward packets at pc (Some e) = if is_none e.inside then Some (record { packet = e.number; to = address_of e.start; otherwise = Gap e.number at (address_of e.start) }) else None

abbrev pub ending_of : Joins → ℕ → ThreadGround
ending_of j pc = record { code = code_of j.program; packets = j.packets; pc = pc }

abbrev pub ground_of : Joins → JoinGround
ground_of j = record { code = code_of j.program; packets = j.packets }

-- Slices that stand in order have, of each thread, those that its slices are in order.
abbrev pub AreRanInOrder : List FinishedWalk → List Walked → List RanSlice → Type 0
AreRanInOrder kept ws rs = (process : ℕ) → AreRan kept (filter (λ (w : Walked). context_of w.slice.start == process) ws) (of_thread process rs)

-- a slice of a thread, by when the next one begins, of so many rows from this one on
abbrev pub slice_before : JoinedSlice → Option ℕ → ℕ → Slice
slice_before j next first = record { stream = j.told.stream; begin = begin_of j.told; end = end_before j.told next; first = first; count = length j.rows }

abbrev pub begin_of_ran : RanSlice → ℕ
begin_of_ran r = begin_of r.told

-- The joins stand as before, but for the count of rows, which is this one.
pub record JoinsGoOn (old new : Joins) (n : ℕ) : Type 0 where
  pub program : new.program ≡ old.program
  pub packets : new.packets ≡ old.packets
  pub stretches : new.stretches.items ≡ old.stretches.items
  pub count : new.count ≡ n
