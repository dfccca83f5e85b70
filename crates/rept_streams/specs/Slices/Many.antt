-- The run that several streams of packets tell of a program with several threads, and why there is
-- none. This project's own.
use Rattle.std.specs.Prelude.{map, ◌≡◌, ◌⊎◌, ℕ, List, length, Option, Some, None, Result, Ok, Err, option_map}
use Rattle.std.specs.List.{sum_by}
use Rattle.rept_steps.specs.declared.run.Run.{Run}
use Rattle.rept_steps.specs.declared.threads.ThreadRows.{ThreadRows}
use Rattle.rept_trace.specs.declared.packet.Packet.{Packet}
use Rattle.rept_path.specs.Code.{Code}
use Rattle.rept_path.specs.declared.fault.PathFault.{PathFault}
use Rattle.rept_path.specs.declared.fault.PathFault.TheVariants.{SliceOverlap}
use Rattle.rept_path.specs.Moves.{◌>>=◌}
use Rattle.rept_streams.specs.Slices.Parts.{ToldSlice, slices_told}
use Rattle.rept_streams.specs.Slices.Skipping.{kept, skipped, untraced}
use Rattle.rept_streams.specs.Slices.Order.{overlap}
use Rattle.rept_streams.specs.Slices.Checks.{first_fault, check}
use Rattle.rept_streams.specs.Slices.Stretches.{heads, StretchLegs, Walks, WalksFault, ran}
use Rattle.rept_streams.specs.Slices.Joins.{ThreadNote, JoinGround, ran_rows, threads}

-- a program, the packets of each stream, the notes of the threads, and the number from which on a
-- window may begin
pub record Traces : Type 0 where
  pub code : Code
  pub streams : List (List Packet)
  pub notes : List ThreadNote
  pub from : ℕ

abbrev pub processes : Traces → List ℕ
processes t = map (λ (n : ThreadNote). n.process) t.notes

-- the slices that are left
abbrev pub left : Traces → List ToldSlice
left t = slices_told (kept t.from t.streams)

abbrev pub ground : Traces → JoinGround
ground t = record { code = t.code; packets = sum_by (λ packets. length packets) t.streams }

-- Two streams tell of one thread at a time.
abbrev pub overlap_fault : List ToldSlice → ℕ → Option PathFault
overlap_fault ts process = option_map (λ time. SliceOverlap process time) (overlap ts process)

abbrev pub unmet : Option PathFault → Result ℕ PathFault
unmet None = Ok 0
unmet (Some e) = Err e

abbrev pub run_by : Traces → List ThreadRows → Run
run_by t all = record { threads = all; untraced = untraced t.from t.streams; skipped = skipped t.from t.streams }

-- The run of stretches that were walked: no two streams tell of one thread at a time, and each
-- thread's slices are joined.
abbrev pub joined : Traces → List StretchLegs → Result Run PathFault
joined t ws =
    let rs = ran t.code (left t) ws in do
      none ← unmet (first_fault (overlap_fault (left t)) (processes t))
      all ← threads (ground t) (ran_rows rs) t.notes rs
      Ok (run_by t all)

-- The packets pass the checks, the stretches are walked, and this is the run of them.
pub record IsRunOfStreams (t : Traces) (run : Run) : Type 0 where
  pub passed : check t.from (processes t) t.streams ≡ None
  pub walked : List StretchLegs
  pub walks : Walks t.code 0 (heads (left t)) walked
  pub result : joined t walked ≡ Ok run

-- The first of these that fails is why there is none: the checks, in their order; the walks, stream
-- by stream; then, thread by thread in the order of the notes, whether two streams tell of it at a
-- time (`overlap_fault`, the first part of `joined`); and then the joins.
abbrev pub HasNoRunOfStreams : Traces → PathFault → Type 0
HasNoRunOfStreams t e =
    (check t.from (processes t) t.streams ≡ Some e)
    ⊎ ((check t.from (processes t) t.streams ≡ None)
    × (WalksFault t.code 0 (heads (left t)) e ⊎ ((walked : List StretchLegs) × Walks t.code 0 (heads (left t)) walked × (joined t walked ≡ Err e))))
