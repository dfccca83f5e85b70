-- The run of what harts did, and of which runs a written trace tells all. Nothing is said here of
-- packets or bytes. This project's own.
use Rattle.std.specs.Prelude.{◌≡◌, ℕ, suc, ◌+◌, ◌==◌, ◌<◌, ◌≤◌, true, List, [], ◌∷◌, ◌++◌, map, length, Option, Some, None}
use Rattle.std.specs.List.{All, filter, flat_map, list_any, sum_by}
use Rattle.rept_steps.specs.declared.run.Run.{Run}
use Rattle.rept_steps.specs.declared.slice.Slice.{Slice}
use Rattle.rept_steps.specs.declared.threads.ThreadRows.{ThreadRows}
use Rattle.rept_steps.specs.Course.{KeepTime}
use Rattle.rept_steps.specs.Linked.{AreLinked, EndBefore}
use Rattle.rept_path.specs.Code.{Code}
use Rattle.rept_path.specs.Rows.{CarryCode}
use Rattle.rept_streams.specs.Slices.Joins.{ThreadNote}
use Rattle.rept_streams.specs.Slices.Order.{by_time}
use Rattle.rept_encode.specs.declared.weaving.stretch.HartStretch.{HartStretch}
use Rattle.test_kit.specs.Threads.Woven.Told.{AreInTime}

-- a stretch, and the number of the hart that ran it
pub record Piece : Type 0 where
  pub hart : ℕ
  pub stretch : HartStretch

abbrev pub on_hart : ℕ → HartStretch → Piece
on_hart h s = record { hart = h; stretch = s }

-- all stretches, hart by hart, from the hart of this number on
abbrev pub pieces_from : ℕ → List (List HartStretch) → List Piece
pieces_from h [] = []
pieces_from h (hart ∷ harts) = map (on_hart h) hart ++ pieces_from (suc h) harts

abbrev pub pieces : List (List HartStretch) → List Piece
pieces harts = pieces_from 0 harts

abbrev pub begin_of : Piece → ℕ
begin_of p = p.stretch.begin

-- A thread's stretches in order: by their begins; of one begin, that of the lower hart first, and
-- as the hart ran them.
abbrev pub of_thread : ℕ → List Piece → List Piece
of_thread process ps = by_time begin_of (filter (λ p. p.stretch.process == process) ps)

-- a slice for each stretch, whose rows follow those of the one before it
abbrev pub slice_of : ℕ → Piece → Slice
slice_of first p = record { stream = p.hart; begin = p.stretch.begin; end = p.stretch.end; first = first; count = length p.stretch.steps }

abbrev pub slices_from : ℕ → List Piece → List Slice
slices_from first [] = []
slices_from first (p ∷ ps) = slice_of first p ∷ slices_from (first + length p.stretch.steps) ps

-- what a thread did in these stretches
abbrev pub thread_of : List Piece → ThreadRows
thread_of ps = record { steps = flat_map (λ (p : Piece). p.stretch.steps) ps; slices = slices_from 0 ps }

abbrev pub thread_in : List (List HartStretch) → ThreadNote → ThreadRows
thread_in harts note = thread_of (of_thread note.process (pieces harts))

-- when the harts began that did something
abbrev pub begins : List (List HartStretch) → List ℕ
begins [] = []
begins ([] ∷ harts) = begins harts
begins ((s ∷ hart) ∷ harts) = s.begin ∷ begins harts

-- what happened before two harts or more began isn't told
abbrev pub untraced_of : List ℕ → Option ℕ
untraced_of [] = None
untraced_of (time ∷ []) = None
untraced_of (time ∷ (other ∷ times)) = Some time

-- The run of the harts: the threads of the notes, in their order. No packet is skipped.
abbrev pub run_of_harts : List (List HartStretch) → List ThreadNote → Run
run_of_harts harts notes = record { threads = map (thread_in harts) notes; untraced = untraced_of (begins harts); skipped = 0 }

-- A thread's steps follow one another up to where it stopped, and so do its slices in time.
pub record IsThreadJoined (t : ThreadRows) (pc : ℕ) : Type 0 where
  pub linked : AreLinked t.steps
  pub ends : EndBefore t.steps pc
  pub in_time : KeepTime t.slices

-- The thread has a note.
abbrev pub IsNoted : List ThreadNote → Piece → Type 0
IsNoted notes p = list_any (λ (n : ThreadNote). n.process == p.stretch.process) notes ≡ true

-- Two stretches of one thread that begin at one time are of one hart.
abbrev pub AreApart : Piece → Piece → Type 0
AreApart p q = p.stretch.process ≡ q.stretch.process → p.stretch.begin ≡ q.stretch.begin → p.hart ≡ q.hart

-- What is asked of harts and the notes of threads, so that a trace tells all of the run.
pub record AreOrdered (harts : List (List HartStretch)) (notes : List ThreadNote) : Type 0 where
  -- The stretches of each hart follow one another in time.
  pub in_time : All (AreInTime 0) harts
  -- Some hart did something, and all that did began at one time.
  pub some : 0 < length (begins harts)
  pub time : ℕ
  pub together : All (λ begin. begin ≡ time) (begins harts)
  -- No thread begins on two harts at a time, and each has a note.
  pub apart : All (λ p. All (AreApart p) (pieces harts)) (pieces harts)
  pub noted : All (IsNoted notes) (pieces harts)
  -- Each thread goes on from stretch to stretch, up to the program counter of its note.
  pub joined : All (λ (n : ThreadNote). IsThreadJoined (thread_in harts n) n.pc) notes
  -- All threads together have no more steps than a run can have.
  pub few : sum_by (λ (n : ThreadNote). length (thread_in harts n).steps) notes ≤ 65536

-- The code has the instructions of all stretches.
abbrev pub HasStretches : Code → List (List HartStretch) → Type 0
HasStretches code harts = All (λ (p : Piece). CarryCode code p.stretch.steps) (pieces harts)
