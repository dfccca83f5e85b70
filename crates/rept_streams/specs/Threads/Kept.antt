-- Stretches and slices as they are kept once they were walked. This project's own.
use Rattle.std.specs.Prelude.{◌≡◌, ◌+◌, ◌-◌, ℕ, ◌≤◌, List, [], ◌∷◌, length, slice_get, take, drop, Some}
use Rattle.std.specs.List.{sum_by}
use Rattle.rept_path.specs.Code.{Code}
use Rattle.rept_path.specs.State.{here, Counts}
use Rattle.rept_streams.specs.Slices.Parts.{ToldSlice}
use Rattle.rept_streams.specs.Slices.Stretches.{RanSlice, StretchLegs as WalkedStretch, count_of, ran}
use Rattle.rept_streams.specs.Slices.Joins.{ran_rows}
use Rattle.rept_streams.specs.Slices.Entries.{IsEntryOf}
use Rattle.rept_streams.specs.declared.slices.telling.StreamSlice.{StreamSlice}
use Rattle.rept_streams.specs.declared.threads.walks.FinishedWalk.{FinishedWalk}
use Rattle.rept_streams.specs.declared.threads.walks.Walked.{Walked}
use Rattle.rept_streams.specs.declared.threads.walks.Walks.{Walks}
use Rattle.rept_streams.specs.Slices.Ends.{first_or}

-- A slice is kept as its entry, the number of its stretch, and which rows of the stretch it has;
-- the stretch as its rows, and the walk as it ended, without them.
pub record IsRan (kept : List FinishedWalk) (w : Walked) (r : RanSlice) : Type 0 where
  pub told : IsEntryOf w.slice r.told
  pub stretch : FinishedWalk
  pub there : slice_get kept w.stretch ≡ Some stretch
  pub rows : take w.count (drop w.first stretch.rows) ≡ r.rows
  pub whole : w.count ≡ length r.rows
  pub fits : w.first + w.count ≤ length stretch.rows
  pub last : here stretch.walk ≡ record { at = r.last.at; rows = []; branches = r.last.branches }
  pub bits : stretch.walk.bits.items ≡ r.bits
  pub empty : stretch.walk.steps ≡ []
  pub counts : Counts stretch.walk

abbrev pub AreRan : List FinishedWalk → List Walked → List RanSlice → Type 0
AreRan kept [] rs = rs ≡ []
AreRan kept (w ∷ ws) [] = ⊥
AreRan kept (w ∷ ws) (r ∷ rs) = IsRan kept w r × AreRan kept ws rs

-- The slices of a stretch of this number, which has so many rows, by how many rows stand after each
-- start packet.
abbrev pub kept_by : ℕ → ℕ → List ℕ → List StreamSlice → List Walked
kept_by number rows [] es = []
kept_by number rows (m ∷ ms) [] = []
kept_by number rows (m ∷ ms) (e ∷ es) = record { slice = e; stretch = number; first = m; count = first_or rows ms - m } ∷ kept_by number rows ms es

-- Stretches of slices that were walked one after the other, as they are kept.
pub record AreKept (code : Code) (ts : List ToldSlice) (ws : List WalkedStretch) (walks : Walks) : Type 0 where
  pub slices : AreRan walks.stretches.items walks.slices.items (ran code ts ws)
  pub rows : walks.rows ≡ ran_rows (ran code ts ws)
  pub count : walks.rows ≡ sum_by (count_of code) ws
  pub few : walks.rows ≤ 65536
