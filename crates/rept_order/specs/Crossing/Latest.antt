-- The two latest ends of a list of writers: the greatest one, and the greatest one of other threads
-- than that writer's. This project's own.
use Rattle.std.specs.Prelude.{◌≡◌, ℕ, suc, ◌==◌, nat_lt, nat_le, if◌then◌else◌, Bool, true, false, List, length, take, Option, Some, None, slice_get}
use Rattle.std.specs.List.{list_any}
use Rattle.rept_order.specs.declared.crossing.writer.TimedWriter.{TimedWriter}
use Rattle.rept_order.specs.declared.crossing.latest.Latest.{Latest}
use Rattle.rept_order.specs.Crossing.Writers.{lasts_to}

abbrev pub later_of : Option ℕ → ℕ → Option ℕ
later_of None time = Some time
later_of (Some known) time = if nat_lt time known then Some known else Some time

abbrev pub latest_none : Latest
latest_none = record { thread = 0; end = None; other = None }

abbrev pub latest_known : Latest → ℕ → TimedWriter → Latest
latest_known x end w =
    if w.thread == x.thread
    then record { thread = x.thread; end = later_of x.end w.end; other = x.other }
    else (if nat_le w.end end
    then record { thread = x.thread; end = x.end; other = later_of x.other w.end }
    else record { thread = w.thread; end = Some w.end; other = x.end })

abbrev pub latest_by : Latest → TimedWriter → Option ℕ → Latest
latest_by x w None = record { thread = w.thread; end = Some w.end; other = None }
latest_by x w (Some end) = latest_known x end w

abbrev pub latest_with : Latest → TimedWriter → Latest
latest_with x w = latest_by x w x.end

abbrev pub reaches_to : Option ℕ → ℕ → Bool
reaches_to None from = false
reaches_to (Some end) from = nat_le from end

abbrev pub latest_reaches : Latest → ℕ → ℕ → Bool
latest_reaches x thread from = reaches_to (if thread == x.thread then x.other else x.end) from

-- it tells of each thread whether a writer of another one lasts to a time
pub record TellsLatest (ws : List TimedWriter) (x : Latest) : Type 0 where
  pub is : (thread from : ℕ) → list_any (lasts_to thread from) ws ≡ latest_reaches x thread from
  pub least : (from : ℕ) → reaches_to x.other from ≡ true → reaches_to x.end from ≡ true

-- one for the first so many writers, from none on
pub record AreLatest (ws : List TimedWriter) (xs : List Latest) : Type 0 where
  pub count : length xs ≡ suc (length ws)
  pub each : (k : ℕ) (x : Latest) → slice_get xs k ≡ Some x → TellsLatest (take k ws) x
