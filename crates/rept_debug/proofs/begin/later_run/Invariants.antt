use Rattle.std.proofs.Common.{◌<◌, ◌≤◌, ◌-◌, ◌^◌, ℕ, List, IfSome, length}
use Rattle.std.specs.Prelude.{MatchOption}
use Rattle.rept_found.specs.Crash.{crash_of}
use Rattle.rept_opening.specs.Reading.{AreNotesOf}
use Rattle.rept_opening.specs.TraceRun.{FitsDump, IsRunOf}
use Rattle.rept_debug.specs.Begin.{HasNoStart, IsRefusedAt}
use Rattle.rept_debug.proofs.begin.later_run.Given as goal

abbrev pub invariant-loop-high : goal.invariant-loop-high
invariant-loop-high l = record {
  order : l.low < l.high;
  high : l.high < 2 ^ 32;
  inside : 0 < length l.trace → l.high ≤ length l.trace;
  refused : (notes : List (List ℕ)) → AreNotesOf l.dump notes → IsRefusedAt (crash_of l.dump notes) l.trace l.low l.fault;
  sought : (notes : List (List ℕ)) → AreNotesOf l.dump notes → MatchOption l.found (HasNoStart (crash_of l.dump notes) l.trace l.high) (IsRunOf (crash_of l.dump notes) l.trace l.high);
  fits : IfSome l.found (FitsDump l.dump);
}

abbrev pub decreases-loop-high : goal.decreases-loop-high
decreases-loop-high l = l.high - l.low
