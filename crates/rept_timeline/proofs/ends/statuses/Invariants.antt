use Rattle.std.proofs.Common.{◌≡◌, List, ℕ, length}
use Rattle.rept_dump.specs.Dump.{HasThreads}
use Rattle.rept_timeline.specs.Ends.{AreNoted, AreWhole}
use Rattle.rept_timeline.proofs.ends.statuses.Given as goal

abbrev pub invariant-loop-thread : goal.invariant-loop-thread
invariant-loop-thread l = record {
  count : length l.statuses.items ≡ l.thread;
  whole : AreWhole l.statuses.items;
  noted : (descs : List (List ℕ)) → HasThreads l.dump descs → AreNoted descs l.statuses.items;
}
