use Rattle.std.proofs.Common.{◌≡◌, ◌≤◌, ◌+◌, length}
use Rattle.rept_facts.specs.State.{state_of, with_writing}
use Rattle.rept_facts.specs.Inferring.{AreWritingsBefore}
use Rattle.rept_facts.proofs.facts.CrashFacts.list_writing.Given as goal

abbrev pub invariant-loop-number : goal.invariant-loop-number
invariant-loop-number g l =
    let st = state_of g.W.Partial.sets g.W.Transfer.moves g.R.RowRules.rules g.B.ByteFacts.store in
    record {
      same : st l.self ≡ with_writing (st l.fn.self) (st l.self).work.writing;
      room : length (st l.self).work.writing ≤ l.number;
      listed : AreWritingsBefore l.number (st l.self).work.writing (st l.fn.self);
      count : l.count ≡ (st l.fn.self).path.given.moments.end + 1;
    }
