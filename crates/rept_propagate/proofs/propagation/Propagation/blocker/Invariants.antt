use Rattle.std.proofs.Common.{◌≡◌, ◌-◌, ◌<◌, ℕ, length, true, false, Some, slice_get}
use Rattle.rept_alias.specs.Accesses.{call_hits}
use Rattle.rept_writing.specs.declared.list.Writing.{Writing}
use Rattle.rept_facts.specs.State.{state_of}
use Rattle.rept_propagate.proofs.propagation.Propagation.blocker.Given as goal

abbrev pub invariant-loop-hit : goal.invariant-loop-hit
invariant-loop-hit g l =
    let s = (state_of g.W.Partial.sets g.W.Transfer.moves g.R.RowRules.rules g.B.ByteFacts.store l.self.facts) in
    record { below : (j : ℕ) (x : Writing) → j < l.k → slice_get s.work.writing j ≡ Some x → call_hits x.access l.a ≡ true → s.path.given.moments.may_act x.row l.m l.w ≡ false }

abbrev pub decreases-loop-hit : goal.decreases-loop-hit
decreases-loop-hit g l = length (state_of g.W.Partial.sets g.W.Transfer.moves g.R.RowRules.rules g.B.ByteFacts.store l.self.facts).work.writing - l.k
