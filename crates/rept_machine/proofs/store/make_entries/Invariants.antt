use Rattle.rept_machine.specs.Bytes.{SameBytes, HaveEntries}
use Rattle.rept_machine.proofs.store.make_entries.Given as goal

abbrev pub invariant-loop-k : goal.invariant-loop-k
invariant-loop-k l = SameBytes l.initial.memory l.memory × HaveEntries l.memory l.base l.k
