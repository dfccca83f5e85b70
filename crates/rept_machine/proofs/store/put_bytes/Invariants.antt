use Rattle.rept_machine.specs.Bytes.{HaveEntries, BytesWritten}
use Rattle.rept_machine.proofs.store.put_bytes.Given as goal

abbrev pub invariant-loop-k : goal.invariant-loop-k
invariant-loop-k l = HaveEntries l.memory l.base l.width × BytesWritten l.initial.memory l.memory l.base l.value l.k
