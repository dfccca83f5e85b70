use Rattle.std.proofs.Common.{List}
use Rattle.rept_isa.specs.declared.instr.Instr.{Instr}
use Rattle.test_kit.specs.declared.threads.turns.turn.Turn.{Turn}
use Rattle.test_kit.specs.Threads.Play.Code.{IsPlayable, AreWords}
use Rattle.test_kit.specs.Threads.Play.Ran.{RanTurns, IsStartState}
use Rattle.test_kit.proofs.threads.play.machine.run.Given as goal

abbrev pub invariant-loop-k : goal.invariant-loop-k
invariant-loop-k l = (code : List Instr) (turns : List Turn) → IsPlayable code turns → AreWords code turns l.words → (ran : RanTurns code turns l.k l.machine) × IsStartState l.fn.registers (ran.states 0)
