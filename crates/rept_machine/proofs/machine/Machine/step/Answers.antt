use Rattle.std.proofs.Common.{rules}
use Rattle.rept_machine.proofs.machine.Machine.step.Goals as goal

pub returns-in_err-word-clause-state : goal.returns-in_err-word-clause-state
returns-in_err-word-clause-state c = record { zero = c.args.self.now.zero; words = c.args.self.now.words; bytes = c.args.self.now.memory.small }

pub returns-in_err-instr-clause-state : goal.returns-in_err-instr-clause-state
returns-in_err-instr-clause-state c = record { zero = c.args.self.now.zero; words = c.args.self.now.words; bytes = c.args.self.now.memory.small }

pub returns-clause-state : goal.returns-clause-state
returns-clause-state c = record { zero = search rules; words = c.execute-done.ensures.words; bytes = c.execute-done.new.memory.small }
