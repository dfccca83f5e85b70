use Rattle.std.proofs.Common.{◌≤◌, sym, subst}
use Rattle.rept_session.specs.declared.command.Command.{Command}
use Rattle.rept_session.specs.Commands.{IsCommandWithin}
use Rattle.rept_session.proofs.answers.next_point.Goals as goal

pub returns-in-Goto-clause-within : goal.returns-in-Goto-clause-within
returns-in-Goto-clause-within c = subst (λ (k : Command). IsCommandWithin c.args.last 1 k) c.in-Goto.is (c.requires.command 1)
