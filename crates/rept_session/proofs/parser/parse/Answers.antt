use Rattle.std.proofs.Common.{Result, IfOk, sym, subst}
use Rattle.rept_session.specs.declared.command.Command.{Command}
use Rattle.rept_session.specs.declared.command.BadCommand.{BadCommand}
use Rattle.rept_session.specs.Commands.{IsCommandWithin}
use Rattle.rept_session.proofs.WithinLemmas.{command_within}
use Rattle.rept_session.proofs.parser.parse.Goals as goal

pub returns-clause-within : goal.returns-clause-within
returns-clause-within g c =
    subst (λ (r : Result Command BadCommand). IfOk r (IsCommandWithin c.args.last c.args.threads)) (sym c.read_line.ensures) (command_within (g.F.Findings.shown c.args.findings.now).address_named c.args.last c.args.threads c.args.line.now)
