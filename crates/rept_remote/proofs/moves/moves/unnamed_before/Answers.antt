use Rattle.std.proofs.Common.{◌≡◌, true, rules, sym}
use Rattle.rept_findings.specs.Texts.{at}
use Rattle.rept_remote.specs.Moves.Halts.{names}
use Rattle.rept_remote.proofs.MovesLemmas.Named.{none_unnamed}
use Rattle.rept_remote.proofs.moves.moves.unnamed_before.Goals as goal

pub returns-then-names-clause-value : goal.returns-then-names-clause-value
returns-then-names-clause-value g c =
    let s = g.F.Findings.shown c.args.findings.now in
    let is : names s (at c.args.here.thread 0) c.args.address c.args.row ≡ true = search rules in
    sym (none_unnamed s c.args.here c.args.address c.args.row c.requires.last c.requires.here c.requires.named is)
