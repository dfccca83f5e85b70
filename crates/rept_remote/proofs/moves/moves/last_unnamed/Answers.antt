use Rattle.std.proofs.Common.{◌≡◌, arith}
use Rattle.rept_remote.proofs.MovesLemmas.Named.{here_named, last_found}
use Rattle.rept_remote.proofs.moves.moves.last_unnamed.Goals as goal

pub loop-high-init : goal.loop-high-init
loop-high-init g c =
    let s = g.F.Findings.shown c.args.findings.now in
    record {
      order = c.requires.some;
      within = omega arith;
      not_yet = c.requires.unnamed;
      named = here_named s c.args.here c.args.address c.args.row c.requires.last c.requires.here c.requires.named;
    }

pub returns-clause-value : goal.returns-clause-value
returns-clause-value g c =
    let s = g.F.Findings.shown c.args.findings.now in
    let i = c.loop-high.invariant in
    let near = c.loop-high-test.false in
    let order = i.order in
    last_found s c.args.here c.args.address c.args.row c.requires.last c.requires.here c.requires.named c.loop-high.low c.loop-high.high order (omega (arith, near, order)) i.within i.not_yet i.named
