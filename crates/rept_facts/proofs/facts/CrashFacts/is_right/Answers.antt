use Rattle.rept_timeline.specs.Paths.{timeline, lawful}
use Rattle.std.proofs.Common.{◌<◌, arith}
use Rattle.rept_facts.proofs.Since.{not_true}
use Rattle.rept_facts.proofs.facts.CrashFacts.is_right.Goals as goal

pub returns-then-i-count : goal.returns-then-i-count
returns-then-i-count g c =
    λ _ h.
    let inside : c.args.i < (timeline c.args.self.now.paths).legs.count = (lawful c.args.self.now.paths).legs.inside c.args.i h.row h.is_row in
    let past = c.if-i-count.true in
    let count = c.count.ensures.value in
    absurd (omega (arith, inside, past, count))

pub returns : goal.returns
returns g c = λ e. c.is_wrong.ensures.right (not_true c.is_wrong.result e)
