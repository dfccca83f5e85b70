use Rattle.rept_timeline.specs.Paths.{timeline, lawful}
use Rattle.std.proofs.Common.{ℕ, subst}
use Rattle.rept_report.specs.Timeline.{IsBegun, IsGreatestTo}
use Rattle.rept_facts.specs.State.{Whole}
use Rattle.rept_facts.proofs.Last.{begun_inside}
use Rattle.rept_facts.proofs.facts.CrashFacts.last_begun.Goals as goal

pub returns-clause-row : goal.returns-clause-row
returns-clause-row g c =
    let here = subst (λ (x : Whole g.row.B.Denot g.row.W.Denot g.row.R.Denot). IsGreatestTo (IsBegun (timeline x.paths) c.args.moment) c.count.result c.begun_to.result) c.self.view_is c.begun_to.ensures in
    subst (λ (n : ℕ). IsGreatestTo (IsBegun (timeline c.args.self.now.paths) c.args.moment) n c.begun_to.result) c.count.ensures.value here

pub returns-clause-inside : goal.returns-clause-inside
returns-clause-inside g c =
    let here = subst (λ (x : Whole g.row.B.Denot g.row.W.Denot g.row.R.Denot). IsGreatestTo (IsBegun (timeline x.paths) c.args.moment) c.count.result c.begun_to.result) c.self.view_is c.begun_to.ensures in
    begun_inside (timeline c.args.self.now.paths) (lawful c.args.self.now.paths).legs c.args.moment c.count.result c.begun_to.result here
