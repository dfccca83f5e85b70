use Rattle.rept_timeline.specs.Paths.{timeline, lawful}
use Rattle.std.proofs.Common.{sym, subst}
use Rattle.std.specs.Option.{IsSome}
use Rattle.rept_reason.specs.declared.view.inferred.When.TheVariants.{Before, After}
use Rattle.rept_facts.specs.State.{Whole}
use Rattle.rept_facts.proofs.Along.{moment_early}
use Rattle.rept_facts.proofs.facts.CrashFacts.moment_at.Goals as goal

pub returns-in-Before-clause-early : goal.returns-in-Before-clause-early
returns-in-Before-clause-early g c =
    let there = subst (λ (x : Whole g.row.B.Denot g.row.W.Denot g.row.R.Denot). IsSome ((timeline x.paths).legs.row c.args.row)) (sym c.self.view_is) c.requires in
    rw (← c.self.view_is) (rw c.before-in-Before.ensures (moment_early (timeline c.self.inside.paths.now) (lawful c.self.inside.paths.now) c.args.row Before there))

pub returns-in-After-clause-early : goal.returns-in-After-clause-early
returns-in-After-clause-early g c =
    let there = subst (λ (x : Whole g.row.B.Denot g.row.W.Denot g.row.R.Denot). IsSome ((timeline x.paths).legs.row c.args.row)) (sym c.self.view_is) c.requires in
    rw (← c.self.view_is) (rw c.after.ensures (moment_early (timeline c.self.inside.paths.now) (lawful c.self.inside.paths.now) c.args.row After there))
