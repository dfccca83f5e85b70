use Rattle.rept_timeline.specs.Paths.{timeline, lawful}
use Rattle.std.proofs.Common.{◌≤◌, IsSome, subst, sym, arith}
use Rattle.rept_log.specs.Fronts.{Stored}
use Rattle.rept_log.proofs.Fronts.{row_moment_end}
use Rattle.rept_log.proofs.front.Front.moment.Goals as goal

pub returns-clause-inside : goal.returns-clause-inside
returns-clause-inside g c =
    let there : IsSome ((timeline c.self.inside.paths.now).legs.row c.args.row) = subst (λ (b : Stored). IsSome ((timeline b.paths).legs.row c.args.row)) (sym c.self.view_is) c.requires in
    let inside = row_moment_end (timeline c.self.inside.paths.now).legs (timeline c.self.inside.paths.now).moments (lawful c.self.inside.paths.now).moments c.args.row c.args.when there in
    let value = c.moment_at.ensures in
    subst (λ (b : Stored). c.moment_at.result ≤ (timeline b.paths).moments.end) c.self.view_is (omega (arith, inside, value))
