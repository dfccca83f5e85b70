use Rattle.std.proofs.Common.{◌∙◌, sym, ap}
use Rattle.rept_versions.proofs.Rows.{puts_again}
use Rattle.rept_versions.proofs.tracked.Tracked.add.Goals as goal

pub returns-then-contains : goal.returns-then-contains
returns-then-contains c = puts_again c.args.self.now c.self.inside.set.keys c.args.a (ap (λ r. r.items) c.self.view_is) (sym c.contains.ensures ∙ c.if-contains.true)
