use Rattle.std.proofs.Common.{subst, refl}
use Rattle.rept_versions.specs.OnLine.{store}
use Rattle.rept_versions.specs.Facts.{change, TracksOr}
use Rattle.rept_versions.proofs.Points.{tracks}
use Rattle.rept_versions.proofs.span_facts.SpanFactsByteFacts.track.Goals as goal

pub returns : goal.returns
returns c = subst (λ n. TracksOr (change _ (store n) (store (record { line = c.self.inside.line; row = c.add.new.self }))) c.args.a c.add.result) c.self.view_is (tracks (record { line = c.self.inside.line; row = c.self.inside.row }) (record { line = c.self.inside.line; row = c.add.new.self }) refl c.args.a c.add.result c.add.ensures)
