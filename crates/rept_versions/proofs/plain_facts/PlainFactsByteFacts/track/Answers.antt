use Rattle.std.proofs.Common.{subst, refl, false}
use Rattle.rept_versions.specs.Facts.{change, TracksOr}
use Rattle.rept_versions.specs.Listed.{store}
use Rattle.rept_versions.proofs.Steps.{tracks_plain}
use Rattle.rept_versions.proofs.plain_facts.PlainFactsByteFacts.track.Goals as goal

pub returns : goal.returns
returns c = subst (λ n. TracksOr (change false (store n) (store (record { entries = c.self.inside.facts.entries; row = c.add.new.self }))) c.args.a c.add.result) c.self.view_is (tracks_plain (record { entries = c.self.inside.facts.entries; row = c.self.inside.row }) (record { entries = c.self.inside.facts.entries; row = c.add.new.self }) c.args.a c.add.result refl c.add.ensures)
