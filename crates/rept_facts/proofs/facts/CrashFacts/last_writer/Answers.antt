use Rattle.rept_timeline.specs.Paths.{timeline}
use Rattle.rept_reason.specs.Facts.{Knowledge, told}
use Rattle.rept_report.specs.Log.{oldest}
use Rattle.rept_report.specs.Setting.{Setting}
use Rattle.rept_report.specs.Spots.{spot}
use Rattle.rept_report.specs.Last.Latest.{IsLastWriter, IsMaybe, IsNoneFrom}
use Rattle.std.proofs.Common.{subst, sym}
use Rattle.rept_facts.specs.State.{Whole, setting_of}
use Rattle.rept_facts.specs.Latest.{writes_by}
use Rattle.rept_facts.proofs.Latest.{writer_is}
use Rattle.rept_facts.proofs.facts.CrashFacts.last_writer.Goals as goal

pub last_writer-requires-clause-none : goal.last_writer-requires-clause-none
last_writer-requires-clause-none g c =
    let S : Setting g.row.W.Denot = setting_of g.W.Partial.sets g.W.Transfer.moves g.R.RowRules.rules c.args.self.now in
    let K : Knowledge = told (oldest c.args.self.now.filled c.args.self.now.known.log) in
    subst (λ (x : Whole g.row.B.Denot g.row.W.Denot g.row.R.Denot). IsNoneFrom (IsMaybe (timeline x.paths) (writes_by S K) (spot c.args.byte.moment c.args.byte.address)) c.args.byte.end) (sym c.self.view_is) c.requires.none

pub returns : goal.returns
returns g c =
    let S : Setting g.row.W.Denot = setting_of g.W.Partial.sets g.W.Transfer.moves g.R.RowRules.rules c.args.self.now in
    let K : Knowledge = told (oldest c.args.self.now.filled c.args.self.now.known.log) in
    writer_is S K (spot c.args.byte.moment c.args.byte.address) c.last_writer.result (subst (λ (x : Whole g.row.B.Denot g.row.W.Denot g.row.R.Denot). IsLastWriter (timeline x.paths) (writes_by S K) (spot c.args.byte.moment c.args.byte.address) c.last_writer.result) c.self.view_is c.last_writer.ensures)
