use Rattle.rept_reason.specs.Facts.{Knowledge, told}
use Rattle.rept_report.specs.Log.{oldest}
use Rattle.rept_report.specs.Setting.{Setting}
use Rattle.rept_report.specs.Spots.{spot}
use Rattle.rept_facts.specs.State.{setting_of}
use Rattle.rept_facts.proofs.Latest.{writer_is}
use Rattle.rept_facts.proofs.facts.CrashFacts.listed_writer.Goals as goal

pub returns : goal.returns
returns g c =
    let S : Setting g.row.W.Denot = setting_of g.W.Partial.sets g.W.Transfer.moves g.R.RowRules.rules c.args.self.now in
    let K : Knowledge = told (oldest c.args.self.now.filled c.args.self.now.known.log) in
    writer_is S K (spot c.args.moment c.args.a) c.latest_writer.result c.latest_writer.ensures
