use Rattle.rept_timeline.specs.Paths.{lawful}
use Rattle.std.proofs.Common.{◌∙◌, IfErr, subst}
use Rattle.rept_reason.specs.Facts.{told}
use Rattle.rept_span.specs.Ranges.{IsEmptyFirst}
use Rattle.rept_span.specs.Filled.{IsFilled}
use Rattle.rept_report.specs.Setting.{way_of}
use Rattle.rept_report.specs.Log.{oldest}
use Rattle.rept_facts.specs.State.{Whole, setting_of, state_of}
use Rattle.rept_facts.proofs.Fronts.{quiet_below, filled_ok, on_ok}
use Rattle.rept_facts.proofs.facts.CrashFacts.fill_sets.Goals as goal

pub unwrap-requires : goal.unwrap-requires
unwrap-requires g c = filled_ok (setting_of g.W.Partial.sets g.W.Transfer.moves g.R.RowRules.rules c.args.self.now) (told (oldest c.args.limit c.args.self.now.known.log)) (quiet_below (state_of g.W.Partial.sets g.W.Transfer.moves g.R.RowRules.rules g.B.ByteFacts.store c.args.self.now) (record { sets = g.met.W.Partial.lawful; moves = g.met.W.Transfer.covers; rules = g.met.R.RowRules.lawful; legs = (lawful c.args.self.now.paths).legs; moments = (lawful c.args.self.now.paths).moments }) c.held.ensures (c.held.ensures.finished c.requires.complete) c.args.limit) c.fill_along.result (subst (λ (x : Whole g.row.B.Denot g.row.W.Denot g.row.R.Denot). IfErr c.fill_along.result (λ e. IsEmptyFirst (way_of (setting_of g.W.Partial.sets g.W.Transfer.moves g.R.RowRules.rules x)) (told (oldest c.args.limit x.known.log)) e.point e.reg)) c.self.view_is c.fill_along.ensures.empty)

pub returns-clause-sets : goal.returns-clause-sets
returns-clause-sets g c =
    let ok = filled_ok (setting_of g.W.Partial.sets g.W.Transfer.moves g.R.RowRules.rules c.args.self.now) (told (oldest c.args.limit c.args.self.now.known.log)) (quiet_below (state_of g.W.Partial.sets g.W.Transfer.moves g.R.RowRules.rules g.B.ByteFacts.store c.args.self.now) (record { sets = g.met.W.Partial.lawful; moves = g.met.W.Transfer.covers; rules = g.met.R.RowRules.lawful; legs = (lawful c.args.self.now.paths).legs; moments = (lawful c.args.self.now.paths).moments }) c.held.ensures (c.held.ensures.finished c.requires.complete) c.args.limit) c.fill_along.result (subst (λ (x : Whole g.row.B.Denot g.row.W.Denot g.row.R.Denot). IfErr c.fill_along.result (λ e. IsEmptyFirst (way_of (setting_of g.W.Partial.sets g.W.Transfer.moves g.R.RowRules.rules x)) (told (oldest c.args.limit x.known.log)) e.point e.reg)) c.self.view_is c.fill_along.ensures.empty) in
    record {
      sized = c.fill_along.ensures.points ∙ c.requires.sized;
      filled = subst (λ (x : Whole g.row.B.Denot g.row.W.Denot g.row.R.Denot). IsFilled (way_of (setting_of g.W.Partial.sets g.W.Transfer.moves g.R.RowRules.rules x)) c.fill_along.new.self (told (oldest c.args.limit x.known.log))) c.self.view_is (on_ok c.fill_along.result _ ok c.fill_along.ensures.filled);
    }
