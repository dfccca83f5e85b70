use Rattle.rept_timeline.specs.Paths.{lawful}
use Rattle.std.proofs.Common.{◌≡◌, ◌∙◌, true, sym, ap, subst}
use Rattle.rept_dump.specs.Dump.{exe_of, core_of}
use Rattle.rept_report.specs.Log.{oldest}
use Rattle.rept_facts.specs.Work.{work_of}
use Rattle.rept_facts.specs.State.{Whole, setting_of}
use Rattle.rept_facts.specs.Reasoned.{AreSetsOf, front_below}
use Rattle.rept_facts.proofs.Fronts.{front_by, front_same}
use Rattle.rept_facts.proofs.facts.CrashFacts.front.Goals as goal

pub new-requires-clause-front : goal.new-requires-clause-front
new-requires-clause-front g c =
    let a : Whole g.row.B.Denot g.row.W.Denot g.row.R.Denot = record { paths = c.self.inside.paths.now; last = c.self.inside.last.now; exe = exe_of c.self.inside.dump; core = core_of c.self.inside.dump; known = c.self.inside.known; spans = c.self.inside.spans; filled = c.self.inside.filled; rules = c.self.inside.rules; shown = c.self.inside.shown; complete = c.self.inside.complete; conflict = c.self.inside.conflict; work = work_of g.B.ByteFacts.JOINS (g.R.RowRules.infers c.self.inside.rules) c.self.inside.writing c.self.inside.inferred } in
    let sets = subst (λ (x : Whole g.row.B.Denot g.row.W.Denot g.row.R.Denot). AreSetsOf (setting_of g.W.Partial.sets g.W.Transfer.moves g.R.RowRules.rules x) (oldest c.args.limit x.known.log) c.args.spans.now) (sym c.self.view_is) c.requires.sets in
    let complete : c.self.inside.complete ≡ true = subst (λ (x : Whole g.row.B.Denot g.row.W.Denot g.row.R.Denot). x.complete ≡ true) (sym c.self.view_is) c.requires.complete in
    front_by g.W.Partial.sets g.W.Transfer.moves g.R.RowRules.rules g.B.ByteFacts.store a c.args.limit c.args.spans.now (record { sets = g.met.W.Partial.lawful; moves = g.met.W.Transfer.covers; rules = g.met.R.RowRules.lawful; legs = (lawful c.self.inside.paths.now).legs; moments = (lawful c.self.inside.paths.now).moments }) c.self.invariant (c.self.invariant.finished complete) sets

pub returns : goal.returns
returns g c =
    let a : Whole g.row.B.Denot g.row.W.Denot g.row.R.Denot = record { paths = c.self.inside.paths.now; last = c.self.inside.last.now; exe = exe_of c.self.inside.dump; core = core_of c.self.inside.dump; known = c.self.inside.known; spans = c.self.inside.spans; filled = c.self.inside.filled; rules = c.self.inside.rules; shown = c.self.inside.shown; complete = c.self.inside.complete; conflict = c.self.inside.conflict; work = work_of g.B.ByteFacts.JOINS (g.R.RowRules.infers c.self.inside.rules) c.self.inside.writing c.self.inside.inferred } in
    front_same g.W.Partial.sets g.W.Transfer.moves g.R.RowRules.rules a c.args.limit c.new.result c.new.ensures ∙ ap (λ (x : Whole g.row.B.Denot g.row.W.Denot g.row.R.Denot). front_below g.W.Partial.sets g.W.Transfer.moves g.R.RowRules.rules x c.args.limit) c.self.view_is
