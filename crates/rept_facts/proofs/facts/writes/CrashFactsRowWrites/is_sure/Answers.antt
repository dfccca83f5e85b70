use Rattle.rept_timeline.specs.Paths.{timeline}
use Rattle.std.proofs.Common.{◌≡◌, ◌<◌, Some, sym, subst, arith, ◌∙◌}
use Rattle.rept_dump.specs.Dump.{exe_of, core_of}
use Rattle.rept_reason.specs.Facts.{told}
use Rattle.rept_report.specs.Log.{oldest}
use Rattle.rept_facts.specs.Work.{work_of}
use Rattle.rept_facts.specs.State.{Whole, setting_of, state_of}
use Rattle.rept_facts.specs.Inferring.{IsFitted}
use Rattle.rept_facts.proofs.Following.{words_below}
use Rattle.rept_facts.proofs.Answering.{sure_is, none_sure}
use Rattle.rept_facts.proofs.facts.writes.CrashFactsRowWrites.is_sure.Goals as goal

pub invariant_of-view : goal.invariant_of-view
invariant_of-view g c =
    let a : Whole g.row.B.Denot g.row.W.Denot g.row.R.Denot = record { paths = c.self.inside.paths.now; last = c.self.inside.last.now; exe = exe_of c.self.inside.dump; core = core_of c.self.inside.dump; known = c.self.inside.known; spans = c.self.inside.spans; filled = c.self.inside.filled; rules = c.self.inside.rules; shown = c.self.inside.shown; complete = c.self.inside.complete; conflict = c.self.inside.conflict; work = work_of g.B.ByteFacts.JOINS (g.R.RowRules.infers c.self.inside.rules) c.self.inside.writing c.self.inside.inferred } in
    let inside = subst (λ (x : Whole g.row.B.Denot g.row.W.Denot g.row.R.Denot). c.args.row < (timeline x.paths).legs.count) (sym c.self.view_is) c.requires.0 in
    let last_is = c.self.invariant.last_is in
    let sized = c.self.invariant.sized in
    record { inside = omega (arith, inside, last_is); near = c.len-len.ensures.near; sized = omega (arith, sized, last_is); words = words_below (state_of g.W.Partial.sets g.W.Transfer.moves g.R.RowRules.rules g.B.ByteFacts.store a) c.self.inside.filled c.len-len.ensures.once c.len-len.ensures.words }

pub returns-in-Some : goal.returns-in-Some
returns-in-Some g c =
    let a : Whole g.row.B.Denot g.row.W.Denot g.row.R.Denot = record { paths = c.self.inside.paths.now; last = c.self.inside.last.now; exe = exe_of c.self.inside.dump; core = core_of c.self.inside.dump; known = c.self.inside.known; spans = c.self.inside.spans; filled = c.self.inside.filled; rules = c.self.inside.rules; shown = c.self.inside.shown; complete = c.self.inside.complete; conflict = c.self.inside.conflict; work = work_of g.B.ByteFacts.JOINS (g.R.RowRules.infers c.self.inside.rules) c.self.inside.writing c.self.inside.inferred } in
    let inside = subst (λ (x : Whole g.row.B.Denot g.row.W.Denot g.row.R.Denot). c.args.row < (timeline x.paths).legs.count) (sym c.self.view_is) c.requires.0 in
    let row = subst (λ (x : Whole g.row.B.Denot g.row.W.Denot g.row.R.Denot). (timeline x.paths).legs.row c.args.row ≡ Some c.in-Some.found) (sym c.self.view_is) (sym c.row.ensures.row ∙ c.in-Some.is) in
    let fitted = subst (λ (x : Whole g.row.B.Denot g.row.W.Denot g.row.R.Denot). IsFitted (state_of g.W.Partial.sets g.W.Transfer.moves g.R.RowRules.rules g.B.ByteFacts.store x)) (sym c.self.view_is) c.requires.1 in
    rw (← c.self.view_is) (c.sure.ensures ∙ sure_is (state_of g.W.Partial.sets g.W.Transfer.moves g.R.RowRules.rules g.B.ByteFacts.store a) c.args.row inside fitted c.in-Some.found row)

pub returns-in-None : goal.returns-in-None
returns-in-None g c = sym (none_sure (setting_of g.W.Partial.sets g.W.Transfer.moves g.R.RowRules.rules c.args.self.now) (told (oldest c.args.self.now.filled c.args.self.now.known.log)) c.args.row (sym c.row.ensures.row ∙ c.in-None.is))
