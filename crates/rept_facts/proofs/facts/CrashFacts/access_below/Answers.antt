use Rattle.rept_timeline.specs.Paths.{timeline}
use Rattle.std.proofs.Common.{◌≡◌, ◌<◌, ℕ, sym, subst, arith}
use Rattle.rept_dump.specs.Dump.{exe_of, core_of}
use Rattle.rept_alias.specs.Accesses.{call_hits}
use Rattle.rept_report.specs.Log.{oldest}
use Rattle.rept_facts.specs.Moments.{moment}
use Rattle.rept_facts.specs.Work.{work_of}
use Rattle.rept_facts.specs.State.{Whole, state_of}
use Rattle.rept_facts.proofs.Following.{words_below}
use Rattle.rept_facts.proofs.facts.CrashFacts.access_below.Goals as goal

pub invariant_of-view : goal.invariant_of-view
invariant_of-view g c =
    let a : Whole g.row.B.Denot g.row.W.Denot g.row.R.Denot = record { paths = c.self.inside.paths.now; last = c.self.inside.last.now; exe = exe_of c.self.inside.dump; core = core_of c.self.inside.dump; known = c.self.inside.known; spans = c.self.inside.spans; filled = c.self.inside.filled; rules = c.self.inside.rules; shown = c.self.inside.shown; complete = c.self.inside.complete; conflict = c.self.inside.conflict; work = work_of g.B.ByteFacts.JOINS (g.R.RowRules.infers c.self.inside.rules) c.self.inside.writing c.self.inside.inferred } in
    let inside = subst (λ (x : Whole g.row.B.Denot g.row.W.Denot g.row.R.Denot). c.args.i < (timeline x.paths).legs.count) (sym c.self.view_is) c.requires in
    let last_is = c.self.invariant.last_is in
    let sized = c.self.invariant.sized in
    record { inside = omega (arith, inside, last_is); near = c.len-len.ensures.near; sized = omega (arith, sized, last_is); words = words_below (state_of g.W.Partial.sets g.W.Transfer.moves g.R.RowRules.rules g.B.ByteFacts.store a) c.args.limit c.len-len.ensures.once c.len-len.ensures.words }

pub returns : goal.returns
returns g c =
    let log = c.self.inside.known.log in
    rw (← c.self.view_is) (λ x small. subst (λ (e : ℕ). call_hits c.touched.result x ≡ g.R.RowRules.rules.touched c.args.row.now (moment g.W.Partial.sets (oldest c.args.limit log) c.self.inside.spans c.args.i) e x) c.image_end-image_end.ensures (c.touched.ensures x small))
