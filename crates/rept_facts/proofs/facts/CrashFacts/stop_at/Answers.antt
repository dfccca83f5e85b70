use Rattle.rept_timeline.specs.Paths.{lawful}
use Rattle.std.proofs.Common.{◌≡◌, ◌≤◌, length, false, sym, subst, refl}
use Rattle.rept_report.specs.Closure.{ClosureHas}
use Rattle.rept_dump.specs.Dump.{exe_of, core_of}
use Rattle.rept_facts.specs.Work.{work_of}
use Rattle.rept_facts.specs.State.{Whole, setting_of, state_of}
use Rattle.rept_facts.specs.Refined.{ShowsTo}
use Rattle.rept_facts.proofs.Ending.{known_later, shows_like}
use Rattle.rept_facts.proofs.Stopping.{kept_stopped, stopped_at}
use Rattle.rept_facts.proofs.facts.CrashFacts.stop_at.Goals as goal

pub invariant_of-self : goal.invariant_of-self
invariant_of-self g c =
    let a : Whole g.row.B.Denot g.row.W.Denot g.row.R.Denot = record { paths = c.self.inside.paths.now; last = c.self.inside.last.now; exe = exe_of c.self.inside.dump; core = core_of c.self.inside.dump; known = c.self.inside.known; spans = c.self.inside.spans; filled = c.self.inside.filled; rules = c.self.inside.rules; shown = c.self.inside.shown; complete = c.self.inside.complete; conflict = c.self.inside.conflict; work = work_of g.B.ByteFacts.JOINS (g.R.RowRules.infers c.self.inside.rules) c.self.inside.writing c.self.inside.inferred } in
    let open_ = subst (λ (x : Whole g.row.B.Denot g.row.W.Denot g.row.R.Denot). x.complete ≡ false) (sym c.self.view_is) c.requires.open in
    let within = subst (λ (x : Whole g.row.B.Denot g.row.W.Denot g.row.R.Denot). c.args.limit ≤ length x.known.log) (sym c.self.view_is) c.requires.within in
    let shows = subst (λ (x : Whole g.row.B.Denot g.row.W.Denot g.row.R.Denot). ShowsTo (state_of g.W.Partial.sets g.W.Transfer.moves g.R.RowRules.rules g.B.ByteFacts.store x) c.args.limit c.args.kind) (sym c.self.view_is) c.requires.shows in
    let found = subst (λ (x : Whole g.row.B.Denot g.row.W.Denot g.row.R.Denot). ClosureHas (setting_of g.W.Partial.sets g.W.Transfer.moves g.R.RowRules.rules x) c.args.kind) (sym c.self.view_is) c.requires.kind in
    kept_stopped (state_of g.W.Partial.sets g.W.Transfer.moves g.R.RowRules.rules g.B.ByteFacts.store a) (record { sets = g.met.W.Partial.lawful; moves = g.met.W.Transfer.covers; rules = g.met.R.RowRules.lawful; legs = (lawful a.paths).legs; moments = (lawful a.paths).moments }) c.self.invariant open_ c.args.limit c.args.kind within shows.quiet found

pub returns-clause-ended : goal.returns-clause-ended
returns-clause-ended g c =
    let a : Whole g.row.B.Denot g.row.W.Denot g.row.R.Denot = record { paths = c.self.inside.paths.now; last = c.self.inside.last.now; exe = exe_of c.self.inside.dump; core = core_of c.self.inside.dump; known = c.self.inside.known; spans = c.self.inside.spans; filled = c.self.inside.filled; rules = c.self.inside.rules; shown = c.self.inside.shown; complete = c.self.inside.complete; conflict = c.self.inside.conflict; work = work_of g.B.ByteFacts.JOINS (g.R.RowRules.infers c.self.inside.rules) c.self.inside.writing c.self.inside.inferred } in
    let later = subst (λ (x : Whole g.row.B.Denot g.row.W.Denot g.row.R.Denot). x.shown ≤ c.args.limit) (sym c.self.view_is) c.requires.later in
    let found = subst (λ (x : Whole g.row.B.Denot g.row.W.Denot g.row.R.Denot). ClosureHas (setting_of g.W.Partial.sets g.W.Transfer.moves g.R.RowRules.rules x) c.args.kind) (sym c.self.view_is) c.requires.kind in
    let shows = subst (λ (x : Whole g.row.B.Denot g.row.W.Denot g.row.R.Denot). ShowsTo (state_of g.W.Partial.sets g.W.Transfer.moves g.R.RowRules.rules g.B.ByteFacts.store x) c.args.limit c.args.kind) (sym c.self.view_is) c.requires.shows in
    let stopped = stopped_at (state_of g.W.Partial.sets g.W.Transfer.moves g.R.RowRules.rules g.B.ByteFacts.store a) (record { sets = g.met.W.Partial.lawful; moves = g.met.W.Transfer.covers; rules = g.met.R.RowRules.lawful; legs = (lawful a.paths).legs; moments = (lawful a.paths).moments }) c.self.invariant c.args.limit c.args.kind in
    rw (← c.self.view_is) (record { path = refl; recorded = refl; has = found; kept = λ p r v e. known_later a.known.log c.self.invariant.once a.shown c.args.limit later p r v e; more = λ p x v e. e; shown = λ _. shows_like (state_of g.W.Partial.sets g.W.Transfer.moves g.R.RowRules.rules g.B.ByteFacts.store a) stopped refl refl c.args.limit c.args.kind shows })
