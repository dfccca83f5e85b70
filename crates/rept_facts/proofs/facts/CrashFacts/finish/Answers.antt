use Rattle.rept_timeline.specs.Paths.{lawful}
use Rattle.std.proofs.Common.{◌≡◌, length, None, sym, subst, refl}
use Rattle.rept_dump.specs.Dump.{exe_of, core_of}
use Rattle.rept_facts.specs.Work.{work_of}
use Rattle.rept_facts.specs.State.{Whole, state_of}
use Rattle.rept_facts.specs.Inferring.{IsSettled}
use Rattle.rept_facts.proofs.Ending.{known_later}
use Rattle.rept_facts.proofs.Stopping.{kept_finished}
use Rattle.rept_facts.proofs.facts.CrashFacts.finish.Goals as goal

pub invariant_of-self : goal.invariant_of-self
invariant_of-self g c =
    let a : Whole g.row.B.Denot g.row.W.Denot g.row.R.Denot = record { paths = c.self.inside.paths.now; last = c.self.inside.last.now; exe = exe_of c.self.inside.dump; core = core_of c.self.inside.dump; known = c.self.inside.known; spans = c.self.inside.spans; filled = c.self.inside.filled; rules = c.self.inside.rules; shown = c.self.inside.shown; complete = c.self.inside.complete; conflict = c.self.inside.conflict; work = work_of g.B.ByteFacts.JOINS (g.R.RowRules.infers c.self.inside.rules) c.self.inside.writing c.self.inside.inferred } in
    let settled = subst (λ (x : Whole g.row.B.Denot g.row.W.Denot g.row.R.Denot). IsSettled (state_of g.W.Partial.sets g.W.Transfer.moves g.R.RowRules.rules g.B.ByteFacts.store x)) (sym c.self.view_is) c.requires.settled in
    rw c.len-len.ensures.value (kept_finished (state_of g.W.Partial.sets g.W.Transfer.moves g.R.RowRules.rules g.B.ByteFacts.store a) (record { sets = g.met.W.Partial.lawful; moves = g.met.W.Transfer.covers; rules = g.met.R.RowRules.lawful; legs = (lawful a.paths).legs; moments = (lawful a.paths).moments }) c.self.invariant settled)

pub returns-clause-ended : goal.returns-clause-ended
returns-clause-ended g c =
    let a : Whole g.row.B.Denot g.row.W.Denot g.row.R.Denot = record { paths = c.self.inside.paths.now; last = c.self.inside.last.now; exe = exe_of c.self.inside.dump; core = core_of c.self.inside.dump; known = c.self.inside.known; spans = c.self.inside.spans; filled = c.self.inside.filled; rules = c.self.inside.rules; shown = c.self.inside.shown; complete = c.self.inside.complete; conflict = c.self.inside.conflict; work = work_of g.B.ByteFacts.JOINS (g.R.RowRules.infers c.self.inside.rules) c.self.inside.writing c.self.inside.inferred } in
    let settled = subst (λ (x : Whole g.row.B.Denot g.row.W.Denot g.row.R.Denot). IsSettled (state_of g.W.Partial.sets g.W.Transfer.moves g.R.RowRules.rules g.B.ByteFacts.store x)) (sym c.self.view_is) c.requires.settled in
    let calm = subst (λ (x : Whole g.row.B.Denot g.row.W.Denot g.row.R.Denot). x.conflict ≡ None) (sym c.self.view_is) c.requires.open in
    let kept = kept_finished (state_of g.W.Partial.sets g.W.Transfer.moves g.R.RowRules.rules g.B.ByteFacts.store a) (record { sets = g.met.W.Partial.lawful; moves = g.met.W.Transfer.covers; rules = g.met.R.RowRules.lawful; legs = (lawful a.paths).legs; moments = (lawful a.paths).moments }) c.self.invariant settled in
    rw (← c.self.view_is, c.len-len.ensures.value) (record { path = refl; complete = refl; conflict = calm; finished = kept.finished refl; kept = λ p r v e. known_later a.known.log c.self.invariant.once a.shown (length a.known.log) c.self.invariant.shown p r v e; more = λ p x v e. e })
