use Rattle.rept_timeline.specs.Paths.{timeline}
use Rattle.std.proofs.Common.{◌≡◌, ◌<◌, Some, false, sym, subst}
use Rattle.rept_isa.specs.declared.row.StepRow.{StepRow}
use Rattle.rept_facts.specs.State.{Whole, state_of}
use Rattle.rept_facts.specs.Kept.{IsPass}
use Rattle.rept_facts.proofs.Passing.{kept_put}
use Rattle.rept_facts.proofs.facts.CrashFacts.keep_pass.Goals as goal

pub invariant_of-self : goal.invariant_of-self
invariant_of-self g c =
    let open_ = subst (λ (x : Whole g.row.B.Denot g.row.W.Denot g.row.R.Denot). x.complete ≡ false) (sym c.self.view_is) c.requires.open in
    let inside = subst (λ (x : Whole g.row.B.Denot g.row.W.Denot g.row.R.Denot). c.args.i < (timeline x.paths).legs.count) (sym c.self.view_is) c.requires.inside in
    let pass = subst (λ (x : Whole g.row.B.Denot g.row.W.Denot g.row.R.Denot). (row : StepRow) → (timeline x.paths).legs.row c.args.i ≡ Some row → IsPass row c.args.i c.args.pass (state_of g.W.Partial.sets g.W.Transfer.moves g.R.RowRules.rules g.B.ByteFacts.store x)) (sym c.self.view_is) c.requires.pass in
    rw c.put.ensures (kept_put _ c.self.invariant open_ c.args.i c.args.pass inside pass)
