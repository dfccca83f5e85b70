use Rattle.std.proofs.Common.{◌≡◌, false, refl, sym, subst, ◌∙◌}
use Rattle.rept_writing.specs.declared.passes.pass.Pass.{Pass}
use Rattle.rept_writing.specs.declared.passes.pass.Pass.TheVariants.{Never, Cut}
use Rattle.rept_facts.specs.State.{Whole}
use Rattle.rept_facts.proofs.Passing.{kept_never}
use Rattle.rept_facts.proofs.facts.CrashFacts.restart.Goals as goal

pub invariant_of-self : goal.invariant_of-self
invariant_of-self g c =
    let open_ = subst (λ (x : Whole g.row.B.Denot g.row.W.Denot g.row.R.Denot). x.complete ≡ false) (sym c.self.view_is) c.requires.open in
    kept_never _ c.self.invariant open_ c.clear.new.self c.clear.ensures.length c.clear.ensures.never

pub returns-clause-continues : goal.returns-clause-continues
returns-clause-continues g c = rw (← c.self.view_is) (record { path = refl; shown = refl; complete = refl; conflict = refl; answers = refl })

pub returns-clause-facts : goal.returns-clause-facts
returns-clause-facts g c = rw (← c.self.view_is) refl

pub returns-clause-infers : goal.returns-clause-infers
returns-clause-infers g c = rw (← c.self.view_is) refl

pub returns-clause-rows : goal.returns-clause-rows
returns-clause-rows g c = rw (← c.self.view_is) (c.clear.ensures.length ∙ c.self.invariant.rows)

cut_never : Cut ≡ Never → ⊥
cut_never e = cc

pub returns-clause-uncut : goal.returns-clause-uncut
returns-clause-uncut g c = λ i cut. cut_never (c.clear.ensures.never i Cut cut)
