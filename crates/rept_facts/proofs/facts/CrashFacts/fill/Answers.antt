use Rattle.std.proofs.Common.{◌≡◌, ◌≤◌, length, false, sym, subst, ◌∙◌}
use Rattle.rept_facts.specs.State.{Whole}
use Rattle.rept_facts.proofs.Passing.{kept_filled}
use Rattle.rept_facts.proofs.facts.CrashFacts.fill.Goals as goal

pub returns-clause-empty : goal.returns-clause-empty
returns-clause-empty g c = rw (← c.self.view_is) c.fill_along-filled.ensures.empty

pub invariant_of-self : goal.invariant_of-self
invariant_of-self g c =
    let open_ = subst (λ (x : Whole g.row.B.Denot g.row.W.Denot g.row.R.Denot). x.complete ≡ false) (sym c.self.view_is) c.requires.open in
    let within = subst (λ (x : Whole g.row.B.Denot g.row.W.Denot g.row.R.Denot). c.args.limit ≤ length x.known.log) (sym c.self.view_is) c.requires.within in
    kept_filled _ c.self.invariant open_ c.fill_along-filled.new.self c.args.limit (c.fill_along-filled.ensures.points ∙ c.self.invariant.sized) within

pub returns-clause-some : goal.returns-clause-some
returns-clause-some g c = rw (← c.self.view_is) c.fill_along-filled.ensures.some
