use Rattle.std.proofs.Common.{◌≡◌, false, sym, subst}
use Rattle.rept_facts.specs.State.{Whole}
use Rattle.rept_facts.proofs.Passing.{kept_writing}
use Rattle.rept_facts.proofs.facts.CrashFacts.add_writing.Goals as goal

pub invariant_of-self : goal.invariant_of-self
invariant_of-self g c =
    let open_ = subst (λ (x : Whole g.row.B.Denot g.row.W.Denot g.row.R.Denot). x.complete ≡ false) (sym c.self.view_is) c.requires.open in
    kept_writing _ c.self.invariant open_ c.add.new.self c.add.ensures.room
