use Rattle.std.proofs.Common.{◌≡◌, ◌-◌, ℕ, suc, None, refl, subst, arith}
use Rattle.rept_facts.specs.State.{state_of}
use Rattle.rept_facts.specs.Inferring.{IsLooseBefore}
use Rattle.rept_propagate.proofs.propagation.Propagation.loose_before.Goals as goal

pub returns-then-k-eq0 : goal.returns-then-k-eq0
returns-then-k-eq0 g c =
    let none : 0 ≡ c.args.k = omega (arith, c.if-k-eq0.true) in
    subst (λ (n : ℕ). IsLooseBefore c.args.strip n None (state_of g.W.Partial.sets g.W.Transfer.moves g.R.RowRules.rules g.B.ByteFacts.store c.args.self.now.facts)) none refl

pub returns-else-k-eq0 : goal.returns-else-k-eq0
returns-else-k-eq0 g c =
    let some : suc (c.args.k - 1) ≡ c.args.k = omega (arith, c.if-k-eq0.false) in
    subst (λ (n : ℕ). IsLooseBefore c.args.strip n c.loose_end.result (state_of g.W.Partial.sets g.W.Transfer.moves g.R.RowRules.rules g.B.ByteFacts.store c.args.self.now.facts)) some c.loose_end.ensures
