use Rattle.std.proofs.Common.{◌≡◌, to_z, of_z, w32, ℤ, rules, subst, arith}
use Rattle.rept_narrow.specs.Stores.{IsStorePlaced}
use Rattle.rept_narrow.proofs.store.hits.Goals as goal

pub returns : goal.returns
returns g c = λ none k less.
    let past = c.loop-k-test.false in
    let read : to_z w32 (of_z w32 c.args.imm) ≡ c.args.imm = search rules in
    subst (λ (z : ℤ). IsStorePlaced c.args.base c.args.source z c.args.width (g.B.ToldBytes.tells c.args.bytes.now c.args.point) c.args.a k → ⊥) read (c.loop-k.invariant k (omega (arith, less, past)))
