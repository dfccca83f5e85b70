use Rattle.std.proofs.Common.{◌≡◌, ◌<◌, true, to_z, of_z, w32, rules, refl, sym, ap, subst, ◌∙◌, arith}
use Rattle.std.proofs.lemmas.Bool.{false≢true}
use Rattle.rept_isa.specs.Numbers.{word}
use Rattle.rept_known.specs.declared.bits.Bits.{Bits}
use Rattle.rept_known.specs.Bits.{bits_has}
use Rattle.rept_narrow.proofs.Placing.{place_missed}
use Rattle.rept_narrow.proofs.store.is_placed.Goals as goal

pub returns-then-set_has : goal.returns-then-set_has
returns-then-set_has g c = λ none.
    let read : to_z w32 (of_z w32 c.args.imm) ≡ c.args.imm = search rules in
    let small : c.args.k < 4 = let w = c.requires.width in let i = c.requires.inside in omega (arith, w, i) in
    place_missed c.args.base c.args.source c.args.imm c.args.width c.args.a c.args.k c.word.result _ _ (g.B.ToldBytes.tells c.args.bytes.now c.args.point) small (c.word.ensures ∙ ap word read) refl refl (λ has v bits left. c.leaves.ensures none v (subst (λ (b : Bits). bits_has b v ≡ true) (sym c.bits.ensures) bits) left)

pub returns-else-set_has : goal.returns-else-set_has
returns-else-set_has g c = λ none.
    let read : to_z w32 (of_z w32 c.args.imm) ≡ c.args.imm = search rules in
    let small : c.args.k < 4 = let w = c.requires.width in let i = c.requires.inside in omega (arith, w, i) in
    place_missed c.args.base c.args.source c.args.imm c.args.width c.args.a c.args.k c.word.result _ _ (g.B.ToldBytes.tells c.args.bytes.now c.args.point) small (c.word.ensures ∙ ap word read) refl refl (λ has v bits left. absurd (false≢true (sym c.if-set_has.false ∙ c.set_has.ensures ∙ has)))
