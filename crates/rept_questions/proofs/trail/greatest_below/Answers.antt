use Rattle.std.proofs.Common.{List, ℕ, None, Option, ap, sym, subst, ◌∙◌}
use Rattle.std.proofs.lemmas.List.{take_all}
use Rattle.std.specs.List.{fold}
use Rattle.rept_questions.specs.Trail.{IsGreatest, greater}
use Rattle.rept_questions.proofs.TrailLemmas.{greatest}
use Rattle.rept_questions.proofs.trail.greatest_below.Goals as goal

pub returns : goal.returns
returns c =
    subst (λ (o : Option ℕ). IsGreatest c.args.limit c.args.numbers.now o)
    (sym (c.loop-number.invariant ∙ ap (λ (xs : List ℕ). fold (greater c.args.limit) None xs) (take_all c.loop-number.number-index c.args.numbers.now c.loop-number-test.false)))
    (greatest c.args.limit c.args.numbers.now)
