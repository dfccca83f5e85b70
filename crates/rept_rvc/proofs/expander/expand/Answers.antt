use Rattle.std.specs.Prelude.{IfSome}
use Rattle.std.proofs.Common.{◌∙◌, sym, subst}
use Rattle.rept_rvc.specs.Halves.{IsHalf}
use Rattle.rept_rvc.proofs.HalfLemmas.{spells, none_spelled}
use Rattle.rept_rvc.proofs.ReadLemmas.{reads}
use Rattle.rept_rvc.proofs.RangeLemmas.{in_range_some}
use Rattle.rept_rvc.proofs.expander.expand.Goals as goal

pub returns-clause-some : goal.returns-clause-some
returns-clause-some c = subst (λ r. IfSome r (IsHalf c.args.half)) (sym c.by_quadrant.ensures) (spells c.args.half)

pub returns-clause-only : goal.returns-clause-only
returns-clause-only c = λ i h. c.by_quadrant.ensures ∙ reads c.args.half i h

pub returns-clause-in_range : goal.returns-clause-in_range
returns-clause-in_range c = in_range_some c.args.half c.by_quadrant.result (subst (λ r. IfSome r (IsHalf c.args.half)) (sym c.by_quadrant.ensures) (spells c.args.half))

pub returns-clause-none : goal.returns-clause-none
returns-clause-none c = none_spelled c.args.half c.by_quadrant.result (λ i h. c.by_quadrant.ensures ∙ reads c.args.half i h)
