-- All words of the known bits.
use Rattle.std.proofs.Common.{ap, ◌∙◌}
use Rattle.rept_known.specs.Both.{whole}
use Rattle.rept_known.proofs.both.BothPartial.exact.Goals as goal

pub returns : goal.returns
returns c = c.whole.ensures ∙ ap (λ b. whole b) c.exact.ensures
