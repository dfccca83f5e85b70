-- All words of the open bits.
use Rattle.std.proofs.Common.{ap, ◌∙◌}
use Rattle.rept_known.specs.Both.{whole}
use Rattle.rept_known.proofs.both.BothPartial.unknown.Goals as goal

pub returns : goal.returns
returns c = c.whole.ensures ∙ ap (λ b. whole b) c.unknown.ensures
