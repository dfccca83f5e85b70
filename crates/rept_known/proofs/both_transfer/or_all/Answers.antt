-- All words.
use Rattle.std.proofs.Common.{ap, sym, ◌∙◌}
use Rattle.rept_known.specs.Both.{whole}
use Rattle.rept_known.specs.BothMoves.{or_all}
use Rattle.rept_known.proofs.both_transfer.or_all.Goals as goal

pub returns-in-None : goal.returns-in-None
returns-in-None c = c.whole.ensures ∙ ap (λ b. whole b) c.unknown.ensures ∙ sym (ap (λ o. or_all o) c.in-None.is)
