use Rattle.rept_rules.specs.Laws.More.{again_more}
use Rattle.rept_rules.proofs.laws.more_is_concluded.Goals as goal

pub returns : goal.returns
returns c = again_more
