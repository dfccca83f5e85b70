use Rattle.std.proofs.Common.{rules}
use Rattle.rept_make.specs.Draws.{drawn}
use Rattle.rept_make.proofs.draw.drawn.Goals as goal

pub returns : goal.returns
unfolding drawn
returns c = search rules
