use Rattle.rept_known.proofs.BothFiner.{both_finer}
use Rattle.rept_known.proofs.laws.bits_are_finer.Goals as goal

pub returns : goal.returns
returns c = both_finer
