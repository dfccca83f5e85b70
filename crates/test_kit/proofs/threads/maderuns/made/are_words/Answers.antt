use Rattle.std.proofs.Common.{arith}
use Rattle.test_kit.proofs.threads.maderuns.made.are_words.Goals as goal

pub returns : goal.returns
returns c = λ i. omega (arith, c.fits-registers i)
