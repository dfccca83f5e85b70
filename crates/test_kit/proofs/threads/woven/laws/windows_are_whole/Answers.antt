use Rattle.test_kit.proofs.ThreadsLemmas.WovenLemmas.Telling.{whole_window}
use Rattle.test_kit.proofs.threads.woven.laws.windows_are_whole.Goals as goal

pub returns : goal.returns
returns c = λ halves first others packets h. whole_window halves first others packets h
