use Rattle.test_kit.proofs.ThreadsLemmas.WovenLemmas.Telling.{times_rise}
use Rattle.test_kit.proofs.threads.woven.laws.times_rise.Goals as goal

pub returns : goal.returns
returns c = λ halves stretches packets k h ordered. times_rise halves stretches packets k h ordered
