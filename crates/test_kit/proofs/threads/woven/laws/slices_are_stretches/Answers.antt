use Rattle.test_kit.proofs.ThreadsLemmas.WovenLemmas.Telling.{slices_are}
use Rattle.test_kit.proofs.threads.woven.laws.slices_are_stretches.Goals as goal

pub returns : goal.returns
returns c = λ halves stretches packets s k h. slices_are halves stretches packets s k h
