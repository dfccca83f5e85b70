use Rattle.test_kit.proofs.ThreadsLemmas.WovenLemmas.Whole.{whole_run}
use Rattle.test_kit.proofs.threads.woven.laws.runs_are_whole.Goals as goal

pub returns : goal.returns
returns c = λ contents file notes harts streams carries ordered. whole_run contents file notes harts carries ordered streams
