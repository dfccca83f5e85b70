use Rattle.std.proofs.Common.{refl}
use Rattle.test_kit.proofs.ThreadsLemmas.WovenLemmas.Example.{are_ordered, carries}
use Rattle.test_kit.proofs.threads.woven.laws.worked_example.Goals as goal

pub returns-clause-ordered : goal.returns-clause-ordered
returns-clause-ordered c = are_ordered

pub returns-clause-carries : goal.returns-clause-carries
returns-clause-carries c = carries

pub returns-clause-run : goal.returns-clause-run
returns-clause-run c = refl
