use Rattle.test_kit.proofs.ThreadsLemmas.TurnsLemmas.Playing.{play_executed}
use Rattle.test_kit.proofs.threads.turns.laws.plays_are_executions.Goals as goal

pub returns : goal.returns
returns c = λ C D x has play some order ends. play_executed C D x has play some order ends
