use Rattle.test_kit.proofs.ThreadsLemmas.TurnsLemmas.Wider.{wider_order, wider_some, wider_rows, wider_play}
use Rattle.test_kit.proofs.threads.turns.laws.times_may_be_wider.Goals as goal

pub returns-clause-order : goal.returns-clause-order
returns-clause-order c = λ turns wide order wider. wider_order turns wide order wider

pub returns-clause-some : goal.returns-clause-some
returns-clause-some c = λ turns wide some wider. wider_some turns wide some wider

pub returns-clause-rows : goal.returns-clause-rows
returns-clause-rows c = λ turns wide t wider. wider_rows t turns wide wider

pub returns-clause-play : goal.returns-clause-play
returns-clause-play c = λ C D x wide play wider. wider_play C D x wide play wider
