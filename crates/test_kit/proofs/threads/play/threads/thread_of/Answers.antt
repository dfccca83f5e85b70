use Rattle.std.proofs.Common.{arith}
use Rattle.test_kit.proofs.ThreadsLemmas.PlayLemmas.Turning.{rows_most}
use Rattle.test_kit.proofs.threads.play.threads.thread_of.Goals as goal

pub rows_in-count-requires : goal.rows_in-count-requires
rows_in-count-requires c = omega (arith, rows_most c.args.thread c.args.turns.now, c.requires.playable.few)

pub steps_of-requires-clause-few : goal.steps_of-requires-clause-few
steps_of-requires-clause-few c = omega (arith, rows_most c.args.thread c.args.turns.now, c.requires.playable.few, c.rows_in-count.ensures)
