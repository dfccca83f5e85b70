use Rattle.std.proofs.Common.{arith}
use Rattle.test_kit.proofs.ThreadsLemmas.PlayLemmas.Drawing.{thread_most, stream_most, early_small}
use Rattle.test_kit.proofs.ThreadsLemmas.PlayLemmas.Turning.{rows_most}
use Rattle.test_kit.proofs.threads.play.score.next_turn.Goals as goal

pub rows_in-place-requires : goal.rows_in-place-requires
rows_in-place-requires c = omega (arith, rows_most c.own_or-thread.result c.args.turns.now, c.requires.few)

pub overflow_add-begin : goal.overflow_add-begin
overflow_add-begin c =
    omega (arith, c.begin_of-begin.ensures, c.drawn_early-early.ensures, c.requires.soon, c.requires.number, early_small c.args.sizes c.args.seed c.args.number, thread_most c.own_or-thread.result c.args.turns.now, stream_most c.own_or-stream.result c.args.turns.now)
