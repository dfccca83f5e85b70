use Rattle.std.proofs.Common.{arith}
use Rattle.test_kit.proofs.ThreadsLemmas.MaderunsLemmas.Gathering.{few_before, fits_after}
use Rattle.test_kit.proofs.threads.maderuns.harts.hart_of.Goals as goal

pub rows_in-first-requires : goal.rows_in-first-requires
rows_in-first-requires c = few_before c.args.threads.now c.args.turns.now c.loop-i.i _ c.requires

pub stretch_of-requires-clause-rows : goal.stretch_of-requires-clause-rows
stretch_of-requires-clause-rows c = fits_after c.args.threads.now c.args.turns.now c.loop-i.i c.rows_in-first.result (record { thread = 0; stream = 0; count = 0; begin = 0; end = 0 }) (omega arith) c.requires c.rows_in-first.ensures
