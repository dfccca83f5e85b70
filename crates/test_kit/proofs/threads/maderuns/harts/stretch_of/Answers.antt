use Rattle.test_kit.proofs.ThreadsLemmas.MaderunsLemmas.Linking.{linked_part}
use Rattle.test_kit.proofs.ThreadsLemmas.MaderunsLemmas.Gathering.{stretch_is}
use Rattle.test_kit.proofs.threads.maderuns.harts.stretch_of.Goals as goal

pub steps_of-requires-clause-linked : goal.steps_of-requires-clause-linked
steps_of-requires-clause-linked c = linked_part c.args.first c.args.turn.now.count c.rows_of-rows.result.now c.part-own.result.now c.rows_of-rows.ensures.linked c.part-own.ensures

pub returns : goal.returns
returns c = stretch_is c.args.threads.now c.args.first c.args.turn.now c.rows_of-rows.result.now c.part-own.result.now c.in_ok-steps.steps c.rows_of-rows.ensures.rows c.part-own.ensures c.in_ok-steps.ensures
