use Rattle.rept_moments.proofs.Still.{merged_is}
use Rattle.rept_moments.proofs.merging.is_merged.Goals as goal

pub returns : goal.returns
returns c = merged_is c.args.points.now c.args.point c.args.writers.now (record { thread = c.args.thread; from = c.begin-from.result; to = c.rest_end-to.result }) c.is_untraced_from-untraced.result c.is_crossed-crossed.result c.neither.result c.requires.row c.requires.writers c.requires.thread c.begin-from.ensures c.begin-from.type_inv c.rest_end-to.ensures c.is_untraced_from-untraced.ensures c.is_crossed-crossed.ensures c.neither.ensures
