use Rattle.std.proofs.Common.{refl}
use Rattle.rept_writing.proofs.Rising.{columns_taken}
use Rattle.rept_writing.proofs.columns.Columns.fill.Goals as goal

pub returns-clause-columns : goal.returns-clause-columns
returns-clause-columns c = columns_taken c.args.list.now c.take_all.new.self _ c.take_all.ensures.taken refl refl refl c.settle.ensures.least
