use Rattle.std.proofs.Common.{subst}
use Rattle.rept_extents.specs.declared.reaches.NextTables.{NextTables}
use Rattle.rept_extents.specs.Tables.{AreTables}
use Rattle.rept_extents.proofs.Going.{are_tables, leaving, leaving_one}
use Rattle.rept_extents.proofs.reaches.NextTables.leaving_from.Goals as goal

pub returns-in-Many : goal.returns-in-Many
returns-in-Many c = λ M tables.
    let its = subst (λ (t : NextTables). AreTables M t) c.in-Many.is (are_tables M c.args.self.now tables) in
    leaving M c.in-Many.nexts c.args.known c.args.least c.up_to.result its.next c.requires.order c.up_to.ensures.from c.up_to.ensures.to c.up_to.ensures.all

pub returns-in-One : goal.returns-in-One
returns-in-One c = λ M tables. leaving_one M c.args.known c.args.least c.requires.since c.requires.order (subst (λ (t : NextTables). AreTables M t) c.in-One.is (are_tables M c.args.self.now tables))
