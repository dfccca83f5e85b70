use Rattle.std.proofs.Common.{subst}
use Rattle.rept_extents.specs.declared.reaches.NextTables.{NextTables}
use Rattle.rept_extents.specs.Tables.{AreTables}
use Rattle.rept_extents.proofs.Going.{are_tables, reached_down, not_down}
use Rattle.rept_extents.proofs.reaches.NextTables.down.Goals as goal

pub returns-then-known-least : goal.returns-then-known-least
returns-then-known-least c = λ M tables. not_down M c.args.known c.args.least

pub returns-in-One : goal.returns-in-One
returns-in-One c = λ M tables. not_down M c.args.known c.args.least

pub returns-in-Many : goal.returns-in-Many
returns-in-Many c = λ M tables.
    let its = subst (λ (t : NextTables). AreTables M t) c.in-Many.is (are_tables M c.args.self.now tables) in
    reached_down M c.in-Many.downs c.args.known c.args.least 0 c.down_to.result its.down c.requires c.down_to.ensures.from c.down_to.ensures.to c.down_to.ensures.all
