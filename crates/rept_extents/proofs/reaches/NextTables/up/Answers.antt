use Rattle.std.proofs.Common.{◌-◌, subst, arith}
use Rattle.rept_extents.specs.declared.reaches.NextTables.{NextTables}
use Rattle.rept_extents.specs.Tables.{AreTables}
use Rattle.rept_extents.proofs.Going.{are_tables, reached_up, not_up}
use Rattle.rept_extents.proofs.reaches.NextTables.up.Goals as goal

pub returns-then-most-last : goal.returns-then-most-last
returns-then-most-last c = λ M tables few. not_up M c.args.known c.args.most (c.args.known.to - 1) c.requires few (omega (arith, c.requires))

pub returns-in-One : goal.returns-in-One
returns-in-One c = λ M tables few. not_up M c.args.known c.args.most (c.args.known.to - 1) c.requires few (omega (arith, c.requires))

pub returns-in-Many : goal.returns-in-Many
returns-in-Many c = λ M tables few.
    let its = subst (λ (t : NextTables). AreTables M t) c.in-Many.is (are_tables M c.args.self.now tables) in
    let low = c.up_to.ensures.from in
    reached_up M c.in-Many.ups c.args.known c.args.most 4294967295 c.up_to.result its.up c.requires few (omega (arith, low, c.requires)) c.up_to.ensures.to c.up_to.ensures.all
