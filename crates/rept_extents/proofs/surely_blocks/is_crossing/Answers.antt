use Rattle.std.proofs.Common.{rules}
use Rattle.rept_extents.proofs.Barring.{none_at, bar_is}
use Rattle.rept_extents.proofs.surely_blocks.is_crossing.Goals as goal

pub returns-then-not-is_past : goal.returns-then-not-is_past
returns-then-not-is_past c = λ before w next. bar_is c.args.many.now c.requires.sound c.args.row c.args.number (none_at c.args.many.now c.args.number c.row_at.result c.row_at.ensures (search rules)) (search rules) (search rules) (search rules) w next
