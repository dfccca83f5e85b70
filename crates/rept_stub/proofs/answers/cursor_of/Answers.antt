use Rattle.std.proofs.Common.{arith}
use Rattle.rept_stub.proofs.answers.cursor_of.Goals as goal

pub point_of-requires : goal.point_of-requires
point_of-requires g c = let each = c.requires.cursors.each in omega (arith, each, c.requires.thread)

pub returns-clause-within : goal.returns-clause-within
returns-clause-within g c =
    let within = c.requires.cursors.within c.args.thread c.requires.thread in
    (c.requires.thread, omega (arith, c.point_of.ensures, within))
