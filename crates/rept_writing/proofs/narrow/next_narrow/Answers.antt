use Rattle.std.specs.List.{Contains}
use Rattle.rept_writing.specs.Filed.{hit}
use Rattle.rept_writing.proofs.Filing.{none_of_least}
use Rattle.rept_writing.proofs.narrow.next_narrow.Goals as goal

pub returns-else-found-end : goal.returns-else-found-end
returns-else-found-end c = none_of_least (λ j. Contains c.args.narrow.now (hit c.args.a j)) c.args.k c.args.end c.in-Some.found c.if-found-end.false c.in-Some.ensures
