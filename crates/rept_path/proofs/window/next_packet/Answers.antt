use Rattle.rept_trace.specs.Packets.{rest_of, number_of}
use Rattle.rept_path.proofs.Packeting.{some_of, none_of, no_fault}
use Rattle.rept_path.proofs.window.next_packet.Goals as goal

pub returns-in-Ok-clause-some : goal.returns-in-Ok-clause-some
returns-in-Ok-clause-some c = some_of (number_of c.args.rest.now) (number_of c.next.new.self) (rest_of c.args.rest.now) (rest_of c.next.new.self) c.in-Ok.next c.in-Ok.ensures.answer

pub returns-in-Ok-clause-none : goal.returns-in-Ok-clause-none
returns-in-Ok-clause-none c = none_of (number_of c.args.rest.now) (number_of c.next.new.self) (rest_of c.args.rest.now) (rest_of c.next.new.self) c.in-Ok.next c.in-Ok.ensures.answer

pub returns-clause-none : goal.returns-clause-none
returns-clause-none c = absurd (no_fault (number_of c.args.rest.now) (number_of c.next.new.self) (rest_of c.args.rest.now) (rest_of c.next.new.self) c.requires.0 c.in_default.field-0 c.requires.1 c.in_default.ensures.answer)
