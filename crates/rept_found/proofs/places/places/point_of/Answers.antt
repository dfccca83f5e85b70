use Rattle.std.proofs.Common.{◌∙◌}
use Rattle.rept_found.proofs.PlacesLemmas.Telling.{inside, past_point}
use Rattle.rept_found.proofs.places.places.point_of.Goals as goal

pub place-place-requires : goal.place-place-requires
place-place-requires c = inside c.args.course.now c.args.number c.last_point-last.result c.last_point-last.ensures (λ none. c.if-threads-eq0.false (c.threads-threads.ensures ∙ none)) c.if-number-last.true

pub returns-else-number-last : goal.returns-else-number-last
returns-else-number-last c = λ C its. past_point C c.args.course.now c.args.number c.last_point-last.result c.threads-threads.result its c.last_point-last.ensures c.threads-threads.ensures (λ none. c.if-threads-eq0.false none) c.if-number-last.false
