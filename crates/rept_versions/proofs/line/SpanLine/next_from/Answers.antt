use Rattle.rept_versions.proofs.Firsts.{first_none, next_first}
use Rattle.rept_versions.proofs.line.SpanLine.next_from.Goals as goal

pub returns-in-None : goal.returns-in-None
returns-in-None c = first_none _ _ c.in-None.ensures.first

pub returns-in-Some : goal.returns-in-Some
returns-in-Some c = next_first _ c.in-Some.ensures.rising _ _ c.requires.joined _ c.in-Some.ensures.first
