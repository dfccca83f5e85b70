use Rattle.std.proofs.Common.{sym, ap, ◌∙◌}
use Rattle.rept_facts.specs.Room.{places_of}
use Rattle.rept_facts.proofs.facts.row_places.Goals as goal

pub returns-in-None-clause-value : goal.returns-in-None-clause-value
returns-in-None-clause-value g c = sym (ap (places_of g.R.RowRules.rules) (sym c.row.ensures ∙ c.in-None.is))

pub returns-in-Some-clause-value : goal.returns-in-Some-clause-value
returns-in-Some-clause-value g c = c.places.ensures.value ∙ sym (ap (places_of g.R.RowRules.rules) (sym c.row.ensures ∙ c.in-Some.is))
