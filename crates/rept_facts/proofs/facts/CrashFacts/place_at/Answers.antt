use Rattle.rept_reason.specs.declared.fact.Cell.TheVariants.{Register}
use Rattle.rept_facts.proofs.Fronts.{place_some}
use Rattle.rept_facts.proofs.facts.CrashFacts.place_at.Goals as goal

pub returns-clause-within : goal.returns-clause-within
returns-clause-within g c = rw (← c.self.view_is) (place_some c.self.inside.known.log c.args.point (Register c.args.r) c.place.result c.place.ensures)
