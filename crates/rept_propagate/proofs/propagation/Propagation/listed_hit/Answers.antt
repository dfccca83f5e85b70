use Rattle.std.proofs.Common.{refl, sym, ◌∙◌}
use Rattle.rept_propagate.proofs.propagation.Propagation.listed_hit.Goals as goal

pub returns-then-may_hit-clause-hits : goal.returns-then-may_hit-clause-hits
returns-then-may_hit-clause-hits g c = record { index = c.in-Some.k; writing = c.entry-entry.result; found = c.entry-entry.ensures.found; hits = sym c.may_hit.ensures ∙ c.if-may_hit.true; row_is = refl }
