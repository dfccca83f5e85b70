use Rattle.std.proofs.Common.{◌∙◌}
use Rattle.std.proofs.lemmas.List.{length-set}
use Rattle.rept_span.proofs.Storing.{written_only, written_here, written_others}
use Rattle.rept_span.proofs.spans.Spans.set.Goals as goal

pub invariant_of-self : goal.invariant_of-self
invariant_of-self g c = length-set c.self.inside.items.items c.place-place.result c.args.w ∙ c.self.invariant

pub returns-clause-only : goal.returns-clause-only
returns-clause-only g c = written_only c.args.self.now c.self.inside.points c.self.inside.items.items c.args.point c.args.r c.place-place.result c.args.w c.self.view_is c.place-place.ensures.place c.place-place.ensures.in_file

pub returns-clause-here : goal.returns-clause-here
returns-clause-here g c = written_here c.args.self.now c.self.inside.points c.self.inside.items.items c.args.point c.args.r c.place-place.result c.args.w c.self.view_is c.self.invariant c.requires.point c.place-place.ensures.place c.place-place.ensures.in_file

pub returns-clause-others : goal.returns-clause-others
returns-clause-others g c = written_others c.args.self.now c.self.inside.points c.self.inside.items.items c.args.point c.args.r c.place-place.result c.args.w c.self.view_is c.place-place.ensures.place
