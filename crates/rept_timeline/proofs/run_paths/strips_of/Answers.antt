use Rattle.rept_timeline.proofs.Making.{many_storing, many_lines}
use Rattle.rept_timeline.proofs.run_paths.strips_of.Goals as goal

pub new-requires-clause-listed : goal.new-requires-clause-listed
new-requires-clause-listed c = many_storing c.args.course.now c.in-Many.many c.args.storing.now c.in-Many.is ∣ c.requires.listed ∣₁

pub new-requires-clause-lined : goal.new-requires-clause-lined
new-requires-clause-lined c = many_lines c.args.course.now c.in-Many.many c.args.lines.now c.in-Many.is c.requires.lined
