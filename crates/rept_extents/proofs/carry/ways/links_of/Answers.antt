use Rattle.std.proofs.lemmas.Result.{IfOk-weaker}
use Rattle.rept_moments.specs.Courses.{seen_in}
use Rattle.rept_extents.specs.declared.carry.links.Links.{Links}
use Rattle.rept_extents.specs.Carry.Links.{AreLinks}
use Rattle.rept_extents.specs.Carry.Course.{AreWays}
use Rattle.rept_extents.proofs.CarryLemmas.Keeping.{are_ways}
use Rattle.rept_extents.proofs.carry.ways.links_of.Goals as goal

pub returns-in-Many-clause-ways : goal.returns-in-Many-clause-ways
returns-in-Many-clause-ways c = IfOk-weaker _ (λ (l : Links). AreLinks (seen_in c.args.course.now).moments l) (λ (l : Links). AreWays c.args.course.now l) (λ l known. are_ways c.args.course.now l known) c.new.ensures
