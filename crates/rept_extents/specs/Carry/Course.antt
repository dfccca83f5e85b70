-- When the links that are kept beside a course are its own: of several threads all of them are, and
-- of one none is looked at. This project's own.
use Rattle.rept_moments.specs.declared.course.NumberedRun.{NumberedRun}
use Rattle.rept_moments.specs.declared.course.NumberedRun as courses
use Rattle.rept_moments.specs.Several.{seen_of}
use Rattle.rept_extents.specs.declared.carry.links.Links.{Links}
use Rattle.rept_extents.specs.Carry.Links.{AreLinks}

abbrev pub AreWays : NumberedRun → Links → Type 0
AreWays (courses.TheVariants.One steps) links = Unit {0}
AreWays (courses.TheVariants.Many many) links = AreLinks (seen_of many).moments links
