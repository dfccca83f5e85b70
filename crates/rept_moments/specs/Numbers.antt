-- The numbers of a run's moments: in the order of the times before which they don't come, the end
-- last; moments that are one have one number, that of the last of them. No number is next to
-- itself. This project's own.
use Rattle.std.specs.Prelude.{◌==◌, Bool, true, false, Option, None}
use Rattle.rept_steps.specs.Course.{Course}
use Rattle.rept_order.specs.Moments.{Stretch}
use Rattle.rept_report.specs.Moments.{Moments}
use Rattle.rept_moments.specs.Naming.Names.{MomentNames}
use Rattle.rept_moments.specs.Naming.Making.{names_by}
use Rattle.rept_moments.specs.Naming.Numbered.{moments_of}
use Rattle.rept_moments.specs.Ordering.{in_order}

abbrev pub unless : Bool → Option Stretch → Option Stretch
unless true link = None
unless false link = link

-- the same names, of which none is next to itself
abbrev pub apart : MomentNames → MomentNames
apart N = record { name = N.name; end = N.end; last = N.last; link = λ m w. unless (m == w) (N.link m w) }

-- the numbers as names
abbrev pub numbers_of : Course → MomentNames
numbers_of C = apart (names_by C (in_order C))

-- the moments by these numbers
abbrev pub numbered : Course → Moments
numbered C = moments_of C (numbers_of C)
