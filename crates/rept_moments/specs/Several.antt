-- The rows and moments that the numbers of several threads stand for.
use Rattle.rept_steps.specs.Course.{Course}
use Rattle.rept_moments.specs.Seen.{SeenMoments, seen_many}

abbrev pub seen_of : Course → SeenMoments
seen_of C = seen_many C
