-- The sets as which the values of registers are followed, by the domain that the words ask for.
-- This project's own.
use Rattle.rept_partial.specs.Ranges.{range_sets}
use Rattle.rept_partial.specs.declared.range.Range.{Range}
use Rattle.rept_span.specs.Tables.{range_moves}
use Rattle.rept_known.specs.Both.{both_sets}
use Rattle.rept_known.specs.BothMoves.{both_moves}
use Rattle.rept_known.specs.declared.both.Both.{Both}
use Rattle.rept_amo.specs.Atomic.{atomic_rules}
use Rattle.rept_found.specs.Crash.{Means, means, means_beyond}
use Rattle.rept_opening.specs.declared.words.request.Domain.{Domain}
use Rattle.rept_opening.specs.declared.words.request.Domain.TheVariants as domain

-- ranges, or ranges with known bits, beyond whose report more may be inferred
abbrev pub SetsOf : Domain → Type 0
SetsOf domain.Ranges = Range
SetsOf domain.KnownBits = Both
SetsOf domain.Inferred = Both

-- with what the instructions do to them, and what is inferred from the rows
abbrev pub means_of : (d : Domain) → Means (SetsOf d)
means_of domain.Ranges = means range_sets range_moves atomic_rules
means_of domain.KnownBits = means both_sets both_moves atomic_rules
means_of domain.Inferred = means_beyond (means both_sets both_moves atomic_rules)
