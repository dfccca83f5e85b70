-- Which value of one byte goes with which of another one. This project's own.
use Rattle.std.specs.Prelude.{◌≡◌, ℕ, Option, None, Some, slice_index_or}
use Rattle.std.specs.Option.{IsSome}
use Rattle.rept_propagate.specs.declared.pairs.Pairs.{Pairs}

-- as far as was seen, this is known of the other byte where that is known of the first: nothing
-- where nothing is, and else its value
abbrev pub GoWith : Pairs → Option ℕ → Option ℕ → Type 0
GoWith p None other = other ≡ None
GoWith p (Some v) other = IsSome other × (slice_index_or p.list v None ≡ other)
