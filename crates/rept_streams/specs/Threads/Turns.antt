-- Which slices stand in order. This project's own.
use Rattle.std.specs.Prelude.{◌==◌, nat_le, nat_lt, Bool, ◌&&◌, ◌||◌}
use Rattle.rept_streams.specs.Slices.Stamps.{clock_of, context_of}
use Rattle.rept_streams.specs.declared.threads.walks.Walked.{Walked}

-- whether a slice may stand right before another one: its thread runs as a lower process, or as the
-- same one and it begins no later
abbrev pub in_turn : Walked → Walked → Bool
in_turn v w =
    nat_lt (context_of v.slice.start) (context_of w.slice.start)
    || (context_of v.slice.start == context_of w.slice.start && nat_le (clock_of v.slice.start) (clock_of w.slice.start))
