-- What the report of a crash knows of a path before more is inferred. This project's own.
use Rattle.std.specs.Prelude.{ℕ, nat_lt, if◌then◌else◌, Option, None, Some}
use Rattle.rept_known.specs.declared.both.Both.{Both}
use Rattle.rept_known.specs.Both.{both_sets}
use Rattle.rept_facts.specs.Kept.{answers}
use Rattle.rept_findings.specs.Shown.{Shown}
use Rattle.rept_found.specs.Crash.{Means}
use Rattle.rept_found.specs.Telling.{shown_on}
use Rattle.rept_found.specs.View.{CrashView, scene_in, set_in, state_in, trip_in}

-- what is shown of it
abbrev pub shown_in : {W R : Type 0} → Means W → CrashView W R → Shown
shown_in m v = shown_on (trip_in m v) (answers (state_in m v)) (scene_in v)

-- all words, where there is no set
abbrev pub or_all : Option Both → Both
or_all None = both_sets.unknown
or_all (Some w) = w

-- the set that is left of a register at a point; past the last point all words
abbrev pub set_known : {R : Type 0} → Means Both → CrashView Both R → ℕ → ℕ → Both
set_known m v p r = if nat_lt p (shown_in m v).points then or_all (set_in m v p r) else both_sets.unknown

-- the byte at an address at a point; past the last one there is none
abbrev pub byte_known : {W R : Type 0} → Means W → CrashView W R → ℕ → ℕ → Option ℕ
byte_known m v p a = if nat_lt p (shown_in m v).points then (shown_in m v).byte ((shown_in m v).moment p) a else None
