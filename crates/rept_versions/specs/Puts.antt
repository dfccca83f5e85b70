-- What the calls on a line answer.
use Rattle.std.specs.Prelude.{◌≡◌, ◌≢◌, ℕ, ◌+◌, ◌-◌, ◌<◌, ◌≤◌, length, Option, Some, None}
use Rattle.rept_versions.specs.declared.line.Put.{Put}
use Rattle.rept_versions.specs.declared.line.Put.TheVariants.{Old, New, Clash, Full}
use Rattle.rept_versions.specs.declared.line.SpanStep.{SpanStep}
use Rattle.rept_versions.specs.declared.line.SpanStep.TheVariants.{Done, Stop, Joined}
use Rattle.rept_versions.specs.Line.{Line, nth, value_at, Added, Filled, StoppedBelow, FilledDown, StoppedDown}

abbrev pub Puts : Line → Line → ℕ → ℕ → Put → Type 0
Puts old new k v Old = (new ≡ old) × (value_at old.spans k ≡ Some v)
Puts old new k v New = Added old new k v
Puts old new k v (Clash w) = (new ≡ old) × (value_at old.spans k ≡ Some w) × (w ≢ v)
Puts old new k v Full = (new ≡ old) × (value_at old.spans k ≡ None) × (old.room ≤ length old.spans)

abbrev pub Ups : Line → Line → ℕ → ℕ → Option ℕ → Type 0
Ups old new i to None = Filled old new (nth old.spans i).high to (nth old.spans i).value
Ups old new i to (Some stop) = StoppedBelow old new (nth old.spans i).high to (nth old.spans i).value stop

abbrev pub Downs : Line → Line → ℕ → ℕ → Option ℕ → Type 0
Downs old new i to None = FilledDown old new to (nth old.spans i).low (nth old.spans i).value
Downs old new i to (Some stop) = StoppedDown old new to (nth old.spans i).low (nth old.spans i).value stop

-- the span took in the next one, and what goes on from there goes on from here
pub record UpOn (old new : Line) (i to : ℕ) : Type 0 where
  pub at : i < length new.spans
  pub less : length new.spans + 1 ≡ length old.spans
  pub on : (later : Line) (r : Option ℕ) → Ups new later i to r → Ups old later i to r

pub record DownOn (old new : Line) (i to : ℕ) : Type 0 where
  pub some : 0 < i
  pub at : i - 1 < length new.spans
  pub on : (later : Line) (r : Option ℕ) → Downs new later (i - 1) to r → Downs old later i to r

abbrev pub UpStep : Line → Line → ℕ → ℕ → SpanStep → Type 0
UpStep old new i to Done = Ups old new i to None
UpStep old new i to (Stop stop) = Ups old new i to (Some stop)
UpStep old new i to Joined = UpOn old new i to

abbrev pub DownStep : Line → Line → ℕ → ℕ → SpanStep → Type 0
DownStep old new i to Done = Downs old new i to None
DownStep old new i to (Stop stop) = Downs old new i to (Some stop)
DownStep old new i to Joined = DownOn old new i to
