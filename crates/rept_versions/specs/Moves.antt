-- What `carry` on a line answers.
use Rattle.std.specs.Prelude.{◌≡◌, ◌≢◌, ℕ, ◌+◌, ◌≤◌, length, Some, None, ◌⊎◌}
use Rattle.rept_versions.specs.declared.line.Spread.{Spread}
use Rattle.rept_versions.specs.declared.line.Spread.TheVariants.{Same, More, Stop}
use Rattle.rept_versions.specs.Line.{Line, value_at}
use Rattle.rept_versions.specs.Facts.{Between}

-- v is read at each number from one to another, where before v was read or nothing
pub record SpreadsOn (old new : Line) (from to v : ℕ) : Type 0 where
  pub here : (q : ℕ) → Between from to q → value_at new.spans q ≡ Some v
  pub free : (q w : ℕ) → Between from to q → value_at old.spans q ≡ Some w → w ≡ v
  pub others : (q : ℕ) → (Between from to q → ⊥) → value_at new.spans q ≡ value_at old.spans q
  pub room : new.room ≡ old.room
  pub len : length new.spans ≤ length old.spans

pub record StopsOn (old new : Line) (from to v stop found : ℕ) : Type 0 where
  pub before : ℕ
  pub next : (before + 1 ≡ stop) ⊎ (stop + 1 ≡ before)
  pub within : Between from to stop
  pub toward : Between from to before
  pub spreads : SpreadsOn old new from before v
  pub other : value_at old.spans stop ≡ Some found
  pub differs : found ≢ v

abbrev pub MovesOnLine : Line → Line → ℕ → ℕ → ℕ → Spread → Type 0
MovesOnLine old new from to v Same = (new ≡ old) × SpreadsOn old new from to v
MovesOnLine old new from to v More = SpreadsOn old new from to v × ((q : ℕ) × Between from to q × (value_at old.spans q ≡ None))
MovesOnLine old new from to v (Stop k known found) = (known ≡ v) × StopsOn old new from to v k found
