-- Which of some rows is the last one, where a row may lie wholly before or after another one. This
-- project's own.
use Rattle.std.specs.Prelude.{◌≡◌, ℕ, true, false}
use Rattle.rept_report.specs.Moments.{Moments}

-- a row lies wholly before another one, and not after it
pub record IsEarlierRow (moments : Moments) (i j : ℕ) : Type 0 where
  pub later : moments.later j i ≡ true
  pub apart : moments.later i j ≡ false

-- the one of some rows that lies wholly after all others, and after the writers that aren't traced
pub record IsLatest (moments : Moments) (Is : ℕ → Type 0) (j : ℕ) : Type 0 where
  pub one : Is j
  pub after : (k : ℕ) → Is k → (k ≡ j → ⊥) → IsEarlierRow moments k j
  pub untraced : moments.is_untraced ≡ true → moments.untraced_before j ≡ true

-- there is none of them, and each writer is traced
pub record HasNone (moments : Moments) (Is : ℕ → Type 0) : Type 0 where
  pub rows : (k : ℕ) → Is k → ⊥
  pub light : moments.is_untraced ≡ false
