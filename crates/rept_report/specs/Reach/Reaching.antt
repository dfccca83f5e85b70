-- Between which moments a row may act, and from which others a moment comes. This project's own.
use Rattle.std.specs.Prelude.{◌≡◌, ℕ, ◌+◌, ◌≤◌, ◌<◌, ◌⊎◌, true, false}
use Rattle.rept_report.specs.Moments.{Moments}
use Rattle.rept_report.specs.declared.paths.NumberWindow.{NumberWindow}

-- where the row may act between a number and one that is next to it, the number is before the end
-- of the window, and the next one isn't before its beginning
abbrev pub IsExtent : Moments → ℕ → NumberWindow → Type 0
IsExtent moments i window = (m w : ℕ) → moments.next m w ≡ true → moments.may_act i m w ≡ true → (m < window.to) × (window.from ≤ w)

-- the row may act between a number and each one that is next to it
abbrev pub IsBar : Moments → ℕ → ℕ → Type 0
IsBar moments i m = (w : ℕ) → moments.next m w ≡ true → moments.may_act i m w ≡ true

-- a number from the least on, before the end of a window: of those from the least on to before it
-- each has its next numbers in the window
pub record IsLeaving (moments : Moments) (known : NumberWindow) (least n : ℕ) : Type 0 where
  pub from : least ≤ n
  pub to : n < known.to
  pub inside : (m w : ℕ) → least ≤ m → m < n → moments.next m w ≡ true → (known.from ≤ w) × (w < known.to)

-- the second number is next to the first, and nothing that isn't told may act between
pub record IsLit (moments : Moments) (m w : ℕ) : Type 0 where
  pub next : moments.next m w ≡ true
  pub light : moments.untraced m w ≡ false

-- a number up to which each after those of a window is next to one before it that isn't below the
-- window
pub record IsReachedUp (moments : Moments) (known : NumberWindow) (most n : ℕ) : Type 0 where
  pub from : known.to ≤ n + 1
  pub to : (n ≤ most) ⊎ (n + 1 ≡ known.to)
  pub inside : n ≤ moments.end
  pub ways : (k : ℕ) → known.to ≤ k → k ≤ n → (m : ℕ) × (known.from ≤ m) × (m < k) × IsLit moments m k

-- a number down to which each before those of a window has one next to it, after it and not past
-- the window
pub record IsReachedDown (moments : Moments) (known : NumberWindow) (least n : ℕ) : Type 0 where
  pub to : n ≤ known.from
  pub from : (least ≤ n) ⊎ (n ≡ known.from)
  pub ways : (k : ℕ) → n ≤ k → k < known.from → (w : ℕ) × (k < w) × (w < known.to) × IsLit moments k w
