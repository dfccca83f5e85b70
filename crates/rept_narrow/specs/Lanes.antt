-- Bytes of memory that have one value at the points of a span. This project's own.
use Rattle.std.specs.Prelude.{◌≡◌, ℕ, zero, suc, ◌+◌, ◌-◌, ◌/◌, ◌≤◌, ◌==◌, ◌&&◌, ◌||◌, min, max, nat_lt, nat_le, nat_eq, Bool, false, if◌then◌else◌, List, length, All, Option, Some, None, slice_get}
use Rattle.std.specs.Map.{lookup}
use Rattle.rept_narrow.specs.declared.lanes.span.ByteSpan.{ByteSpan}
use Rattle.rept_narrow.specs.declared.lanes.held.Held.{Held}

abbrev pub IsTrueSpan : (ℕ → ℕ → ℕ) → ByteSpan → Type 0
IsTrueSpan memory s = (q : ℕ) → s.from ≤ q → q ≤ s.to → memory q s.address ≡ s.value

abbrev pub AreTrueSpans : (ℕ → ℕ → ℕ) → List ByteSpan → Type 0
AreTrueSpans memory spans = All (IsTrueSpan memory) spans

-- what is held of the byte at an address
abbrev pub held_at : List (ℕ × Held) → ℕ → Option Held
held_at entries a = lookup (nat_eq a) entries

-- the byte at an address has the value at each point from p to the far one, on or back
abbrev pub IsHeld : (ℕ → ℕ → ℕ) → ℕ → ℕ → Held → Type 0
IsHeld memory p a h = (q : ℕ) → min h.far p ≤ q → q ≤ max h.far p → memory q a ≡ h.value

abbrev pub AreHeld : (ℕ → ℕ → ℕ) → ℕ → List (ℕ × Held) → Type 0
AreHeld memory p entries = (a : ℕ) (h : Held) → held_at entries a ≡ Some h → IsHeld memory p a h

-- ---- look-up, by halves
-- whether a span lies before a point of an address
abbrev pub lies_before : Option ByteSpan → ℕ → ℕ → Bool
lies_before None p a = false
lies_before (Some s) p a = nat_lt s.address a || (s.address == a && nat_lt s.to p)

-- where the first span that doesn't lie before is, between two places
abbrev pub sought : List ByteSpan → ℕ → ℕ → ℕ → ℕ → ℕ → ℕ
sought spans p a zero lo hi = lo
sought spans p a (suc n) lo hi =
    if nat_lt lo hi then (if lies_before (slice_get spans (lo + (hi - lo) / 2)) p a then sought spans p a n (lo + (hi - lo) / 2 + 1) hi else sought spans p a n lo (lo + (hi - lo) / 2))
    else lo

abbrev pub value_in : Option ByteSpan → ℕ → ℕ → Option ℕ
value_in None p a = None
value_in (Some s) p a = if s.address == a && (nat_le s.from p && nat_le p s.to) then Some s.value else None

-- the byte of a span that has the point and the address, by a search that finds it where the spans
-- stand in order and don't meet
abbrev pub lane_byte : List ByteSpan → ℕ → ℕ → Option ℕ
lane_byte spans p a = value_in (slice_get spans (sought spans p a (length spans) 0 (length spans))) p a

-- a byte that is found is that of the memory
abbrev pub IsLaneTrue : Type 0
IsLaneTrue = (memory : ℕ → ℕ → ℕ) (spans : List ByteSpan) (p a v : ℕ) → AreTrueSpans memory spans → lane_byte spans p a ≡ Some v → memory p a ≡ v

-- ---- a sweep over points
-- what is held at a point, and the spans that have ended
pub record SweepView : Type 0 where
  pub held : List (ℕ × Held)
  pub spans : List ByteSpan
  pub point : ℕ

pub record IsTrueSweep (memory : ℕ → ℕ → ℕ) (s : SweepView) : Type 0 where
  pub held : AreHeld memory s.point s.held
  pub spans : AreTrueSpans memory s.spans

-- each byte that is held is the same at another point
abbrev pub StaysAt : (ℕ → ℕ → ℕ) → SweepView → ℕ → Type 0
StaysAt memory s p = (a : ℕ) (h : Held) → held_at s.held a ≡ Some h → memory p a ≡ memory s.point a

-- an address of a list
abbrev pub IsListed : List ℕ → ℕ → Type 0
IsListed list a = (k : ℕ) × (slice_get list k ≡ Some a)

-- what is held after was held before, and isn't at an address of a list
abbrev pub LetsGo : List (ℕ × Held) → List (ℕ × Held) → List ℕ → Type 0
LetsGo old new list = (a : ℕ) (h : Held) → held_at new a ≡ Some h → (held_at old a ≡ Some h) × (IsListed list a → ⊥)
