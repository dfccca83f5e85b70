-- A byte that is found by halves is one of a span.
use Rattle.std.proofs.Common.{◌≡◌, ℕ, zero, suc, ◌+◌, ◌-◌, ◌/◌, ◌<◌, ◌≤◌, Bool, true, false, ◌&&◌, nat_le, nat_lt, List, length, Option, Some, None, slice_get, refl, subst, ◌∙◌, arith}
use Rattle.std.specs.Prelude.{◌==◌, if◌then◌else◌}
use Rattle.std.proofs.lemmas.Bool.{and_parts, eqb-true}
use Rattle.std.proofs.lemmas.Option.{get_or_from_slice_get, slice_get_within}
use Rattle.std.proofs.lemmas.List.Elements.{All-get_or}
use Rattle.rept_narrow.specs.declared.lanes.span.ByteSpan.{ByteSpan}
use Rattle.rept_narrow.specs.Lanes.{AreTrueSpans, IsTrueSpan, IsLaneTrue, lies_before, sought, value_in}

pub same_some : {W : Type 0} {x y : W} → Some x ≡ Some y → x ≡ y
same_some e = cc

pub none_some : {W : Type 0} {x : W} → None ≡ Some x → ⊥
none_some e = cc

le_of : (a b : ℕ) → nat_le a b ≡ true → a ≤ b
le_of a b e = grind (arith, e)

lt_true : (a b : ℕ) → a < b → nat_lt a b ≡ true
lt_true a b h = grind (arith, h)

le_false : (a b : ℕ) → b ≤ a → nat_lt a b ≡ false
le_false a b h = grind (arith, h)

picked : (b : Bool) (x v : ℕ) → (if b then Some x else None) ≡ Some v → (b ≡ true) × (x ≡ v)
picked true x v e = (refl, same_some e)
picked false x v e = absurd (none_some e)

value_true : (memory : ℕ → ℕ → ℕ) (o : Option ByteSpan) (p a v : ℕ) → ((s : ByteSpan) → o ≡ Some s → IsTrueSpan memory s) → value_in o p a ≡ Some v → memory p a ≡ v
value_true memory None p a v f e = absurd (none_some e)
value_true memory (Some s) p a v f e =
    let found = picked (s.address == a && (nat_le s.from p && nat_le p s.to)) s.value v e in
    let parts = and_parts (s.address == a) (nat_le s.from p && nat_le p s.to) found.0 in
    let ends = and_parts (nat_le s.from p) (nat_le p s.to) parts.1 in
    let here : s.address ≡ a = eqb-true s.address a parts.0 in
    subst (λ (b : ℕ). memory p b ≡ v) here (f s refl p (le_of s.from p ends.0) (le_of p s.to ends.1) ∙ found.1)

pub spans_at : (memory : ℕ → ℕ → ℕ) (spans : List ByteSpan) (k : ℕ) (s : ByteSpan) → slice_get spans k ≡ Some s → AreTrueSpans memory spans → IsTrueSpan memory s
spans_at memory spans k s at are = subst (IsTrueSpan memory) (get_or_from_slice_get spans k s s at) (All-get_or (IsTrueSpan memory) spans k s (slice_get_within spans k s at) are)

-- one look more
pub step_on : (spans : List ByteSpan) (p a n m lo hi : ℕ) → n ≡ suc m → (lo < hi) → lies_before (slice_get spans (lo + (hi - lo) / 2)) p a ≡ true → sought spans p a n lo hi ≡ sought spans p a m (lo + (hi - lo) / 2 + 1) hi
step_on spans p a n m lo hi is less e = rw is (stepped (nat_lt lo hi) (lies_before (slice_get spans (lo + (hi - lo) / 2)) p a) (lt_true lo hi less) e)
  where
    stepped : (b c : Bool) → b ≡ true → c ≡ true → (if b then (if c then sought spans p a m (lo + (hi - lo) / 2 + 1) hi else sought spans p a m lo (lo + (hi - lo) / 2)) else lo) ≡ sought spans p a m (lo + (hi - lo) / 2 + 1) hi
    stepped b c x y = rw (x, y) refl

pub step_back : (spans : List ByteSpan) (p a n m lo hi : ℕ) → n ≡ suc m → (lo < hi) → lies_before (slice_get spans (lo + (hi - lo) / 2)) p a ≡ false → sought spans p a n lo hi ≡ sought spans p a m lo (lo + (hi - lo) / 2)
step_back spans p a n m lo hi is less e = rw is (stepped (nat_lt lo hi) (lies_before (slice_get spans (lo + (hi - lo) / 2)) p a) (lt_true lo hi less) e)
  where
    stepped : (b c : Bool) → b ≡ true → c ≡ false → (if b then (if c then sought spans p a m (lo + (hi - lo) / 2 + 1) hi else sought spans p a m lo (lo + (hi - lo) / 2)) else lo) ≡ sought spans p a m lo (lo + (hi - lo) / 2)
    stepped b c x y = rw (x, y) refl

pub step_ends : (spans : List ByteSpan) (p a n lo hi : ℕ) → hi ≤ lo → sought spans p a n lo hi ≡ lo
step_ends spans p a zero lo hi past = refl
step_ends spans p a (suc n) lo hi past = rw (le_false lo hi past) refl

pub none_left : (spans : List ByteSpan) (p a n lo hi : ℕ) → n ≡ 0 → sought spans p a n lo hi ≡ lo
none_left spans p a n lo hi e = rw e refl

pub lane_true : IsLaneTrue
lane_true memory spans p a v are e = value_true memory (slice_get spans (sought spans p a (length spans) 0 (length spans))) p a v (λ s at. spans_at memory spans (sought spans p a (length spans) 0 (length spans)) s at are) e
