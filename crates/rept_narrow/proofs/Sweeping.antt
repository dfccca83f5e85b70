-- What is held stays true: where a byte is noted or let go, and from point to point.
use Rattle.std.proofs.Common.{◌≡◌, ◌≢◌, ℕ, ◌+◌, ◌-◌, ◌<◌, ◌≤◌, Bool, true, false, List, [], ◌∷◌, ◌++◌, length, Option, Some, None, slice_get, get_or, ◌⊎◌, inl, inr, refl, sym, subst, ◌∙◌, arith}
use Rattle.std.specs.Prelude.{◌==◌, min, max, if◌then◌else◌, All}
use Rattle.std.proofs.lemmas.Bool.{cases_eq, eqb-true}
use Rattle.std.proofs.lemmas.List.Elements.{All-append, All-cons, All-nil}
use Rattle.std.proofs.lemmas.Option.{get_or_from_slice_get, slice_get_within}
use Rattle.rept_narrow.specs.declared.lanes.span.ByteSpan.{ByteSpan}
use Rattle.rept_narrow.specs.declared.lanes.held.Held.{Held}
use Rattle.rept_narrow.specs.Lanes.{held_at, IsHeld, AreHeld, IsTrueSpan, AreTrueSpans, IsTrueSweep, StaysAt}
use Rattle.rept_narrow.proofs.Truth.{same_some, none_some}

chosen : (b : Bool) (x y : Option Held) (h : Held) → (if b then x else y) ≡ Some h → ((b ≡ true) × (x ≡ Some h)) ⊎ ((b ≡ false) × (y ≡ Some h))
chosen true x y h e = inl (refl, e)
chosen false x y h e = inr (refl, e)

-- a byte is noted
pub noted : (memory : ℕ → ℕ → ℕ) (p a v : ℕ) (old new : List (ℕ × Held)) (one : Held) → one.far ≡ p → one.value ≡ v → ((b : ℕ) → held_at new b ≡ (if b == a then Some one else held_at old b)) → memory p a ≡ v → AreHeld memory p old → AreHeld memory p new
noted memory p a v old new one far value puts true_ are b h e = elim (chosen (b == a) (Some one) (held_at old b) h (sym (puts b) ∙ e)) [
  | inl here ↦ λ q low high.
      let same : b ≡ a = eqb-true b a here.0 in
      let alike : one ≡ h = same_some here.1 in
      let is : one.far ≡ h.far = subst (λ (x : Held). one.far ≡ x.far) alike refl in
      let at : q ≡ p = omega (arith, low, high, far, is) in
      let held : memory p a ≡ h.value = true_ ∙ sym value ∙ subst (λ (x : Held). one.value ≡ x.value) alike refl in
      subst (λ (n : ℕ). memory n b ≡ h.value) (sym at) (subst (λ (n : ℕ). memory p n ≡ h.value) (sym same) held)
  | inr other ↦ are b h other.1
]

-- a span of what was held
pub ended : (memory : ℕ → ℕ → ℕ) (p a : ℕ) (h : Held) (span : ByteSpan) → span.address ≡ a → span.value ≡ h.value → span.from ≡ min h.far p → span.to ≡ max h.far p → IsHeld memory p a h → IsTrueSpan memory span
ended memory p a h span address value from to held q low high =
    let first : min h.far p ≤ q = omega (arith, low, from) in
    let last : q ≤ max h.far p = omega (arith, high, to) in
    subst (λ (n : ℕ). memory q n ≡ span.value) (sym address) (held q first last ∙ sym value)

pub more_spans : (memory : ℕ → ℕ → ℕ) (old new : List ByteSpan) (span : ByteSpan) → new ≡ old ++ span ∷ [] → AreTrueSpans memory old → IsTrueSpan memory span → AreTrueSpans memory new
more_spans memory old new span e are one = subst (λ (xs : List ByteSpan). All (IsTrueSpan memory) xs) (sym e) (All-append (IsTrueSpan memory) old (span ∷ []) are (All-cons (IsTrueSpan memory) span [] one (All-nil (IsTrueSpan memory))))

-- what is left after a byte is let go
pub left : (a : ℕ) (old new : List (ℕ × Held)) → ((b : ℕ) → held_at new b ≡ (if b == a then None else held_at old b)) → (b : ℕ) (h : Held) → held_at new b ≡ Some h → (held_at old b ≡ Some h) × (b ≢ a)
left a old new takes b h e = elim (chosen (b == a) None (held_at old b) h (sym (takes b) ∙ e)) [
  | inl here ↦ absurd (none_some here.1)
  | inr other ↦ (other.1, λ same. apart (b == a) other.0 (rw same (same_eq a)))
]
  where
    apart : (t : Bool) → t ≡ false → t ≡ true → ⊥
    apart t e f = cc

    same_eq : (n : ℕ) → (n == n) ≡ true
    same_eq n = grind arith

-- from point to point
pub held_on : (memory : ℕ → ℕ → ℕ) (p r a : ℕ) (h : Held) → ((q : ℕ) → min h.far r ≤ q → q ≤ max h.far r → q ≢ r → (min h.far p ≤ q) × (q ≤ max h.far p)) → memory r a ≡ memory p a → IsHeld memory p a h → IsHeld memory r a h
held_on memory p r a h ends stays held q low high = elim (cases_eq q r) [
  | inl same ↦ subst (λ (n : ℕ). memory n a ≡ h.value) (sym same) (stays ∙ held p (omega arith) (omega arith))
  | inr ne ↦ let inside = ends q low high ne in held q inside.0 inside.1
]

next_ends : (p far q : ℕ) → min far (p + 1) ≤ q → q ≤ max far (p + 1) → q ≢ p + 1 → (min far p ≤ q) × (q ≤ max far p)
next_ends p far q low high ne = (omega (arith, low, high, ne), omega (arith, low, high, ne))

before_ends : (p r far q : ℕ) → r + 1 ≡ p → min far r ≤ q → q ≤ max far r → q ≢ r → (min far p ≤ q) × (q ≤ max far p)
before_ends p r far q e low high ne = (omega (arith, e, low, high, ne), omega (arith, e, low, high, ne))

pub gone_on : (memory : ℕ → ℕ → ℕ) (held : List (ℕ × Held)) (spans : List ByteSpan) (p : ℕ) → StaysAt memory (record { held = held; spans = spans; point = p }) (p + 1) → IsTrueSweep memory (record { held = held; spans = spans; point = p }) → IsTrueSweep memory (record { held = held; spans = spans; point = p + 1 })
gone_on memory held spans p stays t = record {
  held = λ a h e. held_on memory p (p + 1) a h (next_ends p h.far) (stays a h e) (t.held a h e);
  spans = t.spans;
}

pub gone_back : (memory : ℕ → ℕ → ℕ) (held : List (ℕ × Held)) (spans : List ByteSpan) (p : ℕ) → 0 < p → StaysAt memory (record { held = held; spans = spans; point = p }) (p - 1) → IsTrueSweep memory (record { held = held; spans = spans; point = p }) → IsTrueSweep memory (record { held = held; spans = spans; point = p - 1 })
gone_back memory held spans p some stays t =
    let here : p - 1 + 1 ≡ p = omega (arith, some) in
    record {
      held = λ a h e. held_on memory p (p - 1) a h (λ q. before_ends p (p - 1) h.far q here) (stays a h e) (t.held a h e);
      spans = t.spans;
    }

-- a byte is let go
pub let_gone : (memory : ℕ → ℕ → ℕ) (p a : ℕ) (old new : List (ℕ × Held)) (spans : List ByteSpan) → ((b : ℕ) → held_at new b ≡ (if b == a then None else held_at old b)) → IsTrueSweep memory (record { held = old; spans = spans; point = p }) → IsTrueSweep memory (record { held = new; spans = spans; point = p })
let_gone memory p a old new spans takes t = record { held = λ b h e. t.held b h (left a old new takes b h e).0; spans = t.spans }

pub let_ended : (memory : ℕ → ℕ → ℕ) (p a : ℕ) (old new : List (ℕ × Held)) (spans more : List ByteSpan) (h : Held) (span : ByteSpan) → ((b : ℕ) → held_at new b ≡ (if b == a then None else held_at old b)) → held_at old a ≡ Some h → span.address ≡ a → span.value ≡ h.value → span.from ≡ min h.far p → span.to ≡ max h.far p → more ≡ spans ++ span ∷ [] → IsTrueSweep memory (record { held = old; spans = spans; point = p }) → IsTrueSweep memory (record { held = new; spans = more; point = p })
let_ended memory p a old new spans more h span takes at address value from to pushed t = record {
  held = λ b one e. t.held b one (left a old new takes b one e).0;
  spans = more_spans memory spans more span pushed t.spans (ended memory p a h span address value from to (t.held a h at));
}

-- the span of a byte that stays held
pub also_ended : (memory : ℕ → ℕ → ℕ) (p a : ℕ) (held : List (ℕ × Held)) (spans more : List ByteSpan) (h : Held) (span : ByteSpan) → held_at held a ≡ Some h → span.address ≡ a → span.value ≡ h.value → span.from ≡ min h.far p → span.to ≡ max h.far p → more ≡ spans ++ span ∷ [] → IsTrueSweep memory (record { held = held; spans = spans; point = p }) → IsTrueSweep memory (record { held = held; spans = more; point = p })
also_ended memory p a held spans more h span at address value from to pushed t = record {
  held = t.held;
  spans = more_spans memory spans more span pushed t.spans (ended memory p a h span address value from to (t.held a h at));
}

-- one more of a list was let go
pub none_listed : (list : List ℕ) (index a x d : ℕ) → x ≡ get_or list index d → a ≢ x → ((k : ℕ) → k < index → slice_get list k ≡ Some a → ⊥) → (k : ℕ) → k < index + 1 → slice_get list k ≡ Some a → ⊥
none_listed list index a x d is apart before k less at = elim (cases_eq k index) [
  | inl same ↦
      let here : slice_get list index ≡ Some a = subst (λ (n : ℕ). slice_get list n ≡ Some a) same at in
      apart (sym (is ∙ get_or_from_slice_get list index a d here))
  | inr ne ↦ before k (omega (arith, less, ne)) at
]

pub all_listed : (list : List ℕ) (n a : ℕ) → length list ≤ n → ((k : ℕ) → k < n → slice_get list k ≡ Some a → ⊥) → (k : ℕ) × (slice_get list k ≡ Some a) → ⊥
all_listed list n a past none listed = let inside = slice_get_within list listed.0 a listed.1 in none listed.0 (omega (arith, inside, past)) listed.1
