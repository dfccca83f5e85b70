-- The number after the last one of which something holds.
use Rattle.std.proofs.Common.{◌≡◌, ℕ, ◌+◌, ◌<◌, ◌≤◌, ◌⊎◌, inl, inr, refl, subst, sym, ◌∙◌, arith}
use Rattle.std.specs.Prelude.{max}
use Rattle.rept_writing.specs.Filed.{IsPast}

-- after one below k, where none stands between
pub past_after : (P : ℕ → Type 0) (low k h : ℕ) → low ≤ h → h < k → P h → ((j : ℕ) → h < j → j < k → P j → ⊥) → IsPast P low k (h + 1)
past_after P low k h from below holds none = record {
  from = omega (arith, from);
  before = inr (h, refl, below, holds);
  none = λ j late lt p. none j (omega (arith, late)) lt p;
}

-- where there is none
pub past_none : (P : ℕ → Type 0) (low k : ℕ) → ((j : ℕ) → low ≤ j → j < k → P j → ⊥) → IsPast P low k low
past_none P low k none = record { from = omega arith; before = inl refl; none = none }

-- no more than k, or the number from which on it is sought
pub past_bound : (P : ℕ → Type 0) (low k r end : ℕ) → low ≤ end → k ≤ end → IsPast P low k r → r ≤ end
past_bound P low k r end few fewer past = elim past.before [ inl e ↦ omega (arith, e, few) | inr (j, e, lt, p) ↦ omega (arith, e, lt, fewer) ]

-- from a greater number on
pub past_from : (P : ℕ → Type 0) (low k r : ℕ) → IsPast P 0 k r → IsPast P low k (max r low)
past_from P low k r past = record {
  from = omega arith;
  before = elim greater [
    | inl (e, le) ↦ inl e
    | inr (e, lt) ↦ elim past.before [ inl none ↦ absurd (omega (arith, none, lt)) | inr (j, is, less, p) ↦ inr (j, e ∙ is, less, p) ]
  ];
  none = λ j late lt p. past.none j (omega (arith, late)) lt p;
}
  where
    greater : ((max r low ≡ low) × (r ≤ low)) ⊎ ((max r low ≡ r) × (low < r))
    greater = grind arith

-- the greater one of two, of which the one or the other holds
pub past_left : (P Q R : ℕ → Type 0) (low k x y : ℕ) → ((j : ℕ) → P j → R j) → ((j : ℕ) → R j → P j ⊎ Q j) → y ≤ x → IsPast P low k x → IsPast Q low k y → IsPast R low k x
past_left P Q R low k x y p each le first second = record {
  from = first.from;
  before = elim first.before [ inl e ↦ inl e | inr (j, is, less, h) ↦ inr (j, is, less, p j h) ];
  none = λ j late lt r. elim (each j r) [ inl h ↦ first.none j late lt h | inr h ↦ second.none j (omega (arith, late, le)) lt h ];
}

pub past_later : (P Q R : ℕ → Type 0) (low k x y : ℕ) → ((j : ℕ) → P j → R j) → ((j : ℕ) → Q j → R j) → ((j : ℕ) → R j → P j ⊎ Q j) → IsPast P low k x → IsPast Q low k y → IsPast R low k (max x y)
past_later P Q R low k x y p q each first second = elim greater [
  | inl (e, le) ↦ subst (IsPast R low k) (sym e) (past_left P Q R low k x y p each le first second)
  | inr (e, le) ↦ subst (IsPast R low k) (sym e) (past_left Q P R low k y x q (λ j r. elim (each j r) [ inl h ↦ inr h | inr h ↦ inl h ]) le second first)
]
  where
    greater : ((max x y ≡ x) × (y ≤ x)) ⊎ ((max x y ≡ y) × (x ≤ y))
    greater = grind arith
