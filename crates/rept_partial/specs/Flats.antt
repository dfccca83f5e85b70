-- One known value or all, as sets of values.
use Rattle.std.specs.Prelude.{◌≡◌, ℕ, ◌^◌, ◌<◌, ◌≤◌, Bool, true, false, ◌==◌, nat_lt, if◌then◌else◌, Option, Some, None, refl}
use Rattle.std.proofs.Common.{arith, sym, subst, ap, ◌∙◌, inl, inr, ◌⊎◌}
use Rattle.rept_partial.specs.declared.flat.Flat.{Flat}
use Rattle.rept_partial.specs.declared.flat.Flat.TheVariants.{Unknown, Known}
use Rattle.rept_partial.specs.Sets.{Sets, AreLawful, IsWithin}
use Rattle.rept_partial.specs.Ranges.{word}

-- a value that is there is known
abbrev pub flat : Option ℕ → Flat
flat None = Unknown
flat (Some v) = Known v

abbrev pub flat_has : Flat → ℕ → Bool
flat_has Unknown v = nat_lt v 4294967296
flat_has (Known w) v = v == word w

abbrev pub flat_meet : Flat → Flat → Option Flat
flat_meet Unknown b = Some b
flat_meet (Known v) Unknown = Some (Known v)
flat_meet (Known v) (Known w) = if word v == word w then Some (Known v) else None

abbrev pub flat_exact : Flat → Option ℕ
flat_exact Unknown = None
flat_exact (Known v) = Some (word v)

abbrev pub flat_lo : Flat → ℕ
flat_lo Unknown = 0
flat_lo (Known v) = word v

abbrev pub flat_hi : Flat → ℕ
flat_hi Unknown = 4294967295
flat_hi (Known v) = word v

abbrev pub flat_sets : Sets Flat
flat_sets = record { has = flat_has; unknown = Unknown; exact = λ v. Known v; meet = flat_meet; as_exact = flat_exact; lo = flat_lo; hi = flat_hi }

same_some : {W : Type 0} {x y : W} → Some x ≡ Some y → x ≡ y
same_some e = cc

some_none : {W : Type 0} {x : W} → Some x ≡ None → ⊥
some_none e = cc

is_word : (v : ℕ) → word v < 4294967296
is_word v = omega arith

word_word : (v : ℕ) → v < 4294967296 → word v ≡ v
word_word v h = omega arith

has_known : (v : ℕ) → flat_has (Known v) (word v) ≡ true
has_known v = grind arith

is_known : (v u : ℕ) → flat_has (Known v) u ≡ true → u ≡ word v
is_known v u h = grind (arith, h)

below : (v : ℕ) → flat_has Unknown v ≡ true → v < 4294967296
below v h = grind (arith, h)

in_all : (v : ℕ) → v < 4294967296 → flat_has Unknown v ≡ true
in_all v h = grind (arith, h)

known_in_all : (v u : ℕ) → flat_has (Known v) u ≡ true → flat_has Unknown u ≡ true
known_in_all v u h = let e = is_known v u h in let w = is_word v in in_all u (omega arith)

not_all : (v : ℕ) → ((u : ℕ) → flat_has Unknown u ≡ true → u ≡ v) → ⊥
not_all v h = let e0 : 0 ≡ v = h 0 refl in let e1 : 1 ≡ v = h 1 refl in omega arith

some_value : (a : Flat) → (v : ℕ) × (flat_has a v ≡ true)
some_value Unknown = (0, refl)
some_value (Known v) = (word v, has_known v)

either_way : (b : Bool) → (b ≡ true) ⊎ (b ≡ false)
either_way true = inl refl
either_way false = inr refl

meet_known : (x y : ℕ) (c : Flat) → flat_meet (Known x) (Known y) ≡ Some c → (word x ≡ word y) × (Known x ≡ c)
meet_known x y c e =
    elim (either_way (word x == word y)) [
      | inl t ↦ let is : word x ≡ word y = grind (arith, t) in let e' = rw t at e in (is, same_some e')
      | inr n ↦ let e' = rw n at e in absurd (some_none (sym e'))
    ]

meet_some : (a b c : Flat) (v : ℕ) → flat_meet a b ≡ Some c → flat_has a v ≡ true → flat_has b v ≡ true → flat_has c v ≡ true
meet_some Unknown b c v e ha hb = subst (λ (x : Flat). flat_has x v ≡ true) (same_some e) hb
meet_some (Known x) Unknown c v e ha hb = subst (λ (y : Flat). flat_has y v ≡ true) (same_some e) ha
meet_some (Known x) (Known y) c v e ha hb = subst (λ (z : Flat). flat_has z v ≡ true) ((meet_known x y c e).1) ha

meet_within : (a b c : Flat) (v : ℕ) → flat_meet a b ≡ Some c → flat_has c v ≡ true → (flat_has a v ≡ true) × (flat_has b v ≡ true)
meet_within Unknown Unknown c v e h = let h' = subst (λ (x : Flat). flat_has x v ≡ true) (sym (same_some e)) h in (h', h')
meet_within Unknown (Known y) c v e h = let h' = subst (λ (x : Flat). flat_has x v ≡ true) (sym (same_some e)) h in (known_in_all y v h', h')
meet_within (Known x) Unknown c v e h = let h' = subst (λ (y : Flat). flat_has y v ≡ true) (sym (same_some e)) h in (h', known_in_all x v h')
meet_within (Known x) (Known y) c v e h =
    let m = meet_known x y c e in
    let h' : flat_has (Known x) v ≡ true = subst (λ (z : Flat). flat_has z v ≡ true) (sym m.1) h in
    (h', rw m.0 at h')

meet_none : (a b : Flat) (v : ℕ) → flat_meet a b ≡ None → flat_has a v ≡ true → flat_has b v ≡ true → ⊥
meet_none Unknown b v e ha hb = some_none e
meet_none (Known x) Unknown v e ha hb = some_none e
meet_none (Known x) (Known y) v e ha hb =
    let same : word x ≡ word y = sym (is_known x v ha) ∙ is_known y v hb in
    let t : (word x == word y) ≡ true = grind (arith, same) in
    let e' = rw t at e in
    some_none e'

as_exact : (a : Flat) (v u : ℕ) → flat_exact a ≡ Some v → flat_has a u ≡ true → u ≡ v
as_exact Unknown v u e h = absurd (some_none (sym e))
as_exact (Known w) v u e h = is_known w u h ∙ same_some e

is_exact : (a : Flat) (v : ℕ) → ((u : ℕ) → flat_has a u ≡ true → u ≡ v) → flat_exact a ≡ Some v
is_exact Unknown v h = absurd (not_all v h)
is_exact (Known w) v h = ap (λ (x : ℕ). Some x) (h (word w) (has_known w))

bounds : (a : Flat) (v : ℕ) → flat_has a v ≡ true → (flat_lo a ≤ v) × (v ≤ flat_hi a)
bounds Unknown v h = let b = below v h in (omega arith, omega arith)
bounds (Known w) v h = let e = is_known w v h in (omega arith, omega arith)

bounds_within : (a b : Flat) → IsWithin flat_sets a b → (flat_lo b ≤ flat_lo a) × (flat_hi a ≤ flat_hi b)
bounds_within Unknown Unknown h = (omega arith, omega arith)
bounds_within Unknown (Known w) h = absurd (not_all (word w) (λ u t. is_known w u (h u t)))
bounds_within (Known v) Unknown h = let b = is_word v in (omega arith, omega arith)
bounds_within (Known v) (Known w) h = let e = is_known w (word v) (h (word v) (has_known v)) in (omega arith, omega arith)

words : (a : Flat) (v : ℕ) → flat_has a v ≡ true → v < 2 ^ 32
words Unknown v h = below v h
words (Known w) v h = let e = is_known w v h in let s = is_word w in omega arith

exact_only : (v u : ℕ) → v < 2 ^ 32 → flat_has (Known v) u ≡ true → u ≡ v
exact_only v u small h = let e = is_known v u h in let s = word_word v small in omega arith

exact_has : (v : ℕ) → v < 2 ^ 32 → flat_has (Known v) v ≡ true
exact_has v small = grind (arith, small)

ordered : (a : Flat) → flat_lo a ≤ flat_hi a
ordered Unknown = omega arith
ordered (Known v) = omega arith

small : (a : Flat) → flat_hi a < 2 ^ 32
small Unknown = omega arith
small (Known v) = omega arith

pub flat_lawful : AreLawful flat_sets
flat_lawful = record { some = some_value; words = words; unknown = in_all; exact = exact_has; exact_only = exact_only; meet_some = meet_some; meet_within = meet_within; meet_none = meet_none; as_exact = as_exact; is_exact = is_exact; bounds = bounds; ordered = ordered; small = small; bounds_within = bounds_within }
