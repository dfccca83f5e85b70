-- Known bits and a range together, as sets of values, kept reduced: the range goes from the least
-- common word to the greatest one, and a bit is open where two of the common words differ. This
-- project's own.
use Rattle.std.specs.Prelude.{◌≡◌, ◌≢◌, ℕ, ◌+◌, ◌^◌, ◌<◌, ◌≤◌, min, Bool, true, ◌&&◌, Option, Some, None, bit_and, bit_xor, ◌↔◌}
use Rattle.std.proofs.Common.{◌⊎◌, inl, inr, refl, sym, ◌∙◌, arith}
use Rattle.std.specs.Int.{bit_at}
use Rattle.std.proofs.lemmas.Nat.{and_le_r, xor_lt}
use Rattle.std.proofs.lemmas.Nat.Bits.{bit_at_and, bit_at_ones, bit_at_above}
use Rattle.std.proofs.lemmas.Bool.{cases_lt}
use Rattle.rept_partial.specs.declared.range.Range.{Range}
use Rattle.rept_partial.specs.Sets.{Sets}
use Rattle.rept_partial.specs.Ranges.{bounded, range_has, range_meet, range_exact, word}
use Rattle.rept_span.specs.Tables.{digits, cover}
use Rattle.rept_span.specs.Laws.RangeBounds.{digits_hold}
use Rattle.rept_known.specs.declared.bits.Bits.{Bits}
use Rattle.rept_known.specs.declared.both.Both.{Both}
use Rattle.rept_known.specs.Masks.{bit_cases}
use Rattle.rept_known.specs.Bits.{outside, bits_has, bits_meet}
use Rattle.rept_known.specs.Laws.BitsLaws.{Agrees, has_parts, has_agrees, agrees_has, least_agrees, greatest_agrees, in_outside}
use Rattle.rept_known.specs.Laws.Sums.{xor_alike}
use Rattle.rept_known.specs.Operations.{all_open, all_known}
use Rattle.rept_known.specs.Least.{IsLeastFrom, IsGreatestTo, least_word, greatest_word, least_some, least_none, greatest_some, greatest_none, option_cases}

-- the words that both have
abbrev pub both_has : Both → ℕ → Bool
both_has a v = range_has a.range v && bits_has a.bits v

-- the open bits of the words of a set from one of its words to another: those up to the highest bit
-- in which the two differ
abbrev pub open_between : Bits → ℕ → ℕ → ℕ
open_between b lo hi = bit_and b.loose (cover (bit_xor lo hi))

-- no bit above the cover of their difference tells two words apart
pub alike_above : (lo hi i : ℕ) → lo < 2 ^ 32 → hi < 2 ^ 32 → bit_at (cover (bit_xor lo hi)) i ≡ 0 → digits (bit_xor lo hi) ≤ i
alike_above lo hi i s t e = elim (cases_lt i (digits (bit_xor lo hi))) [
  | inl lt ↦ absurd (zero_one (bit_at (cover (bit_xor lo hi)) i) e (bit_at_ones (digits (bit_xor lo hi)) i lt))
  | inr ge ↦ ge
]
  where
    zero_one : (n : ℕ) → n ≡ 0 → n ≡ 1 → ⊥
    zero_one n e f = omega arith

-- where a bit isn't open between two words, either the set knows it, or it is above all that tells
-- the two apart
pub closed_between : (b : Bits) (lo hi i : ℕ) → bit_at (open_between b lo hi) i ≡ 0 → (bit_at b.loose i ≡ 0) ⊎ (bit_at (cover (bit_xor lo hi)) i ≡ 0)
closed_between b lo hi i e = elim (bit_cases b.loose i) [
  | inl known ↦ inl known
  | inr free ↦ inr (zero (bit_at b.loose i) (bit_at (cover (bit_xor lo hi)) i) (sym (bit_at_and b.loose (cover (bit_xor lo hi)) i) ∙ e) free)
]
  where
    zero : (p q : ℕ) → min p q ≡ 0 → p ≡ 1 → q ≡ 0
    zero p q e f = omega arith

pub upper_word : (b : Bits) (lo hi : ℕ) → bits_has b lo ≡ true → bits_has b hi ≡ true → Agrees (outside lo (open_between b lo hi)) hi
upper_word b lo hi p q =
    let g = has_agrees b lo p in
    let h = has_agrees b hi q in
    in_outside lo (open_between b lo hi) hi h.small
    (λ i l e. elim (closed_between b lo hi i e) [
      | inl known ↦ h.same i l known ∙ sym (g.same i l known)
      | inr above ↦ sym (xor_alike lo hi i (bit_at_above (bit_xor lo hi) (digits (bit_xor lo hi)) i ((digits_hold (bit_xor lo hi) (xor_lt 32 lo hi g.small h.small)).0) (alike_above lo hi i g.small h.small above)))
    ])

pub tight_between : (b : Bits) (lo hi : ℕ) → word (open_between b lo hi) ≤ cover (bit_xor lo hi)
tight_between b lo hi = let l = and_le_r b.loose (cover (bit_xor lo hi)) in omega (arith, l)

-- the words of a set of known bits from one of them to another
abbrev pub between : (b : Bits) (lo hi : ℕ) → bits_has b lo ≡ true → bits_has b hi ≡ true → lo ≤ hi → Both
between b lo hi p q le = record {
  range = bounded lo hi le ((has_parts b hi q).0);
  bits = outside lo (open_between b lo hi);
  least = agrees_has (outside lo (open_between b lo hi)) lo (in_outside lo (open_between b lo hi) lo ((has_parts b lo p).0) (λ i l e. refl));
  greatest = agrees_has (outside lo (open_between b lo hi)) hi (upper_word b lo hi p q);
  tight = tight_between b lo hi;
}

pub least_has : (b : Bits) → bits_has b b.value ≡ true
least_has b = agrees_has b b.value (least_agrees b)

pub greatest_has : (b : Bits) → bits_has b (b.value + b.loose) ≡ true
greatest_has b = agrees_has b (b.value + b.loose) (greatest_agrees b)

pub in_order : (b : Bits) → b.value ≤ b.value + b.loose
in_order b = omega arith

-- all words of a set of known bits
abbrev pub whole : Bits → Both
whole b = between b b.value (b.value + b.loose) (least_has b) (greatest_has b) (in_order b)

-- the words of a set that lie next to the bounds of a range, from inside
abbrev pub Least : Bits → ℕ → Type 0
Least b bound = ((u : ℕ) → bits_has b u ≡ true → u < bound) ⊎ ((v : ℕ) × IsLeastFrom b bound v)

abbrev pub Greatest : Bits → ℕ → Type 0
Greatest b bound = ((u : ℕ) → bits_has b u ≡ true → u ≤ bound → ⊥) ⊎ ((v : ℕ) × IsGreatestTo b bound v)

pub least_of : (b : Bits) (bound : ℕ) → Least b bound
least_of b bound = elim (option_cases (least_word b bound)) [ inl e ↦ inl (least_none b bound e) | inr (v, e) ↦ inr (v, least_some b bound v e) ]

pub greatest_of : (b : Bits) (bound : ℕ) → Greatest b bound
greatest_of b bound = elim (option_cases (greatest_word b bound)) [ inl e ↦ inl (greatest_none b bound e) | inr (v, e) ↦ inr (v, greatest_some b bound v e) ]

abbrev pub if_ordered : (b : Bits) (lo hi : ℕ) → bits_has b lo ≡ true → bits_has b hi ≡ true → (hi < lo) ⊎ (lo ≤ hi) → Option Both
if_ordered b lo hi p q (inl apart) = None
if_ordered b lo hi p q (inr le) = Some (between b lo hi p q le)

abbrev pub from_ends : (b : Bits) (lo hi : ℕ) → Least b lo → Greatest b hi → Option Both
from_ends b lo hi (inl none) g = None
from_ends b lo hi (inr l) (inl none) = None
from_ends b lo hi (inr l) (inr g) = if_ordered b l.0 g.0 l.1.has g.1.has (cases_lt g.0 l.0)

-- the words that a range and a set of known bits have in common, if there are any
abbrev pub reduced : Range → Bits → Option Both
reduced r b = from_ends b r.lo r.hi (least_of b r.lo) (greatest_of b r.hi)

abbrev pub reduced_if : Option Range → Option Bits → Option Both
reduced_if (Some r) (Some b) = reduced r b
reduced_if (Some r) None = None
reduced_if None b = None

abbrev pub both_meet : Both → Both → Option Both
both_meet a b = reduced_if (range_meet a.range b.range) (bits_meet a.bits b.bits)

abbrev pub both_sets : Sets Both
both_sets = record { has = both_has; unknown = whole all_open; exact = λ v. whole (all_known v); meet = both_meet; as_exact = λ a. range_exact a.range; lo = λ a. a.range.lo; hi = λ a. a.range.hi }

-- two words of a set that differ in a bit
pub record Differ (a : Both) (i : ℕ) : Type 0 where
  pub one : ℕ
  pub other : ℕ
  pub has_one : both_has a one ≡ true
  pub has_other : both_has a other ≡ true
  pub differ : bit_at one i ≢ bit_at other i

-- what a reduced set of common words is
pub record IsReduced (r : Range) (b : Bits) (a : Both) : Type 0 where
  -- it has the common words, and no others
  pub common : (v : ℕ) → (both_has a v ≡ true) ↔ ((range_has r v ≡ true) × (bits_has b v ≡ true))
  -- its range ends in two of them
  pub lowest : both_has a a.range.lo ≡ true
  pub highest : both_has a a.range.hi ≡ true
  -- a bit is open exactly where two of them differ
  pub free : (i : ℕ) → i < 32 → (bit_at a.bits.loose i ≡ 1) ↔ Differ a i
