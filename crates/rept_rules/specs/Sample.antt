-- A view for the tests: three registers and the four bytes at 0x20000, as far as they are known.
use Rattle.std.specs.Prelude.{◌≡◌, ℕ, ◌-◌, ◌%◌, ◌^◌, ◌<◌, ◌==◌, nat_lt, nat_le, ◌&&◌, if◌then◌else◌, Option, Some, None, refl, Bool, true, false}
use Rattle.std.proofs.Common.{arith, sym, subst}
use Rattle.rept_partial.specs.declared.range.Range.{Range}
use Rattle.rept_partial.specs.declared.flat.Flat.{Flat}
use Rattle.rept_partial.specs.declared.flat.Flat.TheVariants.{Unknown, Known}
use Rattle.rept_partial.specs.Ranges.{from_to}
use Rattle.rept_reason.specs.Facts.{flat}
use Rattle.rept_machine.specs.Arithmetic.{byte_of}
use Rattle.rept_reason.specs.declared.view.inferred.When.{When}
use Rattle.rept_reason.specs.declared.view.inferred.When.TheVariants.{Before, After}
use Rattle.rept_reason.specs.View.Seen.{Seen, IsLawful}

-- x5 and x6 before the row, x7 after it, and the words of the bytes before and after it
pub record SampleShown : Type 0 where
  pub first : Option ℕ
  pub second : Option ℕ
  pub outcome : Option ℕ
  pub before : Option ℕ
  pub after : Option ℕ

abbrev pub as_word : Option ℕ → Option ℕ
as_word None = None
as_word (Some v) = Some (v % 2 ^ 32)

abbrev pub register_before : Option ℕ → Option ℕ → ℕ → Option ℕ
register_before first second r = if r == 0 then Some 0 else if r == 5 then as_word first else if r == 6 then as_word second else None

abbrev pub register_after : Option ℕ → ℕ → Option ℕ
register_after outcome r = if r == 0 then Some 0 else if r == 7 then as_word outcome else None

abbrev pub register_shown : SampleShown → When → ℕ → Option ℕ
register_shown s Before r = register_before s.first s.second r
register_shown s After r = register_after s.outcome r

abbrev pub word_shown : SampleShown → When → Option ℕ
word_shown s Before = s.before
word_shown s After = s.after

-- a byte of the word at 0x20000
abbrev pub sample_byte : Option ℕ → ℕ → Option ℕ
sample_byte None a = None
sample_byte (Some w) a = if nat_le 131072 a && nat_lt a 131076 then Some (byte_of w (a - 131072)) else None

abbrev pub range_by : Flat → Range
range_by Unknown = from_to 0 4294967295
range_by (Known v) = from_to v v

abbrev pub shown : SampleShown → Seen
shown s = record { register = register_shown s; byte = λ when a. sample_byte (word_shown s when) a; range = λ when r. range_by (flat (register_shown s when r)) }

same_some : {x y : ℕ} → Some x ≡ Some y → x ≡ y
same_some e = cc

no_some : {x : ℕ} → None ≡ Some x → ⊥
no_some e = cc

word_small : (x : Option ℕ) (v : ℕ) → as_word x ≡ Some v → v < 2 ^ 32
word_small None v e = absurd (no_some e)
word_small (Some w) v e = let f = same_some e in omega (arith, f)

by_test : (b : Bool) (x y : Option ℕ) (v : ℕ) → ((w : ℕ) → x ≡ Some w → w < 2 ^ 32) → ((w : ℕ) → y ≡ Some w → w < 2 ^ 32) → (if b then x else y) ≡ Some v → v < 2 ^ 32
by_test true x y v f g e = f v e
by_test false x y v f g e = g v e

zero_small : (w : ℕ) → Some 0 ≡ Some w → w < 2 ^ 32
zero_small w e = let f = same_some e in omega (arith, f)

none_small : (w : ℕ) → None ≡ Some w → w < 2 ^ 32
none_small w e = absurd (no_some e)

shown_small : (s : SampleShown) (when : When) (r v : ℕ) → register_shown s when r ≡ Some v → v < 2 ^ 32
shown_small s Before r v e = by_test (r == 0) (Some 0) _ v zero_small (λ w. by_test (r == 5) (as_word s.first) _ w (word_small s.first) (λ u. by_test (r == 6) (as_word s.second) None u (word_small s.second) none_small)) e
shown_small s After r v e = by_test (r == 0) (Some 0) _ v zero_small (λ w. by_test (r == 7) (as_word s.outcome) None w (word_small s.outcome) none_small) e

exact_ends : (v : ℕ) → v < 2 ^ 32 → ((from_to v v).lo ≡ v) × ((from_to v v).hi ≡ v)
exact_ends v small = (grind (arith, small), omega (arith, small))

zero_shown : (s : SampleShown) (w : When) → register_shown s w 0 ≡ Some 0
zero_shown s Before = refl
zero_shown s After = refl

pub shown_lawful : (s : SampleShown) → IsLawful (shown s)
shown_lawful s = record { zero_known = zero_shown s; known = λ when r v e. subst (λ (x : Option ℕ). ((range_by (flat x)).lo ≡ v) × ((range_by (flat x)).hi ≡ v)) (sym e) (exact_ends v (shown_small s when r v e)) }
