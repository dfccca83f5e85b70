-- What is written is read back.
use Rattle.std.proofs.Common.{◌≡◌, ℕ, ◌/◌, ◌%◌, ◌^◌, ◌<◌, List, [], ◌∷◌, ◌++◌, Bool, true, false, arith, refl, sym, ◌∙◌, ap, subst}
use Rattle.std.proofs.lemmas.Bool.{eqb-true, eq-eqb}
use Rattle.std.proofs.lemmas.Bool.Decides.{nat_tests}
use Rattle.std.proofs.lemmas.List.Folds.{list_any-append}
use Rattle.std.specs.Prelude.{Option, Some, option_map, nat_eq}
use Rattle.rept_word.specs.Hex.{hex_digit}
use Rattle.rept_remote.specs.Escapes.{checksum, digit_value, digits_value, escape, escaped, packet_of, unescaped}
use Rattle.rept_remote.specs.Frames.{CarriesBytes, has_end, is_checked}
use Rattle.rept_remote.proofs.Escaping.{plain}

-- what stands for a byte is read as that byte, and has no `#`
record Stands (byte : ℕ) : Type 0 where
  reads : (rest : List ℕ) → unescaped (escape byte ++ rest) ≡ option_map (λ more. byte ∷ more) (unescaped rest)
  no_end : has_end (escape byte) ≡ false

number : Stands 35
number = record { reads = λ rest. refl; no_end = refl }

dollar : Stands 36
dollar = record { reads = λ rest. refl; no_end = refl }

star : Stands 42
star = record { reads = λ rest. refl; no_end = refl }

brace : Stands 125
brace = record { reads = λ rest. refl; no_end = refl }

module _ (byte : ℕ) where
  itself : nat_eq byte 35 ≡ false → nat_eq byte 36 ≡ false → nat_eq byte 42 ≡ false → nat_eq byte 125 ≡ false → Stands byte
  itself a b c d = record { reads = λ rest. rw (a, b, c, d) (plain byte rest d); no_end = rw (a, b, c, d) (rw a refl) }

  by_brace : (t : Bool) → nat_eq byte 125 ≡ t → nat_eq byte 35 ≡ false → nat_eq byte 36 ≡ false → nat_eq byte 42 ≡ false → Stands byte
  by_brace true e a b c = subst Stands (sym (eqb-true byte 125 e)) brace
  by_brace false e a b c = itself a b c e

  by_star : (t : Bool) → nat_eq byte 42 ≡ t → nat_eq byte 35 ≡ false → nat_eq byte 36 ≡ false → Stands byte
  by_star true e a b = subst Stands (sym (eqb-true byte 42 e)) star
  by_star false e a b = by_brace (nat_eq byte 125) refl a b e

  by_dollar : (t : Bool) → nat_eq byte 36 ≡ t → nat_eq byte 35 ≡ false → Stands byte
  by_dollar true e a = subst Stands (sym (eqb-true byte 36 e)) dollar
  by_dollar false e a = by_star (nat_eq byte 42) refl a e

  by_number : (t : Bool) → nat_eq byte 35 ≡ t → Stands byte
  by_number true e = subst Stands (sym (eqb-true byte 35 e)) number
  by_number false e = by_dollar (nat_eq byte 36) refl e

  stands : Stands byte
  stands = by_number (nat_eq byte 35) refl

reads_back : (bytes : List ℕ) → unescaped (escaped bytes) ≡ Some bytes
reads_back [] = refl
reads_back (byte ∷ bytes) = (stands byte).reads (escaped bytes) ∙ ap (option_map (λ more. byte ∷ more)) (reads_back bytes)

no_end : (bytes : List ℕ) → has_end (escaped bytes) ≡ false
no_end [] = refl
no_end (byte ∷ bytes) = rw (list_any-append, (stands byte).no_end, no_end bytes) refl

-- a digit that is written is read as its value
digit : (d : ℕ) → d < 16 → digit_value (hex_digit d) ≡ Some d
digit d h = grind (arith, nat_tests)

two_digits : (n : ℕ) → n < 256 → digits_value (hex_digit (n / 2 ^ 4 % 16)) (hex_digit (n / 2 ^ 0 % 16)) ≡ Some n
two_digits n h = rw (digit (n / 2 ^ 4 % 16) (omega arith), digit (n / 2 ^ 0 % 16) (omega arith)) (ap Some (omega arith))

checked : (n : ℕ) (found : Option ℕ) → found ≡ Some n → (body : List ℕ) → n ≡ checksum body → is_checked body found ≡ true
checked n found e body h = rw e (eq-eqb n (checksum body) h)

pub carries : (reply : List ℕ) → CarriesBytes (packet_of reply) reply
carries reply =
    let n = checksum (escaped reply) in
    record {
      body = escaped reply;
      high = hex_digit (n / 2 ^ 4 % 16);
      low = hex_digit (n / 2 ^ 0 % 16);
      parts = refl;
      plain = no_end reply;
      checked = checked n (digits_value (hex_digit (n / 2 ^ 4 % 16)) (hex_digit (n / 2 ^ 0 % 16))) (two_digits n (omega arith)) (escaped reply) refl;
      stands = reads_back reply;
    }
