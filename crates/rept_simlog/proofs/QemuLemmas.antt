-- The lines of a text, and what comes before and after a byte.
use Rattle.std.proofs.Common.{◌≡◌, ℕ, zero, suc, ◌+◌, ◌<◌, ◌≤◌, List, [], ◌∷◌, ◌++◌, length, take, drop, Bool, true, false, not, Option, Some, None, cond, refl, sym, ap, ◌∙◌, arith, nat_lt}
use Rattle.std.proofs.lemmas.List.{take_all, drop_all, length-drop, length-take-le}
use Rattle.std.proofs.lemmas.List.Splits.{slice_split_first, slice_split-cons_no}
use Rattle.std.specs.Prelude.{◌==◌, fold}
use Rattle.std.specs.List.{position, position_or_len, slice_split, onto_first}
use Rattle.rept_simlog.specs.Recording.Qemu.{PlainLines, all_lines, plain_log, with_line}
use borrow.Author.Tests.{ltb-true, ltb-false}

module _ (p : ℕ → Bool) (text : List ℕ) where
  abbrev n : ℕ
  n = position_or_len p text

  at_place : (e : ℕ) (b : Bool) → nat_lt n (length text) ≡ b → Some e ≡ cond b (Some n) None → (n < length text) × (e ≡ n)
  at_place e true inside is = (ltb-true n (length text) inside, let same : e ≡ n = cc in same)
  at_place e false inside is = let bad : ⊥ = cc in absurd bad

  at_none : (b : Bool) → nat_lt n (length text) ≡ b → None ≡ cond b (Some n) None → length text ≤ n
  at_none true inside is = let bad : ⊥ = cc in absurd bad
  at_none false inside is = let h = ltb-false n (length text) inside in omega arith

  pub found_at : (e : ℕ) → Some e ≡ position p text → (n < length text) × (e ≡ n)
  found_at e is = at_place e (nat_lt n (length text)) refl is

  pub nowhere : None ≡ position p text → length text ≤ n
  nowhere is = at_none (nat_lt n (length text)) refl is

first_is : (p : ℕ → Bool) (x : ℕ) (xs : List ℕ) → p x ≡ true → position_or_len p (x ∷ xs) ≡ 0
first_is p x xs e = ap (λ (b : Bool). cond (not b) (1 + position_or_len p xs) 0) e

first_not : (p : ℕ → Bool) (x : ℕ) (xs : List ℕ) → p x ≡ false → position_or_len p (x ∷ xs) ≡ suc (position_or_len p xs)
first_not p x xs e = let same : 1 + position_or_len p xs ≡ suc (position_or_len p xs) = omega arith in ap (λ (b : Bool). cond (not b) (1 + position_or_len p xs) 0) e ∙ same

passes_none : (p : ℕ → Bool) (x : ℕ) (xs : List ℕ) (b : Bool) → p x ≡ b → length (x ∷ xs) ≤ position_or_len p (x ∷ xs) → (b ≡ false) × (length xs ≤ position_or_len p xs)
passes_none p x xs true e h = let none = first_is p x xs e in absurd (omega (arith, none, h))
passes_none p x xs false e h = let more = first_not p x xs e in (refl, omega (arith, more, h))

one_part : (p : ℕ → Bool) (text : List ℕ) → length text ≤ position_or_len p text → slice_split p text ≡ text ∷ []
one_part p [] none = refl
one_part p (x ∷ xs) none =
    let at = passes_none p x xs (p x) refl none in
    slice_split-cons_no p x xs at.0 ∙ ap (onto_first x) (one_part p xs at.1)

-- a text is its first line and those after it
pub line_ends : (p : ℕ → Bool) (text : List ℕ) (end : ℕ) → Some end ≡ position p text → slice_split p text ≡ take end text ∷ slice_split p (drop (end + 1) text)
line_ends p text end is =
    let place = found_at p text end is in
    slice_split_first p text 0 place.0 ∙ ap (λ (k : ℕ). take k text ∷ slice_split p (drop (k + 1) text)) (sym place.1)

-- or it is one line
pub last_line : (p : ℕ → Bool) (text : List ℕ) → None ≡ position p text → slice_split p text ≡ text ∷ []
last_line p text none = one_part p text (nowhere p text none)

pub before_found : (p : ℕ → Bool) (text : List ℕ) (end : ℕ) → Some end ≡ position p text → take end text ≡ take (position_or_len p text) text
before_found p text end is = ap (λ (k : ℕ). take k text) (found_at p text end is).1

pub before_none : (p : ℕ → Bool) (text : List ℕ) → None ≡ position p text → text ≡ take (position_or_len p text) text
before_none p text none = sym (take_all (position_or_len p text) text (nowhere p text none))

pub after_found : (p : ℕ → Bool) (text : List ℕ) (end : ℕ) → Some end ≡ position p text → drop (end + 1) text ≡ drop (position_or_len p text + 1) text
after_found p text end is = ap (λ (k : ℕ). drop (k + 1) text) (found_at p text end is).1

pub after_none : (p : ℕ → Bool) (text : List ℕ) → None ≡ position p text → [] ≡ drop (position_or_len p text + 1) text
after_none p text none = let far = nowhere p text none in sym (drop_all (position_or_len p text + 1) text (omega arith))

abbrev is_newline : ℕ → Bool
is_newline byte = byte == 10

-- what is read of a log, once its next line is
pub line_read : (log text line after : List ℕ) (old new : PlainLines) (end : ℕ) → plain_log log ≡ all_lines (fold with_line old (slice_split (λ byte. byte == 10) text)) → Some end ≡ position (λ byte. byte == 10) text → line ≡ take end text → after ≡ drop (end + 1) text → new ≡ with_line old line
    → plain_log log ≡ all_lines (fold with_line new (slice_split (λ byte. byte == 10) after))
line_read log text line after old new end before is cut rest next =
    before
    ∙ ap (λ (lines : List (List ℕ)). all_lines (fold with_line old lines)) (line_ends is_newline text end is)
    ∙ ap (λ (s : PlainLines). all_lines (fold with_line s (slice_split is_newline (drop (end + 1) text)))) (ap (λ (l : List ℕ). with_line old l) (sym cut) ∙ sym next)
    ∙ ap (λ (a : List ℕ). all_lines (fold with_line new (slice_split is_newline a))) (sym rest)

-- and once its last one is
pub all_read : (log text : List ℕ) (old new : PlainLines) → plain_log log ≡ all_lines (fold with_line old (slice_split (λ byte. byte == 10) text)) → None ≡ position (λ byte. byte == 10) text → new ≡ with_line old text → all_lines new ≡ plain_log log
all_read log text old new before none next =
    ap (λ (s : PlainLines). all_lines s) next
    ∙ ap (λ (lines : List (List ℕ)). all_lines (fold with_line old lines)) (sym (last_line is_newline text none))
    ∙ sym before

-- a line and what comes after it are shorter than the text
pub less_left : (text after : List ℕ) (end : ℕ) → end < length text → after ≡ drop (end + 1) text → length (take end text) + length after ≤ length text
less_left text after end inside rest =
    let line = length-take-le end text (omega arith) in
    let left = ap (length {A = ℕ}) rest ∙ length-drop (end + 1) text in
    omega arith
