-- The words of a line, one after the other.
use Rattle.std.proofs.Common.{◌≡◌, ℕ, zero, suc, ◌+◌, ◌<◌, ◌≤◌, List, [], ◌∷◌, length, take, drop, Bool, true, false, not, Some, None, cond, refl, sym, ap, subst, ◌∙◌, arith, nat_lt}
use Rattle.std.proofs.lemmas.List.{length-drop, length-take}
use Rattle.std.proofs.lemmas.List.Splits.{length-slice_split, slice_split_first, slice_split-cons_no}
use Rattle.std.proofs.lemmas.List.Sums.{length-filter, count_by-le-length}
use Rattle.std.specs.List.{position, position_or_len, slice_split, onto_first, filter}
use borrow.Author.Tests.{ltb-true, ltb-false}
use Rattle.rept_session.specs.Words.{is_blank, is_letter, is_some_part, words_in}

module _ (p : ℕ → Bool) (text : List ℕ) where
  abbrev n : ℕ
  n = position_or_len p text

  at_place : (e : ℕ) (b : Bool) → nat_lt n (length text) ≡ b → Some e ≡ cond b (Some n) None → (n < length text) × (e ≡ n)
  at_place e true inside is = (ltb-true n (length text) inside, let same : e ≡ n = cc in same)
  at_place e false inside is = let bad : ⊥ = cc in absurd bad

  at_none : (b : Bool) → nat_lt n (length text) ≡ b → None ≡ cond b (Some n) None → length text ≤ n
  at_none true inside is = let bad : ⊥ = cc in absurd bad
  at_none false inside is = let h = ltb-false n (length text) inside in omega arith

  pub found_at : (e : ℕ) → Some e ≡ position p text → (n < length text) × (e ≡ n)
  found_at e is = at_place e (nat_lt n (length text)) refl is

  pub nowhere : None ≡ position p text → length text ≤ n
  nowhere is = at_none (nat_lt n (length text)) refl is

-- where the first byte passes, that is the place; else it is one place after that in the rest
first_is : (p : ℕ → Bool) (x : ℕ) (xs : List ℕ) → p x ≡ true → position_or_len p (x ∷ xs) ≡ 0
first_is p x xs e = ap (λ (b : Bool). cond (not b) (1 + position_or_len p xs) 0) e

first_not : (p : ℕ → Bool) (x : ℕ) (xs : List ℕ) → p x ≡ false → position_or_len p (x ∷ xs) ≡ suc (position_or_len p xs)
first_not p x xs e = let same : 1 + position_or_len p xs ≡ suc (position_or_len p xs) = omega arith in ap (λ (b : Bool). cond (not b) (1 + position_or_len p xs) 0) e ∙ same

-- blanks in front are no part of a word
blanks_before : (text : List ℕ) → words_in text ≡ words_in (drop (position_or_len is_letter text) text)
blanks_before [] = refl
blanks_before (x ∷ xs) = by_test (is_blank x) refl (blanks_before xs)
  where
    by_test : (b : Bool) → is_blank x ≡ b → words_in xs ≡ words_in (drop (position_or_len is_letter xs) xs) → words_in (x ∷ xs) ≡ words_in (drop (position_or_len is_letter (x ∷ xs)) (x ∷ xs))
    by_test true e k =
        rw (first_not is_letter x xs (ap not e)) (ap (λ (b : Bool). filter is_some_part (cond b ([] ∷ slice_split is_blank xs) (onto_first x (slice_split is_blank xs)))) e ∙ k)
    by_test false e k = rw (first_is is_letter x xs (ap not e)) refl

-- a text without words
pub no_words : (text : List ℕ) → None ≡ position is_letter text → words_in text ≡ []
no_words text none = blanks_before text ∙ ap words_in (all_dropped (position_or_len is_letter text) text (nowhere is_letter text none))
  where
    all_dropped : (k : ℕ) (xs : List ℕ) → length xs ≤ k → drop k xs ≡ []
    all_dropped zero [] h = refl
    all_dropped (suc k) [] h = refl
    all_dropped zero (x ∷ xs) h = absurd (omega arith)
    all_dropped (suc k) (x ∷ xs) h = all_dropped k xs (omega arith)

-- a text that begins with a letter has no empty first word
begins : (text : List ℕ) → position_or_len is_letter text < length text → 0 < position_or_len is_blank (drop (position_or_len is_letter text) text)
begins [] h = absurd (omega arith)
begins (x ∷ xs) h = by_test (is_blank x) refl (λ inside. begins xs inside)
  where
    by_test : (b : Bool) → is_blank x ≡ b → (position_or_len is_letter xs < length xs → 0 < position_or_len is_blank (drop (position_or_len is_letter xs) xs)) → 0 < position_or_len is_blank (drop (position_or_len is_letter (x ∷ xs)) (x ∷ xs))
    by_test true e k =
        let more = first_not is_letter x xs (ap not e) in
        let inside : position_or_len is_letter xs < length xs = omega (arith, more, h) in
        rw more (k inside)
    by_test false e k =
        let more = first_not is_blank x xs e in
        rw (first_is is_letter x xs (ap not e)) (omega (arith, more))

some_part : (part : List ℕ) (parts : List (List ℕ)) → 0 < length part → filter is_some_part (part ∷ parts) ≡ part ∷ filter is_some_part parts
some_part [] parts h = absurd (omega arith)
some_part (x ∷ xs) parts h = refl

no_blank : (x : ℕ) (xs : List ℕ) (b : Bool) → is_blank x ≡ b → length (x ∷ xs) ≤ position_or_len is_blank (x ∷ xs) → (b ≡ false) × (length xs ≤ position_or_len is_blank xs)
no_blank x xs true e h = let none = first_is is_blank x xs e in absurd (omega (arith, none, h))
no_blank x xs false e h = let more = first_not is_blank x xs e in (refl, omega (arith, more, h))

-- a text without blanks is one part
one_part : (text : List ℕ) → length text ≤ position_or_len is_blank text → slice_split is_blank text ≡ text ∷ []
one_part [] none = refl
one_part (x ∷ xs) none =
    let at = no_blank x xs (is_blank x) refl none in
    slice_split-cons_no is_blank x xs at.0 ∙ ap (onto_first x) (one_part xs at.1)

-- `rest` is the text from its first letter on
module _ (text rest : List ℕ) (start : ℕ) (found : Some start ≡ position is_letter text) (from : rest ≡ drop start text) where
  abbrev e : ℕ
  e = position_or_len is_blank rest

  here : rest ≡ drop (position_or_len is_letter text) text
  here = from ∙ ap (λ k. drop k text) (found_at is_letter text start found).1

  some : 0 < e
  some = subst (λ (r : List ℕ). 0 < position_or_len is_blank r) (sym here) (begins text (found_at is_letter text start found).0)

  same_words : words_in text ≡ words_in rest
  same_words = blanks_before text ∙ ap words_in (sym here)

  -- its first word ends at the first blank
  pub word_ends : (end : ℕ) → Some end ≡ position is_blank rest → words_in text ≡ take end rest ∷ words_in (drop (end + 1) rest)
  word_ends end at =
      let place = found_at is_blank rest end at in
      let long : 0 < length (take e rest) = omega (arith, some, place.0, length-take e rest) in
      same_words ∙ ap (filter is_some_part) (slice_split_first is_blank rest 0 place.0) ∙ some_part (take e rest) (slice_split is_blank (drop (e + 1) rest)) long
      ∙ ap (λ (k : ℕ). take k rest ∷ words_in (drop (k + 1) rest)) (sym place.1)

  -- or it is the last one
  pub last_word : None ≡ position is_blank rest → words_in text ≡ rest ∷ []
  last_word none =
      let short = nowhere is_blank rest none in
      let inside = (found_at is_letter text start found).0 in
      same_words ∙ ap (filter is_some_part) (one_part rest short) ∙ some_part rest [] (not_empty inside)
    where
      left : (k : ℕ) (xs : List ℕ) → k < length xs → 0 < length (drop k xs)
      left k xs h = omega (arith, length-drop k xs)

      not_empty : position_or_len is_letter text < length text → 0 < length rest
      not_empty h = subst (λ (r : List ℕ). 0 < length r) (sym here) (left (position_or_len is_letter text) text h)

-- a text has at most one word more than bytes
pub few_words : (text : List ℕ) → length (words_in text) ≤ length text + 1
few_words text =
    let parts = slice_split is_blank text in
    omega (arith, length-filter is_some_part parts, count_by-le-length is_some_part parts, length-slice_split is_blank text, count_by-le-length is_blank text)
