-- Known bytes one by one, and pairs of digits.
use Rattle.std.proofs.Common.{◌≡◌, ℕ, suc, ◌+◌, ◌-◌, ◌<◌, ◌≤◌, List, [], ◌∷◌, ◌++◌, map, length, drop, get_or, arith, refl, sym, ◌∙◌, ap, append_assoc, drop-cons}
use Rattle.std.proofs.Math.ListN.{drop_of_length-le}
use Rattle.std.proofs.lemmas.List.{append-nil}
use Rattle.std.specs.Prelude.{Option, None, Some, option_map}
use Rattle.std.specs.List.{range_with_len}
use Rattle.rept_remote.specs.Escapes.{digits_value}
use Rattle.rept_stub.specs.Replies.{decoded, known_run, with_first}
use Rattle.rept_remote.proofs.MovesLemmas.Ranges.{range_front}

module _ (byte : ℕ → Option ℕ) (whole text : List ℕ) (i n : ℕ) (more : i < n) (so_far : whole ≡ text ++ known_run (map byte (range_with_len i (n - i)))) where
  front : whole ≡ text ++ known_run (byte i ∷ map byte (range_with_len (i + 1) (n - (i + 1))))
  front = so_far ∙ ap (λ r. text ++ known_run (map byte r)) (range_front i n more)

  -- one known byte more
  pub known_more : (b : ℕ) → byte i ≡ Some b → whole ≡ (text ++ b ∷ []) ++ known_run (map byte (range_with_len (i + 1) (n - (i + 1))))
  known_more b e = front ∙ ap (λ o. text ++ known_run (o ∷ map byte (range_with_len (i + 1) (n - (i + 1))))) e ∙ sym (append_assoc text (b ∷ []) _)

  -- a byte that isn't known
  pub known_ends : byte i ≡ None → text ≡ whole
  known_ends e = sym (front ∙ ap (λ o. text ++ known_run (o ∷ map byte (range_with_len (i + 1) (n - (i + 1))))) e ∙ append-nil text)

one_more : (items : List ℕ) (byte : ℕ) (found : Option (List ℕ)) → option_map (λ more. items ++ more) (with_first (Some byte) found) ≡ option_map (λ more. (items ++ byte ∷ []) ++ more) found
one_more items byte None = refl
one_more items byte (Some more) = ap Some (sym (append_assoc items (byte ∷ []) more))

two_front : (digits : List ℕ) (i : ℕ) → i + 1 < length digits → drop i digits ≡ get_or digits i 0 ∷ get_or digits (i + 1) 0 ∷ drop (i + 2) digits
two_front digits i h =
    let j : i + 2 ≡ suc (i + 1) = omega arith in
    let k : i + 1 ≡ suc i = omega arith in
    drop-cons digits i 0 (omega arith) ∙ ap (λ rest. get_or digits i 0 ∷ rest) (ap (λ n. drop n digits) (sym k) ∙ drop-cons digits (i + 1) 0 h ∙ ap (λ n. get_or digits (i + 1) 0 ∷ drop n digits) (sym j))

module _ (digits items : List ℕ) (i : ℕ) (more : i + 1 < length digits) (so_far : decoded digits ≡ option_map (λ rest. items ++ rest) (decoded (drop i digits))) where
  here : decoded digits ≡ option_map (λ rest. items ++ rest) (with_first (digits_value (get_or digits i 0) (get_or digits (i + 1) 0)) (decoded (drop (i + 2) digits)))
  here = so_far ∙ ap (λ w. option_map (λ rest. items ++ rest) (decoded w)) (two_front digits i more)

  -- one pair more
  pub pair_more : (byte : ℕ) → digits_value (get_or digits i 0) (get_or digits (i + 1) 0) ≡ Some byte → decoded digits ≡ option_map (λ rest. (items ++ byte ∷ []) ++ rest) (decoded (drop (i + 2) digits))
  pair_more byte e = here ∙ ap (λ o. option_map (λ rest. items ++ rest) (with_first o (decoded (drop (i + 2) digits)))) e ∙ one_more items byte (decoded (drop (i + 2) digits))

  -- a pair that is no byte
  pub pair_ends : digits_value (get_or digits i 0) (get_or digits (i + 1) 0) ≡ None → decoded digits ≡ None
  pair_ends e = here ∙ ap (λ o. option_map (λ rest. items ++ rest) (with_first o (decoded (drop (i + 2) digits)))) e

-- one digit is left
pub odd_ends : (digits items : List ℕ) (i : ℕ) → length digits ≤ i + 1 → i < length digits → decoded digits ≡ option_map (λ rest. items ++ rest) (decoded (drop i digits)) → decoded digits ≡ None
odd_ends digits items i h k e = e ∙ ap (λ w. option_map (λ rest. items ++ rest) (decoded w)) (drop-cons digits i 0 k ∙ ap (λ w. get_or digits i 0 ∷ w) (drop_of_length-le digits {i = suc i} (omega arith)))

-- three texts after another one
pub framed : (old name value last one two three : List ℕ) → one ≡ old ++ name → two ≡ one ++ value → three ≡ two ++ last → three ≡ old ++ (name ++ value ++ last)
framed old name value last one two three e f g =
    g ∙ ap (λ t. t ++ last) (f ∙ ap (λ t. t ++ value) e ∙ append_assoc old name value) ∙ append_assoc old (name ++ value) last
