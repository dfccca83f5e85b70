-- What stands between zero bytes, part by part.
use Rattle.std.proofs.Common.{◌≡◌, ℕ, ◌+◌, ◌<◌, ◌≤◌, List, [], ◌∷◌, length, drop, take, get_or, Bool, true, false, cond, arith, refl, sym, ◌∙◌, ap, subst, rules, length-drop}
use Rattle.std.proofs.lemmas.List.{drop-drop, get_or-drop}
use Rattle.std.proofs.lemmas.List.Splits.{slice_split_first, slice_split_none, length-slice_split}
use Rattle.std.proofs.lemmas.List.Sums.{fails_before_first}
use Rattle.std.specs.Prelude.{Some, None, ◌==◌, nat_lt}
use Rattle.std.specs.List.{position, position_or_len}
use Rattle.std.specs.Str.{IsUtf8, is_utf8}
use Rattle.std.proofs.lemmas.Str.{IsUtf8-from_is_utf8}
use Rattle.rept_maps.specs.FileMap.{parts, names, map_count}

abbrev is_zero : ℕ → Bool
is_zero b = b == 0

some_same : {X : Type 0} {x y : X} → Some x ≡ Some y → x ≡ y
some_same e = cc

-- a zero byte ends the first part
pub part_ended : (bytes : List ℕ) (end : ℕ) → Some end ≡ position is_zero bytes → parts bytes ≡ take end bytes ∷ parts (drop (end + 1) bytes)
part_ended bytes end h = either (nat_lt (position_or_len is_zero bytes) (length bytes)) refl h
  where
    either : (b : Bool) → nat_lt (position_or_len is_zero bytes) (length bytes) ≡ b → Some end ≡ cond b (Some (position_or_len is_zero bytes)) None → parts bytes ≡ take end bytes ∷ parts (drop (end + 1) bytes)
    either true e k =
        let inside : position_or_len is_zero bytes < length bytes = search rules in
        subst (λ n. parts bytes ≡ take n bytes ∷ parts (drop (n + 1) bytes)) (sym (some_same k)) (slice_split_first is_zero bytes 0 inside)
    either false e k = cc

-- without a zero byte there is one part
pub part_alone : (bytes : List ℕ) → None ≡ position is_zero bytes → length (parts bytes) ≡ 1
part_alone bytes h = either (nat_lt (position_or_len is_zero bytes) (length bytes)) refl h
  where
    either : (b : Bool) → nat_lt (position_or_len is_zero bytes) (length bytes) ≡ b → None ≡ cond b (Some (position_or_len is_zero bytes)) None → length (parts bytes) ≡ 1
    either true e k = cc
    either false e k =
        let all : length bytes ≤ position_or_len is_zero bytes = search rules in
        ap length (slice_split_none is_zero bytes (λ i d l. fails_before_first is_zero bytes i d (omega (arith, l, all))))

-- there is a part
pub some_part : (bytes : List ℕ) → 1 ≤ length (parts bytes)
some_part bytes = omega (arith, length-slice_split is_zero bytes)

-- the parts from an index on, of which the first has an end
pub next_left : (desc rest rest' name : List ℕ) (i : ℕ) → drop i (names desc) ≡ parts rest → parts rest ≡ name ∷ parts rest' → drop (i + 1) (names desc) ≡ parts rest'
next_left desc rest rest' name i left first = sym (drop-drop 1 i (names desc)) ∙ ap (drop 1) (left ∙ first)

-- it is the name of that index
pub name_here : (desc rest rest' name : List ℕ) (i : ℕ) → drop i (names desc) ≡ parts rest → parts rest ≡ name ∷ parts rest' → get_or (names desc) i [] ≡ name
name_here desc rest rest' name i left first =
    let here : i + 0 ≡ i = omega arith in
    ap (λ k. get_or (names desc) k []) (sym here) ∙ sym (get_or-drop i (names desc) 0 []) ∙ ap (λ (xs : List (List ℕ)). get_or xs 0 []) (left ∙ first)

-- a name of the map has an end
pub name_ends : (desc rest : List ℕ) (i : ℕ) → drop i (names desc) ≡ parts rest → i < map_count desc → length (parts rest) ≡ 1 → map_count desc < length (names desc) → ⊥
name_ends desc rest i left inside one ended = omega (arith, ap length left, length-drop i (names desc), inside, one, ended)

-- after the last name a part is left
pub all_end : (desc rest : List ℕ) (i : ℕ) → drop i (names desc) ≡ parts rest → i < length (names desc)
all_end desc rest i left = omega (arith, ap length left, length-drop i (names desc), some_part rest)

-- bytes that aren't text don't pass the test
pub no_text : (bytes : List ℕ) → (IsUtf8 bytes → ⊥) → false ≡ is_utf8 bytes
no_text bytes refutes = either (is_utf8 bytes) refl
  where
    either : (b : Bool) → is_utf8 bytes ≡ b → false ≡ b
    either true e = absurd (refutes (IsUtf8-from_is_utf8 bytes e))
    either false e = refl
