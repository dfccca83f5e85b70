-- Pairs of bytes that stand for one, byte by byte.
use Rattle.std.proofs.Common.{◌≡◌, ℕ, ◌+◌, ◌≤◌, List, [], ◌∷◌, ◌++◌, length, Bool, true, false, append_assoc, arith, refl, sym, ◌∙◌, ap, subst, length-append}
use Rattle.std.proofs.lemmas.Bool.{eqb-true}
use Rattle.std.proofs.lemmas.List.{append-nil}
use Rattle.std.specs.Int.Bits.{bit_xor}
use Rattle.std.specs.Prelude.{Option, None, Some, option_map, nat_eq, MatchBool}
use Rattle.rept_ports.specs.Port.{move}
use Rattle.rept_remote.specs.Escapes.{unescaped}
use Rattle.rept_remote.specs.Steps.{UnescapesByte}

-- the bytes that are left, with the first one of a pair
abbrev pub pending : Bool → List ℕ → List ℕ
pending true rest = 125 ∷ rest
pending false rest = rest

-- those are what stand for the rest of what the whole stands for
pub record SoFar (whole items : List ℕ) (is_escaped : Bool) (rest : List ℕ) : Type 0 where
  pub onward : unescaped whole ≡ option_map (λ more. items ++ more) (unescaped (pending is_escaped rest))

nothing_before : (found : Option (List ℕ)) → found ≡ option_map (λ more. [] ++ more) found
nothing_before None = refl
nothing_before (Some more) = refl

pub at_start : (whole : List ℕ) → SoFar whole [] false whole
at_start whole = record { onward = nothing_before (unescaped whole) }

one_more : (items : List ℕ) (byte : ℕ) (found : Option (List ℕ)) → option_map (λ more. items ++ more) (option_map (λ rest. byte ∷ rest) found) ≡ option_map (λ more. (items ++ byte ∷ []) ++ more) found
one_more items byte None = refl
one_more items byte (Some more) = ap Some (sym (append_assoc items (byte ∷ []) more))

pub plain : (byte : ℕ) (rest : List ℕ) → nat_eq byte 125 ≡ false → unescaped (byte ∷ rest) ≡ option_map (λ more. byte ∷ more) (unescaped rest)
plain byte [] h = rw h refl
plain byte (next ∷ rest) h = rw h refl

module _ (whole items : List ℕ) (byte : ℕ) (rest : List ℕ) where
  -- a byte that stands for itself
  pushed : nat_eq byte 125 ≡ false → SoFar whole items false (byte ∷ rest) → SoFar whole (items ++ byte ∷ []) false rest
  pushed h so_far = record { onward = so_far.onward ∙ ap (option_map (λ more. items ++ more)) (plain byte rest h) ∙ one_more items byte (unescaped rest) }

  -- the second byte of a pair
  pushed_second : SoFar whole items true (byte ∷ rest) → SoFar whole (items ++ bit_xor byte 32 ∷ []) false rest
  pushed_second so_far = record { onward = so_far.onward ∙ one_more items (bit_xor byte 32) (unescaped rest) }

  -- the first byte of a pair
  paired : nat_eq byte 125 ≡ true → SoFar whole items false (byte ∷ rest) → SoFar whole items true rest
  paired h so_far = record { onward = subst (λ first. unescaped whole ≡ option_map (λ more. items ++ more) (unescaped (first ∷ rest))) (eqb-true byte 125 h) so_far.onward }

  by_byte : (first : Bool) (items' : List ℕ) (escaped' : Bool) → nat_eq byte 125 ≡ first → MatchBool first ((items' ≡ items) × (escaped' ≡ true)) ((items' ≡ items ++ byte ∷ []) × (escaped' ≡ false)) → SoFar whole items false (byte ∷ rest) → SoFar whole items' escaped' rest
  by_byte true items' escaped' e h so_far = rw (h.0, h.1) (paired e so_far)
  by_byte false items' escaped' e h so_far = rw (h.0, h.1) (pushed e so_far)

  -- one byte more
  pub stood : (is_escaped : Bool) (items' : List ℕ) (escaped' : Bool) → UnescapesByte is_escaped byte (move items items') escaped' → SoFar whole items is_escaped (byte ∷ rest) → SoFar whole items' escaped' rest
  stood true items' escaped' h so_far = rw (h.0, h.1) (pushed_second so_far)
  stood false items' escaped' h so_far = by_byte (nat_eq byte 125) items' escaped' refl h so_far

count_by_byte : (first : Bool) (items items' : List ℕ) (byte : ℕ) (escaped' : Bool) → MatchBool first ((items' ≡ items) × (escaped' ≡ true)) ((items' ≡ items ++ byte ∷ []) × (escaped' ≡ false)) → length items' ≤ length items + 1
count_by_byte true items items' byte escaped' h = omega (arith, ap length h.0)
count_by_byte false items items' byte escaped' h = omega (arith, ap length h.0, length-append items (byte ∷ []))

pub one_at_most : (is_escaped : Bool) (items items' : List ℕ) (byte : ℕ) (escaped' : Bool) → UnescapesByte is_escaped byte (move items items') escaped' → length items' ≤ length items + 1
one_at_most true items items' byte escaped' h = omega (arith, ap length h.0, length-append items (bit_xor byte 32 ∷ []))
one_at_most false items items' byte escaped' h = count_by_byte (nat_eq byte 125) items items' byte escaped' h

-- at the end
pub over : (whole items : List ℕ) (is_escaped : Bool) → SoFar whole items is_escaped [] → MatchBool is_escaped (unescaped whole ≡ None) (unescaped whole ≡ Some items)
over whole items true so_far = so_far.onward
over whole items false so_far = so_far.onward ∙ ap Some (append-nil items)
