-- A search among segments one segment on, with the addresses at which it goes alike.
use Rattle.std.proofs.Common.{◌≡◌, ℕ, ◌+◌, ◌<◌, ◌≤◌, List, [], ◌∷◌, length, drop, Bool, true, false, cond, arith, refl, sym, ◌∙◌, ap}
use Rattle.std.proofs.lemmas.List.{at_drop_all}
use Rattle.std.specs.Prelude.{Option, None, Some, slice_get}
use Rattle.std.specs.List.{find}
use Rattle.std.specs.Option.{option_map, option_or}
use Rattle.rept_elf.specs.Segments.{ElfSegment}
use Rattle.rept_dump.specs.Stretch.{Sought, fits, found_at}
use Rattle.rept_dump.proofs.SearchLemmas.{find-from}

-- at the addresses of the bounds, which have this one among them, the segments from an index on
-- decide
pub record Narrowed (sought : Sought) (a i from to : ℕ) : Type 0 where
  pub first : from ≤ a
  pub last : a < to
  pub left : (b : ℕ) → from ≤ b → b < to → found_at sought b ≡ find (fits sought b) (drop i sought.segments)

module _ (sought : Sought) (a i : ℕ) (s : ElfSegment) (at : slice_get sought.segments i ≡ Some s) where
  -- one segment on, at addresses at which it answers as at this one
  one_on : (from to from' to' b : ℕ) → Narrowed sought a i from to → from ≤ from' → to' ≤ to → from' ≤ b → b < to' → fits sought b s ≡ fits sought a s → found_at sought b ≡ cond (fits sought a s) (Some s) (find (fits sought b) (drop (i + 1) sought.segments))
  one_on from to from' to' b n low high p q alike = n.left b (omega arith) (omega arith) ∙ find-from (fits sought b) sought.segments i s at ∙ ap (λ x. cond x (Some s) (find (fits sought b) (drop (i + 1) sought.segments))) alike

  pub passed : (from to from' to' : ℕ) → Narrowed sought a i from to → from ≤ from' → to' ≤ to → from' ≤ a → a < to' → ((b : ℕ) → from' ≤ b → b < to' → fits sought b s ≡ fits sought a s) → fits sought a s ≡ false → Narrowed sought a (i + 1) from' to'
  passed from to from' to' n low high f l alike misses = record {
    first = f;
    last = l;
    left = λ b p q. one_on from to from' to' b n low high p q (alike b p q) ∙ ap (λ x. cond x (Some s) (find (fits sought b) (drop (i + 1) sought.segments))) misses;
  }

  pub found : (from to from' to' : ℕ) → Narrowed sought a i from to → from ≤ from' → to' ≤ to → ((b : ℕ) → from' ≤ b → b < to' → fits sought b s ≡ fits sought a s) → fits sought a s ≡ true → (b : ℕ) → from' ≤ b → b < to' → found_at sought b ≡ Some s
  found from to from' to' n low high alike hits b p q = one_on from to from' to' b n low high p q (alike b p q) ∙ ap (λ x. cond x (Some s) (find (fits sought b) (drop (i + 1) sought.segments))) hits

pub none_left : (sought : Sought) (a i from to : ℕ) → Narrowed sought a i from to → length sought.segments ≤ i → (b : ℕ) → from ≤ b → b < to → found_at sought b ≡ None
none_left sought a i from to n h b p q = n.left b p q ∙ at_drop_all (find (fits sought b)) sought.segments i h

passes : {X : Type 0} → (p : X → Bool) (xs : List X) (x : X) → find p xs ≡ Some x → p x ≡ true
passes p [] x h = cc
passes p (y ∷ ys) x h = either (p y) refl h (passes p ys x)
  where
    either : (b : Bool) → p y ≡ b → cond b (Some y) (find p ys) ≡ Some x → (find p ys ≡ Some x → p x ≡ true) → p x ≡ true
    either true e k later = grind (arith, e, k)
    either false e k later = later k

-- what is read where a segment is found
pub read_found : (p : ElfSegment → Bool) (read : ElfSegment → ℕ) (ss : List ElfSegment) (s : ElfSegment) (value : Option ℕ) → find p ss ≡ Some s → value ≡ cond (p s) (Some (read s)) None → value ≡ option_map read (find p ss)
read_found p read ss s value h e = e ∙ ap (λ b. cond b (Some (read s)) None) (passes p ss s h) ∙ sym (ap (option_map read) h)

-- what is read of two places, where it stands in the first, or does not
pub read_first : (p : ElfSegment → Bool) (read : ElfSegment → ℕ) (ss : List ElfSegment) (s : ElfSegment) (value other : Option ℕ) → find p ss ≡ Some s → value ≡ cond (p s) (Some (read s)) None → value ≡ option_or (option_map read (find p ss)) other
read_first p read ss s value other h e = rw (h) (e ∙ ap (λ b. cond b (Some (read s)) None) (passes p ss s h))

pub read_second : (p : ElfSegment → Bool) (read : ElfSegment → ℕ) (ss : List ElfSegment) (value other : Option ℕ) → find p ss ≡ None → value ≡ other → value ≡ option_or (option_map read (find p ss)) other
read_second p read ss value other none e = rw (none) e
