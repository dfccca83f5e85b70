-- A byte of the first segment that can't be written and has it, one segment on.
use Rattle.std.proofs.Common.{◌≡◌, ℕ, ◌+◌, ◌≤◌, List, [], ◌∷◌, length, drop, Bool, true, false, ◌&&◌, not, Option, None, Some, refl, ap, ◌∙◌}
use Rattle.std.specs.Prelude.{slice_get, slice_index, if◌then◌else◌}
use Rattle.std.specs.List.{find}
use Rattle.std.specs.Option.{option_map, option_or}
use Rattle.std.proofs.lemmas.List.{at_drop_all}
use Rattle.rept_elf.specs.Segments.{ElfSegment, is_writable}
use Rattle.rept_elf.proofs.SegmentLemmas.{drop-slice_get}
use Rattle.rept_dump.specs.Memory.{bytes_from, holds, kept_at}

-- the first of them, or the others
pick : (f : ElfSegment → ℕ) (b : Bool) (s : ElfSegment) (rest : Option ElfSegment) → option_map f (if b then Some s else rest) ≡ option_or (option_map f (if b then Some s else None)) (option_map f rest)
pick f true s rest = refl
pick f false s rest = refl

module _ (a : ℕ) (ss : List ElfSegment) (i : ℕ) where
  pub kept-from : (s : ElfSegment) → slice_get ss i ≡ Some s → kept_at (drop i ss) a ≡ option_or (kept_at (s ∷ []) a) (kept_at (drop (i + 1) ss) a)
  kept-from s h =
      ap (λ (xs : List ElfSegment). kept_at xs a) (drop-slice_get ss i s h)
      ∙ pick (λ (x : ElfSegment). slice_index (bytes_from a x) 0) (not (is_writable s) && holds a 1 s) s (find (λ (x : ElfSegment). not (is_writable x) && holds a 1 x) (drop (i + 1) ss))

  pub kept-past : length ss ≤ i → kept_at (drop i ss) a ≡ None
  kept-past h = at_drop_all (λ (xs : List ElfSegment). kept_at xs a) ss i h
