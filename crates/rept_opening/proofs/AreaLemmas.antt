-- Where the segment begins that has an address.
use Rattle.std.proofs.Common.{◌≡◌, ℕ, ◌+◌, ◌≤◌, Bool, true, false, List, length, Option, None, Some, ap, ◌∙◌}
use Rattle.std.specs.Prelude.{slice_get, drop, if◌then◌else◌}
use Rattle.std.proofs.lemmas.List.{at_drop_all}
use Rattle.rept_elf.proofs.SegmentLemmas.{drop-slice_get}
use Rattle.rept_elf.specs.Segments.{ElfSegment}
use Rattle.rept_opening.specs.Beyond.{area_from, lies_in}

-- by the segments from an index on
area-from : (a : ℕ) (ss : List ElfSegment) (i : ℕ) (s : ElfSegment) → slice_get ss i ≡ Some s → area_from (drop i ss) a ≡ (if lies_in a s then Some s.vaddr else area_from (drop (i + 1) ss) a)
area-from a ss i s h = ap (λ (rest : List ElfSegment). area_from rest a) (drop-slice_get ss i s h)

pub area-skips : (a : ℕ) (ss : List ElfSegment) (i : ℕ) (s : ElfSegment) → slice_get ss i ≡ Some s → lies_in a s ≡ false → area_from (drop i ss) a ≡ area_from (drop (i + 1) ss) a
area-skips a ss i s h miss = area-from a ss i s h ∙ ap (λ (b : Bool). if b then Some s.vaddr else area_from (drop (i + 1) ss) a) miss

pub area-here : (a : ℕ) (ss : List ElfSegment) (i : ℕ) (s : ElfSegment) → slice_get ss i ≡ Some s → lies_in a s ≡ true → area_from (drop i ss) a ≡ Some s.vaddr
area-here a ss i s h hit = area-from a ss i s h ∙ ap (λ (b : Bool). if b then Some s.vaddr else area_from (drop (i + 1) ss) a) hit

pub area-past : (a : ℕ) (ss : List ElfSegment) (i : ℕ) → length ss ≤ i → area_from (drop i ss) a ≡ None
area-past a ss i h = at_drop_all (λ (rest : List ElfSegment). area_from rest a) ss i h
