-- A search for the first one whose bounds have some of the numbers, which has to have all.
use Rattle.std.proofs.Common.{◌≡◌, ℕ, suc, zero, ◌+◌, ◌≤◌, List, [], ◌∷◌, length, drop, Bool, true, false, cond, ap, ◌∙◌, arith, refl}
use Rattle.std.specs.Prelude.{Option, None, Some, slice_get}
use Rattle.std.specs.List.{find}
use Rattle.std.specs.Option.{option_and_then, option_map}
use Rattle.rept_elf.proofs.SymbolLemmas.{find_hit, find_none}
use Rattle.rept_elf.specs.Image.{file_of}
use Rattle.rept_elf.specs.declared.image.Image.{Image}
use Rattle.rept_maps.specs.FileMap.{entry_at}
use Rattle.rept_maps.specs.Mapped.Mapped.{mapping_by, mappings_from, mappings, only_with, has_some, has_all}
use Rattle.rept_maps.specs.declared.mapped.find.NumberBounds.{NumberBounds}

module _ {X : Type 0} (bounds : X → NumberBounds) (count a : ℕ) (xs : List X) (i : ℕ) where
  abbrev pub is_met : X → Bool
  is_met x = has_some count a (bounds x)

  pub met : (x : X) → find is_met xs ≡ find is_met (drop i xs) → slice_get xs i ≡ Some x → is_met x ≡ true → only_with bounds count a xs ≡ cond (has_all count a (bounds x)) (Some x) None
  met x left at hit = ap (option_and_then (λ x. cond (has_all count a (bounds x)) (Some x) None)) (left ∙ find_hit is_met xs i x at hit)

  pub met_whole : (x : X) → find is_met xs ≡ find is_met (drop i xs) → slice_get xs i ≡ Some x → is_met x ≡ true → has_all count a (bounds x) ≡ true → only_with bounds count a xs ≡ Some x
  met_whole x left at hit all = met x left at hit ∙ ap (λ b. cond b (Some x) None) all

  pub met_in_part : (x : X) → find is_met xs ≡ find is_met (drop i xs) → slice_get xs i ≡ Some x → is_met x ≡ true → has_all count a (bounds x) ≡ false → only_with bounds count a xs ≡ None
  met_in_part x left at hit all = met x left at hit ∙ ap (λ b. cond b (Some x) None) all

  pub met_nowhere : find is_met xs ≡ find is_met (drop i xs) → length xs ≤ i → only_with bounds count a xs ≡ None
  met_nowhere left past = ap (option_and_then (λ x. cond (has_all count a (bounds x)) (Some x) None)) (left ∙ find_none is_met xs i past)

-- the mappings by index
pub length-mappings_from : (desc : List ℕ) (i : ℕ) (images : List (Option Image)) → length (mappings_from desc i images) ≡ length images
length-mappings_from desc i [] = refl
length-mappings_from desc i (image ∷ images) = ap suc (length-mappings_from desc (i + 1) images)

slice_get-from : (desc : List ℕ) (k : ℕ) (images : List (Option Image)) (i : ℕ) (image : Option Image) → slice_get images i ≡ Some image → slice_get (mappings_from desc k images) i ≡ Some (mapping_by (entry_at desc (k + i)) image)
slice_get-from desc k [] i image h = cc
slice_get-from desc k (x ∷ xs) zero image h =
    let e : k ≡ k + 0 = omega arith in
    let same : x ≡ image = cc in
    ap (λ n. Some (mapping_by (entry_at desc n) x)) e ∙ ap (λ (o : Option Image). Some (mapping_by (entry_at desc (k + 0)) o)) same
slice_get-from desc k (x ∷ xs) (suc i) image h =
    let e : (k + 1) + i ≡ k + suc i = omega arith in
    slice_get-from desc (k + 1) xs i image h ∙ ap (λ n. Some (mapping_by (entry_at desc n) image)) e

pub slice_get-mappings : (desc : List ℕ) (images : List (Option Image)) (i : ℕ) (image : Option Image) → slice_get images i ≡ Some image → slice_get (mappings desc images) i ≡ Some (mapping_by (entry_at desc i) image)
slice_get-mappings desc images i image h = slice_get-from desc 0 images i image h ∙ (let e : 0 + i ≡ i = omega arith in ap (λ n. Some (mapping_by (entry_at desc n) image)) e)

-- the mapping of an index, by its parts
pub mapping_is : (desc : List ℕ) (images : List (Option Image)) (i : ℕ) (image : Option Image) (start end offset : ℕ) → slice_get images i ≡ Some image → start ≡ (entry_at desc i).start → end ≡ (entry_at desc i).end → offset ≡ (entry_at desc i).offset
    → slice_get (mappings desc images) i ≡ Some (record { start = start; end = end; offset = offset; file = option_map file_of image })
mapping_is desc images i image start end offset h s e o = rw (s, e, o) (slice_get-mappings desc images i image h)
