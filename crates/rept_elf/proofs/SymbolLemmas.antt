-- Tables by index: the sections of a file and the symbols of a table.
use Rattle.std.proofs.Common.{◌≡◌, ℕ, ◌+◌, ◌*◌, ◌/◌, ◌<◌, ◌≤◌, suc, zero, List, [], length, drop, arith, refl, sym, ◌∙◌, ap, Bool, true, false, cond, rules}
use Rattle.std.specs.Prelude.{None, Some, slice_get}
use Rattle.std.specs.List.{find}
use Rattle.std.proofs.lemmas.List.{at_drop_all}
use Rattle.rept_elf.specs.Sections.{ElfSection, e_shnum, section_offset, section_from, entries_from, holds_sections, sections}
use Rattle.rept_elf.specs.Symbols.{symbol_from, symbols}
use Rattle.rept_elf.proofs.SegmentLemmas.{drop-slice_get}

length-entries_from : {X : Type 0} → (entry : ℕ → X) (index count : ℕ) → length (entries_from entry index count) ≡ count
length-entries_from entry index zero = refl
length-entries_from entry index (suc count) = ap suc (length-entries_from entry (index + 1) count)

slice_get-entries_from : {X : Type 0} → (entry : ℕ → X) (index count i : ℕ) → i < count → slice_get (entries_from entry index count) i ≡ Some (entry (index + i))
slice_get-entries_from entry index zero i h = absurd (omega arith)
slice_get-entries_from entry index (suc count) zero h = let e : index ≡ index + 0 = omega arith in ap (λ k. Some (entry k)) e
slice_get-entries_from entry index (suc count) (suc i) h =
    slice_get-entries_from entry (index + 1) count i (omega arith) ∙ (let e : (index + 1) + i ≡ index + suc i = omega arith in ap (λ k. Some (entry k)) e)

-- the first of the elements from an index on of which p holds
pub find_hit : {X : Type 0} → (p : X → Bool) (xs : List X) (i : ℕ) (x : X) → slice_get xs i ≡ Some x → p x ≡ true → find p (drop i xs) ≡ Some x
find_hit p xs i x at hit = ap (find p) (drop-slice_get xs i x at) ∙ ap (λ b. cond b (Some x) (find p (drop (i + 1) xs))) hit

-- the same, one element on, where p does not hold of the first
pub find_miss : {X : Type 0} → (p : X → Bool) (xs : List X) (i : ℕ) (x : X) → slice_get xs i ≡ Some x → p x ≡ false → find p (drop i xs) ≡ find p (drop (i + 1) xs)
find_miss p xs i x at miss = ap (find p) (drop-slice_get xs i x at) ∙ ap (λ b. cond b (Some x) (find p (drop (i + 1) xs))) miss

-- no element is left
pub find_none : {X : Type 0} → (p : X → Bool) (xs : List X) (i : ℕ) → length xs ≤ i → find p (drop i xs) ≡ None
find_none p xs i h = at_drop_all (find p) xs i h

abbrev listed : List ℕ → List ElfSection
listed file = entries_from (λ index. section_from file (section_offset file index)) 0 (e_shnum file)

-- the headers stand in the file
pub all_sections : (file : List ℕ) → section_offset file (e_shnum file) ≤ length file → e_shnum file ≡ length (sections file)
all_sections file h = let whole : holds_sections file ≡ true = search rules in sym (length-entries_from _ 0 (e_shnum file)) ∙ ap (λ b. length (cond b (listed file) [])) (sym whole)

-- a section of an index is one of the table, whose headers stand in the file
pub one_section : (file : List ℕ) (i : ℕ) → i < length (sections file) → (i < e_shnum file) × (section_offset file (e_shnum file) ≤ length file)
one_section file i h = either (holds_sections file) refl h
  where
    either : (b : Bool) → holds_sections file ≡ b → i < length (cond b (listed file) []) → (i < e_shnum file) × (section_offset file (e_shnum file) ≤ length file)
    either true e k = (omega (arith, k, length-entries_from (λ index. section_from file (section_offset file index)) 0 (e_shnum file)), search rules)
    either false e k = absurd (omega arith)

pub section_fits : (file : List ℕ) (i : ℕ) → i < length (sections file) → section_offset file i + 40 ≤ length file
section_fits file i h = let one = one_section file i h in omega (arith, one.0, one.1)

pub slice_get-sections : (file : List ℕ) (i : ℕ) → i < length (sections file) → slice_get (sections file) i ≡ Some (section_from file (section_offset file i))
slice_get-sections file i h = either (holds_sections file) h
  where
    either : (b : Bool) → i < length (cond b (listed file) []) → slice_get (cond b (listed file) []) i ≡ Some (section_from file (section_offset file i))
    either true k =
        slice_get-entries_from _ 0 (e_shnum file) i (omega (arith, k, length-entries_from (λ index. section_from file (section_offset file index)) 0 (e_shnum file)))
        ∙ (let e : 0 + i ≡ i = omega arith in ap (λ k. Some (section_from file (section_offset file k))) e)
    either false k = absurd (omega arith)

pub length-symbols : (table : List ℕ) → length (symbols table) ≡ length table / 16
length-symbols table = length-entries_from (λ index. symbol_from table (16 * index)) 0 (length table / 16)

pub slice_get-symbols : (table : List ℕ) (i : ℕ) → i < length table / 16 → slice_get (symbols table) i ≡ Some (symbol_from table (16 * i))
slice_get-symbols table i h =
    slice_get-entries_from (λ index. symbol_from table (16 * index)) 0 (length table / 16) i h ∙ (let e : 0 + i ≡ i = omega arith in ap (λ k. Some (symbol_from table (16 * k))) e)
