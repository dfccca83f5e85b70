-- The list of segments by index, and the checks of a list by its parts.
use Rattle.std.proofs.Common.{◌≡◌, ℕ, ◌+◌, ◌<◌, ◌≤◌, suc, zero, List, [], ◌∷◌, ◌++◌, length, drop, arith, refl, ◌∙◌, ap, Bool, true, false, cond, max, nat_eq, ◌≢◌, rules}
use Rattle.std.specs.Prelude.{Option, None, Some, slice_get}
use Rattle.std.proofs.lemmas.List.{at_drop_more, at_drop_all}
use Rattle.std.proofs.lemmas.Option.{slice_get_within, get_or_from_slice_get}
use Rattle.rept_elf.specs.Header.{entry_offset, e_phnum}
use Rattle.rept_elf.specs.Segments.{ElfSegment, segment_from, segments_from, segments, greatest_end}
use Rattle.rept_elf.specs.Checks.{Check, first_failure, segment_checks, table_checks}
use Rattle.rept_elf.specs.declared.fault.Want.{Want}
use Rattle.rept_elf.specs.declared.fault.ElfFault.{ElfFault}

pub length-segments_from : (file : List ℕ) (index count : ℕ) → length (segments_from file index count) ≡ count
length-segments_from file index zero = refl
length-segments_from file index (suc count) = ap suc (length-segments_from file (index + 1) count)

pub length-segments : (file : List ℕ) → length (segments file) ≡ e_phnum file
length-segments file = length-segments_from file 0 (e_phnum file)

slice_get-segments_from : (file : List ℕ) (index count i : ℕ) → i < count → slice_get (segments_from file index count) i ≡ Some (segment_from file (entry_offset file (index + i)))
slice_get-segments_from file index zero i h = absurd (omega arith)
slice_get-segments_from file index (suc count) zero h = let e : index ≡ index + 0 = omega arith in ap (λ k. Some (segment_from file (entry_offset file k))) e
slice_get-segments_from file index (suc count) (suc i) h =
    slice_get-segments_from file (index + 1) count i (omega arith)
    ∙ (let e : (index + 1) + i ≡ index + suc i = omega arith in ap (λ k. Some (segment_from file (entry_offset file k))) e)

pub slice_get-segments : (file : List ℕ) (i : ℕ) → i < e_phnum file → slice_get (segments file) i ≡ Some (segment_from file (entry_offset file i))
slice_get-segments file i h = slice_get-segments_from file 0 (e_phnum file) i h ∙ (let e : 0 + i ≡ i = omega arith in ap (λ k. Some (segment_from file (entry_offset file k))) e)

-- what is left of a list from the place of an element on
pub drop-slice_get : {X : Type 0} → (xs : List X) (i : ℕ) (x : X) → slice_get xs i ≡ Some x → drop i xs ≡ x ∷ drop (i + 1) xs
drop-slice_get xs i x h = at_drop_more (λ ys. ys) xs i x (slice_get_within xs i x h) ∙ ap (λ y. y ∷ drop (i + 1) xs) (get_or_from_slice_get xs i x x h)

first_failure-append_passed : (front after : List Check) → first_failure front ≡ None → first_failure (front ++ after) ≡ first_failure after
first_failure-append_passed [] after h = refl
first_failure-append_passed (c ∷ cs) after h = either c.passes h (first_failure-append_passed cs after)
  where
    either : (passes : Bool) → cond passes (first_failure cs) (Some c.fault) ≡ None → (first_failure cs ≡ None → first_failure (cs ++ after) ≡ first_failure after) → cond passes (first_failure (cs ++ after)) (Some c.fault) ≡ first_failure after
    either true e k = k e
    either false e k = cc

first_failure-append_failed : (front after : List Check) (f : ElfFault) → first_failure front ≡ Some f → first_failure (front ++ after) ≡ Some f
first_failure-append_failed [] after f h = cc
first_failure-append_failed (c ∷ cs) after f h = either c.passes h (first_failure-append_failed cs after f)
  where
    either : (passes : Bool) → cond passes (first_failure cs) (Some c.fault) ≡ Some f → (first_failure cs ≡ Some f → first_failure (cs ++ after) ≡ Some f) → cond passes (first_failure (cs ++ after)) (Some c.fault) ≡ Some f
    either true e k = k e
    either false e k = e

pub checks_passed : (front after : List Check) → first_failure front ≡ None → first_failure (front ++ after) ≡ first_failure after
checks_passed = first_failure-append_passed

pub checks_failed : (front after : List Check) (f : ElfFault) → first_failure front ≡ Some f → first_failure (front ++ after) ≡ Some f
checks_failed = first_failure-append_failed

-- what is checked of the segments from an index on
abbrev pub checked_from : Want → ℕ → ℕ → List ElfSegment → Option ElfFault
checked_from want size index ss = first_failure (table_checks want size index ss)

-- the segments from an index on, of which the first passes
pub one_passes : (want : Want) (size : ℕ) (ss : List ElfSegment) (i : ℕ) (s : ElfSegment) → slice_get ss i ≡ Some s → first_failure (segment_checks want size i s) ≡ None
    → checked_from want size i (drop i ss) ≡ checked_from want size (i + 1) (drop (i + 1) ss)
one_passes want size ss i s at h = ap (checked_from want size i) (drop-slice_get ss i s at) ∙ checks_passed (segment_checks want size i s) _ h

-- the segments from an index on, of which the first fails
pub one_fails : (want : Want) (size : ℕ) (ss : List ElfSegment) (i : ℕ) (s : ElfSegment) (f : ElfFault) → slice_get ss i ≡ Some s → first_failure (segment_checks want size i s) ≡ Some f
    → checked_from want size i (drop i ss) ≡ Some f
one_fails want size ss i s f at h = ap (checked_from want size i) (drop-slice_get ss i s at) ∙ checks_failed (segment_checks want size i s) _ f h

-- after the last segment no check is left
pub none_left : (want : Want) (size : ℕ) (ss : List ElfSegment) (i : ℕ) → length ss ≤ i → checked_from want size i (drop i ss) ≡ None
none_left want size ss i h = at_drop_all (checked_from want size i) ss i h

-- the greatest end of the segments from an index on, of which the first is part of memory
pub ends_load : (ss : List ElfSegment) (i : ℕ) (s : ElfSegment) (end end' : ℕ) → slice_get ss i ≡ Some s → s.kind ≡ 1 → end' ≡ max end (s.vaddr + s.memsz)
    → max end' (greatest_end (drop (i + 1) ss)) ≡ max end (greatest_end (drop i ss))
ends_load ss i s end end' at load e = rw (drop-slice_get ss i s at, load, e) (omega arith)

-- the same where the first is no part of memory
pub ends_other : (ss : List ElfSegment) (i : ℕ) (s : ElfSegment) (end end' : ℕ) → slice_get ss i ≡ Some s → s.kind ≢ 1 → end' ≡ end
    → max end' (greatest_end (drop (i + 1) ss)) ≡ max end (greatest_end (drop i ss))
ends_other ss i s end end' at other e = rw (drop-slice_get ss i s at, not_same, e) refl
  where
    not_same : nat_eq s.kind 1 ≡ false
    not_same = search rules
