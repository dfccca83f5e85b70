-- What is said of a core file's notes is said once, and follows from what was found of them.
use Rattle.std.proofs.Common.{◌≡◌, ℕ, ◌<◌, ◌≤◌, arith, inl, inr, List, [], ◌∷◌, length, Bool, true, false, refl, sym, ◌∙◌, ap}
use Rattle.std.specs.Prelude.{Result, Ok, Err, Some, None, nat_lt}
use Rattle.std.specs.List.{filter}
use Rattle.std.specs.Option.{option_map}
use Rattle.rept_elf.specs.Segments.{ElfSegment}
use Rattle.rept_maps.specs.Notes.Notes.{Note, note_segments}
use Rattle.rept_maps.specs.Notes.Sought.{head, is_short}
use Rattle.rept_maps.proofs.NotesLemmas.NoteLemmas.{same_all, same_cuts, whole_or_cuts}
use Rattle.rept_dump.specs.Registers.{SaysRegisters, SaysOfAll, HaveThreads, all_registers, descs_of, first_short, only_registers, is_status, status_size}
use Rattle.rept_dump.specs.declared.fault.CoreFault.{CoreFault}
use Rattle.rept_dump.specs.declared.fault.CoreFault.TheVariants as fault

-- the first register note that is short is the first note that is a short register note
short_one : (note : Note) (notes : List Note) (b c : Bool) → is_status note ≡ b → nat_lt (length note.desc) status_size ≡ c → first_short (filter is_status notes) ≡ option_map (λ (n : Note). length n.desc) (head (filter (is_short 1 status_size) notes))
    → first_short (filter is_status (note ∷ notes)) ≡ option_map (λ (n : Note). length n.desc) (head (filter (is_short 1 status_size) (note ∷ notes)))
short_one note notes true true e f h = rw (e, f) refl
short_one note notes true false e f h = rw (e, f) h
short_one note notes false c e f h = rw e h

pub short_is_first : (notes : List Note) → first_short (filter is_status notes) ≡ option_map (λ (n : Note). length n.desc) (head (filter (is_short 1 status_size) notes))
short_is_first [] = refl
short_is_first (note ∷ notes) = short_one note notes (is_status note) (nat_lt (length note.desc) status_size) refl refl (short_is_first notes)

-- what is said of the only register note, by how many there are and the first
pub none_said : (statuses : List Note) → head statuses ≡ None → Err fault.NoStatus ≡ only_registers statuses
none_said [] e = refl
none_said (note ∷ notes) e = absurd ((cc))

pub several_said : (statuses : List Note) (count : ℕ) → count ≡ length statuses → 1 < count → Err (fault.SeveralThreads count) ≡ only_registers statuses
several_said [] count e many = absurd (omega (arith, e, many))
several_said (note ∷ []) count e many = absurd (omega (arith, e, many))
several_said (note ∷ (other ∷ notes)) count e many = ap (λ (n : ℕ). Err (fault.SeveralThreads n)) e

-- the first of at most one is the only one
only_first : (statuses : List Note) (note : Note) → length statuses ≤ 1 → head statuses ≡ Some note → statuses ≡ note ∷ []
only_first [] note few e = absurd ((cc))
only_first (first ∷ []) note few e = let same : first ≡ note = (cc) in ap (λ (n : Note). n ∷ []) same
only_first (first ∷ (other ∷ notes)) note few e = absurd (omega (arith, few))

pub short_said : (statuses : List Note) (note : Note) → length statuses ≤ 1 → head statuses ≡ Some note → nat_lt (length note.desc) status_size ≡ true → Err (fault.ShortStatus (length note.desc)) ≡ only_registers statuses
short_said statuses note few e short = let only = only_first statuses note few e in rw (only, short) refl

pub whole_said : (statuses : List Note) (note : Note) → length statuses ≤ 1 → head statuses ≡ Some note → nat_lt (length note.desc) status_size ≡ false → Ok note.desc ≡ only_registers statuses
whole_said statuses note few e long = let only = only_first statuses note few e in rw (only, long) refl

-- one thing is said of a core file
pub said_once : (size : ℕ) (ss : List ElfSegment) (said said' : Result (List ℕ) CoreFault) → SaysRegisters size ss said → SaysRegisters size ss said' → said ≡ said'
said_once size ss said said' (inl a) (inl b) =
    a.2 ∙ ap (λ o. Err (fault.NotePastEnd o)) (same_cuts size (note_segments ss) a.0 b.0 a.1 b.1) ∙ sym b.2
said_once size ss said said' (inl a) (inr b) = absurd (whole_or_cuts size (note_segments ss) b.0 a.0 b.1 a.1)
said_once size ss said said' (inr a) (inl b) = absurd (whole_or_cuts size (note_segments ss) a.0 b.0 a.1 b.1)
said_once size ss said said' (inr a) (inr b) =
    a.2 ∙ ap (λ ns. only_registers (filter is_status ns)) (same_all size (note_segments ss) a.0 b.0 a.1 b.1) ∙ sym b.2

pub all_said_once : (size : ℕ) (ss : List ElfSegment) (said said' : Result (List (List ℕ)) CoreFault) → SaysOfAll size ss said → SaysOfAll size ss said' → said ≡ said'
all_said_once size ss said said' (inl a) (inl b) =
    a.2 ∙ ap (λ o. Err (fault.NotePastEnd o)) (same_cuts size (note_segments ss) a.0 b.0 a.1 b.1) ∙ sym b.2
all_said_once size ss said said' (inl a) (inr b) = absurd (whole_or_cuts size (note_segments ss) b.0 a.0 b.1 a.1)
all_said_once size ss said said' (inr a) (inl b) = absurd (whole_or_cuts size (note_segments ss) a.0 b.0 a.1 b.1)
all_said_once size ss said said' (inr a) (inr b) =
    a.2 ∙ ap (λ ns. all_registers (filter is_status ns)) (same_all size (note_segments ss) a.0 b.0 a.1 b.1) ∙ sym b.2

pub same_threads : (size : ℕ) (ss : List ElfSegment) (descs descs' : List (List ℕ)) → HaveThreads size ss descs → HaveThreads size ss descs' → descs ≡ descs'
same_threads size ss descs descs' a b = a.2 ∙ ap (λ ns. descs_of (filter is_status ns)) (same_all size (note_segments ss) a.0 b.0 a.1 b.1) ∙ sym b.2
