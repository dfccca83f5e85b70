-- What a core file says of its mapped files is determined, and follows from what its notes say.
use Rattle.std.proofs.Common.{◌≡◌, ℕ, inl, inr, List, arith, sym, ◌∙◌, ap, subst}
use Rattle.std.specs.Prelude.{Option, Some, None, Result, Ok, Err}
use Rattle.std.specs.List.{filter}
use Rattle.rept_elf.specs.Segments.{ElfSegment}
use Rattle.rept_maps.specs.Notes.Notes.{Note, note_segments}
use Rattle.rept_maps.specs.Notes.Sought.{SaysOfType, CountedNotes, is_sought, head}
use Rattle.rept_maps.proofs.NotesLemmas.NoteLemmas.{same_all, same_cuts, whole_or_cuts}
use Rattle.rept_maps.specs.FileMap.{file_kind}
use Rattle.rept_maps.specs.Told.{NoteSays, FirstSays, MapsSay}
use Rattle.rept_maps.specs.declared.fault.MapFault.{MapFault}
use Rattle.rept_maps.specs.declared.fault.MapFault.TheVariants as fault

abbrev pub past_end : ℕ → Result (List ℕ) MapFault
past_end offset = Err (fault.NotePastEnd offset)

err_same : {T : Type 0} {x y : ℕ} → (let r : Result T ℕ = Err x in r) ≡ Err y → x ≡ y
err_same e = cc

err_or_ok : {T E P : Type 0} {e : E} {t : T} → (let r : Result T E = Err e in r) ≡ Ok t → P
err_or_ok h = cc

abbrev first_in : Result CountedNotes ℕ → Option Note
first_in (Ok c) = c.first
first_in (Err e) = None

-- the notes are cut
pub cut_says : (size offset : ℕ) (ss : List ElfSegment) → SaysOfType file_kind size ss (Err offset) → MapsSay size ss (past_end offset)
cut_says size offset ss (inl (place, cut, e)) = inl (place, cut, ap past_end (err_same e))
cut_says size offset ss (inr (notes, have, e)) = err_or_ok e

-- the notes are whole
pub first_says : (size count : ℕ) (ss : List ElfSegment) (first : Option Note) (said : Result (List ℕ) MapFault) → SaysOfType file_kind size ss (Ok (record { count = count; first = first })) → FirstSays first said → MapsSay size ss said
first_says size count ss first said (inl (place, cut, e)) f = err_or_ok (sym e)
first_says size count ss first said (inr (notes, have, e)) f = inr (notes, have, subst (λ o. FirstSays o said) (ap first_in e) f)

note_once : (note : Note) (said said' : Result (List ℕ) MapFault) → NoteSays note said → NoteSays note said' → said ≡ said'
note_once note said said' (inl a) (inl b) = a.1 ∙ sym b.1
note_once note said said' (inl a) (inr b) = absurd (a.0 b.0)
note_once note said said' (inr a) (inl b) = absurd (b.0 a.0)
note_once note said said' (inr (is, inl a)) (inr (is', inl b)) = a.1 ∙ sym b.1
note_once note said said' (inr (is, inl a)) (inr (is', inr b)) = absurd (omega (arith, a.0, b.0))
note_once note said said' (inr (is, inr a)) (inr (is', inl b)) = absurd (omega (arith, a.0, b.0))
note_once note said said' (inr (is, inr a)) (inr (is', inr b)) = a.1 ∙ sym b.1

first_once : (first : Option Note) (said said' : Result (List ℕ) MapFault) → FirstSays first said → FirstSays first said' → said ≡ said'
first_once None said said' a b = a ∙ sym b
first_once (Some note) said said' a b = note_once note said said' a b

-- one thing is said of a core file
pub maps_once : (size : ℕ) (ss : List ElfSegment) (said said' : Result (List ℕ) MapFault) → MapsSay size ss said → MapsSay size ss said' → said ≡ said'
maps_once size ss said said' (inl a) (inl b) = a.2 ∙ ap past_end (same_cuts size (note_segments ss) a.0 b.0 a.1 b.1) ∙ sym b.2
maps_once size ss said said' (inl a) (inr b) = absurd (whole_or_cuts size (note_segments ss) b.0 a.0 b.1 a.1)
maps_once size ss said said' (inr a) (inl b) = absurd (whole_or_cuts size (note_segments ss) a.0 b.0 a.1 b.1)
maps_once size ss said said' (inr a) (inr b) =
    first_once (head (filter (is_sought file_kind) a.0)) said said' a.2
    (subst (λ ns. FirstSays (head (filter (is_sought file_kind) ns)) said') (sym (same_all size (note_segments ss) a.0 b.0 a.1 b.1)) b.2)
