-- The notes of a dump's threads, one after the other.
use Rattle.std.proofs.Common.{◌≡◌, ℕ, zero, suc, ◌+◌, ◌≤◌, List, [], ◌∷◌, ◌++◌, length, map, take, Some, sym, ◌∙◌, ap, arith}
use Rattle.std.specs.Prelude.{slice_get}
use Rattle.std.proofs.lemmas.List.{map_push, take_all}
use Rattle.rept_streams.specs.Slices.Joins.{ThreadNote}
use Rattle.rept_streams.specs.Threads.Notes.{known_by}
use Rattle.rept_streams.specs.Slices.Raw.{note_in}
use Rattle.rept_streams.specs.declared.threads.notes.KeptNote.{KeptNote}

take_next : (descs : List (List ℕ)) (t : ℕ) (desc : List ℕ) → slice_get descs t ≡ Some desc → take (suc t) descs ≡ take t descs ++ desc ∷ []
take_next [] t desc h = absurd (cc)
take_next (d ∷ descs) zero desc h = let e : d ≡ desc = cc in ap (λ (x : List ℕ). x ∷ []) e
take_next (d ∷ descs) (suc t) desc h = ap (λ (xs : List (List ℕ)). d ∷ xs) (take_next descs t desc h)

pub one_noted : (descs : List (List ℕ)) (t : ℕ) (desc : List ℕ) (notes : List KeptNote) (note : KeptNote) → slice_get descs t ≡ Some desc → known_by note ≡ note_in desc → map known_by notes ≡ map note_in (take t descs) → map known_by (notes ++ note ∷ []) ≡ map note_in (take (t + 1) descs)
one_noted descs t desc notes note there is h =
    map_push known_by notes note ∙ ap (λ (xs : List ThreadNote). xs ++ known_by note ∷ []) h ∙ ap (λ (n : ThreadNote). map note_in (take t descs) ++ n ∷ []) is ∙ sym (map_push note_in (take t descs) desc) ∙ sym (ap (map note_in) (ap (λ (n : ℕ). take n descs) (let e : t + 1 ≡ suc t = omega arith in e) ∙ take_next descs t desc there))

pub all_noted : (descs : List (List ℕ)) (t : ℕ) (notes : List KeptNote) → length descs ≤ t → map known_by notes ≡ map note_in (take t descs) → map known_by notes ≡ map note_in descs
all_noted descs t notes past h = h ∙ ap (map note_in) (take_all t descs past)
