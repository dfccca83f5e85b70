-- Notes one by one, segments one by one, and that both are determined.
use Rattle.std.proofs.Common.{◌≡◌, ℕ, ◌+◌, ◌-◌, ◌<◌, ◌≤◌, inl, inr, List, [], ◌∷◌, ◌++◌, length, drop, Bool, true, false, cond, arith, refl, sym, ◌∙◌, ap, subst, append_assoc, length-append, length-drop}
use Rattle.std.proofs.lemmas.List.{append-nil, at_drop_all}
use Rattle.std.proofs.lemmas.List.Elements.{filter-append}
use Rattle.std.specs.Prelude.{Result, Ok, Err, Option, None, Some, slice_get, MatchBool, IfOk, IfErr}
use Rattle.std.specs.List.{filter}
use Rattle.std.specs.Option.{option_map, option_or}
use Rattle.rept_elf.specs.Segments.{ElfSegment, is_note}
use Rattle.rept_elf.proofs.SegmentLemmas.{drop-slice_get}
use Rattle.rept_maps.specs.Notes.Notes.{Note, HoldsNote, AreNotesThen, AreNotes, CutsNote, HaveNotes, AreCutAt, IsCutAt, IsInFile, first_note, after_note, note_size, note_header, note_segments}
use Rattle.rept_maps.specs.Notes.Found.{AreFound, AddsNotes, PassesSegment, CutsSegment, note_of, said_of}
use Rattle.rept_maps.specs.Notes.Sought.{SaysOf, CountedNotes, counted, head}
use Rattle.rept_maps.specs.declared.notes.note.Note.{Note as CodeNote}
use Rattle.rept_maps.specs.declared.notes.note.FoundNotes.{FoundNotes}
use Rattle.rept_maps.specs.declared.notes.fault.NotePastEnd.{NotePastEnd}

-- what stands after notes is no longer than the bytes
pub not_longer : (offset : ℕ) (bytes : List ℕ) (notes : List Note) (rest : List ℕ) → AreNotesThen offset bytes notes rest → length rest ≤ length bytes
not_longer offset bytes [] rest e = omega (arith, ap length e)
not_longer offset bytes (note ∷ notes) rest e = omega (arith, not_longer (offset + note_size bytes) (after_note bytes) notes rest e.2, length-drop (note_size bytes) bytes)

-- where the rest stands, counted from the note after the first
pub place_after : (offset : ℕ) (bytes : List ℕ) (notes : List Note) (rest : List ℕ) → AreNotesThen (offset + note_size bytes) (after_note bytes) notes rest → 12 ≤ length rest
    → offset + (length bytes - length rest) ≡ (offset + note_size bytes) + (length (after_note bytes) - length rest)
place_after offset bytes notes rest h long = omega (arith, long, not_longer (offset + note_size bytes) (after_note bytes) notes rest h, length-drop (note_size bytes) bytes)

pub one_more : (offset : ℕ) (bytes : List ℕ) (notes : List Note) (rest : List ℕ) (note : Note)
    → AreNotesThen offset bytes notes rest → HoldsNote rest → first_note (offset + (length bytes - length rest)) rest ≡ note → AreNotesThen offset bytes (notes ++ note ∷ []) (after_note rest)
one_more offset bytes [] rest note e h n =
    let here : offset + (length bytes - length rest) ≡ offset = omega (arith, ap length e) in
    subst (λ r. HoldsNote r × (first_note offset r ≡ note) × (after_note rest ≡ after_note r)) e (h, subst (λ o. first_note o rest ≡ note) here n, refl)
one_more offset bytes (first ∷ notes) rest note e h n =
    (e.0, e.1, one_more (offset + note_size bytes) (after_note bytes) notes rest note e.2 h (subst (λ o. first_note o rest ≡ note) (place_after offset bytes notes rest e.2 h.header) n))

map-or : {X Y : Type 0} → (f : X → Y) (a b : Option X) → option_map f (option_or a b) ≡ option_or (option_map f a) (option_map f b)
map-or f None b = refl
map-or f (Some x) b = refl

or-none : {X : Type 0} → (o : Option X) → o ≡ option_or o None
or-none None = refl
or-none (Some x) = refl

head-append : (xs ys : List Note) → option_or (head xs) (head ys) ≡ head (xs ++ ys)
head-append [] ys = refl
head-append (x ∷ xs) ys = refl

or-head : (o : Option Note) (xs ys : List Note) → option_or (option_or o (head xs)) (head ys) ≡ option_or o (head (xs ++ ys))
or-head None xs ys = head-append xs ys
or-head (Some x) xs ys = refl

pub Adds-nothing : (found : FoundNotes) → AddsNotes found found []
Adds-nothing found = record { counted = omega arith; first = or-none (option_map note_of found.first) }

pub Adds-then : (sought : Note → Bool) (a b c : FoundNotes) (front after : List Note) → AddsNotes a b (filter sought front) → AddsNotes b c (filter sought after) → AddsNotes a c (filter sought (front ++ after))
Adds-then sought a b c front after p q = rw filter-append (record {
  counted = omega (arith, p.counted, q.counted, length-append (filter sought front) (filter sought after));
  first = q.first ∙ ap (λ o. option_or o (head (filter sought after))) p.first ∙ or-head (option_map note_of a.first) (filter sought front) (filter sought after);
})

pub AreFound-then : (sought : Note → Bool) (a b : FoundNotes) (front after : List Note) → AreFound a (filter sought front) → AddsNotes a b (filter sought after) → AreFound b (filter sought (front ++ after))
AreFound-then sought a b front after p q = rw filter-append (record {
  counted = omega (arith, p.counted, q.counted, length-append (filter sought front) (filter sought after));
  first = q.first ∙ ap (λ o. option_or o (head (filter sought after))) p.first ∙ head-append (filter sought front) (filter sought after);
})

-- what was found, and what was found after
pub joined : (found more found' : FoundNotes) → found'.count ≡ found.count + more.count → found'.first ≡ option_or found.first more.first → (notes : List Note) → AreFound more notes → AddsNotes found found' notes
joined found more found' count first notes are = record {
  counted = omega (arith, count, are.counted);
  first = ap (option_map note_of) first ∙ map-or note_of found.first more.first ∙ ap (option_or (option_map note_of found.first)) are.first;
}

-- a note that is sought
pub added : (sought : Note → Bool) (found found' : FoundNotes) (note : CodeNote) → sought (note_of note) ≡ true → found'.count ≡ found.count + 1 → found'.first ≡ option_or found.first (Some note)
    → AddsNotes found found' (filter sought (note_of note ∷ []))
added sought found found' note is count first = subst (λ b. AddsNotes found found' (cond b (note_of note ∷ []) [])) (sym is) (record {
  counted = omega (arith, count);
  first = ap (option_map note_of) first ∙ map-or note_of found.first (Some note);
})

-- one that isn't
pub not_added : (sought : Note → Bool) (found : FoundNotes) (note : CodeNote) → sought (note_of note) ≡ false → AddsNotes found found (filter sought (note_of note ∷ []))
not_added sought found note other = subst (λ b. AddsNotes found found (cond b (note_of note ∷ []) [])) (sym other) (Adds-nothing found)

-- the notes of a segment so far
pub record SoFar (sought : Note → Bool) (offset : ℕ) (bytes rest : List ℕ) (found found' : FoundNotes) : Type 0 where
  pub notes : List Note
  pub before : AreNotesThen offset bytes notes rest
  pub adds : AddsNotes found found' (filter sought notes)
  pub fewer : found'.count + length rest ≤ found.count + length bytes
  pub shorter : length rest ≤ length bytes

-- at most one of one note is sought
pub at_most_one : (sought : Note → Bool) (note : Note) → length (filter sought (note ∷ [])) ≤ 1
at_most_one sought note = either (sought note)
  where
    either : (b : Bool) → length (cond b (note ∷ []) []) ≤ 1
    either true = omega arith
    either false = omega arith

pub shrinks : (rest rest' : List ℕ) → HoldsNote rest → rest' ≡ after_note rest → length rest' + 12 ≤ length rest
shrinks rest rest' h e = rw (e, length-drop) (omega (arith, h.header))

pub one_more_note : (sought : Note → Bool) (offset : ℕ) (bytes rest rest' : List ℕ) (a b c : FoundNotes) (note : Note)
    → SoFar sought offset bytes rest a b → HoldsNote rest → first_note (offset + (length bytes - length rest)) rest ≡ note → rest' ≡ after_note rest → AddsNotes b c (filter sought (note ∷ []))
    → SoFar sought offset bytes rest' a c
one_more_note sought offset bytes rest rest' a b c note s h n e more = record {
  notes = s.notes ++ note ∷ [];
  before = subst (λ r. AreNotesThen offset bytes (s.notes ++ note ∷ []) r) (sym e) (one_more offset bytes s.notes rest note s.before h n);
  adds = Adds-then sought a b c s.notes (note ∷ []) s.adds more;
  fewer = omega (arith, s.fewer, shrinks rest rest' h e, more.counted, at_most_one sought note);
  shorter = omega (arith, s.shorter, shrinks rest rest' h e);
}

-- the segments that are left, and the notes of those before
pub record Through (sought : Note → Bool) (size : ℕ) (all left : List ElfSegment) (found : FoundNotes) : Type 0 where
  pub notes : List Note
  pub have : (later : List Note) → HaveNotes size left later → HaveNotes size all (notes ++ later)
  pub cut : (offset : ℕ) → AreCutAt size left offset → AreCutAt size all offset
  pub are : AreFound found (filter sought notes)

pub past_one : (sought : Note → Bool) (size : ℕ) (all : List ElfSegment) (s : ElfSegment) (left : List ElfSegment) (found found' : FoundNotes) (front : List Note)
    → Through sought size all (s ∷ left) found → IsInFile size s → AreNotes s.offset s.body front → AddsNotes found found' (filter sought front) → Through sought size all left found'
past_one sought size all s left found found' front t inside are adds = record {
  notes = t.notes ++ front;
  have = λ later h. rw append_assoc (t.have (front ++ later) (front, later, refl, inside, are, h));
  cut = λ offset h. t.cut offset (inr (inside, (front, are), h));
  are = AreFound-then sought found found' t.notes front t.are adds;
}

pub past_segment : (sought : Note → Bool) (size : ℕ) (all segs : List ElfSegment) (i : ℕ) (s : ElfSegment) (found found' : FoundNotes)
    → Through sought size all (note_segments (drop i segs)) found → slice_get segs i ≡ Some s → PassesSegment sought size s found found' → Through sought size all (note_segments (drop (i + 1) segs)) found'
past_segment sought size all segs i s found found' t at p = either (is_note s) (subst (λ ss. Through sought size all (note_segments ss) found) (drop-slice_get segs i s at) t) p
  where
    either : (b : Bool) → Through sought size all (cond b (s ∷ note_segments (drop (i + 1) segs)) (note_segments (drop (i + 1) segs))) found
        → MatchBool b (IsInFile size s × ((notes : List Note) × AreNotes s.offset s.body notes × AddsNotes found found' (filter sought notes))) (found' ≡ found)
        → Through sought size all (note_segments (drop (i + 1) segs)) found'
    either true u q = past_one sought size all s (note_segments (drop (i + 1) segs)) found found' q.1.0 u q.0 q.1.1 q.1.2
    either false u q = subst (Through sought size all (note_segments (drop (i + 1) segs))) (sym q) u

pub cut_segment : (sought : Note → Bool) (size : ℕ) (all segs : List ElfSegment) (i : ℕ) (s : ElfSegment) (found : FoundNotes) (offset : ℕ)
    → Through sought size all (note_segments (drop i segs)) found → slice_get segs i ≡ Some s → CutsSegment size s offset → AreCutAt size all offset
cut_segment sought size all segs i s found offset t at c = either (is_note s) c.0 (subst (λ ss. Through sought size all (note_segments ss) found) (drop-slice_get segs i s at) t)
  where
    either : (b : Bool) → b ≡ true → Through sought size all (cond b (s ∷ note_segments (drop (i + 1) segs)) (note_segments (drop (i + 1) segs))) found → AreCutAt size all offset
    either true e u = u.cut offset (inl c.1)
    either false e u = cc

pub past_all : (sought : Note → Bool) (size : ℕ) (all segs : List ElfSegment) (i : ℕ) (found : FoundNotes) → Through sought size all (note_segments (drop i segs)) found → length segs ≤ i
    → (notes : List Note) × HaveNotes size all notes × AreFound found (filter sought notes)
past_all sought size all segs i found t h =
    let u : Through sought size all [] found = subst (λ left. Through sought size all left found) (at_drop_all note_segments segs i h) t in (u.notes, rw append-nil at (u.have [] refl), u.are)

-- notes are determined by their bytes
ends_same : (offset : ℕ) (bytes : List ℕ) (notes notes' : List Note) (rest rest' : List ℕ) → AreNotesThen offset bytes notes rest → AreNotesThen offset bytes notes' rest' → (HoldsNote rest → ⊥) → (HoldsNote rest' → ⊥)
    → (notes ≡ notes') × (rest ≡ rest')
ends_same offset bytes [] [] rest rest' h h' bare bare' = (refl, h ∙ sym h')
ends_same offset bytes [] (note ∷ notes) rest rest' h h' bare bare' = absurd (bare (subst (λ r. HoldsNote r) (sym h) h'.0))
ends_same offset bytes (note ∷ notes) [] rest rest' h h' bare bare' = absurd (bare' (subst (λ r. HoldsNote r) (sym h') h.0))
ends_same offset bytes (note ∷ notes) (note' ∷ notes') rest rest' h h' bare bare' =
    let same = ends_same (offset + note_size bytes) (after_note bytes) notes notes' rest rest' h.2 h'.2 bare bare' in
    (ap (λ n. n ∷ notes) (sym h.1 ∙ h'.1) ∙ ap (λ ns. note' ∷ ns) same.0, same.1)

few_hold_none : (rest : List ℕ) → length rest < note_header → HoldsNote rest → ⊥
few_hold_none rest h k = omega (arith, k.header)

same_notes : (offset : ℕ) (bytes : List ℕ) (notes notes' : List Note) → AreNotes offset bytes notes → AreNotes offset bytes notes' → notes ≡ notes'
same_notes offset bytes notes notes' a b = (ends_same offset bytes notes notes' a.0 b.0 a.1 b.1 (few_hold_none a.0 a.2) (few_hold_none b.0 b.2)).0

cut_holds_none : (offset : ℕ) (bytes : List ℕ) (place : ℕ) (c : CutsNote offset bytes place) → HoldsNote c.rest → ⊥
cut_holds_none offset bytes place c k = omega (arith, k.fits, c.past)

whole_or_cut : (offset : ℕ) (bytes : List ℕ) (notes : List Note) (place : ℕ) → AreNotes offset bytes notes → CutsNote offset bytes place → ⊥
whole_or_cut offset bytes notes place a c =
    let same = ends_same offset bytes notes c.notes a.0 c.rest a.1 c.before (few_hold_none a.0 a.2) (cut_holds_none offset bytes place c) in omega (arith, ap length same.1, a.2, c.header)

same_place : (offset : ℕ) (bytes : List ℕ) (place place' : ℕ) → CutsNote offset bytes place → CutsNote offset bytes place' → place ≡ place'
same_place offset bytes place place' c d =
    let same = ends_same offset bytes c.notes d.notes c.rest d.rest c.before d.before (cut_holds_none offset bytes place c) (cut_holds_none offset bytes place' d) in omega (arith, ap length same.1, c.at, d.at)

same_cut : (size : ℕ) (s : ElfSegment) (offset offset' : ℕ) → IsCutAt size s offset → IsCutAt size s offset' → offset ≡ offset'
same_cut size s offset offset' (inl a) (inl b) = a.1 ∙ sym b.1
same_cut size s offset offset' (inl a) (inr b) = absurd (omega (arith, a.0, b.0))
same_cut size s offset offset' (inr a) (inl b) = absurd (omega (arith, a.0, b.0))
same_cut size s offset offset' (inr a) (inr b) = same_place s.offset s.body offset offset' a.1 b.1

not_both : (size : ℕ) (s : ElfSegment) (offset : ℕ) (notes : List Note) → IsCutAt size s offset → IsInFile size s → AreNotes s.offset s.body notes → ⊥
not_both size s offset notes (inl a) inside are = omega (arith, a.0, inside)
not_both size s offset notes (inr a) inside are = whole_or_cut s.offset s.body notes offset are a.1

pub same_cuts : (size : ℕ) (ss : List ElfSegment) (offset offset' : ℕ) → AreCutAt size ss offset → AreCutAt size ss offset' → offset ≡ offset'
same_cuts size [] offset offset' a b = absurd a
same_cuts size (s ∷ ss) offset offset' (inl a) (inl b) = same_cut size s offset offset' a b
same_cuts size (s ∷ ss) offset offset' (inl a) (inr b) = absurd (not_both size s offset b.1.0 a b.0 b.1.1)
same_cuts size (s ∷ ss) offset offset' (inr a) (inl b) = absurd (not_both size s offset' a.1.0 b a.0 a.1.1)
same_cuts size (s ∷ ss) offset offset' (inr a) (inr b) = same_cuts size ss offset offset' a.2 b.2

pub same_all : (size : ℕ) (ss : List ElfSegment) (notes notes' : List Note) → HaveNotes size ss notes → HaveNotes size ss notes' → notes ≡ notes'
same_all size [] notes notes' a b = a ∙ sym b
same_all size (s ∷ ss) notes notes' (front, after, e, inside, are, have) (front', after', e', inside', are', have') =
    e ∙ ap (λ f. f ++ after) (same_notes s.offset s.body front front' are are') ∙ ap (λ b. front' ++ b) (same_all size ss after after' have have') ∙ sym e'

pub whole_or_cuts : (size : ℕ) (ss : List ElfSegment) (notes : List Note) (offset : ℕ) → HaveNotes size ss notes → AreCutAt size ss offset → ⊥
whole_or_cuts size [] notes offset a b = b
whole_or_cuts size (s ∷ ss) notes offset (front, after, e, inside, are, have) (inl b) = not_both size s offset front b inside are
whole_or_cuts size (s ∷ ss) notes offset (front, after, e, inside, are, have) (inr b) = whole_or_cuts size ss after offset have b.2

-- one thing is said of a core file
pub said_once : (sought : Note → Bool) (size : ℕ) (ss : List ElfSegment) (said said' : Result CountedNotes ℕ) → SaysOf sought size ss said → SaysOf sought size ss said' → said ≡ said'
said_once sought size ss said said' (inl a) (inl b) =
    let wrap : ℕ → Result CountedNotes ℕ = λ o. Err o in a.2 ∙ ap wrap (same_cuts size (note_segments ss) a.0 b.0 a.1 b.1) ∙ sym b.2
said_once sought size ss said said' (inl a) (inr b) = absurd (whole_or_cuts size (note_segments ss) b.0 a.0 b.1 a.1)
said_once sought size ss said said' (inr a) (inl b) = absurd (whole_or_cuts size (note_segments ss) a.0 b.0 a.1 b.1)
said_once sought size ss said said' (inr a) (inr b) =
    let wrap : List Note → Result CountedNotes ℕ = λ ns. Ok (counted (filter sought ns)) in a.2 ∙ ap wrap (same_all size (note_segments ss) a.0 b.0 a.1 b.1) ∙ sym b.2

-- what was read is what the notes say
pub says : (sought : Note → Bool) (size : ℕ) (ss : List ElfSegment) (r : Result FoundNotes NotePastEnd)
    → IfOk r (λ found. (notes : List Note) × HaveNotes size (note_segments ss) notes × AreFound found (filter sought notes)) → IfErr r (λ fault. AreCutAt size (note_segments ss) fault.offset)
    → SaysOf sought size ss (said_of r)
says sought size ss (Ok found) (notes, have, are) cut = inr (notes, have, rw (are.counted, are.first) refl)
says sought size ss (Err fault) ok cut = inl (fault.offset, cut, refl)

abbrev count_in : Result CountedNotes ℕ → ℕ
count_in (Ok c) = c.count
count_in (Err e) = 0

abbrev first_in : Result CountedNotes ℕ → Option Note
first_in (Ok c) = c.first
first_in (Err e) = None

err_same : {T : Type 0} {x y : ℕ} → (let r : Result T ℕ = Err x in r) ≡ Err y → x ≡ y
err_same e = cc

err_or_ok : {T E P : Type 0} {e : E} {t : T} → (let r : Result T E = Err e in r) ≡ Ok t → P
err_or_ok h = cc

-- what was found, by what the notes say
pub found_said : (sought : Note → Bool) (size : ℕ) (ss : List ElfSegment) (found : FoundNotes) → SaysOf sought size ss (said_of (Ok found)) → (notes : List Note) × HaveNotes size (note_segments ss) notes × AreFound found (filter sought notes)
found_said sought size ss found (inl (offset, cut, e)) = err_or_ok (sym e)
found_said sought size ss found (inr (notes, have, e)) = (notes, have, record { counted = ap count_in e; first = ap first_in e })

pub cut_said : (sought : Note → Bool) (size : ℕ) (ss : List ElfSegment) (offset : ℕ) → SaysOf sought size ss (Err offset) → AreCutAt size (note_segments ss) offset
cut_said sought size ss offset (inl (place, cut, e)) = subst (AreCutAt size (note_segments ss)) (sym (err_same e)) cut
cut_said sought size ss offset (inr (notes, have, e)) = err_or_ok e
