-- Notes of bytes as notes of a front of these bytes, one list of notes after another, and what a
-- table keeps.
use Rattle.std.proofs.Common.{◌≡◌, ℕ, zero, suc, ◌+◌, ◌-◌, ◌<◌, ◌≤◌, min, inl, inr, List, [], ◌∷◌, ◌++◌, length, drop, take, set, arith, refl, sym, ◌∙◌, ap, subst, length-drop, get_or, replicate, Bool}
use Rattle.std.proofs.lemmas.List.{length-take, drop-drop, drop-take, drop_all, take-take, take_min, get_or-drop, get_or-take}
use Rattle.std.proofs.lemmas.Option.{slice_get-get_or}
use Rattle.std.proofs.lemmas.Bool.{cases_lt}
use Rattle.std.specs.Prelude.{Option, Some, None, slice_get, slice_index}
use Rattle.std.specs.List.{filter}
use Rattle.rept_elf.specs.Header.{word_at}
use Rattle.rept_elf.specs.Segments.{ElfSegment, part_of}
use Rattle.rept_maps.specs.Notes.Notes.{Note, HoldsNote, AreNotesThen, first_note, after_note, note_size, desc_offset, desc_size, padded}
use Rattle.rept_maps.specs.Notes.Found.{AreFound, AddsNotes}
use Rattle.rept_maps.specs.Notes.Ahead.{IsAhead, AreLeaps, AreAhead}
use Rattle.rept_maps.specs.declared.notes.ahead.Ahead.{Ahead}
use Rattle.rept_maps.specs.declared.notes.note.FoundNotes.{FoundNotes}
use Rattle.rept_maps.proofs.NotesLemmas.NoteLemmas.{SoFar, one_more, at_most_one, shrinks, place_after, AreFound-then}

pub one_more_ahead : (sought : Note → Bool) (offset : ℕ) (bytes : List ℕ) (ahead ahead' : Ahead) (note : Note)
    → IsAhead sought offset bytes ahead → HoldsNote ahead.rest.now → first_note (offset + (length bytes - length ahead.rest.now)) ahead.rest.now ≡ note → ahead'.rest.now ≡ after_note ahead.rest.now
    → AddsNotes ahead.found ahead'.found (filter sought (note ∷ [])) → IsAhead sought offset bytes ahead'
one_more_ahead sought offset bytes ahead ahead' note a h n e more = record {
  notes = a.notes ++ note ∷ [];
  before = subst (λ r. AreNotesThen offset bytes (a.notes ++ note ∷ []) r) (sym e) (one_more offset bytes a.notes ahead.rest.now note a.before h n);
  found = AreFound-then sought ahead.found ahead'.found a.notes (note ∷ []) a.found more;
  fewer = omega (arith, a.fewer, shrinks ahead.rest.now ahead'.rest.now h e, more.counted, at_most_one sought note);
}

-- what was read ahead of a segment, after what was found before
pub so_far_joined : (sought : Note → Bool) (offset : ℕ) (bytes : List ℕ) (ahead : Ahead) (found found' : FoundNotes) → IsAhead sought offset bytes ahead → ((notes : List Note) → AreFound ahead.found notes → AddsNotes found found' notes)
    → SoFar sought offset bytes ahead.rest.now found found'
so_far_joined sought offset bytes ahead found found' a join =
    let more = join (filter sought a.notes) a.found in
    record { notes = a.notes; before = a.before; adds = more; fewer = omega (arith, a.fewer, a.found.counted, more.counted); shorter = omega (arith, a.fewer) }

then_more : (offset : ℕ) (bytes : List ℕ) (front after : List Note) (rest rest' : List ℕ) → 12 ≤ length rest → AreNotesThen offset bytes front rest → AreNotesThen (offset + (length bytes - length rest)) rest after rest'
    → AreNotesThen offset bytes (front ++ after) rest'
then_more offset bytes [] after rest rest' long e h =
    let here : offset + (length bytes - length rest) ≡ offset = omega (arith, ap length e) in
    subst (λ r. AreNotesThen offset r after rest') e (subst (λ o. AreNotesThen o rest after rest') here h)
then_more offset bytes (note ∷ front) after rest rest' long h k =
    (h.0, h.1, then_more (offset + note_size bytes) (after_note bytes) front after rest rest' long h.2 (subst (λ o. AreNotesThen o rest after rest') (place_after offset bytes front rest h.2 long) k))

ends : (offset : ℕ) (bytes : List ℕ) (notes : List Note) (rest : List ℕ) → AreNotesThen offset bytes notes rest → (k : ℕ) × (rest ≡ drop k bytes)
ends offset bytes [] rest e = (0, e)
ends offset bytes (note ∷ notes) rest h = let e = ends (offset + note_size bytes) (after_note bytes) notes rest h.2 in (note_size bytes + e.0, e.1 ∙ drop-drop e.0 (note_size bytes) bytes)

-- what stands after notes is what is left of the bytes
rest_is : (bytes : List ℕ) (k : ℕ) (rest : List ℕ) → rest ≡ drop k bytes → rest ≡ drop (length bytes - length rest) bytes
rest_is bytes k rest e = elim (cases_lt (length bytes) k) [
  | inr le ↦ let same : length bytes - length rest ≡ k = (let l = ap length e ∙ length-drop k bytes in omega (arith, l, le)) in e ∙ ap (λ n. drop n bytes) (sym same)
  | inl lt ↦ let none : length rest ≡ 0 = (let l = ap length e ∙ length-drop k bytes in omega (arith, l, lt)) in e ∙ drop_all k bytes (omega (arith, lt)) ∙ sym (drop_all (length bytes - length rest) bytes (omega (arith, none)))
]

pub rest_of : (offset : ℕ) (bytes : List ℕ) (notes : List Note) (rest : List ℕ) → AreNotesThen offset bytes notes rest → rest ≡ drop (length bytes - length rest) bytes
rest_of offset bytes notes rest h = let e = ends offset bytes notes rest h in rest_is bytes e.0 rest e.1

-- a field of the bytes is one of their front
byte_front : (xs : List ℕ) (m o i : ℕ) → o + i < m → slice_index (drop o (take m xs)) i ≡ slice_index (drop o xs) i
byte_front xs m o i h = get_or-drop o (take m xs) i 0 ∙ get_or-take m xs (o + i) 0 h ∙ sym (get_or-drop o xs i 0)

word_front : (xs : List ℕ) (m o : ℕ) → o + 4 ≤ m → word_at (take m xs) o ≡ word_at xs o
word_front xs m o h = rw (byte_front xs m o 0 (omega arith), byte_front xs m o 1 (omega arith), byte_front xs m o 2 (omega arith), byte_front xs m o 3 (omega arith)) refl

drop_front : (xs : List ℕ) (m o : ℕ) → o ≤ m → drop o (take m xs) ≡ take (m - o) (drop o xs)
drop_front xs m o h = let e : m ≡ o + (m - o) = omega arith in ap (λ n. drop o (take n xs)) e ∙ drop-take o (m - o) xs

part_front : (xs : List ℕ) (m o l : ℕ) → o + l ≤ m → part_of (take m xs) o l ≡ part_of xs o l
part_front xs m o l h = ap (take l) (drop_front xs m o (omega arith)) ∙ take-take l (m - o) (drop o xs) (omega arith)

-- what is left of a part of a file is a front of what the file has from there on
pub front_of_file : (sought : Note → Bool) (file : List ℕ) (offset size : ℕ) (body : List ℕ) (ahead : Ahead) → body ≡ part_of file offset size → IsAhead sought offset body ahead
    → ahead.rest.now ≡ take (length ahead.rest.now) (drop (offset + (length body - length ahead.rest.now)) file)
front_of_file sought file offset size body ahead is a =
    let rest = ahead.rest.now in
    let j = length body - length rest in
    let all : body ≡ take (length body) (drop offset file) =
    is ∙ sym (take_min size (drop offset file)) ∙ (let e : min size (length (drop offset file)) ≡ length body = sym (length-take size (drop offset file)) ∙ ap length (sym is) in ap (λ n. take n (drop offset file)) e) in
    let left : length body - j ≡ length rest = omega (arith, a.fewer) in
    rest_of offset body a.notes rest a.before ∙ ap (drop j) all ∙ drop_front (drop offset file) (length body) j (omega arith)
    ∙ ap (λ n. take n (drop j (drop offset file))) left ∙ ap (take (length rest)) (drop-drop j offset file)

-- the note that begins the bytes begins their front, if that has it with its padding
record FrontHolds (bytes : List ℕ) (m : ℕ) : Type 0 where
  holds : HoldsNote (take m bytes)
  size : note_size (take m bytes) ≡ note_size bytes
  same : (offset : ℕ) → first_note offset (take m bytes) ≡ first_note offset bytes
  after : after_note (take m bytes) ≡ take (m - note_size bytes) (drop (note_size bytes) bytes)

up : (n : ℕ) → n ≤ padded n
up n = omega arith

front_holds : (bytes : List ℕ) (m : ℕ) → HoldsNote bytes → note_size bytes ≤ m → m ≤ length bytes → FrontHolds bytes m
front_holds bytes m h fits le =
    let long : 12 ≤ m = omega (arith, fits, h.header) in
    let name = word_front bytes m 0 (omega arith) in
    let desc = word_front bytes m 4 (omega arith) in
    let kind = word_front bytes m 8 (omega arith) in
    let size : length (take m bytes) ≡ m = length-take m bytes ∙ (omega arith) in
    let end : desc_offset bytes + desc_size bytes ≤ m = (let u = up (desc_size bytes) in omega (arith, fits, u)) in
    let name_part = part_front bytes m 12 (word_at bytes 0) (let u = up (word_at bytes 0) in omega (arith, end, u)) in
    let desc_part = part_front bytes m (desc_offset bytes) (desc_size bytes) end in
    record {
      holds = record { header = rw size long; fits = rw (size, name, desc) end };
      size = rw (name, desc) refl;
      same = λ offset. rw (name, desc, kind, name_part, desc_part) refl;
      after = rw (name, desc) (drop_front bytes m (note_size bytes) fits);
    }

-- notes of the bytes are notes of their front, if that has them and the header of one more
front_notes : (notes : List Note) (offset : ℕ) (bytes : List ℕ) (k m : ℕ) → AreNotesThen offset bytes notes (drop k bytes) → k + 12 ≤ m → m ≤ length bytes → AreNotesThen offset (take m bytes) notes (drop k (take m bytes))
front_notes [] offset bytes k m e lt le =
    let none : k ≡ 0 = (let l = ap length e in let d = length-drop k bytes in omega (arith, l, d, lt, le)) in
    rw none refl
front_notes (note ∷ notes) offset bytes k m h lt le =
    let within : note_size bytes ≤ k = (let s = rest_of (offset + note_size bytes) (after_note bytes) notes (drop k bytes) h.2 in let l = ap length s ∙ length-drop (length (after_note bytes) - length (drop k bytes)) (after_note bytes) in let d = length-drop k bytes in let a = length-drop (note_size bytes) bytes in omega (arith, l, d, a, lt, le)) in
    let f = front_holds bytes m h.0 (omega (arith, within, lt)) le in
    let whole : note_size bytes + (k - note_size bytes) ≡ k = omega (arith, within) in
    let from : drop (k - note_size bytes) (drop (note_size bytes) bytes) ≡ drop k bytes = drop-drop (k - note_size bytes) (note_size bytes) bytes ∙ ap (λ n. drop n bytes) whole in
    let to : drop (k - note_size bytes) (after_note (take m bytes)) ≡ drop k (take m bytes) =
    ap (drop (k - note_size bytes)) (f.after ∙ sym (drop_front bytes m (note_size bytes) (omega (arith, within, lt)))) ∙ drop-drop (k - note_size bytes) (note_size bytes) (take m bytes) ∙ ap (λ n. drop n (take m bytes)) whole in
    let later : AreNotesThen (offset + note_size bytes) (take (m - note_size bytes) (drop (note_size bytes) bytes)) notes (drop (k - note_size bytes) (take (m - note_size bytes) (drop (note_size bytes) bytes))) =
    front_notes notes (offset + note_size bytes) (drop (note_size bytes) bytes) (k - note_size bytes) (m - note_size bytes) (subst (λ r. AreNotesThen (offset + note_size bytes) (after_note bytes) notes r) (sym from) h.2) (omega (arith, within, lt)) (rw (length-drop (note_size bytes) bytes) (omega (arith, le))) in
    (f.holds, f.same offset ∙ h.1, subst (λ r. AreNotesThen (offset + note_size (take m bytes)) (after_note (take m bytes)) notes r) to (subst (λ bs. AreNotesThen (offset + note_size (take m bytes)) bs notes (drop (k - note_size bytes) bs)) (sym f.after) (subst (λ n. AreNotesThen (offset + n) (take (m - note_size bytes) (drop (note_size bytes) bytes)) notes (drop (k - note_size bytes) (take (m - note_size bytes) (drop (note_size bytes) bytes)))) (sym f.size) later)))

pub passed : (sought : Note → Bool) (offset : ℕ) (segment bytes : List ℕ) (ahead leap ahead' : Ahead) → IsAhead sought offset segment ahead → IsAhead sought (offset + (length segment - length ahead.rest.now)) bytes leap
    → ahead.rest.now ≡ take (length ahead.rest.now) bytes
    → (length bytes - length leap.rest.now) + 12 ≤ length ahead.rest.now → ahead'.rest.now ≡ drop (length bytes - length leap.rest.now) ahead.rest.now
    → ((notes : List Note) → AreFound leap.found notes → AddsNotes ahead.found ahead'.found notes)
    → IsAhead sought offset segment ahead'
passed sought offset segment bytes ahead leap ahead' a b front fits rest join =
    let m = length ahead.rest.now in
    let p = length bytes - length leap.rest.now in
    let place = offset + (length segment - length ahead.rest.now) in
    let le : m ≤ length bytes = (let l = ap length front ∙ length-take m bytes in omega (arith, l)) in
    let then_rest : AreNotesThen place bytes b.notes (drop p bytes) = subst (λ r. AreNotesThen place bytes b.notes r) (rest_of place bytes b.notes leap.rest.now b.before) b.before in
    let in_front : AreNotesThen place (take m bytes) b.notes (drop p (take m bytes)) = front_notes b.notes place bytes p m then_rest fits le in
    let in_rest : AreNotesThen place ahead.rest.now b.notes ahead'.rest.now = subst (λ r. AreNotesThen place ahead.rest.now b.notes r) (sym rest) (subst (λ bs. AreNotesThen place bs b.notes (drop p bs)) (sym front) in_front) in
    let more = join (filter sought b.notes) b.found in
    let long : 12 ≤ length ahead.rest.now = omega (arith, fits) in
    record {
      notes = a.notes ++ b.notes;
      before = then_more offset segment a.notes b.notes ahead.rest.now ahead'.rest.now long a.before in_rest;
      found = AreFound-then sought ahead.found ahead'.found a.notes b.notes a.found more;
      fewer = (let l = ap length rest ∙ length-drop p ahead.rest.now in omega (arith, l, fits, a.fewer, b.fewer, b.found.counted, more.counted));
    }

some_same : {X : Type 0} {x y : X} → Some x ≡ Some y → x ≡ y
some_same e = cc

-- what holds of each element of a list, and of one put in its place
pub kept_at : {X : Type 0} (P : ℕ → X → Type 0) (xs : List X) (i : ℕ) (y : X) → ((j : ℕ) (x : X) → slice_get xs j ≡ Some x → P j x) → P i y → (j : ℕ) (x : X) → slice_get (set xs i y) j ≡ Some x → P j x
kept_at P [] i y all new j x at = all j x at
kept_at P (z ∷ xs) zero y all new zero x at = subst (P 0) (some_same at) new
kept_at P (z ∷ xs) zero y all new (suc j) x at = all (suc j) x at
kept_at P (z ∷ xs) (suc i) y all new zero x at = all zero x at
kept_at P (z ∷ xs) (suc i) y all new (suc j) x at = kept_at (λ k. P (suc k)) xs i y (λ k w. all (suc k) w) new j x at

-- nothing is kept in a new table
none_kept : {X : Type 0} (n i : ℕ) (x : X) → slice_get (replicate n None) i ≡ Some (Some x) → ⊥
none_kept zero i x e = cc
none_kept (suc n) zero x e = cc
none_kept (suc n) (suc i) x e = none_kept n i x e

pub no_leaps : (sought : Note → Bool) (file : List ℕ) (n : ℕ) → AreLeaps sought file (replicate n None)
no_leaps sought file n i leap at = absurd (none_kept n i leap at)

pub none_ahead : (sought : Note → Bool) (segments : List ElfSegment) (n : ℕ) → AreAhead sought segments (replicate n None)
none_ahead sought segments n i s ahead is at = absurd (none_kept n i ahead at)

-- a segment that was gone through further
pub ahead_put : (sought : Note → Bool) (segments : List ElfSegment) (aheads : List (Option Ahead)) (i : ℕ) (s : ElfSegment) (ahead : Ahead)
    → AreAhead sought segments aheads → slice_get segments i ≡ Some s → IsAhead sought s.offset s.body ahead → AreAhead sought segments (set aheads i (Some ahead))
ahead_put sought segments aheads i s ahead all is new j other more there at =
    kept_at (λ k x. (t : ElfSegment) (a : Ahead) → slice_get segments k ≡ Some t → x ≡ Some a → IsAhead sought t.offset t.body a) aheads i (Some ahead)
    (λ k x found t a on e. all k t a on (found ∙ ap Some e))
    (λ t a on e. subst (IsAhead sought t.offset t.body) (some_same e) (subst (λ (u : ElfSegment). IsAhead sought u.offset u.body ahead) (some_same (sym is ∙ on)) new))
    j (Some more) at other more there refl

-- what is kept of a segment
pub ahead_at : (sought : Note → Bool) (segments : List ElfSegment) (aheads : List (Option Ahead)) (i : ℕ) (s : ElfSegment) (ahead : Ahead)
    → AreAhead sought segments aheads → slice_get segments i ≡ Some s → i < length aheads → get_or aheads i None ≡ Some ahead → IsAhead sought s.offset s.body ahead
ahead_at sought segments aheads i s ahead all is inside e = all i s ahead is (slice_get-get_or aheads i None inside ∙ ap Some e)
