-- Looking for sought notes one by one.
use Rattle.std.proofs.Common.{◌≡◌, ℕ, zero, suc, ◌+◌, ◌-◌, ◌<◌, ◌≤◌, List, [], ◌∷◌, ◌++◌, length, drop, Bool, true, false, cond, Some, slice_get, refl, sym, ◌∙◌, ap, subst, arith, append_assoc, length-append}
use Rattle.std.proofs.lemmas.List.{append-nil, at_drop_all}
use Rattle.std.proofs.lemmas.List.Elements.{filter-append}
use Rattle.std.specs.Prelude.{MatchBool}
use Rattle.std.specs.List.{filter}
use Rattle.rept_elf.specs.Segments.{ElfSegment, is_note}
use Rattle.rept_elf.proofs.SegmentLemmas.{drop-slice_get}
use Rattle.rept_maps.specs.Notes.Notes.{Note, HoldsNote, AreNotesThen, AreNotes, HaveNotes, first_note, after_note, note_size, note_header, note_segments, desc_offset, desc_size}
use Rattle.rept_maps.specs.Notes.Nth.{AreNotesOf}
use Rattle.rept_maps.proofs.NotesLemmas.NoteLemmas.{one_more, place_after, shrinks}

-- the notes that were passed over, and how many sought ones are left to pass over
pub record Passed (sought : Note → Bool) (offset : ℕ) (bytes rest : List ℕ) (skip left : ℕ) : Type 0 where
  pub done : List Note
  pub before : AreNotesThen offset bytes done rest
  pub counted : length (filter sought done) + left ≡ skip
  pub shorter : length rest ≤ length bytes

pub none_passed : (sought : Note → Bool) (offset : ℕ) (bytes : List ℕ) (skip : ℕ) → Passed sought offset bytes bytes skip skip
none_passed sought offset bytes skip = record { done = []; before = refl; counted = omega arith; shorter = omega arith }

count_one : (sought : Note → Bool) (note : Note) (b : Bool) → sought note ≡ b → length (filter sought (note ∷ [])) ≡ cond b 1 0
count_one sought note true e = rw e refl
count_one sought note false e = rw e refl

pub one_passed : (sought : Note → Bool) (offset : ℕ) (bytes rest rest' : List ℕ) (skip left left' : ℕ) (note : Note) (b : Bool) → Passed sought offset bytes rest skip left → HoldsNote rest
    → first_note (offset + (length bytes - length rest)) rest ≡ note → rest' ≡ after_note rest → sought note ≡ b → cond b 1 0 + left' ≡ left → Passed sought offset bytes rest' skip left'
one_passed sought offset bytes rest rest' skip left left' note b p h n e is less =
    let c = p.counted in
    let one = count_one sought note b is in
    let sizes : length (filter sought (p.done ++ note ∷ [])) ≡ length (filter sought p.done) + length (filter sought (note ∷ [])) = ap (length {A = Note}) (filter-append sought p.done (note ∷ [])) ∙ length-append (filter sought p.done) (filter sought (note ∷ [])) in
    record {
      done = p.done ++ note ∷ [];
      before = subst (λ (r : List ℕ). AreNotesThen offset bytes (p.done ++ note ∷ []) r) (sym e) (one_more offset bytes p.done rest note p.before h n);
      counted = omega (arith, c, one, sizes, less);
      shorter = omega (arith, p.shorter, shrinks rest rest' h e);
    }

-- the notes begin with those that were passed over, and the others stand at this offset
pub split : (offset : ℕ) (bytes : List ℕ) (done : List Note) (rest : List ℕ) (notes : List Note) → AreNotesThen offset bytes done rest → AreNotes offset bytes notes
    → (more : List Note) × (at : ℕ) × (notes ≡ done ++ more) × AreNotes at rest more × (12 ≤ length rest → at ≡ offset + (length bytes - length rest))
split offset bytes [] rest notes b a =
    let same = ap (length {A = ℕ}) b in
    (notes, offset, refl, subst (λ (r : List ℕ). AreNotes offset r notes) (sym b) a, λ long. omega (arith, same))
split offset bytes (note ∷ done) rest [] b a =
    let h = (b.0).header in
    let few = a.2 in
    let same = ap (length {A = ℕ}) a.1 in
    absurd (omega arith)
split offset bytes (note ∷ done) rest (other ∷ notes) b a =
    let later = a.1 in
    let s = split (offset + note_size bytes) (after_note bytes) done rest notes b.2 (a.0, later.2, a.2) in
    let first : note ≡ other = sym b.1 ∙ later.1 in
    let whole : notes ≡ done ++ s.0 = s.2 in
    (s.0, s.1, (cc), s.3, λ long. s.4 long ∙ sym (place_after offset bytes done rest b.2 long))

slice_get_past : (xs ys : List Note) (k : ℕ) → slice_get (xs ++ ys) (length xs + k) ≡ slice_get ys k
slice_get_past [] ys k = ap (slice_get ys) (omega arith)
slice_get_past (x ∷ xs) ys k = let e : length (x ∷ xs) + k ≡ suc (length xs + k) = omega arith in rw e (slice_get_past xs ys k)

slice_get_front : (xs ys : List Note) (k : ℕ) (note : Note) → slice_get xs k ≡ Some note → slice_get (xs ++ ys) k ≡ Some note
slice_get_front [] ys k note h = cc
slice_get_front (x ∷ xs) ys zero note h = h
slice_get_front (x ∷ xs) ys (suc k) note h = slice_get_front xs ys k note h

-- a note that is found after those that were passed over
pub found_after : (sought : Note → Bool) (done more : List Note) (skip left : ℕ) (note : Note) → length (filter sought done) + left ≡ skip → slice_get (filter sought more) left ≡ Some note → slice_get (filter sought (done ++ more)) skip ≡ Some note
found_after sought done more skip left note counted at =
    subst (λ (k : ℕ). slice_get (filter sought (done ++ more)) k ≡ Some note) counted (rw (filter-append sought done more, slice_get_past (filter sought done) (filter sought more) left) at)

pub found_before : (sought : Note → Bool) (front after : List Note) (left : ℕ) (note : Note) → slice_get (filter sought front) left ≡ Some note → slice_get (filter sought (front ++ after)) left ≡ Some note
found_before sought front after left note at = rw (filter-append sought front after) (slice_get_front (filter sought front) (filter sought after) left note at)

-- the note that comes next is the one that is looked for
pub found_here : (sought : Note → Bool) (offset : ℕ) (bytes rest : List ℕ) (skip left : ℕ) (note : Note) (p : Passed sought offset bytes rest skip left) → note_header ≤ length rest → HoldsNote rest
    → first_note (offset + (length bytes - length rest)) rest ≡ note → sought note ≡ true → left ≡ 0 → (notes : List Note) → AreNotes offset bytes notes → slice_get (filter sought notes) skip ≡ Some note
found_here sought offset bytes rest skip left note p long h n is none notes a = go s.0 s.1 s.2 s.3 s.4 where
  s : (more : List Note) × (at : ℕ) × (notes ≡ p.done ++ more) × AreNotes at rest more × (12 ≤ length rest → at ≡ offset + (length bytes - length rest))
  s = split offset bytes p.done rest notes p.before a

  go : (more : List Note) (at : ℕ) → notes ≡ p.done ++ more → AreNotes at rest more → (12 ≤ length rest → at ≡ offset + (length bytes - length rest)) → slice_get (filter sought notes) skip ≡ Some note
  go [] at e m there = let few = m.2 in let same = ap (length {A = ℕ}) m.1 in absurd (omega arith)
  go (other ∷ more) at e m there =
      let later = m.1 in
      let placed : first_note at rest ≡ note = subst (λ (o : ℕ). first_note o rest ≡ note) (sym (there long)) n in
      let same : note ≡ other = sym placed ∙ later.1 in
      let here : slice_get (filter sought (note ∷ more)) 0 ≡ Some note = rw is refl in
      let next : slice_get (filter sought (other ∷ more)) left ≡ Some note = subst (λ (o : Note). slice_get (filter sought (o ∷ more)) left ≡ Some note) same (rw none here) in
      subst (λ (ns : List Note). slice_get (filter sought ns) skip ≡ Some note) (sym e) (found_after sought p.done (other ∷ more) skip left note p.counted next)

-- a note that is cut isn't of whole notes
pub cut_here : (sought : Note → Bool) (offset : ℕ) (bytes rest : List ℕ) (skip left : ℕ) (p : Passed sought offset bytes rest skip left) → note_header ≤ length rest → length rest < desc_offset rest + desc_size rest
    → (notes : List Note) → AreNotes offset bytes notes → ⊥
cut_here sought offset bytes rest skip left p long cut notes a = go s.0 s.1 s.3 where
  s : (more : List Note) × (at : ℕ) × (notes ≡ p.done ++ more) × AreNotes at rest more × (12 ≤ length rest → at ≡ offset + (length bytes - length rest))
  s = split offset bytes p.done rest notes p.before a

  go : (more : List Note) (at : ℕ) → AreNotes at rest more → ⊥
  go [] at m = let few = m.2 in let same = ap (length {A = ℕ}) m.1 in omega arith
  go (other ∷ more) at m = let fits = ((m.1).0).fits in omega arith

-- all notes were passed over
pub all_passed : (sought : Note → Bool) (offset : ℕ) (bytes rest : List ℕ) (skip left : ℕ) (p : Passed sought offset bytes rest skip left) → length rest < note_header
    → (notes : List Note) → AreNotes offset bytes notes → length (filter sought notes) + left ≡ skip
all_passed sought offset bytes rest skip left p few notes a = go s.0 s.1 s.2 s.3 where
  s : (more : List Note) × (at : ℕ) × (notes ≡ p.done ++ more) × AreNotes at rest more × (12 ≤ length rest → at ≡ offset + (length bytes - length rest))
  s = split offset bytes p.done rest notes p.before a

  go : (more : List Note) (at : ℕ) → notes ≡ p.done ++ more → AreNotes at rest more → length (filter sought notes) + left ≡ skip
  go [] at e m = let none : notes ≡ p.done = e ∙ append-nil p.done in subst (λ (ns : List Note). length (filter sought ns) + left ≡ skip) (sym none) p.counted
  go (other ∷ more) at e m = let long = ((m.1).0).header in absurd (omega arith)

-- the segments: the notes of those before a number, and those of the others
abbrev pub Segmented : (Note → Bool) → ℕ → List ElfSegment → ℕ → ℕ → ℕ → Type 0
Segmented sought size ss i skip left =
    (notes : List Note) → HaveNotes size (note_segments ss) notes → (done : List Note) × (more : List Note) × (notes ≡ done ++ more) × HaveNotes size (note_segments (drop i ss)) more × (length (filter sought done) + left ≡ skip)

pub none_segmented : (sought : Note → Bool) (size : ℕ) (ss : List ElfSegment) (skip : ℕ) → Segmented sought size ss 0 skip skip
none_segmented sought size ss skip notes have = ([], notes, refl, have, omega arith)

-- the notes of the segment of a number, and those of the segments after it
segment_split : (size : ℕ) (ss : List ElfSegment) (i : ℕ) (s : ElfSegment) (more : List Note) → slice_get ss i ≡ Some s → HaveNotes size (note_segments (drop i ss)) more
    → (front : List Note) × (after : List Note) × (more ≡ front ++ after) × AreNotesOf s front × HaveNotes size (note_segments (drop (i + 1) ss)) after
segment_split size ss i s more at have = either (is_note s) (subst (λ (ts : List ElfSegment). HaveNotes size (note_segments ts) more) (drop-slice_get ss i s at) have) where
  either : (b : Bool) → HaveNotes size (cond b (s ∷ note_segments (drop (i + 1) ss)) (note_segments (drop (i + 1) ss))) more
      → (front : List Note) × (after : List Note) × (more ≡ front ++ after) × MatchBool b (AreNotes s.offset s.body front) (front ≡ []) × HaveNotes size (note_segments (drop (i + 1) ss)) after
  either true h = (h.0, h.1, h.2, h.4, h.5)
  either false h = ([], more, refl, refl, h)

-- one segment more is passed over
pub segment_passed : (sought : Note → Bool) (size : ℕ) (ss : List ElfSegment) (i : ℕ) (s : ElfSegment) (skip left left' : ℕ) → Segmented sought size ss i skip left → slice_get ss i ≡ Some s
    → ((notes : List Note) → AreNotesOf s notes → length (filter sought notes) + left' ≡ left) → Segmented sought size ss (i + 1) skip left'
segment_passed sought size ss i s skip left left' so at past notes have =
    let p = so notes have in
    let q = segment_split size ss i s p.1 at p.3 in
    let n = past q.0 q.3 in
    let c = p.4 in
    let sizes : length (filter sought (p.0 ++ q.0)) ≡ length (filter sought p.0) + length (filter sought q.0) = ap (length {A = Note}) (filter-append sought p.0 q.0) ∙ length-append (filter sought p.0) (filter sought q.0) in
    (p.0 ++ q.0, q.1, p.2 ∙ ap (λ (ns : List Note). p.0 ++ ns) q.2 ∙ sym (append_assoc p.0 q.0 q.1), q.4, omega (arith, n, c, sizes))

-- the note is in the segment
pub segment_found : (sought : Note → Bool) (size : ℕ) (ss : List ElfSegment) (i : ℕ) (s : ElfSegment) (skip left : ℕ) (note : Note) → Segmented sought size ss i skip left → slice_get ss i ≡ Some s
    → ((notes : List Note) → AreNotesOf s notes → slice_get (filter sought notes) left ≡ Some note) → (notes : List Note) → HaveNotes size (note_segments ss) notes → slice_get (filter sought notes) skip ≡ Some note
segment_found sought size ss i s skip left note so at found notes have =
    let p = so notes have in
    let q = segment_split size ss i s p.1 at p.3 in
    let here : slice_get (filter sought (q.0 ++ q.1)) left ≡ Some note = found_before sought q.0 q.1 left note (found q.0 q.3) in
    let there : slice_get (filter sought p.1) left ≡ Some note = subst (λ (ns : List Note). slice_get (filter sought ns) left ≡ Some note) (sym q.2) here in
    subst (λ (ns : List Note). slice_get (filter sought ns) skip ≡ Some note) (sym p.2) (found_after sought p.0 p.1 skip left note p.4 there)

-- all segments are passed over
pub all_segments : (sought : Note → Bool) (size : ℕ) (ss : List ElfSegment) (i skip left : ℕ) → Segmented sought size ss i skip left → length ss ≤ i
    → (notes : List Note) → HaveNotes size (note_segments ss) notes → length (filter sought notes) ≤ skip
all_segments sought size ss i skip left so past notes have =
    let p = so notes have in
    let none : p.1 ≡ [] = subst (λ (ts : List ElfSegment). HaveNotes size ts p.1) (at_drop_all note_segments ss i past) p.3 in
    let whole : notes ≡ p.0 = p.2 ∙ ap (λ (ns : List Note). p.0 ++ ns) none ∙ append-nil p.0 in
    let c = p.4 in
    let m : length (filter sought notes) ≡ length (filter sought p.0) = ap (λ (ns : List Note). length (filter sought ns)) whole in
    omega (arith, m, c)
