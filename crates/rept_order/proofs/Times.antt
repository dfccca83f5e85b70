-- In a sound course the order is that by times.
use Rattle.std.proofs.Common.{◌≡◌, ℕ, zero, suc, ◌<◌, ◌≤◌, true, List, [], ◌∷◌, length, Option, Some, None, slice_get, unwrap_or, inl, inr, refl, sym, ap, ◌∙◌, subst, arith}
use Rattle.std.proofs.lemmas.Bool.{cases_order}
use Rattle.rept_steps.specs.declared.slice.Slice.{Slice}
use Rattle.rept_steps.specs.Course.{Course, Row, row_of, rows_of, slices_of, IsRow, calls, slice_of, no_thread, CallsEnd, IsAlone, IsSoundCourse}
use Rattle.rept_order.specs.Events.{Part, Event, IsEvent, FitsRow, slice_by, event_slice, IsBefore, Before, Chain, Precedes}
use Rattle.rept_order.specs.Events.Part.{whole, entry, return}
use Rattle.rept_order.specs.Events.IsBefore.{by_row, by_call, by_time}
use Rattle.rept_order.specs.Times.{IsOwnBefore, begin_in, begin_from, begin_of, EndsBefore, Sooner}
use Rattle.rept_order.specs.Times.IsOwnBefore.{rows, call}
use Rattle.rept_order.proofs.Sequence.{part_of, chain_last}
use Rattle.rept_order.proofs.Slots.{slot, slot_mono, slot_strict, places_apart, place_time, place_before, has_slice, by_slot, by_slot_after}

abbrev pub slot_by : Part → ℕ → ℕ
slot_by whole k = k
slot_by entry k = k
slot_by return k = suc k

slot_least : (p : Part) (k : ℕ) → k ≤ slot_by p k
slot_least whole k = omega arith
slot_least entry k = omega arith
slot_least return k = omega arith

slice_by_slot : (p : Part) (slices : List Slice) (i : ℕ) → slice_by p slices i ≡ slice_get slices (slot_by p (slot slices i))
slice_by_slot whole slices i = by_slot slices i
slice_by_slot entry slices i = by_slot slices i
slice_by_slot return slices i = by_slot_after slices i

same_slice : {a b : Slice} → Some a ≡ Some b → a ≡ b
same_slice e = cc

none_slice : {a : Slice} → None ≡ Some a → ⊥
none_slice e = cc

entry_return : entry ≡ return → ⊥
entry_return e = cc

-- the place of an event's slice
abbrev pub event_slot : Course → Event → ℕ
event_slot C e = slot_by e.part (slot (slices_of C e.row.thread) e.row.step)

-- the place of the slice before whose begin an event doesn't happen
pub record BeginsAt (C : Course) (e : Event) : Type 0 where
  pub place : ℕ
  pub slice : Slice
  pub is : slice_get (slices_of C e.row.thread) place ≡ Some slice
  pub begin : begin_of C e ≡ slice.begin
  pub least : slot (slices_of C e.row.thread) e.row.step ≤ place
  pub most : place ≤ event_slot C e

module _ (C : Course) (sound : IsSoundCourse C) where
  pub event_at : (e : Event) → event_slice C e ≡ slice_get (slices_of C e.row.thread) (event_slot C e)
  event_at e = slice_by_slot e.part (slices_of C e.row.thread) e.row.step

  pub row_slice : (r : Row) → IsRow C r → (s : Slice) × (slice_of (slices_of C r.thread) r.step ≡ Some s)
  row_slice r is = has_slice (slices_of C r.thread) (length (rows_of C r.thread)) r.step (sound.taken r.thread) is

  begins_by : (e : Event) (o : Option Slice) → IsEvent C e → event_slice C e ≡ o → BeginsAt C e
  begins_by e (Some u) is found = record {
    place = event_slot C e;
    slice = u;
    is = sym (event_at e) ∙ found;
    begin = ap (λ (x : Option Slice). begin_from x (slice_of (slices_of C e.row.thread) e.row.step)) found;
    least = slot_least e.part (slot (slices_of C e.row.thread) e.row.step);
    most = omega arith;
  }
  begins_by e None is found =
      let own = row_slice e.row is.row in
      record {
        place = slot (slices_of C e.row.thread) e.row.step;
        slice = own.0;
        is = sym (by_slot (slices_of C e.row.thread) e.row.step) ∙ own.1;
        begin = ap (λ (x : Option Slice). begin_from x (slice_of (slices_of C e.row.thread) e.row.step)) found ∙ ap begin_in own.1;
        least = omega arith;
        most = slot_least e.part (slot (slices_of C e.row.thread) e.row.step);
      }

  pub begins : (e : Event) → IsEvent C e → BeginsAt C e
  begins e is = begins_by e (event_slice C e) is refl

  -- slices of one thread, by their places
  in_places : (t j k : ℕ) (s u : Slice) → slice_get (slices_of C t) j ≡ Some s → slice_get (slices_of C t) k ≡ Some u → j ≤ k → (s.begin ≤ u.begin) × (s.end ≤ u.end)
  in_places t j k s u is its least =
      let one = place_time (slices_of C t) j s (sound.in_time t) is in
      let other = place_time (slices_of C t) k u (sound.in_time t) its in
      elim (cases_order j k) [
        | inl same ↦
            let slice : s ≡ u = same_slice (sym is ∙ ap (slice_get (slices_of C t)) same ∙ its) in
            let begins : s.begin ≡ u.begin = ap (λ (v : Slice). v.begin) slice in
            let ends : s.end ≡ u.end = ap (λ (v : Slice). v.end) slice in
            (omega arith, omega arith)
        | inr (inl less) ↦ let apart = places_apart (slices_of C t) j k s u (sound.in_time t) is its less in (omega arith, omega arith)
        | inr (inr more) ↦ absurd (omega arith)
      ]

  pub slice_time : (e : Event) (s : Slice) → event_slice C e ≡ Some s → s.begin ≤ s.end
  slice_time e s is = place_time (slices_of C e.row.thread) (event_slot C e) s (sound.in_time e.row.thread) (sym (event_at e) ∙ is)

  pub begin_is : (e : Event) (s : Slice) → event_slice C e ≡ Some s → begin_of C e ≡ s.begin
  begin_is e s is = ap (λ (x : Option Slice). begin_from x (slice_of (slices_of C e.row.thread) e.row.step)) is

  module _ (ends : CallsEnd C) where
    -- an event of an earlier row is in no later slice
    row_slot : (t i j : ℕ) (p : Part) → IsRow C (row_of t i) → FitsRow (calls C (row_of t i)) p → i < j → slot_by p (slot (slices_of C t) i) ≤ slot (slices_of C t) j
    row_slot t i j whole is fits less = slot_mono (slices_of C t) i j (omega arith)
    row_slot t i j entry is fits less = slot_mono (slices_of C t) i j (omega arith)
    row_slot t i j return is fits less =
        let own = row_slice (row_of t i) is in
        let far = ends (row_of t i) own.0 fits own.1 in
        slot_strict (slices_of C t) i j own.0 own.1 (omega arith)

    own_slot : (e f : Event) → IsEvent C e → e.row.thread ≡ f.row.thread → IsOwnBefore e f → event_slot C e ≤ slot (slices_of C f.row.thread) f.row.step
    own_slot e f is same (rows less) = subst (λ (u : ℕ). event_slot C e ≤ slot (slices_of C u) f.row.step) same (row_slot e.row.thread e.row.step f.row.step e.part is.row is.part less)
    own_slot e f is same (call row first second) =
        let one : slot_by e.part (slot (slices_of C e.row.thread) e.row.step) ≡ slot (slices_of C e.row.thread) e.row.step = ap (λ (p : Part). slot_by p (slot (slices_of C e.row.thread) e.row.step)) first in
        let other : slot (slices_of C e.row.thread) e.row.step ≡ slot (slices_of C f.row.thread) f.row.step = ap (λ (r : Row). slot (slices_of C r.thread) r.step) row in
        omega arith

    pub begin_mono : (e f : Event) → IsEvent C e → IsEvent C f → e.row.thread ≡ f.row.thread → IsOwnBefore e f → begin_of C e ≤ begin_of C f
    begin_mono e f is its same own =
        let one = begins e is in
        let other = begins f its in
        let slots = own_slot e f is same own in
        let most = one.most in
        let least = other.least in
        let here : slice_get (slices_of C f.row.thread) one.place ≡ Some one.slice = subst (λ (u : ℕ). slice_get (slices_of C u) one.place ≡ Some one.slice) same one.is in
        let times = (in_places f.row.thread one.place other.place one.slice other.slice here other.is (omega arith)).0 in
        let first = one.begin in
        let second = other.begin in
        omega arith

    own_ends : (e f g : Event) → IsEvent C e → e.row.thread ≡ f.row.thread → IsOwnBefore e f → EndsBefore C f g → EndsBefore C e g
    own_ends e f g is same own later =
        let slots = own_slot e f is same own in
        let least = slot_least f.part (slot (slices_of C f.row.thread) f.row.step) in
        let there : slice_get (slices_of C f.row.thread) (event_slot C f) ≡ Some later.slice = sym (event_at f) ∙ later.in_slice in
        let found = place_before (slices_of C f.row.thread) (event_slot C e) (event_slot C f) later.slice there (omega arith) in
        let times = (in_places f.row.thread (event_slot C e) (event_slot C f) found.0 later.slice found.1 there (omega arith)).1 in
        let less = later.less in
        record {
          slice = found.0;
          in_slice = event_at e ∙ subst (λ (u : ℕ). slice_get (slices_of C u) (event_slot C e) ≡ Some found.0) (sym same) found.1;
          less = omega arith;
        }

  own_trans : (e f g : Event) → IsOwnBefore e f → IsOwnBefore f g → IsOwnBefore e g
  own_trans e f g (rows a) (rows b) = rows (omega arith)
  own_trans e f g (rows a) (call row first second) = let same : f.row.step ≡ g.row.step = ap (λ (r : Row). r.step) row in rows (omega arith)
  own_trans e f g (call row first second) (rows b) = let same : e.row.step ≡ f.row.step = ap (λ (r : Row). r.step) row in rows (omega arith)
  own_trans e f g (call row first second) (call other third fourth) = absurd (entry_return (sym third ∙ second))

  ends_ends : (e f g : Event) → EndsBefore C e f → EndsBefore C f g → EndsBefore C e g
  ends_ends e f g a b =
      let first = a.less in
      let second = b.less in
      let begin = begin_is f b.slice b.in_slice in
      let own = slice_time f b.slice b.in_slice in
      record { slice = a.slice; in_slice = a.in_slice; less = omega arith }

  -- one thread in one slice has no order by times
  pub only_slice : (alone : IsAlone C) (t k : ℕ) (u : Slice) → slice_get (slices_of C t) k ≡ Some u → u ≡ alone.slice
  only_slice alone t k u is = by_thread t (rw alone.only at is)
    where
      by_place : (k : ℕ) → slice_get (alone.slice ∷ []) k ≡ Some u → u ≡ alone.slice
      by_place zero e = sym (same_slice e)
      by_place (suc k) e = absurd (none_slice e)

      by_thread : (t : ℕ) → slice_get (unwrap_or (slice_get (alone.thread ∷ []) t) no_thread).slices k ≡ Some u → u ≡ alone.slice
      by_thread zero e = by_place k (rw alone.whole at e)
      by_thread (suc t) e = absurd (none_slice e)

  pub alone_never : (alone : IsAlone C) (e f : Event) → IsEvent C f → EndsBefore C e f → ⊥
  alone_never alone e f its later =
      let other = begins f its in
      let one : later.slice ≡ alone.slice = only_slice alone e.row.thread (event_slot C e) later.slice (sym (event_at e) ∙ later.in_slice) in
      let two : other.slice ≡ alone.slice = only_slice alone f.row.thread other.place other.slice other.is in
      let own = slice_time e later.slice later.in_slice in
      let ended : later.slice.begin ≡ other.slice.begin = ap (λ (s : Slice). s.begin) (one ∙ sym two) in
      let begin = other.begin in
      let less = later.less in
      omega arith

  pub sooner_trans : (e f g : Event) → IsEvent C e → IsEvent C f → IsEvent C g → Sooner C e f → Sooner C f g → Sooner C e g
  sooner_trans e f g ie jf kg (inl a) (inl b) = inl (a.0 ∙ b.0, own_trans e f g a.1 b.1)
  sooner_trans e f g ie jf kg (inr a) (inr b) = inr (ends_ends e f g a b)
  sooner_trans e f g ie jf kg (inl a) (inr b) =
      elim (sound.calls) [
        | inl alone ↦ absurd (alone_never alone f g kg b)
        | inr ends ↦ inr (own_ends ends e f g ie a.0 a.1 b)
      ]
  sooner_trans e f g ie jf kg (inr a) (inl b) =
      elim (sound.calls) [
        | inl alone ↦ absurd (alone_never alone e f jf a)
        | inr ends ↦
            let mono = begin_mono ends f g jf kg b.0 b.1 in
            let less = a.less in
            inr (record { slice = a.slice; in_slice = a.in_slice; less = omega arith })
      ]

  before_sooner : (e f : Event) → Before C e f → Sooner C e f
  before_sooner e f h = by h.why
    where
      by : IsBefore C e f → Sooner C e f
      by (by_row same less) = inl (same, rows less)
      by (by_call row first second) = inl (ap (λ (r : Row). r.thread) row, call row first second)
      by (by_time s u is its less) = let begin = begin_is f u its in inr (record { slice = s; in_slice = is; less = omega arith })

  chain_sooner : (e f : Event) (xs : List Event) → Chain C e xs f → Sooner C e f
  chain_sooner e f [] h = before_sooner e f h
  chain_sooner e f (x ∷ xs) h = sooner_trans e x f h.0.first h.0.second (chain_last C x f xs h.1) (before_sooner e x h.0) (chain_sooner x f xs h.1)

  pub precedes_sooner : (e f : Event) → Precedes C e f → Sooner C e f
  precedes_sooner e f (xs, h) = chain_sooner e f xs h

  -- no event is before itself
  pub sooner_irreflexive : (e : Event) → Sooner C e e → ⊥
  sooner_irreflexive e (inl (same, rows less)) = omega arith
  sooner_irreflexive e (inl (same, call row first second)) = entry_return (sym first ∙ second)
  sooner_irreflexive e (inr a) =
      let begin = begin_is e a.slice a.in_slice in
      let own = slice_time e a.slice a.in_slice in
      let less = a.less in
      omega arith

  pub precedes_irreflexive : (e : Event) → Precedes C e e → ⊥
  precedes_irreflexive e h = sooner_irreflexive e (precedes_sooner e e h)

  ends_precedes : (e f : Event) (o : Option Slice) → IsEvent C e → IsEvent C f → EndsBefore C e f → event_slice C f ≡ o → Precedes C e f
  ends_precedes e f (Some u) ie jf a its = let begin = begin_is f u its in let less = a.less in ([], record { first = ie; second = jf; why = by_time a.slice u a.in_slice its (omega arith) })
  ends_precedes e f None ie jf a its = by_part f.part refl
    where
      own : (s : Slice) × (slice_of (slices_of C f.row.thread) f.row.step ≡ Some s)
      own = row_slice f.row jf.row

      held : (p : Part) → f.part ≡ p → slice_by p (slices_of C f.row.thread) f.row.step ≡ Some own.0 → ⊥
      held p is found = none_slice (sym its ∙ ap (λ (q : Part). slice_by q (slices_of C f.row.thread) f.row.step) is ∙ found)

      by_part : (p : Part) → f.part ≡ p → Precedes C e f
      by_part whole is = absurd (held whole is own.1)
      by_part entry is = absurd (held entry is own.1)
      by_part return is =
          let called : calls C f.row ≡ true = subst (λ (p : Part). FitsRow (calls C f.row) p) is jf.part in
          let entered : IsEvent C (part_of f.row entry) = record { row = jf.row; part = called } in
          let begin : begin_of C f ≡ own.0.begin = ap (λ (x : Option Slice). begin_from x (slice_of (slices_of C f.row.thread) f.row.step)) its ∙ ap begin_in own.1 in
          let less = a.less in
          (part_of f.row entry ∷ [], (record { first = ie; second = entered; why = by_time a.slice own.0 a.in_slice own.1 (omega arith) }, record { first = entered; second = jf; why = by_call refl refl is }))

  pub sooner_precedes : (e f : Event) → IsEvent C e → IsEvent C f → Sooner C e f → Precedes C e f
  sooner_precedes e f ie jf (inl (same, rows less)) = ([], record { first = ie; second = jf; why = by_row same less })
  sooner_precedes e f ie jf (inl (same, call row first second)) = ([], record { first = ie; second = jf; why = by_call row first second })
  sooner_precedes e f ie jf (inr a) = ends_precedes e f (event_slice C f) ie jf a refl
