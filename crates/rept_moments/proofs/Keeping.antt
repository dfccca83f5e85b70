-- An event's slice doesn't end before it begins.
use Rattle.std.proofs.Common.{◌≡◌, ℕ, ◌+◌, ◌≤◌, nat_lt, cond, Bool, List, [], ◌∷◌, Option, Some, None, inl, inr, sym, ap, ◌∙◌, subst}
use Rattle.std.proofs.lemmas.Bool.{cases_Bool}
use Rattle.rept_steps.specs.declared.slice.Slice.{Slice}
use Rattle.rept_steps.specs.Course.{Course, slices_of, slice_of, first_slice, slice_after, KeepTime, IsSoundCourse}
use Rattle.rept_order.specs.Events.{Event, Part, slice_by, event_slice}
use Rattle.rept_order.specs.Events.Part.{whole, entry, return}
use Rattle.rept_order.specs.Times.{begin_from, begin_of}

none_some : {x : Slice} → None ≡ Some x → ⊥
none_some e = cc

some_same : {x y : Slice} → Some x ≡ Some y → x ≡ y
some_same e = cc

holds : (s u : Slice) → s ≡ u → s.begin ≤ s.end → u.begin ≤ u.end
holds s u same h = subst (λ (x : Slice). x.begin ≤ x.end) same h

first_kept : (slices : List Slice) (s : Slice) → KeepTime slices → first_slice slices ≡ Some s → s.begin ≤ s.end
first_kept [] s kept e = absurd (none_some e)
first_kept (x ∷ slices) s kept e = holds x s (some_same e) kept.0

of_kept : (slices : List Slice) (i : ℕ) (s : Slice) → KeepTime slices → slice_of slices i ≡ Some s → s.begin ≤ s.end
of_kept [] i s kept e = absurd (none_some e)
of_kept (x ∷ slices) i s kept e =
    elim (cases_Bool (nat_lt i (x.first + x.count))) [
      | inl here ↦ holds x s (some_same (sym (ap (λ (b : Bool). cond b (Some x) (slice_of slices i)) here) ∙ e)) kept.0
      | inr past ↦ of_kept slices i s kept.2 (sym (ap (λ (b : Bool). cond b (Some x) (slice_of slices i)) past) ∙ e)
    ]

after_kept : (slices : List Slice) (i : ℕ) (s : Slice) → KeepTime slices → slice_after slices i ≡ Some s → s.begin ≤ s.end
after_kept [] i s kept e = absurd (none_some e)
after_kept (x ∷ slices) i s kept e =
    elim (cases_Bool (nat_lt i (x.first + x.count))) [
      | inl here ↦ first_kept slices s kept.2 (sym (ap (λ (b : Bool). cond b (first_slice slices) (slice_after slices i)) here) ∙ e)
      | inr past ↦ after_kept slices i s kept.2 (sym (ap (λ (b : Bool). cond b (first_slice slices) (slice_after slices i)) past) ∙ e)
    ]

part_kept : (part : Part) (slices : List Slice) (i : ℕ) (s : Slice) → KeepTime slices → slice_by part slices i ≡ Some s → s.begin ≤ s.end
part_kept whole slices i s kept e = of_kept slices i s kept e
part_kept entry slices i s kept e = of_kept slices i s kept e
part_kept return slices i s kept e = after_kept slices i s kept e

-- the event isn't later than the end of its slice
pub begins_in_time : (C : Course) → IsSoundCourse C → (e : Event) (s : Slice) → event_slice C e ≡ Some s → begin_of C e ≤ s.end
begins_in_time C sound e s is =
    let kept = part_kept e.part (slices_of C e.row.thread) e.row.step s (sound.in_time e.row.thread) is in
    let same : begin_of C e ≡ s.begin = ap (λ (o : Option Slice). begin_from o (slice_of (slices_of C e.row.thread) e.row.step)) is in
    subst (λ (k : ℕ). k ≤ s.end) (sym same) kept
