-- What is told around a sweep is true, and what a row doesn't write goes over it.
use Rattle.std.proofs.Common.{◌≡◌, ◌⊎◌, ℕ, ◌+◌, ◌-◌, ◌<◌, ◌≤◌, List, length, Option, Some, None, slice_get, inl, inr, refl, sym, ap, subst, ◌∙◌, arith}
use Rattle.std.specs.Prelude.{min, max}
use Rattle.rept_isa.specs.declared.row.StepRow.{StepRow}
use Rattle.rept_machine.specs.State.{State}
use Rattle.rept_narrow.specs.declared.lanes.held.Held.{Held}
use Rattle.rept_narrow.specs.declared.lanes.span.ByteSpan.{ByteSpan}
use Rattle.rept_narrow.specs.Lanes.{held_at, lane_byte, IsLaneTrue, IsTrueSweep, StaysAt, SweepView, LetsGo, IsListed}
use Rattle.rept_narrow.proofs.Truth.{lane_true}
use Rattle.rept_narrow.specs.Admitted.{Story, IsAdmitted}
use Rattle.rept_narrow.specs.Rules.{AreBytes, WritesNot}
use Rattle.rept_narrow.specs.Sweeps.{memory_of, tells_in, IsHeldByte, IsAround, AreKept, ListsWritten}
use Rattle.rept_infer.proofs.Frame.{same_byte}

module _ (story : Story) (run : ℕ → State) (known : ℕ → ℕ → Option ℕ) (lanes : List ByteSpan) (sweep : SweepView) (image_end : ℕ) (around : IsAround story run known lanes image_end) (held : IsTrueSweep (memory_of run) sweep) where
  held_true : (p a v : ℕ) → IsHeldByte sweep p a v → (run p).memory a ≡ v
  held_true p a v found =
      let h = found.1.0 in
      let here : (run sweep.point).memory a ≡ h.value = held.held a h found.1.1 sweep.point (omega arith) (omega arith) in
      ap (λ (n : ℕ). (run n).memory a) found.0 ∙ here ∙ found.1.2

  pub bytes_true : AreBytes story (tells_in known lanes sweep) run
  bytes_true p a v le told = elim told [
    | inl found ↦ held_true p a v found
    | inr other ↦ elim other [
      | inl lane ↦ lane_true (memory_of run) lanes p a v around.lanes_true lane
      | inr before ↦ around.known_true p a v le before
    ]
  ]

pub kept_listed : (story : Story) (run : ℕ → State) (i : ℕ) (old new : List (ℕ × Held)) (list : List ℕ) → LetsGo old new list → ListsWritten story run i old list → AreKept story run i new
kept_listed story run i old new list goes lists a h e = let was = goes a h e in lists a h was.0 was.1

pub stays_on : (story : Story) (run : ℕ → State) (i : ℕ) (row : StepRow) (sweep : SweepView) → slice_get story.rows i ≡ Some row → IsAdmitted story run → sweep.point ≡ i → AreKept story run i sweep.held → StaysAt (memory_of run) sweep (sweep.point + 1)
stays_on story run i row sweep at admitted here kept a h e = subst (λ (n : ℕ). (run (n + 1)).memory a ≡ (run n).memory a) (sym here) (same_byte story run i a row at admitted (kept a h e))

pub stays_back : (story : Story) (run : ℕ → State) (i : ℕ) (row : StepRow) (sweep : SweepView) → slice_get story.rows i ≡ Some row → IsAdmitted story run → sweep.point ≡ i + 1 → AreKept story run i sweep.held → StaysAt (memory_of run) sweep (sweep.point - 1)
stays_back story run i row sweep at admitted here kept a h e =
    let before : sweep.point - 1 ≡ i = omega (arith, here) in
    ap (λ (n : ℕ). (run n).memory a) before ∙ sym (same_byte story run i a row at admitted (kept a h e)) ∙ ap (λ (n : ℕ). (run n).memory a) (sym here)
