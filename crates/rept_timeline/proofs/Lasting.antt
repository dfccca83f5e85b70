-- Each point's last values are of registers that there are.
use Rattle.std.proofs.Common.{◌≡◌, ℕ, get_or, cond, false, ◌<◌, List, length, Option, Some, None, slice_get, slice_index, inl, inr, Bool, true, ◌&&◌, eqb, arith, sym, ap, ◌∙◌}
use Rattle.std.proofs.lemmas.Option.{slice_get_cases, slice_get_within}
use Rattle.rept_dump.specs.Program.{Program}
use Rattle.rept_timeline.specs.Ends.{Ends, is_restarted, left_by, registers_of_one, registers_in, last_values_in, thread_on, AreEnds}
use Rattle.rept_timeline.proofs.Enders.{thread_inside, values_same}

none_value : {v : ℕ} → None ≡ Some v → ⊥
none_value e = cc

-- what is left of the registers that were saved is of these
left_inside : (program : Program) (pc r v : ℕ) (saved : List ℕ) → left_by program pc saved r ≡ Some v → r < length saved
left_inside program pc r v saved is = by (eqb r 17 && is_restarted program pc (slice_index saved 17)) is
  where
    by : (hidden : Bool) → cond hidden None (slice_get saved r) ≡ Some v → r < length saved
    by true e = absurd (none_value e)
    by false e = slice_get_within saved r v e

-- each point's last values are of x0 to x31
pub values_long : (e : Ends) → AreEnds e → 0 < length e.course.threads → (p r v : ℕ) → last_values_in e p r ≡ Some v → r < 32
values_long e ends some p r v is =
    let inside = thread_inside e.course p some in
    let count = ends.count in
    elim (slice_get_cases e.statuses (thread_on e.course p)).1 [
      | inl found ↦
          let here = ap (λ (f : ℕ → Option ℕ). f r) (values_same e.course (registers_in e) p some ∙ ap (registers_of_one e.program) found.2) in
          let below = left_inside e.program found.0.pc r v found.0.regs (sym here ∙ is) in
          let whole = ends.whole (thread_on e.course p) found.0 found.2 in
          omega (arith, below, whole)
      | inr past ↦ absurd (let far = past.0 in omega arith)
    ]
