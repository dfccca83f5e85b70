-- What calls hand out is 0.
use Rattle.std.proofs.Common.{◌≡◌, ℕ, ◌+◌, ◌<◌, ◌≤◌, nat_lt, true, List, length, Some, slice_get, get_or, inl, inr, refl, sym, subst, arith}
use Rattle.std.proofs.lemmas.Bool.{cases_eq, ltb-true}
use Rattle.std.proofs.lemmas.Option.{slice_get_read}
use Rattle.rept_isa.specs.declared.row.StepRow.{StepRow}
use Rattle.rept_machine.specs.State.{State}
use Rattle.rept_known.specs.declared.both.Both.{Both}
use Rattle.rept_known.specs.Both.{both_sets}
use Rattle.rept_known.specs.Laws.BothLaws.{both_lawful}
use Rattle.rept_span.specs.Filled.{View}
use Rattle.rept_narrow.specs.Rules.{set_at, HasSets}
use Rattle.rept_narrow.specs.Admitted.{Story, IsAdmitted, IsCallAt, HasNoCall, page_from}
use Rattle.rept_infer.specs.Fresh.{AreHandedOut, AreZero, IsHeapEnd}

-- ---- rows
pub row_read : (rows all : List StepRow) (i : ℕ) (row : StepRow) → rows ≡ all → i < length all → row ≡ get_or all i row → slice_get rows i ≡ Some row
row_read rows all i row e less is = subst (λ (x : List StepRow). slice_get x i ≡ Some row) (sym e) (slice_get_read all (length all) i row refl less is)

pub earlier : (story : Story) (run : ℕ → State) (number i j : ℕ) → (IsCallAt story run i number → ⊥) → HasNoCall story run number (i + 1) j → HasNoCall story run number i j
earlier story run number i j none later = λ k le lt c. elim (cases_eq k i) [
  | inl same ↦ none (subst (λ (n : ℕ). IsCallAt story run n number) same c)
  | inr ne ↦ later k (omega (arith, le, ne)) lt c
]

pub no_row_left : (story : Story) (run : ℕ → State) (number i j : ℕ) → j ≤ i → HasNoCall story run number i j
no_row_left story run number i j past = λ k le lt c. absurd (omega (arith, past, le, lt))

-- ---- what they hand out
pub heap_zero : (story : Story) (run : ℕ → State) (j old new from to : ℕ) → IsAdmitted story run → IsHeapEnd story run j old → IsCallAt story run j 214 → (run (j + 1)).register 10 ≡ new → from ≡ page_from old → to ≡ new → AreZero run (j + 1) from to
heap_zero story run j old new from to admitted end call answer from_is to_is = λ a le lt.
    let least : page_from ((run (end.row + 1)).register 10) ≤ a = subst (λ (n : ℕ). page_from n ≤ a) (sym end.answer) (subst (λ (n : ℕ). n ≤ a) from_is le) in
    let most : a < (run (j + 1)).register 10 = omega (arith, lt, to_is, answer) in
    admitted.fresh_pages.heap end.row j a end.before end.call end.last call least most

pub mapped_zero : (story : Story) (run : ℕ → State) (j flags answer asked from to : ℕ) → IsAdmitted story run → IsCallAt story run j 222 → (run j).register 13 ≡ flags → (run (j + 1)).register 10 ≡ answer → (run j).register 11 ≡ asked → AreHandedOut from to flags answer asked → AreZero run (j + 1) from to
mapped_zero story run j flags answer asked from to admitted call flags_are answer_is asked_is out = λ a le lt.
    let f = out.from_is in
    let t = out.to_is in
    let least : (run (j + 1)).register 10 ≤ a = omega (arith, le, f, answer_is) in
    let most : a < (run (j + 1)).register 10 + (run j).register 11 = omega (arith, lt, t, answer_is, asked_is) in
    admitted.fresh_pages.mapped j a call (rw flags_are out.of_no_file) (rw answer_is out.no_error) least most

-- ---- the stack pointer at the first point
pub below_pointer : (story : Story) (run : ℕ → State) (table : View Both) (a low r : ℕ) (set : Both) → nat_lt a low ≡ true → r ≡ 2 → set_at table 0 r ≡ Some set → low ≡ both_sets.lo set → HasSets story table run → a < (run 0).register 2
below_pointer story run table a low r set less is at low_is h =
    let first : 0 ≤ length story.rows = omega arith in
    let bound : both_sets.lo set ≤ (run 0).register r = (both_lawful.bounds set ((run 0).register r) (h.sets 0 r set first at)).0 in
    let here : both_sets.lo set ≤ (run 0).register 2 = subst (λ (n : ℕ). both_sets.lo set ≤ (run 0).register n) is bound in
    let below : a < low = ltb-true a low less in
    omega (arith, below, low_is, here)
