-- What is known of the calls of a path.
use Rattle.std.proofs.Common.{◌≡◌, ◌≢◌, ℕ, ◌+◌, ◌-◌, ◌<◌, ◌≤◌, Bool, true, false, List, length, Some, None, slice_get, get_or, inl, inr, refl, sym, subst, ◌∙◌, arith}
use Rattle.std.specs.Prelude.{◌==◌}
use Rattle.std.proofs.lemmas.Bool.{cases_eq, cases_lt}
use Rattle.std.proofs.lemmas.Option.{get_or_from_slice_get, slice_get_past}
use Rattle.rept_isa.specs.declared.instr.Instr.{Instr}
use Rattle.rept_isa.specs.declared.instr.Instr.TheVariants.{Ecall}
use Rattle.rept_isa.specs.declared.row.StepRow.{StepRow}
use Rattle.rept_machine.specs.State.{State}
use Rattle.rept_known.specs.declared.both.Both.{Both}
use Rattle.rept_known.specs.Both.{both_sets}
use Rattle.rept_known.specs.Laws.BothLaws.{both_lawful}
use Rattle.rept_span.specs.Filled.{View}
use Rattle.rept_narrow.specs.Admitted.{Story, IsSettled, leaves_pages}
use Rattle.rept_narrow.specs.Rules.{set_at, HasSets}
use Rattle.rept_narrow.proofs.Sentences.{inside_rows}

-- a register whose set has one value has that value
pub exact_is : (story : Story) (run : ℕ → State) (table : View Both) (p r n v : ℕ) (w : Both) → HasSets story table run → p ≤ length story.rows → r ≡ n → set_at table p r ≡ Some w → both_sets.as_exact w ≡ Some v → (run p).register n ≡ v
exact_is story run table p r n v w h le e at exact = subst (λ (m : ℕ). (run p).register m ≡ v) e (both_lawful.as_exact w v ((run p).register r) exact (h.sets p r w le at))

pub both_known : (n f x y m : ℕ) (result : Bool) → x ≡ n → y ≡ f → n ≡ m → result ≡ leaves_pages m f → result ≡ true → leaves_pages x y ≡ true
both_known n f x y m result e g i r t = rw (e, g, i) (sym r ∙ t)

same_flags : (n y : ℕ) → (n == 222) ≡ false → leaves_pages n y ≡ leaves_pages n 0
same_flags n y e = rw e refl

pub one_known : (n x y : ℕ) (result : Bool) → x ≡ n → (n == 222) ≡ false → result ≡ leaves_pages n 0 → result ≡ true → leaves_pages x y ≡ true
one_known n x y result e apart r t = rw e (same_flags n y apart ∙ sym r ∙ t)

-- one more row from which on each call leaves the pages
pub settled_before : (story : Story) (run : ℕ → State) (i : ℕ) (row : StepRow) (d : StepRow) → row ≡ get_or story.rows i row → (row.instr ≡ Ecall → leaves_pages ((run i).register 17) ((run i).register 13) ≡ true) → IsSettled story run (i + 1) → IsSettled story run i
settled_before story run i row d is here later = λ j call le at e. elim (cases_eq j i) [
  | inl same ↦
      let found : slice_get story.rows i ≡ Some call = subst (λ (m : ℕ). slice_get story.rows m ≡ Some call) same at in
      let alike : row ≡ call = is ∙ get_or_from_slice_get story.rows i call row found in
      subst (λ (m : ℕ). leaves_pages ((run m).register 17) ((run m).register 13) ≡ true) (sym same) (here (subst (λ (x : StepRow). x.instr ≡ Ecall) (sym alike) e))
  | inr ne ↦ later j call (omega (arith, le, ne)) at e
]

pub settled_end : (story : Story) (run : ℕ → State) (i : ℕ) → length story.rows ≤ i → IsSettled story run i
settled_end story run i past = λ j call le at e. absurd (let inside = inside_rows story.rows j call at in omega (arith, inside, le, past))
