-- Rounds that go only where something became known.
use Rattle.std.proofs.Common.{◌≡◌, ◌<◌, ℕ, length, Option, Some, None, refl, ◌∙◌, arith}
use Rattle.std.specs.Option.{IsSome}
use Rattle.std.proofs.lemmas.Bool.{false≢true}
use Rattle.rept_isa.specs.declared.row.StepRow.{StepRow}
use Rattle.rept_reason.specs.Facts.{told}
use Rattle.rept_span.specs.Ranges.{Legs}
use Rattle.rept_report.specs.Conflicts.{IsQuiet}
use Rattle.rept_report.specs.Log.{oldest}
use Rattle.rept_facts.specs.Inferring.{Grows, SameFacts}
use Rattle.rept_facts.specs.State.{AnalysisState, along}
use Rattle.rept_facts.specs.Work.{left}
use Rattle.rept_facts.proofs.Begun.{begun_after}
use Rattle.rept_facts.proofs.Ending.{measure_same, same_continues, grows_continues, Continues_itself, Continues_trans, known_like, known_after, quiet_whole}
use Rattle.rept_propagate.specs.Likeness.{IsCurrent}
use Rattle.rept_analysis.specs.Since.{IsFilledQuiet, GoesFurther}
use Rattle.rept_analysis.proofs.Measure.{measure_le}

pub goes_itself : {W : Type 0} (a : AnalysisState W) → GoesFurther a a
goes_itself a = record { continues = Continues_itself a; more = λ p c v e. e; spent = omega arith; measured = omega arith; begun = λ h. h }

pub goes_trans : {W : Type 0} (a b c : AnalysisState W) → GoesFurther a b → GoesFurther b c → GoesFurther a c
goes_trans a b c g h =
    let first = g.spent in
    let second = h.spent in
    let before = g.measured in
    let after = h.measured in
    record { continues = Continues_trans a b c g.continues h.continues; more = known_after a b c g.more h.more; spent = omega (arith, first, second); measured = omega (arith, before, after); begun = λ e. h.begun (g.begun e) }

-- where only the sets and the list change
pub same_goes : {W : Type 0} (a b : AnalysisState W) → SameFacts a b → GoesFurther a b
same_goes a b same =
    let infers = same.infers in
    let inferred : left b.work.inferred ≡ left a.work.inferred = rw same.inferred refl in
    let measured = measure_same a b same in
    record {
      continues = same_continues a b same;
      more = known_like a b same.path same.known;
      spent = omega (arith, infers, inferred);
      measured = omega (arith, measured);
      begun = λ h. rw (same.path, same.known) h;
    }

-- where facts are learnt
pub grows_goes : {W : Type 0} (a b : AnalysisState W) → Grows a b → GoesFurther a b
grows_goes a b g = record { continues = grows_continues a b g; more = g.more; spent = g.spent; measured = measure_le a b g; begun = begun_after a b g }

pub quiet_after : {W : Type 0} (a b : AnalysisState W) → Grows a b → IsFilledQuiet a → IsFilledQuiet b
quiet_after a b g h = rw (g.path, g.older) h

-- the sets are those of the facts up to a place
pub quiet_filled : {W : Type 0} (a b : AnalysisState W) (n : ℕ) → SameFacts a b → b.filled ≡ n → IsQuiet (along a.path) (told (oldest n a.known.log)) → IsFilledQuiet b
quiet_filled a b n same filled h = rw (same.path, same.known, filled) h

pub current_filled : {W : Type 0} (b : AnalysisState W) → b.filled ≡ length b.known.log → IsFilledQuiet b → IsCurrent b
current_filled b all h = record { quiet = quiet_whole b b.filled all h; filled = all }

pub filled_all : {W : Type 0} (a b : AnalysisState W) (n : ℕ) → SameFacts a b → b.filled ≡ n → n ≡ length a.known.log → b.filled ≡ length b.known.log
filled_all a b n same filled all = rw same.known (filled ∙ all)

-- a row leads from a point before the last one
pub row_inside : (legs : Legs) → ((i : ℕ) (row : StepRow) → legs.row i ≡ Some row → i < legs.count) → (i : ℕ) → IsSome (legs.row i) → i < legs.count
row_inside legs law i some = of (legs.row i) refl some
  where
    of : (x : Option StepRow) → legs.row i ≡ x → IsSome x → i < legs.count
    of None is there = absurd (false≢true there)
    of (Some row) is there = law i row is
