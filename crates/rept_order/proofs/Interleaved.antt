-- Each execution is seen as a run.
use Rattle.std.proofs.Common.{◌≡◌, ℕ, suc, ◌<◌, ◌≤◌, if◌then◌else◌, cond, Bool, true, false, length, Option, Some, None, MatchOption, refl, sym, ap, ◌∙◌, subst, arith}
use Rattle.std.proofs.lemmas.Option.{slice_get_within}
use Rattle.rept_isa.specs.declared.row.StepRow.{StepRow}
use Rattle.rept_machine.specs.State.{State}
use Rattle.rept_machine.specs.Step.{IsStep}
use Rattle.rept_steps.specs.Course.{Course, Row, rows_of, IsRow, row_at, calls}
use Rattle.rept_order.specs.Moments.{Act, IsAct}
use Rattle.rept_order.specs.Moments.Moment.{before, after}
use Rattle.rept_order.specs.Moments.Act.{row, untraced}
use Rattle.rept_order.specs.History.{History, Ending, IsExecution, state_at}
use Rattle.rept_order.specs.Points.{thread_registers, memory_at, state_from}
use Rattle.rept_order.specs.Legs.{Point, number_of, point_at, registers_on}
use Rattle.rept_machine.proofs.StepLaws.{written_by_registers}
use Rattle.rept_order.specs.Writing.{WritesBy, ActWrites}
use Rattle.rept_order.specs.Interleaved.{run_of_history, leg_of, state_before_row, state_after_row, WritesIn, IsCourseRun}
use Rattle.rept_order.proofs.Legs.{point_number, thread_inside}
use Rattle.rept_order.proofs.Points.{plain_step, call_step, registers_saved, point_state, registers_after, registers_before, one_memory}
use Rattle.rept_order.proofs.Quiet.{still_stays}

module _ (C : Course) (D : Ending) (h : History) (x : IsExecution C D h) where
  registers_here : (t p : ℕ) → t < length C.threads → p ≤ length (rows_of C t) → registers_on C h (number_of C t p) ≡ thread_registers C h t p
  registers_here t p below few = ap (λ (y : Point). thread_registers C h y.thread y.number) (point_number C t p below few)

  before_leg : (r : Row) → IsRow C r → registers_on C h (leg_of C r) ≡ thread_registers C h r.thread r.step
  before_leg r is = registers_here r.thread r.step (thread_inside C r is) (omega arith)

  after_leg : (r : Row) → IsRow C r → registers_on C h (suc (leg_of C r)) ≡ thread_registers C h r.thread (suc r.step)
  after_leg r is =
      let next : suc (leg_of C r) ≡ number_of C r.thread (suc r.step) = omega arith in
      ap (λ (g : ℕ). registers_on C h g) next ∙ registers_here r.thread (suc r.step) (thread_inside C r is) is

  step_by : (r : Row) (its_row : StepRow) (b : Bool) → calls C r ≡ b → row_at C r ≡ Some its_row → IsRow C r → IsStep D.image_end its_row (state_from (thread_registers C h r.thread r.step) (memory_at C h (before r))) (state_from (thread_registers C h r.thread (suc r.step)) (memory_at C h (if calls C r then before r else after r)))
  step_by r its_row true call is inside = subst (λ (b : Bool). IsStep D.image_end its_row (state_from (thread_registers C h r.thread r.step) (memory_at C h (before r))) (state_from (thread_registers C h r.thread (suc r.step)) (memory_at C h (cond b (before r) (after r))))) (sym call) (call_step C D h x r.thread r.step inside its_row (memory_at C h (before r)) is call)
  step_by r its_row false plain is inside = subst (λ (b : Bool). IsStep D.image_end its_row (state_from (thread_registers C h r.thread r.step) (memory_at C h (before r))) (state_from (thread_registers C h r.thread (suc r.step)) (memory_at C h (cond b (before r) (after r))))) (sym plain) (plain_step C D h x r.thread r.step inside its_row is plain)

  step_is : (r : Row) (its_row : StepRow) → row_at C r ≡ Some its_row → IsStep D.image_end its_row (state_before_row C (run_of_history C h) r) (state_after_row C (run_of_history C h) r)
  step_is r its_row is =
      let inside : IsRow C r = slice_get_within (rows_of C r.thread) r.step its_row is in
      let step = step_by r its_row (calls C r) refl is inside in
      let old = subst (λ (f : ℕ → ℕ). IsStep D.image_end its_row (state_from f (memory_at C h (before r))) (state_from (thread_registers C h r.thread (suc r.step)) (memory_at C h (if calls C r then before r else after r)))) (sym (before_leg r inside)) step in
      subst (λ (f : ℕ → ℕ). IsStep D.image_end its_row (state_before_row C (run_of_history C h) r) (state_from f (memory_at C h (if calls C r then before r else after r)))) (sym (after_leg r inside)) old

  written_at : (place : Option StepRow) (r : Row) (a : ℕ) → IsRow C r → MatchOption place ⊥ (λ its_row. WritesBy its_row.instr D.image_end (state_at C h r.thread (before r)) (state_at C h r.thread (after r)) a) → MatchOption place ⊥ (λ its_row. WritesBy its_row.instr D.image_end (state_before_row C (run_of_history C h) r) (state_after_row C (run_of_history C h) r) a)
  written_at None r a is w = absurd w
  written_at (Some its_row) r a is w = written_by_registers its_row.instr D.image_end (state_at C h r.thread (before r)) (state_at C h r.thread (after r)) (state_before_row C (run_of_history C h) r) (state_after_row C (run_of_history C h) r) a (sym (before_leg r is ∙ registers_before C D h x r.thread r.step is)) (sym (after_leg r is ∙ registers_after C D h x r.thread r.step is)) w

  act_writes : (act : Act) (a : ℕ) → IsAct C act → ActWrites C D h act a → WritesIn C D (run_of_history C h) act a
  act_writes (row r) a is w = written_at (row_at C r) r a is w
  act_writes untraced a is w = tt

  pub execution_is_run : IsCourseRun C D (run_of_history C h)
  execution_is_run = record {
    states = λ g m is. point_state C D h x (point_at C g).thread (point_at C g).number m is;
    steps = step_is;
    registers_end = λ t s v below some is. ap (λ (f : ℕ → ℕ). f s) (registers_here t (length (rows_of C t)) below (omega arith)) ∙ registers_saved C D h x t s v some is;
    bytes_end = x.bytes_end;
    quiet = λ s a is its order still. still_stays C D h x s a is its order (λ act inside may_act w. still act inside may_act (act_writes act a inside w));
    one = λ s a k. one_memory C D h x s k a;
  }
