-- A run of a course is one of its setting.
use Rattle.std.proofs.Common.{◌≡◌, ℕ, suc, ◌+◌, ◌-◌, ◌<◌, ◌≤◌, not, cond, nat_lt, Bool, true, false, List, [], ◌∷◌, length, Option, Some, None, MatchOption, slice_get, inl, inr, refl, sym, ap, ◌∙◌, subst, arith, zero-add}
use Rattle.std.proofs.lemmas.Bool.{false≢true, cases_lt, cond-true, lt-ltb, le-ltb, eq-eqb, not_from_true, not-false}
use Rattle.std.proofs.lemmas.Option.{slice_get_within, slice_get_cases}
use mathlib.Core.Path.{fun_ext}
use Rattle.rept_isa.specs.declared.row.StepRow.{StepRow}
use Rattle.rept_isa.specs.Operands.{is_call}
use Rattle.rept_machine.specs.Step.{IsStep}
use Rattle.rept_machine.proofs.StepLaws.{written_by_registers}
use Rattle.rept_steps.specs.declared.threads.ThreadRows.{ThreadRows}
use Rattle.rept_steps.specs.Course.{Course, row_of, rows_of, row_at, is_call_row, calls, IsSoundCourse}
use Rattle.rept_order.specs.Moments.{Act, IsAct, Stretch, stretch, MayAct, ArePause}
use Rattle.rept_order.specs.Moments.Moment.{before, after, at_end}
use Rattle.rept_order.specs.Moments.Act.{row, untraced}
use Rattle.rept_order.specs.Moments.ArePause.{between, last}
use Rattle.rept_order.specs.History.{History, Ending}
use Rattle.rept_order.specs.Points.{state_from}
use Rattle.rept_order.specs.Times.{same_row}
use Rattle.rept_order.specs.Legs.{points_before, point_in, point_at, number_of}
use Rattle.rept_order.specs.Interleaved as interleaved
use Rattle.rept_order.specs.Interleaved.{IsCourseRun, run_of_history, leg_of, WritesIn}
use Rattle.rept_order.specs.Writing.{WritesBy}
use Rattle.rept_order.proofs.Between.{row_forward}
use Rattle.rept_order.proofs.Decide.{row_true, row_self}
use Rattle.rept_order.proofs.Lone.{alone_quiet, pause_alone}
use Rattle.rept_order.proofs.Interleaved.{execution_is_run}
use Rattle.rept_moments.proofs.NamingLemmas.Naming.{points_next}
use Rattle.rept_moments.proofs.NamingLemmas.Seen.{seen_runs}
use Rattle.rept_moments.specs.Numbers.{numbers_of}
use Rattle.rept_moments.specs.Seen.{alone_by}
use Rattle.rept_moments.proofs.Apart.{are_numbers}
use Rattle.rept_found.specs.Places.Places.{last_by}
use Rattle.rept_partial.specs.Sets.{Sets}
use Rattle.rept_span.specs.Moves.{Moves}
use Rattle.rept_reason.specs.View.Rules.{Rules}
use Rattle.rept_report.specs.Given.{setting_by}
use Rattle.rept_report.specs.Setting.{Setting, IsLast}
use Rattle.rept_report.specs.Runs as runs
use Rattle.rept_report.specs.Runs.{Run, Runs, StepWrites}
use Rattle.rept_report.proofs.Line.{next_is}
use Rattle.rept_found.specs.Trip.Trip.{Trip, given_by, setting_on}
use Rattle.rept_timeline.specs.Ends.{thread_on}
use Rattle.rept_found.specs.Trip.Executed.{IsHistoryOf, run_on}
use Rattle.rept_found.proofs.TripLemmas.Single.{is_alone, one_thread, rows_are, count_is, is_row, last_low, last_high, is_moment}

match_is : (o : Option StepRow) (P : StepRow → Type 0) → MatchOption o ⊥ P → (x : StepRow) × (o ≡ Some x) × P x
match_is None P h = absurd h
match_is (Some x) P h = (x, refl, h)

one_more : (k : ℕ) → suc k ≡ k + 1
one_more k = omega arith

none_number : {d : ℕ} → None ≡ Some d → ⊥
none_number e = cc

some_none : {x : StepRow} → Some x ≡ None → ⊥
some_none e = cc

some_same : {x y : StepRow} → Some x ≡ Some y → x ≡ y
some_same e = cc

-- each number below their sum is of a point of one of the threads
thread_inside : (threads : List ThreadRows) (g : ℕ) → g < points_before threads (length threads) → (point_in threads g).thread < length threads
thread_inside [] g below = absurd (omega arith)
thread_inside (thread ∷ threads) g below =
    elim (cases_lt (length thread.steps) g) [
      | inl past ↦
          let rest = thread_inside threads (g - suc (length thread.steps)) (omega arith) in
          rw (lt-ltb (length thread.steps) g past) (omega arith)
      | inr early ↦ rw (le-ltb (length thread.steps) g early) (omega arith)
    ]

thread_here : (C : Course) (p : ℕ) → 0 < length C.threads → p ≤ points_before C.threads (length C.threads) - 1 → thread_on C p ≡ (point_at C p).thread
thread_here C p some few =
    let all = points_next C.threads 0 0 some (omega arith) in
    let inside = thread_inside C.threads p (omega arith) in
    cond-true (nat_lt (point_at C p).thread (length C.threads)) (point_at C p).thread 0 (lt-ltb (point_at C p).thread (length C.threads) inside)

-- by points and numbers
abbrev numbered_run : Course → interleaved.CourseRun → Option (List StepRow) → Run
numbered_run C run o = record { register = run.register; memory = λ m. run.memory (last_by C o m) }

module _ {W : Type 0} (sets : Sets W) (moves : Moves W) (rules : Rules) (C : Course) (D : Ending) (run : interleaved.CourseRun) (sound : IsSoundCourse C) (x : IsCourseRun C D run) where
  -- of one thread in one slice, all of which is told
  module _ (rows : List StepRow) (e : alone_by C.threads C.untraced ≡ Some rows) where
    abbrev S : Setting W
    S = setting_by sets moves rules (given_by C D (Some rows))

    abbrev it : Run
    it = numbered_run C run (Some rows)

    memory_low : (i : ℕ) → i < length rows → it.memory i ≡ run.memory (before (row_of 0 i))
    memory_low i less = ap run.memory (last_low C rows e i less)

    memory_end : it.memory (length rows) ≡ run.memory at_end
    memory_end = ap run.memory (last_high C rows e (length rows) (omega arith))

    same_at : (s : Stretch) → ArePause C s → run.memory s.to ≡ run.memory s.from
    same_at s pause = fun_ext (λ a. x.one s a (pause_alone C sound (is_alone C rows e) s pause))

    -- after a row the memory is that of the next point
    memory_next : (i : ℕ) → i < length rows → it.memory (i + 1) ≡ run.memory (after (row_of 0 i))
    memory_next i less =
        let all = count_is C rows e in
        elim (cases_lt (i + 1) (length rows)) [
          | inl inside ↦ memory_low (i + 1) inside ∙ ap (λ (k : ℕ). run.memory (before (row_of 0 k))) (sym (one_more i)) ∙ same_at (stretch (after (row_of 0 i)) (before (row_of 0 (suc i)))) (between 0 i (omega arith) refl)
          | inr past ↦ let same : i + 1 ≡ length rows = omega arith in ap it.memory same ∙ memory_end ∙ same_at (stretch (after (row_of 0 i)) at_end) (last 0 i (omega arith) refl)
        ]

    memory_after : (i : ℕ) (b c : Bool) → i < length rows → b ≡ c → run.memory (cond b (before (row_of 0 i)) (after (row_of 0 i))) ≡ it.memory (cond c i (i + 1))
    memory_after i true true less same = sym (memory_low i less)
    memory_after i false false less same = sym (memory_next i less)
    memory_after i true false less same = absurd (false≢true (sym same))
    memory_after i false true less same = absurd (false≢true same)

    there : (i : ℕ) (its_row : StepRow) → slice_get rows i ≡ Some its_row → row_at C (row_of 0 i) ≡ Some its_row
    there i its_row is = ap (λ (xs : List StepRow). slice_get xs i) (rows_are C rows e) ∙ is

    steps : (i : ℕ) (its_row : StepRow) → slice_get rows i ≡ Some its_row → IsStep D.image_end its_row (runs.state_before S it i) (runs.state_after S it i its_row)
    steps i its_row is =
        let less = slice_get_within rows i its_row is in
        let at = there i its_row is in
        let base = x.steps (row_of 0 i) its_row at in
        let call : calls C (row_of 0 i) ≡ is_call its_row.instr = ap is_call_row at in
        let one = subst (λ (f : ℕ → ℕ). IsStep D.image_end its_row (state_from (run.register (leg_of C (row_of 0 i))) (run.memory (before (row_of 0 i)))) (state_from (run.register (suc (leg_of C (row_of 0 i)))) f)) (memory_after i (calls C (row_of 0 i)) (is_call its_row.instr) less call) base in
        let two = subst (λ (f : ℕ → ℕ). IsStep D.image_end its_row (state_from (run.register (leg_of C (row_of 0 i))) f) (state_from (run.register (suc (leg_of C (row_of 0 i)))) (it.memory (cond (is_call its_row.instr) i (i + 1))))) (sym (memory_low i less)) one in
        let three = subst (λ (k : ℕ). IsStep D.image_end its_row (state_from (run.register k) (it.memory i)) (state_from (run.register (suc k)) (it.memory (cond (is_call its_row.instr) i (i + 1))))) (zero-add i) two in
        subst (λ (k : ℕ). IsStep D.image_end its_row (state_from (run.register i) (it.memory i)) (state_from (run.register k) (it.memory (cond (is_call its_row.instr) i (i + 1))))) (one_more i) three

    registers_end : (p r v : ℕ) → IsLast S p → 0 < r → S.last p r ≡ Some v → run.register p r ≡ v
    registers_end p r v final some is =
        let few = final.0 in
        let threads = one_thread C rows e in
        let all = count_is C rows e in
        let past : length rows ≤ p =
        elim ((slice_get_cases rows p).1) [
          | inl found ↦ absurd (some_none (sym found.2 ∙ final.1))
          | inr past ↦ past.0
        ] in
        let here : p ≡ number_of C 0 (length (rows_of C 0)) = let whole : number_of C 0 (length (rows_of C 0)) ≡ length (rows_of C 0) = zero-add (length (rows_of C 0)) in omega arith in
        ap (λ (k : ℕ). run.register k r) here ∙ x.registers_end 0 r v (omega arith) some is

    -- only the row itself may act between the moments before and after it
    only_own : (i : ℕ) → i < length rows → (act : Act) → IsAct C act → MayAct C act (stretch (before (row_of 0 i)) (after (row_of 0 i))) → act ≡ row (row_of 0 i)
    only_own i less (row q) is may_act =
        let spared = (alone_quiet C sound (is_alone C rows e) (λ q a. not (same_row q (row_of 0 i))) 0 (row_of 0 i) (is_row C rows e i less) (not_from_true (same_row (row_of 0 i) (row_of 0 i)) (row_self (row_of 0 i) (row_of 0 i) refl))).quiet.spared (row q) is may_act in
        ap row (row_true q (row_of 0 i) (not-false (same_row q (row_of 0 i)) spared))
    only_own i less untraced is may_act = absurd (none_number (sym (is_alone C rows e).told ∙ is.1))

    still : (i a : ℕ) → i < length rows → (StepWrites S it i a → ⊥) → (act : Act) → IsAct C act → MayAct C act (stretch (before (row_of 0 i)) (after (row_of 0 i))) → WritesIn C D run act a → ⊥
    still i a less none act is may_act writes =
        let own = subst (λ (y : Act). WritesIn C D run y a) (only_own i less act is may_act) writes in
        let its = match_is (row_at C (row_of 0 i)) (λ its_row. WritesBy its_row.instr D.image_end (interleaved.state_before_row C run (row_of 0 i)) (interleaved.state_after_row C run (row_of 0 i)) a) own in
        let at : slice_get rows i ≡ Some its.0 = ap (λ (xs : List StepRow). slice_get xs i) (sym (rows_are C rows e)) ∙ its.1 in
        none (record {
          row = its.0;
          is_row = at;
          writes = written_by_registers its.0.instr D.image_end (interleaved.state_before_row C run (row_of 0 i)) (interleaved.state_after_row C run (row_of 0 i)) (runs.state_before S it i) (runs.state_after S it i its.0) a (ap run.register (zero-add i)) (ap (λ (k : ℕ). run.register (suc k)) (zero-add i) ∙ ap run.register (one_more i)) its.2;
        })

    quiet : (a m w : ℕ) → S.moments.next m w ≡ true → S.moments.untraced m w ≡ false → ((i : ℕ) → S.moments.may_act i m w ≡ true → StepWrites S it i a → ⊥) → it.memory w a ≡ it.memory m a
    quiet a m w next light none =
        let at = next_is (length rows) m w next in
        let less = at.0 in
        let kept = x.quiet (stretch (before (row_of 0 m)) (after (row_of 0 m))) a (is_row C rows e m less) (is_row C rows e m less) (row_forward C (row_of 0 m) (is_row C rows e m less)) (still m a less (none m (eq-eqb m m refl))) in
        ap (λ (k : ℕ). it.memory k a) at.1 ∙ ap (λ (f : ℕ → ℕ). f a) (memory_next m less) ∙ kept ∙ ap (λ (f : ℕ → ℕ). f a) (sym (memory_low m less))

    single_runs : Runs S it
    single_runs = record {
      words = λ p r early. (x.states p at_end tt).words r;
      zero = λ p early. (x.states p at_end tt).zero;
      bytes = λ m a early. (x.states 0 (last_by C (Some rows) m) (is_moment C rows e m)).bytes a;
      steps = steps;
      registers_end = registers_end;
      bytes_end = λ a v is. ap (λ (f : ℕ → ℕ). f a) memory_end ∙ x.bytes_end a v is;
      quiet = quiet;
    }

  -- of any other run: only the last values of numbers that are no points' are others than those of
  -- its names
  many_runs : 0 < length C.threads → Runs (setting_by sets moves rules (given_by C D None)) (numbered_run C run None)
  many_runs some =
      let r = seen_runs sets moves rules C D (numbers_of C) run sound (are_numbers C sound) some x in
      record {
        words = r.words;
        zero = r.zero;
        bytes = r.bytes;
        steps = r.steps;
        registers_end = λ p k v final low is. r.registers_end p k v final low (subst (λ (t : ℕ). D.registers t k ≡ Some v) (thread_here C p some final.0) is);
        bytes_end = r.bytes_end;
        quiet = λ a m w next light none. r.quiet a m w next light (λ i may_act k. none i may_act (record { row = k.row; is_row = k.is_row; writes = k.writes }));
      }

  runs_by : 0 < length C.threads → (o : Option (List StepRow)) → alone_by C.threads C.untraced ≡ o → Runs (setting_by sets moves rules (given_by C D o)) (numbered_run C run o)
  runs_by some (Some rows) e = single_runs rows e
  runs_by some None e = many_runs some

-- each execution is a run
pub history_runs : {W : Type 0} (t : Trip W) (h : History) → IsSoundCourse t.course → 0 < length t.course.threads → IsHistoryOf t h → Runs (setting_on t) (run_on t.course h)
history_runs t h sound some x = runs_by t.sets t.moves t.rules t.course t.ending (run_of_history t.course h) sound (execution_is_run t.course t.ending h x) some (alone_by t.course.threads t.course.untraced) refl
