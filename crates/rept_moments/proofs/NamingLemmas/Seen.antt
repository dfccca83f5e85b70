-- A run of a course is one of its setting, by points and names.
use Rattle.std.proofs.Common.{◌≡◌, ℕ, suc, ◌+◌, ◌-◌, ◌<◌, ◌≤◌, cond, Bool, true, false, List, [], ◌∷◌, length, Option, Some, None, MatchOption, slice_get, unwrap_or, inl, inr, refl, sym, ap, ◌∙◌, subst, arith}
use Rattle.std.specs.Option.{is_some}
use Rattle.std.proofs.lemmas.Bool.{false≢true, cases_lt, lt-ltb, le-ltb, and_from}
use Rattle.std.proofs.lemmas.Option.{slice_get_cases}
use mathlib.Core.Path.{fun_ext}
use Rattle.rept_isa.specs.declared.row.StepRow.{StepRow}
use Rattle.rept_isa.specs.Operands.{is_call}
use Rattle.rept_machine.specs.Step.{IsStep}
use Rattle.rept_steps.specs.declared.threads.ThreadRows.{ThreadRows}
use Rattle.rept_steps.specs.Course.{no_thread, Course, Row, rows_of, IsRow, row_at, is_call_row, calls, IsSoundCourse}
use Rattle.rept_order.specs.Moments.{Moment, IsMoment, Act, IsAct, Stretch, stretch, MayAct, is_writing, stores}
use Rattle.rept_order.specs.Moments.Moment.{before, after, at_end}
use Rattle.rept_order.specs.Moments.Act.{row, untraced}
use Rattle.rept_order.specs.History.{Ending}
use Rattle.rept_order.specs.Points.{state_from}
use Rattle.rept_order.specs.Legs.{points_before, point_in, number_of, point_at, row_from, leg_row}
use Rattle.rept_order.specs.Times.{may_act_between}
use Rattle.rept_machine.proofs.StepLaws.{written_by_registers}
use Rattle.rept_order.proofs.Points.{writes_store}
use Rattle.rept_order.specs.Writing.{WritesBy}
use Rattle.rept_order.specs.Interleaved as interleaved
use Rattle.rept_order.specs.Interleaved.{IsCourseRun, leg_of, WritesIn}
use Rattle.rept_order.proofs.Acting.{may_act_from}
use Rattle.rept_order.proofs.Legs.{number_point, point_number, thread_inside}
use Rattle.rept_partial.specs.Sets.{Sets}
use Rattle.rept_span.specs.Moves.{Moves}
use Rattle.rept_reason.specs.View.Rules.{Rules}
use Rattle.rept_report.specs.Setting.{Setting, IsLast}
use Rattle.rept_report.specs.Runs.{Run, Runs, StepWrites}
use Rattle.rept_report.specs.Runs as runs
use Rattle.rept_moments.specs.Naming.Names.{MomentNames, IsLink, AreNames}
use Rattle.rept_moments.specs.Naming.Numbered.{row_on, may_act_by, untraced_by, setting_of, run_seen}
use Rattle.rept_moments.proofs.NamingLemmas.Naming.{some_is, row_inside, last_end, points_next}

one_more : (k : ℕ) → suc k ≡ k + 1
one_more k = omega arith

some_none : {A : Type 0} {x : A} → Some x ≡ None → ⊥
some_none e = cc

match_is : (o : Option StepRow) (P : StepRow → Type 0) → MatchOption o ⊥ P → (x : StepRow) × (o ≡ Some x) × P x
match_is None P h = absurd h
match_is (Some x) P h = (x, refl, h)

-- each number below their sum is of a point of a thread
point_inside : (threads : List ThreadRows) (g : ℕ) → g < points_before threads (length threads) → ((point_in threads g).thread < length threads) × ((point_in threads g).number ≤ length (unwrap_or (slice_get threads (point_in threads g).thread) no_thread).steps)
point_inside [] g below = absurd (omega arith)
point_inside (thread ∷ threads) g below =
    elim (cases_lt (length thread.steps) g) [
      | inl past ↦
          let rest = point_inside threads (g - suc (length thread.steps)) (omega arith) in
          rw (lt-ltb (length thread.steps) g past) (let low = rest.0 in omega arith, rest.1)
      | inr early ↦ rw (le-ltb (length thread.steps) g early) (omega arith, early)
    ]

module _ {W : Type 0} (sets : Sets W) (moves : Moves W) (rules : Rules) (C : Course) (D : Ending) (N : MomentNames) (run : interleaved.CourseRun) (sound : IsSoundCourse C) (names : AreNames C N) (threads : 0 < length C.threads) (x : IsCourseRun C D run) where
  abbrev S : Setting W
  S = setting_of sets moves rules C D N

  -- the memory of a name is that of each of its moments
  memory_last : (m : Moment) → IsMoment C m → run.memory (N.last (N.name m)) ≡ run.memory m
  memory_last m its =
      elim (names.own m its) [
        | inl same ↦ ap run.memory (sym same)
        | inr one ↦ fun_ext (λ a. x.one (stretch m (N.last (N.name m))) a one)
      ]

  after_memory : (r : Row) (b c : Bool) → IsRow C r → b ≡ c → run.memory (cond b (before r) (after r)) ≡ run.memory (N.last (cond c (N.name (before r)) (N.name (after r))))
  after_memory r true true is same = sym (memory_last (before r) is)
  after_memory r false false is same = sym (memory_last (after r) is)
  after_memory r true false is same = absurd (false≢true (sym same))
  after_memory r false true is same = absurd (false≢true same)

  steps : (i : ℕ) (its_row : StepRow) → leg_row C i ≡ Some its_row → IsStep D.image_end its_row (runs.state_before S (run_seen N run) i) (runs.state_after S (run_seen N run) i its_row)
  steps i its_row is =
      let inside : IsRow C (row_on C i) = row_inside C (row_on C i) its_row is in
      let base = x.steps (row_on C i) its_row is in
      let call : calls C (row_on C i) ≡ is_call its_row.instr = ap is_call_row is in
      let to_memory = after_memory (row_on C i) (calls C (row_on C i)) (is_call its_row.instr) inside call in
      let one = subst (λ (f : ℕ → ℕ). IsStep D.image_end its_row (state_from (run.register (leg_of C (row_on C i))) (run.memory (before (row_on C i)))) (state_from (run.register (suc (leg_of C (row_on C i)))) f)) to_memory base in
      let two = subst (λ (f : ℕ → ℕ). IsStep D.image_end its_row (state_from (run.register (leg_of C (row_on C i))) f) (state_from (run.register (suc (leg_of C (row_on C i)))) (run.memory (N.last (cond (is_call its_row.instr) (N.name (before (row_on C i))) (N.name (after (row_on C i)))))))) (sym (memory_last (before (row_on C i)) inside)) one in
      let three = subst (λ (k : ℕ). IsStep D.image_end its_row (state_from (run.register k) (run.memory (N.last (N.name (before (row_on C i)))))) (state_from (run.register (suc k)) (run.memory (N.last (cond (is_call its_row.instr) (N.name (before (row_on C i))) (N.name (after (row_on C i)))))))) (number_point C i) two in
      subst (λ (k : ℕ). IsStep D.image_end its_row (state_from (run.register i) (run.memory (N.last (N.name (before (row_on C i)))))) (state_from (run.register k) (run.memory (N.last (cond (is_call its_row.instr) (N.name (before (row_on C i))) (N.name (after (row_on C i)))))))) (one_more i) three

  registers_end : (p r v : ℕ) → IsLast S p → 0 < r → S.last p r ≡ Some v → run.register p r ≡ v
  registers_end p r v final some e =
      let low = final.0 in
      let all = points_next C.threads 0 0 threads (omega arith) in
      let inside = point_inside C.threads p (omega arith) in
      let number : (point_at C p).number ≡ length (rows_of C (point_at C p).thread) =
      elim ((slice_get_cases (rows_of C (point_at C p).thread) (point_at C p).number).1) [
        | inl (its_row, below, at, rest) ↦ absurd (some_none (sym at ∙ final.1))
        | inr (past, none) ↦ let most = inside.1 in omega arith
      ] in
      ap (λ (k : ℕ). run.register k r) (sym (number_point C p) ∙ ap (λ (k : ℕ). number_of C (point_at C p).thread k) number) ∙ x.registers_end (point_at C p).thread r v inside.0 some e

  still : (a m w : ℕ) (s : Stretch) → N.link m w ≡ Some s → IsLink C N m w s → S.moments.untraced m w ≡ false → ((i : ℕ) → S.moments.may_act i m w ≡ true → StepWrites S (run_seen N run) i a → ⊥) → (act : Act) → IsAct C act → MayAct C act s → WritesIn C D run act a → ⊥
  still a m w s found link light none untraced is may_act writes =
      let told : is_some C.untraced ≡ true = ap is_some is.1 in
      let between = may_act_from C sound untraced s.from s.to is link.from link.to may_act in
      false≢true (sym light ∙ ap (untraced_by C) found ∙ and_from (is_some C.untraced) (may_act_between C untraced s.from s.to) told between)
  still a m w s found link light none (row r) is may_act writes =
      let its = match_is (row_at C r) (λ its_row. WritesBy its_row.instr D.image_end (interleaved.state_before_row C run r) (interleaved.state_after_row C run r) a) writes in
      let same : row_on C (leg_of C r) ≡ r = ap row_from (point_number C r.thread r.step (thread_inside C r is) (omega arith)) in
      let stored : stores C r ≡ true = ap is_writing its.1 ∙ writes_store its.0.instr D.image_end (interleaved.state_before_row C run r) (interleaved.state_after_row C run r) a its.2 in
      let between = may_act_from C sound (row r) s.from s.to is link.from link.to may_act in
      none (leg_of C r) (ap (λ (q : Row). may_act_by C q (N.link m w)) same ∙ ap (may_act_by C r) found ∙ and_from (stores C r) (may_act_between C (row r) s.from s.to) stored between) (record {
        row = its.0;
        is_row = ap (row_at C) same ∙ its.1;
        writes = written_by_registers its.0.instr D.image_end (interleaved.state_before_row C run r) (interleaved.state_after_row C run r) (runs.state_before S (run_seen N run) (leg_of C r)) (runs.state_after S (run_seen N run) (leg_of C r) its.0) a refl (ap run.register (one_more (leg_of C r))) its.2;
      })

  quiet : (a m w : ℕ) → S.moments.next m w ≡ true → S.moments.untraced m w ≡ false → ((i : ℕ) → S.moments.may_act i m w ≡ true → StepWrites S (run_seen N run) i a → ⊥) → run.memory (N.last w) a ≡ run.memory (N.last m) a
  quiet a m w next light none =
      let found = some_is (N.link m w) next in
      let link = names.links m w found.0 found.1 in
      let kept = x.quiet found.0 a link.from link.to link.next.later.0 (still a m w found.0 found.1 link light none) in
      let to : run.memory (N.last w) ≡ run.memory found.0.to = ap (λ (n : ℕ). run.memory (N.last n)) (sym link.to_name) ∙ memory_last found.0.to link.to in
      let from : run.memory (N.last m) ≡ run.memory found.0.from = ap (λ (n : ℕ). run.memory (N.last n)) (sym link.from_name) ∙ memory_last found.0.from link.from in
      ap (λ (f : ℕ → ℕ). f a) to ∙ kept ∙ sym (ap (λ (f : ℕ → ℕ). f a) from)

  pub seen_runs : Runs S (run_seen N run)
  seen_runs = record {
    words = λ p r early. (x.states p at_end tt).words r;
    zero = λ p early. (x.states p at_end tt).zero;
    bytes = λ m a early. (x.states 0 (N.last m) (names.named m early).0).bytes a;
    steps = steps;
    registers_end = registers_end;
    bytes_end = λ a v e. ap (λ (m : Moment). run.memory m a) (last_end C sound N names) ∙ x.bytes_end a v e;
    quiet = quiet;
  }
