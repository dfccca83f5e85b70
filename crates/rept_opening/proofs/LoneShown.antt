-- What is known and told of a run of one thread, in however many slices, is at points what is known
-- and told of its path.
use Rattle.std.proofs.Common.{◌≡◌, ℕ, suc, ◌+◌, ◌-◌, ◌<◌, ◌≤◌, leb, cond, nat_lt, Bool, true, false, List, [], ◌∷◌, length, slice_get, None, Some, Option, inl, inr, refl, sym, ap, ◌∙◌, subst, arith, zero-add}
use Rattle.std.proofs.lemmas.Bool.{cases_Bool, cases_lt, cond-true, cond-false, lt-ltb, le-ltb, leb-true, le-leb, ltb-true, false≢true}
use Rattle.std.proofs.lemmas.Option.{slice_get_past, slice_get_within}
use mathlib.Core.Path.{fun_ext}
use Rattle.rept_elf.specs.Segments.{ElfSegment}
use Rattle.rept_dump.specs.Program.{Program, contents}
use Rattle.rept_dump.specs.Memory.{crash_byte}
use Rattle.rept_isa.specs.declared.instr.Instr.{Instr}
use Rattle.rept_isa.specs.declared.instr.Instr.TheVariants.{Lui, Auipc, Jal, Jalr, Branch, Load, Store, Imm, Op, Amo, Fence, Ecall, Ebreak, Counter}
use Rattle.rept_isa.specs.declared.instr.AmoOp.{AmoOp}
use Rattle.rept_isa.specs.declared.instr.AmoOp.TheVariants as atomic
use Rattle.rept_isa.specs.declared.row.StepRow.{StepRow}
use Rattle.rept_amo.specs.Atomic.{atomic_rules}
use Rattle.rept_rules.specs.MayWrite.{instr_may_write}
use Rattle.rept_reason.specs.View.Seen.{Seen}
use Rattle.rept_reason.specs.declared.fact.Cell.{Cell}
use Rattle.rept_reason.specs.declared.fact.Cell.TheVariants.{Register, Byte}
use Rattle.rept_reason.specs.Facts.{Knowledge}
use Rattle.rept_span.specs.Ranges.{Legs, legs_of, range}
use Rattle.rept_steps.specs.declared.slice.Slice.{Slice}
use Rattle.rept_steps.specs.Course.{Course, row_of, row_at, IsSoundCourse}
use Rattle.rept_order.specs.Legs.{in_next, point_in, point_at, point_of_thread, row_from, leg_row, number_of, points_before}
use Rattle.rept_order.specs.Moments.{writes_memory, atomic_writes}
use Rattle.rept_moments.specs.Naming.Numbered.{legs_on}
use Rattle.rept_moments.specs.Numbers.{numbers_of, numbered}
use Rattle.rept_moments.specs.Seen.{alone_by, rows_in, seen, seen_by, seen_alone, moment_in}
use Rattle.rept_report.specs.declared.counts.Counts.{Counts}
use Rattle.rept_report.specs.Closure.{IsReport}
use Rattle.rept_report.specs.Moments.{Moments, points_of}
use Rattle.rept_report.specs.OneThread.{ThreadPath, path_setting}
use Rattle.rept_report.specs.Setting.{Setting, way_of}
use Rattle.rept_report.specs.Spots.{spot}
use Rattle.rept_report.specs.Views.{bounds}
use Rattle.rept_report.proofs.Line.{next_is}
use Rattle.rept_report.proofs.Registers.{range_same}
use Rattle.rept_found.specs.Crash.{Crash, Means, Scene, ending_of, path_of, route, setting}
use Rattle.rept_found.specs.Telling.{counts_of, noted, shown_of, shown_on}
use Rattle.rept_found.specs.Trip.Last.{writer_found}
use Rattle.rept_found.specs.Trip.Trip.{given_by}
use Rattle.rept_timeline.specs.Ends.{thread_on}
use Rattle.rept_report.specs.Given.{setting_by}
use Rattle.rept_found.proofs.Alone.{alone_setting, alone_shown}
use Rattle.rept_found.proofs.PlacesLemmas.Naming.{before_number, last_number}
use Rattle.rept_found.proofs.TripLemmas.Paths.{is_sound}
use Rattle.rept_found.proofs.TripLemmas.Single.{moment_alone}
use Rattle.rept_findings.specs.Shown.{Shown}
use Rattle.rept_opening.specs.True.{IsSameAtPoints, known_at_points, lone_by}
use Rattle.rept_opening.proofs.LoneLemmas.{lone, crash_with, lone_course}
use Rattle.rept_opening.proofs.LoneOrder.{at_inside, at_last}
use Rattle.rept_opening.proofs.LoneNumbers.{TouchesByStores, to_number, to_numbers, to_point, to_points}
use Rattle.rept_opening.proofs.LoneWriters.{writer_same}
use Rattle.rept_opening.proofs.Renumbered.{Renumbers, known_by, report_by, with_moments}

true_false : true ≡ false → ⊥
true_false e = false≢true (sym e)

-- the rows of RV32IMA touch bytes only where they store
atomic_still : (op : AmoOp) (rd rs1 rs2 : ℕ) (s : Seen) (image_end a : ℕ) → atomic_writes op ≡ false → instr_may_write (Amo op rd rs1 rs2) s image_end a ≡ false
atomic_still atomic.Lr rd rs1 rs2 s image_end a still = refl
atomic_still atomic.Sc rd rs1 rs2 s image_end a still = absurd (true_false still)
atomic_still atomic.Swap rd rs1 rs2 s image_end a still = absurd (true_false still)
atomic_still atomic.Add rd rs1 rs2 s image_end a still = absurd (true_false still)
atomic_still atomic.Xor rd rs1 rs2 s image_end a still = absurd (true_false still)
atomic_still atomic.And rd rs1 rs2 s image_end a still = absurd (true_false still)
atomic_still atomic.Or rd rs1 rs2 s image_end a still = absurd (true_false still)
atomic_still atomic.Min rd rs1 rs2 s image_end a still = absurd (true_false still)
atomic_still atomic.Max rd rs1 rs2 s image_end a still = absurd (true_false still)
atomic_still atomic.Minu rd rs1 rs2 s image_end a still = absurd (true_false still)
atomic_still atomic.Maxu rd rs1 rs2 s image_end a still = absurd (true_false still)

instr_still : (instr : Instr) (s : Seen) (image_end a : ℕ) → writes_memory instr ≡ false → instr_may_write instr s image_end a ≡ false
instr_still (Store op rs1 rs2 imm) s image_end a still = absurd (true_false still)
instr_still (Amo op rd rs1 rs2) s image_end a still = atomic_still op rd rs1 rs2 s image_end a still
instr_still Ecall s image_end a still = absurd (true_false still)
instr_still (Lui rd imm) s image_end a still = refl
instr_still (Auipc rd imm) s image_end a still = refl
instr_still (Jal rd imm) s image_end a still = refl
instr_still (Jalr rd rs1 imm) s image_end a still = refl
instr_still (Branch op rs1 rs2 imm) s image_end a still = refl
instr_still (Load op rd rs1 imm) s image_end a still = refl
instr_still (Imm op rd rs1 imm) s image_end a still = refl
instr_still (Op op rd rs1 rs2) s image_end a still = refl
instr_still Fence s image_end a still = refl
instr_still Ebreak s image_end a still = refl
instr_still (Counter rd csr) s image_end a still = refl

pub atomic_touches : TouchesByStores atomic_rules
atomic_touches row s image_end a still = instr_still row.instr s image_end a still

-- the first thread, or a number that is no thread's
first_by : (t : ℕ) → cond (nat_lt t 1) t 0 ≡ 0
first_by t =
    elim (cases_lt t 1) [
      | inl below ↦ cond-true (nat_lt t 1) t 0 (lt-ltb t 1 below) ∙ omega (arith, below)
      | inr past ↦ cond-false (nat_lt t 1) t 0 (le-ltb t 1 past)
    ]

-- the legs of one thread are its steps
module _ (rows : List StepRow) (slices : List Slice) where
  leg_is : (i : ℕ) → leg_row (lone rows slices) i ≡ slice_get rows i
  leg_is i =
      elim (cases_lt (length rows) i) [
        | inl past ↦
            ap (λ (b : Bool). row_at (lone rows slices) (row_from (cond b (in_next (point_in [] (i - suc (length rows)))) (point_of_thread 0 i)))) (lt-ltb (length rows) i past)
            ∙ sym (slice_get_past rows i (omega (arith, past)))
        | inr few ↦ ap (λ (b : Bool). row_at (lone rows slices) (row_from (cond b (in_next (point_in [] (i - suc (length rows)))) (point_of_thread 0 i)))) (le-ltb (length rows) i few)
      ]

  pub legs_are : legs_on (lone rows slices) ≡ legs_of rows
  legs_are =
      let count : points_before (lone rows slices).threads 1 - 1 ≡ length rows = omega arith in
      ap (λ (f : ℕ → Option StepRow). let l : Legs = record { row = f; count = points_before (lone rows slices).threads 1 - 1 } in l) (fun_ext leg_is)
      ∙ ap (λ (k : ℕ). let l : Legs = record { row = (λ i. slice_get rows i); count = k } in l) count

  thread_zero : (p : ℕ) → thread_on (lone rows slices) p ≡ 0
  thread_zero p = first_by (point_at (lone rows slices) p).thread

-- what a path's setting is, with other legs, last values and moments
abbrev made : {W : Type 0} → Means W → Crash → Legs → (ℕ → ℕ → Option ℕ) → Moments → Setting W
made m crash legs last moments = record {
  sets = m.sets;
  moves = m.moves;
  rules = m.rules;
  legs = legs;
  moments = moments;
  last = last;
  dump = crash_byte (contents crash.exe) crash.core;
  image_end = (contents crash.exe).end;
}

-- the numbers that a step's own registers have are those of the path
module _ {W : Type 0} (m : Means W) (exe : Program) (core : List ElfSegment) (note : List ℕ) (rows : List StepRow) (K : Knowledge) where
  abbrev crash : Crash
  crash = crash_with exe core (note ∷ [])

  abbrev P : ThreadPath W
  P = path_of m crash rows

  abbrev T : Setting W
  T = path_setting P

  abbrev n : ℕ
  n = length rows

  abbrev known : Course → Knowledge
  known C = known_at_points C (length rows) K

  -- the same by points, where the moments at points are these
  known_is : (C : Course) (number : ℕ → ℕ) → ((p : ℕ) → p ≤ length rows → number p ≡ moment_in (seen C) p) → known_by (length rows) number K ≡ known_at_points C (length rows) K
  known_is C number there = fun_ext (λ p. fun_ext (λ c. at p c))
    where
      at : (p : ℕ) (c : Cell) → known_by (length rows) number K p c ≡ known_at_points C (length rows) K p c
      at p (Register r) = refl
      at p (Byte a) =
          elim (cases_Bool (leb p (length rows))) [
            | inl few ↦ ap (λ (k : ℕ). cond (leb p (length rows)) (K k (Byte a)) None) (there p (leb-true p (length rows) few))
            | inr past ↦ cond-false (leb p (length rows)) (K (number p) (Byte a)) None past ∙ sym (cond-false (leb p (length rows)) (K (moment_in (seen C) p) (Byte a)) None past)
          ]

  byte_known : (C : Course) (q a : ℕ) → q ≤ length rows → known_at_points C (length rows) K q (Byte a) ≡ K (moment_in (seen C) q) (Byte a)
  byte_known C q a few = cond-true (leb q (length rows)) (K (moment_in (seen C) q) (Byte a)) None (le-leb q (length rows) few)

  -- what is told by points of the path
  byte_told : (C : Course) (q a : ℕ) → q ≤ length rows → K (moment_in (seen C) (0 + q)) (Byte a) ≡ known_at_points C (length rows) K (moment_in (seen_alone rows) (0 + q)) (Byte a)
  byte_told C q a few =
      ap (λ (k : ℕ). K (moment_in (seen C) k) (Byte a)) (zero-add q)
      ∙ sym (byte_known C q a few)
      ∙ ap (λ (k : ℕ). known_at_points C (length rows) K k (Byte a)) (sym (ap (moment_in (seen_alone rows)) (zero-add q) ∙ moment_alone rows q few))

  -- of one slice
  module _ (s : Slice) where
    abbrev in_one : Course
    in_one = lone rows (s ∷ [])

    still : Renumbers T (points_of (length rows)) (points_of (length rows)) (λ k. k) (λ k. k)
    still = record {
      before = λ i row is. (let few = slice_get_within rows i row is in (omega (arith, few), refl));
      after = λ i row is. (let few = slice_get_within rows i row is in (omega (arith, few), refl));
      end = refl;
      inside = λ k few. few;
      returns = λ k few. refl;
      next = λ k w e. (let its = next_is (length rows) k w e in let less = its.0 in let same = its.1 in (omega (arith, less), omega (arith, less, same)));
      carries = λ J a k w h. h;
    }

    report_one : IsReport (setting m crash in_one) K → IsReport T (known in_one)
    report_one report =
        let own : IsReport T K = subst (λ (S : Setting W). IsReport S K) (alone_setting m rows crash in_one refl (omega arith)) report in
        subst (λ (J : Knowledge). IsReport T J) (known_is in_one (λ k. k) (λ p few. sym (moment_alone rows p few))) (report_by T (points_of (length rows)) (points_of (length rows)) (λ k. k) (λ k. k) still still K own)

    same_one : (scene : Scene) → IsSameAtPoints rows (shown_on (route m crash in_one) K scene) (shown_of P (known in_one) scene)
    same_one scene = record {
      registers = λ q r few. refl;
      ranges = λ q r few. ap (bounds m.sets) (range_same T K (known in_one) (λ p x. refl) (0 + q) r);
      notes = λ q r few. ap (noted m.moves) (range_same T K (known in_one) (λ p x. refl) (0 + q) r);
      bytes = λ q a few. byte_told in_one q a few;
      writers = λ q a few. refl;
      code = λ a. refl;
      counts = refl;
    }

  -- of several
  module _ (touches : TouchesByStores m.rules) (slices : List Slice) (several : rows_in slices rows ≡ None) (sound : IsSoundCourse (lone rows slices)) where
    abbrev C : Course
    C = lone rows slices

    seen_is : seen C ≡ seen_by C None
    seen_is = ap (seen_by C) several

    setting_is : setting m crash C ≡ with_moments T (numbered C)
    setting_is =
        ap (λ (o : Option (List StepRow)). setting_by m.sets m.moves m.rules (given_by C (ending_of crash) o)) several
        ∙ ap (λ (l : Legs). made m crash l (λ p. (ending_of crash).registers (thread_on C p)) (numbered C)) (legs_are rows slices)
        ∙ ap (λ (f : ℕ → ℕ → Option ℕ). made m crash (legs_of rows) f (numbered C)) (fun_ext (λ p. ap (ending_of crash).registers (thread_zero rows slices p)))

    number_there : (p : ℕ) → p ≤ length rows → to_number rows slices sound (is_sound rows) p ≡ moment_in (seen C) p
    number_there p most =
        elim (cases_lt p (length rows)) [
          | inl few ↦
              ap (numbers_of C).name (at_inside rows slices sound (is_sound rows) p few)
              ∙ sym (ap (λ (k : ℕ). moment_in (seen_by C None) k) (sym (zero-add p)) ∙ before_number C 0 p few)
              ∙ sym (ap (λ x. moment_in x p) seen_is)
          | inr past ↦
              let final : p ≡ length rows = omega (arith, most, past) in
              ap (numbers_of C).name (at_last rows slices sound (is_sound rows) p past)
              ∙ sym (ap (λ (k : ℕ). moment_in (seen_by C None) k) (final ∙ sym (zero-add (length rows))) ∙ last_number C 0 (omega arith))
              ∙ sym (ap (λ x. moment_in x p) seen_is)
        ]

    report_many : IsReport (setting m crash C) K → IsReport T (known C)
    report_many report =
        let own : IsReport (with_moments T (numbered C)) K = subst (λ (S : Setting W). IsReport S K) setting_is report in
        subst (λ (J : Knowledge). IsReport T J) (known_is C (to_number rows slices sound (is_sound rows)) number_there)
        (report_by T (numbered C) (points_of (length rows)) (to_point rows slices sound (is_sound rows)) (to_number rows slices sound (is_sound rows))
        (to_points rows slices sound (is_sound rows) T refl touches) (to_numbers rows slices sound (is_sound rows) T refl touches) K own)

    writer_told : (q a : ℕ) → q ≤ length rows → writer_found (setting m crash C) K (spot (moment_in (seen C) (0 + q)) a) ≡ writer_found T (known C) (spot (moment_in (seen_alone rows) (0 + q)) a)
    writer_told q a few =
        ap (λ (S : Setting W). writer_found S K (spot (moment_in (seen C) (0 + q)) a)) setting_is
        ∙ ap (λ (k : ℕ). writer_found (with_moments T (numbered C)) K (spot k a)) (ap (moment_in (seen C)) (zero-add q) ∙ sym (number_there q few))
        ∙ writer_same rows slices sound (is_sound rows) T refl K q a few
        ∙ ap (λ (k : ℕ). writer_found T K (spot k a)) (sym (ap (moment_in (seen_alone rows)) (zero-add q) ∙ moment_alone rows q few))

    same_many : (scene : Scene) → IsSameAtPoints rows (shown_on (route m crash C) K scene) (shown_of P (known C) scene)
    same_many scene = record {
      registers = λ q r few. refl;
      ranges = λ q r few. ap (λ (S : Setting W). bounds m.sets (range (way_of S) K (0 + q) r)) setting_is ∙ ap (bounds m.sets) (range_same T K (known C) (λ p x. refl) (0 + q) r);
      notes = λ q r few. ap (λ (S : Setting W). noted m.moves (range (way_of S) K (0 + q) r)) setting_is ∙ ap (noted m.moves) (range_same T K (known C) (λ p x. refl) (0 + q) r);
      bytes = λ q a few. byte_told C q a few;
      writers = λ q a few. writer_told q a few;
      code = λ a. refl;
      counts = ap (λ (S : Setting W). counts_of S K) setting_is;
    }

  report_of : TouchesByStores m.rules → (slices : List Slice) → IsSoundCourse (lone rows slices) → IsReport (setting m crash (lone rows slices)) K → IsReport T (known (lone rows slices))
  report_of touches [] sound report = report_many touches [] refl sound report
  report_of touches (s ∷ []) sound report = report_one s report
  report_of touches (s ∷ u ∷ slices) sound report = report_many touches (s ∷ u ∷ slices) refl sound report

  same_of : TouchesByStores m.rules → (slices : List Slice) → IsSoundCourse (lone rows slices) → (scene : Scene) → IsSameAtPoints rows (shown_on (route m crash (lone rows slices)) K scene) (shown_of P (known (lone rows slices)) scene)
  same_of touches [] sound scene = same_many touches [] refl sound scene
  same_of touches (s ∷ []) sound scene = same_one s scene
  same_of touches (s ∷ u ∷ slices) sound scene = same_many touches (s ∷ u ∷ slices) refl sound scene

module _ {W : Type 0} (m : Means W) (touches : TouchesByStores m.rules) (exe : Program) (core : List ElfSegment) (C : Course) (rows : List StepRow) (K : Knowledge) where
  pub lone_report : (notes : List (List ℕ)) → IsSoundCourse C → lone_by C.threads C.untraced ≡ Some rows → length notes ≡ 1 → IsReport (setting m (crash_with exe core notes) C) K → IsReport (path_setting (path_of m (crash_with exe core notes) rows)) (known_at_points C (length rows) K)
  lone_report [] sound e only report = absurd (omega (arith, only))
  lone_report (note ∷ []) sound e only report =
      let its = lone_course C.threads C.untraced rows e in
      subst (λ (D : Course). IsSoundCourse D → IsReport (setting m (crash_with exe core (note ∷ [])) D) K → IsReport (path_setting (path_of m (crash_with exe core (note ∷ [])) rows)) (known_at_points D (length rows) K)) (sym its.1)
      (λ own r. report_of m exe core note rows K touches its.0 own r) sound report
  lone_report (note ∷ other ∷ notes) sound e only report = absurd (omega (arith, only))

  pub lone_same : (notes : List (List ℕ)) → IsSoundCourse C → lone_by C.threads C.untraced ≡ Some rows → length notes ≡ 1 → (scene : Scene) → IsSameAtPoints rows (shown_on (route m (crash_with exe core notes) C) K scene) (shown_of (path_of m (crash_with exe core notes) rows) (known_at_points C (length rows) K) scene)
  lone_same [] sound e only scene = absurd (omega (arith, only))
  lone_same (note ∷ []) sound e only scene =
      let its = lone_course C.threads C.untraced rows e in
      subst (λ (D : Course). IsSoundCourse D → IsSameAtPoints rows (shown_on (route m (crash_with exe core (note ∷ [])) D) K scene) (shown_of (path_of m (crash_with exe core (note ∷ [])) rows) (known_at_points D (length rows) K) scene)) (sym its.1)
      (λ own. same_of m exe core note rows K touches its.0 own scene) sound
  lone_same (note ∷ other ∷ notes) sound e only scene = absurd (omega (arith, only))
