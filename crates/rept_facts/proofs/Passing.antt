-- What is kept of how far the rules of rows were applied stays so, and tells when there is nothing
-- more to infer.
use Rattle.std.proofs.Common.{◌≡◌, true, ℕ, ◌+◌, ◌*◌, get_or, ◌<◌, ◌≤◌, false, List, length, Some, inl, inr, refl, sym, ap, subst, ◌∙◌, arith, Contains, slice_get, set}
use Rattle.std.proofs.lemmas.Bool.{cases_eq, false≢true, true≢false}
use Rattle.std.proofs.lemmas.Option.{slice_get_within, slice_get-get_or, get_or_from_slice_get}
use Rattle.std.proofs.lemmas.List.{length-set}
use Rattle.std.proofs.lemmas.List.Sums.{sum_by-set, sum_by-le}
use Rattle.std.specs.Prelude.{All}
use Rattle.rept_span.proofs.Filling.{set_here, set_elsewhere}
use Rattle.rept_isa.specs.declared.row.StepRow.{StepRow}
use Rattle.rept_reason.specs.declared.fact.Cell.{Cell}
use Rattle.rept_reason.specs.declared.fact.Cell.TheVariants.{Register, Byte}
use Rattle.rept_reason.specs.Facts.{told}
use Rattle.rept_reason.specs.declared.view.inferred.When.{When}
use Rattle.rept_reason.specs.declared.view.inferred.Conclusion.{Conclusion}
use Rattle.rept_reason.specs.View.Seen.{seen_cell}
use Rattle.rept_log.specs.Around.{around, around_lawful}
use Rattle.rept_report.specs.Setting.{HasLaws}
use Rattle.rept_report.specs.Views.{point_of, instant_of}
use Rattle.rept_report.specs.Conclusions.{HasWords}
use Rattle.rept_report.proofs.ViewLaws.{known_more}
use Rattle.rept_writing.specs.declared.passes.pass.Pass.{Pass}
use Rattle.rept_writing.specs.declared.passes.pass.Pass.TheVariants.{Never, With, Cut}
use Rattle.rept_writing.specs.Hits.{Listed}
use Rattle.rept_facts.specs.Work.{Work, left, left_of}
use Rattle.rept_facts.specs.Cells.{cells_known}
use Rattle.rept_facts.specs.State.{AnalysisState, all_known, with_work, with_infers, with_inferred, Subject, along}
use Rattle.rept_facts.specs.Inferring.{Knows, Grows, InferredKnown, InferredBelow, HasInferred, IsUncut, IsHalt}
use Rattle.rept_facts.specs.Inferring.HasNews.{anew}
use Rattle.rept_facts.specs.declared.halt.LearnError.{LearnError}
use Rattle.rept_facts.specs.declared.halt.LearnError.TheVariants.{Clash, OutOfMemory}
use Rattle.rept_span.specs.Filled.{View}
use Rattle.rept_facts.proofs.Barriers.{writings_still}
use Rattle.rept_facts.proofs.Conclusion.{list_known}
use Rattle.rept_facts.specs.Kept.{IsKept, IsInferredWith, IsPass}
use Rattle.rept_facts.proofs.Cells.{cells_less, cells_back}
use Rattle.rept_reason.specs.declared.view.inferred.When.TheVariants.{Before, After}

-- where no less is known
module _ {W : Type 0} (s t : AnalysisState W) (same : t.path ≡ s.path) (more : (p : ℕ) (c : Cell) (v : ℕ) → Knows p c v s → Knows p c v t) where
  pub seen_more : (i : ℕ) (w : When) (c : Cell) (v : ℕ) → seen_cell (around s.path.given.moments s.known i) w c ≡ Some v → seen_cell (around t.path.given.moments t.known i) w c ≡ Some v
  seen_more i w (Register r) v e = known_more (told s.known.log) (told t.known.log) (λ q x y h. more q (Register x) y h) (point_of i w) r v e
  seen_more i Before (Byte a) v e = subst (λ (P : Subject W). Knows (P.given.moments.before i) (Byte a) v t) (sym same) (more (s.path.given.moments.before i) (Byte a) v e)
  seen_more i After (Byte a) v e = subst (λ (P : Subject W). Knows (P.given.moments.after i) (Byte a) v t) (sym same) (more (s.path.given.moments.after i) (Byte a) v e)

  with_more : (row : StepRow) (i k : ℕ) → IsInferredWith row i k s → IsInferredWith row i k t
  with_more row i k d = record {
    view = d.view;
    lawful = d.lawful;
    count = subst (λ (P : Subject W). cells_known P.rules row d.view ≡ k) (sym same) d.count;
    learnt = λ x h. subst (λ (P : Subject W). Knows (instant_of P.given.moments i x.when x.cell) x.cell x.value t) (sym same) (more (instant_of s.path.given.moments i x.when x.cell) x.cell x.value (d.learnt x (subst (λ (P : Subject W). Contains (P.rules.infer row d.view) x) same h)));
    less = λ w c v e. seen_more i w c v (d.less w c v e);
  }

  pub pass_more : (row : StepRow) (i : ℕ) (pass : Pass) → IsPass row i pass s → IsPass row i pass t
  pass_more row i Never h = h
  pass_more row i (With k) h = with_more row i k h
  pass_more row i Cut h = h

  pub passes_more : t.work.inferred ≡ s.work.inferred → ((i : ℕ) (row : StepRow) (pass : Pass) → s.path.given.legs.row i ≡ Some row → slice_get s.work.inferred i ≡ Some pass → IsPass row i pass s) → (i : ℕ) (row : StepRow) (pass : Pass) → t.path.given.legs.row i ≡ Some row → slice_get t.work.inferred i ≡ Some pass → IsPass row i pass t
  passes_more inferred h i row pass at is = pass_more row i pass (h i row pass (subst (λ (P : Subject W). P.given.legs.row i ≡ Some row) same at) (subst (λ (xs : List Pass). slice_get xs i ≡ Some pass) inferred is))

pub never_pass : {W : Type 0} (s : AnalysisState W) (row : StepRow) (i : ℕ) (x : Pass) → x ≡ Never → IsPass row i x s
never_pass s row i x e = subst (λ (y : Pass). IsPass row i y s) (sym e) tt

-- other work
pub kept_work : {W : Type 0} (s : AnalysisState W) → IsKept s → s.complete ≡ false → (w : Work) → s.path.given.moments.end < w.room → length w.inferred ≡ s.path.given.legs.count → ((i : ℕ) (row : StepRow) (pass : Pass) → s.path.given.legs.row i ≡ Some row → slice_get w.inferred i ≡ Some pass → IsPass row i pass s) → w.joins ≡ s.work.joins → IsKept (with_work s w)
kept_work s kept open_ w room rows passes joins = record {
  few = kept.few;
  registers = kept.registers;
  last_is = kept.last_is;
  sized = kept.sized;
  filled = kept.filled;
  once = kept.once;
  traced = record { entries = kept.traced.entries; trace = kept.traced.trace; logged = kept.traced.logged; agree = kept.traced.agree };
  listed = kept.listed;
  shown = kept.shown;
  calm = kept.calm;
  stopped = kept.stopped;
  finished = λ e. absurd (false≢true (sym open_ ∙ e));
  room = room;
  rows = rows;
  inferred = λ i row pass at is. pass_more s (with_work s w) refl (λ p c v e. e) row i pass (passes i row pass at is);
  roomy = λ j. kept.roomy (sym joins ∙ j.0, j.1);
}

pub same_pass : {x y : Pass} → Some x ≡ Some y → x ≡ y
same_pass e = cc

-- the list after one row's rules were applied
pub put_passes : {W : Type 0} (s : AnalysisState W) → IsKept s → (i : ℕ) (p : Pass) → i < s.path.given.legs.count → ((row : StepRow) → s.path.given.legs.row i ≡ Some row → IsPass row i p s) → (j : ℕ) (row : StepRow) (pass : Pass) → s.path.given.legs.row j ≡ Some row → slice_get (set s.work.inferred i p) j ≡ Some pass → IsPass row j pass s
put_passes s kept i p inside here j row pass at is =
    elim (cases_eq j i) [
      | inl e ↦
          let rows = kept.rows in
          let found : Some p ≡ Some pass = sym (set_here s.work.inferred i p (omega (arith, inside, rows))) ∙ rw e at is in
          subst (λ (x : Pass). IsPass row j x s) (same_pass found) (subst (λ (k : ℕ). IsPass row k p s) (sym e) (here row (rw e at at)))
      | inr ne ↦ kept.inferred j row pass at (sym (set_elsewhere s.work.inferred i j p ne) ∙ is)
    ]

pub kept_put : {W : Type 0} (s : AnalysisState W) → IsKept s → s.complete ≡ false → (i : ℕ) (p : Pass) → i < s.path.given.legs.count → ((row : StepRow) → s.path.given.legs.row i ≡ Some row → IsPass row i p s) → IsKept (with_inferred s (set s.work.inferred i p))
kept_put s kept open_ i p inside here = kept_work s kept open_ (record { joins = s.work.joins; writing = s.work.writing; room = s.work.room; infers = s.work.infers; inferred = set s.work.inferred i p }) kept.room (length-set s.work.inferred i p ∙ kept.rows) (put_passes s kept i p inside here) refl

pub kept_infers : {W : Type 0} (s : AnalysisState W) → IsKept s → s.complete ≡ false → (n : ℕ) → IsKept (with_infers s n)
kept_infers s kept open_ n = kept_work s kept open_ (record { joins = s.work.joins; writing = s.work.writing; room = s.work.room; infers = n; inferred = s.work.inferred }) kept.room kept.rows kept.inferred refl

-- where no more cells are known than when the row's rules were applied, all that they let one
-- conclude is known
module _ {W : Type 0} (s : AnalysisState W) (laws : HasLaws (along s.path)) (words : HasWords (all_known s)) (i k : ℕ) (row : StepRow) (d : IsInferredWith row i k s) where
  pub inferred_before : k ≤ cells_known s.path.rules row (around s.path.given.moments s.known i)
  inferred_before = let less = cells_less s.path.rules row d.view (around s.path.given.moments s.known i) d.less in let count = d.count in omega (arith, less, count)

  pub nothing_more : k ≡ cells_known s.path.rules row (around s.path.given.moments s.known i) → InferredKnown row i s
  nothing_more same x h =
      let lawful = around_lawful s.path.given.moments s.known i (λ p r v e. words p r v e) in
      d.learnt x (laws.rules.needs_enough row (around s.path.given.moments s.known i) d.view x lawful d.lawful h (λ n needed.
      let own = laws.rules.needs_own row (around s.path.given.moments s.known i) x n lawful h needed in
      cells_back s.path.rules row d.view (around s.path.given.moments s.known i) d.less (d.count ∙ same) n.when n.cell own.0 own.1.0 own.1.1 ∙ sym own.1.1))

-- a row's rules were applied once more
module _ {W : Type 0} (s b : AnalysisState W) (n i : ℕ) (p q : Pass) (once : n ≤ s.work.infers + 1) (grows : Grows (with_infers s n) b) (still : b.work ≡ (with_infers s n).work) (at : slice_get s.work.inferred i ≡ Some p) (lower : left_of q + 1 ≤ left_of p) where
  passes_is : b.work.inferred ≡ s.work.inferred
  passes_is = rw still refl

  pub left_lower : left (set b.work.inferred i q) < left s.work.inferred
  left_lower =
      let sums = sum_by-set left_of s.work.inferred i q p (slice_get_within s.work.inferred i p at) in
      let read = ap left_of (get_or_from_slice_get s.work.inferred i p p at) in
      rw passes_is (omega (arith, sums, read, lower))

  pub row_grows : Grows s (with_inferred b (set b.work.inferred i q))
  row_grows = record {
    path = grows.path;
    count = grows.count;
    row = grows.row;
    spans = grows.spans;
    filled = grows.filled;
    shown = grows.shown;
    complete = grows.complete;
    conflict = grows.conflict;
    answers = grows.answers;
    older = grows.older;
    longer = grows.longer;
    log = grows.log;
    more = grows.more;
    tracked = grows.tracked;
    counted = grows.counted;
    writing = λ h. writings_still b (with_inferred b (set b.work.inferred i q)) refl refl refl (λ p c v e. e) refl (λ w. w) (grows.writing (writings_still s (with_infers s n) refl refl refl (λ p c v e. e) refl (λ w. w) h));
    fewer = let less = left_lower in omega (arith, less);
    spent = let less = left_lower in let infers : b.work.infers ≡ n = rw still refl in omega (arith, less, infers, once);
    words = grows.words;
  }

  pub row_uncut : IsUncut s → (q ≡ Cut → ⊥) → IsUncut (with_inferred b (set b.work.inferred i q))
  row_uncut uncut other j is =
      elim (cases_eq j i) [
        | inl e ↦ other (same_pass (sym (set_here b.work.inferred i q (rw passes_is (slice_get_within s.work.inferred i p at))) ∙ rw e at is))
        | inr ne ↦ uncut j (rw passes_is at (sym (set_elsewhere b.work.inferred i j q ne) ∙ is))
      ]

-- another list of rows that may write, with as much room
pub kept_writing : {W : Type 0} (s : AnalysisState W) → IsKept s → s.complete ≡ false → (listed : Listed) → listed.room ≡ s.work.room → IsKept (with_work s (record { joins = s.work.joins; writing = listed.list; room = listed.room; infers = s.work.infers; inferred = s.work.inferred }))
kept_writing s kept open_ listed room = let old = kept.room in kept_work s kept open_ (record { joins = s.work.joins; writing = listed.list; room = listed.room; infers = s.work.infers; inferred = s.work.inferred }) (omega (arith, room, old)) kept.rows kept.inferred refl

-- no row's rules were applied
pub kept_never : {W : Type 0} (s : AnalysisState W) → IsKept s → s.complete ≡ false → (passes : List Pass) → length passes ≡ length s.work.inferred → ((i : ℕ) (x : Pass) → slice_get passes i ≡ Some x → x ≡ Never) → IsKept (with_inferred s passes)
kept_never s kept open_ passes long never = kept_work s kept open_ (record { joins = s.work.joins; writing = s.work.writing; room = s.work.room; infers = s.work.infers; inferred = passes }) kept.room (long ∙ kept.rows) (λ i row x at is. never_pass s row i x (never i x is)) refl

few_left : (x : Pass) → left_of x ≤ 12
few_left Never = omega arith
few_left (With k) = omega arith
few_left Cut = omega arith

each_few : (xs : List Pass) → All (λ x. left_of x ≤ 12) xs
each_few xs k x lt = few_left (get_or xs k x)

-- rules can be applied at most twelve times a row
pub left_most : (xs : List Pass) → left xs ≤ 12 * length xs
left_most xs = let le = sum_by-le left_of 12 xs (each_few xs) in omega (arith, le)

-- how far a row's rules were applied
pub pass_there : {W : Type 0} (s : AnalysisState W) → IsKept s → (i : ℕ) → i < s.path.given.legs.count → (p : Pass) × (slice_get s.work.inferred i ≡ Some p)
pass_there s kept i inside = let rows = kept.rows in (get_or s.work.inferred i Never, slice_get-get_or s.work.inferred i Never (omega (arith, inside, rows)))

-- where more cells are known than when they were, they can be applied once less afterwards
module _ {W : Type 0} (s : AnalysisState W) (laws : HasLaws (along s.path)) (kept : IsKept s) (words : HasWords (all_known s)) (i cells : ℕ) (row : StepRow) (found : s.path.given.legs.row i ≡ Some row) (is_cells : cells ≡ cells_known s.path.rules row (around s.path.given.moments s.known i)) (few : cells ≤ 11) (more : slice_get s.work.inferred i ≡ Some (With cells) → ⊥) (uncut : IsUncut s) where
  known_fewer : (k : ℕ) → slice_get s.work.inferred i ≡ Some (With k) → k < cells
  known_fewer k at =
      let le = inferred_before s laws words i k row (kept.inferred i row (With k) found at) in
      elim (cases_eq k cells) [
        | inl e ↦ absurd (more (subst (λ (n : ℕ). slice_get s.work.inferred i ≡ Some (With n)) e at))
        | inr ne ↦ omega (arith, le, is_cells, ne)
      ]

  pub with_lower : (p : Pass) → slice_get s.work.inferred i ≡ Some p → left_of (With cells) + 1 ≤ left_of p
  with_lower Never at = omega (arith, few)
  with_lower (With k) at = let less = known_fewer k at in omega (arith, few, less)
  with_lower Cut at = absurd (uncut i at)

  pub cut_lower : (p : Pass) → slice_get s.work.inferred i ≡ Some p → left_of Cut + 1 ≤ left_of p
  cut_lower Never at = omega arith
  cut_lower (With k) at = let less = known_fewer k at in omega (arith, few, less)
  cut_lower Cut at = absurd (uncut i at)

-- all that a row's rules let one conclude was learnt
pub inferred_with : {W : Type 0} (s b : AnalysisState W) (n i cells : ℕ) (row : StepRow) (items : List Conclusion) → HasWords (all_known s) → Grows (with_infers s n) b → cells ≡ cells_known s.path.rules row (around s.path.given.moments s.known i) → items ≡ s.path.rules.infer row (around s.path.given.moments s.known i) → InferredBelow (length items) items i b → IsInferredWith row i cells b
inferred_with s b n i cells row items words grows is_cells is_items known = record {
  view = around s.path.given.moments s.known i;
  lawful = around_lawful s.path.given.moments s.known i (λ p r v e. words p r v e);
  count = subst (λ (P : Subject _). cells_known P.rules row (around s.path.given.moments s.known i) ≡ cells) (sym grows.path) (sym is_cells);
  learnt = λ d h. list_known b i items known d (rw is_items (subst (λ (P : Subject _). Contains (P.rules.infer row (around s.path.given.moments s.known i)) d) grows.path h));
  less = λ w c v e. seen_more s b grows.path grows.more i w c v e;
}

-- a halt is one whatever the work
pub halt_work : {W : Type 0} (s : AnalysisState W) (w : Work) (h : LearnError) → w.joins ≡ s.work.joins → IsHalt s h → IsHalt (with_work s w) h
halt_work s w (Clash p c known value) joins h = record { is_known = h.is_known; differs = h.differs; follows = h.follows }
halt_work s w OutOfMemory joins h = λ j. h (sym joins ∙ j.0, j.1)

-- with other sets
pub kept_filled : {W : Type 0} (s : AnalysisState W) → IsKept s → s.complete ≡ false → (spans : View W) (filled : ℕ) → spans.points ≡ s.path.given.legs.count + 1 → filled ≤ length s.known.log → IsKept (record { path = s.path; known = s.known; spans = spans; filled = filled; shown = s.shown; complete = s.complete; conflict = s.conflict; work = s.work })
kept_filled s kept open_ spans filled sized within = record {
  few = kept.few;
  registers = kept.registers;
  last_is = kept.last_is;
  sized = sized;
  filled = within;
  once = kept.once;
  traced = record { entries = kept.traced.entries; trace = kept.traced.trace; logged = kept.traced.logged; agree = kept.traced.agree };
  listed = kept.listed;
  shown = kept.shown;
  calm = kept.calm;
  stopped = kept.stopped;
  finished = λ e. absurd (false≢true (sym open_ ∙ e));
  room = kept.room;
  rows = kept.rows;
  inferred = passes_more s (record { path = s.path; known = s.known; spans = spans; filled = filled; shown = s.shown; complete = s.complete; conflict = s.conflict; work = s.work }) refl (λ p c v e. e) refl kept.inferred;
  roomy = kept.roomy;
}

-- a row's rules are applied anew
module _ {W : Type 0} (s a b : AnalysisState W) (laws : HasLaws (along s.path)) (kept : IsKept s) (words : HasWords (all_known s)) (i cells : ℕ) (row : StepRow) (inside : i < s.path.given.legs.count) (found : s.path.given.legs.row i ≡ Some row) (is_cells : cells ≡ cells_known s.path.rules row (around s.path.given.moments s.known i)) (few : cells ≤ 11) (more : slice_get s.work.inferred i ≡ Some (With cells) → ⊥) (uncut : IsUncut s) (once : a.work.infers ≤ s.work.infers + 1) (same : a ≡ with_infers s a.work.infers) (grows : Grows a b) (still : b.work ≡ a.work) where
  from_same : Grows (with_infers s a.work.infers) b
  from_same = subst (λ (x : AnalysisState W). Grows x b) same grows

  still_same : b.work ≡ (with_infers s a.work.infers).work
  still_same = still ∙ ap (λ (x : AnalysisState W). x.work) same

  there : (p : Pass) × (slice_get s.work.inferred i ≡ Some p)
  there = pass_there s kept i inside

  pub anew_grows : (c : AnalysisState W) → c ≡ with_inferred b (set b.work.inferred i (With cells)) → Grows s c
  anew_grows c is = subst (λ (x : AnalysisState W). Grows s x) (sym is) (row_grows s b a.work.infers i there.0 (With cells) once from_same still_same there.1 (with_lower s laws kept words i cells row found is_cells few more uncut there.0 there.1))

  pub cut_grows : (c : AnalysisState W) → c ≡ with_inferred b (set b.work.inferred i Cut) → Grows s c
  cut_grows c is = subst (λ (x : AnalysisState W). Grows s x) (sym is) (row_grows s b a.work.infers i there.0 Cut once from_same still_same there.1 (cut_lower s laws kept words i cells row found is_cells few more uncut there.0 there.1))

  pub anew_inferred : (c : AnalysisState W) (P : AnalysisState W → Type 0) → c ≡ with_inferred b (set b.work.inferred i (With cells)) → HasInferred s c true P
  anew_inferred c P is =
      let lower = with_lower s laws kept words i cells row found is_cells few more uncut there.0 there.1 in
      subst (λ (x : AnalysisState W). HasInferred s x true P) (sym is) (record {
        news = λ _. anew (left_lower s b a.work.infers i there.0 (With cells) once from_same still_same there.1 lower);
        unchanged = λ e. absurd (true≢false e);
        closed = λ e. absurd (true≢false e);
        uncut = λ u. row_uncut s b a.work.infers i there.0 (With cells) once from_same still_same there.1 lower u with_cut;
      })
    where
      with_cut : With cells ≡ Cut → ⊥
      with_cut e = cc

  pub anew_pass : (items : List Conclusion) → items ≡ s.path.rules.infer row (around s.path.given.moments s.known i) → InferredBelow (length items) items i b → (other : StepRow) → b.path.given.legs.row i ≡ Some other → IsInferredWith other i cells b
  anew_pass items is_items known other at =
      let is_row : row ≡ other = same_row (sym found ∙ subst (λ (P : Subject W). P.given.legs.row i ≡ Some other) from_same.path at) in
      subst (λ (x : StepRow). IsInferredWith x i cells b) is_row (inferred_with s b a.work.infers i cells row items words from_same is_cells is_items known)
    where
      same_row : {x y : StepRow} → Some x ≡ Some y → x ≡ y
      same_row e = cc

pub halt_after : {W : Type 0} (s t : AnalysisState W) (w : Work) (h : LearnError) → t ≡ with_work s w → w.joins ≡ s.work.joins → IsHalt s h → IsHalt t h
halt_after s t w h is joins halt = subst (λ (x : AnalysisState _). IsHalt x h) (sym is) (halt_work s w h joins halt)
