-- What is told of last writers along one line of points.
use Rattle.std.proofs.Common.{◌≡◌, ◌≢◌, ℕ, zero, suc, ◌+◌, ◌<◌, ◌≤◌, Bool, true, false, length, Option, Some, None, slice_get, inl, inr, refl, sym, ap, subst, ◌∙◌, arith}
use Rattle.std.specs.Prelude.{◌==◌, ◌&&◌, nat_le}
use Rattle.std.specs.Option.{option_and_then}
use Rattle.std.proofs.lemmas.Bool.{and_parts, cases_eq, false≢true}
use Rattle.std.proofs.lemmas.Bool.Decides.{nat_tests}
use Rattle.rept_isa.specs.declared.row.StepRow.{StepRow}
use Rattle.rept_report.specs.declared.writer.Writer.{Writer}
use Rattle.rept_report.specs.declared.writer.Writer.TheVariants as writer
use Rattle.rept_findings.specs.LastWriters.{AreLastWriters, named_row}
use Rattle.rept_findings.specs.Shown.{IsThreadPoint, Shown}
use Rattle.rept_findings.specs.Texts.{at}
use Rattle.rept_infer.specs.Holding.{Holding}
use Rattle.rept_found.specs.Inferred.Narrowed.{Beyond, narrowed, narrowed_by}
use Rattle.rept_found.specs.Inferred.Writing.{HasOneLine, all_below, greatest, instr_reaches, is_exact_store, is_line, is_lined_at, names_step, refined_row, refined_step, sharpened, told_if, told_step, writer_beyond, writer_by, writer_if}
use Rattle.rept_found.proofs.InferredLemmas.Greatest.{below, empty, kept, names_is}

some_none : {v : Writer} → None ≡ Some v → ⊥
some_none e = cc

same_writer : {v w : Writer} → Some v ≡ Some w → v ≡ w
same_writer e = cc

-- a step that is told is the one
pub told_named : (s : Shown) (a j : ℕ) (w : Writer) → told_step s a j ≡ Some w → named_row w ≡ Some j
told_named s a j w e = by (names_step (s.writer (suc j) a) j) refl e
  where
    by : (b : Bool) → names_step (s.writer (suc j) a) j ≡ b → told_if b (s.writer (suc j) a) ≡ Some w → named_row w ≡ Some j
    by true is e = subst (λ (v : Writer). named_row v ≡ Some j) (same_writer e) (names_is (s.writer (suc j) a) j is)
    by false is e = absurd (some_none e)

pub sharp_named : (b : Bool) (j : ℕ) (w : Writer) → named_row w ≡ Some j → named_row (sharpened b j w) ≡ Some j
sharp_named true j w e = refl
sharp_named false j w e = e

pub refined_named : (h : Holding) (s : Shown) (a j : ℕ) (w : Writer) → refined_step h s a j ≡ Some w → named_row w ≡ Some j
refined_named h s a j w e = by (told_step s a j) refl e
  where
    open_if : (b : Bool) (v : Writer) → named_row v ≡ Some j → told_if b v ≡ Some w → named_row w ≡ Some j
    open_if true v named e = subst (λ (u : Writer). named_row u ≡ Some j) (same_writer e) named
    open_if false v named e = absurd (some_none e)

    of_row : (o : Option StepRow) (v : Writer) → named_row v ≡ Some j → refined_row h a j o v ≡ Some w → named_row w ≡ Some j
    of_row None v named e = subst (λ (u : Writer). named_row u ≡ Some j) (same_writer e) named
    of_row (Some row) v named e = open_if (instr_reaches h a j row.instr) (sharpened (is_exact_store h j row.instr) j v) (sharp_named (is_exact_store h j row.instr) j v named) e

    by : (o : Option Writer) → told_step s a j ≡ o → option_and_then (refined_row h a j (slice_get (s.rows 0) j)) o ≡ Some w → named_row w ≡ Some j
    by None is e = absurd (some_none e)
    by (Some v) is e = of_row (slice_get (s.rows 0) j) v (told_named s a j v is) e

-- ---- one line of points
all_at : (test : ℕ → Bool) (n p : ℕ) → all_below test n ≡ true → p < n → test p ≡ true
all_at test zero p e less = absurd (omega (arith, less))
all_at test (suc m) p e less =
    let parts = and_parts (test m) (all_below test m) e in
    elim (cases_eq p m) [
      | inl here ↦ subst (λ (n : ℕ). test n ≡ true) (sym here) parts.0
      | inr ne ↦ all_at test m p parts.1 (omega (arith, less, ne))
    ]

pub all_false : (test : ℕ → Bool) (n p : ℕ) → p < n → test p ≡ false → all_below test n ≡ false
all_false test n p less e = by (all_below test n) refl
  where
    by : (b : Bool) → all_below test n ≡ b → all_below test n ≡ false
    by true is = absurd (false≢true (sym e ∙ all_at test n p is less))
    by false is = is

both : (x y : Bool) → x ≡ true → y ≡ true → x && y ≡ true
both true y e f = f
both false y e f = absurd (false≢true e)

pub all_next : (test : ℕ → Bool) (n : ℕ) → all_below test n ≡ true → test n ≡ true → all_below test (n + 1) ≡ true
all_next test n before here =
    let next : n + 1 ≡ suc n = omega arith in
    subst (λ (k : ℕ). all_below test k ≡ true) (sym next) (both (test n) (all_below test n) here before)

eq_true : (i j : ℕ) → (i == j) ≡ true → i ≡ j
eq_true i j e = grind (arith, nat_tests, e)

pub line_of : (s : Shown) → is_line s ≡ true → HasOneLine s
line_of s e =
    let parts = and_parts (s.threads == 1) ((s.first 0 == 0) && all_below (is_lined_at s) (length (s.rows 0) + 1)) e in
    let more = and_parts (s.first 0 == 0) (all_below (is_lined_at s) (length (s.rows 0) + 1)) parts.1 in
    record {
      threads = eq_true s.threads 1 parts.0;
      first = eq_true (s.first 0) 0 more.0;
      moment = λ p le. eq_true (s.moment p) p ((lined p more.1 le).0);
      thread = λ p le. eq_true ((s.point p).thread) 0 ((and_parts ((s.point p).thread == 0) ((s.point p).point == p) ((lined p more.1 le).1)).0);
      point = λ p le. eq_true ((s.point p).point) p ((and_parts ((s.point p).thread == 0) ((s.point p).point == p) ((lined p more.1 le).1)).1);
    }
  where
    lined : (p : ℕ) → all_below (is_lined_at s) (length (s.rows 0) + 1) ≡ true → p ≤ length (s.rows 0) → ((s.moment p == p) ≡ true) × ((((s.point p).thread == 0) && ((s.point p).point == p)) ≡ true)
    lined p all le = and_parts (s.moment p == p) (((s.point p).thread == 0) && ((s.point p).point == p)) (all_at (is_lined_at s) (length (s.rows 0) + 1) p all (omega (arith, le)))

le_true : (p n : ℕ) → p ≤ n → nat_le p n ≡ true
le_true p n le = grind (arith, nat_tests, le)

-- what is told at a point of such a line
pub on_line : (h : Holding) (s : Shown) (p a : ℕ) → is_line s ≡ true → p ≤ length (s.rows 0) → writer_beyond h s p a ≡ writer_by h s p a
on_line h s p a line le = ap (λ (b : Bool). writer_if b h s p a) (both (is_line s) (nat_le p (length (s.rows 0))) line (le_true p (length (s.rows 0)) le))

pub off_line : (h : Holding) (s : Shown) (p a : ℕ) → is_line s ≡ false → writer_beyond h s p a ≡ s.writer p a
off_line h s p a off = ap (λ (b : Bool). writer_if (b && nat_le p (length (s.rows 0))) h s p a) off

le_false : (p n : ℕ) → n < p → nat_le p n ≡ false
le_false p n less = grind (arith, nat_tests, less)

and_false : (x y : Bool) → y ≡ false → (x && y) ≡ false
and_false true y e = e
and_false false y e = refl

-- what is told past its last point
pub past_line : (h : Holding) (s : Shown) (p a : ℕ) → length (s.rows 0) < p → writer_beyond h s p a ≡ s.writer p a
past_line h s p a less = ap (λ (b : Bool). writer_if b h s p a) (and_false (is_line s) (nat_le p (length (s.rows 0))) (le_false p (length (s.rows 0)) less))

-- last writers by the report and the holding
module _ (h : Holding) (s : Shown) (line : is_line s ≡ true) (thread a : ℕ) where
  abbrev lines : HasOneLine s
  lines = line_of s line

  abbrev told : ℕ → Option Writer
  told j = refined_step h s a j

  named : (j : ℕ) (w : Writer) → told j ≡ Some w → named_row w ≡ Some j
  named j w e = refined_named h s a j w e

  only : (p : ℕ) → IsThreadPoint s (at thread p) → thread ≡ 0
  only p inside = let one = lines.threads in let less = inside.0 in omega (arith, one, less)

  early : (p : ℕ) → IsThreadPoint s (at thread p) → p ≤ length (s.rows 0)
  early p inside = subst (λ (t : ℕ). p ≤ length (s.rows t)) (only p inside) inside.1

  at_moment : (p q : ℕ) → IsThreadPoint s (at thread p) → q ≤ p → s.moment (s.first thread + q) ≡ q
  at_moment p q inside le =
      let zero_first = lines.first in
      let number : s.first 0 + q ≡ q = omega (arith, zero_first) in
      let last = early p inside in
      subst (λ (t : ℕ). s.moment (s.first t + q) ≡ q) (sym (only p inside)) (ap s.moment number ∙ lines.moment q (omega (arith, le, last)))

  is_told : (p q : ℕ) → IsThreadPoint s (at thread p) → q ≤ p → writer_beyond h s (s.moment (s.first thread + q)) a ≡ greatest told q
  is_told p q inside le =
      let last = early p inside in
      ap (λ (m : ℕ). writer_beyond h s m a) (at_moment p q inside le) ∙ on_line h s q a line (omega (arith, le, last))

  at_step : (p j : ℕ) → IsThreadPoint s (at thread p) → named_row (greatest told p) ≡ Some j → (s.point j).point ≡ j
  at_step p j inside e = let less = below told named p j e in let last = early p inside in lines.point j (omega (arith, less, last))

  to_point : (p q j : ℕ) → IsThreadPoint s (at thread p) → q ≤ p → named_row (writer_beyond h s (s.moment (s.first thread + q)) a) ≡ Some j → named_row (greatest told q) ≡ Some j
  to_point p q j inside le e = ap named_row (sym (is_told p q inside le)) ∙ e

  from_point : (p q j : ℕ) → IsThreadPoint s (at thread p) → q ≤ p → named_row (greatest told q) ≡ Some j → named_row (writer_beyond h s (s.moment (s.first thread + q)) a) ≡ Some j
  from_point p q j inside le e = ap named_row (is_told p q inside le) ∙ e

  last_on : AreLastWriters (narrowed_by h s) thread a
  last_on = record {
    before = λ step p inside own e.
        let here = to_point p p step inside (omega arith) e in
        subst (λ (n : ℕ). n < p) (sym (at_step p step inside here)) (below told named p step here);
    since = λ step q p inside own e low high.
        let here = to_point p p step inside (omega arith) e in
        let after : step < q = subst (λ (n : ℕ). n < q) (at_step p step inside here) low in
        from_point p q step inside high (kept told named p step q here after high);
    between = λ step o q p inside first last low high.
        let below_o = below told named o step (to_point p o step inside (omega (arith, low, high)) first) in
        from_point p q step inside high (kept told named p step q (to_point p p step inside (omega arith) last) (omega (arith, below_o, low)) high);
    none = λ q p inside e high. is_told p q inside high ∙ empty told named p q (sym (is_told p p inside (omega arith)) ∙ e) high;
  }

module _ (h : Holding) (s : Shown) (off : is_line s ≡ false) (thread a : ℕ) (laws : AreLastWriters s thread a) where
  same_there : (m : ℕ) → writer_beyond h s m a ≡ s.writer m a
  same_there m = off_line h s m a off

  to_report : (m j : ℕ) → named_row (writer_beyond h s m a) ≡ Some j → named_row (s.writer m a) ≡ Some j
  to_report m j e = ap named_row (sym (same_there m)) ∙ e

  from_report : (m j : ℕ) → named_row (s.writer m a) ≡ Some j → named_row (writer_beyond h s m a) ≡ Some j
  from_report m j e = ap named_row (same_there m) ∙ e

  last_off : AreLastWriters (narrowed_by h s) thread a
  last_off = record {
    before = λ step p inside own e. laws.before step p inside own (to_report (s.moment (s.first thread + p)) step e);
    since = λ step q p inside own e low high. from_report (s.moment (s.first thread + q)) step (laws.since step q p inside own (to_report (s.moment (s.first thread + p)) step e) low high);
    between = λ step o q p inside first last low high. from_report (s.moment (s.first thread + q)) step (laws.between step o q p inside (to_report (s.moment (s.first thread + o)) step first) (to_report (s.moment (s.first thread + p)) step last) low high);
    none = λ q p inside e high. same_there (s.moment (s.first thread + q)) ∙ laws.none q p inside (sym (same_there (s.moment (s.first thread + p))) ∙ e) high;
  }

last_narrowed : (h : Holding) (s : Shown) (thread a : ℕ) → AreLastWriters s thread a → AreLastWriters (narrowed_by h s) thread a
last_narrowed h s thread a laws = by (is_line s) refl
  where
    by : (c : Bool) → is_line s ≡ c → AreLastWriters (narrowed_by h s) thread a
    by true e = last_on h s e thread a
    by false e = last_off h s e thread a laws

pub last_beyond : (b : Beyond) (s : Shown) (thread a : ℕ) → AreLastWriters s thread a → AreLastWriters (narrowed b s) thread a
last_beyond b s thread a laws =
    let l = last_narrowed b.told s thread a laws in
    record { before = l.before; since = l.since; between = l.between; none = l.none }
