-- What an analysis answers is what is shown of its report.
use Rattle.std.proofs.Common.{◌≡◌, ℕ, ◌<◌, ◌≤◌, length, Some, None, inl, inr, sym, ap, ◌∙◌, subst, arith}
use Rattle.std.proofs.lemmas.Bool.{false≢true, cases_eq, cases_lt}
use Rattle.rept_steps.specs.Course.{rows_of, IsSoundCourse}
use Rattle.rept_order.specs.Legs.{number_of}
use Rattle.rept_moments.specs.Naming.Numbered.{row_on}
use Rattle.rept_moments.specs.Seen.{seen, moment_in}
use Rattle.rept_moments.proofs.Apart.{legs_seen}
use Rattle.rept_reason.specs.Facts.{Knowledge}
use Rattle.rept_report.specs.declared.counts.Counts.{Counts}
use Rattle.rept_report.specs.declared.writer.Writer.{Writer}
use Rattle.rept_report.specs.declared.writer.Writer.TheVariants as writers
use Rattle.rept_report.specs.Setting.{Setting}
use Rattle.rept_report.specs.Spots.{Spot, spot}
use Rattle.rept_report.specs.Writers.{IsLastCandidate, HasNoCandidate, IsWriter}
use Rattle.rept_report.proofs.WriterLaws.{one_writer}
use Rattle.rept_facts.specs.Counts.{IsCounted}
use Rattle.rept_findings.specs.LastWriters.{AreLastWriters, named_row}
use Rattle.rept_found.specs.Trip.Trip.{Trip, setting_on}
use Rattle.rept_found.specs.Trip.Last.{writer_found}
use Rattle.rept_found.proofs.TripLemmas.Last.{found_fits}
use Rattle.rept_found.proofs.TripLemmas.Pointing.{own_ahead, own_not_ahead, candidate_row, candidate_on, last_back, none_back}
use Rattle.rept_found.specs.Crash.{Scene}
use Rattle.rept_found.specs.Telling.{counts_of, shown_on}

-- the one answer that fits is the one that is found
module _ {W : Type 0} (t : Trip W) (K : Knowledge) (m a : ℕ) where
  pub writer_fits : IsWriter (setting_on t) K (spot m a) (writer_found (setting_on t) K (spot m a))
  writer_fits = found_fits (setting_on t) K (spot m a) (legs_seen t.course)

  pub writer_is : (w : Writer) → IsWriter (setting_on t) K (spot m a) w → w ≡ writer_found (setting_on t) K (spot m a)
  writer_is w h = one_writer (setting_on t) K m a w (writer_found (setting_on t) K (spot m a)) h writer_fits

some_same : {i j : ℕ} → Some i ≡ Some j → i ≡ j
some_same e = cc

none_some : {X : Type 0} {j : ℕ} → None ≡ Some j → X
none_some e = cc

-- a row that is named is the last candidate, and the last candidate is named
module _ {W : Type 0} (S : Setting W) (K : Knowledge) (x : Spot) where
  named_last : (w : Writer) (j : ℕ) → IsWriter S K x w → named_row w ≡ Some j → IsLastCandidate S K x j
  named_last (writers.Writes i) j h e = subst (λ (k : ℕ). IsLastCandidate S K x k) (some_same e) h.0
  named_last (writers.MayWrite i) j h e = subst (λ (k : ℕ). IsLastCandidate S K x k) (some_same e) h.0
  named_last writers.Several j h e = none_some e
  named_last writers.None j h e = none_some e

  one_last : (i j : ℕ) → IsLastCandidate S K x i → IsLastCandidate S K x j → i ≡ j
  one_last i j h k =
      elim (cases_eq i j) [
        | inl same ↦ same
        | inr other ↦ absurd (false≢true (sym (k.after i h.one other).apart ∙ (h.after j k.one (λ e. other (sym e))).later))
      ]

  last_named : (w : Writer) (j : ℕ) → IsWriter S K x w → IsLastCandidate S K x j → named_row w ≡ Some j
  last_named (writers.Writes i) j h last = ap (λ (k : ℕ). Some k) (one_last i j h.0 last)
  last_named (writers.MayWrite i) j h last = ap (λ (k : ℕ). Some k) (one_last i j h.0 last)
  last_named writers.Several j h last = absurd (h.0 j last)
  last_named writers.None j h last = absurd (h.rows j last.one)

-- what is told of last writers at the points of one thread
module _ {W : Type 0} (t : Trip W) (sound : IsSoundCourse t.course) (K : Knowledge) (thread address : ℕ) where
  abbrev S : Setting W
  S = setting_on t

  abbrev at : ℕ → ℕ
  at p = moment_in (seen t.course) (number_of t.course thread p)

  abbrev told : ℕ → Writer
  told p = writer_found (setting_on t) K (spot (at p) address)

  last_at : (p j : ℕ) → named_row (told p) ≡ Some j → IsLastCandidate S K (spot (at p) address) j
  last_at p j e = named_last S K (spot (at p) address) (told p) j (writer_fits t K (at p) address) e

  named_at : (p j : ℕ) → IsLastCandidate S K (spot (at p) address) j → named_row (told p) ≡ Some j
  named_at p j last = last_named S K (spot (at p) address) (told p) j (writer_fits t K (at p) address) last

  none_at : (p : ℕ) → told p ≡ writers.None → HasNoCandidate S K (spot (at p) address)
  none_at p e = subst (λ (w : Writer). IsWriter S K (spot (at p) address) w) e (writer_fits t K (at p) address)

  module _ (below : thread < length t.course.threads) where
    before : (step p : ℕ) → p ≤ length (rows_of t.course thread) → (row_on t.course step).thread ≡ thread → named_row (told p) ≡ Some step → (row_on t.course step).step < p
    before step p few own e =
        let last = last_at p step e in
        elim (cases_lt (row_on t.course step).step p) [
          | inl less ↦ less
          | inr late ↦ absurd (false≢true (sym last.one.reaches ∙ own_ahead t sound thread below p step few (candidate_row t sound thread below K address p step last.one) own late))
        ]

    since : (step q p : ℕ) → p ≤ length (rows_of t.course thread) → (row_on t.course step).thread ≡ thread → named_row (told p) ≡ Some step → (row_on t.course step).step < q → q ≤ p → named_row (told q) ≡ Some step
    since step q p few own e low high =
        let last = last_at p step e in
        named_at q step (last_back t sound thread below K address q p step high few last (own_not_ahead t sound thread below q step (omega arith) (candidate_row t sound thread below K address p step last.one) own low))

    between : (step o q p : ℕ) → p ≤ length (rows_of t.course thread) → named_row (told o) ≡ Some step → named_row (told p) ≡ Some step → o ≤ q → q ≤ p → named_row (told q) ≡ Some step
    between step o q p few first then low high =
        let here = candidate_on t sound thread below K address o q step low (omega arith) (last_at o step first).one in
        named_at q step (last_back t sound thread below K address q p step high few (last_at p step then) here.reaches)

    none : (q p : ℕ) → p ≤ length (rows_of t.course thread) → told p ≡ writers.None → q ≤ p → told q ≡ writers.None
    none q p few e high = sym (writer_is t K (at q) address writers.None (none_back t sound thread below K address q p high few (none_at p e)))

  pub last_writers : (scene : Scene) → AreLastWriters (shown_on t K scene) thread address
  last_writers scene = record {
    before = λ step p here own e. before here.0 step p here.1 own e;
    since = λ step q p here own e low high. since here.0 step q p here.1 own e low high;
    between = λ step o q p here first then low high. between here.0 step o q p here.1 first then low high;
    none = λ q p here e high. none here.0 q p here.1 e high;
  }

-- counts by their equations
pub counted : {W : Type 0} (S : Setting W) (K : Knowledge) (c : Counts) → IsCounted S K c → c ≡ counts_of S K
counted S K c h =
    ap (λ n. record { steps = n; calls = c.calls; registers = c.registers; exact = c.exact; inexact = c.inexact }) h.steps
    ∙ ap (λ n. record { steps = (counts_of S K).steps; calls = n; registers = c.registers; exact = c.exact; inexact = c.inexact }) h.calls
    ∙ ap (λ n. record { steps = (counts_of S K).steps; calls = (counts_of S K).calls; registers = n; exact = c.exact; inexact = c.inexact }) h.registers
    ∙ ap (λ n. record { steps = (counts_of S K).steps; calls = (counts_of S K).calls; registers = (counts_of S K).registers; exact = n; inexact = c.inexact }) h.exact
    ∙ ap (λ n. record { steps = (counts_of S K).steps; calls = (counts_of S K).calls; registers = (counts_of S K).registers; exact = (counts_of S K).exact; inexact = n }) h.inexact
