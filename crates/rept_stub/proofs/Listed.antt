-- The rows that write a byte, from the newest one on.
use Rattle.std.proofs.Common.{◌≡◌, ℕ, suc, ◌+◌, ◌-◌, ◌<◌, ◌≤◌, List, [], ◌++◌, None, Some, arith, refl, sym, ◌∙◌, ap}
use Rattle.std.proofs.lemmas.List.{append-nil, append_assoc}
use Rattle.std.specs.List.{flat_map}
use Rattle.rept_report.specs.declared.writer.Writer.{Writer}
use Rattle.rept_findings.specs.Shown.{Shown}
use Rattle.rept_findings.specs.Texts.{at, writer_line}
use Rattle.rept_findings.specs.declared.place.ThreadPoint.{ThreadPoint}
use Rattle.rept_findings.specs.LastWriters.{writer_at}
use Rattle.rept_stub.specs.Monitoring.{listed, row_before, writers_from}

module _ (s : Shown) (a : ℕ) where
  abbrev pub lines_left : ℕ → ThreadPoint → List ℕ
  lines_left k c = flat_map (writer_line s) (writers_from s a (256 - k) c)

  abbrev then_from : ℕ → ThreadPoint → ℕ → List Writer
  then_from k c row = writers_from s a (256 - (k + 1)) (at c.thread row)

  one_more : (k : ℕ) (c : ThreadPoint) → k < 256 → writers_from s a (256 - k) c ≡ listed (writer_at s c a) (row_before s c a) (then_from k c)
  one_more k c h = by_count (256 - (k + 1)) (256 - k) (omega arith)
    where
      by_count : (n m : ℕ) → m ≡ suc n → writers_from s a m c ≡ listed (writer_at s c a) (row_before s c a) (λ row. writers_from s a n (at c.thread row))
      by_count n m e = rw e refl

  -- before the first line
  pub begins : (c : ThreadPoint) (text : List ℕ) → text ≡ [] → flat_map (writer_line s) (writers_from s a 256 c) ≡ text ++ lines_left 0 (at c.thread c.point)
  begins c text e = ap (λ n. flat_map (writer_line s) (writers_from s a n c)) none_passed ∙ ap (λ t. t ++ lines_left 0 (at c.thread c.point)) (sym e)
    where
      none_passed : 256 ≡ 256 - 0
      none_passed = omega arith

  pub on : (whole text : List ℕ) (k : ℕ) (c : ThreadPoint) (row : ℕ) → k < 256 → whole ≡ text ++ lines_left k c → row_before s c a ≡ Some row → whole ≡ (text ++ writer_line s (writer_at s c a)) ++ lines_left (k + 1) (at c.thread row)
  on whole text k c row h is e =
      is ∙ ap (λ ws. text ++ flat_map (writer_line s) ws) (one_more k c h ∙ ap (λ r. listed (writer_at s c a) r (then_from k c)) e)
      ∙ sym (append_assoc text (writer_line s (writer_at s c a)) (lines_left (k + 1) (at c.thread row)))

  pub last : (whole text : List ℕ) (k : ℕ) (c : ThreadPoint) → k < 256 → whole ≡ text ++ lines_left k c → row_before s c a ≡ None → whole ≡ text ++ writer_line s (writer_at s c a)
  last whole text k c h is e =
      is ∙ ap (λ ws. text ++ flat_map (writer_line s) ws) (one_more k c h ∙ ap (λ r. listed (writer_at s c a) r (then_from k c)) e)
      ∙ ap (λ t. text ++ t) (append-nil (writer_line s (writer_at s c a)))

  pub all : (whole text : List ℕ) (k : ℕ) (c : ThreadPoint) → 256 ≤ k → whole ≡ text ++ lines_left k c → whole ≡ text
  all whole text k c h is = is ∙ ap (λ n. text ++ flat_map (writer_line s) (writers_from s a n c)) none ∙ append-nil text
    where
      none : 256 - k ≡ 0
      none = omega arith
