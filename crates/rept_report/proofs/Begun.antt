-- Of one thread the rows that don't lie wholly after a moment are those before it.
use Rattle.std.proofs.Common.{◌≡◌, ℕ, ◌<◌, List, length, Option, Some, None, slice_get, inl, inr, ap, arith}
use Rattle.std.specs.Option.{is_some, IsSome}
use Rattle.std.proofs.lemmas.Bool.{lt-leb, leb-false}
use Rattle.std.proofs.lemmas.Option.{slice_get_cases}
use Rattle.rept_isa.specs.declared.row.StepRow.{StepRow}
use Rattle.rept_report.specs.Timeline.{time_alone, IsGreatestTo, IsBegun}

pub greatest_same : (P Q : ℕ → Type 0) → ((i : ℕ) → P i → Q i) → ((i : ℕ) → Q i → P i) → (most : ℕ) (r : Option ℕ) → IsGreatestTo P most r → IsGreatestTo Q most r
greatest_same P Q to from most None its = λ w low q. its w low (from w q)
greatest_same P Q to from most (Some w) its = (to w its.0, its.1, λ v above low q. its.2 v above low (from v q))

none_there : (o : Option StepRow) → o ≡ None → IsSome o → ⊥
none_there None e some = cc
none_there (Some x) e some = cc

module _ (rows : List StepRow) where
  row_there : (i : ℕ) → i < length rows → IsSome (slice_get rows i)
  row_there i less =
      elim ((slice_get_cases rows i).1) [
        | inl found ↦ ap is_some found.2
        | inr past ↦ absurd (let far = past.0 in omega arith)
      ]

  row_below : (i : ℕ) → IsSome (slice_get rows i) → i < length rows
  row_below i some =
      elim ((slice_get_cases rows i).1) [
        | inl found ↦ found.1
        | inr past ↦ absurd (none_there (slice_get rows i) past.1 some)
      ]

  pub begun_alone : (m most : ℕ) (r : Option ℕ) → IsGreatestTo (λ (i : ℕ). (i < length rows) × (i < m)) most r → IsGreatestTo (IsBegun (time_alone rows) m) most r
  begun_alone m most r its =
      greatest_same (λ (i : ℕ). (i < length rows) × (i < m)) (IsBegun (time_alone rows) m)
      (λ i is. record { row = row_there i is.0; begun_at = lt-leb m i is.1 })
      (λ i b. (row_below i b.row, leb-false m i b.begun_at)) most r its
