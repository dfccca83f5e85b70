-- Which rows a search for the last one of some rows needn't look at. This project's own.
use Rattle.std.proofs.Common.{◌≡◌, ◌≢◌, ◌<◌, ◌≤◌, ◌+◌, ℕ, Bool, inl, inr, Option, Some, None, true, false, refl, sym, ◌∙◌, arith, IfSome, IsSome}
use Rattle.std.proofs.lemmas.Bool.{false≢true, cases_lt, cases_eq}
use Rattle.rept_isa.specs.declared.row.StepRow.{StepRow}
use Rattle.rept_report.specs.Latest.{IsEarlierRow, IsLatest}
use Rattle.rept_report.specs.Last.Latest.{IsSought, Writes}
use Rattle.rept_report.specs.Timeline.{Timeline, IsTimeline, IsLeastFrom, IsGreatestTo, IsBegun, IsClose}
use Rattle.rept_report.specs.declared.last.sought.SoughtRows.{SoughtRows}
use Rattle.rept_report.proofs.LastLemmas.Latest.{AreBefore, IsOnlyBelow}

module _ (t : Timeline) (law : IsTimeline t) where
  row_is : (i : ℕ) (r : Option StepRow) → t.legs.row i ≡ r → IsSome r → i < t.legs.count
  row_is i None is some = absurd (false≢true some)
  row_is i (Some row) is some = law.legs.inside i row is

  pub row_inside : (i : ℕ) → IsSome (t.legs.row i) → i < t.legs.count
  row_inside i some = row_is i (t.legs.row i) refl some

  pub begun_inside : (m most : ℕ) (r : Option ℕ) → IsGreatestTo (IsBegun t m) most r → IfSome r (λ i. i < t.legs.count)
  begun_inside m most None _ = record {}
  begun_inside m most (Some i) h = row_inside i h.0.row

  pub close_inside : (j least : ℕ) (r : Option ℕ) → IsLeastFrom (IsClose t j) least r → IfSome r (λ i. i < t.legs.count)
  close_inside j least None _ = record {}
  close_inside j least (Some i) h = row_inside i h.0.row

  sought_is : (writes : Writes) (m end : ℕ) (a : Option ℕ) (i : ℕ) → IsSought t writes (record { moment = m; address = a; end = end }) i → IsSome (t.legs.row i)
  sought_is writes m end None i h = h.row
  sought_is writes m end (Some a) i h = h.begun.row

  pub sought_row : (writes : Writes) (x : SoughtRows) (i : ℕ) → IsSought t writes x i → IsSome (t.legs.row i)
  sought_row writes x i h = sought_is writes x.moment x.end x.address i h

  later_is : (best k : ℕ) → IsSome (t.legs.row best) → IsSome (t.legs.row k) → (IsClose t best k → ⊥) → (b : Bool) → t.moments.later best k ≡ b → IsEarlierRow t.moments k best
  later_is best k rb rk far true is = record { later = is; apart = law.moments.later_apart best k rb rk is }
  later_is best k rb rk far false is = absurd (far (record { row = rk; close_to = is }))

  -- a row that isn't close to another one lies wholly before it
  pub earlier : (best k : ℕ) → IsSome (t.legs.row best) → IsSome (t.legs.row k) → (IsClose t best k → ⊥) → IsEarlierRow t.moments k best
  earlier best k rb rk far = later_is best k rb rk far (t.moments.later best k) refl

  module _ (Is : ℕ → Type 0) (rows : (k : ℕ) → Is k → IsSome (t.legs.row k)) where
    pub none_before : (best least : ℕ) → IsSome (t.legs.row best) → IsLeastFrom (IsClose t best) least None → AreBefore t.moments Is best least → (k : ℕ) → Is k → k ≢ best → IsEarlierRow t.moments k best
    none_before best least rb none before k one other = elim (cases_lt k least) [
      | inl less ↦ before k less one other
      | inr more ↦ earlier best k rb (rows k one) (none k more)
    ]

    pub more_before : (best least i : ℕ) → IsSome (t.legs.row best) → IsLeastFrom (IsClose t best) least (Some i) → AreBefore t.moments Is best least → (Is i → i ≢ best → ⊥) → AreBefore t.moments Is best (i + 1)
    more_before best least i rb (is, low, first) before isnt k below one other = elim (cases_lt k least) [
      | inl less ↦ before k less one other
      | inr more ↦ elim (cases_eq k i) [
        | inl same ↦ absurd (isnt (rw same at one) (λ e. other (same ∙ e)))
        | inr ne ↦ earlier best k rb (rows k one) (first k more (omega (arith, below, ne)))
      ]
    ]

    -- a row that lies wholly after all others is close to each of these
    later_close : (j k : ℕ) → IsLatest t.moments Is j → Is k → k ≢ j → IsClose t k j
    later_close j k last one other = record { row = rows j last.one; close_to = (last.after k one other).apart }

    pub more_only : (best least i : ℕ) → Is best → IsLeastFrom (IsClose t best) least (Some i) → IsOnlyBelow t.moments Is least best → (IsLatest t.moments Is i → best ≢ i → ⊥) → IsOnlyBelow t.moments Is (i + 1) best
    more_only best least i here (is, low, first) only isnt j last below = elim (cases_lt j least) [
      | inl less ↦ only j last less
      | inr more ↦ elim (cases_eq best j) [
        | inl same ↦ same
        | inr ne ↦ elim (cases_eq j i) [
          | inl same ↦ absurd (isnt (rw same at last) (λ e. ne (e ∙ sym same)))
          | inr apart ↦ absurd (first j more (omega (arith, below, apart)) (later_close j best last here ne))
        ]
      ]
    ]
