-- The rows of threads than which a row isn't later, and where rows end.
use Rattle.std.proofs.Common.{◌≡◌, ℕ, ◌+◌, ◌-◌, ◌<◌, ◌≤◌, true, false, Option, Some, None, inl, inr, refl, sym, ◌∙◌, subst, arith}
use Rattle.std.specs.Option.{IsSome}
use Rattle.std.proofs.lemmas.Bool.{false≢true, cases_lt}
use Rattle.rept_steps.specs.Course.{Course}
use Rattle.rept_order.specs.Legs.{leg_row}
use Rattle.rept_moments.specs.Points.{points_in}
use Rattle.rept_moments.specs.Numbers.{numbered}
use Rattle.rept_moments.specs.Seen.{seen_many}
use Rattle.rept_moments.proofs.Places.{leg_below}
use Rattle.rept_report.specs.Timeline.{IsLeastFrom}
use Rattle.rept_isa.specs.declared.row.StepRow.{StepRow}
use Rattle.rept_span.specs.Ranges.{AreLegs}
use Rattle.rept_report.specs.Timeline.{Timeline, IsClose, IsRowTo}
use Rattle.rept_extents.specs.Timelines.{as_timeline, IsCloseFrom}

module _ (C : Course) where
  -- the least row
  pub row_none : (least at last : ℕ) → least ≤ at → last ≤ at → last ≡ points_in C - 1 → ((i : ℕ) → least ≤ i → i < at → IsSome (leg_row C i) → ⊥) → IsLeastFrom (λ (i : ℕ). IsSome (leg_row C i)) least None
  row_none least at last low past end none w up is =
      elim (cases_lt w at) [
        | inl early ↦ none w up early is
        | inr late ↦ let under = leg_below C w is in omega arith
      ]

  -- none is there from the last point on
  pub none_past : (last k : ℕ) → last ≡ points_in C - 1 → last ≤ k → IsSome (leg_row C k) → ⊥
  none_past last k end past is = let under = leg_below C k is in omega arith

  module _ (row least from : ℕ) (low : least ≤ from) (none : (i : ℕ) → least ≤ i → i < from → IsClose (as_timeline (seen_many C)) row i → ⊥) where
    pub close_none : IsLeastFrom (λ (i : ℕ). IsSome (leg_row C i)) from None → IsCloseFrom (as_timeline (seen_many C)) row least None
    close_none rows w up is =
        elim (cases_lt w from) [
          | inl early ↦ none w up early is
          | inr late ↦ rows w late is.row
        ]

    pub none_more : (first to : ℕ) → IsLeastFrom (λ (i : ℕ). IsSome (leg_row C i)) from (Some first) → ((i : ℕ) → first ≤ i → i < to → (numbered C).later row i ≡ true) → (i : ℕ) → least ≤ i → i < to → IsClose (as_timeline (seen_many C)) row i → ⊥
    none_more first to its later i above below is =
        elim (cases_lt i from) [
          | inl early ↦ none i above early is
          | inr late ↦
              elim (cases_lt i first) [
                | inl between ↦ its.2 i late between is.row
                | inr there ↦ false≢true (sym is.close_to ∙ later i there below)
              ]
        ]

    pub close_some : (first found : ℕ) → IsLeastFrom (λ (i : ℕ). IsSome (leg_row C i)) from (Some first) → first ≤ found → IsSome (leg_row C found) → ((i : ℕ) → first ≤ i → i < found → (numbered C).later row i ≡ true) → (numbered C).later row found ≡ false → IsCloseFrom (as_timeline (seen_many C)) row least (Some found)
    close_some first found its up there before is =
        let start = its.1 in
        (record { row = there; close_to = is }, omega arith, none_more first found its before)

some_row : (o : Option StepRow) → IsSome o → (row : StepRow) × (o ≡ Some row)
some_row None some = cc
some_row (Some row) some = (row, refl)

-- the least row after which a moment lies
module _ (t : Timeline) (legs : AreLegs t.legs) (m least at : ℕ) (up : least ≤ at) (none : (i : ℕ) → least ≤ i → i < at → IsRowTo t m i → ⊥) where
  pub row_to_none : (last : ℕ) → last ≡ t.legs.count → last ≤ at → IsLeastFrom (IsRowTo t m) least None
  row_to_none last end past w low its =
      elim (cases_lt w at) [
        | inl early ↦ none w low early its
        | inr late ↦ let row = some_row (t.legs.row w) its.row in let inside = legs.inside w row.0 row.1 in omega arith
      ]

  pub row_to_more : (IsRowTo t m at → ⊥) → (i : ℕ) → least ≤ i → i < at + 1 → IsRowTo t m i → ⊥
  row_to_more not_here i low less its =
      elim (cases_lt i at) [
        | inl early ↦ none i low early its
        | inr late ↦ let same : i ≡ at = omega arith in not_here (subst (λ (k : ℕ). IsRowTo t m k) same its)
      ]
