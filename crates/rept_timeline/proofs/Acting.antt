-- Which rows may act between two numbers, by those that don't lie wholly before the first one.
use mathlib.Core.Logic.{∥∥₁_elim}
use Rattle.std.proofs.Props.{props}
use Rattle.std.proofs.Common.{◌≡◌, ℕ, ◌<◌, ◌≤◌, ◌&&◌, not, eqb, Bool, true, false, List, Some, None, inl, inr, refl, sym, ap, ◌∙◌, subst, arith}
use Rattle.std.specs.Option.{IsSome}
use Rattle.std.proofs.lemmas.Bool.{false≢true, cases_lt, and_parts, eq-eqb, ne_eqb, eqb-true}
use Rattle.rept_steps.specs.Course.{Course, IsSoundCourse}
use Rattle.rept_order.specs.Moments.{stores}
use Rattle.rept_order.specs.Legs.{leg_row}
use Rattle.rept_report.specs.Timeline.{IsActingFrom}
use Rattle.rept_moments.specs.Naming.Numbered.{row_on}
use Rattle.rept_moments.proofs.NamingLemmas.Naming.{are_moments}
use Rattle.rept_moments.specs.Numbers.{numbers_of, numbered}
use Rattle.rept_moments.specs.Between.{IsOwn, IsOwnBetween}
use Rattle.rept_moments.specs.Seen.{seen_many}
use Rattle.rept_moments.proofs.Apart.{are_numbers}
use Rattle.rept_moments.proofs.MayAct.{own_may_act, rest_may_act}
use Rattle.rept_moments.proofs.Places.{row_there, leg_below}
use Rattle.rept_report.specs.Timeline.{IsOpen}
use Rattle.rept_extents.specs.Timelines.{as_timeline, IsOpenFrom}
use Rattle.rept_timeline.specs.Listed.{AreStoring, IsFirstFrom}
use Rattle.rept_timeline.proofs.Fronts.{open_stores, stores_row, ahead_tail}
use Rattle.rept_timeline.proofs.Lists.{listed, listed_stores, unlisted_past}

not_so : (b : Bool) → (b ≡ true → ⊥) → b ≡ false
not_so true k = absurd (k refl)
not_so false k = refl

and_off : (a : Bool) → (a && false) ≡ false
and_off true = refl
and_off false = refl

-- the least open row
module _ (C : Course) (list : List ℕ) (its : ∥ AreStoring C list ∥₁) (m least from : ℕ) (low : least ≤ from) (past : (i : ℕ) → least ≤ i → i < from → (numbered C).past i m ≡ true) where
  shut : (i : ℕ) → (numbered C).past i m ≡ true → IsOpen (as_timeline (seen_many C)) m i → ⊥
  shut i is o = false≢true (sym o.open_at ∙ is)

  pub open_none : IsFirstFrom list from None → IsOpenFrom (as_timeline (seen_many C)) m least None
  open_none none w up o =
      elim (cases_lt w from) [
        | inl early ↦ shut w (past w up early) o
        | inr late ↦ none w late (listed C list its w (open_stores C w m o.open_at))
      ]

  pub open_some : (row : ℕ) → IsFirstFrom list from (Some row) → (numbered C).past row m ≡ false → IsOpenFrom (as_timeline (seen_many C)) m least (Some row)
  open_some row first is =
      let up = first.1 in (
        record { row = stores_row C row (listed_stores C list its row first.0); open_at = is },
        omega arith,
        λ v above below o.
            elim (cases_lt v from) [
              | inl early ↦ shut v (past v above early) o
              | inr late ↦ first.2 v late below (listed C list its v (open_stores C v m o.open_at))
            ],
      )

  pub past_more : (row to : ℕ) → IsFirstFrom list from (Some row) → ((i : ℕ) → row ≤ i → i < to → (numbered C).past i m ≡ true) → (i : ℕ) → least ≤ i → i < to → (numbered C).past i m ≡ true
  past_more row to first rest i above below =
      elim (cases_lt i from) [
        | inl early ↦ past i above early
        | inr late ↦
            elim (cases_lt i row) [
              | inl between ↦ unlisted_past C list its i m (first.2 i late between)
              | inr there ↦ rest i there below
            ]
      ]

module _ (C : Course) (sound : ∥ IsSoundCourse C ∥₁) (m w : ℕ) (next : (numbered C).next m w ≡ true) where
  inside : IsSoundCourse C → (m ≤ (numbers_of C).end) × (w ≤ (numbers_of C).end)
  inside s = (are_moments C s (numbers_of C) (are_numbers C s)).inside m w next

  pub from_inside : m ≤ (numbers_of C).end
  from_inside = ∥∥₁_elim sound (hlevel props) (λ s. (inside s).0)

  module _ (none : IsOwnBetween C m w None) where
    by_parts : (i : ℕ) → (stores C (row_on C i) && (not ((numbered C).past i m) && not ((numbered C).ahead i w))) ≡ (numbered C).may_act i m w
    by_parts i = ∥∥₁_elim sound (hlevel props) (λ s. rest_may_act C s m w i next none)

    pub past_may_act : (i : ℕ) → (numbered C).past i m ≡ true → (numbered C).may_act i m w ≡ false
    past_may_act i is = sym (by_parts i) ∙ ap (λ (b : Bool). stores C (row_on C i) && (not b && not ((numbered C).ahead i w))) is ∙ and_off (stores C (row_on C i))

    pub ahead_may_act : (i : ℕ) → (numbered C).ahead i w ≡ true → (numbered C).may_act i m w ≡ false
    ahead_may_act i is = sym (by_parts i) ∙ ap (λ (b : Bool). stores C (row_on C i) && (not ((numbered C).past i m) && not b)) is ∙ ap (λ (b : Bool). stores C (row_on C i) && b) (and_off (not ((numbered C).past i m))) ∙ and_off (stores C (row_on C i))

    pub open_may_act : (i : ℕ) → (numbered C).past i m ≡ false → (numbered C).ahead i w ≡ false → (numbered C).may_act i m w ≡ true
    open_may_act i is isnt =
        sym (by_parts i)
        ∙ ap (λ (b : Bool). b && (not ((numbered C).past i m) && not ((numbered C).ahead i w))) (open_stores C i m is)
        ∙ ap (λ (b : Bool). not b && not ((numbered C).ahead i w)) is ∙ ap not isnt

    -- a row that isn't open can't act
    closed_may_act : (i : ℕ) → (IsOpen (as_timeline (seen_many C)) m i → ⊥) → (numbered C).may_act i m w ≡ false
    closed_may_act i shut = go ((numbered C).past i m) refl
      where
        go : (b : Bool) → (numbered C).past i m ≡ b → (numbered C).may_act i m w ≡ false
        go true is = past_may_act i is
        go false is = absurd (shut (record { row = stores_row C i (open_stores C i m is); open_at = is }))

    module _ (least from : ℕ) (low : least ≤ from) (clear : (i : ℕ) → least ≤ i → i < from → (numbered C).may_act i m w ≡ false) where
      pub acting_none : IsOpenFrom (as_timeline (seen_many C)) m from None → IsActingFrom (as_timeline (seen_many C)) m w least None
      acting_none shut i above few =
          elim (cases_lt i from) [
            | inl early ↦ clear i above early
            | inr late ↦ closed_may_act i (shut i late)
          ]

      pub acting_some : (row : ℕ) → IsOpenFrom (as_timeline (seen_many C)) m from (Some row) → (numbered C).ahead row w ≡ false → IsActingFrom (as_timeline (seen_many C)) m w least (Some row)
      acting_some row first isnt =
          let up = first.1 in
          let under = leg_below C row first.0.row in (
            omega arith,
            open_may_act row first.0.open_at isnt,
            omega arith,
            λ j above below.
                elim (cases_lt j from) [
                  | inl early ↦ clear j above early
                  | inr late ↦ closed_may_act j (first.2 j late below)
                ],
          )

      pub clear_more : (row last : ℕ) → IsOpenFrom (as_timeline (seen_many C)) m from (Some row) → (numbered C).ahead row w ≡ true → ((q : ℕ) → row ≤ q → q < last → IsSome (leg_row C q)) → (i : ℕ) → least ≤ i → i < last → (numbered C).may_act i m w ≡ false
      clear_more row last first is leads i above below =
          elim (cases_lt i from) [
            | inl early ↦ clear i above early
            | inr late ↦
                elim (cases_lt i row) [
                  | inl between ↦ closed_may_act i (first.2 i late between)
                  | inr there ↦ ahead_may_act i (∥∥₁_elim sound (hlevel props) (λ s. ahead_tail C s row i w there (λ q over under. leads q over (omega arith)) (inside s).1 is))
                ]
          ]

  -- between the moments of a row
  module _ (own : ℕ) (its : IsOwn C m w own) where
    own_by : (i : ℕ) → (stores C (row_on C i) && eqb own i) ≡ (numbered C).may_act i m w
    own_by i = ∥∥₁_elim sound (hlevel props) (λ s. own_may_act C s m w own its i)

    other : (i : ℕ) → (own ≡ i → ⊥) → (numbered C).may_act i m w ≡ false
    other i apart = sym (own_by i) ∙ ap (λ (b : Bool). stores C (row_on C i) && b) (ne_eqb own i apart) ∙ and_off (stores C (row_on C i))

    pub own_some : (least : ℕ) → least ≤ own → stores C (row_on C own) ≡ true → IsActingFrom (as_timeline (seen_many C)) m w least (Some own)
    own_some least up writes =
        let under = leg_below C own (row_there C (row_on C own) its.row) in (
          omega arith,
          sym (own_by own) ∙ ap (λ (b : Bool). b && eqb own own) writes ∙ eq-eqb own own refl,
          up,
          λ j above below. other j (λ same. omega arith),
        )

    pub own_none : (least : ℕ) → (least ≤ own → stores C (row_on C own) ≡ true → ⊥) → IsActingFrom (as_timeline (seen_many C)) m w least None
    own_none least not_own i above few =
        not_so ((numbered C).may_act i m w) (λ may_act.
        let parts = and_parts (stores C (row_on C i)) (eqb own i) (own_by i ∙ may_act) in
        let same : own ≡ i = eqb-true own i parts.1 in
        not_own (omega arith) (subst (λ (k : ℕ). stores C (row_on C k) ≡ true) (sym same) parts.0))
