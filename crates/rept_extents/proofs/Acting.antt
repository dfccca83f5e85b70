-- Between which numbers a row may act, by those that it is past and those that are ahead of it.
use mathlib.Core.Logic.{∥∥₁_elim}
use Rattle.std.proofs.Props.{props}
use Rattle.std.proofs.Common.{◌≡◌, ℕ, suc, ◌+◌, ◌<◌, ◌≤◌, not, nat_lt, eqb, true, false, List, [], ◌∷◌, ◌++◌, length, Option, Some, None, slice_get, inl, inr, sym, ap, ◌∙◌, subst, arith, length-append}
use Rattle.std.specs.Option.{IsSome}
use Rattle.std.proofs.lemmas.Bool.{false≢true, cases_lt, cases_order, or_right, and_parts, eqb-true}
use Rattle.std.proofs.lemmas.Option.{slice_get_within}
use Rattle.rept_isa.specs.declared.row.StepRow.{StepRow}
use Rattle.rept_steps.specs.Course.{row_of, IsSoundCourse}
use Rattle.rept_steps.specs.Course as runs
use Rattle.rept_order.specs.Events.{event_slice, first_event, last_event}
use Rattle.rept_order.specs.Moments.{Moment, IsMoment, WhollyAfter, stores}
use Rattle.rept_order.specs.Moments.Moment.{after}
use Rattle.rept_order.specs.Moments.Act.{row}
use Rattle.rept_order.specs.Times.{begin_of, wholly_before, may_act_between, not_later}
use Rattle.rept_order.proofs.Acting.{after_true, may_act_true}
use Rattle.rept_report.specs.Moments.{AreMoments, points_of}
use Rattle.rept_report.specs.Timeline.{Timeline, IsTimeline}
use Rattle.rept_report.specs.declared.paths.NumberWindow.{NumberWindow}
use Rattle.rept_report.specs.Reach.Reaching.{IsExtent}
use Rattle.rept_moments.specs.Naming.Names.{IsLink, AreNames}
use Rattle.rept_moments.specs.Naming.Numbered.{row_on, may_act_by, legs_on}
use Rattle.rept_moments.proofs.NamingLemmas.Naming.{some_is, stores_inside, after_from_last, are_moments, last_end}
use Rattle.rept_moments.specs.Numbers.{numbers_of, numbered}
use Rattle.rept_moments.proofs.Apart.{are_numbers}
use Rattle.rept_moments.proofs.Places.{get_end, get_before}
use Rattle.rept_moments.specs.declared.side.PointOfThread.{PointOfThread}
use Rattle.rept_moments.specs.Points.{place_on}
use Rattle.rept_extents.specs.Times.{EndsBefore, AllFrom, AllBefore}
use Rattle.rept_extents.proofs.Coming.{before_row, after_row}
use Rattle.rept_extents.specs.Extents.{AreExtents}

some_same : {A : Type 0} {x y : A} → Some x ≡ Some y → x ≡ y
some_same e = cc

none_some : {A : Type 0} {x : A} → None ≡ Some x → ⊥
none_some e = cc

module _ (C : runs.Course) (sound : IsSoundCourse C) where
  names : AreNames C (numbers_of C)
  names = are_numbers C sound

  laws : AreMoments (legs_on C) (numbered C)
  laws = are_moments C sound (numbers_of C) names

  -- the end is past every row
  pub end_past : (i j : ℕ) → j ≡ (numbers_of C).end → (numbered C).past i j ≡ true
  end_past i j same = or_right (not (stores C (row_on C i))) (wholly_before C (row (row_on C i)) ((numbers_of C).last j)) (ap (λ (m : Moment). not_later C (after (row_on C i)) m) (ap (numbers_of C).last same ∙ last_end C sound (numbers_of C) names))

  -- a row is past all that come after its slice ends, and the end
  pub past_all : (D : runs.Course) (i : ℕ) (p : PointOfThread) (e n : ℕ) → C ≡ D → p ≡ place_on C i → EndsBefore (event_slice D (last_event D (row_of p.thread p.step))) (suc e) → AllFrom C n (numbers_of C).end (suc e) → (j : ℕ) → n ≤ j → j ≤ (numbers_of C).end → (numbered C).past i j ≡ true
  past_all D i p e n same at ends all j up under =
      elim (cases_order j (numbers_of C).end) [
        | inl end ↦ end_past i j end
        | inr (inl less) ↦
            let slice : EndsBefore (event_slice C (last_event C (row_on C i))) (suc e) = subst (λ (q : PointOfThread). EndsBefore (event_slice C (last_event C (row_of q.thread q.step))) (suc e)) at (subst (λ (E : runs.Course). EndsBefore (event_slice E (last_event E (row_of p.thread p.step))) (suc e)) (sym same) ends) in
            or_right (not (stores C (row_on C i))) (wholly_before C (row (row_on C i)) ((numbers_of C).last j)) (after_row C (row_on C i) ((numbers_of C).last j) (suc e) slice (all j up less))
        | inr (inr over) ↦ absurd (omega arith)
      ]

  past_may_act : (i m w : ℕ) → (numbered C).next m w ≡ true → (numbered C).past i m ≡ true → (numbered C).may_act i m w ≡ true → ⊥
  past_may_act i m w next past may_act = false≢true (sym (laws.past_onward i m w next past).1 ∙ may_act)

  -- what may act may write
  may_act_stores : (i m w : ℕ) → (numbered C).may_act i m w ≡ true → stores C (row_on C i) ≡ true
  may_act_stores i m w may_act = go ((numbers_of C).link m w) may_act
    where
      go : (o : Option _) → may_act_by C (row_on C i) o ≡ true → stores C (row_on C i) ≡ true
      go None e = absurd (false≢true e)
      go (Some x) e = (and_parts (stores C (row_on C i)) (may_act_between C (row (row_on C i)) x.from x.to) e).0

  -- nothing may act of which the next number is ahead
  ahead_may_act : (i m w : ℕ) → (numbered C).next m w ≡ true → (numbered C).ahead i w ≡ true → (numbered C).may_act i m w ≡ true → ⊥
  ahead_may_act i m w next ahead may_act =
      let found = some_is ((numbers_of C).link m w) next in
      let link : IsLink C (numbers_of C) m w found.0 = names.links m w found.0 found.1 in
      let parts = and_parts (stores C (row_on C i)) (may_act_between C (row (row_on C i)) found.0.from found.0.to) (sym (ap (may_act_by C (row_on C i)) found.1) ∙ may_act) in
      let is = stores_inside C (row_on C i) parts.0 in
      let at : IsMoment C ((numbers_of C).last w) = (names.named w (subst (λ (k : ℕ). k ≤ (numbers_of C).end) link.to_name (names.few found.0.to link.to))).0 in
      (may_act_true C sound (row (row_on C i)) found.0.from found.0.to is link.from link.to parts.1).not_after (after_from_last C sound (numbers_of C) names (row (row_on C i)) is parts.0 found.0.to link.to (subst (λ (k : ℕ). WhollyAfter C (row (row_on C i)) ((numbers_of C).last k)) (sym link.to_name) (after_true C sound (row (row_on C i)) ((numbers_of C).last w) is at ahead)))

  pub extent_is : (i : ℕ) (x : NumberWindow) → ((j : ℕ) → j < x.from → (numbered C).ahead i j ≡ true) → ((j : ℕ) → x.to ≤ j → j ≤ (numbers_of C).end → (numbered C).past i j ≡ true) → IsExtent (numbered C) i x
  extent_is i x ahead past m w next may_act = (
    elim (cases_lt m x.to) [
      | inl less ↦ less
      | inr over ↦ absurd (past_may_act i m w next (past m over (laws.inside m w next).0) may_act)
    ],
    elim (cases_lt w x.from) [
      | inl less ↦ absurd (ahead_may_act i m w next (ahead w less) may_act)
      | inr over ↦ over
    ],
  )

  -- a row that can't write may act nowhere
  pub extent_none : (i : ℕ) (x : NumberWindow) → stores C (row_on C i) ≡ false → IsExtent (numbered C) i x
  extent_none i x out m w next may_act = absurd (false≢true (sym out ∙ may_act_stores i m w may_act))

-- all that come before a row's slice begins are ahead of it
pub ahead_all : (C D : runs.Course) (i : ℕ) (p : PointOfThread) (b n : ℕ) → C ≡ D → p ≡ place_on C i → b ≡ begin_of D (first_event D (row_of p.thread p.step)) → AllBefore C n b → (j : ℕ) → j < n → (numbered C).ahead i j ≡ true
ahead_all C D i p b n same at is all j less = before_row C (row_on C i) ((numbers_of C).last j) b (all j less) (is ∙ ap (λ (E : runs.Course). begin_of E (first_event E (row_of p.thread p.step))) (sym same) ∙ ap (λ (q : PointOfThread). begin_of C (first_event C (row_of q.thread q.step))) at)

-- with one row more
pub extents_more : (t : Timeline) (xs : List NumberWindow) (n : ℕ) (x : NumberWindow) → length xs ≡ n → AreExtents t xs → (IsSome (t.legs.row n) → IsExtent t.moments n x) → AreExtents t (xs ++ x ∷ [])
extents_more t xs n x count known own i y there is =
    elim (cases_order i (length xs)) [
      | inl end ↦
          let same : x ≡ y = some_same (sym (get_end xs x) ∙ ap (λ (k : ℕ). slice_get (xs ++ x ∷ []) k) (sym end) ∙ there) in
          let at : n ≡ i = sym (end ∙ count) in
          subst (λ (z : NumberWindow). IsExtent t.moments i z) same (subst (λ (k : ℕ). IsExtent t.moments k x) at (own (subst (λ (k : ℕ). IsSome (t.legs.row k)) (sym at) is)))
      | inr (inl less) ↦ known i y (sym (get_before xs x i less) ∙ there) is
      | inr (inr over) ↦ absurd (let less = slice_get_within (xs ++ x ∷ []) i y there in let all = length-append xs (x ∷ []) in omega arith)
    ]

pub no_extents : (t : Timeline) → AreExtents t []
no_extents t i x there = absurd (none_some there)

-- of one thread alone a row may act between the point before it and the one after it
pub extent_alone : (rows : List StepRow) (i : ℕ) (x : NumberWindow) → x.from ≡ i + 1 → x.to ≡ i + 1 → IsExtent (points_of (length rows)) i x
extent_alone rows i x from to m w next may_act =
    let at : i ≡ m = eqb-true i m may_act in
    let parts = and_parts (nat_lt m (length rows)) (eqb w (m + 1)) next in
    let on : w ≡ m + 1 = eqb-true w (m + 1) parts.1 in
    (omega arith, omega arith)

-- what is listed is had from the mere fact that it is
pub extent_listed : (t : Timeline) (xs : List NumberWindow) (i : ℕ) (x : NumberWindow) → ∥ AreExtents t xs ∥₁ → slice_get xs i ≡ Some x → IsSome (t.legs.row i) → IsExtent t.moments i x
extent_listed t xs i x h there is m w next may_act = (∥∥₁_elim h (hlevel props) (λ a. (a i x there is m w next may_act).0), ∥∥₁_elim h (hlevel props) (λ a. (a i x there is m w next may_act).1))

-- between all numbers
pub extent_any : (t : Timeline) (i : ℕ) (x : NumberWindow) → IsTimeline t → x.from ≡ 0 → t.moments.end < x.to → IsExtent t.moments i x
extent_any t i x its from to m w next may_act = let inside = (its.moments.inside m w next).0 in (omega arith, omega arith)
