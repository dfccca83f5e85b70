-- The moments of a run of one thread, in however many slices, stand in one order: before step 0,
-- after it, before step 1, and so on, and the end last.
use Rattle.std.proofs.Common.{◌≡◌, ◌≢◌, ℕ, suc, ◌+◌, ◌<◌, ◌≤◌, ◌⊎◌, Bool, true, false, List, [], ◌∷◌, length, None, Some, Option, inl, inr, refl, sym, ap, ◌∙◌, subst, arith}
use Rattle.std.proofs.lemmas.Bool.{cases_lt, cases_eq, cases_order, false≢true, lt-ltb, le-ltb}
use Rattle.rept_isa.specs.declared.row.StepRow.{StepRow}
use Rattle.rept_steps.specs.declared.slice.Slice.{Slice}
use Rattle.rept_steps.specs.Course.{Course, Row, row_of, IsRow, IsSoundCourse}
use Rattle.rept_order.specs.Events.{Part, Event, first_part, last_part, first_event, last_event, IsBefore, Before, Chain, Precedes, PrecedesOrIs}
use Rattle.rept_order.specs.Events.Part.{whole, entry, return}
use Rattle.rept_order.specs.Events.IsBefore.{by_row, by_call, by_time}
use Rattle.rept_order.specs.Moments.{Moment, IsMoment, NotLater, Earlier, Act, IsAct, WhollyAfter, WhollyBefore, IsNext, IsUntouched, Stretch, stretch, MayAct, may_by, stores, AreOne}
use Rattle.rept_order.specs.Moments.Moment.{before, after, at_end}
use Rattle.rept_order.specs.Moments.Act.{row, untraced}
use Rattle.rept_order.specs.Moments.ArePause.{between, last}
use Rattle.rept_order.specs.Points.{moment_of_point}
use Rattle.rept_order.proofs.Sequence.{first_is_event, last_is_event, directly}
use Rattle.rept_order.proofs.Between.{row_forward}
use Rattle.rept_order.proofs.Times.{alone_never, begin_is}
use Rattle.rept_opening.proofs.LoneLemmas.{C, B, by_place, one_alone, only_row, some_none}

-- the one event is of an earlier step, or a call's entry before its return
abbrev Leads : Event → Event → Type 0
Leads e f = (e.row.step < f.row.step) ⊎ ((e.row ≡ f.row) × (e.part ≡ entry) × (f.part ≡ return))

return_entry : return ≡ entry → ⊥
return_entry e = cc

whole_entry : whole ≡ entry → ⊥
whole_entry e = cc

last_no_entry : (b : Bool) → last_part b ≡ entry → ⊥
last_no_entry true e = return_entry e
last_no_entry false e = whole_entry e

leads_trans : (e x f : Event) → Leads e x → Leads x f → Leads e f
leads_trans e x f (inl a) (inl b) = inl (omega (arith, a, b))
leads_trans e x f (inl a) (inr b) = let same : x.row.step ≡ f.row.step = ap (λ (r : Row). r.step) b.0 in inl (omega (arith, a, same))
leads_trans e x f (inr a) (inl b) = let same : e.row.step ≡ x.row.step = ap (λ (r : Row). r.step) a.0 in inl (omega (arith, b, same))
leads_trans e x f (inr a) (inr b) = absurd (return_entry (sym a.2 ∙ b.1))

leads_step : (e f : Event) → Leads e f → e.row.step ≤ f.row.step
leads_step e f (inl a) = omega (arith, a)
leads_step e f (inr a) = let same : e.row.step ≡ f.row.step = ap (λ (r : Row). r.step) a.0 in omega (arith, same)

before_same : {q r : Row} → before q ≡ before r → q ≡ r
before_same e = cc

before_after : {q r : Row} → before q ≡ after r → ⊥
before_after e = cc

after_end : {q : Row} → after q ≡ at_end → ⊥
after_end e = cc

module _ (rows : List StepRow) (slices : List Slice) (sound : IsSoundCourse (C rows slices)) (one : IsSoundCourse (B rows slices)) where
  abbrev n : ℕ
  n = length rows

  abbrev X : Course
  X = C rows slices

  leads_before : (e f : Event) → Before X e f → Leads e f
  leads_before e f b = by (by_place rows slices sound e f b)
    where
      event_one : Rattle.rept_order.specs.Events.IsEvent (B rows slices) f
      event_one = Rattle.rept_opening.proofs.LoneLemmas.event_to_one rows slices f b.second

      by : IsBefore (B rows slices) e f → Leads e f
      by (by_row same less) = inl less
      by (by_call same first second) = inr (same, first, second)
      by (by_time s u is its less) = absurd (alone_never (B rows slices) one (one_alone rows slices) e f event_one (record { slice = s; in_slice = is; less = let begin = begin_is (B rows slices) one f u its in omega (arith, begin, less) }))

  leads_chain : (e : Event) (xs : List Event) (f : Event) → Chain X e xs f → Leads e f
  leads_chain e [] f b = leads_before e f b
  leads_chain e (x ∷ xs) f c = leads_trans e x f (leads_before e x c.0) (leads_chain x xs f c.1)

  leads : (e f : Event) → Precedes X e f → Leads e f
  leads e f (xs, c) = leads_chain e xs f c

  or_step : (e f : Event) → PrecedesOrIs X e f → e.row.step ≤ f.row.step
  or_step e f (inl same) = let steps : e.row.step ≡ f.row.step = ap (λ (x : Event). x.row.step) same in omega (arith, steps)
  or_step e f (inr way) = leads_step e f (leads e f way)

  -- where a moment stands
  abbrev pub rank_of : Moment → ℕ
  rank_of (before r) = r.step + r.step
  rank_of (after r) = suc (r.step + r.step)
  rank_of at_end = n + n

  step_inside : (r : Row) → IsRow X r → r.step < n
  step_inside r is = subst (λ (t : ℕ). r.step < length (Rattle.rept_steps.specs.Course.rows_of X t)) (only_row rows slices r is) is

  row_same : (q r : Row) → IsRow X q → IsRow X r → q.step ≡ r.step → q ≡ r
  row_same q r is its same = ap (λ (t : ℕ). row_of t q.step) (only_row rows slices q is ∙ sym (only_row rows slices r its)) ∙ ap (λ (i : ℕ). row_of r.thread i) same

  pub rank_most : (m : Moment) → IsMoment X m → rank_of m ≤ n + n
  rank_most (before r) is = let few = step_inside r is in omega (arith, few)
  rank_most (after r) is = let few = step_inside r is in omega (arith, few)
  rank_most at_end is = omega arith

  pub rank_later : (m w : Moment) → IsMoment X m → IsMoment X w → NotLater X m w → rank_of m ≤ rank_of w
  rank_later (before q) (before r) is its k = let few = or_step _ _ k in omega (arith, few)
  rank_later (before q) (after r) is its k = let few = or_step _ _ k in omega (arith, few)
  rank_later (after q) (after r) is its k = let few = or_step _ _ k in omega (arith, few)
  rank_later (after q) (before r) is its k = by (leads _ _ k)
    where
      by : Leads (last_event X q) (first_event X r) → suc (q.step + q.step) ≤ r.step + r.step
      by (inl less) = omega (arith, less)
      by (inr same) = absurd (last_no_entry (Rattle.rept_steps.specs.Course.calls X q) same.1)
  rank_later at_end (before r) is its k = absurd k
  rank_later at_end (after r) is its k = absurd k
  rank_later (before q) at_end is its k = rank_most (before q) is
  rank_later (after q) at_end is its k = rank_most (after q) is
  rank_later at_end at_end is its k = omega arith

  precedes_first : (q r : Row) → IsRow X q → IsRow X r → q.step < r.step → (e f : Event) → e.row ≡ q → f.row ≡ r → Rattle.rept_order.specs.Events.IsEvent X e → Rattle.rept_order.specs.Events.IsEvent X f → Precedes X e f
  precedes_first q r is its less e f at there first second =
      let thread : e.row.thread ≡ f.row.thread = ap (λ (x : Row). x.thread) at ∙ only_row rows slices q is ∙ sym (only_row rows slices r its) ∙ sym (ap (λ (x : Row). x.thread) there) in
      let low : e.row.step ≡ q.step = ap (λ (x : Row). x.step) at in
      let high : f.row.step ≡ r.step = ap (λ (x : Row). x.step) there in
      directly X e f (record { first = first; second = second; why = by_row thread (omega (arith, less, low, high)) })

  not_later : (m w : Moment) → IsMoment X m → IsMoment X w → rank_of m < rank_of w → NotLater X m w
  not_later (before q) (before r) is its k = inr (precedes_first q r is its (omega (arith, k)) (first_event X q) (first_event X r) refl refl (first_is_event X q is) (first_is_event X r its))
  not_later (before q) (after r) is its k =
      elim (cases_eq q.step r.step) [
        | inl same ↦ subst (λ (x : Row). NotLater X (before x) (after r)) (sym (row_same q r is its same)) (row_forward X r its)
        | inr other ↦ inr (precedes_first q r is its (omega (arith, k, other)) (first_event X q) (last_event X r) refl refl (first_is_event X q is) (last_is_event X r its))
      ]
  not_later (after q) (before r) is its k = precedes_first q r is its (omega (arith, k)) (last_event X q) (first_event X r) refl refl (last_is_event X q is) (first_is_event X r its)
  not_later (after q) (after r) is its k = inr (precedes_first q r is its (omega (arith, k)) (last_event X q) (last_event X r) refl refl (last_is_event X q is) (last_is_event X r its))
  not_later at_end (before r) is its k = let few = step_inside r its in absurd (omega (arith, k, few))
  not_later at_end (after r) is its k = let few = step_inside r its in absurd (omega (arith, k, few))
  not_later (before q) at_end is its k = tt
  not_later (after q) at_end is its k = tt
  not_later at_end at_end is its k = tt

  pub earlier : (m w : Moment) → IsMoment X m → IsMoment X w → rank_of m < rank_of w → Earlier X m w
  earlier m w is its k = (not_later m w is its k, λ same. let e : rank_of m ≡ rank_of w = ap rank_of same in omega (arith, k, e))

  -- no two stand in one place
  pub rank_same : (m w : Moment) → IsMoment X m → IsMoment X w → rank_of m ≡ rank_of w → m ≡ w
  rank_same (before q) (before r) is its k = ap before (row_same q r is its (omega (arith, k)))
  rank_same (before q) (after r) is its k = absurd (omega (arith, k))
  rank_same (before q) at_end is its k = let few = step_inside q is in absurd (omega (arith, k, few))
  rank_same (after q) (before r) is its k = absurd (omega (arith, k))
  rank_same (after q) (after r) is its k = ap after (row_same q r is its (omega (arith, k)))
  rank_same (after q) at_end is its k = absurd (omega (arith, k))
  rank_same at_end (before r) is its k = let few = step_inside r its in absurd (omega (arith, k, few))
  rank_same at_end (after r) is its k = absurd (omega (arith, k))
  rank_same at_end at_end is its k = refl

  rank_earlier : (m w : Moment) → IsMoment X m → IsMoment X w → Earlier X m w → rank_of m < rank_of w
  rank_earlier m w is its e =
      elim (cases_eq (rank_of m) (rank_of w)) [
        | inl same ↦ absurd (e.1 (rank_same m w is its same))
        | inr other ↦ let few = rank_later m w is its e.0 in omega (arith, few, other)
      ]

  -- the moment at a point
  abbrev pub at : ℕ → Moment
  at p = moment_of_point X 0 p

  pub at_inside : (p : ℕ) → p < n → at p ≡ before (row_of 0 p)
  at_inside p few = rw (lt-ltb p n few) refl

  pub at_last : (p : ℕ) → n ≤ p → at p ≡ at_end
  at_last p past = rw (le-ltb p n past) refl

  pub at_moment : (p : ℕ) → IsMoment X (at p)
  at_moment p =
      elim (cases_lt p n) [
        | inl few ↦ subst (λ (m : Moment). IsMoment X m) (sym (at_inside p few)) few
        | inr past ↦ subst (λ (m : Moment). IsMoment X m) (sym (at_last p past)) tt
      ]

  pub at_rank : (p : ℕ) → p ≤ n → rank_of (at p) ≡ p + p
  at_rank p most =
      elim (cases_lt p n) [
        | inl few ↦ ap rank_of (at_inside p few)
        | inr past ↦ ap rank_of (at_last p past) ∙ (let same : p ≡ n = omega (arith, most, past) in ap (λ (k : ℕ). k + k) (sym same))
      ]

  -- a next moment is the one after the step, or nothing happens until it
  abbrev pub Next : Moment → Moment → Type 0
  Next m w = ((i : ℕ) × (i < n) × (m ≡ before (row_of 0 i)) × (w ≡ after (row_of 0 i))) ⊎ ((i : ℕ) × (i < n) × (m ≡ after (row_of 0 i)) × (w ≡ at (suc i)))

  named_row : (r : Row) → IsRow X r → r ≡ row_of 0 r.step
  named_row r is = row_same r (row_of 0 r.step) is (step_inside r is) refl

  pub next_cases : (m w : Moment) → IsMoment X m → IsMoment X w → IsNext X m w → Next m w
  next_cases (before r) w is its h =
      let few = step_inside r is in
      let own = named_row r is in
      let low = rank_earlier (before r) w is its h.later in
      elim (cases_eq (rank_of w) (suc (r.step + r.step))) [
        | inl same ↦ inl (r.step, few, ap before own, rank_same w (after (row_of 0 r.step)) its few same)
        | inr other ↦ absurd (h.none (after r) is (earlier (before r) (after r) is is (omega arith)) (earlier (after r) w is its (omega (arith, low, other))))
      ]
  next_cases (after r) w is its h =
      let few = step_inside r is in
      let own = named_row r is in
      let low = rank_earlier (after r) w is its h.later in
      let there = at_rank (suc r.step) few in
      elim (cases_eq (rank_of w) (suc r.step + suc r.step)) [
        | inl same ↦ inr (r.step, few, ap after own, rank_same w (at (suc r.step)) its (at_moment (suc r.step)) (same ∙ sym there))
        | inr other ↦ absurd (h.none (at (suc r.step)) (at_moment (suc r.step)) (earlier (after r) (at (suc r.step)) is (at_moment (suc r.step)) (omega (arith, there))) (earlier (at (suc r.step)) w (at_moment (suc r.step)) its (omega (arith, low, other, there))))
      ]
  next_cases at_end w is its h = let low = rank_earlier at_end w is its h.later in let most = rank_most w its in absurd (omega (arith, low, most))

  pub row_next : (i : ℕ) → i < n → IsNext X (before (row_of 0 i)) (after (row_of 0 i))
  row_next i few = record {
    later = earlier (before (row_of 0 i)) (after (row_of 0 i)) few few (omega arith);
    none = λ x is from to.
        let low = rank_earlier (before (row_of 0 i)) x few is from in
        let high = rank_earlier x (after (row_of 0 i)) is few to in
        omega (arith, low, high);
  }

  -- between the moments of a step no other one may act
  pub own_step : (i : ℕ) (q : Row) → i < n → IsRow X q → MayAct X (row q) (stretch (before (row_of 0 i)) (after (row_of 0 i))) → q ≡ row_of 0 i
  own_step i q few is may_act =
      elim (cases_order q.step i) [
        | inl same ↦ row_same q (row_of 0 i) is few same
        | inr (inl less) ↦ absurd (may_act.not_before (not_later (after q) (before (row_of 0 i)) is few (omega (arith, less))))
        | inr (inr more) ↦ absurd (may_act.not_after (not_later (after (row_of 0 i)) (before q) few is (omega (arith, more))))
      ]

  -- and it may
  pub step_acts : (i : ℕ) → i < n → MayAct X (row (row_of 0 i)) (stretch (before (row_of 0 i)) (after (row_of 0 i)))
  step_acts i few = record {
    not_before = λ way. let k = rank_later (after (row_of 0 i)) (before (row_of 0 i)) few few way in omega (arith, k);
    not_after = λ way. let k = rank_later (after (row_of 0 i)) (before (row_of 0 i)) few few way in omega (arith, k);
    alone = λ r plain same. ap row (before_same (ap (λ (x : Stretch). x.from) same));
  }

  pub no_untraced : IsAct X untraced → ⊥
  no_untraced is = some_none is.1

  -- a byte that a step may not write stays over it
  pub step_quiet : (may : Row → ℕ → Bool) (a i : ℕ) → i < n → may (row_of 0 i) a ≡ false → IsUntouched X may (stretch (before (row_of 0 i)) (after (row_of 0 i))) a
  step_quiet may a i few out = record { in_order = (row_next i few).later.0; spared = spared }
    where
      spared : (act : Act) → IsAct X act → MayAct X act (stretch (before (row_of 0 i)) (after (row_of 0 i))) → may_by may act a ≡ false
      spared (row q) is may_act = ap (λ (r : Row). may r a) (own_step i q few is may_act) ∙ out
      spared untraced is may_act = absurd (no_untraced is)

  none_pauses : (i : ℕ) (w : Moment) → i < n → IsMoment X w → rank_of w ≡ suc i + suc i → (act : Act) → IsAct X act → MayAct X act (stretch (after (row_of 0 i)) w) → may_by (λ r a. stores X r) act 0 ≡ false
  none_pauses i w few its there untraced is may_act = absurd (no_untraced is)
  none_pauses i w few its there (row q) is may_act =
      elim (cases_order q.step i) [
        | inl same ↦ absurd (may_act.not_before (subst (λ (r : Row). NotLater X (after r) (after (row_of 0 i))) (sym (row_same q (row_of 0 i) is few same)) (inl refl)))
        | inr (inl less) ↦ absurd (may_act.not_before (not_later (after q) (after (row_of 0 i)) is few (omega (arith, less))))
        | inr (inr more) ↦ absurd (may_act.not_after (past more))
      ]
    where
      past : i < q.step → NotLater X w (before q)
      past more =
          elim (cases_eq q.step (suc i)) [
            | inl same ↦ subst (λ (m : Moment). NotLater X m (before q)) (sym (rank_same w (before q) its is (there ∙ sym (ap (λ (k : ℕ). k + k) same)))) (inl refl)
            | inr other ↦ not_later w (before q) its is (omega (arith, more, other, there))
          ]

  -- after a step and at its thread's next point it is one moment
  pub one_moment : (i : ℕ) → i < n → AreOne X (stretch (after (row_of 0 i)) (at (suc i)))
  one_moment i few =
      elim (cases_lt (suc i) n) [
        | inl more ↦ subst (λ (m : Moment). AreOne X (stretch (after (row_of 0 i)) m)) (sym (at_inside (suc i) more)) (record { pause = between 0 i more refl; still = none_pauses i (before (row_of 0 (suc i))) few more refl })
        | inr past ↦
            let final : suc i ≡ n = omega (arith, few, past) in
            subst (λ (m : Moment). AreOne X (stretch (after (row_of 0 i)) m)) (sym (at_last (suc i) past)) (record { pause = last 0 i final refl; still = none_pauses i at_end few tt (ap (λ (k : ℕ). k + k) (sym final)) })
      ]
