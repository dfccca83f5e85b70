-- Whether a moment is one with the thread's next one is decided by times.
use Rattle.std.proofs.Common.{◌≡◌, ◌≢◌, ℕ, zero, suc, ◌+◌, ◌-◌, ◌^◌, ◌<◌, ◌≤◌, ◌&&◌, ◌||◌, not, eqb, nat_le, nat_lt, cond, Bool, true, false, List, [], ◌∷◌, length, Option, Some, None, inl, inr, refl, sym, ap, ◌∙◌, subst, arith}
use Rattle.std.specs.List.{list_any}
use Rattle.std.specs.List.Sorted.{IsPermutation}
use Rattle.std.specs.Option.{is_some}
use Rattle.std.proofs.lemmas.Bool.{false≢true, cases_lt, cases_eq, cases_order, or_left, or_right, and_parts, and_from, eq-eqb, ne_eqb, lt-ltb, le-ltb, leb-true, le-leb}
use Rattle.std.proofs.lemmas.Option.{slice_get_past}
use Rattle.std.proofs.lemmas.List.Folds.{list_any-append}
use Rattle.std.proofs.lemmas.List.Sorted.{list_any-IsPermutation}
use Rattle.rept_steps.specs.declared.slice.Slice.{Slice}
use Rattle.rept_steps.specs.Course.{Course, Row, row_of, rows_of, IsRow, row_at}
use Rattle.rept_order.specs.Events.{Part, event_slice, first_event, last_event}
use Rattle.rept_order.specs.Events.Part.{whole, entry, return}
use Rattle.rept_order.specs.Moments.{Moment, IsMoment, Stretch, stretch, stores}
use Rattle.rept_order.specs.Moments.Moment.{before, after, at_end}
use Rattle.rept_order.specs.Moments.Act.{row}
use Rattle.rept_order.specs.Times.{begin_of, own_before, ends_by, sooner, same_part, same_row, late_by, wholly_before, wholly_after, may_act_between}
use Rattle.rept_order.proofs.Decide.{row_self}
use Rattle.rept_order.proofs.Nexts.{In, every, listed}
use Rattle.rept_moments.specs.Naming.Making.{moments_in, still_by, rows_still, is_still, next_point}
use Rattle.rept_moments.specs.Naming.Numbered.{row_on}
use Rattle.rept_moments.proofs.NamingLemmas.Naming.{stores_inside}
use Rattle.rept_order.specs.declared.crossing.writer.TimedWriter.{TimedWriter}
use Rattle.rept_order.specs.declared.crossing.writer.Rest.{Rest}
use Rattle.rept_moments.specs.Points.{points_in}
use Rattle.rept_moments.specs.Writers.{end_of, end_in, writer_of, writers_at, writers_to}
use Rattle.rept_order.specs.Crossing.Writers.{lasts_to, not_past, crosses}
use Rattle.rept_moments.specs.Merging.{until, untraced_from, rest_from, rest_end}
use Rattle.rept_moments.proofs.Places.{row_there, point_of_row, row_point, row_before, next_row}

not_so : (b : Bool) → (b ≡ true → ⊥) → b ≡ false
not_so true k = absurd (k refl)
not_so false k = refl

not_lt : (a b : ℕ) → not (nat_lt a b) ≡ nat_le b a
not_lt a b =
    elim (cases_lt a b) [
      | inl less ↦ rw (lt-ltb a b less) (sym (not_so (nat_le b a) (λ e. let k = leb-true b a e in omega arith)))
      | inr past ↦ rw (le-ltb a b past, le-leb b a past) refl
    ]

ends_late : (o : Option Slice) (time : ℕ) → time < 2 ^ 64 → not (ends_by o time) ≡ nat_le time (end_in o)
ends_late None time small = sym (le-leb time (2 ^ 64 - 1) (omega arith))
ends_late (Some s) time small = not_lt s.end time

begins_early : (o : Option Slice) (time : ℕ) → not (ends_by o time) ≡ not_past (end_of o) time
begins_early None time = refl
begins_early (Some s) time = not_lt s.end time

part_self : (p : Part) → same_part p p ≡ true
part_self whole = refl
part_self entry = refl
part_self return = refl

and_true : (b : Bool) → (b && true) ≡ b
and_true true = refl
and_true false = refl

-- the rest after a row
abbrev pub rest_of : Course → Row → Rest
rest_of C r = record { thread = r.thread; from = begin_of C (last_event C r); to = rest_end C r }

module _ (C : Course) (q r : Row) (is : IsRow C q) where
  -- of one thread nothing may act
  earlier_row : q.thread ≡ r.thread → q.step ≤ r.step → wholly_before C (row q) (after r) ≡ true
  earlier_row its order =
      elim (cases_eq q.step r.step) [
        | inl same ↦
            let one : q ≡ r = ap (λ (t : ℕ). row_of t q.step) its ∙ ap (λ (i : ℕ). row_of r.thread i) same in
            subst (λ (x : Row). wholly_before C (row x) (after r) ≡ true) (sym one) (or_left (same_row r r && same_part (last_event C r).part (last_event C r).part) (sooner C (last_event C r) (last_event C r)) (and_from (same_row r r) (same_part (last_event C r).part (last_event C r).part) (row_self r r refl) (part_self (last_event C r).part)))
        | inr other ↦ or_right (same_row q r && same_part (last_event C q).part (last_event C r).part) (sooner C (last_event C q) (last_event C r)) (or_left (own_before (last_event C q) (last_event C r)) (ends_by (event_slice C (last_event C q)) (begin_of C (last_event C r))) (and_from (eqb q.thread r.thread) _ (eq-eqb q.thread r.thread its) (or_left (nat_lt q.step r.step) _ (lt-ltb q.step r.step (omega arith)))))
      ]

  later_from : (s : Row) → s.thread ≡ q.thread → s.step ≤ q.step → wholly_after C (row q) (before s) ≡ true
  later_from s its order =
      elim (cases_eq s.step q.step) [
        | inl same ↦
            let one : s ≡ q = ap (λ (t : ℕ). row_of t s.step) its ∙ ap (λ (i : ℕ). row_of q.thread i) same in
            subst (λ (x : Row). wholly_after C (row q) (before x) ≡ true) (sym one) (or_left (same_row q q && same_part (first_event C q).part (first_event C q).part) (sooner C (first_event C q) (first_event C q)) (and_from (same_row q q) (same_part (first_event C q).part (first_event C q).part) (row_self q q refl) (part_self (first_event C q).part)))
        | inr other ↦ or_right (same_row s q && same_part (first_event C s).part (first_event C q).part) (sooner C (first_event C s) (first_event C q)) (or_left (own_before (first_event C s) (first_event C q)) (ends_by (event_slice C (first_event C s)) (begin_of C (first_event C q))) (and_from (eqb s.thread q.thread) _ (eq-eqb s.thread q.thread its) (or_left (nat_lt s.step q.step) _ (lt-ltb s.step q.step (omega arith)))))
      ]

  not_early : (b c : Bool) → b ≡ true → (not b && c) ≡ false
  not_early b c e = ap (λ (x : Bool). not x && c) e

  not_late : (b c d : Bool) → c ≡ true → (not b && (not c && d)) ≡ false
  not_late true c d e = refl
  not_late false c d e = ap (λ (x : Bool). not x && d) e

  own_out : q.thread ≡ r.thread → may_act_between C (row q) (after r) (next_point C r) ≡ false
  own_out its =
      elim (cases_lt r.step q.step) [
        | inr early ↦ not_early (wholly_before C (row q) (after r)) _ (earlier_row its early)
        | inl late ↦
            let inside : suc r.step < length (rows_of C r.thread) = let k : length (rows_of C q.thread) ≡ length (rows_of C r.thread) = ap (λ (t : ℕ). length (rows_of C t)) its in omega arith in
            rw (lt-ltb (suc r.step) (length (rows_of C r.thread)) inside) (not_late (wholly_before C (row q) (after r)) (wholly_after C (row q) (before (row_of r.thread (suc r.step)))) true (later_from (row_of r.thread (suc r.step)) (sym its) (omega arith)))
      ]

  -- rows of other threads may act where they cross
  module _ (other : q.thread ≢ r.thread) (small : begin_of C (last_event C r) < 2 ^ 64) where
    before_is : wholly_before C (row q) (after r) ≡ ends_by (event_slice C (last_event C q)) (begin_of C (last_event C r))
    before_is = rw (ne_eqb q.thread r.thread other) refl

    after_is : (i : ℕ) → wholly_after C (row q) (before (row_of r.thread i)) ≡ ends_by (event_slice C (first_event C (row_of r.thread i))) (begin_of C (first_event C q))
    after_is i = rw (ne_eqb r.thread q.thread (λ e. other (sym e))) refl

    late_is : (not (wholly_before C (row q) (after r))) ≡ lasts_to r.thread (begin_of C (last_event C r)) (writer_of C q)
    late_is = ap not before_is ∙ ends_late (event_slice C (last_event C q)) (begin_of C (last_event C r)) small ∙ sym (ap (λ (b : Bool). not b && nat_le (begin_of C (last_event C r)) (end_in (event_slice C (last_event C q)))) (ne_eqb q.thread r.thread other))

    room : (w : Moment) → may_act_between C (row q) (after r) w ≡ (not (wholly_before C (row q) (after r)) && not (wholly_after C (row q) w))
    room (before s) = ap (λ (b : Bool). not (wholly_before C (row q) (after r)) && b) (and_true (not (wholly_after C (row q) (before s))))
    room (after s) = ap (λ (b : Bool). not (wholly_before C (row q) (after r)) && b) (and_true (not (wholly_after C (row q) (after s))))
    room at_end = refl

    early_is : (b : Bool) → is_some (row_at C (row_of r.thread (suc r.step))) ≡ b → not (wholly_after C (row q) (cond b (before (row_of r.thread (suc r.step))) at_end)) ≡ not_past (rest_end C r) (begin_of C (first_event C q))
    early_is true e = ap not (after_is (suc r.step)) ∙ begins_early (event_slice C (first_event C (row_of r.thread (suc r.step)))) (begin_of C (first_event C q)) ∙ sym (ap (λ (b : Bool). not_past (cond b (end_of (event_slice C (first_event C (row_of r.thread (suc r.step))))) None) (begin_of C (first_event C q))) e)
    early_is false e = sym (ap (λ (b : Bool). not_past (cond b (end_of (event_slice C (first_event C (row_of r.thread (suc r.step))))) None) (begin_of C (first_event C q))) e)

    next_is : nat_lt (suc r.step) (length (rows_of C r.thread)) ≡ is_some (row_at C (row_of r.thread (suc r.step)))
    next_is =
        elim (cases_lt (suc r.step) (length (rows_of C r.thread))) [
          | inl less ↦ lt-ltb (suc r.step) (length (rows_of C r.thread)) less ∙ sym (row_there C (row_of r.thread (suc r.step)) less)
          | inr past ↦ le-ltb (suc r.step) (length (rows_of C r.thread)) past ∙ sym (ap is_some (slice_get_past (rows_of C r.thread) (suc r.step) past))
        ]

    other_may_act : may_act_between C (row q) (after r) (next_point C r) ≡ crosses (rest_of C r) (writer_of C q)
    other_may_act =
        ap (λ (b : Bool). may_act_between C (row q) (after r) (cond b (before (row_of r.thread (suc r.step))) at_end)) next_is
        ∙ room (cond (is_some (row_at C (row_of r.thread (suc r.step)))) (before (row_of r.thread (suc r.step))) at_end)
        ∙ ap (λ (b : Bool). b && not (wholly_after C (row q) (cond (is_some (row_at C (row_of r.thread (suc r.step)))) (before (row_of r.thread (suc r.step))) at_end))) late_is
        ∙ ap (λ (b : Bool). lasts_to r.thread (begin_of C (last_event C r)) (writer_of C q) && b) (early_is (is_some (row_at C (row_of r.thread (suc r.step)))) refl)

  own_cross : q.thread ≡ r.thread → crosses (rest_of C r) (writer_of C q) ≡ false
  own_cross its = ap (λ (b : Bool). (not b && nat_le (begin_of C (last_event C r)) (end_in (event_slice C (last_event C q)))) && not_past (rest_end C r) (begin_of C (first_event C q))) (eq-eqb q.thread r.thread its)

  pub may_act_is : begin_of C (last_event C r) < 2 ^ 64 → may_act_between C (row q) (after r) (next_point C r) ≡ crosses (rest_of C r) (writer_of C q)
  may_act_is small =
      elim (cases_eq q.thread r.thread) [
        | inl same ↦ own_out same ∙ sym (own_cross same)
        | inr other ↦ other_may_act other small
      ]

module _ (C : Course) where
  -- a row that may write is among the writers
  any_by : (b : Bool) (p : TimedWriter → Bool) (w : TimedWriter) → b ≡ true → list_any p (cond b (w ∷ []) []) ≡ false → p w ≡ false
  any_by true p w e k = or_parts (p w) k
    where
      or_parts : (a : Bool) → (a || false) ≡ false → a ≡ false
      or_parts true k = k
      or_parts false k = refl
  any_by false p w e k = absurd (false≢true e)

  or_both : (a b : Bool) → (a || b) ≡ false → (a ≡ false) × (b ≡ false)
  or_both true b e = absurd (false≢true (sym e))
  or_both false b e = (refl, e)

  among : (p : TimedWriter → Bool) (n g : ℕ) → g < n → stores C (row_on C g) ≡ true → list_any p (writers_to C n) ≡ false → p (writer_of C (row_on C g)) ≡ false
  among p zero g less writes none = absurd (omega arith)
  among p (suc n) g less writes none =
      let parts = or_both (list_any p (writers_to C n)) (list_any p (writers_at C n)) (sym (list_any-append p (writers_to C n) (writers_at C n)) ∙ none) in
      elim (cases_order g n) [
        | inl same ↦ subst (λ (k : ℕ). p (writer_of C (row_on C k)) ≡ false) (sym same) (any_by (stores C (row_on C n)) p (writer_of C (row_on C n)) (subst (λ (k : ℕ). stores C (row_on C k) ≡ true) same writes) parts.1)
        | inr (inl below) ↦ among p n g below writes parts.0
        | inr (inr over) ↦ absurd (omega arith)
      ]

  none_by : (b : Bool) (p : TimedWriter → Bool) (w : TimedWriter) → (b ≡ true → p w ≡ false) → list_any p (cond b (w ∷ []) []) ≡ false
  none_by true p w k = ap (λ (a : Bool). a || false) (k refl)
  none_by false p w k = refl

  none_to : (p : TimedWriter → Bool) (n : ℕ) → ((g : ℕ) → stores C (row_on C g) ≡ true → p (writer_of C (row_on C g)) ≡ false) → list_any p (writers_to C n) ≡ false
  none_to p zero k = refl
  none_to p (suc g) k = list_any-append p (writers_to C g) (writers_at C g) ∙ ap (λ (b : Bool). b || list_any p (writers_at C g)) (none_to p g k) ∙ none_by (stores C (row_on C g)) p (writer_of C (row_on C g)) (k g)

  all_by : (x : Stretch) (ms : List Moment) → ((m : Moment) → In ms m → still_by C x m ≡ true) → rows_still C x ms ≡ true
  all_by x [] k = refl
  all_by x (m ∷ ms) k = and_from (still_by C x m) (rows_still C x ms) (k m (inl refl)) (all_by x ms (λ y h. k y (inr h)))

  rows_at : (x : Stretch) (ms : List Moment) (m : Moment) → rows_still C x ms ≡ true → In ms m → still_by C x m ≡ true
  rows_at x [] m e h = absurd h
  rows_at x (y ∷ ms) m e (inl same) = subst (λ (z : Moment). still_by C x z ≡ true) same (and_parts (still_by C x y) (rows_still C x ms) e).0
  rows_at x (y ∷ ms) m e (inr h) = rows_at x ms m (and_parts (still_by C x y) (rows_still C x ms) e).1 h

  still_row : (a b : Bool) → (a ≡ true → b ≡ false) → not (a && b) ≡ true
  still_row true b k = ap not (k refl)
  still_row false b k = refl

  row_out : (a b : Bool) → a ≡ true → not (a && b) ≡ true → b ≡ false
  row_out true true e k = absurd (false≢true k)
  row_out true false e k = refl
  row_out false b e k = absurd (false≢true e)

  module _ (r : Row) (is : IsRow C r) (small : begin_of C (last_event C r) < 2 ^ 64) where
    abbrev gap : Stretch
    gap = stretch (after r) (next_point C r)

    one_still : list_any (crosses (rest_of C r)) (writers_to C (points_in C)) ≡ false → (m : Moment) → IsMoment C m → still_by C gap m ≡ true
    one_still none (after q) its = refl
    one_still none at_end its = refl
    one_still none (before q) its = still_row (stores C q) (may_act_between C (row q) (after r) (next_point C r)) (λ writes.
        let e = row_point C q its in
        let there : IsRow C (row_on C (point_of_row C q)) = subst (λ (x : Row). IsRow C x) (sym e) its in
        let less = row_before C (point_of_row C q) there in
        may_act_is C q r its small ∙ subst (λ (x : Row). crosses (rest_of C r) (writer_of C x) ≡ false) e (among (crosses (rest_of C r)) (points_in C) (point_of_row C q) (omega arith) (subst (λ (x : Row). stores C x ≡ true) (sym e) writes) none))

    rows_from : list_any (crosses (rest_of C r)) (writers_to C (points_in C)) ≡ false → rows_still C gap (moments_in C) ≡ true
    rows_from none = all_by gap (moments_in C) (λ m h. one_still none m (listed C (length C.threads) m h))

    none_from : rows_still C gap (moments_in C) ≡ true → list_any (crosses (rest_of C r)) (writers_to C (points_in C)) ≡ false
    none_from still = none_to (crosses (rest_of C r)) (points_in C) (λ g writes.
        let its = stores_inside C (row_on C g) writes in
        sym (may_act_is C (row_on C g) r its small) ∙ row_out (stores C (row_on C g)) (may_act_between C (row (row_on C g)) (after r) (next_point C r)) writes (rows_at gap (moments_in C) (before (row_on C g)) still (every C (before (row_on C g)) its)))

    same_by : (a b : Bool) → (b ≡ false → a ≡ true) → (a ≡ true → b ≡ false) → a ≡ not b
    same_by true b to from = ap not (sym (from refl))
    same_by false true to from = refl
    same_by false false to from = to refl

    pub rows_is : rows_still C gap (moments_in C) ≡ not (list_any (crosses (rest_of C r)) (writers_to C (points_in C)))
    rows_is = same_by (rows_still C gap (moments_in C)) (list_any (crosses (rest_of C r)) (writers_to C (points_in C))) rows_from none_from

    untraced_by : (o : Option ℕ) (time : ℕ) → not (is_some o && (not (late_by o time) && true)) ≡ not (until o time)
    untraced_by None time = refl
    untraced_by (Some d) time = ap not (and_true (not (nat_lt d time)) ∙ not_lt d time)

    pub still_is : (ws : List TimedWriter) → IsPermutation (writers_to C (points_in C)) ws → is_still C gap ≡ (not (untraced_from C (begin_of C (last_event C r))) && not (list_any (crosses (rest_of C r)) ws))
    still_is ws same =
        ap (λ (b : Bool). b && rows_still C gap (moments_in C)) (untraced_by C.untraced (begin_of C (last_event C r)))
        ∙ ap (λ (b : Bool). not (untraced_from C (begin_of C (last_event C r))) && b) (rows_is ∙ ap not (list_any-IsPermutation (crosses (rest_of C r)) (writers_to C (points_in C)) ws same))

pub merged_is : (C : Course) (g : ℕ) (ws : List TimedWriter) (rest : Rest) (d x r : Bool) → IsRow C (row_on C g) → IsPermutation (writers_to C (points_in C)) ws → rest.thread ≡ (row_on C g).thread → rest.from ≡ begin_of C (last_event C (row_on C g)) → rest.from < 2 ^ 64 → rest.to ≡ rest_from C (row_on C (g + 1)) → d ≡ untraced_from C rest.from → x ≡ list_any (crosses rest) ws → r ≡ (not d && not x) → r ≡ is_still C (stretch (after (row_on C g)) (next_point C (row_on C g)))
merged_is C g ws rest d x r is same t from small to told crossed e =
    let one : g + 1 ≡ suc g = omega arith in
    let next : rest_from C (row_on C (g + 1)) ≡ rest_end C (row_on C g) = ap (λ (k : ℕ). rest_from C (row_on C k)) one ∙ ap (rest_from C) (next_row C g is) in
    let whole : rest ≡ rest_of C (row_on C g) = ap (λ (k : ℕ). rest_by k rest.from rest.to) t ∙ ap (λ (k : ℕ). rest_by (row_on C g).thread k rest.to) from ∙ ap (λ (o : Option ℕ). rest_by (row_on C g).thread (begin_of C (last_event C (row_on C g))) o) (to ∙ next) in
    let begin_small : begin_of C (last_event C (row_on C g)) < 2 ^ 64 = subst (λ (k : ℕ). k < 2 ^ 64) from small in
    e ∙ ap (λ (b : Bool). not b && not x) (told ∙ ap (untraced_from C) from) ∙ ap (λ (b : Bool). not (untraced_from C (begin_of C (last_event C (row_on C g)))) && not b) (crossed ∙ ap (λ (y : Rest). list_any (crosses y) ws) whole) ∙ sym (still_is C (row_on C g) is begin_small ws same)
  where
    rest_by : ℕ → ℕ → Option ℕ → Rest
    rest_by a b o = record { thread = a; from = b; to = o }
