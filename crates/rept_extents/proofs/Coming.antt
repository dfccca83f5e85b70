-- Tables of the times between which the moments of numbers come.
use Rattle.std.proofs.Common.{◌≡◌, ℕ, zero, suc, ◌+◌, ◌<◌, ◌≤◌, ◌&&◌, true, List, [], ◌∷◌, ◌++◌, length, Option, Some, None, slice_get, inl, inr, refl, sym, ap, ◌∙◌, subst, arith, length-append}
use Rattle.std.proofs.lemmas.Bool.{cases_order, lt-ltb, or_right}
use Rattle.std.proofs.lemmas.Option.{slice_get_cases, slice_get_within}
use Rattle.rept_steps.specs.declared.slice.Slice.{Slice}
use Rattle.rept_steps.specs.Course.{Course, Row}
use Rattle.rept_order.specs.Events.{event_slice, first_event, last_event}
use Rattle.rept_order.specs.Moments.{Moment}
use Rattle.rept_order.specs.Moments.Moment.{before, after, at_end}
use Rattle.rept_order.specs.Times.{begin_of, ends_by, own_before, sooner, same_part, same_row, not_later}
use Rattle.rept_moments.specs.Numbers.{numbers_of}
use Rattle.rept_moments.proofs.Places.{get_end, get_before}
use Rattle.rept_extents.specs.Times.{ComesFrom, ComesBefore, EndsBefore, AllFrom, AllBefore, AreBegins, AreEndTimes}

some_same : {A : Type 0} {x y : A} → Some x ≡ Some y → x ≡ y
some_same e = cc

-- what doesn't come before a time doesn't come before an earlier one
from_down : (C : Course) (m : Moment) (s t : ℕ) → s ≤ t → ComesFrom C m t → ComesFrom C m s
from_down C (before r) s t low h = omega arith
from_down C (after r) s t low h = omega arith
from_down C at_end s t low h = tt

ends_up : (o : Option Slice) (s t : ℕ) → s ≤ t → EndsBefore o s → EndsBefore o t
ends_up None s t low h = h
ends_up (Some x) s t low h = omega arith

-- what comes before a time comes before a later one
before_up : (C : Course) (m : Moment) (s t : ℕ) → s ≤ t → ComesBefore C m s → ComesBefore C m t
before_up C (before r) s t low h = ends_up (event_slice C (first_event C r)) s t low h
before_up C (after r) s t low h = ends_up (event_slice C (last_event C r)) s t low h
before_up C at_end s t low h = h

-- the element of a list, or of one with one more, at a place
get_one : (xs : List ℕ) (x k t : ℕ) → k ≡ length xs → slice_get (xs ++ x ∷ []) k ≡ Some t → x ≡ t
get_one xs x k t same there = some_same (sym (get_end xs x) ∙ ap (λ (n : ℕ). slice_get (xs ++ x ∷ []) n) (sym same) ∙ there)

get_less : (xs : List ℕ) (x k t : ℕ) → slice_get (xs ++ x ∷ []) k ≡ Some t → k < suc (length xs)
get_less xs x k t there = let less = slice_get_within (xs ++ x ∷ []) k t there in let all = length-append xs (x ∷ []) in omega arith

-- with one number more
module _ (C D : Course) (n : ℕ) (m : Moment) (same : C ≡ D) (last : m ≡ (numbers_of C).last n) where
  pub from_more : (count least b new : ℕ) → ComesFrom D m b → new ≤ b → new ≤ least → AllFrom C (suc n) count least → AllFrom C n count new
  from_more count least b new own low less known j up under =
      elim (cases_order j n) [
        | inl at ↦ from_down C ((numbers_of C).last j) new b low (subst (λ (k : ℕ). ComesFrom C ((numbers_of C).last k) b) (sym at) (subst (λ (w : Moment). ComesFrom C w b) last (subst (λ (E : Course). ComesFrom E m b) (sym same) own)))
        | inr (inl past) ↦ absurd (omega arith)
        | inr (inr over) ↦ from_down C ((numbers_of C).last j) new least less (known j over under)
      ]

  pub before_more : (most e new : ℕ) → ComesBefore D m (suc e) → e ≤ new → most ≤ new → AllBefore C n (suc most) → AllBefore C (suc n) (suc new)
  before_more most e new own low less known j under =
      elim (cases_order j n) [
        | inl at ↦ before_up C ((numbers_of C).last j) (suc e) (suc new) (omega arith) (subst (λ (k : ℕ). ComesBefore C ((numbers_of C).last k) (suc e)) (sym at) (subst (λ (w : Moment). ComesBefore C w (suc e)) last (subst (λ (E : Course). ComesBefore E m (suc e)) (sym same) own)))
        | inr (inl below) ↦ before_up C ((numbers_of C).last j) (suc most) (suc new) (omega arith) (known j below)
        | inr (inr over) ↦ absurd (omega arith)
      ]

module _ (C : Course) (xs : List ℕ) (new : ℕ) where
  pub begins_more : (n count : ℕ) → length xs + suc n ≡ count → AreBegins C count xs → AllFrom C n count new → AreBegins C count (xs ++ new ∷ [])
  begins_more n count total known own k low time there place =
      elim (cases_order k (length xs)) [
        | inl end ↦ subst (λ (t : ℕ). AllFrom C low count t) (get_one xs new k time end there) (subst (λ (l : ℕ). AllFrom C l count new) (omega arith) own)
        | inr (inl less) ↦ known k low time (sym (get_before xs new k less) ∙ there) place
        | inr (inr over) ↦ absurd (let less = get_less xs new k time there in omega arith)
      ]

  pub ends_more : (n : ℕ) → length xs ≡ n → AreEndTimes C xs → AllBefore C (suc n) (suc new) → AreEndTimes C (xs ++ new ∷ [])
  ends_more n total known own k time there =
      elim (cases_order k (length xs)) [
        | inl end ↦ subst (λ (t : ℕ). AllBefore C (suc k) (suc t)) (get_one xs new k time end there) (subst (λ (l : ℕ). AllBefore C (suc l) (suc new)) (sym (end ∙ total)) own)
        | inr (inl less) ↦ known k time (sym (get_before xs new k less) ∙ there)
        | inr (inr over) ↦ absurd (let less = get_less xs new k time there in omega arith)
      ]

found : (xs : List ℕ) (k : ℕ) → k < length xs → (t : ℕ) × (slice_get xs k ≡ Some t)
found xs k less =
    elim ((slice_get_cases xs k).1) [
      | inl is ↦ (is.0, is.2)
      | inr past ↦ absurd (let far = past.0 in omega arith)
    ]

-- the last so many numbers come after a time, if the last of so many begins does
pub all_from : (C : Course) (xs : List ℕ) (count time n low : ℕ) → AreBegins C count xs → length xs ≤ count → n ≤ length xs → ((k t : ℕ) → n ≡ suc k → slice_get xs k ≡ Some t → time < t) → low + n ≡ count → AllFrom C low count (suc time)
all_from C xs count time zero low are few most last place j up under = absurd (omega arith)
all_from C xs count time (suc k) low are few most last place j up under =
    let at = found xs k (omega arith) in
    from_down C ((numbers_of C).last j) (suc time) at.0 (last k at.0 refl at.1) (are k low at.0 at.1 place j up under)

-- the first so many numbers come before a time, if the last of so many ends does
pub all_before : (C : Course) (xs : List ℕ) (time n : ℕ) → AreEndTimes C xs → n ≤ length xs → ((k t : ℕ) → n ≡ suc k → slice_get xs k ≡ Some t → t < time) → AllBefore C n time
all_before C xs time zero are most last j under = absurd (omega arith)
all_before C xs time (suc k) are most last j under =
    let at = found xs k (omega arith) in
    before_up C ((numbers_of C).last j) (suc at.0) time (last k at.0 refl at.1) (are k at.0 at.1 j under)

-- a slice that ends before a time
ends_true : (o : Option Slice) (t b : ℕ) → EndsBefore o t → t ≤ b → ends_by o b ≡ true
ends_true None t b h low = absurd h
ends_true (Some s) t b h low = lt-ltb s.end b (omega arith)

-- by times alone
pub before_row : (C : Course) (r : Row) (m : Moment) (b : ℕ) → ComesBefore C m b → b ≡ begin_of C (first_event C r) → not_later C m (before r) ≡ true
before_row C r (before q) b h is = or_right (same_row q r && same_part (first_event C q).part (first_event C r).part) (sooner C (first_event C q) (first_event C r)) (or_right (own_before (first_event C q) (first_event C r)) (ends_by (event_slice C (first_event C q)) (begin_of C (first_event C r))) (ends_true (event_slice C (first_event C q)) b (begin_of C (first_event C r)) h (omega arith)))
before_row C r (after q) b h is = or_right (own_before (last_event C q) (first_event C r)) (ends_by (event_slice C (last_event C q)) (begin_of C (first_event C r))) (ends_true (event_slice C (last_event C q)) b (begin_of C (first_event C r)) h (omega arith))
before_row C r at_end b h is = absurd h

pub after_row : (C : Course) (r : Row) (m : Moment) (t : ℕ) → EndsBefore (event_slice C (last_event C r)) t → ComesFrom C m t → not_later C (after r) m ≡ true
after_row C r (before q) t h from = or_right (own_before (last_event C r) (first_event C q)) (ends_by (event_slice C (last_event C r)) (begin_of C (first_event C q))) (ends_true (event_slice C (last_event C r)) t (begin_of C (first_event C q)) h from)
after_row C r (after q) t h from = or_right (same_row r q && same_part (last_event C r).part (last_event C q).part) (sooner C (last_event C r) (last_event C q)) (or_right (own_before (last_event C r) (last_event C q)) (ends_by (event_slice C (last_event C r)) (begin_of C (last_event C q))) (ends_true (event_slice C (last_event C r)) t (begin_of C (last_event C q)) h from))
after_row C r at_end t h from = refl
