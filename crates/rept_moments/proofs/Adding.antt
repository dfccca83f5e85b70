-- What was added to a list, one step after the other.
use Rattle.std.proofs.Common.{◌≡◌, ◌≢◌, ℕ, zero, suc, ◌+◌, ◌-◌, ◌<◌, ◌⊎◌, cond, Bool, true, false, List, [], ◌∷◌, ◌++◌, length, Option, Some, inl, inr, refl, sym, ap, ◌∙◌, subst, arith}
use Rattle.std.specs.List.{Contains}
use Rattle.std.specs.Option.{is_some, IsSome}
use Rattle.std.proofs.lemmas.Bool.{and_parts}
use Rattle.std.proofs.lemmas.List.Elements.{Contains-append_left, Contains-push, Contains-push_cases}
use Rattle.rept_steps.specs.Course.{Course, rows_of}
use Rattle.rept_order.specs.Moments.{stretch}
use Rattle.rept_order.specs.Moments.Moment.{before, after}
use Rattle.rept_order.specs.Runs.{beside_by}
use Rattle.rept_order.specs.Times.{begin_of}
use Rattle.rept_moments.specs.Naming.Making.{is_still, next_point}
use Rattle.rept_order.specs.Legs.{points_before, number_of, leg_row}
use Rattle.rept_moments.specs.Naming.Numbered.{row_on}
use Rattle.rept_moments.specs.declared.side.PointSide.{PointSide}
use Rattle.rept_moments.specs.Points.{points_in}
use Rattle.rept_moments.specs.Ordering.{moment_at_side, event_at}
use Rattle.rept_order.specs.Crossing.Writers.{not_past}
use Rattle.rept_moments.specs.Merging.{merged_at}
use Rattle.rept_moments.specs.Numbers.{numbers_of}
use Rattle.rept_moments.specs.Nexts.{offers_at, is_first_later, first_offer, nexts_of, merged_nexts, point_nexts, side_nexts, last_nexts, ends_to, Member, AddsOthers}
use Rattle.rept_moments.proofs.Places.{next_thread, points_most}
use Rattle.rept_moments.proofs.Offers.{member_left, member_right, member_parts}

pub adds_as : (own : ℕ) (P Q : ℕ → Type 0) (old new : List ℕ) → ((v : ℕ) → P v → Q v) → ((v : ℕ) → Q v → P v) → AddsOthers own P old new → AddsOthers own Q old new
adds_as own P Q old new to from its v = (forth, back)
  where
    forth : Contains new v → Contains old v ⊎ (Q v × (v ≢ own))
    forth h =
        elim ((its v).0 h) [
          | inl k ↦ inl k
          | inr k ↦ inr (to v k.0, k.1)
        ]

    back : Contains old v ⊎ (Q v × (v ≢ own)) → Contains new v
    back (inl k) = (its v).1 (inl k)
    back (inr k) = (its v).1 (inr (from v k.0, k.1))

-- nothing was added
pub adds_none : (own : ℕ) (Is : ℕ → Type 0) (old : List ℕ) → ((v : ℕ) → Is v → ⊥) → AddsOthers own Is old old
adds_none own Is old none v = (λ h. inl h, back)
  where
    back : Contains old v ⊎ (Is v × (v ≢ own)) → Contains old v
    back (inl k) = k
    back (inr k) = absurd (none v k.0)

-- first these and then those
pub adds_both : (own : ℕ) (P Q R : ℕ → Type 0) (start old new : List ℕ) → ((v : ℕ) → P v ⊎ Q v → R v) → ((v : ℕ) → R v → P v ⊎ Q v) → AddsOthers own P start old → AddsOthers own Q old new → AddsOthers own R start new
adds_both own P Q R start old new to from first second v = (forth, back)
  where
    forth : Contains new v → Contains start v ⊎ (R v × (v ≢ own))
    forth h =
        elim ((second v).0 h) [
          | inl k ↦
              elim ((first v).0 k) [
                | inl j ↦ inl j
                | inr j ↦ inr (to v (inl j.0), j.1)
              ]
          | inr k ↦ inr (to v (inr k.0), k.1)
        ]

    back : Contains start v ⊎ (R v × (v ≢ own)) → Contains new v
    back (inl k) = (second v).1 (inl ((first v).1 (inl k)))
    back (inr k) =
        elim (from v k.0) [
          | inl j ↦ (second v).1 (inl ((first v).1 (inr (j, k.1))))
          | inr j ↦ (second v).1 (inr (j, k.1))
        ]

pub adds_lists : (own : ℕ) (xs ys start old new : List ℕ) → AddsOthers own (Member xs) start old → AddsOthers own (Member ys) old new → AddsOthers own (Member (xs ++ ys)) start new
adds_lists own xs ys start old new = adds_both own (Member xs) (Member ys) (Member (xs ++ ys)) start old new (λ v h. elim h [ inl k ↦ member_left xs ys v k | inr k ↦ member_right xs ys v k ]) (λ v h. member_parts xs ys v h)

-- one number
pub adds_one : (own n : ℕ) (old new : List ℕ) → n ≢ own → new ≡ old ++ n ∷ [] → AddsOthers own (Member (n ∷ [])) old new
adds_one own n old new other same = subst (λ (xs : List ℕ). AddsOthers own (Member (n ∷ [])) old xs) (sym same) (λ v. (forth v, back v))
  where
    forth : (v : ℕ) → Contains (old ++ n ∷ []) v → Contains old v ⊎ (Member (n ∷ []) v × (v ≢ own))
    forth v h =
        elim (Contains-push_cases old n v h) [
          | inl k ↦ inl k
          | inr k ↦ inr (inl k, λ e. other (k ∙ e))
        ]

    back : (v : ℕ) → Contains old v ⊎ (Member (n ∷ []) v × (v ≢ own)) → Contains (old ++ n ∷ []) v
    back v (inl k) = Contains-append_left old (n ∷ []) v k
    back v (inr (inl e, out)) = subst (λ (k : ℕ). Contains (old ++ n ∷ []) k) e (Contains-push old n)
    back v (inr (inr k, out)) = absurd k

pub adds_own : (own n : ℕ) (old : List ℕ) → n ≡ own → AddsOthers own (Member (n ∷ [])) old old
adds_own own n old same v = (λ h. inl h, back)
  where
    back : Contains old v ⊎ (Member (n ∷ []) v × (v ≢ own)) → Contains old v
    back (inl k) = k
    back (inr (inl e, out)) = absurd (out (sym e ∙ same))
    back (inr (inr k, out)) = absurd k

-- the same list by another name
pub adds_same : (own : ℕ) (xs ys old new : List ℕ) → xs ≡ ys → AddsOthers own (Member xs) old new → AddsOthers own (Member ys) old new
adds_same own xs ys old new same its = subst (λ (zs : List ℕ). AddsOthers own (Member zs) old new) same its

pub in_time_then : (C : Course) (last : Option ℕ) (x : PointSide) (b n : ℕ) (p : Bool) → b ≡ begin_of C (event_at C x) → n ≡ (numbers_of C).name (moment_at_side C x) → p ≡ not_past last b → p ≡ true → n ∷ [] ≡ offers_at C last (Some x)
in_time_then C last x b n p begin name is holds =
    let test : not_past last (begin_of C (event_at C x)) ≡ true = sym (is ∙ ap (not_past last) begin) ∙ holds in
    ap (λ (k : ℕ). k ∷ []) name ∙ sym (ap (λ (q : Bool). cond q ((numbers_of C).name (moment_at_side C x) ∷ []) []) test)

pub in_time_else : (C : Course) (last : Option ℕ) (x : PointSide) (b : ℕ) (p : Bool) → b ≡ begin_of C (event_at C x) → p ≡ not_past last b → p ≡ false → [] ≡ offers_at C last (Some x)
in_time_else C last x b p begin is fails =
    let test : not_past last (begin_of C (event_at C x)) ≡ false = sym (is ∙ ap (not_past last) begin) ∙ fails in
    sym (ap (λ (q : Bool). cond q ((numbers_of C).name (moment_at_side C x) ∷ []) []) test)

pub later_then : (C : Course) (s x : PointSide) (n : ℕ) (p : Bool) → n ≡ (numbers_of C).name (moment_at_side C x) → p ≡ is_first_later C s x → p ≡ true → n ∷ [] ≡ first_offer C s x
later_then C s x n p name is holds = ap (λ (k : ℕ). k ∷ []) name ∙ sym (ap (λ (q : Bool). cond q ((numbers_of C).name (moment_at_side C x) ∷ []) []) (sym is ∙ holds))

pub later_else : (C : Course) (s x : PointSide) (p : Bool) → p ≡ is_first_later C s x → p ≡ false → [] ≡ first_offer C s x
later_else C s x p is fails = sym (ap (λ (q : Bool). cond q ((numbers_of C).name (moment_at_side C x) ∷ []) []) (sym is ∙ fails))

pub ends_more : (C : Course) (own : ℕ) (start old new : List ℕ) (t : ℕ) → AddsOthers own (Member (ends_to C t)) start old → AddsOthers own (Member (last_nexts C t (length (rows_of C t)))) old new → AddsOthers own (Member (ends_to C (t + 1))) start new
ends_more C own start old new t was e =
    let one : suc t ≡ t + 1 = omega arith in
    subst (λ (k : ℕ). AddsOthers own (Member (ends_to C k)) start new) one (adds_lists own (ends_to C t) (last_nexts C t (length (rows_of C t))) start old new was e)

pub merged_then : (C : Course) (g : ℕ) (b : Bool) → b ≡ merged_at C g → b ≡ true → nexts_of C (after (row_on C g)) ≡ merged_nexts C g
merged_then C g b is holds = sym (ap (λ (q : Bool). cond q (nexts_of C (after (row_on C g))) []) (sym is ∙ holds))

pub merged_else : (C : Course) (g : ℕ) (b : Bool) → b ≡ merged_at C g → b ≡ false → [] ≡ merged_nexts C g
merged_else C g b is fails = sym (ap (λ (q : Bool). cond q (nexts_of C (after (row_on C g))) []) (sym is ∙ fails))

pub point_more : (C : Course) (p : ℕ) → p ≢ 0 → merged_nexts C (p - 1) ≡ point_nexts C p
point_more C zero other = absurd (other refl)
point_more C (suc p) other = ap (merged_nexts C) (omega arith)

pub side_then : (C : Course) (own : ℕ) (x : PointSide) (start old : List ℕ) → x.is_after ≡ true → AddsOthers own (Member (nexts_of C (moment_at_side C x))) start old → AddsOthers own (Member (side_nexts C x)) start old
side_then C own x start old is its = adds_lists own (nexts_of C (moment_at_side C x)) (cond x.is_after [] (point_nexts C x.point)) start old old its (adds_none own (Member (cond x.is_after [] (point_nexts C x.point))) old (λ v h. none x.is_after is v h))
  where
    none : (b : Bool) → b ≡ true → (v : ℕ) → Member (cond b [] (point_nexts C x.point)) v → ⊥
    none true e v h = h
    none false e v h = absurd (Rattle.std.proofs.lemmas.Bool.false≢true e)

pub side_else : (C : Course) (own : ℕ) (x : PointSide) (start old new : List ℕ) → x.is_after ≡ false → AddsOthers own (Member (nexts_of C (moment_at_side C x))) start old → AddsOthers own (Member (point_nexts C x.point)) old new → AddsOthers own (Member (side_nexts C x)) start new
side_else C own x start old new is its more = adds_lists own (nexts_of C (moment_at_side C x)) (cond x.is_after [] (point_nexts C x.point)) start old new its (adds_same own (point_nexts C x.point) (cond x.is_after [] (point_nexts C x.point)) old new (sym (ap (λ (b : Bool). cond b [] (point_nexts C x.point)) is)) more)

pub rows_inside : (C : Course) (t n : ℕ) → t < length C.threads → n ≡ length (rows_of C t) → points_before C.threads t + n < points_in C
rows_inside C t n below rows =
    let next = next_thread C.threads t below in
    let most = points_most C.threads (suc t) (omega arith) in
    omega arith

pub last_is_nexts : (C : Course) (t n k : ℕ) → suc k ≡ n → last_nexts C t n ≡ merged_nexts C (number_of C t k)
last_is_nexts C t zero k e = absurd (omega arith)
last_is_nexts C t (suc n) k e = let same : n ≡ k = omega arith in ap (λ (i : ℕ). merged_nexts C (number_of C t i)) same

pub last_none : (C : Course) (t n : ℕ) → n ≡ length (rows_of C t) → n ≡ 0 → [] ≡ last_nexts C t (length (rows_of C t))
last_none C t n rows none = ap (λ (k : ℕ). last_nexts C t k) (sym none ∙ rows)

pub last_some : (C : Course) (t n g : ℕ) → n ≡ length (rows_of C t) → n ≢ 0 → g ≡ points_before C.threads t → merged_nexts C (g + (n - 1)) ≡ last_nexts C t (length (rows_of C t))
last_some C t n g rows some first =
    let next : suc (n - 1) ≡ n = omega arith in
    ap (λ (k : ℕ). merged_nexts C (k + (n - 1))) first ∙ sym (last_is_nexts C t n (n - 1) next) ∙ ap (λ (k : ℕ). last_nexts C t k) rows

pub merged_leads : (C : Course) (g : ℕ) (b : Bool) → b ≡ merged_at C g → b ≡ true → IsSome (leg_row C g)
merged_leads C g b is holds = (and_parts (is_some (leg_row C g)) (is_still C (stretch (after (row_on C g)) (next_point C (row_on C g)))) (sym is ∙ holds)).0

pub name_then : (C : Course) (x : PointSide) (k : ℕ) → x.is_after ≡ true → k ≡ (numbers_of C).name (after (row_on C x.point)) → k ≡ (numbers_of C).name (moment_at_side C x)
name_then C x k is e = e ∙ sym (ap (λ (b : Bool). (numbers_of C).name (beside_by (row_on C x.point) b)) is)

pub name_else : (C : Course) (x : PointSide) (k : ℕ) → x.is_after ≡ false → k ≡ (numbers_of C).name (before (row_on C x.point)) → k ≡ (numbers_of C).name (moment_at_side C x)
name_else C x k is e = e ∙ sym (ap (λ (b : Bool). (numbers_of C).name (beside_by (row_on C x.point) b)) is)
