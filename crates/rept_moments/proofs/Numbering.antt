-- The places of moments in the list of those that have a number.
use Rattle.std.proofs.Common.{◌≡◌, ◌≢◌, ℕ, zero, suc, ◌+◌, ◌<◌, ◌≤◌, ◌&&◌, ◌||◌, not, eqb, nat_lt, cond, Bool, true, false, List, [], ◌∷◌, ◌++◌, length, reverse, take, get_or, set, Option, Some, None, slice_get, unwrap_or, inl, inr, refl, sym, ap, ◌∙◌, subst, arith, length-append}
use Rattle.std.specs.Option.{is_some}
use mathlib.Core.List.{reverse-cons}
use Rattle.std.proofs.lemmas.List.{reverse-append, length-reverse}
use Rattle.std.proofs.lemmas.Option.{slice_get_read, slice_get_past, slice_get-get_or}
use Rattle.std.proofs.lemmas.Bool.{cases_lt, cases_eq, and_from, eq-eqb, ne_eqb, lt-ltb, le-ltb, ltb-true}
use Rattle.rept_steps.specs.Course.{Course, Row, rows_of, IsRow}
use Rattle.rept_order.specs.Moments.{Moment, stretch}
use Rattle.rept_order.specs.Moments.Moment.{before, after, at_end}
use Rattle.rept_order.specs.Runs.{beside_by}
use Rattle.rept_order.specs.Times.{same_row, same_moment}
use Rattle.rept_order.specs.Legs.{number_of}
use Rattle.rept_order.proofs.Decide.{row_true, row_self}
use Rattle.rept_order.proofs.Legs.{number_point}
use Rattle.rept_moments.specs.Naming.Making.{is_still, next_point, last_of, holds, keeps, lasts, rank, ranked}
use Rattle.rept_moments.specs.Naming.Numbered.{row_on}
use Rattle.rept_moments.specs.declared.side.PointSide.{PointSide}
use Rattle.rept_moments.specs.declared.side.Timed.{Timed}
use Rattle.rept_moments.specs.Points.{points_in, by_point}
use Rattle.rept_moments.specs.Ordering.{side, moment_at_side, back, in_time}
use Rattle.rept_moments.specs.Merging.{merged_at}
use Rattle.rept_moments.specs.Numbering.{same_bool, same_side, find, at_place, Numbered, AreInside, AreNumbered, is_merged, kept_with}
use Rattle.rept_moments.specs.Tables.{moments_at}
use Rattle.rept_moments.proofs.Places.{row_there, row_before, by_point_length, by_point_get}
use Rattle.rept_moments.proofs.Listing.{Holds, time_moment, at_row}

-- the list, and the table of numbers
at_snoc : (xs : List PointSide) (x : PointSide) (n : ℕ) → at_place (xs ++ x ∷ []) (suc n) ≡ at_place xs n
at_snoc [] x n = ap (λ (b : Bool). cond b (Some x) None) (ne_eqb (suc n) 0 (λ e. omega arith))
at_snoc (y ∷ xs) x n =
    let long : length (xs ++ x ∷ []) ≡ suc (length xs) = let all = length-append xs (x ∷ []) in omega arith in
    elim (cases_eq n (length xs)) [
      | inl same ↦ rw (eq-eqb (suc n) (length (xs ++ x ∷ [])) (omega arith), eq-eqb n (length xs) same) refl
      | inr other ↦ rw (ne_eqb (suc n) (length (xs ++ x ∷ [])) (λ e. other (omega arith)), ne_eqb n (length xs) other) (at_snoc xs x n)
    ]

at_first : (xs : List PointSide) (x : PointSide) → at_place (xs ++ x ∷ []) 0 ≡ Some x
at_first [] x = refl
at_first (y ∷ xs) x =
    let long : length (xs ++ x ∷ []) ≡ suc (length xs) = let all = length-append xs (x ∷ []) in omega arith in
    rw (ne_eqb 0 (length (xs ++ x ∷ [])) (λ e. omega arith)) (at_first xs x)

pub at_reverse : (xs : List PointSide) (n : ℕ) → slice_get xs n ≡ at_place (reverse xs) n
at_reverse [] n = refl
at_reverse (x ∷ xs) zero = sym (ap (λ (ys : List PointSide). at_place ys 0) (reverse-cons x xs) ∙ at_first (reverse xs) x)
at_reverse (x ∷ xs) (suc n) = at_reverse xs n ∙ sym (ap (λ (ys : List PointSide). at_place ys (suc n)) (reverse-cons x xs) ∙ at_snoc (reverse xs) x n)

pub at_inside : (m n : ℕ) (xs : List PointSide) (s : PointSide) → AreInside m xs → at_place xs n ≡ Some s → s.point < m
at_inside m n [] s in_all e = absurd (none_some e)
  where
    none_some : {x : PointSide} → None ≡ Some x → ⊥
    none_some e = cc
at_inside m n (x ∷ xs) s in_all e = go (eqb n (length xs)) (λ k. at_inside m n xs s in_all.1 k) e
  where
    some_same : {x y : PointSide} → Some x ≡ Some y → x ≡ y
    some_same e = cc

    go : (b : Bool) → (at_place xs n ≡ Some s → s.point < m) → cond b (Some x) (at_place xs n) ≡ Some s → s.point < m
    go true rest k = subst (λ (y : PointSide). y.point < m) (some_same k) in_all.0
    go false rest k = rest k

bool_self : (b : Bool) → same_bool b b ≡ true
bool_self true = refl
bool_self false = refl

and_off : (a : Bool) → (a && false) ≡ false
and_off true = refl
and_off false = refl

set_here : (xs : List (Option ℕ)) (g : ℕ) (x : Option ℕ) → g < length xs → slice_get (set xs g x) g ≡ Some x
set_here [] g x less = absurd (omega arith)
set_here (y ∷ xs) zero x less = refl
set_here (y ∷ xs) (suc g) x less = set_here xs g x (omega arith)

set_there : (xs : List (Option ℕ)) (g k : ℕ) (x : Option ℕ) → g ≢ k → slice_get (set xs g x) k ≡ slice_get xs k
set_there [] g k x other = refl
set_there (y ∷ xs) zero zero x other = absurd (other refl)
set_there (y ∷ xs) zero (suc k) x other = refl
set_there (y ∷ xs) (suc g) zero x other = refl
set_there (y ∷ xs) (suc g) (suc k) x other = set_there xs g k x (λ e. other (ap suc e))

set_length : (xs : List (Option ℕ)) (g : ℕ) (x : Option ℕ) → length (set xs g x) ≡ length xs
set_length [] g x = refl
set_length (y ∷ xs) zero x = refl
set_length (y ∷ xs) (suc g) x = ap suc (set_length xs g x)

find_here : (g : ℕ) (b : Bool) (list : List PointSide) → find (side g b ∷ list) (side g b) ≡ Some (length list)
find_here g b list = ap (λ (c : Bool). cond c (Some (length list)) (find list (side g b))) (and_from (eqb g g) (same_bool b b) (eq-eqb g g refl) (bool_self b))

find_point : (g k : ℕ) (b : Bool) (list : List PointSide) → g ≢ k → find (side g b ∷ list) (side k b) ≡ find list (side k b)
find_point g k b list other = ap (λ (c : Bool). cond (c && same_bool b b) (Some (length list)) (find list (side k b))) (ne_eqb g k other)

find_other : (g k : ℕ) (b c : Bool) (list : List PointSide) → same_bool b c ≡ false → find (side g b ∷ list) (side k c) ≡ find list (side k c)
find_other g k b c list other = ap (λ (a : Bool). cond (eqb g k && a) (Some (length list)) (find list (side k c))) other ∙ ap (λ (a : Bool). cond a (Some (length list)) (find list (side k c))) (and_off (eqb g k))

put_number : (xs : List (Option ℕ)) (g : ℕ) (b : Bool) (list : List PointSide) → g < length xs → ((k : ℕ) → k < length xs → slice_get xs k ≡ Some (find list (side k b))) → (k : ℕ) → k < length (set xs g (Some (length list))) → slice_get (set xs g (Some (length list))) k ≡ Some (find (side g b ∷ list) (side k b))
put_number xs g b list here are k less =
    let count = set_length xs g (Some (length list)) in
    elim (cases_eq g k) [
      | inl same ↦ subst (λ (j : ℕ). slice_get (set xs g (Some (length list))) j ≡ Some (find (side g b ∷ list) (side j b))) same (set_here xs g (Some (length list)) here ∙ ap (λ (o : Option ℕ). Some o) (sym (find_here g b list)))
      | inr other ↦ set_there xs g k (Some (length list)) other ∙ are k (omega arith) ∙ ap (λ (o : Option ℕ). Some o) (sym (find_point g k b list other))
    ]

pub add_before : (befores afters : List (Option ℕ)) (list : List PointSide) (g : ℕ) → g < length befores → AreNumbered befores afters list → AreNumbered (set befores g (Some (length list))) afters (side g false ∷ list)
add_before befores afters list g here its =
    let same = set_length befores g (Some (length list)) in
    record {
      count = its.count ∙ sym same;
      before = put_number befores g false list here its.before;
      after = λ k less. its.after k (omega arith) ∙ ap (λ (o : Option ℕ). Some o) (sym (find_other g k false true list refl));
      inside = subst (λ (n : ℕ). AreInside n (side g false ∷ list)) (sym same) (here, its.inside);
    }

pub add_after : (befores afters : List (Option ℕ)) (list : List PointSide) (g : ℕ) → g < length befores → AreNumbered befores afters list → AreNumbered befores (set afters g (Some (length list))) (side g true ∷ list)
add_after befores afters list g here its =
    let same = set_length afters g (Some (length list)) in
    let count = its.count in
    record {
      count = same ∙ its.count;
      before = λ k less. its.before k less ∙ ap (λ (o : Option ℕ). Some o) (sym (find_other g k true false list refl));
      after = λ k less. put_number afters g true list (omega arith) (λ j low. its.after j (omega arith)) k (omega arith);
      inside = (here, its.inside);
    }

-- what stands of the tables
pub none_numbered : (n : ℕ) (bs as_ : List (Option ℕ)) (items : List PointSide) → bs ≡ by_point (λ (g : ℕ). None) n → as_ ≡ by_point (λ (g : ℕ). None) n → items ≡ [] → AreNumbered bs as_ (reverse items)
none_numbered n bs as_ items e k none = subst (λ (list : List PointSide). AreNumbered bs as_ (reverse list)) (sym none) (record {
  count = ap (λ (xs : List (Option ℕ)). length xs) k ∙ sym (ap (λ (xs : List (Option ℕ)). length xs) e);
  before = λ g less. ap (λ (xs : List (Option ℕ)). slice_get xs g) e ∙ by_point_get (λ (j : ℕ). None) n g (let count = by_point_length {A = Option ℕ} (λ (j : ℕ). None) n in let long : length bs ≡ length (by_point {A = Option ℕ} (λ (j : ℕ). None) n) = ap (λ (xs : List (Option ℕ)). length xs) e in omega arith);
  after = λ g less. ap (λ (xs : List (Option ℕ)). slice_get xs g) k ∙ by_point_get (λ (j : ℕ). None) n g (let count = by_point_length {A = Option ℕ} (λ (j : ℕ). None) n in let long : length bs ≡ length (by_point {A = Option ℕ} (λ (j : ℕ). None) n) = ap (λ (xs : List (Option ℕ)). length xs) e in omega arith);
  inside = tt;
})

list_pushed : (items new : List PointSide) (s : PointSide) → new ≡ items ++ s ∷ [] → reverse new ≡ s ∷ reverse items
list_pushed items new s e = ap (λ (xs : List PointSide). reverse xs) e ∙ reverse-append items (s ∷ [])

number_last : (items : List PointSide) (n : ℕ) → n ≡ length items → n ≡ length (reverse items)
number_last items n e = e ∙ sym (length-reverse items)

abbrev numbered : ℕ → List PointSide → Numbered
numbered n list = record { points = n; list = list }

-- what is seen with one more moment
pub view_pushed : (n k : ℕ) (items new : List PointSide) (s : PointSide) (v : Numbered) → numbered k (reverse items) ≡ v → n ≡ k → new ≡ items ++ s ∷ [] → numbered n (reverse new) ≡ numbered v.points (s ∷ v.list)
view_pushed n k items new s v view same e =
    ap (λ (m : ℕ). numbered m (reverse new)) (same ∙ ap (λ (x : Numbered). x.points) view)
    ∙ ap (numbered v.points) (list_pushed items new s e ∙ ap (λ (x : Numbered). s ∷ x.list) view)

pub added_after : (bs as_ : List (Option ℕ)) (items new : List PointSide) (s : PointSide) (n : ℕ) → s.is_after ≡ true → s.point < length bs → n ≡ length items → new ≡ items ++ s ∷ [] → AreNumbered bs as_ (reverse items) → AreNumbered bs (set as_ s.point (Some n)) (reverse new)
added_after bs as_ items new s n is here number e its =
    subst (λ (list : List PointSide). AreNumbered bs (set as_ s.point (Some n)) list) (sym (list_pushed items new s e))
    (subst (λ (k : ℕ). AreNumbered bs (set as_ s.point (Some k)) (s ∷ reverse items)) (sym (number_last items n number))
    (subst (λ (b : Bool). AreNumbered bs (set as_ s.point (Some (length (reverse items)))) (side s.point b ∷ reverse items)) (sym is) (add_after bs as_ (reverse items) s.point here its)))

pub added_before : (bs as_ : List (Option ℕ)) (items new : List PointSide) (s : PointSide) (n : ℕ) → s.is_after ≡ false → s.point < length bs → n ≡ length items → new ≡ items ++ s ∷ [] → AreNumbered bs as_ (reverse items) → AreNumbered (set bs s.point (Some n)) as_ (reverse new)
added_before bs as_ items new s n is here number e its =
    subst (λ (list : List PointSide). AreNumbered (set bs s.point (Some n)) as_ list) (sym (list_pushed items new s e))
    (subst (λ (k : ℕ). AreNumbered (set bs s.point (Some k)) as_ (s ∷ reverse items)) (sym (number_last items n number))
    (subst (λ (b : Bool). AreNumbered (set bs s.point (Some (length (reverse items)))) as_ (side s.point b ∷ reverse items)) (sym is) (add_before bs as_ (reverse items) s.point here its)))

pub at_some : (items xs : List PointSide) (V : List PointSide) (n : ℕ) (s : PointSide) → xs ≡ items → reverse items ≡ V → true ≡ nat_lt n (length xs) → s ≡ get_or xs n s → Some s ≡ at_place V n
at_some items xs V n s same view less read = sym (slice_get_read xs (length xs) n s refl (ltb-true n (length xs) (sym less)) read) ∙ ap (λ (ys : List PointSide). slice_get ys n) same ∙ at_reverse items n ∙ ap (λ (ys : List PointSide). at_place ys n) view

pub at_none : (items xs : List PointSide) (V : List PointSide) (n : ℕ) → xs ≡ items → reverse items ≡ V → length xs ≤ n → None ≡ at_place V n
at_none items xs V n same view past = sym (slice_get_past xs n past) ∙ ap (λ (ys : List PointSide). slice_get ys n) same ∙ at_reverse items n ∙ ap (λ (ys : List PointSide). at_place ys n) view

module _ (C : Course) where
  -- moments are the same where they are on one side of one point
  point_same : (g k : ℕ) → same_row (row_on C g) (row_on C k) ≡ eqb g k
  point_same g k =
      elim (cases_eq g k) [
        | inl same ↦ row_self (row_on C g) (row_on C k) (ap (row_on C) same) ∙ sym (eq-eqb g k same)
        | inr other ↦ not_so (same_row (row_on C g) (row_on C k)) (λ e.
            let one : row_on C g ≡ row_on C k = row_true (row_on C g) (row_on C k) e in
            other (sym (number_point C g) ∙ ap (λ (r : Row). number_of C r.thread r.step) one ∙ number_point C k)) ∙ sym (ne_eqb g k other)
      ]
    where
      not_so : (b : Bool) → (b ≡ true → ⊥) → b ≡ false
      not_so true k = absurd (k refl)
      not_so false k = refl

  and_on : (a : Bool) → a ≡ (a && true)
  and_on true = refl
  and_on false = refl

  sides_by : (g k : ℕ) (b c : Bool) → same_moment (beside_by (row_on C g) b) (beside_by (row_on C k) c) ≡ (eqb g k && same_bool b c)
  sides_by g k false false = point_same g k ∙ and_on (eqb g k)
  sides_by g k false true = sym (and_off (eqb g k))
  sides_by g k true false = sym (and_off (eqb g k))
  sides_by g k true true = point_same g k ∙ and_on (eqb g k)

  pub sides_same : (s t : PointSide) → same_moment (moment_at_side C s) (moment_at_side C t) ≡ same_side s t
  sides_same s t = sides_by s.point t.point s.is_after t.is_after

  pub count_same : (list : List PointSide) → length (moments_at C list) ≡ length list
  count_same [] = refl
  count_same (x ∷ list) = ap suc (count_same list)

  holds_by : (a b : Bool) (n : ℕ) (o : Option ℕ) → b ≡ is_some o → (a || b) ≡ is_some (cond a (Some n) o)
  holds_by true b n o e = refl
  holds_by false b n o e = e

  pub holds_is : (list : List PointSide) (s : PointSide) → holds (moments_at C list) (moment_at_side C s) ≡ is_some (find list s)
  holds_is [] s = refl
  holds_is (x ∷ list) s = ap (λ (b : Bool). b || holds (moments_at C list) (moment_at_side C s)) (sides_same x s) ∙ holds_by (same_side x s) (holds (moments_at C list) (moment_at_side C s)) (length list) (find list s) (holds_is list s)

  rank_by : (a : Bool) (m n : ℕ) (o : Option ℕ) → m ≡ n → cond a m (unwrap_or o 0) ≡ unwrap_or (cond a (Some n) o) 0
  rank_by true m n o e = e
  rank_by false m n o e = refl

  pub rank_is : (list : List PointSide) (s : PointSide) → rank (moments_at C list) (moment_at_side C s) ≡ unwrap_or (find list s) 0
  rank_is [] s = refl
  rank_is (x ∷ list) s =
      ap (λ (b : Bool). cond b (length (moments_at C list)) (rank (moments_at C list) (moment_at_side C s))) (sides_same x s)
      ∙ ap (λ (k : ℕ). cond (same_side x s) (length (moments_at C list)) k) (rank_is list s)
      ∙ rank_by (same_side x s) (length (moments_at C list)) (length list) (find list s) (count_same list)

  -- the moment of a place
  abbrev pub told : Option PointSide → Moment
  told None = at_end
  told (Some s) = moment_at_side C s

  told_by : (a : Bool) (s : PointSide) (o : Option PointSide) → cond a (moment_at_side C s) (told o) ≡ told (cond a (Some s) o)
  told_by true s o = refl
  told_by false s o = refl

  pub ranked_is : (list : List PointSide) (n : ℕ) → ranked (moments_at C list) n ≡ told (at_place list n)
  ranked_is [] n = refl
  ranked_is (x ∷ list) n =
      ap (λ (k : ℕ). cond (eqb n k) (moment_at_side C x) (ranked (moments_at C list) n)) (count_same list)
      ∙ ap (λ (m : Moment). cond (eqb n (length list)) (moment_at_side C x) m) (ranked_is list n)
      ∙ told_by (eqb n (length list)) x (at_place list n)

  none_past : (list : List PointSide) (n : ℕ) → length list ≤ n → at_place list n ≡ None
  none_past [] n past = refl
  none_past (x ∷ list) n past = ap (λ (b : Bool). cond b (Some x) (at_place list n)) (ne_eqb n (length list) (λ e. omega arith)) ∙ none_past list n (omega arith)

  pub last_is : (list : List PointSide) (n : ℕ) → ranked (at_end ∷ moments_at C list) n ≡ told (at_place list n)
  last_is list n =
      elim (cases_eq n (length (moments_at C list))) [
        | inl same ↦
            let count = count_same list in
            ap (λ (b : Bool). cond b at_end (ranked (moments_at C list) n)) (eq-eqb n (length (moments_at C list)) same) ∙ ap told (sym (none_past list n (omega arith)))
        | inr other ↦ ap (λ (b : Bool). cond b at_end (ranked (moments_at C list) n)) (ne_eqb n (length (moments_at C list)) other) ∙ ranked_is list n
      ]

  -- which moments are kept
  next_apart : (r : Row) → same_moment (next_point C r) (after r) ≡ false
  next_apart r =
      elim (cases_lt (suc r.step) (length (rows_of C r.thread))) [
        | inl less ↦ rw (lt-ltb (suc r.step) (length (rows_of C r.thread)) less) refl
        | inr past ↦ rw (le-ltb (suc r.step) (length (rows_of C r.thread)) past) refl
      ]

  after_last : (r : Row) (b : Bool) → is_still C (stretch (after r) (next_point C r)) ≡ b → same_moment (last_of C (after r)) (after r) ≡ not b
  after_last r true e = ap (λ (c : Bool). same_moment (cond c (next_point C r) (after r)) (after r)) e ∙ next_apart r
  after_last r false e = ap (λ (c : Bool). same_moment (cond c (next_point C r) (after r)) (after r)) e ∙ row_self r r refl

  abbrev IsTable : List Bool → Type 0
  IsTable merged = merged ≡ by_point (merged_at C) (points_in C)

  merged_is : (merged : List Bool) (g : ℕ) → IsTable merged → g < points_in C → IsRow C (row_on C g) → unwrap_or (slice_get merged g) false ≡ is_still C (stretch (after (row_on C g)) (next_point C (row_on C g)))
  merged_is merged g are less is = ap (λ (xs : List Bool). unwrap_or (slice_get xs g) false) are ∙ ap (λ (o : Option Bool). unwrap_or o false) (by_point_get (merged_at C) (points_in C) g less) ∙ ap (λ (b : Bool). b && is_still C (stretch (after (row_on C g)) (next_point C (row_on C g)))) (row_there C (row_on C g) is)

  keeps_by : (merged : List Bool) (list : List PointSide) (g : ℕ) (b : Bool) → IsTable merged → g < points_in C → IsRow C (row_on C g) → keeps C (moments_at C list) (beside_by (row_on C g) b) ≡ (not (b && unwrap_or (slice_get merged g) false) && not (is_some (find list (side g b))))
  keeps_by merged list g false are less is = ap (λ (c : Bool). c && not (holds (moments_at C list) (before (row_on C g)))) (row_self (row_on C g) (row_on C g) refl) ∙ ap not (holds_is list (side g false))
  keeps_by merged list g true are less is =
      ap (λ (c : Bool). c && not (holds (moments_at C list) (after (row_on C g)))) (after_last (row_on C g) (unwrap_or (slice_get merged g) false) (sym (merged_is merged g are less is)))
      ∙ ap (λ (c : Bool). not (unwrap_or (slice_get merged g) false) && not c) (holds_is list (side g true))

  kept_by : (b : Bool) (n : Numbered) (s : PointSide) → moments_at C (cond b (record { points = n.points; list = s ∷ n.list }) n).list ≡ cond b (moment_at_side C s ∷ moments_at C n.list) (moments_at C n.list)
  kept_by true n s = refl
  kept_by false n s = refl

  pub kept_is : (merged : List Bool) (n : Numbered) (s : PointSide) (L : List Moment) → IsTable merged → s.point < points_in C → IsRow C (row_on C s.point) → moments_at C n.list ≡ lasts C L → moments_at C (kept_with n s merged).list ≡ lasts C (moment_at_side C s ∷ L)
  kept_is merged n s L are less is e =
      kept_by (not (is_merged merged s) && not (is_some (find n.list s))) n s
      ∙ ap (λ (b : Bool). cond b (moment_at_side C s ∷ moments_at C n.list) (moments_at C n.list)) (sym (keeps_by merged n.list s.point s.is_after are less is))
      ∙ ap (λ (xs : List Moment). cond (keeps C xs (moment_at_side C s)) (moment_at_side C s ∷ xs) xs) e

  kept_points_by : (b : Bool) (n : Numbered) (s : PointSide) → (cond b (record { points = n.points; list = s ∷ n.list }) n).points ≡ n.points
  kept_points_by true n s = refl
  kept_points_by false n s = refl

  kept_count_by : (b : Bool) (n : Numbered) (s : PointSide) → length (cond b (record { points = n.points; list = s ∷ n.list }) n).list ≤ suc (length n.list)
  kept_count_by true n s = omega arith
  kept_count_by false n s = omega arith

  pub kept_points : (merged : List Bool) (n : Numbered) (s : PointSide) → (kept_with n s merged).points ≡ n.points
  kept_points merged n s = kept_points_by (not (is_merged merged s) && not (is_some (find n.list s))) n s

  pub kept_count : (merged : List Bool) (n : Numbered) (s : PointSide) → length (kept_with n s merged).list ≤ suc (length n.list)
  kept_count merged n s = kept_count_by (not (is_merged merged s) && not (is_some (find n.list s))) n s

  -- from the front, one by one
  back_push : (xs : List Timed) (x : Timed) → back C (xs ++ x ∷ []) ≡ moment_at_side C x.side ∷ back C xs
  back_push [] x = refl
  back_push (y ∷ xs) x = ap (λ (ms : List Moment). ms ++ moment_at_side C y.side ∷ []) (back_push xs x)

  take_push : (xs : List Timed) (k : ℕ) (x : Timed) → slice_get xs k ≡ Some x → take (suc k) xs ≡ take k xs ++ x ∷ []
  take_push [] k x e = absurd (none_some e)
    where
      none_some : {y : Timed} → None ≡ Some y → ⊥
      none_some e = cc
  take_push (y ∷ xs) zero x e = ap (λ (z : Timed). z ∷ []) (some_same e)
    where
      some_same : {y z : Timed} → Some y ≡ Some z → y ≡ z
      some_same e = cc
  take_push (y ∷ xs) (suc k) x e = ap (λ (zs : List Timed). y ∷ zs) (take_push xs k x e)

  pub back_more : (xs : List Timed) (k : ℕ) (x : Timed) → slice_get xs k ≡ Some x → back C (take (suc k) xs) ≡ moment_at_side C x.side ∷ back C (take k xs)
  back_more xs k x e = ap (back C) (take_push xs k x e) ∙ back_push (take k xs) x

  held : (xs : List Timed) (k : ℕ) (x : Timed) → slice_get xs k ≡ Some x → Holds C xs (moment_at_side C x.side)
  held [] k x e = none_some e
    where
      none_some : {y : Timed} → None ≡ Some y → ⊥
      none_some e = cc
  held (y ∷ xs) zero x e = inl (ap (λ (z : Timed). moment_at_side C z.side) (some_same e))
    where
      some_same : {y z : Timed} → Some y ≡ Some z → y ≡ z
      some_same e = cc
  held (y ∷ xs) (suc k) x e = inr (held xs k x e)

  pub time_row : (k : ℕ) (x : Timed) → slice_get (in_time C) k ≡ Some x → IsRow C (row_on C x.side.point)
  time_row k x e = at_row C x.side.is_after (row_on C x.side.point) (time_moment C (moment_at_side C x.side) (held (in_time C) k x e))

  time_there : (xs : List Timed) (k : ℕ) (d : Timed) → xs ≡ in_time C → k < length xs → IsRow C (row_on C (get_or xs k d).side.point)
  time_there xs k d same less = time_row k (get_or xs k d) (sym (ap (λ (ys : List Timed). slice_get ys k) same) ∙ slice_get-get_or xs k d less)

  pub time_inside : (xs : List Timed) (k n : ℕ) (d : Timed) → xs ≡ in_time C → k < length xs → n ≡ points_in C → (get_or xs k d).side.point < n
  time_inside xs k n d same less e = let next = row_before C (get_or xs k d).side.point (time_there xs k d same less) in omega arith

  abbrev pub IsNumbering : List Timed → ℕ → Numbered → Type 0
  IsNumbering xs k n = record {
    kept : moments_at C n.list ≡ lasts C (back C (take k xs));
    points : n.points ≡ points_in C;
    few : length n.list ≤ k;
  }

  pub number_more : (xs : List Timed) (merged : List Bool) (k : ℕ) (d : Timed) (old new : Numbered) → xs ≡ in_time C → merged ≡ by_point (merged_at C) (points_in C) → k < length xs → IsNumbering xs k old → new ≡ kept_with old (get_or xs k d).side merged → IsNumbering xs (k + 1) new
  number_more xs merged k d old new same are less its e =
      let x : Timed = get_or xs k d in
      let one : k + 1 ≡ suc k = omega arith in
      let row = time_there xs k d same less in
      let inside = row_before C (get_or xs k d).side.point row in
      let there = slice_get-get_or xs k d less in
      let more = kept_count merged old (get_or xs k d).side in
      let before = its.few in
      let count : length new.list ≡ length (kept_with old (get_or xs k d).side merged).list = ap (λ (n : Numbered). length n.list) e in
      record {
        kept = ap (λ (n : Numbered). moments_at C n.list) e ∙ kept_is merged old (get_or xs k d).side (back C (take k xs)) are (omega arith) row its.kept ∙ ap (lasts C) (sym (back_more xs k (get_or xs k d) there)) ∙ ap (λ (j : ℕ). lasts C (back C (take j xs))) (sym one);
        points = ap (λ (n : Numbered). n.points) e ∙ kept_points merged old (get_or xs k d).side ∙ its.points;
        few = omega arith;
      }
