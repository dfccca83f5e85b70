-- What the tables of several threads tell.
use Rattle.std.proofs.Common.{◌≡◌, ℕ, suc, ◌+◌, ◌<◌, ◌&&◌, ◌||◌, not, nat_lt, cond, Bool, true, false, List, ◌∷◌, length, Option, Some, None, slice_get, unwrap_or, get_or, refl, sym, ap, ◌∙◌, subst, arith}
use Rattle.std.specs.Option.{is_some, IsSome}
use Rattle.std.proofs.lemmas.Bool.{ltb-true, ltb-false, or_right}
use Rattle.std.proofs.lemmas.Option.{slice_get_past, slice_get-get_or}
use Rattle.rept_isa.specs.declared.row.StepRow.{StepRow}
use Rattle.rept_steps.specs.Course.{Course, Row, row_of, rows_of, IsRow, row_at}
use Rattle.rept_order.specs.Moments.{Moment, stretch, stores}
use Rattle.rept_order.specs.Moments.Moment.{before, after, at_end}
use Rattle.rept_order.specs.Times.{untraced_before, not_later}
use Rattle.rept_order.specs.Legs.{leg_row}
use Rattle.rept_moments.specs.Naming.Making.{is_still, next_point, lasts, rank, ranked}
use Rattle.rept_moments.specs.Naming.Numbered.{row_on}
use Rattle.rept_moments.proofs.NamingLemmas.Naming.{some_is}
use Rattle.rept_moments.specs.declared.side.PointSide.{PointSide}
use Rattle.rept_moments.specs.Points.{points_in, by_point}
use Rattle.rept_moments.specs.Ordering.{moment_at_side, in_order}
use Rattle.rept_moments.specs.Numbers.{numbers_of, numbered}
use Rattle.rept_report.specs.Timeline.{moment_by}
use Rattle.rept_moments.specs.Seen.{seen_many, moment_in}
use Rattle.rept_moments.specs.Merging.{merged_at}
use Rattle.rept_moments.specs.Numbering.{find, at_place, Numbered}
use Rattle.rept_moments.specs.Tables.{moments_at}
use Rattle.rept_moments.proofs.Places.{row_there, there_row, next_row, by_point_length, by_point_get}
use Rattle.rept_moments.proofs.Numbering.{count_same, rank_is, told, last_is}

pub number_is : (C V : Course) (n : Numbered) (s : PointSide) (o : Option ℕ) → C ≡ V → moments_at C n.list ≡ lasts C (in_order C) → o ≡ find n.list s → unwrap_or o 0 ≡ rank (lasts V (in_order V)) (moment_at_side V s)
number_is C V n s o view kept e = ap (λ (x : Option ℕ). unwrap_or x 0) e ∙ sym (rank_is C n.list s) ∙ ap (λ (ms : List Moment). rank ms (moment_at_side C s)) kept ∙ ap (λ (D : Course). rank (lasts D (in_order D)) (moment_at_side D s)) view

pub end_is : (C V : Course) (n : Numbered) (k : ℕ) → C ≡ V → moments_at C n.list ≡ lasts C (in_order C) → k ≡ length n.list → k ≡ length (lasts V (in_order V))
end_is C V n k view kept e = e ∙ sym (count_same C n.list) ∙ ap (λ (ms : List Moment). length ms) kept ∙ ap (λ (D : Course). length (lasts D (in_order D))) view

pub told_is : (C V : Course) (n : Numbered) (k : ℕ) (o : Option PointSide) (m : Moment) → C ≡ V → moments_at C n.list ≡ lasts C (in_order C) → o ≡ at_place n.list k → m ≡ told C o → m ≡ (numbers_of V).last k
told_is C V n k o m view kept e its = its ∙ ap (told C) e ∙ sym (last_is C n.list k) ∙ ap (λ (ms : List Moment). ranked (at_end ∷ ms) k) kept ∙ ap (λ (D : Course). (numbers_of D).last k) view

pub past_told : (C V : Course) (n : Numbered) (k i : ℕ) (o : Option PointSide) (b r : Bool) → C ≡ V → moments_at C n.list ≡ lasts C (in_order C) → o ≡ at_place n.list k → b ≡ stores C (row_on C i) → b ≡ true → r ≡ not_later C (after (row_on C i)) (told C o) → r ≡ (numbered V).past i k
past_told C V n k i o b r view kept place writes holds e =
    let last = told_is C C n k o (told C o) refl kept place refl in
    e
    ∙ ap (not_later C (after (row_on C i))) last
    ∙ sym (ap (λ (c : Bool). not c || not_later C (after (row_on C i)) ((numbers_of C).last k)) (sym writes ∙ holds))
    ∙ ap (λ (D : Course). (numbered D).past i k) view

pub ahead_told : (C V : Course) (n : Numbered) (k i : ℕ) (o : Option PointSide) (r : Bool) → C ≡ V → moments_at C n.list ≡ lasts C (in_order C) → o ≡ at_place n.list k → r ≡ not_later C (told C o) (before (row_on C i)) → r ≡ (numbered V).ahead i k
ahead_told C V n k i o r view kept place e =
    let last = told_is C C n k o (told C o) refl kept place refl in
    e ∙ ap (λ (m : Moment). not_later C m (before (row_on C i))) last ∙ ap (λ (D : Course). (numbered D).ahead i k) view

pub untraced_told : (C V : Course) (n : Numbered) (k : ℕ) (o : Option PointSide) (r : Bool) → C ≡ V → moments_at C n.list ≡ lasts C (in_order C) → o ≡ at_place n.list k → r ≡ (not (is_some C.untraced) || untraced_before C (told C o)) → r ≡ (numbered V).untraced_past k
untraced_told C V n k o r view kept place e =
    let last = told_is C C n k o (told C o) refl kept place refl in
    e ∙ ap (λ (m : Moment). not (is_some C.untraced) || untraced_before C m) last ∙ ap (λ (D : Course). (numbered D).untraced_past k) view

pub untraced_told_end : (C V : Course) (n : Numbered) (k : ℕ) → C ≡ V → moments_at C n.list ≡ lasts C (in_order C) → None ≡ at_place n.list k → true ≡ (numbered V).untraced_past k
untraced_told_end C V n k view kept place = untraced_told C V n k None true view kept place (sym (or_right (not (is_some C.untraced)) true refl))

pub merged_here : (C V : Course) (merged xs : List Bool) (g : ℕ) (b d : Bool) → C ≡ V → merged ≡ by_point (merged_at C) (points_in C) → xs ≡ merged → g < points_in V → b ≡ get_or xs g d → b ≡ merged_at V g
merged_here C V merged xs g b d view are same less read =
    let whole : points_in C ≡ points_in V = ap (λ (D : Course). points_in D) view in
    let below : g < points_in C = omega arith in
    let count = by_point_length (merged_at C) (points_in C) in
    let long : length xs ≡ length (by_point (merged_at C) (points_in C)) = ap (λ (ys : List Bool). length ys) (same ∙ are) in
    let there : slice_get xs g ≡ Some (get_or xs g d) = slice_get-get_or xs g d (omega arith) in
    some_same (ap (λ (c : Bool). Some c) read ∙ sym there ∙ ap (λ (ys : List Bool). slice_get ys g) (same ∙ are) ∙ by_point_get (merged_at C) (points_in C) g below) ∙ ap (λ (D : Course). merged_at D g) view
  where
    some_same : {x y : Bool} → Some x ≡ Some y → x ≡ y
    some_same e = cc

module _ (C : Course) (g : ℕ) (is : IsSome (leg_row C g)) where
  abbrev r : Row
  r = row_on C g

  still_of : (b : Bool) → merged_at C g ≡ b → is_still C (stretch (after r) (next_point C r)) ≡ b
  still_of b e = sym (ap (λ (c : Bool). c && is_still C (stretch (after r) (next_point C r))) is) ∙ e

  pub after_own : (k : ℕ) → merged_at C g ≡ false → k ≡ rank (lasts C (in_order C)) (after r) → k ≡ (numbers_of C).name (after r)
  after_own k e its = its ∙ sym (ap (λ (m : Moment). rank (at_end ∷ lasts C (in_order C)) m) (ap (λ (b : Bool). cond b (next_point C r) (after r)) (still_of false e)))

  next_by : (b : Bool) → nat_lt (suc r.step) (length (rows_of C r.thread)) ≡ b → moment_by (numbered C) (leg_row C (suc g)) (suc g) ≡ rank (at_end ∷ lasts C (in_order C)) (cond b (before (row_of r.thread (suc r.step))) at_end)
  next_by true e =
      let next = next_row C g (there_row C r is) in
      let inside : IsRow C (row_of r.thread (suc r.step)) = ltb-true (suc r.step) (length (rows_of C r.thread)) e in
      let there : is_some (leg_row C (suc g)) ≡ true = row_there C (row_on C (suc g)) (subst (λ (q : Row). IsRow C q) (sym next) inside) in
      let found = some_is (leg_row C (suc g)) there in
      ap (λ (o : Option StepRow). moment_by (numbered C) o (suc g)) found.1 ∙ ap (λ (q : Row). rank (lasts C (in_order C)) (before q)) next
  next_by false e =
      let next = next_row C g (there_row C r is) in
      let none : leg_row C (suc g) ≡ None = ap (row_at C) next ∙ slice_get_past (rows_of C r.thread) (suc r.step) (ltb-false (suc r.step) (length (rows_of C r.thread)) e) in
      ap (λ (o : Option StepRow). moment_by (numbered C) o (suc g)) none

  pub after_merged : (k : ℕ) → merged_at C g ≡ true → k ≡ moment_in (seen_many C) (g + 1) → k ≡ (numbers_of C).name (after r)
  after_merged k e its =
      let one : g + 1 ≡ suc g = omega arith in
      its ∙ ap (λ (j : ℕ). moment_in (seen_many C) j) one ∙ next_by (nat_lt (suc r.step) (length (rows_of C r.thread))) refl ∙ sym (ap (λ (m : Moment). rank (at_end ∷ lasts C (in_order C)) m) (ap (λ (b : Bool). cond b (next_point C r) (after r)) (still_of true e)))
