-- The moments of a run of one thread, in however many slices, are its points by other numbers.
use Rattle.std.proofs.Common.{◌≡◌, ◌≢◌, ℕ, suc, ◌+◌, ◌<◌, ◌≤◌, ◌&&◌, eqb, Bool, true, false, List, [], ◌∷◌, length, slice_get, None, Some, Option, inl, inr, refl, sym, ap, ◌∙◌, subst, arith, zero-add}
use Rattle.std.specs.Option.{is_some}
use Rattle.std.proofs.lemmas.Bool.{cases_Bool, cases_lt, false≢true, and_from, eq-eqb, eqb-true}
use Rattle.std.proofs.lemmas.Option.{slice_get_within}
use Rattle.rept_isa.specs.declared.row.StepRow.{StepRow}
use Rattle.rept_reason.specs.Facts.{Knowledge}
use Rattle.rept_reason.specs.View.Rules.{Rules}
use Rattle.rept_reason.specs.View.Seen.{Seen}
use Rattle.rept_steps.specs.declared.slice.Slice.{Slice}
use Rattle.rept_steps.specs.Course.{Course, Row, row_of, IsRow, IsSoundCourse}
use Rattle.rept_order.specs.Moments.{Moment, IsMoment, IsNext, Stretch, stretch, writes_memory, is_writing, stores}
use Rattle.rept_order.specs.Moments.Moment.{before, after, at_end}
use Rattle.rept_order.specs.Moments.Act.{row, untraced}
use Rattle.rept_order.specs.Interleaved.{leg_of}
use Rattle.rept_order.specs.Times.{may_act_between}
use Rattle.rept_order.proofs.Acting.{may_act_from}
use Rattle.rept_order.proofs.Legs.{number_point, point_number}
use Rattle.rept_moments.specs.Naming.Names.{MomentNames, AreNames}
use Rattle.rept_moments.specs.Naming.Numbered.{row_on, may_act_by, moments_of}
use Rattle.rept_moments.specs.Naming.Making.{names_by}
use Rattle.rept_moments.specs.Ordering.{in_order}
use Rattle.rept_moments.specs.Numbers.{apart, numbers_of, numbered, unless}
use Rattle.rept_moments.proofs.Apart.{are_numbers, no_pause}
use Rattle.rept_moments.proofs.NamingLemmas.Naming.{are_moments, last_end, quiet_carried, some_is}
use Rattle.rept_report.specs.Moments.{points_of}
use Rattle.rept_report.specs.Setting.{Setting}
use Rattle.rept_report.specs.Spots.{passage}
use Rattle.rept_report.specs.Views.{may_write, touched_by, registers_at, Carries}
use Rattle.rept_report.proofs.Line.{is_next, next_is}
use Rattle.rept_span.specs.Ranges.{legs_of}
use Rattle.rept_opening.proofs.LoneLemmas.{C, B, only_row}
use Rattle.rept_opening.proofs.LoneOrder.{at, at_inside, at_last, at_moment, at_rank, next_cases, one_moment, own_step, rank_of, row_next, step_acts, step_quiet}
use Rattle.rept_opening.proofs.Renumbered.{Renumbers, with_moments}

-- a row that writes no memory, whatever is known of it, touches no byte
abbrev pub TouchesByStores : Rules → Type 0
TouchesByStores rules = (row : StepRow) (s : Seen) (image_end a : ℕ) → writes_memory row.instr ≡ false → rules.touched row s image_end a ≡ false

same_row : {x y : StepRow} → Some x ≡ Some y → x ≡ y
same_row e = cc

-- no name is next to itself
not_itself : (N : MomentNames) (m w : ℕ) → m ≡ w → is_some ((apart N).link m w) ≡ true → ⊥
not_itself N m w same e = false≢true (sym (ap (λ (b : Bool). is_some (unless b (N.link m w))) (eq-eqb m w same)) ∙ e)

module _ (rows : List StepRow) (slices : List Slice) (sound : IsSoundCourse (C rows slices)) (one : IsSoundCourse (B rows slices)) where
  abbrev n : ℕ
  n = length rows

  abbrev X : Course
  X = C rows slices

  abbrev N : MomentNames
  N = numbers_of X

  names : AreNames X N
  names = are_numbers X sound

  abbrev here : ℕ → Moment
  here p = at rows slices sound one p

  -- the number of a point's moment
  abbrev pub to_number : ℕ → ℕ
  to_number p = N.name (here p)

  -- the point of a moment, and of a moment's number
  abbrev point_by : Moment → ℕ
  point_by (before r) = r.step
  point_by (after r) = suc r.step
  point_by at_end = n

  abbrev pub to_point : ℕ → ℕ
  to_point m = point_by (N.last m)

  step_inside : (r : Row) → IsRow X r → r.step < n
  step_inside r is = subst (λ (t : ℕ). r.step < length (Rattle.rept_steps.specs.Course.rows_of X t)) (only_row rows slices r is) is

  named : (r : Row) → IsRow X r → r ≡ row_of 0 r.step
  named r is = ap (λ (t : ℕ). row_of t r.step) (only_row rows slices r is)

  -- after a step it is the number of the next point
  next_number : (i : ℕ) → i < n → N.name (after (row_of 0 i)) ≡ to_number (suc i)
  next_number i few = names.one (stretch (after (row_of 0 i)) (here (suc i))) (one_moment rows slices sound one i few)

  number_inside : (i : ℕ) → i < n → to_number i ≡ N.name (before (row_of 0 i))
  number_inside i few = ap N.name (at_inside rows slices sound one i few)

  name_is : (m : Moment) → IsMoment X m → N.name m ≡ to_number (point_by m)
  name_is (before r) is = ap (λ (q : Row). N.name (before q)) (named r is) ∙ sym (number_inside r.step (step_inside r is))
  name_is (after r) is = ap (λ (q : Row). N.name (after q)) (named r is) ∙ next_number r.step (step_inside r is)
  name_is at_end is = sym (ap N.name (at_last rows slices sound one n (omega arith)))

  point_few : (m : Moment) → IsMoment X m → point_by m ≤ n
  point_few (before r) is = let few = step_inside r is in omega (arith, few)
  point_few (after r) is = step_inside r is
  point_few at_end is = omega arith

  last_inside : (i : ℕ) → i < n → N.last (N.name (before (row_of 0 i))) ≡ before (row_of 0 i)
  last_inside i few =
      elim (names.own (before (row_of 0 i)) few) [
        | inl own ↦ sym own
        | inr same ↦ absurd (no_pause X (row_of 0 i) (N.last (N.name (before (row_of 0 i)))) _ refl same.pause)
      ]

  pub last_number : (p : ℕ) → p ≤ n → N.last (to_number p) ≡ here p
  last_number p most =
      elim (cases_lt p n) [
        | inl few ↦ ap N.last (number_inside p few) ∙ last_inside p few ∙ sym (at_inside rows slices sound one p few)
        | inr past ↦ ap N.last (ap N.name (at_last rows slices sound one p past) ∙ names.end) ∙ last_end X sound N names ∙ sym (at_last rows slices sound one p past)
      ]

  pub point_back : (p : ℕ) → p ≤ n → to_point (to_number p) ≡ p
  point_back p most =
      elim (cases_lt p n) [
        | inl few ↦ ap point_by (last_number p most ∙ at_inside rows slices sound one p few)
        | inr past ↦ ap point_by (last_number p most ∙ at_last rows slices sound one p past) ∙ omega (arith, most, past)
      ]

  number_back : (m : ℕ) → m ≤ N.end → to_number (to_point m) ≡ m
  number_back m few = let its = names.named m few in sym (name_is (N.last m) its.0) ∙ its.1

  pub leg_row : (i : ℕ) → i ≤ n → row_on X i ≡ row_of 0 i
  leg_row i most = ap Rattle.rept_order.specs.Legs.row_from (ap (Rattle.rept_order.specs.Legs.point_at X) (sym (zero-add i)) ∙ point_number X 0 i (omega arith) most)

  row_number : (i : ℕ) → i < n → N.name (before (row_on X i)) ≡ to_number i
  row_number i few = ap (λ (r : Row). N.name (before r)) (leg_row i (omega (arith, few))) ∙ sym (number_inside i few)

  row_past : (i : ℕ) → i < n → N.name (after (row_on X i)) ≡ to_number (i + 1)
  row_past i few = ap (λ (r : Row). N.name (after r)) (leg_row i (omega (arith, few))) ∙ next_number i few ∙ (let more : suc i ≡ i + 1 = omega arith in ap to_number more)

  number_few : (p : ℕ) → to_number p ≤ N.end
  number_few p = names.few (here p) (at_moment rows slices sound one p)

  module _ {W : Type 0} (S : Setting W) (legs : S.legs ≡ legs_of rows) (touches : TouchesByStores S.rules) where
    row_is : (i : ℕ) (its_row : StepRow) → S.legs.row i ≡ Some its_row → slice_get rows i ≡ Some its_row
    row_is i its_row is = subst (λ (l : Rattle.rept_span.specs.Ranges.Legs). l.row i ≡ Some its_row) legs is

    inside : (i : ℕ) (its_row : StepRow) → S.legs.row i ≡ Some its_row → i < n
    inside i its_row is = slice_get_within rows i its_row (row_is i its_row is)

    -- a step that doesn't store touches nothing
    spared_still : (K : Knowledge) (i a : ℕ) (o : Option StepRow) → S.legs.row i ≡ o → is_writing o ≡ false → touched_by S o (registers_at S K i) a ≡ false
    spared_still K i a None is still = refl
    spared_still K i a (Some its_row) is still = touches its_row (registers_at S K i) S.image_end a still

    no_stores : (K : Knowledge) (i a : ℕ) → stores X (row_of 0 i) ≡ false → may_write S K i a ≡ false
    no_stores K i a still = spared_still K i a (S.legs.row i) refl (subst (λ (l : Rattle.rept_span.specs.Ranges.Legs). is_writing (l.row i) ≡ false) (sym legs) still)

    link_next : (K : Knowledge) (a m w : ℕ) (h : Carries (with_moments S (numbered X)) K (passage a m w)) → (i : ℕ) × (i < n) × (m ≡ to_number i) × (w ≡ to_number (suc i)) × (may_write S K i a ≡ false)
    link_next K a m w h =
        let found = some_is (N.link m w) h.next in
        let link = names.links m w found.0 found.1 in
        elim (next_cases rows slices sound one found.0.from found.0.to link.from link.to link.next) [
          | inr (i, few, from, to) ↦
              let same : m ≡ w = sym link.from_name ∙ ap N.name from ∙ next_number i few ∙ sym (ap N.name to) ∙ link.to_name in
              absurd (not_itself (names_by X (in_order X)) m w same h.next)
          | inl (i, few, from, to) ↦
              let stretch_is : found.0 ≡ stretch (before (row_of 0 i)) (after (row_of 0 i)) = ap (λ (y : Moment). stretch y found.0.to) from ∙ ap (λ (y : Moment). stretch (before (row_of 0 i)) y) to in
              (i, few, sym link.from_name ∙ ap N.name from ∙ sym (number_inside i few), sym link.to_name ∙ ap N.name to ∙ next_number i few, spared i few found.0 found.1 stretch_is)
        ]
      where
        spared : (i : ℕ) → i < n → (x : Stretch) → N.link m w ≡ Some x → x ≡ stretch (before (row_of 0 i)) (after (row_of 0 i)) → may_write S K i a ≡ false
        spared i few x found same =
            elim (cases_Bool (stores X (row_of 0 i))) [
              | inr still ↦ no_stores K i a still
              | inl writes ↦
                  let acts = may_act_from X sound (row (row_of 0 i)) (before (row_of 0 i)) (after (row_of 0 i)) few few few (step_acts rows slices sound one i few) in
                  h.spared i (ap (λ (r : Row). may_act_by X r (N.link m w)) (leg_row i (omega (arith, few))) ∙ ap (may_act_by X (row_of 0 i)) (found ∙ ap Some same) ∙ and_from (stores X (row_of 0 i)) (may_act_between X (row (row_of 0 i)) (before (row_of 0 i)) (after (row_of 0 i))) writes acts)
            ]

    point_carries : (K : Knowledge) (a i : ℕ) → i < n → may_write S K i a ≡ false → Carries (with_moments S (points_of n)) K (passage a i (i + 1))
    point_carries K a i few out = record { next = is_next n i few; light = refl; spared = λ j may_act. ap (λ (k : ℕ). may_write S K k a) (eqb-true j i may_act) ∙ out }

    -- by the numbers of moments as by points
    pub to_points : Renumbers S (numbered X) (points_of n) to_point to_number
    to_points = record {
      before = λ i its_row is. (let few = inside i its_row is in (subst (λ (k : ℕ). k ≤ N.end) (sym (row_number i few)) (number_few i), ap to_point (row_number i few) ∙ point_back i (omega (arith, few))));
      after = λ i its_row is. (let few = inside i its_row is in (subst (λ (k : ℕ). k ≤ N.end) (sym (row_past i few)) (number_few (i + 1)), ap to_point (row_past i few) ∙ point_back (i + 1) (omega (arith, few))));
      end = ap point_by (last_end X sound N names);
      inside = λ m few. point_few (N.last m) (names.named m few).0;
      returns = number_back;
      next = λ m w e. (are_moments X sound N names).inside m w e;
      carries = λ K a m w h.
          let its = link_next K a m w h in
          let more : suc its.0 ≡ its.0 + 1 = omega arith in
          let from : to_point m ≡ its.0 = ap to_point its.2 ∙ point_back its.0 (omega (arith, its.1)) in
          let to : to_point w ≡ its.0 + 1 = ap to_point its.3 ∙ point_back (suc its.0) its.1 ∙ more in
          subst (λ (p : ℕ). Carries (with_moments S (points_of n)) K (passage a p (to_point w))) (sym from) (subst (λ (q : ℕ). Carries (with_moments S (points_of n)) K (passage a its.0 q)) (sym to) (point_carries K a its.0 its.1 its.4));
    }

    number_carries : (K : Knowledge) (a i : ℕ) → i < n → may_write S K i a ≡ false → Carries (with_moments S (numbered X)) K (passage a (to_number i) (to_number (i + 1)))
    number_carries K a i few out =
        let may : Row → ℕ → Bool = λ r b. may_write S K (leg_of X r) b in
        let here_out : may_write S K (leg_of X (row_of 0 i)) a ≡ false = ap (λ (k : ℕ). may_write S K k a) (zero-add i) ∙ out in
        let apart : N.name (before (row_of 0 i)) ≢ N.name (after (row_of 0 i)) = (λ same.
        let points : i ≡ suc i = sym (point_back i (omega (arith, few))) ∙ ap to_point (number_inside i few ∙ same ∙ next_number i few) ∙ point_back (suc i) few in
        omega (arith, points)) in
        let by = quiet_carried X sound N names (λ r b. may_write S K (leg_of X r) b) a (before (row_of 0 i)) (after (row_of 0 i)) few few (row_next rows slices sound one i few) apart (step_quiet rows slices sound one (λ r b. may_write S K (leg_of X r) b) a i few here_out) in
        let carries : Carries (with_moments S (numbered X)) K (passage a (N.name (before (row_of 0 i))) (N.name (after (row_of 0 i)))) = record {
          next = by.next;
          light = by.light;
          spared = λ j may_act. subst (λ (k : ℕ). may_write S K k a ≡ false) (number_point X j) (by.spared j may_act);
        } in
        let more : suc i ≡ i + 1 = omega arith in
        subst (λ (p : ℕ). Carries (with_moments S (numbered X)) K (passage a p (to_number (i + 1)))) (sym (number_inside i few))
        (subst (λ (q : ℕ). Carries (with_moments S (numbered X)) K (passage a (N.name (before (row_of 0 i))) q)) (next_number i few ∙ ap to_number more) carries)

    -- and the other way
    pub to_numbers : Renumbers S (points_of n) (numbered X) to_number to_point
    to_numbers = record {
      before = λ i its_row is. (let few = inside i its_row is in (omega (arith, few), sym (row_number i few)));
      after = λ i its_row is. (let few = inside i its_row is in (omega (arith, few), sym (row_past i few)));
      end = ap N.name (at_last rows slices sound one n (omega arith)) ∙ names.end;
      inside = λ p few. number_few p;
      returns = point_back;
      next = λ m w e. (let its = next_is n m w e in let less = its.0 in let same = its.1 in (omega (arith, less), omega (arith, less, same)));
      carries = λ K a m w h.
          let its = next_is n m w h.next in
          let out : may_write S K m a ≡ false = h.spared m (eq-eqb m m refl) in
          subst (λ (q : ℕ). Carries (with_moments S (numbered X)) K (passage a (to_number m) (to_number q))) (sym its.1) (number_carries K a m its.0 out);
    }
