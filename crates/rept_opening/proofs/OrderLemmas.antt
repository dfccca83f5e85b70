-- What is carried, and which writers are told, go by the order of a run's steps.
use Rattle.std.proofs.Common.{◌≡◌, ℕ, ◌<◌, ◌&&◌, Bool, true, false, List, [], ◌∷◌, length, Option, None, Some, cond, inl, inr, sym, ap, ◌∙◌, subst, arith}
use Rattle.std.specs.Prelude.{nat_lt}
use Rattle.std.specs.Option.{is_some}
use Rattle.std.proofs.lemmas.Bool.{false≢true, cases_Bool, cases_eq, and_from, and_parts}
use Rattle.rept_steps.specs.Course.{Course, Row, IsRow, IsSoundCourse}
use Rattle.rept_order.specs.Events.{Event, first_event, last_event, Precedes, PrecedesOrIs}
use Rattle.rept_order.specs.Moments.{Moment, IsMoment, NotLater, Act, IsAct, Stretch, stretch, MayAct, may_by, stores, IsUntouchedStep, Forth}
use Rattle.rept_order.specs.Moments.Moment.{before, after, at_end}
use Rattle.rept_order.specs.Moments.Act.{row, untraced}
use Rattle.rept_order.specs.Times.{may_act_between}
use Rattle.rept_order.specs.Legs.{row_from}
use Rattle.rept_order.specs.Interleaved.{leg_of}
use Rattle.rept_order.specs.History.{Ending}
use Rattle.rept_order.proofs.Acting.{may_act_from}
use Rattle.rept_order.proofs.Sequence.{chain_last}
use Rattle.rept_order.proofs.Nexts.{step_by_step}
use Rattle.rept_order.proofs.Legs.{number_point, point_number, thread_inside}
use Rattle.rept_partial.specs.Sets.{Sets}
use Rattle.rept_reason.specs.Facts.{Knowledge}
use Rattle.rept_span.specs.Moves.{Moves}
use Rattle.rept_reason.specs.View.Rules.{Rules}
use Rattle.rept_report.specs.Setting.{Setting}
use Rattle.rept_report.specs.Spots.{passage}
use Rattle.rept_report.specs.Views.{may_write, Carries}
use Rattle.rept_moments.specs.Naming.Carried.{CarriedAlong, may_in}
use Rattle.rept_moments.specs.Naming.Names.{MomentNames, IsLink, AreNames}
use Rattle.rept_moments.specs.Naming.Numbered.{row_on, may_act_by, untraced_by, setting_of}
use Rattle.rept_moments.proofs.NamingLemmas.Naming.{some_is, quiet_carried}
use Rattle.rept_moments.proofs.NamingLemmas.Ordered.{row_past_is, row_ahead_is, row_later_is, untraced_past_is, untraced_before_is}
use Rattle.rept_moments.proofs.Apart.{are_numbers}
use Rattle.rept_moments.specs.Numbers.{numbers_of}
use Rattle.rept_moments.specs.Seen.{alone_by}
use Rattle.rept_isa.specs.declared.row.StepRow.{StepRow}
use Rattle.rept_report.specs.Given.{setting_by}
use Rattle.rept_found.specs.Trip.Trip.{Trip, given_by, setting_on}
use Rattle.rept_opening.specs.Order.{GoesByOrder, may_store}

pub and_second : (s v : Bool) → s ≡ true → (s && v) ≡ false → v ≡ false
and_second true v e h = h
and_second false v e h = absurd (false≢true e)

pub acts_store : (C : Course) (r : Row) (o : Option Stretch) → may_act_by C r o ≡ true → stores C r ≡ true
acts_store C r None e = absurd (false≢true e)
acts_store C r (Some x) e = (and_parts (stores C r) (may_act_between C (row r) x.from x.to) e).0

-- what is later is a moment of the run
module _ (C : Course) where
  after_row : (e f : Event) → Precedes C e f → IsRow C f.row
  after_row e f (xs, h) = (chain_last C e f xs h).row

  or_row : (e f : Event) → IsRow C e.row → PrecedesOrIs C e f → IsRow C f.row
  or_row e f is (inl same) = subst (λ (x : Event). IsRow C x.row) same is
  or_row e f is (inr k) = after_row e f k

  later_moment : (m w : Moment) → IsMoment C m → NotLater C m w → IsMoment C w
  later_moment (before q) (before r) is k = or_row (first_event C q) (first_event C r) is k
  later_moment (before q) (after r) is k = or_row (first_event C q) (last_event C r) is k
  later_moment (after q) (before r) is k = after_row (last_event C q) (first_event C r) k
  later_moment (after q) (after r) is k = or_row (last_event C q) (last_event C r) is k
  later_moment at_end (before r) is k = absurd k
  later_moment at_end (after r) is k = absurd k
  later_moment m at_end is k = tt

module _ {W : Type 0} (sets : Sets W) (moves : Moves W) (rules : Rules) (C : Course) (D : Ending) (N : MomentNames) (sound : IsSoundCourse C) (names : AreNames C N) (K : Knowledge) where
  abbrev S : Setting W
  S = setting_of sets moves rules C D N

  along : (a : ℕ) (xs : List Moment) (m w : Moment) → IsMoment C m → Forth C (may_store S K C) a m xs w → (ns : List ℕ) × CarriedAlong S K a (N.name m) ns (N.name w)
  along a [] m w is h = ([], ap N.name h)
  along a (x ∷ xs) m w is h =
      let at = later_moment C m x is h.1.later.0 in
      let rest = along a xs x w at h.2 in
      elim (cases_eq (N.name m) (N.name x)) [
        | inl same ↦ (rest.0, subst (λ (n : ℕ). CarriedAlong S K a n rest.0 (N.name w)) (sym same) rest.1)
        | inr other ↦
            let by = quiet_carried C sound N names (may_store S K C) a m x is at h.1 other h.0.quiet in
            let carries : Carries S K (passage a (N.name m) (N.name x)) = record {
              next = by.next;
              light = by.light;
              spared = λ i may_act. subst (λ (k : ℕ). may_write S K k a ≡ false) (number_point C i)
                  (and_second (stores C (row_on C i)) (may_in S K C (row_on C i) a) (acts_store C (row_on C i) (N.link (N.name m) (N.name x)) may_act) (by.spared i may_act));
            } in
            (N.name x ∷ rest.0, (carries, rest.1))
      ]

  carried_so : (a : ℕ) (m w : Moment) → IsMoment C m → IsMoment C w → IsUntouchedStep C (may_store S K C) (stretch m w) a → (ns : List ℕ) × CarriedAlong S K a (N.name m) ns (N.name w)
  carried_so a m w is its quiet =
      let steps = step_by_step C sound (may_store S K C) a m w is its quiet in
      along a steps.0 m w is steps.1

  pub quiet_so : (a m w : ℕ) → Carries S K (passage a m w) → (x : Stretch) × IsLink C N m w x × IsUntouchedStep C (may_store S K C) x a
  quiet_so a m w h =
      let found = some_is (N.link m w) h.next in
      let link = names.links m w found.0 found.1 in
      (found.0, link, record { later = link.next.later; quiet = record { in_order = link.next.later.0; spared = λ act is may_act. spared found.0 found.1 link act is may_act } })
    where
      spared : (x : Stretch) → N.link m w ≡ Some x → IsLink C N m w x → (act : Act) → IsAct C act → MayAct C act x → may_by (may_store S K C) act a ≡ false
      spared x found link untraced is may_act =
          let between = may_act_from C sound untraced x.from x.to is link.from link.to may_act in
          absurd (false≢true (sym h.light ∙ ap (untraced_by C) found ∙ and_from (is_some C.untraced) (may_act_between C untraced x.from x.to) (ap is_some is.1) between))
      spared x found link (row r) is may_act =
          elim (cases_Bool (stores C r)) [
            | inr still ↦ ap (λ (b : Bool). b && may_in S K C r a) still
            | inl writes ↦
                let between = may_act_from C sound (row r) x.from x.to is link.from link.to may_act in
                let same : row_on C (leg_of C r) ≡ r = ap row_from (point_number C r.thread r.step (thread_inside C r is) (omega arith)) in
                ap (λ (b : Bool). b && may_in S K C r a) writes
                ∙ h.spared (leg_of C r) (ap (λ (q : Row). may_act_by C q (N.link m w)) same ∙ ap (may_act_by C r) found ∙ and_from (stores C r) (may_act_between C (row r) x.from x.to) writes between)
          ]

  pub goes_by_order : GoesByOrder C N S K
  goes_by_order = record {
    carried = carried_so;
    quiet = quiet_so;
    past = λ i m is writes. row_past_is C sound N names i m is writes;
    ahead = λ i m is writes. row_ahead_is C sound N names i m is writes;
    later = λ i j is its. row_later_is C sound N names i j is its;
    untraced_past = λ d m is told. untraced_past_is C sound N names d m is told;
    untraced_before = λ d i is told. untraced_before_is C sound N names d i is told;
  }

-- the last values of a thread that there is; else of the first one
abbrev pub ending_seen : Course → Ending → Ending
ending_seen C D = record { registers = λ t. D.registers (cond (nat_lt t (length C.threads)) t 0); dump = D.dump; image_end = D.image_end }

-- the setting of a run that isn't one path
pub many_setting : {W : Type 0} (t : Trip W) → alone_by t.course.threads t.course.untraced ≡ None → setting_on t ≡ setting_of t.sets t.moves t.rules t.course (ending_seen t.course t.ending) (numbers_of t.course)
many_setting t e = ap (λ (o : Option (List StepRow)). setting_by t.sets t.moves t.rules (given_by t.course t.ending o)) e

pub by_order : {W : Type 0} (t : Trip W) (K : Knowledge) → IsSoundCourse t.course → alone_by t.course.threads t.course.untraced ≡ None → GoesByOrder t.course (numbers_of t.course) (setting_on t) K
by_order {W} t K sound e =
    subst (λ (S : Setting W). GoesByOrder t.course (numbers_of t.course) S K) (sym (many_setting t e))
    (goes_by_order t.sets t.moves t.rules t.course (ending_seen t.course t.ending) (numbers_of t.course) sound (are_numbers t.course sound) K)
