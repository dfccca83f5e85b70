-- A byte that is quiet between two moments is carried between their names.
use Rattle.std.proofs.Common.{◌≡◌, ℕ, true, false, List, [], ◌∷◌, Some, inl, inr, sym, ap, ◌∙◌, subst, arith}
use Rattle.std.specs.Option.{is_some}
use Rattle.std.proofs.lemmas.Bool.{false≢true, cases_Bool, cases_eq, and_from}
use Rattle.rept_steps.specs.Course.{Course, Row, IsRow, IsSoundCourse}
use Rattle.rept_order.specs.Events.{Event, first_event, last_event, Precedes, PrecedesOrIs}
use Rattle.rept_order.specs.Moments.{Moment, IsMoment, NotLater, Act, IsAct, Stretch, stretch, MayAct, may_by, stores, IsUntouchedStep, Forth}
use Rattle.rept_order.specs.Moments.Moment.{before, after, at_end}
use Rattle.rept_order.specs.Moments.Act.{row, untraced}
use Rattle.rept_order.specs.Times.{may_act_between}
use Rattle.rept_order.specs.Legs.{row_from}
use Rattle.rept_order.specs.Interleaved.{leg_of}
use Rattle.rept_order.proofs.Acting.{may_act_from}
use Rattle.rept_order.specs.History.{Ending}
use Rattle.rept_order.proofs.Sequence.{chain_last}
use Rattle.rept_order.proofs.Nexts.{step_by_step}
use Rattle.rept_order.proofs.Legs.{number_point, point_number, thread_inside}
use Rattle.rept_partial.specs.Sets.{Sets}
use Rattle.rept_reason.specs.Facts.{Knowledge}
use Rattle.rept_span.specs.Moves.{Moves}
use Rattle.rept_reason.specs.View.Rules.{Rules}
use Rattle.rept_report.specs.Setting.{Setting}
use Rattle.rept_report.specs.Spots.{passage}
use Rattle.rept_report.specs.Views.{may_write, Carries}
use Rattle.rept_moments.specs.Naming.Names.{MomentNames, IsLink, AreNames}
use Rattle.rept_moments.specs.Naming.Numbered.{row_on, may_act_by, untraced_by, setting_of}
use Rattle.rept_moments.specs.Naming.Carried.{may_in, CarriedAlong}
use Rattle.rept_moments.proofs.NamingLemmas.Naming.{some_is, quiet_carried}

-- what is later is a moment of the course
module _ (C : Course) where
  after_row : (e f : Event) → Precedes C e f → IsRow C f.row
  after_row e f (xs, h) = (chain_last C e f xs h).row

  or_row : (e f : Event) → IsRow C e.row → PrecedesOrIs C e f → IsRow C f.row
  or_row e f is (inl same) = subst (λ (x : Event). IsRow C x.row) same is
  or_row e f is (inr k) = after_row e f k

  later_moment : (m w : Moment) → IsMoment C m → NotLater C m w → IsMoment C w
  later_moment (before q) (before r) is k = or_row (first_event C q) (first_event C r) is k
  later_moment (before q) (after r) is k = or_row (first_event C q) (last_event C r) is k
  later_moment (after q) (before r) is k = after_row (last_event C q) (first_event C r) k
  later_moment (after q) (after r) is k = or_row (last_event C q) (last_event C r) is k
  later_moment at_end (before r) is k = absurd k
  later_moment at_end (after r) is k = absurd k
  later_moment m at_end is k = tt

module _ {W : Type 0} (sets : Sets W) (moves : Moves W) (rules : Rules) (C : Course) (D : Ending) (N : MomentNames) (sound : IsSoundCourse C) (names : AreNames C N) (K : Knowledge) (a : ℕ) where
  abbrev S : Setting W
  S = setting_of sets moves rules C D N

  along : (xs : List Moment) (m w : Moment) → IsMoment C m → Forth C (may_in S K C) a m xs w → (ns : List ℕ) × CarriedAlong S K a (N.name m) ns (N.name w)
  along [] m w is h = ([], ap N.name h)
  along (x ∷ xs) m w is h =
      let at = later_moment C m x is h.1.later.0 in
      let rest = along xs x w at h.2 in
      elim (cases_eq (N.name m) (N.name x)) [
        | inl same ↦ (rest.0, subst (λ (n : ℕ). CarriedAlong S K a n rest.0 (N.name w)) (sym same) rest.1)
        | inr other ↦
            let by = quiet_carried C sound N names (may_in S K C) a m x is at h.1 other h.0.quiet in
            let carries : Carries S K (passage a (N.name m) (N.name x)) = record {
              next = by.next;
              light = by.light;
              spared = λ i may_act. subst (λ (k : ℕ). may_write S K k a ≡ false) (number_point C i) (by.spared i may_act);
            } in
            (N.name x ∷ rest.0, (carries, rest.1))
      ]

  pub carried_along : (m w : Moment) → IsMoment C m → IsMoment C w → IsUntouchedStep C (may_in S K C) (stretch m w) a → (ns : List ℕ) × CarriedAlong S K a (N.name m) ns (N.name w)
  carried_along m w is its quiet =
      let steps = step_by_step C sound (may_in S K C) a m w is its quiet in
      along steps.0 m w is steps.1

  -- what is carried between two names is quiet between two of their moments, where a row that can't
  -- write memory may not
  pub carried_quiet : ((r : Row) → may_in S K C r a ≡ true → stores C r ≡ true) → (m w : ℕ) → Carries S K (passage a m w) → (x : Stretch) × IsLink C N m w x × IsUntouchedStep C (may_in S K C) x a
  carried_quiet only m w h =
      let found = some_is (N.link m w) h.next in
      let link = names.links m w found.0 found.1 in
      (found.0, link, record { later = link.next.later; quiet = record { in_order = link.next.later.0; spared = λ act is may_act. spared found.0 found.1 link act is may_act } })
    where
      spared : (x : Stretch) → N.link m w ≡ Some x → IsLink C N m w x → (act : Act) → IsAct C act → MayAct C act x → may_by (may_in S K C) act a ≡ false
      spared x found link untraced is may_act =
          let between = may_act_from C sound untraced x.from x.to is link.from link.to may_act in
          absurd (false≢true (sym h.light ∙ ap (untraced_by C) found ∙ and_from (is_some C.untraced) (may_act_between C untraced x.from x.to) (ap is_some is.1) between))
      spared x found link (row r) is may_act =
          elim (cases_Bool (may_in S K C r a)) [
            | inr out ↦ out
            | inl may ↦
                let between = may_act_from C sound (row r) x.from x.to is link.from link.to may_act in
                let same : row_on C (leg_of C r) ≡ r = ap row_from (point_number C r.thread r.step (thread_inside C r is) (omega arith)) in
                h.spared (leg_of C r) (ap (λ (q : Row). may_act_by C q (N.link m w)) same ∙ ap (may_act_by C r) found ∙ and_from (stores C r) (may_act_between C (row r) x.from x.to) (only r may) between)
          ]
