-- The memory points of a run by the numbers of the run whose untraced prefix ends sooner.
use Rattle.std.proofs.Common.{◌≡◌, ◌⊎◌, ℕ, ◌≤◌, false, List, Some, inl, inr, sym, ap, ◌∙◌, subst}
use Rattle.std.proofs.lemmas.Bool.{cases_eq}
use Rattle.rept_partial.specs.Sets.{Sets}
use Rattle.rept_reason.specs.Facts.{Knowledge}
use Rattle.rept_reason.specs.View.Rules.{Rules}
use Rattle.rept_span.specs.Moves.{Moves}
use Rattle.rept_steps.specs.declared.threads.ThreadRows.{ThreadRows}
use Rattle.rept_steps.specs.Course.{Course, IsSoundCourse}
use Rattle.rept_order.specs.Moments.{Moment, IsMoment, Stretch, stretch, stores, IsUntouchedStep}
use Rattle.rept_order.specs.Moments.Moment.{before, after}
use Rattle.rept_order.specs.History.{Ending}
use Rattle.rept_order.proofs.Legs.{number_point}
use Rattle.rept_report.specs.Setting.{Setting}
use Rattle.rept_report.specs.Spots.{passage}
use Rattle.rept_report.specs.Views.{may_write, Carries}
use Rattle.rept_moments.specs.Naming.Carried.{may_in}
use Rattle.rept_moments.specs.Naming.Names.{MomentNames, AreNames, IsLink}
use Rattle.rept_moments.specs.Naming.Numbered.{row_on, moments_of, setting_of}
use Rattle.rept_moments.proofs.NamingLemmas.Naming.{row_inside, last_end, quiet_carried}
use Rattle.rept_opening.proofs.EarlierMoments.{traced_from, moment_to, next_to, one_to, step_to}
use Rattle.rept_opening.proofs.Embedded.{Embeds}
use Rattle.rept_opening.proofs.OrderLemmas.{quiet_so, and_second, acts_store}
use Rattle.rept_opening.specs.Order.{may_store}

module _ (threads : List ThreadRows) (d u : ℕ) (sooner : u ≤ d) where
  abbrev T : Course
  T = traced_from threads (Some d)

  abbrev S : Course
  S = traced_from threads (Some u)

  module _ (old new : MomentNames) (is_old : AreNames T old) (is_new : AreNames S new) where
    -- the number of the same memory point by the sooner end
    abbrev pub to : ℕ → ℕ
    to m = new.name (old.last m)

    pub same_name : (m : Moment) → IsMoment T m → to (old.name m) ≡ new.name m
    same_name m is =
        elim (is_old.own m is) [
          | inl same ↦ ap new.name (sym same)
          | inr one ↦ sym (is_new.one (stretch m (old.last (old.name m))) (one_to threads d u sooner (stretch m (old.last (old.name m))) one))
        ]

    module _ {W : Type 0} (sets : Sets W) (moves : Moves W) (rules : Rules) (D : Ending) (sound : IsSoundCourse T) (ends : IsSoundCourse S) where
      abbrev late : Setting W
      late = setting_of sets moves rules T D old

      abbrev early : Setting W
      early = setting_of sets moves rules S D new

      module _ (K : Knowledge) (a : ℕ) where
        between : (m w : ℕ) (x : Stretch) → IsLink T old m w x → IsUntouchedStep T (may_store late K T) x a → (to m ≡ to w) ⊎ Carries early K (passage a (to m) (to w))
        between m w x link step =
            let from_is : to m ≡ new.name x.from = sym (ap to link.from_name) ∙ same_name x.from link.from in
            let to_is : to w ≡ new.name x.to = sym (ap to link.to_name) ∙ same_name x.to link.to in
            let at = moment_to threads (Some d) (Some u) x.from link.from in
            let there = moment_to threads (Some d) (Some u) x.to link.to in
            let quiet = step_to threads d u sooner (may_store late K T) x a step in
            elim (cases_eq (new.name x.from) (new.name x.to)) [
              | inl same ↦ inl (from_is ∙ same ∙ sym to_is)
              | inr other ↦
                  let by = quiet_carried S ends new is_new (may_store early K S) a x.from x.to at there (next_to threads (Some d) (Some u) x.from x.to link.next) other quiet.quiet in
                  let carries : Carries early K (passage a (new.name x.from) (new.name x.to)) = record {
                    next = by.next;
                    light = by.light;
                    spared = λ i may_act. subst (λ (k : ℕ). may_write early K k a ≡ false) (number_point S i)
                        (and_second (stores S (row_on S i)) (may_in early K S (row_on S i) a) (acts_store S (row_on S i) (new.link (new.name x.from) (new.name x.to)) may_act) (by.spared i may_act));
                  } in
                  inr (subst (λ (n : ℕ). Carries early K (passage a n (to w))) (sym from_is) (subst (λ (n : ℕ). Carries early K (passage a (new.name x.from) n)) (sym to_is) carries))
            ]

        carries_sooner : (m w : ℕ) → Carries late K (passage a m w) → (to m ≡ to w) ⊎ Carries early K (passage a (to m) (to w))
        carries_sooner m w h =
            let found = quiet_so sets moves rules T D old sound is_old K a m w h in
            between m w found.0 found.1 found.2

      pub embeds : Embeds late (moments_of T old) (moments_of S new) to
      embeds = record {
        before = λ i row is. same_name (before (row_on T i)) (row_inside T (row_on T i) row is);
        after = λ i row is. same_name (after (row_on T i)) (row_inside T (row_on T i) row is);
        end = ap new.name (last_end T sound old is_old) ∙ is_new.end;
        inside = λ m few. is_new.few (old.last m) (moment_to threads (Some d) (Some u) (old.last m) (is_old.named m few).0);
        carries = λ K a m w h. carries_sooner K a m w h;
      }
