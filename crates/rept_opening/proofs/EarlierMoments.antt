-- With an earlier end of the untraced prefix the order of memory points is the same, and no more
-- may take effect between two of them.
use Rattle.std.proofs.Common.{◌≡◌, ℕ, ◌≤◌, Bool, List, [], ◌∷◌, Option, Some, None, inl, inr, refl, arith}
use Rattle.rept_steps.specs.declared.threads.ThreadRows.{ThreadRows}
use Rattle.rept_steps.specs.Course.{Course, Row, IsSoundCourse}
use Rattle.rept_order.specs.Events.{Event, IsEvent, IsBefore, Before, Chain, Precedes, PrecedesOrIs, IsAfterUntraced, UntracedPrecedes, first_event, last_event}
use Rattle.rept_order.specs.Events.IsBefore.{by_row, by_call, by_time}
use Rattle.rept_order.specs.Moments.{Moment, IsMoment, NotLater, Earlier, Act, IsAct, UntracedBefore, WhollyBefore, WhollyAfter, Stretch, MayAct, IsUntouched, IsUntouchedStep, IsNext, ArePause, AreOne}
use Rattle.rept_order.specs.Moments.ArePause.{between, last}
use Rattle.rept_order.specs.Moments.Moment.{before, after, at_end}
use Rattle.rept_order.specs.Moments.Act.{row, untraced}

-- the threads, of which this much isn't traced
abbrev pub traced_from : List ThreadRows → Option ℕ → Course
traced_from threads prefix = record { threads = threads; untraced = prefix }

-- the order hangs on the threads alone
module _ (threads : List ThreadRows) (old new : Option ℕ) where
  abbrev A : Course
  A = traced_from threads old

  abbrev B : Course
  B = traced_from threads new

  event_to : (e : Event) → IsEvent A e → IsEvent B e
  event_to e h = record { row = h.row; part = h.part }

  why_to : (e f : Event) → IsBefore A e f → IsBefore B e f
  why_to e f (by_row thread less) = by_row thread less
  why_to e f (by_call same first second) = by_call same first second
  why_to e f (by_time s t one other less) = by_time s t one other less

  before_to : (e f : Event) → Before A e f → Before B e f
  before_to e f h = record { first = event_to e h.first; second = event_to f h.second; why = why_to e f h.why }

  chain_to : (xs : List Event) (e f : Event) → Chain A e xs f → Chain B e xs f
  chain_to [] e f h = before_to e f h
  chain_to (x ∷ xs) e f h = (before_to e x h.0, chain_to xs x f h.1)

  precedes_to : (e f : Event) → Precedes A e f → Precedes B e f
  precedes_to e f (xs, h) = (xs, chain_to xs e f h)

  pub or_to : (e f : Event) → PrecedesOrIs A e f → PrecedesOrIs B e f
  or_to e f (inl same) = inl same
  or_to e f (inr h) = inr (precedes_to e f h)

  pub moment_to : (m : Moment) → IsMoment A m → IsMoment B m
  moment_to (before r) h = h
  moment_to (after r) h = h
  moment_to at_end h = tt

  pub not_later_to : (m w : Moment) → NotLater A m w → NotLater B m w
  not_later_to (before q) (before r) h = or_to (first_event A q) (first_event A r) h
  not_later_to (before q) (after r) h = or_to (first_event A q) (last_event A r) h
  not_later_to (after q) (before r) h = precedes_to (last_event A q) (first_event A r) h
  not_later_to (after q) (after r) h = or_to (last_event A q) (last_event A r) h
  not_later_to at_end (before r) h = absurd h
  not_later_to at_end (after r) h = absurd h
  not_later_to m at_end h = tt

  pub earlier_to : (m w : Moment) → Earlier A m w → Earlier B m w
  earlier_to m w h = (not_later_to m w h.0, h.1)

  pub after_to : (act : Act) (w : Moment) → WhollyAfter A act w → WhollyAfter B act w
  after_to (row r) w h = not_later_to w (before r) h
  after_to untraced w h = absurd h

  pub pause_to : (x : Stretch) → ArePause A x → ArePause B x
  pause_to x (between t i inside is) = between t i inside is
  pause_to x (last t i inside is) = last t i inside is

  -- a call ends its slice, however much is traced; what is alone is traced whole
  pub sound_to : ((is : old ≡ None) → ⊥) → IsSoundCourse A → IsSoundCourse B
  sound_to prefix h = record { taken = h.taken; in_time = h.in_time; calls = elim h.calls [ inl alone ↦ absurd (prefix alone.told) | inr calls ↦ inr calls ] }

pub next_to : (threads : List ThreadRows) (old new : Option ℕ) (m w : Moment) → IsNext (traced_from threads old) m w → IsNext (traced_from threads new) m w
next_to threads old new m w h = record {
  later = earlier_to threads old new m w h.later;
  none = λ x is from to. h.none x (moment_to threads new old x is) (earlier_to threads new old m x from) (earlier_to threads new old x w to);
}

some_same : {d u : ℕ} → Some d ≡ Some u → u ≡ d
some_same e = cc

module _ (threads : List ThreadRows) (d u : ℕ) (sooner : u ≤ d) where
  -- the run whose prefix ends at the one time, and the run whose prefix ends sooner
  abbrev T : Course
  T = traced_from threads (Some d)

  abbrev S : Course
  S = traced_from threads (Some u)

  late_to : (e : Event) → IsAfterUntraced T e → IsAfterUntraced S e
  late_to e h = record {
    event = event_to threads (Some d) (Some u) e h.event;
    untraced = u;
    slice = h.slice;
    is_untraced = refl;
    in_slice = h.in_slice;
    late = let same : h.untraced ≡ d = some_same h.is_untraced in let late = h.late in omega (arith, same, late, sooner);
  }

  precedes_all : (e : Event) → UntracedPrecedes T e → UntracedPrecedes S e
  precedes_all e (f, late, way) = (f, late_to f late, or_to threads (Some d) (Some u) f e way)

  -- what comes after the later end comes after the sooner one
  prefix_before : (m : Moment) → UntracedBefore T m → UntracedBefore S m
  prefix_before (before r) h = precedes_all (first_event T r) h
  prefix_before (after r) h = precedes_all (last_event T r) h
  prefix_before at_end h = tt

  wholly_before_to : (act : Act) (m : Moment) → WhollyBefore T act m → WhollyBefore S act m
  wholly_before_to (row r) m h = not_later_to threads (Some d) (Some u) (after r) m h
  wholly_before_to untraced m h = prefix_before m h

  act_back : (act : Act) → IsAct S act → IsAct T act
  act_back (row r) h = h
  act_back untraced h = (d, refl)

  -- whatever may take effect between two memory points by the sooner end may by the later one
  pub may_act_back : (act : Act) (x : Stretch) → MayAct S act x → MayAct T act x
  may_act_back act x h = record {
    not_before = λ k. h.not_before (wholly_before_to act x.from k);
    not_after = λ k. h.not_after (after_to threads (Some d) (Some u) act x.to k);
    alone = λ r plain same. h.alone r plain same;
  }

  pub untouched_to : (may : Row → ℕ → Bool) (x : Stretch) (a : ℕ) → IsUntouched T may x a → IsUntouched S may x a
  untouched_to may x a h = record {
    in_order = not_later_to threads (Some d) (Some u) x.from x.to h.in_order;
    spared = λ act is may_act. h.spared act (act_back act is) (may_act_back act x may_act);
  }

  pub step_to : (may : Row → ℕ → Bool) (x : Stretch) (a : ℕ) → IsUntouchedStep T may x a → IsUntouchedStep S may x a
  step_to may x a h = record { later = earlier_to threads (Some d) (Some u) x.from x.to h.later; quiet = untouched_to may x a h.quiet }

  -- memory points that are one stay one
  pub one_to : (x : Stretch) → AreOne T x → AreOne S x
  one_to x h = record { pause = pause_to threads (Some d) (Some u) x h.pause; still = λ act is may_act. h.still act (act_back act is) (may_act_back act x may_act) }
