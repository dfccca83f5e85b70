-- The order holds in each execution, and who writes at a tick does so within its own interval.
use Rattle.std.proofs.Common.{◌≡◌, ◌<◌, ◌≤◌, List, [], ◌∷◌, inl, inr, ap, arith}
use Rattle.rept_steps.specs.Course.{Course}
use Rattle.rept_order.specs.Events.{Event, first_event, last_event, Chain, Precedes, PrecedesOrIs}
use Rattle.rept_order.specs.Moments.{Moment, IsMoment, NotLater}
use Rattle.rept_order.specs.Moments.Moment.{before, after, at_end}
use Rattle.rept_order.specs.History.{History, Ending, IsExecution, tick}
use Rattle.rept_order.proofs.Sequence.{first_is_event, last_is_event}

module _ (C : Course) (D : Ending) (h : History) (x : IsExecution C D h) where
  chain_kept : (e f : Event) (xs : List Event) → Chain C e xs f → h.place e < h.place f
  chain_kept e f [] k = x.ordered e f k
  chain_kept e f (y ∷ ys) k = let first = x.ordered e y k.0 in let others = chain_kept y f ys k.1 in omega arith

  pub precedes_kept : (e f : Event) → Precedes C e f → h.place e < h.place f
  precedes_kept e f (xs, k) = chain_kept e f xs k

  pub or_kept : (e f : Event) → PrecedesOrIs C e f → h.place e ≤ h.place f
  or_kept e f (inl same) = let is : h.place e ≡ h.place f = ap h.place same in omega arith
  or_kept e f (inr k) = let less = precedes_kept e f k in omega arith

  pub early : (m : Moment) → IsMoment C m → tick C h m ≤ h.ticks
  early (before r) is = let k = (x.happens (first_event C r) (first_is_event C r is)).0 in omega arith
  early (after r) is = (x.happens (last_event C r) (last_is_event C r is)).0
  early at_end is = omega arith

  -- a moment that the order puts no later comes no later
  pub order_kept : (m w : Moment) → IsMoment C m → IsMoment C w → NotLater C m w → tick C h m ≤ tick C h w
  order_kept (before q) (before r) is its k = or_kept _ _ k
  order_kept (before q) (after r) is its k = let less = or_kept _ _ k in omega arith
  order_kept (after q) (before r) is its k = precedes_kept _ _ k
  order_kept (after q) (after r) is its k = let less = or_kept _ _ k in omega arith
  order_kept at_end (before r) is its k = absurd k
  order_kept at_end (after r) is its k = absurd k
  order_kept (before q) at_end is its k = early (before q) is
  order_kept (after q) at_end is its k = early (after q) is
  order_kept at_end at_end is its k = omega arith
