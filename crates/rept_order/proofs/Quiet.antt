-- A quiet byte stays.
use Rattle.std.proofs.Common.{◌≡◌, ℕ, zero, suc, ◌+◌, ◌-◌, ◌<◌, ◌≤◌, Bool, true, false, refl, sym, ap, ◌∙◌, subst, arith}
use Rattle.std.proofs.lemmas.Bool.{false≢true}
use Rattle.rept_steps.specs.Course.{Course, Row, IsRow, calls}
use Rattle.rept_order.specs.Events.Part.{whole}
use Rattle.rept_order.specs.Moments.{Moment, IsMoment, NotLater, Act, IsAct, Stretch, MayAct, IsUntouched, may_by}
use Rattle.rept_order.specs.Moments.Moment.{before, after}
use Rattle.rept_order.specs.Moments.Act.{row, untraced}
use Rattle.rept_order.specs.History.{Happening, History, Ending, IsExecution, tick}
use Rattle.rept_order.specs.History.Happening.{event}
use Rattle.rept_order.specs.Writing.{ActWrites, By, IsStill, Covers}
use Rattle.rept_order.proofs.Sequence.{part_of}
use Rattle.rept_order.proofs.Ticks.{order_kept, early}
use Rattle.rept_order.proofs.Keeps.{whole_ticks, act_is, acts_before, acts_after, keeps}

module _ (C : Course) (D : Ending) (h : History) (x : IsExecution C D h) where
  -- only a row that is no call happens between its two moments
  alone_at : (act : Act) (k : ℕ) (r : Row) → k < h.ticks → By (h.happening k) act → IsRow C r → calls C r ≡ false → tick C h (before r) ≤ k → k < tick C h (after r) → act ≡ row r
  alone_at act k r below by is plain from to =
      let ticks = whole_ticks C D h x r (h.place (part_of r whole)) plain refl in
      let one = ticks.0 in
      let other = ticks.1 in
      let here : h.place (part_of r whole) ≡ k = omega arith in
      let occurs = (x.happens (part_of r whole) (record { row = is; part = plain })).1 in
      let found : h.happening k ≡ event (part_of r whole) = subst (λ (i : ℕ). h.happening i ≡ event (part_of r whole)) here occurs in
      only act (subst (λ (g : Happening). By g act) found by)
    where
      only : (act : Act) → By (event (part_of r whole)) act → act ≡ row r
      only (row q) same = ap (λ (p : Row). row p) (sym same)
      only untraced same = absurd same

  -- who acts between two moments may act between them
  pub acts_may_act : (act : Act) (k : ℕ) (s : Stretch) → k < h.ticks → By (h.happening k) act → IsMoment C s.from → IsMoment C s.to → tick C h s.from ≤ k → k < tick C h s.to → MayAct C act s
  acts_may_act act k s below by is its from to = record {
    not_before = λ way. let less = acts_before C D h x act k s.from below by is way in omega arith;
    not_after = λ way. let more = acts_after C D h x act k s.to below by its way in omega arith;
    alone = λ r plain same. alone_at act k r below by (subst (λ (m : Moment). IsMoment C m) (ap (λ (y : Stretch). y.from) same) is) plain (subst (λ (m : Moment). tick C h m ≤ k) (ap (λ (y : Stretch). y.from) same) from) (subst (λ (m : Moment). k < tick C h m) (ap (λ (y : Stretch). y.to) same) to);
  }

  stays : (n k a : ℕ) (s : Stretch) → IsMoment C s.from → IsMoment C s.to → IsStill C D h s a → tick C h s.from ≤ k → k + n ≡ tick C h s.to → (h.world (k + n)).memory a ≡ (h.world k).memory a
  stays zero k a s is its still from to = ap (λ (i : ℕ). (h.world i).memory a) none
    where
      none : k + 0 ≡ k
      none = omega arith
  stays (suc n) k a s is its still from to =
      let last = early C D h x s.to its in
      let below : k < h.ticks = omega arith in
      let inside : k < tick C h s.to = omega arith in
      let here = keeps C D h x a k below (λ act by. still act (act_is C D h x act k below by) (acts_may_act act k s below by is its from inside)) in
      let rest = stays n (suc k) a s is its still (omega arith) (omega arith) in
      let same : k + suc n ≡ suc k + n = omega arith in
      rw same (rest ∙ here)

  -- a byte that nothing between two moments writes is the same at both
  pub still_stays : (s : Stretch) (a : ℕ) → IsMoment C s.from → IsMoment C s.to → NotLater C s.from s.to → IsStill C D h s a → (h.world (tick C h s.to)).memory a ≡ (h.world (tick C h s.from)).memory a
  still_stays s a is its order still =
      let kept = order_kept C D h x s.from s.to is its order in
      let far : tick C h s.from + (tick C h s.to - tick C h s.from) ≡ tick C h s.to = omega arith in
      ap (λ (i : ℕ). (h.world i).memory a) (sym far) ∙ stays (tick C h s.to - tick C h s.from) (tick C h s.from) a s is its still (omega arith) far

  module _ (may : Row → ℕ → Bool) (covers : Covers C D h may) where
    may_cover : (act : Act) (a : ℕ) → IsAct C act → ActWrites C D h act a → may_by may act a ≡ true
    may_cover (row r) a is w = covers r a is w
    may_cover untraced a is w = refl

    -- and so is one that is quiet between them
    pub quiet_stays : (s : Stretch) (a : ℕ) → IsMoment C s.from → IsMoment C s.to → IsUntouched C may s a → (h.world (tick C h s.to)).memory a ≡ (h.world (tick C h s.from)).memory a
    quiet_stays s a is its quiet = still_stays s a is its quiet.in_order (λ act inside may_act w. false≢true (sym (quiet.spared act inside may_act) ∙ may_cover act a inside w))
