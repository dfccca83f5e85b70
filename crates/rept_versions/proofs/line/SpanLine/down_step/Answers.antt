use Rattle.std.proofs.Common.{◌+◌, ◌-◌, subst, sym, ap, ◌∙◌, refl, arith, suc, length, ◌<◌, ◌≡◌, ◌≢◌}
use Rattle.rept_versions.specs.Line.{nth, lowered, AreSpansJoined, StoppedDown}
use Rattle.rept_versions.specs.Puts.{Downs}
use Rattle.rept_versions.proofs.Carry.{filled_lowered, stopped_lowered, step_down_is, downs_on, on_joined_down, on_length_down, ends_before}
use Rattle.rept_versions.proofs.line.SpanLine.down_step.Goals as goal

pub returns-then-i-eq0-clause-step : goal.returns-then-i-eq0-clause-step
returns-then-i-eq0-clause-step c = filled_lowered _ _ c.at-s.ensures.rising _ _ c.requires.at _ (λ q. refl) (omega arith) c.lower.ensures.room (omega (arith, c.if-s-to.false, ap (λ s. s.low) c.at-s.ensures.span)) (λ j lt. omega (arith, lt, c.if-i-eq0.true)) c.lower.ensures.spans

pub returns-then-t-to-clause-step : goal.returns-then-t-to-clause-step
returns-then-t-to-clause-step c = filled_lowered _ _ c.at-s.ensures.rising _ _ c.requires.at _ c.meet.ensures.reads c.meet.ensures.len (c.meet.ensures.room ∙ c.lower-then-t-to.ensures.room) (omega (arith, c.if-s-to.false, ap (λ s. s.low) c.at-s.ensures.span)) (ends_before _ c.at-s.ensures.rising _ _ c.requires.at (omega (arith, c.if-t-to.true, ap (λ s. s.high) c.at-t.ensures.span))) c.lower-then-t-to.ensures.spans

pub returns-then-t-s-clause-step : goal.returns-then-t-s-clause-step
returns-then-t-s-clause-step c =
    let e : suc (c.args.i - 1) ≡ c.args.i = omega (arith, c.if-i-eq0.false) in
    let old = c.args.self.now in
    subst (λ m. StoppedDown old c.lower-2.new.self c.args.to (nth old.spans m).low (nth old.spans m).value c.at-t.result.high) e
    (stopped_lowered old c.lower-2.new.self c.at-s.ensures.rising (c.args.i - 1) c.args.to (omega (arith, e, c.requires.at)) c.at-t.result c.at-t.ensures.span c.if-t-to.false
    (subst (λ m. c.at-t.result.value ≢ (nth old.spans m).value) (sym e) (λ q. c.if-t-s.true (q ∙ sym (ap (λ s. s.value) c.at-s.ensures.span))))
    (subst (λ m. c.lower-2.new.self.spans ≡ lowered old.spans m (c.at-t.result.high + 1)) (sym e) c.lower-2.ensures.spans)
    c.lower-2.ensures.room)

pub returns-clause-step : goal.returns-clause-step
returns-clause-step c =
    let old = c.args.self.now in
    let e : suc (c.args.i - 1) ≡ c.args.i = omega (arith, c.if-i-eq0.false) in
    let at : suc (c.args.i - 1) < length old.spans = omega (arith, c.requires.at, e) in
    let same : (nth old.spans (c.args.i - 1)).value ≡ (nth old.spans (suc (c.args.i - 1))).value = subst (λ m. (nth old.spans (c.args.i - 1)).value ≡ (nth old.spans m).value) (sym e) (omega (arith, c.if-t-s.false, ap (λ s. s.value) c.at-s.ensures.span, ap (λ s. s.value) c.at-t.ensures.span)) in
    let is = step_down_is old.spans c.lower-2.new.self.spans c.join.new.self.spans (c.args.i - 1) c.at-t.result c.at-t.ensures.span
    (subst (λ m. c.lower-2.new.self.spans ≡ lowered old.spans m (c.at-t.result.high + 1)) (sym e) c.lower-2.ensures.spans) c.join.ensures.spans in
    let len : length c.join.new.self.spans + 1 ≡ length old.spans = ap (λ l. length l + 1) is ∙ on_length_down _ c.at-s.ensures.rising _ at same in
    record {
      some = omega (arith, e);
      at = omega (arith, len, at);
      on = λ later r rest. subst (λ m. Downs old later m c.args.to r) e
          (downs_on old c.join.new.self later c.at-s.ensures.rising (c.args.i - 1) c.args.to at (c.join.ensures.room ∙ c.lower-2.ensures.room) same is (omega (arith, c.if-t-to.false, ap (λ s. s.high) c.at-t.ensures.span)) r rest);
    }

pub returns-clause-joined : goal.returns-clause-joined
returns-clause-joined c =
    let old = c.args.self.now in
    let e : suc (c.args.i - 1) ≡ c.args.i = omega (arith, c.if-i-eq0.false) in
    let at : suc (c.args.i - 1) < length old.spans = omega (arith, c.requires.at, e) in
    let same : (nth old.spans (c.args.i - 1)).value ≡ (nth old.spans (suc (c.args.i - 1))).value = subst (λ m. (nth old.spans (c.args.i - 1)).value ≡ (nth old.spans m).value) (sym e) (omega (arith, c.if-t-s.false, ap (λ s. s.value) c.at-s.ensures.span, ap (λ s. s.value) c.at-t.ensures.span)) in
    let is = step_down_is old.spans c.lower-2.new.self.spans c.join.new.self.spans (c.args.i - 1) c.at-t.result c.at-t.ensures.span
    (subst (λ m. c.lower-2.new.self.spans ≡ lowered old.spans m (c.at-t.result.high + 1)) (sym e) c.lower-2.ensures.spans) c.join.ensures.spans in
    subst AreSpansJoined (sym is) (on_joined_down _ c.at-s.ensures.rising _ at same c.requires.joined)
