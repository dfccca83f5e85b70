use Rattle.std.proofs.Common.{subst, ◌+◌, sym, ap, ◌∙◌, refl, arith, suc, length, ◌<◌, ◌≡◌}
use Rattle.rept_versions.specs.Line.{nth, AreSpansJoined}
use Rattle.rept_versions.proofs.Carry.{filled_raised, stopped_raised, step_is, ups_on, on_joined, on_length}
use Rattle.rept_versions.proofs.line.SpanLine.up_step.Goals as goal

pub returns-then-i-count-clause-step : goal.returns-then-i-count-clause-step
returns-then-i-count-clause-step c = filled_raised _ _ c.at-s.ensures.rising _ _ c.requires.at _ (λ q. refl) (omega arith) c.raise.ensures.room (omega (arith, c.if-to-s.false, ap (λ s. s.high) c.at-s.ensures.span)) (λ lt. omega (arith, lt, c.if-i-count.true, c.count.ensures.len)) c.raise.ensures.spans

pub returns-then-to-t-clause-step : goal.returns-then-to-t-clause-step
returns-then-to-t-clause-step c = filled_raised _ _ c.at-s.ensures.rising _ _ c.requires.at _ c.meet.ensures.reads c.meet.ensures.len (c.meet.ensures.room ∙ c.raise-then-to-t.ensures.room) (omega (arith, c.if-to-s.false, ap (λ s. s.high) c.at-s.ensures.span)) (λ lt. omega (arith, c.if-to-t.true, ap (λ s. s.low) c.next-t.ensures)) c.raise-then-to-t.ensures.spans

pub returns-then-t-s-clause-step : goal.returns-then-t-s-clause-step
returns-then-t-s-clause-step c =
    let at : suc c.args.i < length c.args.self.now.spans = omega (arith, c.requires.at, c.if-i-count.false, c.count.ensures.len) in
    stopped_raised _ _ c.at-s.ensures.rising _ _ at _ c.next-t.ensures c.if-to-t.false (λ e. c.if-t-s.true (e ∙ sym (ap (λ s. s.value) c.at-s.ensures.span))) c.raise-2.ensures.spans c.raise-2.ensures.room

pub returns-clause-step : goal.returns-clause-step
returns-clause-step c =
    let at : suc c.args.i < length c.args.self.now.spans = omega (arith, c.requires.at, c.if-i-count.false, c.count.ensures.len) in
    let same : (nth c.args.self.now.spans c.args.i).value ≡ (nth c.args.self.now.spans (suc c.args.i)).value = omega (arith, c.if-t-s.false, ap (λ s. s.value) c.at-s.ensures.span, ap (λ s. s.value) c.next-t.ensures) in
    let is = step_is c.args.self.now.spans c.raise-2.new.self.spans c.join.new.self.spans c.args.i _ c.next-t.ensures c.raise-2.ensures.spans c.join.ensures.spans in
    let len : length c.join.new.self.spans + 1 ≡ length c.args.self.now.spans = ap (λ l. length l + 1) is ∙ on_length _ c.at-s.ensures.rising _ at same in
    record {
      at = omega (arith, len, at);
      less = len;
      on = λ later r. ups_on c.args.self.now c.join.new.self later c.at-s.ensures.rising c.args.i c.args.to at (c.join.ensures.room ∙ c.raise-2.ensures.room) same is (omega (arith, c.if-to-t.false, ap (λ s. s.low) c.next-t.ensures)) r;
    }

pub returns-clause-joined : goal.returns-clause-joined
returns-clause-joined c =
    let at : suc c.args.i < length c.args.self.now.spans = omega (arith, c.requires.at, c.if-i-count.false, c.count.ensures.len) in
    let same : (nth c.args.self.now.spans c.args.i).value ≡ (nth c.args.self.now.spans (suc c.args.i)).value = omega (arith, c.if-t-s.false, ap (λ s. s.value) c.at-s.ensures.span, ap (λ s. s.value) c.next-t.ensures) in
    let is = step_is c.args.self.now.spans c.raise-2.new.self.spans c.join.new.self.spans c.args.i _ c.next-t.ensures c.raise-2.ensures.spans c.join.ensures.spans in
    subst AreSpansJoined (sym is) (on_joined _ c.at-s.ensures.rising _ at same c.requires.joined)
