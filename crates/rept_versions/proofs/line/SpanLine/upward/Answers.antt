use Rattle.std.proofs.Common.{arith, sym, ap, refl}
use Rattle.rept_versions.proofs.Spreading.{up_spreads, up_stops, up_new, up_same}
use Rattle.rept_versions.proofs.line.SpanLine.upward.Goals as goal

pub returns-then-to-s-clause-moves : goal.returns-then-to-s-clause-moves
returns-then-to-s-clause-moves c = (refl, up_spreads c.args.self.now c.args.self.now c.requires.rising c.args.i _ c.requires.at _ c.requires.order (up_same _ _ _ (omega (arith, c.if-to-s.true, ap (λ s. s.high) c.at-s.ensures.span))))

pub returns-in-None-clause-moves : goal.returns-in-None-clause-moves
returns-in-None-clause-moves c =
    let old = c.args.self.now in (
      up_spreads old c.up.new.self c.requires.rising c.args.i _ c.requires.at _ c.requires.order c.in-None.ensures.up,
      up_new old c.up.new.self c.requires.rising c.args.i _ c.requires.at c.requires.joined _ (omega (arith, c.if-to-s.false, ap (λ s. s.high) c.at-s.ensures.span)) c.in-None.ensures.up,
    )

pub returns-in-Some-value_at-clause-moves : goal.returns-in-Some-value_at-clause-moves
returns-in-Some-value_at-clause-moves c = (
  ap (λ s. s.value) c.at-s.ensures.span,
  up_stops c.args.self.now c.up.new.self c.requires.rising c.args.i _ c.requires.at _ _ _ c.requires.order c.in-Some.ensures.up (sym c.in-Some-value_at.ensures),
)
