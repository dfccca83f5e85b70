use Rattle.std.proofs.Common.{arith, sym, ap, refl}
use Rattle.rept_versions.proofs.Spreading.{down_spreads, down_stops, down_new, down_same}
use Rattle.rept_versions.proofs.line.SpanLine.downward.Goals as goal

pub returns-then-s-to-clause-moves : goal.returns-then-s-to-clause-moves
returns-then-s-to-clause-moves c = (refl, down_spreads c.args.self.now c.args.self.now c.requires.rising c.args.i _ c.requires.at _ c.requires.order (down_same _ _ _ (omega (arith, c.if-s-to.true, ap (λ s. s.low) c.at-s.ensures.span))))

pub returns-in-None-clause-moves : goal.returns-in-None-clause-moves
returns-in-None-clause-moves c =
    let old = c.args.self.now in (
      down_spreads old c.down.new.self c.requires.rising c.args.i _ c.requires.at _ c.requires.order c.in-None.ensures.down,
      down_new old c.down.new.self c.requires.rising c.args.i _ c.requires.at c.requires.joined _ (omega (arith, c.if-s-to.false, ap (λ s. s.low) c.at-s.ensures.span)) c.in-None.ensures.down,
    )

pub returns-in-Some-value_at-clause-moves : goal.returns-in-Some-value_at-clause-moves
returns-in-Some-value_at-clause-moves c = (
  ap (λ s. s.value) c.at-s.ensures.span,
  down_stops c.args.self.now c.down.new.self c.requires.rising c.args.i _ c.requires.at _ _ _ c.requires.order c.in-Some.ensures.down (sym c.in-Some-value_at.ensures),
)
