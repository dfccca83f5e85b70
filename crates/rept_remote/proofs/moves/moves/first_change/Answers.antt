use Rattle.std.proofs.Common.{◌≡◌, ◌+◌, ◌-◌, ◌/◌, arith, refl, sym, ◌∙◌, false}
use Rattle.rept_findings.specs.LastWriters.{writer_at}
use Rattle.rept_findings.specs.Shown.{IsThreadPoint}
use Rattle.rept_findings.specs.Texts.{at}
use Rattle.rept_remote.specs.Moves.Halts.{has_changed, is_touched}
use Rattle.rept_remote.proofs.MovesLemmas.Forward.{first_found, none_between, none_new, written_here}
use Rattle.rept_remote.proofs.moves.moves.first_change.Goals as goal

pub loop-high-init : goal.loop-high-init
loop-high-init g c =
    let order = c.requires.order in
    record {
      from = omega arith;
      order = order;
      within = omega arith;
      none = λ k low high. absurd (omega (arith, low, high));
      old = λ row is. is;
      new = c.requires.new;
    }

pub loop-high-preserved-in-Some : goal.loop-high-preserved-in-Some
loop-high-preserved-in-Some g c =
    let i = c.loop-high.invariant in
    let under = c.between-point.ensures.0 in
    let over = c.between-point.ensures.1 in
    let found = c.in-Some.ensures.within in
    let within = i.within in
    record {
      from = i.from;
      order = c.in-Some.ensures.least c.loop-high.low under i.old;
      within = omega (arith, over, found, within);
      none = i.none;
      old = i.old;
      new = c.in-Some.ensures.new;
    }

pub loop-high-preserved : goal.loop-high-preserved
loop-high-preserved g c =
    let s = g.F.Findings.shown c.args.findings.now in
    let i = c.loop-high.invariant in
    let under = c.between-point.ensures.0 in
    let over = c.between-point.ensures.1 in
    let from = i.from in
    let within = i.within in
    let top = c.requires.changed.1 in
    let point = c.between-point.result in
    let there : IsThreadPoint s (at c.args.here.thread point) = (c.requires.here.0, omega (arith, over, within, top)) in
    let same : has_changed s c.args.here c.args.address (writer_at s (at c.args.here.thread point) c.args.address) ≡ false = c.changed_by.ensures.none c.in-None.is in
    record {
      from = omega (arith, under, from);
      order = over;
      within = within;
      none = none_between s c.args.here c.args.address c.requires.last point there same;
      old = none_new s c.args.here c.args.address c.requires.last point same;
      new = i.new;
    }

pub returns-clause-value : goal.returns-clause-value
returns-clause-value g c bound wide =
    let s = g.F.Findings.shown c.args.findings.now in
    let i = c.loop-high.invariant in
    let near = c.loop-high-test.false in
    let from = i.from in
    let order = i.order in
    let within = i.within in
    let top = c.requires.changed.1 in
    let there : IsThreadPoint s (at c.args.here.thread c.loop-high.high) = (c.requires.here.0, omega (arith, within, top)) in
    first_found (λ p. is_touched s (at c.args.here.thread p) c.args.address) c.args.here.point c.loop-high.low c.loop-high.high bound from (omega (arith, near, order)) (omega (arith, within, wide)) i.none
    (written_here s c.args.here c.args.address c.requires.last c.loop-high.low c.loop-high.high there order (omega (arith, near, order)) i.old i.new)
