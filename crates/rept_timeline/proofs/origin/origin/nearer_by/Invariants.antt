use Rattle.rept_timeline.specs.Paths.{timeline}
use Rattle.std.proofs.Common.{◌≡◌, ◌+◌, ◌-◌}
use Rattle.rept_report.specs.Origin.Bridges.{links_over, carries_by}
use Rattle.rept_report.proofs.OriginLemmas.Links.{AreNotNearer}
use Rattle.rept_timeline.proofs.origin.origin.nearer_by.Given as goal

abbrev pub invariant-loop-least : goal.invariant-loop-least
invariant-loop-least g l =
    let t = timeline l.bridges.paths.now in
    let b = g.S.Sources.byte l.bridges.sources.now in
    record {
      before : AreNotNearer (links_over t b) (λ w. carries_by t b l.number (record { from = w; way = l.way })) l.links l.least;
      end : l.end ≡ (links_over t b).last;
    }

abbrev pub decreases-loop-least : goal.decreases-loop-least
decreases-loop-least g l = l.end + 1 - l.least
