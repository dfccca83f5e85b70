use Rattle.std.proofs.Common.{ℕ, ◌+◌, ◌<◌, length, sym, subst, ◌∙◌, arith}
use Rattle.rept_report.specs.Nearest.Reached.{IsBall}
use Rattle.rept_report.proofs.NearestLemmas.Searching.{ball_done, next_ball, has_none}
use Rattle.rept_report.proofs.nearest.search.search.Goals as goal

pub loop-start-preserved : goal.loop-start-preserved
loop-start-preserved g c =
    let L = g.N.Net.links c.args.net.now in
    let reach = c.loop-start.reach in
    let i = c.loop-start.invariant in
    let test = c.loop-start-test.true in
    let len = c.len.ensures.value in
    let end = c.len-end.ensures.value in
    let more : c.loop-start.start < length reach.list = omega (arith, test, len) in
    let none = has_none L reach.list c.loop-start.start c.loop-start.links c.value_among-found.result (sym c.is_some.ensures ∙ c.if-is_some.false) c.value_among-found.ensures in
    let grown = c.add_beside.ensures in
    let longer = grown.grows.longer in
    record {
      ball = subst (λ (n : ℕ). IsBall L c.args.from c.add_beside.new.reach.list n (c.loop-start.links + 1)) (sym end) (next_ball L c.args.from reach.list c.loop-start.start c.loop-start.links i.ball reach.bound c.add_beside.new.reach (g.met.N.Net.inside c.args.net.now) none more grown);
      bound = grown.grows.bound ∙ i.bound;
      low = omega (arith, longer, end);
    }

pub returns : goal.returns
returns g c =
    let test = c.loop-start-test.false in
    let len = c.len.ensures.value in
    ball_done (g.N.Net.links c.args.net.now) c.args.from c.loop-start.reach.list c.loop-start.start c.loop-start.links c.loop-start.invariant.ball (omega (arith, test, len))
