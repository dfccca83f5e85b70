use Rattle.std.proofs.Common.{◌≡◌, ℕ, ◌+◌, ◌++◌, [], ◌∷◌, List, None, Some, length, arith, ap, sym, subst, subst₂, ◌∙◌}
use Rattle.std.proofs.lemmas.List.{length-append}
use Rattle.rept_questions.specs.Trail.{IsGreatest}
use Rattle.rept_questions.proofs.TrailLemmas.{AreFound, begun, ended, one_more, over}
use Rattle.rept_questions.proofs.trail.trail_of.Goals as goal

pub loop-init : goal.loop-init
loop-init g c =
    let s = g.F.Findings.shown c.args.findings.now in
    let t = c.args.first.thread in
    let f = c.args.first.point in
    let seen : c.push.new.self.items ≡ f ∷ [] = c.in_ok-push.ensures.items ∙ ap (λ (xs : List ℕ). xs ++ f ∷ []) c.new-seen.ensures.items in
    record {
      found = subst₂ (λ (rows seen : List ℕ). AreFound s t f rows seen (f + 1)) (sym c.new-rows.ensures.items) (sym seen) (begun s t f);
      count = ap length c.new-rows.ensures.items;
    }

pub returns-in_default : goal.returns-in_default
returns-in_default g c =
    let s = g.F.Findings.shown c.args.findings.now in
    ended s c.args.first.thread c.args.first.point c.loop.rows.items c.loop.seen.items c.loop.below c.loop.invariant.found (subst (λ (xs : List ℕ). IsGreatest c.loop.below xs None) c.as_slice.ensures.value c.in_default.ensures)

pub loop-preserved : goal.loop-preserved
loop-preserved g c =
    let s = g.F.Findings.shown c.args.findings.now in
    let top = subst (λ (xs : List ℕ). IsGreatest c.loop.below xs (Some c.in-Some.step)) c.as_slice.ensures.value c.in-Some.ensures in
    let grown = c.in_ok-push-2.ensures.items in
    let long : length c.push-in-loop.new.self.items ≡ length (c.loop.rows.items ++ c.in-Some.step ∷ []) = ap length grown in
    let both = length-append c.loop.rows.items (c.in-Some.step ∷ []) in
    let count = c.loop.invariant.count in
    record {
      found = one_more s c.args.first.thread c.args.first.point c.loop.rows.items c.loop.seen.items c.loop.below c.loop.invariant.found c.in-Some.step c.push-in-loop.new.self.items c.push_sources.new.steps.items top.1.0 top.0 top.1.1 grown c.in_ok-push_sources.ensures;
      count = omega (arith, long, both, count);
    }

pub returns : goal.returns
returns g c =
    let s = g.F.Findings.shown c.args.findings.now in
    let count = c.loop.invariant.count in
    let all : length c.loop.rows.items ≡ 64 = omega (arith, count) in
    over s c.args.first.thread c.args.first.point c.loop.rows.items c.loop.seen.items c.loop.below c.loop.invariant.found c.greatest_below-2.result c.is_some-more.result
    (subst (λ (xs : List ℕ). IsGreatest c.loop.below xs c.greatest_below-2.result) c.as_slice-2.ensures.value c.greatest_below-2.ensures) c.is_some-more.ensures all
