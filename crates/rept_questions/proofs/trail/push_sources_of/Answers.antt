use Rattle.std.proofs.Common.{◌≡◌, ℕ, ◌+◌, ◌++◌, ◌%◌, ◌^◌, List, Option, arith, ap, sym, ◌∙◌}
use Rattle.std.proofs.lemmas.List.Folds.{flat_map-map}
use Rattle.std.specs.List.{flat_map, range_with_len}
use Rattle.std.specs.Option.{option_to_list}
use Rattle.rept_questions.specs.Trail.{byte_source}
use Rattle.rept_findings.proofs.TextLemmas.{grown}
use Rattle.rept_questions.proofs.trail.push_sources_of.Goals as goal

pub loop-i-preserved : goal.loop-i-preserved
loop-i-preserved g c =
    let s = g.F.Findings.shown c.args.findings.now in
    grown (λ k. option_to_list (byte_source s c.args.at ((c.args.address + k) % 2 ^ 32))) 0 c.loop-i.i c.loop-i.i (c.loop-i.i + 1) c.args.steps.now.items c.loop-i.steps.items c.push_step.new.steps.items (omega arith) (omega arith) c.loop-i.invariant
    (c.in_ok-push_step.ensures ∙ ap (λ (o : Option ℕ). c.loop-i.steps.items ++ option_to_list o) c.byte_source.ensures.value)

pub returns : goal.returns
returns g c =
    let s = g.F.Findings.shown c.args.findings.now in
    let all : c.loop-i.i ≡ c.args.count = omega arith in
    let v : ℕ → ℕ = λ k. (c.args.address + k) % 2 ^ 32 in
    let h : ℕ → List ℕ = λ a. option_to_list (byte_source s c.args.at a) in
    c.loop-i.invariant ∙ ap (λ n. c.args.steps.now.items ++ flat_map (λ k. h (v k)) (range_with_len 0 n)) all
    ∙ ap (λ (xs : List ℕ). c.args.steps.now.items ++ xs) (sym (flat_map-map h v (range_with_len 0 c.args.count)))
