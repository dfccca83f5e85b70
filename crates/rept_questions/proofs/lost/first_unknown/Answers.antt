use Rattle.std.proofs.Common.{◌≡◌, ℕ, suc, ◌+◌, ◌-◌, ◌%◌, ◌^◌, Bool, false, Option, Some, cond, map, arith, ap, sym, ◌∙◌}
use Rattle.std.specs.Prelude.{is_none}
use Rattle.std.specs.List.{find, range_with_len}
use Rattle.rept_questions.proofs.lost.first_unknown.Goals as goal

pub loop-i-preserved : goal.loop-i-preserved
loop-i-preserved g c =
    let s = g.F.Findings.shown c.args.findings.now in
    let i = c.loop-i.i in
    let test : ℕ → Bool = λ a. is_none (s.byte c.args.moment a) in
    let v : ℕ → ℕ = λ k. (c.args.address + k) % 2 ^ 32 in
    let one : c.args.count - i ≡ suc (c.args.count - (i + 1)) = omega (arith, c.loop-i-test.true) in
    let passed : test (v i) ≡ false = ap (λ (o : Option ℕ). is_none o) (sym c.byte.ensures) ∙ sym c.is_unknown.ensures ∙ c.if-is_unknown.false in
    c.loop-i.invariant ∙ ap (λ n. find test (map v (range_with_len i n))) one
    ∙ ap (λ (b : Bool). cond b (Some (v i)) (find test (map v (range_with_len (i + 1) (c.args.count - (i + 1)))))) passed
