use Rattle.std.proofs.Common.{◌≡◌, ◌≤◌, ℕ, Some, slice_get, length, inl, inr, subst, arith}
use Rattle.std.proofs.lemmas.Bool.{cases_eq}
use Rattle.rept_alias.specs.Accesses.{call_hits}
use Rattle.rept_narrow.proofs.Touching.{all_touched}
use Rattle.rept_infer.proofs.crossing.touched.Goals as goal

pub loop-number-preserved : goal.loop-number-preserved
loop-number-preserved c = λ j a h less here hit. elim (cases_eq j c.loop-number.number) [
  | inl same ↦ c.in_ok-add_touched.ensures.touched a h (subst (λ (n : ℕ). slice_get c.args.held.now n ≡ Some (a, h)) same here) hit
  | inr ne ↦ c.in_ok-add_touched.ensures.more a (c.loop-number.invariant j a h (omega (arith, less, ne)) here hit)
]

pub returns : goal.returns
returns c =
    let past = c.loop-number-test.false in
    let end = c.len-number-end.ensures in
    let long : length c.args.held.now ≤ c.loop-number.number = omega (arith, past, end) in
    all_touched c.loop-number.number c.args.held.now c.loop-number.list.items (call_hits c.args.access.now) long c.loop-number.invariant
