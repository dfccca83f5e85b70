use Rattle.std.proofs.Common.{◌≡◌, ◌≤◌, ℕ, List, Some, slice_get, length, inl, inr, ap, subst, arith}
use Rattle.std.proofs.lemmas.Bool.{cases_eq}
use Rattle.rept_narrow.specs.declared.lanes.held.Held.{Held}
use Rattle.rept_infer.proofs.Listing.{all_numbers}
use Rattle.rept_infer.proofs.crossing.ByteCrossing.hits.Goals as goal

pub loop-number-preserved : goal.loop-number-preserved
loop-number-preserved g c = λ story run image at sets bytes j a h less here out. elim (cases_eq j c.loop-number.number) [
  | inl same ↦ c.in_ok-add_hit.ensures.hits story run image at sets bytes a h (subst (λ (n : ℕ). slice_get c.args.self.now.bytes.now.sweep.now.held n ≡ Some (a, h)) same here) out
  | inr ne ↦ c.loop-number.invariant story run image at sets bytes j a h (omega (arith, less, ne)) here (λ listed. out (c.in_ok-add_hit.ensures.more a listed))
]

pub returns : goal.returns
returns g c = λ story run image at sets bytes.
    let past = c.loop-number-test.false in
    let end = c.len-number-end.ensures in
    let same : length c.held.result.now ≡ length c.args.self.now.bytes.now.sweep.now.held = ap (λ (xs : List (ℕ × Held)). length xs) c.held.ensures in
    let long : length c.args.self.now.bytes.now.sweep.now.held ≤ c.loop-number.number = omega (arith, past, end, same) in
    all_numbers story run c.args.self.now.index c.loop-number.number c.args.self.now.bytes.now.sweep.now.held c.loop-number.list.items long (c.loop-number.invariant story run image at sets bytes)
