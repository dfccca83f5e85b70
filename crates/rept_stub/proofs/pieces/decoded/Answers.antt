use Rattle.std.proofs.Common.{◌≡◌, ◌+◌, ◌++◌, ◌∙◌, ap, append-nil, drop, List, ℕ, sym, subst, arith}
use Rattle.std.specs.Prelude.{Some, option_map}
use Rattle.std.proofs.Common.{drop_of_length-le}
use Rattle.rept_stub.specs.Replies.{decoded}
use Rattle.rept_stub.proofs.Bytes.{pair_more, pair_ends, odd_ends}
use Rattle.rept_stub.proofs.pieces.decoded.Goals as goal

pub loop-place-preserved : goal.loop-place-preserved
loop-place-preserved c =
    let digits = c.args.digits.now in
    let place = c.loop-place.place in
    record {
      within = omega arith;
      value = subst (λ (items : List ℕ). decoded digits ≡ option_map (λ rest. items ++ rest) (decoded (drop (place + 2) digits))) (sym c.in_ok-push-in-Some.ensures.items)
          (pair_more digits c.loop-place.bytes.items place c.loop-place-test.true c.loop-place.invariant.value c.in-Some.byte (sym c.in-Some.ensures));
    }

pub returns-then-place-digits : goal.returns-then-place-digits
returns-then-place-digits c = sym (odd_ends c.args.digits.now c.loop-place.bytes.items c.loop-place.place c.loop-place-test.false c.if-place-digits.true c.loop-place.invariant.value)

pub returns-in-None : goal.returns-in-None
returns-in-None c = sym (pair_ends c.args.digits.now c.loop-place.bytes.items c.loop-place.place c.loop-place-test.true c.loop-place.invariant.value (sym c.in-None.ensures))

pub returns : goal.returns
returns c =
    let items = c.loop-place.bytes.items in
    sym (c.loop-place.invariant.value ∙ ap (λ w. option_map (λ rest. items ++ rest) (decoded w)) (drop_of_length-le c.args.digits.now {i = c.loop-place.place} (omega arith)) ∙ ap Some (append-nil items))
