use Rattle.std.proofs.Common.{◌<◌, ◌∙◌, arith}
use Rattle.std.proofs.lemmas.Option.{slice_get_within}
use Rattle.rept_relate.proofs.Leaving.{left_more}
use Rattle.rept_relate.proofs.called.leave.Goals as goal

pub loop-k-preserved : goal.loop-k-preserved
loop-k-preserved c =
    let i = c.loop-k.invariant in
    let e = c.leave_slot.ensures in
    record {
      len = e.len ∙ i.len;
      done = left_more c.args.slots.now.items c.loop-k.slots.items c.leave_slot.new.slots.items c.args.access.now c.loop-k.k i.done i.rest e.here e.others;
      rest = λ m le. e.others m (λ same. omega (arith, le, same)) ∙ i.rest m (omega (arith, le));
      below = λ limit below. e.below limit (i.below limit below);
    }

pub returns-clause-left : goal.returns-clause-left
returns-clause-left c =
    let past = c.loop-k-test.false in
    let len = c.loop-k.invariant.len in
    λ k slot at live.
    let within = slice_get_within c.loop-k.slots.items k slot at in
    let e = c.len-k-end.ensures in
    let less : k < c.loop-k.k = omega (arith, within, len, past, e) in
    c.loop-k.invariant.done k slot less at live
