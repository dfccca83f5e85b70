use Rattle.std.proofs.Common.{◌<◌, ◌∙◌, arith}
use Rattle.std.proofs.lemmas.Option.{slice_get_within}
use Rattle.rept_relate.proofs.Remembering.{cleared_more}
use Rattle.rept_relate.proofs.words.clear.Goals as goal

pub loop-k-preserved : goal.loop-k-preserved
loop-k-preserved c =
    let i = c.loop-k.invariant in
    let e = c.clear_slot.ensures in
    record {
      len = e.len ∙ i.len;
      done = cleared_more c.args.slots.now.items c.loop-k.slots.items c.clear_slot.new.slots.items c.args.place.now c.args.width c.loop-k.k i.done i.rest e.here e.others;
      rest = λ m le. e.others m (λ same. omega (arith, le, same)) ∙ i.rest m (omega (arith, le));
      below = λ limit below. e.below limit (i.below limit below);
    }

pub returns-clause-cleared : goal.returns-clause-cleared
returns-clause-cleared c =
    let past = c.loop-k-test.false in
    let len = c.loop-k.invariant.len in
    λ k slot at live.
    let within = slice_get_within c.loop-k.slots.items k slot at in
    let e = c.len-k-end.ensures in
    let less : k < c.loop-k.k = omega (arith, within, len, past, e) in
    c.loop-k.invariant.done k slot less at live
