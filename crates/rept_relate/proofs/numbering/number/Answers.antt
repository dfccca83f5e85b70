use Rattle.std.proofs.Common.{◌+◌, ℕ, List, Some, slice_get, refl, sym, ap, ◌∙◌, arith}
use Rattle.rept_relate.specs.Numbering.{node_at}
use Rattle.rept_relate.proofs.Counting.{at_row, node_written, length_more, numbered_more}
use Rattle.rept_relate.proofs.numbering.number.Goals as goal

pub loop-i-preserved : goal.loop-i-preserved
loop-i-preserved c =
    let i = c.loop-i.invariant in
    let row = c.index-rows-i.result in
    let at = at_row c.args.rows.now c.loop-i.i c.index-rows-i.result c.loop-i-test.true c.index-rows-i.is in
    record {
      file = c.write.ensures.len;
      nodes = λ r less. c.write.ensures.nodes r (node_at c.args.rows.now c.loop-i.i r) (i.nodes r less) ∙ ap Some (node_written c.args.rows.now c.loop-i.i r (32 + c.loop-i.i) (node_at c.args.rows.now c.loop-i.i r) row at refl refl);
      below = c.write.ensures.below (32 + (c.loop-i.i + 1)) (omega arith) (λ s x here. let b = i.below s x here in omega (arith, b));
      count = length_more c.loop-i.operands.items c.push.new.self.items c.operands_of.result c.loop-i.i i.count c.in_ok-push.ensures.items;
      numbered = numbered_more c.args.rows.now c.loop-i.operands.items c.push.new.self.items c.loop-i.i row c.operands_of.result i.count i.numbered at (c.operands_of.ensures.numbered c.args.rows.now c.loop-i.i (λ r less. ap (λ (xs : List ℕ). slice_get xs r) c.deref.ensures.value ∙ i.nodes r less) (λ s x here. i.below s x (sym (ap (λ (xs : List ℕ). slice_get xs s) c.deref.ensures.value) ∙ here))) c.in_ok-push.ensures.items;
    }
