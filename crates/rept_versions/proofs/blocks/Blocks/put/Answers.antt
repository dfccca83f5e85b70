use Rattle.std.proofs.Common.{◌≡◌, ◌+◌, ◌*◌, ◌/◌, ◌%◌, ◌<◌, ◌≤◌, length, set, sym, ap, subst, ◌∙◌, arith}
use Rattle.std.proofs.lemmas.List.{length-set}
use Rattle.rept_versions.specs.Blocks.{flat, block, IsPacked}
use Rattle.rept_versions.proofs.BlockRow.{held, inner, put_is, put_packed}
use Rattle.rept_versions.proofs.blocks.Blocks.put.Goals as goal

pub put-requires : goal.put-requires
put-requires c =
    let bs = c.self.inside.blocks.items in
    let total : length (flat bs) ≡ length c.args.self.now.spans = ap (λ l. length l.spans) c.self.view_is in
    let over : c.args.i / 2048 * 2048 ≤ length (flat bs) = omega (arith, total, c.requires) in
    let at : c.args.i / 2048 < length bs = omega (arith, total, c.requires, c.self.invariant.len, c.self.invariant.fits, c.self.invariant.room) in
    let is : c.index_mut.result.now ≡ block bs (c.args.i / 2048) = held bs (c.args.i / 2048) c.index_mut.result.now at c.index_mut.ensures.value in
    let lt : c.args.i % 2048 < length (block bs (c.args.i / 2048)) = inner bs (c.args.i / 2048) c.self.invariant.packed at over (c.args.i % 2048) (omega (arith, total, c.requires)) (omega arith) in
    omega (arith, ap length is, lt)

pub invariant_of-self : goal.invariant_of-self
invariant_of-self c =
    let bs = c.self.inside.blocks.items in
    let total : length (flat bs) ≡ length c.args.self.now.spans = ap (λ l. length l.spans) c.self.view_is in
    let over : c.args.i / 2048 * 2048 ≤ length (flat bs) = omega (arith, total, c.requires) in
    let at : c.args.i / 2048 < length bs = omega (arith, total, c.requires, c.self.invariant.len, c.self.invariant.fits, c.self.invariant.room) in
    let is : c.index_mut.result.now ≡ block bs (c.args.i / 2048) = held bs (c.args.i / 2048) c.index_mut.result.now at c.index_mut.ensures.value in
    let lt : c.args.i % 2048 < length (block bs (c.args.i / 2048)) = inner bs (c.args.i / 2048) c.self.invariant.packed at over (c.args.i % 2048) (omega (arith, total, c.requires)) (omega arith) in
    let new : c.put.new.self ≡ set (block bs (c.args.i / 2048)) (c.args.i % 2048) c.args.s = c.put.ensures ∙ ap (λ b. set b (c.args.i % 2048) c.args.s) is in
    let spans : flat (set bs (c.args.i / 2048) c.put.new.self) ≡ set (flat bs) (c.args.i / 2048 * 2048 + c.args.i % 2048) c.args.s = ap (λ b. flat (set bs (c.args.i / 2048) b)) new ∙ put_is bs (c.args.i / 2048) c.self.invariant.packed at over (c.args.i % 2048) c.args.s lt in
    record {
      packed = subst (λ b. IsPacked (set bs (c.args.i / 2048) b)) (sym new) (put_packed bs (c.args.i / 2048) c.self.invariant.packed at over (c.args.i % 2048) c.args.s);
      len = c.self.invariant.len ∙ sym (ap length spans ∙ length-set (flat bs) (c.args.i / 2048 * 2048 + c.args.i % 2048) c.args.s);
      fits = c.self.invariant.fits;
      room = omega (arith, c.self.invariant.room, length-set bs (c.args.i / 2048) c.put.new.self);
    }

pub returns-clause-spans : goal.returns-clause-spans
returns-clause-spans c =
    let bs = c.self.inside.blocks.items in
    let total : length (flat bs) ≡ length c.args.self.now.spans = ap (λ l. length l.spans) c.self.view_is in
    let over : c.args.i / 2048 * 2048 ≤ length (flat bs) = omega (arith, total, c.requires) in
    let at : c.args.i / 2048 < length bs = omega (arith, total, c.requires, c.self.invariant.len, c.self.invariant.fits, c.self.invariant.room) in
    let is : c.index_mut.result.now ≡ block bs (c.args.i / 2048) = held bs (c.args.i / 2048) c.index_mut.result.now at c.index_mut.ensures.value in
    let lt : c.args.i % 2048 < length (block bs (c.args.i / 2048)) = inner bs (c.args.i / 2048) c.self.invariant.packed at over (c.args.i % 2048) (omega (arith, total, c.requires)) (omega arith) in
    let new : c.put.new.self ≡ set (block bs (c.args.i / 2048)) (c.args.i % 2048) c.args.s = c.put.ensures ∙ ap (λ b. set b (c.args.i % 2048) c.args.s) is in
    let spans : flat (set bs (c.args.i / 2048) c.put.new.self) ≡ set (flat bs) (c.args.i / 2048 * 2048 + c.args.i % 2048) c.args.s = ap (λ b. flat (set bs (c.args.i / 2048) b)) new ∙ put_is bs (c.args.i / 2048) c.self.invariant.packed at over (c.args.i % 2048) c.args.s lt in
    spans ∙ (ap (λ l. set l.spans (c.args.i / 2048 * 2048 + c.args.i % 2048) c.args.s) c.self.view_is ∙ ap (λ j. set c.args.self.now.spans j c.args.s) (omega arith))
