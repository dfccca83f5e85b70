use Rattle.std.proofs.Common.{◌≡◌, ◌+◌, ◌*◌, ◌<◌, ◌≤◌, length, set, sym, ap, subst, ◌∙◌, arith}
use Rattle.std.specs.List.{remove}
use Rattle.std.proofs.lemmas.List.{length-set}
use Rattle.std.proofs.lemmas.List.Edits.{length-remove}
use Rattle.rept_versions.specs.Blocks.{flat, block, IsPacked}
use Rattle.rept_versions.proofs.BlockRow.{held, inner, removed, removed_packed}
use Rattle.rept_versions.proofs.blocks.Blocks.remove_last.Goals as goal

pub remove-requires : goal.remove-requires
remove-requires c =
    let bs = c.self.inside.blocks.items in
    let total : length (flat bs) ≡ length c.args.self.now.spans = ap (λ l. length l.spans) c.self.view_is in
    let over : c.args.k * 2048 ≤ length (flat bs) = omega (arith, total, c.requires.at) in
    let at : c.args.k < length bs = omega (arith, total, c.requires.at, c.self.invariant.len, c.self.invariant.fits, c.self.invariant.room) in
    let is : c.index_mut.result.now ≡ block bs c.args.k = held bs c.args.k c.index_mut.result.now at c.index_mut.ensures.value in
    let lt : c.args.r < length (block bs c.args.k) = inner bs c.args.k c.self.invariant.packed at over c.args.r (omega (arith, total, c.requires.at)) (omega (arith, c.requires.at, c.requires.last)) in
    omega (arith, ap length is, lt)

pub invariant_of-self : goal.invariant_of-self
invariant_of-self c =
    let bs = c.self.inside.blocks.items in
    let total : length (flat bs) ≡ length c.args.self.now.spans = ap (λ l. length l.spans) c.self.view_is in
    let over : c.args.k * 2048 ≤ length (flat bs) = omega (arith, total, c.requires.at) in
    let at : c.args.k < length bs = omega (arith, total, c.requires.at, c.self.invariant.len, c.self.invariant.fits, c.self.invariant.room) in
    let is : c.index_mut.result.now ≡ block bs c.args.k = held bs c.args.k c.index_mut.result.now at c.index_mut.ensures.value in
    let lt : c.args.r < length (block bs c.args.k) = inner bs c.args.k c.self.invariant.packed at over c.args.r (omega (arith, total, c.requires.at)) (omega (arith, c.requires.at, c.requires.last)) in
    let new : c.remove.new.self ≡ remove (block bs c.args.k) c.args.r = c.remove.ensures.removed ∙ ap (λ b. remove b c.args.r) is in
    let spans : flat (set bs c.args.k c.remove.new.self) ≡ remove (flat bs) (c.args.k * 2048 + c.args.r) = ap (λ b. flat (set bs c.args.k b)) new ∙ removed bs c.args.k c.self.invariant.packed at over c.args.r lt in
    record {
      packed = subst (λ b. IsPacked (set bs c.args.k b)) (sym new) (removed_packed bs c.args.k c.self.invariant.packed at over c.args.r lt (omega (arith, total, c.requires.last)));
      len = omega (arith, c.self.invariant.len, ap length spans, length-remove (flat bs) (c.args.k * 2048 + c.args.r) (omega (arith, total, c.requires.at)));
      fits = omega (arith, c.self.invariant.fits);
      room = omega (arith, c.self.invariant.room, length-set bs c.args.k c.remove.new.self);
    }

pub returns-clause-spans : goal.returns-clause-spans
returns-clause-spans c =
    let bs = c.self.inside.blocks.items in
    let total : length (flat bs) ≡ length c.args.self.now.spans = ap (λ l. length l.spans) c.self.view_is in
    let over : c.args.k * 2048 ≤ length (flat bs) = omega (arith, total, c.requires.at) in
    let at : c.args.k < length bs = omega (arith, total, c.requires.at, c.self.invariant.len, c.self.invariant.fits, c.self.invariant.room) in
    let is : c.index_mut.result.now ≡ block bs c.args.k = held bs c.args.k c.index_mut.result.now at c.index_mut.ensures.value in
    let lt : c.args.r < length (block bs c.args.k) = inner bs c.args.k c.self.invariant.packed at over c.args.r (omega (arith, total, c.requires.at)) (omega (arith, c.requires.at, c.requires.last)) in
    let new : c.remove.new.self ≡ remove (block bs c.args.k) c.args.r = c.remove.ensures.removed ∙ ap (λ b. remove b c.args.r) is in
    let spans : flat (set bs c.args.k c.remove.new.self) ≡ remove (flat bs) (c.args.k * 2048 + c.args.r) = ap (λ b. flat (set bs c.args.k b)) new ∙ removed bs c.args.k c.self.invariant.packed at over c.args.r lt in
    spans ∙ ap (λ l. remove l.spans (c.args.k * 2048 + c.args.r)) c.self.view_is
