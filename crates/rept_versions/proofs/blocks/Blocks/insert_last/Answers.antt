use Rattle.std.proofs.Common.{◌≡◌, ◌+◌, ◌*◌, ◌<◌, ◌≤◌, length, set, sym, ap, subst, ◌∙◌, arith}
use Rattle.std.specs.List.{insert}
use Rattle.std.proofs.lemmas.List.{length-set}
use Rattle.std.proofs.lemmas.List.Edits.{length-insert}
use Rattle.rept_versions.specs.Blocks.{flat, block, IsPacked}
use Rattle.rept_versions.proofs.BlockRow.{held, short, up_to, inserted, inserted_packed}
use Rattle.rept_versions.proofs.blocks.Blocks.insert_last.Goals as goal

pub insert-requires-clause-at : goal.insert-requires-clause-at
insert-requires-clause-at c =
    let bs = c.self.inside.blocks.items in
    let total : length (flat bs) ≡ length c.args.self.now.spans = ap (λ l. length l.spans) c.self.view_is in
    let over : c.args.k * 2048 ≤ length (flat bs) = omega (arith, total, c.requires.at) in
    let has : c.self.inside.room ≡ c.args.self.now.room = ap (λ l. l.room) c.self.view_is in
    let at : c.args.k < length bs = omega (arith, total, c.requires.at, c.requires.room, has, c.self.invariant.len, c.self.invariant.room) in
    let is : c.index_mut.result.now ≡ block bs c.args.k = held bs c.args.k c.index_mut.result.now at c.index_mut.ensures.value in
    let less : length (block bs c.args.k) < 2048 = short bs c.args.k c.self.invariant.packed at over (omega (arith, total, c.requires.last)) in
    let le : c.args.r ≤ length (block bs c.args.k) = up_to bs c.args.k c.self.invariant.packed at over c.args.r (omega (arith, total, c.requires.at)) less in
    omega (arith, ap length is, le)

pub insert-requires-clause-room : goal.insert-requires-clause-room
insert-requires-clause-room c =
    let bs = c.self.inside.blocks.items in
    let total : length (flat bs) ≡ length c.args.self.now.spans = ap (λ l. length l.spans) c.self.view_is in
    let over : c.args.k * 2048 ≤ length (flat bs) = omega (arith, total, c.requires.at) in
    let has : c.self.inside.room ≡ c.args.self.now.room = ap (λ l. l.room) c.self.view_is in
    let at : c.args.k < length bs = omega (arith, total, c.requires.at, c.requires.room, has, c.self.invariant.len, c.self.invariant.room) in
    let is : c.index_mut.result.now ≡ block bs c.args.k = held bs c.args.k c.index_mut.result.now at c.index_mut.ensures.value in
    let less : length (block bs c.args.k) < 2048 = short bs c.args.k c.self.invariant.packed at over (omega (arith, total, c.requires.last)) in
    let le : c.args.r ≤ length (block bs c.args.k) = up_to bs c.args.k c.self.invariant.packed at over c.args.r (omega (arith, total, c.requires.at)) less in
    omega (arith, ap length is, less)

pub invariant_of-self : goal.invariant_of-self
invariant_of-self c =
    let bs = c.self.inside.blocks.items in
    let total : length (flat bs) ≡ length c.args.self.now.spans = ap (λ l. length l.spans) c.self.view_is in
    let over : c.args.k * 2048 ≤ length (flat bs) = omega (arith, total, c.requires.at) in
    let has : c.self.inside.room ≡ c.args.self.now.room = ap (λ l. l.room) c.self.view_is in
    let at : c.args.k < length bs = omega (arith, total, c.requires.at, c.requires.room, has, c.self.invariant.len, c.self.invariant.room) in
    let is : c.index_mut.result.now ≡ block bs c.args.k = held bs c.args.k c.index_mut.result.now at c.index_mut.ensures.value in
    let less : length (block bs c.args.k) < 2048 = short bs c.args.k c.self.invariant.packed at over (omega (arith, total, c.requires.last)) in
    let le : c.args.r ≤ length (block bs c.args.k) = up_to bs c.args.k c.self.invariant.packed at over c.args.r (omega (arith, total, c.requires.at)) less in
    let new : c.insert.new.self ≡ insert (block bs c.args.k) c.args.r c.args.s = c.insert.ensures ∙ ap (λ b. insert b c.args.r c.args.s) is in
    let spans : flat (set bs c.args.k c.insert.new.self) ≡ insert (flat bs) (c.args.k * 2048 + c.args.r) c.args.s = ap (λ b. flat (set bs c.args.k b)) new ∙ inserted bs c.args.k c.self.invariant.packed at over c.args.r c.args.s le in
    record {
      packed = subst (λ b. IsPacked (set bs c.args.k b)) (sym new) (inserted_packed bs c.args.k c.self.invariant.packed at over c.args.r c.args.s le less);
      len = sym (ap length spans ∙ (length-insert (flat bs) (c.args.k * 2048 + c.args.r) c.args.s (omega (arith, total, c.requires.at)) ∙ omega (arith, c.self.invariant.len)));
      fits = omega (arith, total, c.requires.room, has, c.self.invariant.len);
      room = omega (arith, c.self.invariant.room, length-set bs c.args.k c.insert.new.self);
    }

pub returns-clause-spans : goal.returns-clause-spans
returns-clause-spans c =
    let bs = c.self.inside.blocks.items in
    let total : length (flat bs) ≡ length c.args.self.now.spans = ap (λ l. length l.spans) c.self.view_is in
    let over : c.args.k * 2048 ≤ length (flat bs) = omega (arith, total, c.requires.at) in
    let has : c.self.inside.room ≡ c.args.self.now.room = ap (λ l. l.room) c.self.view_is in
    let at : c.args.k < length bs = omega (arith, total, c.requires.at, c.requires.room, has, c.self.invariant.len, c.self.invariant.room) in
    let is : c.index_mut.result.now ≡ block bs c.args.k = held bs c.args.k c.index_mut.result.now at c.index_mut.ensures.value in
    let less : length (block bs c.args.k) < 2048 = short bs c.args.k c.self.invariant.packed at over (omega (arith, total, c.requires.last)) in
    let le : c.args.r ≤ length (block bs c.args.k) = up_to bs c.args.k c.self.invariant.packed at over c.args.r (omega (arith, total, c.requires.at)) less in
    let new : c.insert.new.self ≡ insert (block bs c.args.k) c.args.r c.args.s = c.insert.ensures ∙ ap (λ b. insert b c.args.r c.args.s) is in
    let spans : flat (set bs c.args.k c.insert.new.self) ≡ insert (flat bs) (c.args.k * 2048 + c.args.r) c.args.s = ap (λ b. flat (set bs c.args.k b)) new ∙ inserted bs c.args.k c.self.invariant.packed at over c.args.r c.args.s le in
    spans ∙ ap (λ l. insert l.spans (c.args.k * 2048 + c.args.r) c.args.s) c.self.view_is
