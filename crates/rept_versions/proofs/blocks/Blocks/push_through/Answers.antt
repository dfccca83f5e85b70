use Rattle.std.proofs.Common.{◌≡◌, suc, ◌+◌, ◌-◌, ◌*◌, ◌<◌, ◌≤◌, length, take, set, sym, ap, subst, ◌∙◌, arith}
use Rattle.std.specs.List.{insert}
use Rattle.std.proofs.lemmas.List.{length-set}
use Rattle.rept_versions.specs.Line.{nth}
use Rattle.rept_versions.specs.Blocks.{flat, block, IsPacked}
use Rattle.rept_versions.proofs.BlockRow.{held, full, pushed, pushed_is, pushed_packed, pushed_same}
use Rattle.rept_versions.proofs.blocks.Blocks.push_through.Goals as goal

pub push_through-requires-clause-full : goal.push_through-requires-clause-full
push_through-requires-clause-full c =
    let bs = c.self.inside.blocks.items in
    let total : length (flat bs) ≡ length c.args.self.now.spans = ap (λ l. length l.spans) c.self.view_is in
    let over : c.args.k * 2048 ≤ length (flat bs) = omega (arith, total, c.requires.full) in
    let at : c.args.k < length bs = omega (arith, total, c.requires.full, c.self.invariant.len, c.self.invariant.fits, c.self.invariant.room) in
    let is : c.index_mut.result.now ≡ block bs c.args.k = held bs c.args.k c.index_mut.result.now at c.index_mut.ensures.value in
    let whole : length (block bs c.args.k) ≡ 2048 = full bs c.args.k c.self.invariant.packed at over (omega (arith, total, c.requires.full)) in
    ap length is ∙ whole

pub invariant_of-self : goal.invariant_of-self
invariant_of-self c =
    let bs = c.self.inside.blocks.items in
    let total : length (flat bs) ≡ length c.args.self.now.spans = ap (λ l. length l.spans) c.self.view_is in
    let over : c.args.k * 2048 ≤ length (flat bs) = omega (arith, total, c.requires.full) in
    let at : c.args.k < length bs = omega (arith, total, c.requires.full, c.self.invariant.len, c.self.invariant.fits, c.self.invariant.room) in
    let is : c.index_mut.result.now ≡ block bs c.args.k = held bs c.args.k c.index_mut.result.now at c.index_mut.ensures.value in
    let whole : length (block bs c.args.k) ≡ 2048 = full bs c.args.k c.self.invariant.packed at over (omega (arith, total, c.requires.full)) in
    let new : c.push_through.new.self ≡ pushed bs c.args.k c.self.invariant.packed at over c.args.r c.args.s c.requires.at whole = c.push_through.ensures.moved ∙ ap (λ b. insert (take (length b - 1) b) c.args.r c.args.s) is in
    record {
      packed = subst (λ b. IsPacked (set bs c.args.k b)) (sym new) (pushed_packed bs c.args.k c.self.invariant.packed at over c.args.r c.args.s c.requires.at whole);
      len = c.self.invariant.len ∙ sym (ap (λ b. length (flat (set bs c.args.k b))) new ∙ pushed_same bs c.args.k c.self.invariant.packed at over c.args.r c.args.s c.requires.at whole);
      fits = c.self.invariant.fits;
      room = omega (arith, c.self.invariant.room, length-set bs c.args.k c.push_through.new.self);
    }

pub returns-clause-spans : goal.returns-clause-spans
returns-clause-spans c =
    let bs = c.self.inside.blocks.items in
    let total : length (flat bs) ≡ length c.args.self.now.spans = ap (λ l. length l.spans) c.self.view_is in
    let over : c.args.k * 2048 ≤ length (flat bs) = omega (arith, total, c.requires.full) in
    let at : c.args.k < length bs = omega (arith, total, c.requires.full, c.self.invariant.len, c.self.invariant.fits, c.self.invariant.room) in
    let is : c.index_mut.result.now ≡ block bs c.args.k = held bs c.args.k c.index_mut.result.now at c.index_mut.ensures.value in
    let whole : length (block bs c.args.k) ≡ 2048 = full bs c.args.k c.self.invariant.packed at over (omega (arith, total, c.requires.full)) in
    let new : c.push_through.new.self ≡ pushed bs c.args.k c.self.invariant.packed at over c.args.r c.args.s c.requires.at whole = c.push_through.ensures.moved ∙ ap (λ b. insert (take (length b - 1) b) c.args.r c.args.s) is in
    let last : c.push_through.result ≡ nth (block bs c.args.k) 2047 = c.push_through.ensures.last ∙ ap (λ b. nth b 2047) is in
    ap (λ b. insert (flat (set bs c.args.k b)) (suc c.args.k * 2048) c.push_through.result) new
    ∙ (ap (λ x. insert (flat (set bs c.args.k (pushed bs c.args.k c.self.invariant.packed at over c.args.r c.args.s c.requires.at whole))) (suc c.args.k * 2048) x) last
    ∙ (pushed_is bs c.args.k c.self.invariant.packed at over c.args.r c.args.s c.requires.at whole ∙ ap (λ l. insert l.spans (c.args.k * 2048 + c.args.r) c.args.s) c.self.view_is))

pub returns-clause-len : goal.returns-clause-len
returns-clause-len c =
    let bs = c.self.inside.blocks.items in
    let total : length (flat bs) ≡ length c.args.self.now.spans = ap (λ l. length l.spans) c.self.view_is in
    let over : c.args.k * 2048 ≤ length (flat bs) = omega (arith, total, c.requires.full) in
    let at : c.args.k < length bs = omega (arith, total, c.requires.full, c.self.invariant.len, c.self.invariant.fits, c.self.invariant.room) in
    let is : c.index_mut.result.now ≡ block bs c.args.k = held bs c.args.k c.index_mut.result.now at c.index_mut.ensures.value in
    let whole : length (block bs c.args.k) ≡ 2048 = full bs c.args.k c.self.invariant.packed at over (omega (arith, total, c.requires.full)) in
    let new : c.push_through.new.self ≡ pushed bs c.args.k c.self.invariant.packed at over c.args.r c.args.s c.requires.at whole = c.push_through.ensures.moved ∙ ap (λ b. insert (take (length b - 1) b) c.args.r c.args.s) is in
    ap (λ b. length (flat (set bs c.args.k b))) new ∙ (pushed_same bs c.args.k c.self.invariant.packed at over c.args.r c.args.s c.requires.at whole ∙ total)
