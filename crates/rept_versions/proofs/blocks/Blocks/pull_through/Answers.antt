use Rattle.std.proofs.Common.{◌≡◌, suc, ◌+◌, ◌*◌, ◌<◌, ◌≤◌, ◌∷◌, ◌++◌, [], length, set, sym, ap, subst, ◌∙◌, arith}
use Rattle.std.specs.List.{insert, remove}
use Rattle.std.proofs.lemmas.List.{length-set}
use Rattle.rept_versions.specs.Line.{nth}
use Rattle.rept_versions.specs.Blocks.{flat, block, IsPacked}
use Rattle.rept_versions.proofs.BlockRow.{held, full, pulled, pulled_is, pulled_packed, pulled_same}
use Rattle.rept_versions.proofs.blocks.Blocks.pull_through.Goals as goal

pub pull_through-requires : goal.pull_through-requires
pull_through-requires c =
    let bs = c.self.inside.blocks.items in
    let total : length (flat bs) ≡ length c.args.self.now.spans = ap (λ l. length l.spans) c.self.view_is in
    let over : c.args.k * 2048 ≤ length (flat bs) = omega (arith, total, c.requires.full) in
    let at : c.args.k < length bs = omega (arith, total, c.requires.full, c.self.invariant.len, c.self.invariant.fits, c.self.invariant.room) in
    let is : c.index_mut.result.now ≡ block bs c.args.k = held bs c.args.k c.index_mut.result.now at c.index_mut.ensures.value in
    let whole : length (block bs c.args.k) ≡ 2048 = full bs c.args.k c.self.invariant.packed at over (omega (arith, total, c.requires.full)) in
    omega (arith, ap length is, whole, c.requires.at)

pub invariant_of-self : goal.invariant_of-self
invariant_of-self c =
    let bs = c.self.inside.blocks.items in
    let total : length (flat bs) ≡ length c.args.self.now.spans = ap (λ l. length l.spans) c.self.view_is in
    let over : c.args.k * 2048 ≤ length (flat bs) = omega (arith, total, c.requires.full) in
    let at : c.args.k < length bs = omega (arith, total, c.requires.full, c.self.invariant.len, c.self.invariant.fits, c.self.invariant.room) in
    let is : c.index_mut.result.now ≡ block bs c.args.k = held bs c.args.k c.index_mut.result.now at c.index_mut.ensures.value in
    let whole : length (block bs c.args.k) ≡ 2048 = full bs c.args.k c.self.invariant.packed at over (omega (arith, total, c.requires.full)) in
    let new : c.pull_through.new.self ≡ pulled bs c.args.k c.self.invariant.packed at over c.args.r c.args.s c.requires.at whole = c.pull_through.ensures.moved ∙ ap (λ b. remove b c.args.r ++ c.args.s ∷ []) is in
    record {
      packed = subst (λ b. IsPacked (set bs c.args.k b)) (sym new) (pulled_packed bs c.args.k c.self.invariant.packed at over c.args.r c.args.s c.requires.at whole);
      len = c.self.invariant.len ∙ sym (ap (λ b. length (flat (set bs c.args.k b))) new ∙ pulled_same bs c.args.k c.self.invariant.packed at over c.args.r c.args.s c.requires.at whole);
      fits = c.self.invariant.fits;
      room = omega (arith, c.self.invariant.room, length-set bs c.args.k c.pull_through.new.self);
    }

pub returns-clause-spans : goal.returns-clause-spans
returns-clause-spans c =
    let bs = c.self.inside.blocks.items in
    let total : length (flat bs) ≡ length c.args.self.now.spans = ap (λ l. length l.spans) c.self.view_is in
    let over : c.args.k * 2048 ≤ length (flat bs) = omega (arith, total, c.requires.full) in
    let at : c.args.k < length bs = omega (arith, total, c.requires.full, c.self.invariant.len, c.self.invariant.fits, c.self.invariant.room) in
    let is : c.index_mut.result.now ≡ block bs c.args.k = held bs c.args.k c.index_mut.result.now at c.index_mut.ensures.value in
    let whole : length (block bs c.args.k) ≡ 2048 = full bs c.args.k c.self.invariant.packed at over (omega (arith, total, c.requires.full)) in
    let new : c.pull_through.new.self ≡ pulled bs c.args.k c.self.invariant.packed at over c.args.r c.args.s c.requires.at whole = c.pull_through.ensures.moved ∙ ap (λ b. remove b c.args.r ++ c.args.s ∷ []) is in
    let gone : c.pull_through.result ≡ nth (block bs c.args.k) c.args.r = c.pull_through.ensures.gone ∙ ap (λ b. nth b c.args.r) is in
    ap (λ b. insert (flat (set bs c.args.k b)) (c.args.k * 2048 + c.args.r) c.pull_through.result) new
    ∙ (ap (λ x. insert (flat (set bs c.args.k (pulled bs c.args.k c.self.invariant.packed at over c.args.r c.args.s c.requires.at whole))) (c.args.k * 2048 + c.args.r) x) gone
    ∙ (pulled_is bs c.args.k c.self.invariant.packed at over c.args.r c.args.s c.requires.at whole ∙ ap (λ l. insert l.spans (suc c.args.k * 2048) c.args.s) c.self.view_is))

pub returns-clause-len : goal.returns-clause-len
returns-clause-len c =
    let bs = c.self.inside.blocks.items in
    let total : length (flat bs) ≡ length c.args.self.now.spans = ap (λ l. length l.spans) c.self.view_is in
    let over : c.args.k * 2048 ≤ length (flat bs) = omega (arith, total, c.requires.full) in
    let at : c.args.k < length bs = omega (arith, total, c.requires.full, c.self.invariant.len, c.self.invariant.fits, c.self.invariant.room) in
    let is : c.index_mut.result.now ≡ block bs c.args.k = held bs c.args.k c.index_mut.result.now at c.index_mut.ensures.value in
    let whole : length (block bs c.args.k) ≡ 2048 = full bs c.args.k c.self.invariant.packed at over (omega (arith, total, c.requires.full)) in
    let new : c.pull_through.new.self ≡ pulled bs c.args.k c.self.invariant.packed at over c.args.r c.args.s c.requires.at whole = c.pull_through.ensures.moved ∙ ap (λ b. remove b c.args.r ++ c.args.s ∷ []) is in
    ap (λ b. length (flat (set bs c.args.k b))) new ∙ (pulled_same bs c.args.k c.self.invariant.packed at over c.args.r c.args.s c.requires.at whole ∙ total)
