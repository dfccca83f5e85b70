use Rattle.std.proofs.Common.{◌≡◌, ◌+◌, ◌*◌, ◌/◌, ◌%◌, ◌<◌, ◌≤◌, length, sym, ap, ◌∙◌, arith}
use Rattle.rept_versions.specs.Line.{nth}
use Rattle.rept_versions.specs.Blocks.{flat, block}
use Rattle.rept_versions.proofs.BlockRow.{held, inner, reads}
use Rattle.rept_versions.proofs.blocks.Blocks.at.Goals as goal

pub at-requires : goal.at-requires
at-requires c =
    let bs = c.self.inside.blocks.items in
    let total : length (flat bs) ≡ length c.args.self.now.spans = ap (λ l. length l.spans) c.self.view_is in
    let over : c.args.i / 2048 * 2048 ≤ length (flat bs) = omega (arith, total, c.requires) in
    let at : c.args.i / 2048 < length bs = omega (arith, total, c.requires, c.self.invariant.len, c.self.invariant.fits, c.self.invariant.room) in
    let is : c.index.result.now ≡ block bs (c.args.i / 2048) = held bs (c.args.i / 2048) c.index.result.now at c.index.ensures in
    let lt : c.args.i % 2048 < length (block bs (c.args.i / 2048)) = inner bs (c.args.i / 2048) c.self.invariant.packed at over (c.args.i % 2048) (omega (arith, total, c.requires)) (omega arith) in
    omega (arith, ap length is, lt)

pub returns : goal.returns
returns c =
    let bs = c.self.inside.blocks.items in
    let total : length (flat bs) ≡ length c.args.self.now.spans = ap (λ l. length l.spans) c.self.view_is in
    let over : c.args.i / 2048 * 2048 ≤ length (flat bs) = omega (arith, total, c.requires) in
    let at : c.args.i / 2048 < length bs = omega (arith, total, c.requires, c.self.invariant.len, c.self.invariant.fits, c.self.invariant.room) in
    let is : c.index.result.now ≡ block bs (c.args.i / 2048) = held bs (c.args.i / 2048) c.index.result.now at c.index.ensures in
    let lt : c.args.i % 2048 < length (block bs (c.args.i / 2048)) = inner bs (c.args.i / 2048) c.self.invariant.packed at over (c.args.i % 2048) (omega (arith, total, c.requires)) (omega arith) in
    c.at.ensures.span ∙ (ap (λ b. nth b (c.args.i % 2048)) is
    ∙ (sym (reads bs (c.args.i / 2048) c.self.invariant.packed at over (c.args.i % 2048) lt)
    ∙ (ap (λ l. nth l.spans (c.args.i / 2048 * 2048 + c.args.i % 2048)) c.self.view_is ∙ ap (λ j. nth c.args.self.now.spans j) (omega arith))))
