use Rattle.std.proofs.Common.{ℕ, List, ◌<◌, arith, subst}
use Rattle.std.specs.Prelude.{IsTrue}
use Rattle.std.specs.Str.{is_utf8}
use Rattle.rept_maps.specs.FileMap.{map_count}
use Rattle.rept_maps.proofs.Parts.{next_left, name_here}
use Rattle.rept_maps.proofs.entry.name_at.Goals as goal

pub text_of-requires : goal.text_of-requires
text_of-requires c =
    let desc = c.args.desc.now in
    let inside : c.loop-k.k < map_count desc = omega (arith, c.loop-k-test.true, c.word-count.ensures) in
    let here = name_here desc c.loop-k.rest.now c.in-Some.named.after.now c.in-Some.named.name.now c.loop-k.k c.loop-k.invariant.left c.in-Some.ensures in
    subst (λ (n : List ℕ). IsTrue (is_utf8 n)) here (c.requires.map.each c.loop-k.k inside).text

pub loop-k-preserved : goal.loop-k-preserved
loop-k-preserved c = record {
  left = next_left c.args.desc.now c.loop-k.rest.now c.in-Some.named.after.now c.in-Some.named.name.now c.loop-k.k c.loop-k.invariant.left c.in-Some.ensures;
  before = omega (arith, c.loop-k.invariant.before, c.if-k-i.false);
}
