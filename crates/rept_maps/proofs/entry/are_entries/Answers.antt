use Rattle.std.proofs.Common.{ℕ, List, ◌<◌, arith, sym, subst, below_more}
use Rattle.rept_maps.specs.FileMap.{IsEntry, entry_at, entry_named, map_count}
use Rattle.rept_maps.proofs.Parts.{next_left, name_here, all_end}
use Rattle.rept_maps.proofs.entry.are_entries.Goals as goal

pub returns-else-is_entry : goal.returns-else-is_entry
returns-else-is_entry c m =
    let desc = c.args.desc.now in
    let inside : c.loop-i.i < map_count desc = omega (arith, c.loop-i-test.true, c.word-count.ensures) in
    let here = name_here desc c.loop-i.rest.now c.in-Some.named.after.now c.in-Some.named.name.now c.loop-i.i c.loop-i.invariant.left c.in-Some.ensures in
    c.if-is_entry.ensures (subst (λ (n : List ℕ). IsEntry (entry_named desc c.loop-i.i n)) here (m.each c.loop-i.i inside))

pub loop-i-preserved : goal.loop-i-preserved
loop-i-preserved c =
    let desc = c.args.desc.now in
    let here = name_here desc c.loop-i.rest.now c.in-Some.named.after.now c.in-Some.named.name.now c.loop-i.i c.loop-i.invariant.left c.in-Some.ensures in
    let this : IsEntry (entry_at desc c.loop-i.i) = subst (λ (n : List ℕ). IsEntry (entry_named desc c.loop-i.i n)) (sym here) c.if-is_entry.ensures in
    record {
      left = next_left desc c.loop-i.rest.now c.in-Some.named.after.now c.in-Some.named.name.now c.loop-i.i c.loop-i.invariant.left c.in-Some.ensures;
      each = below_more (λ (k : ℕ). IsEntry (entry_at desc k)) c.loop-i.i c.loop-i.invariant.each this;
    }

pub returns : goal.returns
returns c =
    let desc = c.args.desc.now in
    record {
      header = c.requires.header;
      entries = c.requires.entries;
      ended = omega (arith, all_end desc c.loop-i.rest.now c.loop-i.i c.loop-i.invariant.left, c.loop-i-test.false, c.word-count.ensures);
      each = λ k h. c.loop-i.invariant.each k (omega (arith, h, c.loop-i-test.false, c.word-count.ensures));
    }
