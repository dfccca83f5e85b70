use Rattle.std.proofs.Common.{◌+◌, ◌<◌, length, ◌∙◌, arith}
use Rattle.rept_relate.specs.Numbering.{value_in}
use Rattle.rept_relate.proofs.Counting.{at_row}
use Rattle.rept_relate.proofs.Rowing.{row_of_walk, step_of_walk}
use Rattle.rept_relate.proofs.passes.relate_rows.Goals as goal

pub returns-in-Err-clause-refuses : goal.returns-in-Err-clause-refuses
returns-in-Err-clause-refuses c =
    let i = c.loop-i.invariant in
    let at = at_row c.args.path.rows.now c.loop-i.i c.index-rows-i.result c.loop-i-test.true c.index-rows-i.is in
    let numbered = c.requires.numbered c.loop-i.i c.index-rows-i.result c.nodes_at-nodes.result at c.nodes_at-nodes.ensures in
    λ image_end run walk within valued. c.in-Err.ensures.refuses (value_in c.args.path.rows.now run) (row_of_walk image_end c.args.path.rows.now run c.loop-i.i c.index-rows-i.result c.nodes_at-nodes.result walk at numbered) (i.valued image_end run walk within valued) (i.results image_end run walk within valued)

pub relate_words-requires-clause-first : goal.relate_words-requires-clause-first
relate_words-requires-clause-first c =
    let i = c.loop-i.invariant in
    let at = at_row c.args.path.rows.now c.loop-i.i c.index-rows-i.result c.loop-i-test.true c.index-rows-i.is in
    let numbered = c.requires.numbered c.loop-i.i c.index-rows-i.result c.nodes_at-nodes.result at c.nodes_at-nodes.ensures in
    let less = numbered.first_below in
    let n = c.requires.nodes in
    let t = c.loop-i-test.true in
    let l = c.in-Ok.ensures.len in
    let m = i.len in
    omega (arith, less, n, t, l, m)

pub returns-in-Err-relate_words-clause-refuses : goal.returns-in-Err-relate_words-clause-refuses
returns-in-Err-relate_words-clause-refuses c =
    let i = c.loop-i.invariant in
    let at = at_row c.args.path.rows.now c.loop-i.i c.index-rows-i.result c.loop-i-test.true c.index-rows-i.is in
    let numbered = c.requires.numbered c.loop-i.i c.index-rows-i.result c.nodes_at-nodes.result at c.nodes_at-nodes.ensures in
    λ image_end run walk within valued.
    let r = c.in-Ok.ensures.keeps (value_in c.args.path.rows.now run) (row_of_walk image_end c.args.path.rows.now run c.loop-i.i c.index-rows-i.result c.nodes_at-nodes.result walk at numbered) (i.valued image_end run walk within valued) (i.results image_end run walk within valued) in
    c.in-Err-relate_words.ensures.refuses (value_in c.args.path.rows.now run) image_end (run c.loop-i.i) (run (c.loop-i.i + 1)) (step_of_walk image_end c.args.path.rows.now run c.loop-i.i c.index-rows-i.result c.nodes_at-nodes.result walk at numbered) r.0 (i.held image_end run walk within valued)

pub loop-i-preserved : goal.loop-i-preserved
loop-i-preserved c =
    let i = c.loop-i.invariant in
    let at = at_row c.args.path.rows.now c.loop-i.i c.index-rows-i.result c.loop-i-test.true c.index-rows-i.is in
    let numbered = c.requires.numbered c.loop-i.i c.index-rows-i.result c.nodes_at-nodes.result at c.nodes_at-nodes.ensures in
    let n = c.requires.nodes in
    let t = c.loop-i-test.true in
    let second = numbered.second_below in
    let below : 32 + c.loop-i.i < length c.args.classes.now = omega (arith, n, t) in
    let operand : c.nodes_at-nodes.result.second < length c.args.classes.now = omega (arith, n, t, second) in
    record {
      len = c.in-Ok-relate_words.ensures.len ∙ c.in-Ok.ensures.len ∙ i.len;
      below = c.in-Ok.ensures.below (length c.args.classes.now) i.below below;
      valued = λ image_end run walk within valued.
          let r = c.in-Ok.ensures.keeps (value_in c.args.path.rows.now run) (row_of_walk image_end c.args.path.rows.now run c.loop-i.i c.index-rows-i.result c.nodes_at-nodes.result walk at numbered) (i.valued image_end run walk within valued) (i.results image_end run walk within valued) in
          (c.in-Ok-relate_words.ensures.keeps (value_in c.args.path.rows.now run) image_end (run c.loop-i.i) (run (c.loop-i.i + 1)) (step_of_walk image_end c.args.path.rows.now run c.loop-i.i c.index-rows-i.result c.nodes_at-nodes.result walk at numbered) (within c.loop-i.i c.index-rows-i.result c.access_at.result at c.access_at.ensures) r.0 (i.held image_end run walk within valued)).0;
      nodes = c.in-Ok-relate_words.ensures.below (length c.args.classes.now) i.nodes below operand;
      held = λ image_end run walk within valued.
          let r = c.in-Ok.ensures.keeps (value_in c.args.path.rows.now run) (row_of_walk image_end c.args.path.rows.now run c.loop-i.i c.index-rows-i.result c.nodes_at-nodes.result walk at numbered) (i.valued image_end run walk within valued) (i.results image_end run walk within valued) in
          (c.in-Ok-relate_words.ensures.keeps (value_in c.args.path.rows.now run) image_end (run c.loop-i.i) (run (c.loop-i.i + 1)) (step_of_walk image_end c.args.path.rows.now run c.loop-i.i c.index-rows-i.result c.nodes_at-nodes.result walk at numbered) (within c.loop-i.i c.index-rows-i.result c.access_at.result at c.access_at.ensures) r.0 (i.held image_end run walk within valued)).1;
      results = λ image_end run walk within valued. (c.in-Ok.ensures.keeps (value_in c.args.path.rows.now run) (row_of_walk image_end c.args.path.rows.now run c.loop-i.i c.index-rows-i.result c.nodes_at-nodes.result walk at numbered) (i.valued image_end run walk within valued) (i.results image_end run walk within valued)).1;
    }
