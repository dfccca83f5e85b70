use Rattle.std.proofs.Common.{◌+◌, ap, ℕ, ◌∙◌}
use Rattle.rept_relate.specs.Numbering.{value_in}
use Rattle.rept_infer.proofs.Classing.{first_gathered}
use Rattle.rept_infer.proofs.relating.gather_first.Goals as goal

pub loop-r-preserved : goal.loop-r-preserved
loop-r-preserved c =
    let i = c.loop-r.invariant in
    record {
      len = c.in_ok-_node.ensures.len ∙ ap (λ (k : ℕ). k + 1) i.len;
      valued = λ story run h. c.in_ok-_node.ensures.keeps (value_in story.rows run) (i.valued story run h) (first_gathered story c.args.table.now run c.loop-r.r c.register.result c.in_ok-_node._node c.at.result c.loop-r-test.true c.register.ensures (c.in_ok-_node.ensures.node ∙ i.len) c.at.ensures.value h);
    }
