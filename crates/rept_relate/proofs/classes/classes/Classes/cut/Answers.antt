use Rattle.std.proofs.Common.{refl, sym, ◌∙◌}
use Rattle.rept_relate.specs.declared.classes.node.ClassNode.{ClassNode}
use Rattle.rept_relate.proofs.ClassesLemmas.Changing.{cut_keeps, cut_tells, cut_refuses}
use Rattle.rept_relate.proofs.classes.classes.Classes.cut.Goals as goal

pub returns-in-None-clause-refuses : goal.returns-in-None-clause-refuses
returns-in-None-clause-refuses c = cut_refuses c.args.self.now c.args.x c.node-node.result c.args.set c.node-node.ensures.node (sym c.meet.ensures ∙ c.in-None.is)

pub returns-in-Some-clause-keeps : goal.returns-in-Some-clause-keeps
returns-in-Some-clause-keeps c =
    let cut : ClassNode = record { parent = c.node-node.result.parent; offset = c.node-node.result.offset; set = c.in-Some.met } in
    cut_keeps c.args.self.now c.args.x c.node-node.result c.args.set c.node-node.ensures.node c.put.new.self cut refl refl (sym c.meet.ensures ∙ c.in-Some.is) c.put.ensures.here c.put.ensures.others

pub returns-in-Some-clause-tells : goal.returns-in-Some-clause-tells
returns-in-Some-clause-tells c =
    let cut : ClassNode = record { parent = c.node-node.result.parent; offset = c.node-node.result.offset; set = c.in-Some.met } in
    cut_tells c.args.self.now c.args.x c.node-node.result c.args.set c.node-node.ensures.node c.put.new.self cut refl refl (sym c.meet.ensures ∙ c.in-Some.is) c.put.ensures.here c.put.ensures.others
