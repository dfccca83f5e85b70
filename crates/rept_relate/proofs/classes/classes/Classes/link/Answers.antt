use Rattle.std.proofs.Common.{◌+◌, ◌-◌, ◌%◌, ◌^◌, ◌<◌, refl, rules}
use Rattle.rept_relate.specs.declared.classes.node.ClassNode.{ClassNode}
use Rattle.rept_relate.proofs.ClassesLemmas.Changing.{link_keeps, link_tells}
use Rattle.rept_relate.proofs.classes.classes.Classes.link.Goals as goal

pub returns-clause-keeps : goal.returns-clause-keeps
returns-clause-keeps c =
    let fits : c.args.root.offset < 2 ^ 32 = search rules in
    let hung : ClassNode = record { parent = c.args.onto.node; offset = (c.args.onto.offset + (2 ^ 32 - c.args.root.offset)) % 2 ^ 32; set = c.node-node.result.set } in
    link_keeps c.args.self.now c.put.new.self c.args.root c.args.onto c.node-node.result hung c.node-node.ensures.node c.node-node.ensures.place c.requires.root fits refl refl refl c.put.ensures.here c.put.ensures.others

pub returns-clause-tells : goal.returns-clause-tells
returns-clause-tells c =
    let fits : c.args.root.offset < 2 ^ 32 = search rules in
    let hung : ClassNode = record { parent = c.args.onto.node; offset = (c.args.onto.offset + (2 ^ 32 - c.args.root.offset)) % 2 ^ 32; set = c.node-node.result.set } in
    link_tells c.args.self.now c.put.new.self c.args.root c.args.onto c.node-node.result hung c.node-node.ensures.node c.node-node.ensures.place c.requires.root fits refl refl refl c.put.ensures.here c.put.ensures.others
