use Rattle.std.proofs.Common.{◌+◌, ◌%◌, ◌^◌, refl}
use Rattle.rept_relate.specs.declared.classes.node.ClassNode.{ClassNode}
use Rattle.rept_relate.proofs.ClassesLemmas.Changing.{shortened_alike, shortened_same}
use Rattle.rept_relate.proofs.classes.classes.Classes.shorten.Goals as goal

pub returns-clause-alike : goal.returns-clause-alike
returns-clause-alike c = shortened_alike c.args.self.now c.args.x c.node-node.result c.node-above.result c.node-node.ensures.node c.node-above.ensures.node (c.requires.lower c.node-node.result c.node-node.ensures.node)

pub returns-clause-same : goal.returns-clause-same
returns-clause-same c =
    let short : ClassNode = record { parent = c.node-above.result.parent; offset = (c.node-node.result.offset + c.node-above.result.offset) % 2 ^ 32; set = c.node-node.result.set } in
    shortened_same c.args.self.now c.args.x c.node-node.result c.node-above.result c.node-node.ensures.node c.node-above.ensures.node (c.requires.lower c.node-node.result c.node-node.ensures.node) c.put.new.self short refl refl refl c.put.ensures.here c.put.ensures.others
