use Rattle.std.proofs.Common.{List, [], ◌∷◌, ◌++◌, refl, ap, ◌∙◌}
use Rattle.rept_relate.specs.declared.classes.node.ClassNode.{ClassNode}
use Rattle.rept_relate.proofs.ClassesLemmas.Changing.{added_keeps, added_tells}
use Rattle.rept_relate.proofs.classes.classes.Classes.add.Goals as goal

pub returns-clause-keeps : goal.returns-clause-keeps
returns-clause-keeps c =
    let node : ClassNode = record { parent = c.len-x.result; offset = 0; set = c.args.set } in
    added_keeps c.args.self.now c.push.new.self.items node c.len-x.result c.len-x.ensures (c.in_ok-push.ensures.items ∙ ap (λ (xs : List ClassNode). xs ++ node ∷ []) c.self.view_is) refl refl

pub returns-clause-tells : goal.returns-clause-tells
returns-clause-tells c =
    let node : ClassNode = record { parent = c.len-x.result; offset = 0; set = c.args.set } in
    added_tells c.args.self.now c.push.new.self.items node c.len-x.result c.len-x.ensures (c.in_ok-push.ensures.items ∙ ap (λ (xs : List ClassNode). xs ++ node ∷ []) c.self.view_is)
