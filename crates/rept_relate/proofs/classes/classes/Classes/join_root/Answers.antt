use Rattle.std.proofs.Common.{◌<◌, ◌^◌, length, get_or, rules, arith}
use Rattle.std.proofs.lemmas.Option.{slice_get-get_or}
use Rattle.rept_relate.proofs.ClassesLemmas.Changing.{any_err, onto_has}
use Rattle.rept_relate.proofs.classes.classes.Classes.join_root.Goals as goal

pub returns-in_err-cut-clause-refuses : goal.returns-in_err-cut-clause-refuses
returns-in_err-cut-clause-refuses c =
    let fits : c.args.onto.offset < 2 ^ 32 = search rules in
    let inside : c.args.onto.node < length c.args.self.now = let i = c.requires.inside in let o = c.requires.order in omega (arith, i, o) in
    let near = slice_get-get_or c.args.self.now c.args.onto.node c.node-node.result inside in
    any_err c.from_residual.result (λ value valued same. c.in_err-cut.ensures.refuses value valued (onto_has value c.args.self.now c.args.root c.args.onto c.node-node.result (get_or c.args.self.now c.args.onto.node c.node-node.result) c.shifted.result c.node-node.ensures.node near fits c.shifted.ensures valued same))

pub returns-clause-keeps : goal.returns-clause-keeps
returns-clause-keeps c =
    let fits : c.args.onto.offset < 2 ^ 32 = search rules in
    let inside : c.args.onto.node < length c.args.self.now = let i = c.requires.inside in let o = c.requires.order in omega (arith, i, o) in
    let near = slice_get-get_or c.args.self.now c.args.onto.node c.node-node.result inside in
    λ value valued same. c.link.ensures.keeps value (c.in_ok-cut.ensures.keeps value valued (onto_has value c.args.self.now c.args.root c.args.onto c.node-node.result (get_or c.args.self.now c.args.onto.node c.node-node.result) c.shifted.result c.node-node.ensures.node near fits c.shifted.ensures valued same)) same

pub returns-clause-tells : goal.returns-clause-tells
returns-clause-tells c = λ value valued.
    let t = c.link.ensures.tells value valued in
    let u = c.in_ok-cut.ensures.tells value t.0 in
    (u.0, t.1)
