use Rattle.std.proofs.Common.{◌<◌, ◌^◌, length, rules, arith}
use Rattle.std.proofs.lemmas.Result.{on_ok_weaker, on_err_weaker}
use Rattle.rept_relate.proofs.ClassesLemmas.Changing.{root_has}
use Rattle.rept_relate.proofs.classes.classes.Classes.learn.Goals as goal

pub returns-clause-keeps : goal.returns-clause-keeps
returns-clause-keeps c =
    let fits : c.find-root.result.offset < 2 ^ 32 = search rules in
    let inside : c.find-root.result.node < length c.args.self.now = let l = c.find-root.ensures.lower in let r = c.requires in omega (arith, l, r) in
    on_ok_weaker c.cut.result (λ keeps value valued has. keeps value (c.find-root.ensures.same.onward value valued) (root_has value c.args.self.now c.args.term c.find-root.result c.args.set c.shifted.result inside fits valued (c.find-root.ensures.alike value valued) c.shifted.ensures has)) c.cut.ensures.keeps

pub returns-clause-tells : goal.returns-clause-tells
returns-clause-tells c = on_ok_weaker c.cut.result (λ tells value valued. c.find-root.ensures.same.back value (tells value valued).0) c.cut.ensures.tells

pub returns-clause-refuses : goal.returns-clause-refuses
returns-clause-refuses c =
    let fits : c.find-root.result.offset < 2 ^ 32 = search rules in
    let inside : c.find-root.result.node < length c.args.self.now = let l = c.find-root.ensures.lower in let r = c.requires in omega (arith, l, r) in
    on_err_weaker c.cut.result (λ refuses value valued has. refuses value (c.find-root.ensures.same.onward value valued) (root_has value c.args.self.now c.args.term c.find-root.result c.args.set c.shifted.result inside fits valued (c.find-root.ensures.alike value valued) c.shifted.ensures has)) c.cut.ensures.refuses
