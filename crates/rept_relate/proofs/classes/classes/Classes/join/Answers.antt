use Rattle.std.proofs.Common.{◌<◌, ◌^◌, sym, rules}
use Rattle.rept_relate.proofs.ClassesLemmas.Changing.{any_err, found_valued, found, found_back, found_apart, words_alike}
use Rattle.rept_relate.proofs.classes.classes.Classes.join.Goals as goal

pub returns-then-first-second-2-clause-keeps : goal.returns-then-first-second-2-clause-keeps
returns-then-first-second-2-clause-keeps c = λ value valued same. found_valued c.args.self.now c.find-first.new.self c.find-second.new.self c.args.a c.args.b c.find-first.result c.find-second.result c.find-first.ensures.same c.find-second.ensures.same c.find-first.ensures.alike c.find-second.ensures.alike value valued

pub returns-then-first-second-2-clause-tells : goal.returns-then-first-second-2-clause-tells
returns-then-first-second-2-clause-tells c = λ value valued. found_back c.args.self.now c.find-first.new.self c.find-second.new.self c.args.a c.args.b c.find-first.result c.find-second.result c.find-first.ensures.same c.find-second.ensures.same c.find-first.ensures.alike c.find-second.ensures.alike value valued (words_alike value c.find-first.result c.find-second.result c.if-first-second.true c.if-first-second-2.true)

pub returns-then-first-second-clause-refuses : goal.returns-then-first-second-clause-refuses
returns-then-first-second-clause-refuses c =
    let one : c.find-first.result.offset < 2 ^ 32 = search rules in
    let other : c.find-second.result.offset < 2 ^ 32 = search rules in
    found_apart c.args.self.now c.find-first.new.self c.find-second.new.self c.args.a c.args.b c.find-first.result c.find-second.result c.find-first.ensures.same c.find-second.ensures.same c.find-first.ensures.alike c.find-second.ensures.alike c.if-first-second.true one other c.if-first-second-2.false

pub returns-in_err-join_root-clause-refuses : goal.returns-in_err-join_root-clause-refuses
returns-in_err-join_root-clause-refuses c = any_err c.from_residual.result (λ value valued same. c.in_err-join_root.ensures.refuses value (found_valued c.args.self.now c.find-first.new.self c.find-second.new.self c.args.a c.args.b c.find-first.result c.find-second.result c.find-first.ensures.same c.find-second.ensures.same c.find-first.ensures.alike c.find-second.ensures.alike value valued) (sym (found c.args.self.now c.find-first.new.self c.find-second.new.self c.args.a c.args.b c.find-first.result c.find-second.result c.find-first.ensures.same c.find-second.ensures.same c.find-first.ensures.alike c.find-second.ensures.alike value valued same)))

pub returns-in_err-join_root-2-clause-refuses : goal.returns-in_err-join_root-2-clause-refuses
returns-in_err-join_root-2-clause-refuses c = any_err c.from_residual-in_err-join_root-2.result (λ value valued same. c.in_err-join_root-2.ensures.refuses value (found_valued c.args.self.now c.find-first.new.self c.find-second.new.self c.args.a c.args.b c.find-first.result c.find-second.result c.find-first.ensures.same c.find-second.ensures.same c.find-first.ensures.alike c.find-second.ensures.alike value valued) (found c.args.self.now c.find-first.new.self c.find-second.new.self c.args.a c.args.b c.find-first.result c.find-second.result c.find-first.ensures.same c.find-second.ensures.same c.find-first.ensures.alike c.find-second.ensures.alike value valued same))

pub returns-in_ok-join_root-clause-keeps : goal.returns-in_ok-join_root-clause-keeps
returns-in_ok-join_root-clause-keeps c = λ value valued same. c.in_ok-join_root.ensures.keeps value (found_valued c.args.self.now c.find-first.new.self c.find-second.new.self c.args.a c.args.b c.find-first.result c.find-second.result c.find-first.ensures.same c.find-second.ensures.same c.find-first.ensures.alike c.find-second.ensures.alike value valued) (sym (found c.args.self.now c.find-first.new.self c.find-second.new.self c.args.a c.args.b c.find-first.result c.find-second.result c.find-first.ensures.same c.find-second.ensures.same c.find-first.ensures.alike c.find-second.ensures.alike value valued same))

pub returns-in_ok-join_root-clause-tells : goal.returns-in_ok-join_root-clause-tells
returns-in_ok-join_root-clause-tells c = λ value valued.
    let t = c.in_ok-join_root.ensures.tells value valued in
    found_back c.args.self.now c.find-first.new.self c.find-second.new.self c.args.a c.args.b c.find-first.result c.find-second.result c.find-first.ensures.same c.find-second.ensures.same c.find-first.ensures.alike c.find-second.ensures.alike value t.0 (sym t.1)

pub returns-in_ok-join_root-2-clause-keeps : goal.returns-in_ok-join_root-2-clause-keeps
returns-in_ok-join_root-2-clause-keeps c = λ value valued same. c.in_ok-join_root-2.ensures.keeps value (found_valued c.args.self.now c.find-first.new.self c.find-second.new.self c.args.a c.args.b c.find-first.result c.find-second.result c.find-first.ensures.same c.find-second.ensures.same c.find-first.ensures.alike c.find-second.ensures.alike value valued) (found c.args.self.now c.find-first.new.self c.find-second.new.self c.args.a c.args.b c.find-first.result c.find-second.result c.find-first.ensures.same c.find-second.ensures.same c.find-first.ensures.alike c.find-second.ensures.alike value valued same)

pub returns-in_ok-join_root-2-clause-tells : goal.returns-in_ok-join_root-2-clause-tells
returns-in_ok-join_root-2-clause-tells c = λ value valued.
    let t = c.in_ok-join_root-2.ensures.tells value valued in
    found_back c.args.self.now c.find-first.new.self c.find-second.new.self c.args.a c.args.b c.find-first.result c.find-second.result c.find-first.ensures.same c.find-second.ensures.same c.find-first.ensures.alike c.find-second.ensures.alike value t.0 t.1
