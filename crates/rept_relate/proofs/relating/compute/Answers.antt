use Rattle.std.proofs.Common.{ℕ, ◌<◌, length, sym, subst}
use Rattle.rept_relate.proofs.Summing.{any_err}
use Rattle.rept_relate.proofs.Rowing.{plain_of}
use Rattle.rept_relate.proofs.relating.compute.Goals as goal

pub returns-in_err-join_sum-in-Some-clause-refuses : goal.returns-in_err-join_sum-in-Some-clause-refuses
returns-in_err-join_sum-in-Some-clause-refuses c =
    let less : c.in-Some.known < length c.join_result.new.classes = subst (λ (n : ℕ). c.in-Some.known < n) (sym c.in_ok-join_result.ensures.len) (c.in-Some.ensures.below (length c.args.classes.now) c.requires.below) in
    any_err c.from_residual-in_err-join_sum-in-Some.result (λ value h valued results.
    let onward = c.in_ok-join_result.ensures.keeps value h valued in
    c.in_err-join_sum-in-Some.ensures.refuses value (plain_of value c.join_result.new.classes c.args.operation.node c.in-Some.known less onward (c.in-Some.ensures.alike value results h.1)) onward)

pub returns-in-None-clause-keeps : goal.returns-in-None-clause-keeps
returns-in-None-clause-keeps c = λ value h valued results. (c.in_ok-join_result.ensures.keeps value h valued, c.add.ensures.results value results h.1)

pub returns-in_ok-join_sum-in-Some-clause-keeps : goal.returns-in_ok-join_sum-in-Some-clause-keeps
returns-in_ok-join_sum-in-Some-clause-keeps c =
    let less : c.in-Some.known < length c.join_result.new.classes = subst (λ (n : ℕ). c.in-Some.known < n) (sym c.in_ok-join_result.ensures.len) (c.in-Some.ensures.below (length c.args.classes.now) c.requires.below) in
    λ value h valued results.
    let onward = c.in_ok-join_result.ensures.keeps value h valued in
    (c.in_ok-join_sum-in-Some.ensures.keeps value (plain_of value c.join_result.new.classes c.args.operation.node c.in-Some.known less onward (c.in-Some.ensures.alike value results h.1)) onward, results)
