use Rattle.std.proofs.Common.{◌≡◌, ℕ, suc, List, [], ◌∷◌, ◌++◌, length, sym, ap, subst, arith, length-append}
use Rattle.rept_order.specs.Ordered.{course_in}
use Rattle.rept_order.specs.Runs.{moment_named}
use Rattle.rept_extents.specs.Times.{AllBefore, AreEndTimes}
use Rattle.rept_extents.proofs.Coming.{before_more, ends_more}
use Rattle.rept_extents.proofs.times.ends.Goals as goal

pub loop-number-preserved : goal.loop-number-preserved
loop-number-preserved c =
    let C = c.args.many.now in
    let i = c.loop-number.invariant in
    let count : length c.loop-number.list.items ≡ c.loop-number.number = i.total in
    let great = c.max-most.ensures in
    let own : AllBefore C (suc c.loop-number.number) (suc c.max-most.result) = before_more C (course_in c.args.order) c.loop-number.number (moment_named c.last.result) c.requires.course c.last.ensures c.loop-number.most c.in-Some.end c.max-most.result c.in-Some.ensures (omega arith) (omega arith) i.known in
    let more : AreEndTimes C (c.loop-number.list.items ++ c.max-most.result ∷ []) = ends_more C c.loop-number.list.items c.max-most.result c.loop-number.number count i.times own in
    let longer : length c.push.new.self.items ≡ length (c.loop-number.list.items ++ c.max-most.result ∷ []) = ap (λ (xs : List ℕ). length xs) c.in_ok-push.ensures.items in
    let all = length-append c.loop-number.list.items (c.max-most.result ∷ []) in
    record {
      times = subst (λ (xs : List ℕ). AreEndTimes C xs) (sym c.in_ok-push.ensures.items) more;
      known = λ j less. own j (omega arith);
      total = omega arith;
    }
