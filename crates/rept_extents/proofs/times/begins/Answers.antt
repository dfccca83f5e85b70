use Rattle.std.proofs.Common.{◌≡◌, ◌+◌, ◌-◌, ℕ, suc, List, [], ◌∷◌, ◌++◌, length, sym, ap, subst, arith, length-append}
use Rattle.rept_order.specs.Ordered.{course_in}
use Rattle.rept_order.specs.Runs.{moment_named}
use Rattle.rept_moments.specs.Numbers.{numbers_of}
use Rattle.rept_extents.specs.Times.{AllFrom, AreBegins}
use Rattle.rept_extents.proofs.Coming.{from_more, begins_more}
use Rattle.rept_extents.proofs.times.begins.Goals as goal

pub loop-number-preserved : goal.loop-number-preserved
loop-number-preserved c =
    let C = c.args.many.now in
    let i = c.loop-number.invariant in
    let some = c.loop-number-test.true in
    let count : length c.loop-number.list.items + c.loop-number.number ≡ (numbers_of C).end = i.total in
    let small = c.min-least.ensures in
    let at : suc (c.loop-number.number - 1) ≡ c.loop-number.number = omega arith in
    let known : AllFrom C (suc (c.loop-number.number - 1)) (numbers_of C).end c.loop-number.least = subst (λ (k : ℕ). AllFrom C k (numbers_of C).end c.loop-number.least) (sym at) i.known in
    let own : AllFrom C (c.loop-number.number - 1) (numbers_of C).end c.min-least.result = from_more C (course_in c.args.order) (c.loop-number.number - 1) (moment_named c.last.result) c.requires.course c.last.ensures (numbers_of C).end c.loop-number.least c.begin_at.result c.min-least.result c.begin_at.ensures (omega arith) (omega arith) known in
    let more : AreBegins C (numbers_of C).end (c.loop-number.list.items ++ c.min-least.result ∷ []) = begins_more C c.loop-number.list.items c.min-least.result (c.loop-number.number - 1) (numbers_of C).end (omega arith) i.times own in
    let longer : length c.push.new.self.items ≡ length (c.loop-number.list.items ++ c.min-least.result ∷ []) = ap (λ (xs : List ℕ). length xs) c.in_ok-push.ensures.items in
    let all = length-append c.loop-number.list.items (c.min-least.result ∷ []) in
    record {
      times = subst (λ (xs : List ℕ). AreBegins C (numbers_of C).end xs) (sym c.in_ok-push.ensures.items) more;
      known = own;
      total = omega arith;
    }
