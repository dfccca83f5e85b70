use Rattle.std.proofs.Common.{◌≡◌, List, [], ◌∷◌, ◌++◌, length, length-append, rules, arith, ap}
use Rattle.rept_dump.specs.declared.status.Status.{Status}
use Rattle.rept_timeline.proofs.Enders.{noted_more, whole_more}
use Rattle.rept_timeline.proofs.ends.statuses.Goals as goal

pub loop-thread-preserved : goal.loop-thread-preserved
loop-thread-preserved c = record {
  count = (let all = length-append c.loop-thread.statuses.items (c.status_of.result ∷ []) in let more : length c.push.new.self.items ≡ length (c.loop-thread.statuses.items ++ c.status_of.result ∷ []) = ap (λ (xs : List Status). length xs) c.in_ok-push.ensures.items in let before = c.loop-thread.invariant.count in omega arith);
  whole = whole_more c.loop-thread.statuses.items c.push.new.self.items c.status_of.result c.in_ok-push.ensures.items c.loop-thread.invariant.whole (search rules);
  noted = λ descs has. noted_more descs c.loop-thread.statuses.items c.push.new.self.items c.status_of.result c.loop-thread.thread c.in_ok-push.ensures.items c.loop-thread.invariant.count (c.loop-thread.invariant.noted descs has) (c.status_of.ensures descs has);
}
