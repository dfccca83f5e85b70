use Rattle.std.proofs.Common.{◌≡◌, ◌≤◌, ◌-◌, length, arith}
use Rattle.rept_moments.specs.Numbers.{numbers_of}
use Rattle.rept_extents.proofs.Coming.{all_from}
use Rattle.rept_extents.proofs.times.first_after.Goals as goal

pub returns : goal.returns
returns c =
    let is : c.end-count.result ≡ (numbers_of c.args.many.now).end = c.end-count.ensures in
    let few : length c.args.begins.now ≤ (numbers_of c.args.many.now).end = c.requires.few in
    let less : c.count_to.result ≤ length c.args.begins.now = c.count_to.ensures.few in
    all_from c.args.many.now c.args.begins.now (numbers_of c.args.many.now).end c.args.time c.count_to.result (c.end-count.result - c.count_to.result) c.requires.times few less c.count_to.ensures.last (omega arith)
