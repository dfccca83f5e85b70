use Rattle.std.proofs.Common.{arith}
use Rattle.rept_timeline.proofs.Lists.{BeginsAt, first_some, first_none}
use Rattle.rept_timeline.proofs.storing.Storing.first_from.Goals as goal

pub returns-then-place-count : goal.returns-then-place-count
returns-then-place-count c =
    let less = c.if-place-count.true in
    let count = c.count.ensures in
    let b : BeginsAt c.args.self.now c.args.row c.begin-place.result = record { few = c.begin-place.ensures.few; before = c.begin-place.ensures.before; after = c.begin-place.ensures.after } in
    first_some c.args.self.now c.args.row c.begin-place.result c.at.result c.begin-place.ensures.up b (omega arith) c.at.ensures

pub returns-else-place-count : goal.returns-else-place-count
returns-else-place-count c =
    let past = c.if-place-count.false in
    let count = c.count.ensures in
    let b : BeginsAt c.args.self.now c.args.row c.begin-place.result = record { few = c.begin-place.ensures.few; before = c.begin-place.ensures.before; after = c.begin-place.ensures.after } in
    first_none c.args.self.now c.args.row c.begin-place.result b (omega arith)
