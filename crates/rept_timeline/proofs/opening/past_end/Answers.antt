use Rattle.std.proofs.Common.{◌<◌, ℕ, sym, subst, arith}
use Rattle.rept_timeline.proofs.Lists.{BeginsAt, up_list, below_at, past_first, past_all, reached_up}
use Rattle.rept_timeline.proofs.opening.past_end.Goals as goal

pub first_open-place-requires : goal.first_open-place-requires
first_open-place-requires c =
    let first : BeginsAt c.args.storing.now c.args.row c.begin-low.result = record { few = c.begin-low.ensures.few; before = c.begin-low.ensures.before; after = c.begin-low.ensures.after } in
    let end : BeginsAt c.args.storing.now c.last_of-last.result c.begin-high.result = record { few = c.begin-high.ensures.few; before = c.begin-high.ensures.before; after = c.begin-high.ensures.after } in
    let most = c.begin-high.ensures.few in
    past_first c.args.many.now c.args.storing.now c.requires.listed c.args.m c.args.row c.last_of-last.result c.requires.moment c.last_of-last.ensures.rows c.begin-low.result c.begin-high.result first end c.last_of-last.ensures.up

pub returns-then-place-high-clause-up : goal.returns-then-place-high-clause-up
returns-then-place-high-clause-up c =
    let first : BeginsAt c.args.storing.now c.args.row c.begin-low.result = record { few = c.begin-low.ensures.few; before = c.begin-low.ensures.before; after = c.begin-low.ensures.after } in
    let end : BeginsAt c.args.storing.now c.last_of-last.result c.begin-high.result = record { few = c.begin-high.ensures.few; before = c.begin-high.ensures.before; after = c.begin-high.ensures.after } in
    let most = c.begin-high.ensures.few in
    let less = c.if-place-high.true in
    let low = c.first_open-place.ensures.low in
    subst (λ (k : ℕ). c.args.row < k) (sym c.at.ensures) (reached_up c.args.many.now c.args.storing.now c.requires.listed c.args.m c.args.row c.last_of-last.result c.requires.moment c.last_of-last.ensures.rows c.begin-low.result c.begin-high.result first end c.first_open-place.result low (omega arith) c.requires.past (c.first_open-place.ensures.after c.first_open-place.result (omega arith) less))

pub returns-then-place-high-clause-inside : goal.returns-then-place-high-clause-inside
returns-then-place-high-clause-inside c =
    let first : BeginsAt c.args.storing.now c.args.row c.begin-low.result = record { few = c.begin-low.ensures.few; before = c.begin-low.ensures.before; after = c.begin-low.ensures.after } in
    let end : BeginsAt c.args.storing.now c.last_of-last.result c.begin-high.result = record { few = c.begin-high.ensures.few; before = c.begin-high.ensures.before; after = c.begin-high.ensures.after } in
    let most = c.begin-high.ensures.few in
    let less = c.if-place-high.true in
    let low = c.first_open-place.ensures.low in
    let under = below_at c.args.many.now c.args.storing.now c.requires.listed c.first_open-place.result (omega arith) in
    let read = c.at.ensures in
    omega arith

pub returns-then-place-high-clause-past : goal.returns-then-place-high-clause-past
returns-then-place-high-clause-past c =
    let first : BeginsAt c.args.storing.now c.args.row c.begin-low.result = record { few = c.begin-low.ensures.few; before = c.begin-low.ensures.before; after = c.begin-low.ensures.after } in
    let end : BeginsAt c.args.storing.now c.last_of-last.result c.begin-high.result = record { few = c.begin-high.ensures.few; before = c.begin-high.ensures.before; after = c.begin-high.ensures.after } in
    let most = c.begin-high.ensures.few in
    let less = c.if-place-high.true in
    let low = c.first_open-place.ensures.low in
    past_all c.args.many.now c.args.storing.now c.requires.listed c.args.m c.args.row c.last_of-last.result c.requires.moment c.last_of-last.ensures.rows c.begin-low.result c.begin-high.result first end c.first_open-place.result c.at.result c.first_open-place.ensures.before (λ k from inside. let more = up_list c.args.many.now c.args.storing.now c.requires.listed c.first_open-place.result k 0 from inside in let read = c.at.ensures in omega arith)

pub returns-else-place-high-clause-past : goal.returns-else-place-high-clause-past
returns-else-place-high-clause-past c =
    let first : BeginsAt c.args.storing.now c.args.row c.begin-low.result = record { few = c.begin-low.ensures.few; before = c.begin-low.ensures.before; after = c.begin-low.ensures.after } in
    let end : BeginsAt c.args.storing.now c.last_of-last.result c.begin-high.result = record { few = c.begin-high.ensures.few; before = c.begin-high.ensures.before; after = c.begin-high.ensures.after } in
    let most = c.begin-high.ensures.few in
    let over = c.if-place-high.false in
    past_all c.args.many.now c.args.storing.now c.requires.listed c.args.m c.args.row c.last_of-last.result c.requires.moment c.last_of-last.ensures.rows c.begin-low.result c.begin-high.result first end c.first_open-place.result c.last_of-last.result c.first_open-place.ensures.before (λ k from inside. end.after k (omega arith) inside)
