use Rattle.std.proofs.Common.{◌≡◌, ◌∙◌, Bool, List, length, ap, sym, arith}
use Rattle.rept_moments.specs.declared.side.Timed.{Timed}
use Rattle.rept_moments.specs.Points.{points_in}
use Rattle.rept_moments.specs.Merging.{merged_at}
use Rattle.rept_moments.proofs.Places.{by_point_length}
use Rattle.rept_moments.proofs.Listing.{time_length}
use Rattle.rept_moments.proofs.Numbering.{time_inside, number_more}
use Rattle.rept_moments.proofs.many.number.Goals as goal

pub keep-requires-clause-inside : goal.keep-requires-clause-inside
keep-requires-clause-inside c = time_inside c.args.points.now c.args.moments.now c.loop-timed.timed-index c.loop-timed.numbers.points _ c.requires.moments c.loop-timed-test.true c.loop-timed.invariant.points

pub keep-requires-clause-merged : goal.keep-requires-clause-merged
keep-requires-clause-merged c = ap (λ (xs : List Bool). length xs) c.requires.merged ∙ by_point_length (merged_at c.args.points.now) (points_in c.args.points.now) ∙ sym c.loop-timed.invariant.points

pub keep-requires-clause-few : goal.keep-requires-clause-few
keep-requires-clause-few c =
    let most = time_length c.args.points.now in
    let same : length c.args.moments.now ≡ _ = ap (λ (xs : List Timed). length xs) c.requires.moments in
    let few = c.count.ensures.few in
    let value = c.count.ensures.value in
    let list = c.loop-timed.invariant.few in
    let less = c.loop-timed-test.true in
    omega arith

pub loop-timed-preserved : goal.loop-timed-preserved
loop-timed-preserved c = number_more c.args.points.now c.args.moments.now c.args.merged.now c.loop-timed.timed-index _ c.loop-timed.numbers c.keep.new.numbers c.requires.moments c.requires.merged c.loop-timed-test.true c.loop-timed.invariant c.in_ok-keep.ensures

pub returns-clause-few : goal.returns-clause-few
returns-clause-few c =
    let most = time_length c.args.points.now in
    let same : length c.args.moments.now ≡ _ = ap (λ (xs : List Timed). length xs) c.requires.moments in
    let few = c.count.ensures.few in
    let value = c.count.ensures.value in
    let list = c.loop-timed.invariant.few in
    let end = c.loop-timed.auto.timed-index-end in
    omega arith
