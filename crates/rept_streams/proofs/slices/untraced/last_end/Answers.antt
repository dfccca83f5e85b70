use Rattle.std.proofs.Common.{◌∷◌, ◌+◌, ◌-◌, ◌<◌, ◌≡◌, ℕ, List, arith, drop, length, subst, sym}
use Rattle.rept_streams.specs.Slices.Entries.{AreEntriesOf}
use Rattle.rept_streams.specs.declared.slices.telling.StreamSlice.{StreamSlice}
use Rattle.rept_streams.proofs.SlicesLemmas.Lasting.{EndsFrom, all_ended, holds_at, none_ended, one_ended, rest_whole}
use Rattle.rept_streams.proofs.SlicesLemmas.StrangerLemmas.{split_at}
use Rattle.rept_streams.proofs.slices.untraced.last_end.Goals as goal

pub end_early-requires : goal.end_early-requires
end_early-requires c =
    let es = c.args.slices.now in
    let within : c.loop-i.i - 1 < length es = let few = c.loop-i.auto.i in let some = c.loop-i-test.true in omega (arith, few, some) in
    holds_at es c.requires.0 (c.loop-i.i - 1) c.index-slices-i.result c.requires.1 (split_at es (c.loop-i.i - 1) c.index-slices-i.result within c.index-slices-i.is)

pub loop-i-init : goal.loop-i-init
loop-i-init c = none_ended c.args.time c.args.slices.now (length c.args.slices.now) (omega arith)

pub loop-i-preserved : goal.loop-i-preserved
loop-i-preserved c =
    let es = c.args.slices.now in
    let i = c.loop-i.i - 1 in
    let within : i < length es = let few = c.loop-i.auto.i in let some = c.loop-i-test.true in omega (arith, few, some) in
    let next : c.loop-i.i ≡ i + 1 = let some = c.loop-i-test.true in omega (arith, some) in
    let later : EndsFrom c.args.time (drop (i + 1) es) c.loop-i.past c.loop-i.last = subst (λ (n : ℕ). EndsFrom c.args.time (drop n es) c.loop-i.past c.loop-i.last) next c.loop-i.invariant in
    rw c.later_by-last.ensures (one_ended c.args.time es i c.index-slices-i.result c.loop-i.past c.past_begin-past.result c.end_early.result c.loop-i.last (split_at es i c.index-slices-i.result within c.index-slices-i.is)
    (λ t ts told. c.past_begin-past.ensures t ts (subst (λ (xs : List StreamSlice). AreEntriesOf xs (t ∷ ts)) (sym (rest_whole es i)) told)) c.end_early.ensures later)

pub returns : goal.returns
returns c = all_ended c.args.time c.args.slices.now c.loop-i.i c.loop-i.past c.loop-i.last (let over = c.loop-i-test.false in omega (arith, over)) c.loop-i.invariant
