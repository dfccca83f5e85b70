use Rattle.std.proofs.Common.{◌∷◌, ◌+◌, ◌-◌, ◌<◌, ◌≡◌, ℕ, List, arith, drop, length, subst, sym}
use Rattle.rept_streams.specs.Slices.Entries.{AreEntriesOf}
use Rattle.rept_streams.specs.declared.slices.telling.StreamSlice.{StreamSlice}
use Rattle.rept_streams.proofs.SlicesLemmas.Free.{FreeFrom, all_free, none_free, one_free}
use Rattle.rept_streams.proofs.SlicesLemmas.Lasting.{holds_at, rest_whole}
use Rattle.rept_streams.proofs.SlicesLemmas.StrangerLemmas.{split_at}
use Rattle.rept_streams.proofs.slices.ending.streams_met.Goals as goal

pub add_met-requires : goal.add_met-requires
add_met-requires c =
    let es = c.args.slices.now in
    let within : c.loop-i.i - 1 < length es = let few = c.loop-i.auto.i in let some = c.loop-i-test.true in omega (arith, few, some) in
    holds_at es c.requires.0 (c.loop-i.i - 1) c.index-slices-i.result c.requires.1 (split_at es (c.loop-i.i - 1) c.index-slices-i.result within c.index-slices-i.is)

pub loop-i-init : goal.loop-i-init
loop-i-init c = rw c.new-met.ensures.items (none_free c.args.prefix c.args.slices.now (length c.args.slices.now) (omega arith))

pub loop-i-preserved : goal.loop-i-preserved
loop-i-preserved c =
    let es = c.args.slices.now in
    let i = c.loop-i.i - 1 in
    let within : i < length es = let few = c.loop-i.auto.i in let some = c.loop-i-test.true in omega (arith, few, some) in
    let next : c.loop-i.i ≡ i + 1 = let some = c.loop-i-test.true in omega (arith, some) in
    let later : FreeFrom c.args.prefix (drop (i + 1) es) c.loop-i.past c.loop-i.met.items = subst (λ (n : ℕ). FreeFrom c.args.prefix (drop n es) c.loop-i.past c.loop-i.met.items) next c.loop-i.invariant in
    one_free c.args.prefix es i c.index-slices-i.result c.loop-i.past c.past_begin-past.result c.loop-i.met.items c.add_met.new.met.items (split_at es i c.index-slices-i.result within c.index-slices-i.is)
    (λ t ts told. c.past_begin-past.ensures t ts (subst (λ (xs : List StreamSlice). AreEntriesOf xs (t ∷ ts)) (sym (rest_whole es i)) told)) c.in_ok-add_met.ensures.ok later

pub returns-clause-ok : goal.returns-clause-ok
returns-clause-ok c = all_free c.args.prefix c.args.slices.now c.loop-i.i c.loop-i.past c.loop-i.met.items (let over = c.loop-i-test.false in omega (arith, over)) c.loop-i.invariant
