use Rattle.std.proofs.Common.{◌∷◌, List, drop, subst, sym}
use Rattle.rept_streams.specs.Slices.Entries.{AreEntriesOf}
use Rattle.rept_streams.specs.declared.threads.walks.Walked.{Walked}
use Rattle.rept_streams.proofs.ThreadsLemmas.MeetLemmas.{slices_in, rest_whole, told_drop, one_unmet}
use Rattle.rept_streams.proofs.threads.meeting.first_met.Goals as goal

pub next_met-requires : goal.next_met-requires
next_met-requires c =
    let ws = c.args.slices.now in
    let i = c.loop-i.i in
    (drop i c.requires.0, subst (λ (xs : List Walked). AreEntriesOf (slices_in xs) (drop i c.requires.0)) (sym (rest_whole ws i)) (told_drop i ws c.requires.0 c.requires.1))

pub loop-i-preserved : goal.loop-i-preserved
loop-i-preserved c = λ ts a turn.
    let ws = c.args.slices.now in
    let whole = rest_whole ws c.loop-i.i in
    one_unmet ts ws c.loop-i.i c.next_met.result c.loop-i-test.true (λ t later told before. c.next_met.ensures t later (subst (λ (xs : List Walked). AreEntriesOf (slices_in xs) (t ∷ later)) (sym whole) told) before) c.in_default.is (c.loop-i.invariant ts a turn)
