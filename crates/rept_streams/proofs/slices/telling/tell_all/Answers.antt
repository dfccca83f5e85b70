use Rattle.std.proofs.Common.{drop, ◌+◌, List, subst}
use Rattle.rept_streams.specs.Slices.Parts.{LeftPackets, ToldSlice, told_in}
use Rattle.rept_streams.specs.Slices.Skipping.{from_time}
use Rattle.rept_streams.specs.Slices.Entries.{AreEntriesOf, entries_from}
use Rattle.rept_streams.proofs.SlicesLemmas.WindowLemmas.{one_told, tells_at, all_told}
use Rattle.rept_streams.proofs.SlicesLemmas.Leaving.{left_are, all_left}
use Rattle.rept_streams.proofs.slices.telling.tell_all.Goals as goal

pub loop-window-preserved : goal.loop-window-preserved
loop-window-preserved c = λ lefts a.
    let both = c.loop-window.invariant lefts a in
    let n = tells_at told_in lefts c.args.windows.now c.loop-window.window-index c.window-item.result c.loop-window.both.windows.items c.loop-window-test.true c.window-item.is both.0 in
    let m = tells_at (λ (k : LeftPackets). told_in (from_time c.args.time k)) lefts c.args.windows.now c.loop-window.window-index c.window-item.result c.loop-window.both.slices.items c.loop-window-test.true c.window-item.is both.1 in
    let t = c.in_ok-tell_both.ensures.ok n.l n.first in
    let u = c.in_ok-tell_both.ensures.ok m.l m.first in (
      one_told told_in lefts c.window-item.result (drop (c.loop-window.window-index + 1) c.args.windows.now) c.loop-window.both.windows.items c.tell_both.new.both.windows.items t.0 n t.1 t.3,
      one_told (λ (k : LeftPackets). told_in (from_time c.args.time k)) lefts c.window-item.result (drop (c.loop-window.window-index + 1) c.args.windows.now) c.loop-window.both.slices.items c.tell_both.new.both.slices.items (entries_from c.args.time u.0) m u.2 (left_are c.args.time m.l u.0 u.3),
    )

pub returns-clause-left : goal.returns-clause-left
returns-clause-left c = λ lefts a.
    subst (λ (ts : List ToldSlice). AreEntriesOf c.loop-window.both.slices.items ts) (all_left c.args.time lefts) (all_told (λ (k : LeftPackets). told_in (from_time c.args.time k)) lefts c.args.windows.now c.loop-window.window-index c.loop-window.both.slices.items c.loop-window-test.false ((c.loop-window.invariant lefts a).1))
