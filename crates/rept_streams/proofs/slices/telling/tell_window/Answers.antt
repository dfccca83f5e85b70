use Rattle.std.proofs.Common.{◌≡◌, ◌++◌, [], List, sym, subst, arith}
use Rattle.std.specs.Prelude.{OnOk}
use Rattle.std.proofs.lemmas.List.{append-nil}
use Rattle.rept_streams.specs.Slices.Parts.{ToldSlice}
use Rattle.rept_streams.specs.Slices.Entries.{AreEntriesOf}
use Rattle.rept_streams.specs.declared.slices.telling.StreamSlice.{StreamSlice}
use Rattle.rept_streams.proofs.SlicesLemmas.WindowLemmas.{there, window_room, window_told, nothing_told}
use Rattle.rept_streams.proofs.slices.telling.tell_window.Goals as goal

pub returns-in-None-clause-ok : goal.returns-in-None-clause-ok
returns-in-None-clause-ok c = λ l is.
    ([], sym (append-nil c.args.entries.now.items), nothing_told c.args.window.now l is c.in-None.is)

pub overflow_add-number : goal.overflow_add-number
overflow_add-number c =
    let q = c.requires in
    let r = window_room c.args.window.now q.0 q.1 c.in-Some.begin c.in-Some.is in
    omega (arith, r)

pub tell-requires : goal.tell-requires
tell-requires c =
    let q = c.requires in
    let t = there c.args.window.now q.0 q.1 c.in-Some.begin c.in-Some.is in
    (t.later, t.hold, window_room c.args.window.now q.0 q.1 c.in-Some.begin c.in-Some.is)

pub returns-in-Some-clause-ok : goal.returns-in-Some-clause-ok
returns-in-Some-clause-ok c = λ l is.
    let t = there c.args.window.now l is c.in-Some.begin c.in-Some.is in
    let told = c.tell.ensures.ok t.later t.hold in
    subst (λ (ts : List ToldSlice). OnOk c.tell.result ((more : List StreamSlice) × (c.tell.new.entries.items ≡ c.args.entries.now.items ++ more) × AreEntriesOf more ts)) (sym (window_told c.args.window.now l is c.in-Some.begin c.in-Some.is)) told
