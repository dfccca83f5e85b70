use Rattle.rept_streams.proofs.SlicesLemmas.KeepLemmas.{none_kept, opened, begin_room, some_kept}
use Rattle.rept_streams.proofs.slices.keeping.kept_begin.Goals as goal

pub returns-in-None : goal.returns-in-None
returns-in-None c = λ l is. none_kept c.args.time c.args.window.now l is c.in-None.is

pub begin_from-requires : goal.begin_from-requires
begin_from-requires c =
    let q = c.requires in
    let o = opened c.args.time c.args.window.now q.0 q.1 c.in-Some.begin c.in-Some.is in
    (o.later, o.hold, begin_room c.args.time c.args.window.now q.0 q.1 c.in-Some.begin c.in-Some.is)

pub returns-in-Some : goal.returns-in-Some
returns-in-Some c = λ l is.
    let o = opened c.args.time c.args.window.now l is c.in-Some.begin c.in-Some.is in
    some_kept c.args.time c.args.window.now l is c.in-Some.begin c.in-Some.is c.begin_from.result (c.begin_from.ensures o.later o.hold)
