use Rattle.std.proofs.Common.{Ok, sym, ◌∙◌, arith}
use Rattle.rept_streams.proofs.RunsLemmas.Ended.{held_by, ended_is}
use Rattle.rept_streams.proofs.ThreadsLemmas.Fitting.{file_fits}
use Rattle.rept_streams.proofs.runs.ending.end_untraced.Goals as goal

pub unreachable-requires : goal.unreachable-requires
unreachable-requires c =
    let held = c.requires.packets in
    let same = c.in-Err.ensures.only (Ok held.1.file) held.1.streams in
    cc

pub last_time-requires-clause-few : goal.last_time-requires-clause-few
last_time-requires-clause-few c =
    let fits = file_fits c.args.trace.now c.in-Ok.streams c.in-Ok.ensures.opens in
    let few = c.requires.few in
    omega (arith, fits, few)

pub last_time-requires-clause-packets : goal.last_time-requires-clause-packets
last_time-requires-clause-packets c =
    let held = c.requires.packets in
    (held.0, held_by c.args.trace.now c.in-Ok.streams held.0 held.1 (c.in-Ok.ensures.only (Ok held.1.file) held.1.streams))

pub returns-clause-ok : goal.returns-clause-ok
returns-clause-ok c =
    let held = c.requires.packets in
    let packets = held_by c.args.trace.now c.in-Ok.streams held.0 held.1 (c.in-Ok.ensures.only (Ok held.1.file) held.1.streams) in
    (held.0, held.1, ended_is c.args.from held.0 c.args.run c.in-Some.end c.in_ok-last.last c.in-Some.is (c.in_ok-last.ensures.ok held.0 packets))

pub returns-clause-only : goal.returns-clause-only
returns-clause-only c = λ other is.
    let packets = held_by c.args.trace.now c.in-Ok.streams is.0 is.1 (c.in-Ok.ensures.only (Ok (is.1).file) (is.1).streams) in
    ended_is c.args.from is.0 c.args.run c.in-Some.end c.in_ok-last.last c.in-Some.is (c.in_ok-last.ensures.ok is.0 packets) ∙ sym is.2
