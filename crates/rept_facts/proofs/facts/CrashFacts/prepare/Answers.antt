use Rattle.std.proofs.Common.{refl, arith}
use Rattle.rept_timeline.proofs.Lasting.{values_long}
use Rattle.rept_facts.proofs.Begun.{none_learnt}
use Rattle.rept_facts.proofs.Learning.{fresh_kept}
use Rattle.rept_facts.proofs.facts.CrashFacts.prepare.Goals as goal

pub invariant_of-result : goal.invariant_of-result
invariant_of-result g c =
    let count = c.last_point-count.ensures in
    let room = c.in_ok-tables.ensures.room in
    let end = c.end.ensures in
    fresh_kept _ c.access_bytes-bytes.result c.access_bytes-bytes.ensures.sum c.requires.few (values_long _ c.account.ensures.ends c.account.ensures.some) (rw count at c.in_ok-tables.ensures.known) (rw count at c.in_ok-tables.ensures.points) refl refl refl refl (omega (arith, room, end)) (rw count at c.in_ok-tables.ensures.length) c.in_ok-tables.ensures.never

pub returns-clause-begins : goal.returns-clause-begins
returns-clause-begins g c = none_learnt c.in_ok-tables.ensures.known.log
