use Rattle.rept_moments.specs.Nexts.{ends_to, AddsOthers, Member}
use Rattle.rept_moments.proofs.many.Many.add_ends.Given as goal

abbrev pub invariant-loop-thread : goal.invariant-loop-thread
invariant-loop-thread l = AddsOthers l.own (Member (ends_to l.self l.thread)) l.fn.list.items l.list.items
