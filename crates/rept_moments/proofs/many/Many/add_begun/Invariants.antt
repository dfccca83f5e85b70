use Rattle.rept_moments.specs.Nexts.{AddsOthers}
use Rattle.rept_moments.proofs.Reaching.{IsTaken}
use Rattle.rept_moments.proofs.many.Many.add_begun.Given as goal

abbrev pub invariant-loop-place : goal.invariant-loop-place
invariant-loop-place l = AddsOthers l.own (IsTaken l.self l.side l.fn.last l.begins l.start l.place) l.fn.list.items l.list.items
