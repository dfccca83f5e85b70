use Rattle.rept_trace.proofs.Going.{one_list, counts, faults, decided}
use Rattle.rept_trace.proofs.packets.Packets.count.Goals as goal

pub returns-clause-every : goal.returns-clause-every
returns-clause-every c = counts _ _ _ c.go_through.ensures.ok c.go_through.ensures.err

pub returns-clause-every_fault : goal.returns-clause-every_fault
returns-clause-every_fault c = faults _ _ _ c.go_through.ensures.ok c.go_through.ensures.err

pub returns-clause-one_list : goal.returns-clause-one_list
returns-clause-one_list c = one_list _

pub returns-clause-decided : goal.returns-clause-decided
returns-clause-decided c = decided _ _ _ c.go_through.ensures.ok c.go_through.ensures.err
