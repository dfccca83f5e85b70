use Rattle.std.proofs.Common.{◌≡◌, [], map, take}
use Rattle.rept_elf.specs.Naming.{asked_among, asked_of}
use Rattle.rept_elf.proofs.naming.unanswered.Given as goal

abbrev pub invariant-loop-address : goal.invariant-loop-address
invariant-loop-address l = map asked_of l.asked.items ≡ map (asked_among []) (take l.address-index l.addresses)
