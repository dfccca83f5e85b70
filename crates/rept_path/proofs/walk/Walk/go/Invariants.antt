use Rattle.std.proofs.Common.{◌≡◌, ◌-◌, length}
use Rattle.rept_path.specs.Program.{code_of}
use Rattle.rept_path.specs.State.{lead}
use Rattle.rept_path.proofs.Loop.{Coming}
use Rattle.rept_path.proofs.walk.Walk.go.Given as goal

abbrev pub invariant-loop-target : goal.invariant-loop-target
invariant-loop-target l = (code_of l.near ≡ code_of l.program) × Coming (code_of l.program) (lead l.fn.self l.packet l.target) l.aim l.fn.self l.self

abbrev pub decreases-loop-target : goal.decreases-loop-target
decreases-loop-target l = l.self.room - length l.self.steps
