use Rattle.std.proofs.lemmas.Result.{IfErr-weaker, on_ok_weaker}
use Rattle.rept_path.specs.Program.{code_of}
use Rattle.rept_path.proofs.Phases.{one_fault, one_phase, second_fault, two_phases}
use Rattle.rept_path.proofs.walk.Walk.through.Goals as goal
use Rattle.rept_path.proofs.walk.Walk.through.Goals.{then-self+in_ok-go, else-self}

pub returns-clause-ok : goal.returns-clause-ok
returns-clause-ok c = elim c.if-self.branch [
  | then-self+in_ok-go w ↦
      on_ok_weaker c.go-2.result
      (two_phases (code_of c.args.program.now) c.args.packet c.args.before c.args.target c.args.aim c.args.self.now w.go.new.self c.go-2.new.self w.if-self.true w.in_ok-go.ensures.ok)
      (rw w.self-is at c.go-2.ensures.ok)
  | else-self w ↦
      on_ok_weaker c.go-2.result
      (one_phase (code_of c.args.program.now) c.args.packet c.args.before c.args.target c.args.aim c.args.self.now c.go-2.new.self w.if-self.false)
      (rw w.self-is at c.go-2.ensures.ok)
]

pub returns-clause-rests : goal.returns-clause-rests
returns-clause-rests c = c.go-2.ensures.rests

pub returns-clause-err : goal.returns-clause-err
returns-clause-err c = elim c.if-self.branch [
  | then-self+in_ok-go w ↦
      IfErr-weaker c.go-2.result _ _
      (λ e. second_fault (code_of c.args.program.now) c.args.packet c.args.before c.args.target c.args.aim c.args.self.now w.go.new.self e w.if-self.true w.in_ok-go.ensures.ok)
      (rw w.self-is at c.go-2.ensures.err)
  | else-self w ↦
      IfErr-weaker c.go-2.result _ _
      (λ e. one_fault (code_of c.args.program.now) c.args.packet c.args.before c.args.target c.args.aim c.args.self.now e w.if-self.false)
      (rw w.self-is at c.go-2.ensures.err)
]
