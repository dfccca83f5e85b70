use Rattle.std.proofs.Common.{sym, subst}
use Rattle.rept_path.specs.Program.{code_of}
use Rattle.rept_trace.specs.declared.packet.Qual.{Qual}
use Rattle.rept_trace.specs.declared.packet.Packet.TheVariants.{Support}
use Rattle.rept_path.specs.State.{Followed, from_to}
use Rattle.rept_path.proofs.Followed.{stopped, no_change, lost, reported_end, not_reported_end}
use Rattle.rept_path.proofs.walk.Walk.support.Goals as goal

pub returns-in-NoChange-clause-ok : goal.returns-in-NoChange-clause-ok
returns-in-NoChange-clause-ok c = λ enabled. subst (λ (q : Qual). Followed (code_of c.args.program.now) (Support enabled q) (from_to c.args.number c.args.self.now c.args.self.now)) (sym c.in-NoChange.is) (no_change (code_of c.args.program.now) c.args.number enabled c.args.self.now c.requires.counts c.requires.rests)

pub returns-in-TraceLost-clause-ok : goal.returns-in-TraceLost-clause-ok
returns-in-TraceLost-clause-ok c = λ enabled. subst (λ (q : Qual). Followed (code_of c.args.program.now) (Support enabled q) (from_to c.args.number c.args.self.now c.args.self.now)) (sym c.in-TraceLost.is) (lost (code_of c.args.program.now) c.args.number enabled c.args.self.now c.requires.counts c.requires.rests)

pub returns-in-EndedRep-clause-ok : goal.returns-in-EndedRep-clause-ok
returns-in-EndedRep-clause-ok c = λ enabled. subst (λ (q : Qual). Followed (code_of c.args.program.now) (Support enabled q) (from_to c.args.number c.args.self.now (stopped c.args.self.now))) (sym c.in-EndedRep.is) (reported_end (code_of c.args.program.now) c.args.number enabled c.args.self.now c.requires.counts c.requires.rests)

pub returns-in_ok-finish-in-EndedNtr-clause-ok : goal.returns-in_ok-finish-in-EndedNtr-clause-ok
returns-in_ok-finish-in-EndedNtr-clause-ok c = λ enabled. subst (λ (q : Qual). Followed (code_of c.args.program.now) (Support enabled q) (from_to c.args.number c.args.self.now (stopped c.finish.new.self))) (sym c.in-EndedNtr.is) (not_reported_end (code_of c.args.program.now) c.args.number enabled c.args.self.now c.finish.new.self c.if-self.false c.requires.rests c.in_ok-finish-in-EndedNtr.ensures.ok)
