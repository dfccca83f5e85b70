use Rattle.std.proofs.Common.{sym, subst, ◌≡◌, ◌⊎◌}
use Rattle.std.proofs.lemmas.Result.{on_ok_weaker, IfErr-weaker}
use Rattle.rept_path.specs.Program.{code_of}
use Rattle.rept_trace.specs.declared.packet.Packet.{Packet}
use Rattle.rept_trace.specs.declared.packet.Packet.TheVariants.{Start, Support}
use Rattle.rept_path.specs.declared.fault.PathFault.TheVariants.{OutOfMemory}
use Rattle.rept_path.specs.Route.{FaultBy}
use Rattle.rept_path.specs.State.{Followed, met, from_to}
use Rattle.rept_path.proofs.Followed.{stays, as_waiting, as_running, as_support}
use Rattle.rept_path.proofs.walk.Walk.follow.Goals as goal

pub returns-in-Context-clause-ok : goal.returns-in-Context-clause-ok
returns-in-Context-clause-ok c = subst (λ (p : Packet). Followed (code_of c.args.program.now) p (from_to c.args.number c.args.self.now c.args.self.now)) (sym c.in-Context.is) (stays (code_of c.args.program.now) c.args.number c.in-Context.privilege c.in-Context.time c.in-Context.context c.args.self.now c.requires.counts c.requires.rests)

pub returns-then-self-clause-ok : goal.returns-then-self-clause-ok
returns-then-self-clause-ok c = on_ok_weaker c.start.result (λ h. subst (λ (p : Packet). Followed (code_of c.args.program.now) p (from_to c.args.number c.args.self.now c.start.new.self)) (sym c.in-Start.is) (h c.in-Start.privilege c.in-Start.time c.in-Start.context)) c.start.ensures.ok

pub returns-then-self-clause-err : goal.returns-then-self-clause-err
returns-then-self-clause-err c = IfErr-weaker c.start.result _ (λ e. (e ≡ OutOfMemory) ⊎ FaultBy (code_of c.args.program.now) c.args.packet (met c.args.number c.args.self.now) e) (λ e h. as_waiting (code_of c.args.program.now) c.args.packet (Start c.in-Start.branch c.in-Start.privilege c.in-Start.address c.in-Start.time c.in-Start.context) c.args.self.now.waiting (met c.args.number c.args.self.now) e c.in-Start.is c.if-self.true (h c.in-Start.privilege c.in-Start.time c.in-Start.context)) c.start.ensures.err

pub returns-else-self-clause-ok : goal.returns-else-self-clause-ok
returns-else-self-clause-ok c = on_ok_weaker c.restart.result (λ h. subst (λ (p : Packet). Followed (code_of c.args.program.now) p (from_to c.args.number c.args.self.now c.restart.new.self)) (sym c.in-Start.is) (h c.in-Start.privilege c.in-Start.time c.in-Start.context)) c.restart.ensures.ok

pub returns-else-self-clause-err : goal.returns-else-self-clause-err
returns-else-self-clause-err c = IfErr-weaker c.restart.result _ (λ e. (e ≡ OutOfMemory) ⊎ FaultBy (code_of c.args.program.now) c.args.packet (met c.args.number c.args.self.now) e) (λ e h. as_running (code_of c.args.program.now) c.args.packet (Start c.in-Start.branch c.in-Start.privilege c.in-Start.address c.in-Start.time c.in-Start.context) c.args.self.now.waiting (met c.args.number c.args.self.now) e c.in-Start.is c.if-self.false (h c.in-Start.privilege c.in-Start.time c.in-Start.context)) c.restart.ensures.err

pub returns-in-Support-clause-ok : goal.returns-in-Support-clause-ok
returns-in-Support-clause-ok c = on_ok_weaker c.support.result (λ h. subst (λ (p : Packet). Followed (code_of c.args.program.now) p (from_to c.args.number c.args.self.now c.support.new.self)) (sym c.in-Support.is) (h c.in-Support.enabled)) c.support.ensures.ok

pub returns-in-Support-clause-err : goal.returns-in-Support-clause-err
returns-in-Support-clause-err c = IfErr-weaker c.support.result _ (λ e. (e ≡ OutOfMemory) ⊎ FaultBy (code_of c.args.program.now) c.args.packet (met c.args.number c.args.self.now) e) (λ e h. as_support (code_of c.args.program.now) c.args.packet (Support c.in-Support.enabled c.in-Support.status) c.args.self.now.waiting (met c.args.number c.args.self.now) e c.in-Support.is (h c.in-Support.enabled)) c.support.ensures.err
