use Rattle.std.proofs.Common.{refl, sym, arith, Some, false}
use Rattle.std.proofs.lemmas.Result.{err_from_is_err_and}
use Rattle.rept_path.specs.Program.{code_of}
use Rattle.rept_trace.specs.declared.packet.Packet.TheVariants.{Start}
use Rattle.rept_path.specs.declared.aim.Aim.TheVariants as aims
use Rattle.rept_path.specs.declared.walk.Walk.{Walk}
use Rattle.rept_path.proofs.Followed.{walked, alone, restart_fault}
use Rattle.rept_path.proofs.walk.Walk.restart.Goals as goal

pub returns-clause-ok : goal.returns-clause-ok
returns-clause-ok c = λ privilege time context.
    let w = c.in_ok-go.ensures.ok in
    let old = c.args.self.now in
    let a = c.args.address in
    let mid : Walk = record { at = old.at; steps = old.steps; bits = c.push_branch.new.bits; used = old.used; reported = a; inferred = false; waiting = old.waiting; room = old.room } in
    walked (code_of c.args.program.now) c.args.number (Start c.args.branch privilege a time context) old mid c.go.new.self c.go.new.self c.requires.runs (_, sym c.in_ok-position_of.ensures) refl (c.in_ok-push_branch.ensures.bits privilege time context) refl refl refl (alone (code_of c.args.program.now) c.args.number (Some a) (aims.Start a) mid c.go.new.self w) refl refl refl refl refl w.counts w.kept.inferred (c.in_ok-go.ensures.rests refl) refl (λ _. refl) (λ _. refl)

pub go-requires : goal.go-requires
go-requires c =
    let size = c.in_ok-push_branch.ensures.size in
    let grows = c.in_ok-push_branch.ensures.grows in
    let enough = c.requires.counts.enough in
    let rests = c.requires.rests in
    record { enough = omega (arith, grows, enough); few = c.requires.counts.few; spare = omega (arith, size, rests); linked = c.requires.counts.linked }

pub returns-in_err-go-clause-err : goal.returns-in_err-go-clause-err
returns-in_err-go-clause-err c =
    let p = err_from_is_err_and c.from_residual-in_err-go.result c.from_residual-in_err-go.ensures.1 in
    rw (p.1, p.2) (λ privilege time context. restart_fault (code_of c.args.program.now) c.args.number c.args.branch privilege c.args.address time context c.args.self.now c.push_branch.new.bits.items c.in_err-go.field-0.0 (_, sym c.in_ok-position_of.ensures) (c.in_ok-push_branch.ensures.bits privilege time context) c.in_err-go.ensures.err)
