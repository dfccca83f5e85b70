use Rattle.std.proofs.Common.{◌≡◌, ◌+◌, refl, ap, cond, sym, ◌∙◌, false, inr}
use Rattle.rept_path.specs.Program.{code_of}
use Rattle.rept_path.specs.Code.{is_branch, branches, flow_of}
use Rattle.rept_path.specs.State.{lead, here}
use Rattle.rept_path.proofs.MoveLemmas.{moved, branch_of, no_place}
use Rattle.rept_path.proofs.walk.Walk.move_on.Goals as goal
use Rattle.rept_path.proofs.walk.Walk.move_on.Goals.{then-branches, else-branches}

pub returns-in-Err-clause-err : goal.returns-in-Err-clause-err
returns-in-Err-clause-err c = inr (no_place (code_of c.args.program.now) (lead c.args.self.now c.args.packet c.args.target) (here c.args.self.now) c.in-Err.fault (sym c.look.ensures ∙ c.in-Err.is))

pub returns-clause-ok : goal.returns-clause-ok
returns-clause-ok c =
    let code = code_of c.args.program.now in
    let old = c.args.self.now in
    let there = sym c.look.ensures ∙ c.in-Ok.is in
    let b = c.branches.ensures in
    let taken : c.if-branches.taken ≡ cond (branches (flow_of c.in-Ok.instr)) 1 0 = elim c.if-branches.branch [ then-branches w ↦ rw (w.taken-is, ← b, w.if-branches.true) refl | else-branches w ↦ rw (w.taken-is, ← b, w.if-branches.false) refl ] in
    let same : cond (branches (flow_of c.in-Ok.instr)) 1 0 ≡ cond (is_branch code old.at) 1 0 = ap (λ t. cond t 1 0) (sym (branch_of code old.at c.in-Ok.instr there)) in
    moved code (lead old c.args.packet c.args.target) old _ (record { at = old.at; instr = c.in-Ok.instr; next = c.in_ok-next.next; call = false; short = c.is_short.result }) c.requires refl refl (sym c.in_ok-next.ensures) refl there refl c.is_short.ensures refl c.in_default.ensures.ok (ap (λ n. old.used + n) (taken ∙ same)) (record { bits = refl; reported = refl; inferred = refl; waiting = refl; room = refl }) c.in_default.ensures.ends
