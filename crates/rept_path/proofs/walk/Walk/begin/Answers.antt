use Rattle.std.proofs.Common.{List, ◌∷◌, ◌++◌, [], refl, sym, ◌∙◌, false, subst, ap, arith, length, Bool}
use Rattle.rept_path.specs.Program.{code_of}
use Rattle.rept_isa.specs.declared.row.StepRow.{StepRow}
use Rattle.rept_trace.specs.declared.packet.Packet.{Packet}
use Rattle.rept_trace.specs.declared.packet.Packet.TheVariants.{Start}
use Rattle.rept_path.specs.declared.walk.Walk.{Walk}
use Rattle.rept_path.specs.Packets.{bits_of}
use Rattle.rept_path.specs.State.{Stands}
use Rattle.rept_path.proofs.Packeting.{begun}
use Rattle.rept_path.proofs.walk.Walk.begin.Goals as goal
use Rattle.rept_path.specs.Route.{earlier_by}

pub returns-clause-ok : goal.returns-clause-ok
returns-clause-ok c =
    let code = code_of c.args.program.now in
    let a = c.in-Start.address in
    let w : Walk = record { at = a; steps = c.new.result; bits = c.push_branch.new.bits; used = 0; reported = a; inferred = false; waiting = false; room = c.args.room } in
    let none = c.new-bits.ensures.items in
    let all = c.in_ok-push_branch-in-Start.ensures.bits c.in-Start.privilege c.in-Start.time c.in-Start.context ∙ ap (λ (xs : List Bool). xs ++ bits_of code (Start c.in-Start.branch c.in-Start.privilege a c.in-Start.time c.in-Start.context)) none in
    let size = c.in_ok-push_branch-in-Start.ensures.size in
    let empty = ap (length {A = Bool}) none in
    subst (λ (p : Packet). (legs : List (List StepRow)) × Stands code (earlier_by (record { number = c.args.number; room = c.args.room }) (p ∷ []) legs) w) (sym c.in-Start.is) (([] ∷ []), begun code (record { number = c.args.number; room = c.args.room }) c.in-Start.branch c.in-Start.privilege a c.in-Start.time c.in-Start.context _ w (sym c.in_ok-position_of-in-Start.ensures) refl c.new.ensures all (omega (arith, size, empty)) refl refl refl refl refl)
