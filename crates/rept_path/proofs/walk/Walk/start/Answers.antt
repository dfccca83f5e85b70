use Rattle.std.proofs.Common.{refl, sym, ◌∙◌, ◌++◌, List, Bool, ap, arith, length}
use Rattle.rept_path.specs.Program.{code_of}
use Rattle.rept_trace.specs.declared.packet.Packet.TheVariants.{Start}
use Rattle.rept_path.specs.declared.walk.Walk.{Walk}
use Rattle.rept_path.specs.Packets.{bits_of}
use Rattle.rept_path.proofs.Followed.{started}
use Rattle.rept_path.proofs.walk.Walk.start.Goals as goal

pub returns-clause-ok : goal.returns-clause-ok
returns-clause-ok c = λ privilege time context.
    let x = c.in_ok-join.ensures.ok in
    let none = c.clear.ensures.items in
    let bits = c.in_ok-push_branch.ensures.bits privilege time context ∙ ap (λ (xs : List Bool). xs ++ bits_of (code_of c.args.program.now) (Start c.args.branch privilege c.in_ok-at.at time context)) none in
    let size = c.in_ok-push_branch.ensures.size in
    let empty = ap (length {A = Bool}) none in
    started (code_of c.args.program.now) c.args.number c.args.branch privilege c.args.address time context c.in_ok-at.at c.args.self.now _ x.rows c.requires.waits x.crosses (sym c.in_ok-at.ensures) x.seen refl refl bits (omega (arith, size, empty)) refl refl refl x.few (ap (λ (w : Walk). w.room) c.join.ensures.rest) x.linked
