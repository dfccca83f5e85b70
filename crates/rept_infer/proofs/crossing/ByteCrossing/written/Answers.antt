use Rattle.std.proofs.Common.{◌≡◌, ◌≤◌, ◌+◌, ◌<◌, ℤ, ℕ, List, Some, length, to_z, of_z, w32, rules, refl, sym, subst, ◌∙◌, arith}
use Rattle.std.proofs.lemmas.Result.{IfOk-weaker}
use Rattle.rept_isa.specs.Numbers.{plus}
use Rattle.rept_narrow.proofs.Sentences.{inside_rows, same_some}
use Rattle.rept_isa.specs.declared.instr.Instr.{Instr}
use Rattle.rept_isa.specs.declared.row.StepRow.{StepRow}
use Rattle.rept_alias.specs.Accesses.{call_hits}
use Rattle.rept_narrow.specs.declared.lanes.held.Held.{Held}
use Rattle.rept_narrow.specs.Lanes.{held_at}
use Rattle.rept_narrow.specs.Admitted.{RowWrites}
use Rattle.rept_narrow.specs.Stores.{IsAtomicAt}
use Rattle.rept_narrow.proofs.Touching.{touched_written}
use Rattle.rept_infer.proofs.Listing.{named_written}
use Rattle.rept_infer.proofs.crossing.ByteCrossing.written.Goals as goal

pub returns-in-Some : goal.returns-in-Some
returns-in-Some g c =
    let read : to_z w32 (of_z w32 c.in-Store.imm) ≡ c.in-Store.imm = search rules in
    IfOk-weaker c.places.result _ _ (λ list all story run image at h bytes.
    let inside = inside_rows story.rows c.args.self.now.index c.args.self.now.row at in
    let le : c.args.self.now.index ≤ length story.rows = omega (arith, inside) in
    let there : plus ((run c.args.self.now.index).register c.in-Store.rs1) c.in-Store.imm ≡ c.in-Some.place = subst (λ (z : ℤ). plus ((run c.args.self.now.index).register c.in-Store.rs1) z ≡ c.in-Some.place) read (c.in-Some.ensures story run h le) in
    named_written story run c.args.self.now.index c.args.self.now.row c.in-Store.op c.in-Store.rs1 c.in-Store.rs2 c.in-Store.imm c.in-Some.place c.store_width.result c.args.self.now.bytes.now.sweep.now.held list.items at c.in-Store.is c.store_width.ensures.value there all) c.places.ensures

pub returns-in-Amo : goal.returns-in-Amo
returns-in-Amo g c =
    let row = c.args.self.now.row in
    let i = c.args.self.now.index in
    IfOk-weaker c.touched.result _ _ (λ list lists story run image at h bytes.
    let form : IsAtomicAt row.instr c.in-Amo.rs1 = subst (λ (x : Instr). IsAtomicAt x c.in-Amo.rs1) (sym c.in-Amo.is) refl in
    touched_written story run i row c.args.self.now.bytes.now.sweep.now.held list.items (call_hits c.atomic_access-access.result) at (λ a w. c.atomic_access-access.ensures story run row a at form h w) (λ a one e hit. lists a one (subst (λ (xs : List (ℕ × Held)). held_at xs a ≡ Some one) (sym c.held.ensures) e) hit)) c.touched.ensures

pub returns-in-Ecall : goal.returns-in-Ecall
returns-in-Ecall g c =
    let row = c.args.self.now.row in
    let i = c.args.self.now.index in
    IfOk-weaker c.touched-in-Ecall.result _ _ (λ list lists story run image at h bytes.
    touched_written story run i row c.args.self.now.bytes.now.sweep.now.held list.items (call_hits c.call_access-access.result) at (λ a w. c.call_access-access.ensures story run row a image at c.in-Ecall.is h w) (λ a one e hit. lists a one (subst (λ (xs : List (ℕ × Held)). held_at xs a ≡ Some one) (sym c.held-in-Ecall.ensures) e) hit)) c.touched-in-Ecall.ensures

pub returns-then-writes_none : goal.returns-then-writes_none
returns-then-writes_none g c = λ story run image at h bytes a one is out row found w.
    c.writes_none.ensures c.if-writes_none.true story run a at h (subst (λ (x : StepRow). RowWrites story run c.args.self.now.index x a) (same_some (sym found ∙ at)) w)
