use Rattle.std.proofs.Common.{◌≡◌, ◌≤◌, ◌+◌, ℕ, true, length, sym, subst, ◌∙◌, arith}
use Rattle.rept_isa.specs.declared.instr.Instr.{Instr}
use Rattle.rept_machine.specs.Calls.{may_change}
use Rattle.rept_machine.specs.Writes.{WritesBy}
use Rattle.rept_narrow.proofs.Sentences.{inside_rows}
use Rattle.rept_narrow.proofs.Calling.{exact_is}
use Rattle.rept_narrow.proofs.Touching.{number_is, meets}
use Rattle.rept_narrow.proofs.touched.call_access.Goals as goal

pub returns : goal.returns
returns c = λ story run row a image at form h w.
    let i = c.args.index in
    let inside = inside_rows story.rows i row at in
    let le : i ≤ length story.rows = omega (arith, inside) in
    let last : i + 1 ≤ length story.rows = omega (arith, inside) in
    let changed : may_change story.image_end (run i).register ((run (i + 1)).register 10) a ≡ true = subst (λ (x : Instr). WritesBy x story.image_end (run i) (run (i + 1)) a) form w in
    let here : may_change c.args.image_end (run i).register ((run (i + 1)).register 10) a ≡ true = subst (λ (n : ℕ). may_change n (run i).register ((run (i + 1)).register 10) a ≡ true) image changed in
    c.havoc.ensures.covers (run i).register ((run (i + 1)).register 10) a
    (number_is c.as_exact.result c.of-number.result ((run i).register 17) c.of-number.ensures (λ v e. exact_is story run c.args.table.now i c.register.result 17 v c.at.result h le c.register.ensures c.at.ensures.value (sym c.as_exact.ensures ∙ e)))
    (meets (run i).register c.range_of.result c.range_of-2.result c.range_of-3.result c.range_of-4.result c.range_of-5.result c.range_of-6.result (c.range_of.ensures story run h le) (c.range_of-2.ensures story run h le) (c.range_of-3.ensures story run h le) (c.range_of-4.ensures story run h le) (c.range_of-5.ensures story run h le) (c.range_of-6.ensures story run h le))
    (c.range_of-7.ensures story run h last) here
