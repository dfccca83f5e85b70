use Rattle.std.proofs.Common.{ℕ, List, length, get_or, ◌∙◌, ap, arith}
use Rattle.rept_make.proofs.Making.{made_is}
use Rattle.rept_make.proofs.made.save.Goals as goal

pub returns : goal.returns
returns c = λ seed code ran.
    let same = c.as_slice.ensures.value in
    let saved = c.saved_registers-registers.ensures in
    let held = c.in_ok-bytes.ensures in
    made_is seed c.args.code.now c.args.run.now.machine c.args.run.now.steps code (λ i. omega (arith, c.type_inv.code i)) ran c.in_ok-exe.exe c.in_ok-core.core c.in_ok-trace.trace c.saved_registers-registers.result c.as_slice.result.now c.in_ok-exe.ensures c.in_ok-core.ensures saved.size saved.pc saved.saved
    (ap (length {A = ℕ}) same ∙ held.size)
    (λ i lt. ap (λ (xs : List ℕ). get_or xs i 0) same ∙ held.bytes i lt)
    c.in_ok-trace.ensures.tells c.in_ok-trace.ensures.few
