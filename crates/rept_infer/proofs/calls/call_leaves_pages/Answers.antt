use Rattle.std.proofs.Common.{◌≡◌, ◌≤◌, ℕ, length, sym, ◌∙◌, arith}
use Rattle.std.proofs.lemmas.Bool.{ne_eqb}
use Rattle.rept_narrow.proofs.Calling.{exact_is, both_known, one_known}
use Rattle.rept_infer.proofs.calls.call_leaves_pages.Goals as goal

pub returns-in-Some-as_exact : goal.returns-in-Some-as_exact
returns-in-Some-as_exact c = λ leaves story run inside h.
    let le : c.args.index ≤ length story.rows = omega (arith, inside) in
    let number : (run c.args.index).register 17 ≡ c.in-Some-eq222.field-0 = exact_is story run c.args.table.now c.args.index c.register.result 17 c.in-Some-eq222.field-0 c.at.result h le c.register.ensures c.at.ensures.value (sym c.as_exact.ensures ∙ c.in-Some-eq222.is) in
    let flags : (run c.args.index).register 13 ≡ c.in-Some-as_exact.flags = exact_is story run c.args.table.now c.args.index c.register-in-Some-eq222.result 13 c.in-Some-as_exact.flags c.at-in-Some-eq222.result h le c.register-in-Some-eq222.ensures c.at-in-Some-eq222.ensures.value (sym c.as_exact-in-Some-eq222.ensures ∙ c.in-Some-as_exact.is) in
    both_known c.in-Some-eq222.field-0 c.in-Some-as_exact.flags ((run c.args.index).register 17) ((run c.args.index).register 13) 222 c.leaves_pages.result number flags c.in-Some-eq222.field-0-test c.leaves_pages.ensures leaves

pub returns-in-Some : goal.returns-in-Some
returns-in-Some c = λ leaves story run inside h.
    let le : c.args.index ≤ length story.rows = omega (arith, inside) in
    let number : (run c.args.index).register 17 ≡ c.in-Some.number = exact_is story run c.args.table.now c.args.index c.register.result 17 c.in-Some.number c.at.result h le c.register.ensures c.at.ensures.value (sym c.as_exact.ensures ∙ c.in-Some.is) in
    one_known c.in-Some.number ((run c.args.index).register 17) ((run c.args.index).register 13) c.leaves_pages-in-Some.result number (ne_eqb c.in-Some.number 222 c.in-Some.number-test.1) c.leaves_pages-in-Some.ensures leaves
