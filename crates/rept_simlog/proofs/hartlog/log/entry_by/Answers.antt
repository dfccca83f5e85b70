use Rattle.std.proofs.Common.{◌≡◌, rules}
use Rattle.std.specs.Prelude.{None}
use Rattle.rept_simlog.proofs.hartlog.log.entry_by.Goals as goal

pub returns-in_err-address_of-clause-none : goal.returns-in_err-address_of-clause-none
returns-in_err-address_of-clause-none c =
    let none : c.from_residual.result ≡ None = search rules in
    rw none (λ entry numbers. c.in_err-address_of.ensures.none entry.hart numbers.hart_is)

pub returns-in_err-address_of-2-clause-none : goal.returns-in_err-address_of-2-clause-none
returns-in_err-address_of-2-clause-none c =
    let none : c.from_residual-in_err-address_of-2.result ≡ None = search rules in
    rw none (λ entry numbers. c.in_err-address_of-2.ensures.none entry.thread numbers.thread_is)

pub returns-in_err-address_of-3-clause-none : goal.returns-in_err-address_of-3-clause-none
returns-in_err-address_of-3-clause-none c =
    let none : c.from_residual-in_err-address_of-3.result ≡ None = search rules in
    rw none (λ entry numbers. c.in_err-address_of-3.ensures.none entry.address numbers.address_is)
