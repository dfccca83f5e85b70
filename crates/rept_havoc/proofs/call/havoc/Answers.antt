use Rattle.std.proofs.Common.{◌≡◌, true, sym, ◌∙◌, ap, subst}
use Rattle.rept_partial.specs.declared.flat.Flat.TheVariants.{Known}
use Rattle.rept_alias.specs.declared.addresses.CallAccess.{CallAccess}
use Rattle.rept_alias.specs.Accesses.{call_hits}
use Rattle.rept_havoc.specs.Havoc.{argument}
use Rattle.rept_havoc.specs.Laws.HavocLemmas.{changed_covers, changed_exact, changed_within, is_number, same_number}
use Rattle.rept_havoc.proofs.call.havoc.Goals as goal

pub returns-in-Known-clause-covers : goal.returns-in-Known-clause-covers
returns-in-Known-clause-covers c = λ register answer a named meets lies t.
    subst (λ (x : CallAccess). call_hits x a ≡ true) (sym c.changed_by.ensures) (changed_covers c.in-Known.call (argument c.args.args.now) c.args.answered c.args.image_end register answer a (is_number c.args.number c.in-Known.call (register 17) c.in-Known.is named) meets lies t)

pub returns-in-Known-clause-exact : goal.returns-in-Known-clause-exact
returns-in-Known-clause-exact c = λ register answer a named known exact fits.
    ap (λ (x : CallAccess). call_hits x a) c.changed_by.ensures ∙ changed_exact c.in-Known.call (argument c.args.args.now) c.args.answered c.args.image_end register answer a (same_number c.args.number c.in-Known.call (register 17) c.in-Known.is named) known exact fits

pub returns-in-Known-clause-monotone : goal.returns-in-Known-clause-monotone
returns-in-Known-clause-monotone c = λ wider_number wide wider a n w v t.
    changed_within (Known c.in-Known.call) wider_number (argument c.args.args.now) wide c.args.answered wider c.args.image_end a (rw c.in-Known.is at n) w v (subst (λ (x : CallAccess). call_hits x a ≡ true) c.changed_by.ensures t)
