use Rattle.std.proofs.Common.{◌≡◌, Some, sym, subst, ◌∙◌}
use Rattle.rept_narrow.specs.Admitted.{Premises}
use Rattle.rept_infer.proofs.first.is_clear.Goals as goal

pub returns-then-from-address : goal.returns-then-from-address
returns-then-from-address g c = λ below story run e h.
    h.admitted.first_stack c.in-Some.from c.args.address (subst (λ (p : Premises). p.clear_from ≡ Some c.in-Some.from) (sym e) (sym c.clear_from.ensures ∙ c.in-Some.is)) c.if-from-address.true (c.is_below_stack.ensures below story run h)
