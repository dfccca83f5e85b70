use Rattle.std.proofs.Common.{◌≡◌, List, ap, sym, subst, ◌∙◌}
use Rattle.std.specs.Prelude.{Err}
use Rattle.rept_alias.specs.declared.addresses.CallAccess.{CallAccess}
use Rattle.rept_relate.specs.Holding.{AreCallsWithin}
use Rattle.rept_infer.proofs.Classing.{walk_as, valued_as, valued_back}
use Rattle.rept_infer.proofs.relating.related_classes.Goals as goal

pub returns-in-Err-Impossible-clause-impossible : goal.returns-in-Err-Impossible-clause-impossible
returns-in-Err-Impossible-clause-impossible c = λ empty is story e image run h. c.relate.ensures.impossible c.in-Err-Impossible.row (c.in-Err-Impossible.is ∙ ap Err c.in-Err-Impossible.field-0-is) story.image_end run (walk_as story c.args.table.now run c.args.path.rows.now e h) (subst (λ (xs : List CallAccess). AreCallsWithin story.image_end c.args.path.rows.now xs run) (sym c.deref.ensures.value) (c.in-Ok.ensures.within story run e image h)) (valued_as story run c.args.path.rows.now c.in-Ok-gather.classes e (c.in-Ok-gather.ensures.valued story run e h))

pub returns-clause-valued : goal.returns-clause-valued
returns-clause-valued c = λ story run e image h. valued_back story run c.args.path.rows.now c.relate.new.classes e (c.in-Ok-relate.ensures.keeps story.image_end run (walk_as story c.args.table.now run c.args.path.rows.now e h) (subst (λ (xs : List CallAccess). AreCallsWithin story.image_end c.args.path.rows.now xs run) (sym c.deref.ensures.value) (c.in-Ok.ensures.within story run e image h)) (valued_as story run c.args.path.rows.now c.in-Ok-gather.classes e (c.in-Ok-gather.ensures.valued story run e h)))
