use Rattle.rept_opening.specs.Delivered.{SaysRefusal}
use Rattle.rept_opening.specs.declared.refusal.Refusal.TheVariants as refusal
use Rattle.rept_opening.proofs.DeliveredLemmas.{delivers_as}
use Rattle.rept_opening.proofs.telling.tell_no_memory.Goals as goal

pub returns : goal.returns
returns g c = delivers_as _ (SaysRefusal refusal.OutOfMemory) _ _ (λ text status h. record { line = h.0; ending = h.1 }) c.deliver.ensures
