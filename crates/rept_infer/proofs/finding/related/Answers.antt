use Rattle.std.proofs.Common.{◌≡◌, Result, Err, ap}
use Rattle.rept_infer.specs.declared.stop.InferStop.{InferStop}
use Rattle.rept_infer.proofs.finding.related.Goals as goal

abbrev failed : {A : Type 0} → InferStop → Result A InferStop
failed x = Err x

refused : {A B : Type 0} (x y : InferStop) → failed {A = A} x ≡ failed {A = A} y → failed {A = B} x ≡ failed {A = B} y
refused {A} {B} x y e = let same : x ≡ y = cc in ap (failed {A = B}) same

pub returns-in-Err-relate_few-clause-refuses : goal.returns-in-Err-relate_few-clause-refuses
returns-in-Err-relate_few-clause-refuses g c = λ empty e story run rows end premises known is.
    let found = c.in-Ok.ensures.keeps story run rows end premises known is in
    c.in-Err-relate_few.ensures.impossible empty (refused c.in-Err-relate_few.stop _ e) story rows end run (rw c.begin.ensures found.sets)
