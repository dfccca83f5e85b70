-- Why an analysis stops.
use Rattle.std.proofs.Common.{◌≡◌, Result, Err, ◌∙◌, ap}
use Rattle.rept_facts.specs.declared.stop.Stop.{Stop}

-- a stop of the analysis is one of the search
pub stop_at : {A B : Type 0} (e : Stop) (stop : Stop) (r : Result A Stop) → r ≡ Err e → ◌≡◌ {A = Result B Stop} (Err e) (Err stop) → r ≡ Err stop
stop_at e stop r is same = is ∙ ap (λ (x : Stop). Err x) (same_err same)
  where
    same_err : {B : Type 0} {x y : Stop} → ◌≡◌ {A = Result B Stop} (Err x) (Err y) → x ≡ y
    same_err e = cc
