-- What is written of a made run, where the output doesn't fail.
use Rattle.std.specs.Prelude.{◌⊎◌, ℕ, List}
use Rattle.rept_opening.specs.Delivered.{SaysRefusal}
use Rattle.rept_app.specs.Told.{Summed, SumCut}
use Rattle.rept_opening.specs.declared.refusal.Refusal.TheVariants as refusal
use Rattle.rept_opening.specs.declared.status.ExitStatus.{ExitStatus}

-- all of it; or memory ran out; or the session was cut short
abbrev pub Sums : ℕ → ℕ → List ℕ → ExitStatus → Type 0
Sums seed steps text status = Summed seed steps text status ⊎ SaysRefusal refusal.OutOfMemory text status ⊎ SumCut seed steps text status
