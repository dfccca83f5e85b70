-- The status of a load that failed.
use Rattle.std.proofs.Common.{◌≡◌, ℕ, List, inl, inr}
use Rattle.rept_app.specs.Told.{CallInput, LoadFailed}
use Rattle.rept_opening.specs.declared.status.ExitStatus.{ExitStatus}
use Rattle.rept_opening.specs.declared.status.ExitStatus.TheVariants as ends

-- a load that failed ends with its status
pub load_ending : (g : CallInput) (text : List ℕ) (status : ExitStatus) → LoadFailed g text status → status ≡ ends.LoadFault
load_ending g text status (inl (kind, comes, loads, says)) = says.ending
load_ending g text status (inr (inl (kind, comes, loads, says))) = says.ending
load_ending g text status (inr (inr (core, loaded, fails))) = fails.ending
