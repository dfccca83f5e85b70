-- What was delivered.
use Rattle.std.proofs.Common.{◌≡◌, ℕ, ◌+◌, List, ◌++◌, inl, inr, ◌∙◌}
use Rattle.rept_ports.specs.Port.{Port, PortMove}
use Rattle.rept_opening.specs.Delivered.{Delivers}
use Rattle.rept_opening.specs.declared.status.ExitStatus.{ExitStatus}

-- what goes with a status by one relation goes with it by a wider one
pub delivers_as : (Goes Wider : List ℕ → ExitStatus → Type 0) (out : PortMove Port) (result : ExitStatus) → ((text : List ℕ) (s : ExitStatus) → Goes text s → Wider text s) → Delivers Goes out result → Delivers Wider out result
delivers_as Goes Wider out result wider (inl h) = inl (h.0, wider h.0 result h.1, h.2, h.3)
delivers_as Goes Wider out result wider (inr h) = inr (h.0, h.1, (h.2.0, h.2.1, wider h.2.0 h.2.1 h.2.2, h.2.3))
