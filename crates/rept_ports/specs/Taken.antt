-- What is taken from a source, at most 1,048,576 bytes.
use Rattle.std.specs.Prelude.{◌≡◌, ℕ, ◌+◌, ◌≤◌, List, [], ◌∷◌, ◌++◌, length, Bool, true, false, ◌==◌, Option, None, Some, Result, Ok, Err}
use Rattle.std.specs.Io.KnownBytes.{Consumes, Keeps, IsAtEnd}
use Rattle.rept_ports.specs.Causes.{OneFault}
use Rattle.rept_ports.specs.Port.{Port}
use Rattle.rept_ports.specs.declared.lines.limits.LineFault.{LineFault}
use Rattle.rept_ports.specs.declared.lines.limits.LineFault.TheVariants.{ReadFault, TooMuchInput}

-- the bytes that were taken and not yet given on, how many were taken in all, and whether the end
-- of the input was seen
pub record Taken : Type 0 where
  pub pending : List ℕ
  pub count : ℕ
  pub ended : Bool

-- Asking whether a byte is left: an `Err` says that one was, or that the source failed.
abbrev pub IsMore : Port → Port → Result ℕ LineFault → Type 0
IsMore source source' (Ok n) = (n ≡ 0) × IsAtEnd source'.bytes × Consumes source.bytes source'.bytes [] × (source'.faults ≡ source.faults)
IsMore source source' (Err ReadFault) = OneFault source.faults source'.faults × Keeps source.bytes source'.bytes
IsMore source source' (Err TooMuchInput) = ((b : ℕ) × Consumes source.bytes source'.bytes (b ∷ [])) × (source'.faults ≡ source.faults)

-- Taking more, where nothing is pending and the end has not been seen.
abbrev pub Fills : Taken → Taken → Port → Port → Result ℕ LineFault → Type 0
Fills old new source source' (Ok n) =
    (n ≡ length new.pending) × (new.ended ≡ (n == 0)) × (n ≡ 0 → IsAtEnd source'.bytes) × Consumes source.bytes source'.bytes new.pending × (new.count ≡ old.count + n) × (new.count ≤ 1048576) × (source'.faults ≡ source.faults)
Fills old new source source' (Err ReadFault) = OneFault source.faults source'.faults × Keeps source.bytes source'.bytes × (new ≡ old) × (new.count ≤ 1048576)
Fills old new source source' (Err TooMuchInput) = ((b : ℕ) × Consumes source.bytes source'.bytes (b ∷ [])) × (old.count ≡ 1048576) × (new ≡ old) × (source'.faults ≡ source.faults)

-- The next byte of the input: from what is pending, or from bytes that are taken now.
abbrev pub TakesByte : Taken → Taken → Port → Port → Result (Option ℕ) LineFault → Type 0
TakesByte old new source source' (Ok (Some b)) =
    (got : List ℕ) × Consumes source.bytes source'.bytes got × (old.pending ++ got ≡ b ∷ new.pending) × (new.count ≡ old.count + length got) × (new.count ≤ 1048576) × (source'.faults ≡ source.faults) × (new.ended ≡ false)
TakesByte old new source source' (Ok None) =
    (old.pending ≡ []) × IsAtEnd source'.bytes × Consumes source.bytes source'.bytes [] × (new.pending ≡ []) × (new.count ≡ old.count) × (source'.faults ≡ source.faults) × (new.ended ≡ true) × (new.count ≤ 1048576)
TakesByte old new source source' (Err ReadFault) = (old.pending ≡ []) × OneFault source.faults source'.faults × Keeps source.bytes source'.bytes × (new ≡ old) × (new.count ≤ 1048576)
TakesByte old new source source' (Err TooMuchInput) = (old.pending ≡ []) × ((b : ℕ) × Consumes source.bytes source'.bytes (b ∷ [])) × (old.count ≡ 1048576) × (new ≡ old) × (source'.faults ≡ source.faults)
