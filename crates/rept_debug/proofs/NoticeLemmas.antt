-- What was written of a line, or how much of it.
use Rattle.std.proofs.Common.{◌≡◌, ℕ, List, Result, Ok, Err, OnErr, OnOk, inl, inr, subst}
use Rattle.std.specs.Io.KnownBytes.{Appends}
use Rattle.rept_ports.specs.Causes.{AppendsPrefix, HasCause}
use Rattle.rept_ports.specs.Port.{Port, move}
use Rattle.rept_debug.specs.Debugged.{IsWritten, notice_line}

module _ (from : ℕ) (before after : Port) where
  by_result : {T E : Type 0} (r : Result T E) → OnOk r (Appends before.bytes after.bytes (notice_line from)) → OnErr r (AppendsPrefix before.bytes after.bytes (notice_line from)) → HasCause before.faults after.faults r → IsWritten from (move before after)
  by_result (Ok x) a b h = inl (a, h.calm)
  by_result (Err e) a b h = inr (b, record { rose = h.failed; later = h.later; once = h.once })

  pub line_written : {T E : Type 0} (text : List ℕ) (r : Result T E) → text ≡ notice_line from → OnOk r (Appends before.bytes after.bytes text) → OnErr r (AppendsPrefix before.bytes after.bytes text) → HasCause before.faults after.faults r → IsWritten from (move before after)
  line_written text r is a b h =
      by_result r (subst (λ (t : List ℕ). OnOk r (Appends before.bytes after.bytes t)) is a) (subst (λ (t : List ℕ). OnErr r (AppendsPrefix before.bytes after.bytes t)) is b) h
