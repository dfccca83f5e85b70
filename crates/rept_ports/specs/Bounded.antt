-- What a call of `next_line` does.
use Rattle.std.specs.Prelude.{◌≡◌, Option, None, Some, Result, Ok, Err, MatchOption, MatchBool}
use Rattle.rept_ports.specs.Lines.{LineStep, SaidLine}
use Rattle.rept_ports.specs.Port.{Port}
use Rattle.rept_ports.specs.declared.lines.limits.LineFault.{LineFault}
use Rattle.rept_ports.specs.declared.lines.limits.Line.{Line}
use Rattle.rept_ports.specs.declared.lines.limits.Line.TheVariants as line
use Rattle.rept_ports.specs.declared.lines.bounded.BoundedLines.{BoundedLines}

abbrev pub fault_in : {T : Type 0} → Result T LineFault → Option LineFault
fault_in (Ok x) = None
fault_in (Err e) = Some e

-- nothing was read, and nothing was forgotten
pub record IsSame {S : Type 0} (old new : BoundedLines S) : Type 0 where
  pub source : new.source.now ≡ old.source.now
  pub intake : new.intake ≡ old.intake
  pub fault : new.fault ≡ old.fault

-- After a fault each call answers the same, and so it does after the end; else a line was found, or
-- the fault is kept.
module _ {S : Type 0} (port : S → Port) where
  abbrev pub LinesOn : BoundedLines S → BoundedLines S → SaidLine → Type 0
  LinesOn old new said = MatchOption old.fault
      (MatchBool old.intake.ended ((said ≡ Ok None) × IsSame old new)
      (LineStep old.intake new.intake (port old.source.now) (port new.source.now) said × (new.fault ≡ fault_in said)))
      (λ e. (said ≡ Err e) × IsSame old new)

abbrev pub said_by : Result (Option Line) LineFault → SaidLine
said_by (Ok None) = Ok None
said_by (Ok (Some (line.Text t))) = Ok (Some (Some t.now))
said_by (Ok (Some line.Long)) = Ok (Some None)
said_by (Err e) = Err e
