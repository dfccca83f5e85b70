-- What a call wrote, and with which status it ended.
use Rattle.std.specs.Prelude.{◌≡◌, ◌⊎◌, List, ℕ}
use Rattle.std.specs.Io.KnownBytes.{Appends}
use Rattle.rept_ports.specs.Causes.{OneFault, AppendsPrefix}
use Rattle.rept_ports.specs.Port.{Port, PortMove}
use Rattle.rept_opening.specs.Lines.{line_of, status_of}
use Rattle.rept_opening.specs.Mapped.{name_line}
use Rattle.rept_opening.specs.declared.refusal.Refusal.{Refusal}
use Rattle.rept_opening.specs.declared.refusal.Refusal.TheVariants as refusal
use Rattle.rept_opening.specs.declared.status.ExitStatus.{ExitStatus}
use Rattle.rept_opening.specs.declared.status.ExitStatus.TheVariants as ends

-- The output is what it was, followed by a text that goes with the status, and no fault was
-- counted; or the output failed once, and what follows is a prefix of such a text.
abbrev pub Delivers : (List ℕ → ExitStatus → Type 0) → PortMove Port → ExitStatus → Type 0
Delivers Goes out result =
    ((text : List ℕ) × Goes text result × Appends out.before.bytes out.after.bytes text × (out.after.faults ≡ out.before.faults))
    ⊎ ((result ≡ ends.OutputFault) × OneFault out.before.faults out.after.faults × ((whole : List ℕ) × (status : ExitStatus) × Goes whole status × AppendsPrefix out.before.bytes out.after.bytes whole))

-- the line of a refusal, with its status
pub record SaysRefusal (r : Refusal) (text : List ℕ) (status : ExitStatus) : Type 0 where
  pub line : text ≡ line_of r
  pub ending : status ≡ status_of r

-- the same, or memory ran out
abbrev pub SaysOrNoMemory : Refusal → List ℕ → ExitStatus → Type 0
SaysOrNoMemory r text status = SaysRefusal r text status ⊎ SaysRefusal refusal.OutOfMemory text status

-- the line of a mapped file whose load failed, with its status; or memory ran out
abbrev pub TellsName : List ℕ → List ℕ → ExitStatus → Type 0
TellsName name text status = ((text ≡ name_line name) × (status ≡ ends.LoadFault)) ⊎ SaysRefusal refusal.OutOfMemory text status
