-- What a call writes that holds a session, and with which status: the answers, and after them the
-- line of what ended it.
use Rattle.std.specs.Prelude.{◌≡◌, ◌⊎◌, List, ◌++◌, ℕ, IfSome}
use Rattle.rept_ports.specs.Port.{Port, PortMove}
use Rattle.rept_findings.specs.Shown.{SessionTold}
use Rattle.rept_session.specs.Serving.Serving.{Reading, InputEnded, Failed, Overran, FirstAnswers}
use Rattle.rept_opening.specs.Delivered.{Delivers}
use Rattle.rept_app.specs.Ends.{IsCaused}
use Rattle.rept_opening.specs.Lines.{line_of}
use Rattle.rept_opening.specs.declared.refusal.Refusal.{Refusal}
use Rattle.rept_opening.specs.declared.refusal.Refusal.TheVariants as refusal
use Rattle.rept_opening.specs.declared.status.ExitStatus.{ExitStatus}
use Rattle.rept_opening.specs.declared.status.ExitStatus.TheVariants as ends

-- such answers, and after them the line of a refusal
abbrev pub WithLine : Refusal → (List ℕ → Type 0) → List ℕ → Type 0
WithLine r Answers text = (answered : List ℕ) × Answers answered × (text ≡ answered ++ line_of r)

-- the answers to an input, or to as much of it as is taken
abbrev pub Replies : SessionTold → List ℕ → List ℕ → ExitStatus → Type 0
Replies t input text ends.Ok = InputEnded t input text
Replies t input text ends.TooMuchInput = WithLine refusal.TooMuchInput (Overran t input) text
Replies t input text other = ⊥

-- the input failed, or memory ran out
abbrev pub CutOff : SessionTold → Reading → List ℕ → ExitStatus → Type 0
CutOff t reading text ends.InputFault = WithLine refusal.InputFault (Failed t reading) text
CutOff t reading text ends.OutOfMemory = WithLine refusal.OutOfMemory (FirstAnswers t reading.input) text
CutOff t reading text other = ⊥

-- what a session leaves on the output, and its status: its answers, or what is written where the
-- input fails or memory runs out
abbrev pub IsHeldSession : SessionTold → Reading → List ℕ → ExitStatus → Type 0
IsHeldSession t reading text status = Replies t reading.input text status ⊎ CutOff t reading text status

-- A session over what is told: what it leaves on the output where the input tells its bytes, and
-- how it ends; the signal of the crash is none of its answers.
abbrev pub HoldsSession : SessionTold → ℕ → PortMove Port → PortMove Port → ExitStatus → Type 0
HoldsSession t signal source sink status =
    IfSome source.before.bytes (λ bytes. Delivers (IsHeldSession t (record { input = bytes; left = source.after.bytes })) sink status) × IsCaused source sink status
