-- A dialog that began before anything was found goes on over what was found: as a whole it is one
-- over that. This project's own.
use Rattle.rept_ports.specs.Port.{Port, PortMove, move}
use Rattle.rept_debug.specs.Dialog.Converse.{Converses, Parties, rules_of}
use Rattle.rept_debug.specs.Dialog.Greeting.{Awaits, IsGreeting}
use Rattle.rept_debug.specs.declared.dialog.conversation.SessionEnd.{SessionEnd}
use Rattle.rept_debug.specs.declared.dialog.conversation.WaitingDialog.{WaitingDialog}
use Rattle.rept_debug.specs.declared.dialog.greeting.Greeting.{Greeting}

-- from an arrival that waits for its answer: whatever was read and written before
abbrev pub AnswersOn : Parties → WaitingDialog → PortMove Port → PortMove Port → SessionEnd → Type 0
AnswersOn parties w source sink end =
    (input output : Port) → Awaits (rules_of parties) (move input source.before) (move output sink.before) w.dialog w.packets w.arrival → Converses parties (move input source.after) (move output sink.after) end

-- from a greeting
abbrev pub GoesOn : Parties → Greeting → PortMove Port → PortMove Port → SessionEnd → Type 0
GoesOn parties g source sink end =
    (input output : Port) → IsGreeting (move input source.before) (move output sink.before) g → Converses parties (move input source.after) (move output sink.after) end
