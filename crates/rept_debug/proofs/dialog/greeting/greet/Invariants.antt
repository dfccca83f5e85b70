use Rattle.std.proofs.Common.{◌≡◌, ◌≤◌, ◌-◌, ℕ, List, length, None}
use Rattle.rept_ports.specs.Port.{move}
use Rattle.rept_remote.specs.Reading.{most_input}
use Rattle.rept_debug.specs.Dialog.Converse.{Progress}
use Rattle.rept_debug.specs.Dialog.Greeting.{early_rules}
use Rattle.rept_debug.proofs.dialog.greeting.greet.Given as goal

abbrev pub invariant-greeting : goal.invariant-greeting
invariant-greeting g l =
    let source = g.S.Source.port in
    let sink = g.K.Sink.port in
    record {
      going : l.packets.over ≡ None;
      few : l.packets.count ≤ most_input;
      read : List ℕ;
      counted : l.packets.count ≡ length read;
      progress : Progress early_rules (move (source l.fn.input) (source l.input)) (move (sink l.fn.out) (sink l.out)) read l.dialog;
    }

abbrev pub decreases-greeting : goal.decreases-greeting
decreases-greeting g l = most_input - l.packets.count
