use Rattle.rept_streams.proofs.SlicesLemmas.Checking.{no_packets, has_window, no_window}
use Rattle.rept_streams.proofs.slices.checks.startless.Goals as goal

pub returns-then-window-eq0 : goal.returns-then-window-eq0
returns-then-window-eq0 c = λ s k from stream packets is. no_packets s k from stream c.args.window.now packets is c.if-window-eq0.true

pub returns-in-Some : goal.returns-in-Some
returns-in-Some c = λ s k from stream packets is. has_window s k from stream c.args.window.now packets c.in-Some.field-0 is c.in-Some.is

pub returns-in-None : goal.returns-in-None
returns-in-None c = λ s k from stream packets is. no_window s k from stream c.args.window.now packets is c.if-window-eq0.false c.in-None.is
