use Rattle.std.proofs.Common.{◌≡◌, ◌++◌, List, [], ℕ, Option, None, Some, Ok, Err, ap, subst, sym, ◌∙◌, arith}
use Rattle.std.specs.Prelude.{MatchOption}
use Rattle.std.specs.Io.KnownBytes.{Appends}
use Rattle.rept_ports.specs.Causes.{AppendsPrefix}
use Rattle.rept_ports.specs.Port.{move}
use Rattle.rept_remote.specs.Frames.{arrived}
use Rattle.rept_debug.specs.Dialog.Greeting.{Greets, IsEarlyTurn, IsGreeting, WantsReport, early_rules}
use Rattle.rept_debug.specs.Dialog.Greeting.Greets.{begun}
use Rattle.rept_debug.specs.declared.dialog.early.EarlyDialog.{EarlyDialog}
use Rattle.rept_debug.specs.declared.dialog.greeting.Greeting.{Greeting}
use Rattle.rept_debug.proofs.DialogLemmas.Course.{at_answer, awaits, begins, broke, early_longer, ends, on_turn, opened, takes_some}
use Rattle.rept_debug.proofs.dialog.greeting.greet.Goals as goal

pub greeting-init : goal.greeting-init
greeting-init g c = record {
  going = ap (λ r. r.over) c.new-packets.ensures;
  few = omega (arith, ap (λ r. r.count) c.new-packets.ensures);
  read = [];
  counted = ap (λ r. r.count) c.new-packets.ensures;
  progress = begins early_rules c.new-dialog.result _ _ (subst (λ (d : EarlyDialog). Greets [] [] d) (sym c.new-dialog.ensures) begun);
}

pub greeting-preserved : goal.greeting-preserved
greeting-preserved g c =
    let here = c.greeting.invariant in
    let source = g.S.Source.port in
    let sink = g.K.Sink.port in
    let taken = opened c.greeting.packets c.next.new.self (source c.greeting.input) (source c.next.new.source) (Ok c.in-Ok.arrival) here.going c.in-Ok.ensures in
    let w = awaits early_rules (source c.args.input.now) (source c.greeting.input) (source c.next.new.source) (sink c.args.out.now) (sink c.greeting.out) here.read c.greeting.dialog here.progress c.greeting.packets c.next.new.self here.counted c.in-Ok.arrival taken in
    let what = arrived c.in-Ok.arrival c.next.new.self.carried in
    let told = at_answer c.early_turn.result c.in-Ok-Some.field-0 (Some c.in-Ok-Some.text) (λ (o : Option (List ℕ)). MatchOption o (WantsReport (arrived c.in-Ok.arrival c.carried.result.now) × (c.early_turn.new.dialog ≡ c.greeting.dialog)) (λ text. IsEarlyTurn c.greeting.dialog (arrived c.in-Ok.arrival c.carried.result.now) text c.early_turn.new.dialog)) c.in-Ok-Some.is c.in-Ok-Some.field-0-is c.early_turn.ensures in
    let turned = subst (λ (bytes : List ℕ). IsEarlyTurn c.greeting.dialog (arrived c.in-Ok.arrival bytes) c.in-Ok-Some.text c.early_turn.new.dialog) c.carried.ensures told in
    let wrote = subst (λ (bytes : List ℕ). Appends (sink c.greeting.out).bytes (sink c.write_all.new.sink).bytes bytes) c.bytes.ensures c.in-Ok-write_all.ensures.ok in
    record {
      going = w.going;
      few = taken.1.took.within;
      read = w.arrival.read ++ w.arrival.got;
      counted = w.counted;
      progress = on_turn early_rules early_longer (source c.args.input.now) (source c.next.new.source) (sink c.args.out.now) (sink c.greeting.out) c.greeting.dialog c.next.new.self c.in-Ok.arrival w (sink c.write_all.new.sink) c.in-Ok-Some.text c.early_turn.new.dialog turned wrote c.in-Ok-write_all.ensures.cause.calm;
    }

pub greeting-smaller : goal.greeting-smaller
greeting-smaller g c =
    let here = c.greeting.invariant in
    let source = g.S.Source.port in
    let taken = opened c.greeting.packets c.next.new.self (source c.greeting.input) (source c.next.new.source) (Ok c.in-Ok.arrival) here.going c.in-Ok.ensures in
    omega (arith, taken.1.took.within, takes_some c.greeting.packets c.next.new.self (move (source c.greeting.input) (source c.next.new.source)) c.in-Ok.arrival taken)

-- nothing arrives any more
pub returns-in-Err : goal.returns-in-Err
returns-in-Err g c =
    let here = c.greeting.invariant in
    let source = g.S.Source.port in
    let sink = g.K.Sink.port in
    let ended = opened c.greeting.packets c.next.new.self (source c.greeting.input) (source c.next.new.source) (Err c.in-Err.why) here.going c.in-Err.ensures in
    subst (λ (r : Greeting). IsGreeting (move (source c.args.input.now) (source c.next.new.source)) (move (sink c.args.out.now) (sink c.greeting.out)) r) (sym c.ended.ensures)
    (ends early_rules (source c.args.input.now) (source c.greeting.input) (source c.next.new.source) (sink c.args.out.now) (sink c.greeting.out) here.read c.greeting.dialog here.progress c.greeting.packets c.next.new.self here.counted c.in-Err.why ended)

-- a packet waits for the report
pub returns-in-Ok-None : goal.returns-in-Ok-None
returns-in-Ok-None g c =
    let here = c.greeting.invariant in
    let source = g.S.Source.port in
    let sink = g.K.Sink.port in
    let taken = opened c.greeting.packets c.next.new.self (source c.greeting.input) (source c.next.new.source) (Ok c.in-Ok.arrival) here.going c.in-Ok.ensures in
    let w = awaits early_rules (source c.args.input.now) (source c.greeting.input) (source c.next.new.source) (sink c.args.out.now) (sink c.greeting.out) here.read c.greeting.dialog here.progress c.greeting.packets c.next.new.self here.counted c.in-Ok.arrival taken in
    let told = at_answer c.early_turn.result c.in-Ok-None.field-0 None (λ (o : Option (List ℕ)). MatchOption o (WantsReport (arrived c.in-Ok.arrival c.carried.result.now) × (c.early_turn.new.dialog ≡ c.greeting.dialog)) (λ text. IsEarlyTurn c.greeting.dialog (arrived c.in-Ok.arrival c.carried.result.now) text c.early_turn.new.dialog)) c.in-Ok-None.is c.in-Ok-None.field-0-is c.early_turn.ensures in (
      record { arrival = w.arrival; is_now = w.is_now ∙ sym told.1; is_what = w.is_what; counted = w.counted; going = w.going },
      subst (λ (bytes : List ℕ). WantsReport (arrived c.in-Ok.arrival bytes)) c.carried.ensures told.0,
    )

-- no memory for an answer
pub returns-in-Err-early_turn : goal.returns-in-Err-early_turn
returns-in-Err-early_turn g c =
    let here = c.greeting.invariant in
    let source = g.S.Source.port in
    let sink = g.K.Sink.port in
    let taken = opened c.greeting.packets c.next.new.self (source c.greeting.input) (source c.next.new.source) (Ok c.in-Ok.arrival) here.going c.in-Ok.ensures in
    let w = awaits early_rules (source c.args.input.now) (source c.greeting.input) (source c.next.new.source) (sink c.args.out.now) (sink c.greeting.out) here.read c.greeting.dialog here.progress c.greeting.packets c.next.new.self here.counted c.in-Ok.arrival taken in
    subst (λ (r : Greeting). IsGreeting (move (source c.args.input.now) (source c.next.new.source)) (move (sink c.args.out.now) (sink c.greeting.out)) r) (sym c.ended-in-Err-early_turn.ensures) w.arrival

-- the output failed
pub returns-in-Err-write_all : goal.returns-in-Err-write_all
returns-in-Err-write_all g c =
    let here = c.greeting.invariant in
    let source = g.S.Source.port in
    let sink = g.K.Sink.port in
    let taken = opened c.greeting.packets c.next.new.self (source c.greeting.input) (source c.next.new.source) (Ok c.in-Ok.arrival) here.going c.in-Ok.ensures in
    let w = awaits early_rules (source c.args.input.now) (source c.greeting.input) (source c.next.new.source) (sink c.args.out.now) (sink c.greeting.out) here.read c.greeting.dialog here.progress c.greeting.packets c.next.new.self here.counted c.in-Ok.arrival taken in
    let what = arrived c.in-Ok.arrival c.next.new.self.carried in
    let told = at_answer c.early_turn.result c.in-Ok-Some.field-0 (Some c.in-Ok-Some.text) (λ (o : Option (List ℕ)). MatchOption o (WantsReport (arrived c.in-Ok.arrival c.carried.result.now) × (c.early_turn.new.dialog ≡ c.greeting.dialog)) (λ text. IsEarlyTurn c.greeting.dialog (arrived c.in-Ok.arrival c.carried.result.now) text c.early_turn.new.dialog)) c.in-Ok-Some.is c.in-Ok-Some.field-0-is c.early_turn.ensures in
    let turned = subst (λ (bytes : List ℕ). IsEarlyTurn c.greeting.dialog (arrived c.in-Ok.arrival bytes) c.in-Ok-Some.text c.early_turn.new.dialog) c.carried.ensures told in
    let wrote = subst (λ (bytes : List ℕ). AppendsPrefix (sink c.greeting.out).bytes (sink c.write_all.new.sink).bytes bytes) c.bytes.ensures c.in-Err-write_all.ensures.err in
    let cause = c.in-Err-write_all.ensures.cause in
    subst (λ (r : Greeting). IsGreeting (move (source c.args.input.now) (source c.next.new.source)) (move (sink c.args.out.now) (sink c.write_all.new.sink)) r) (sym c.ended-in-Err-write_all.ensures)
    (broke early_rules early_longer (source c.args.input.now) (source c.next.new.source) (sink c.args.out.now) (sink c.greeting.out) c.greeting.dialog c.next.new.self c.in-Ok.arrival w (sink c.write_all.new.sink) c.in-Ok-Some.text c.early_turn.new.dialog turned wrote (record { rose = cause.failed; later = cause.later; once = cause.once }))
