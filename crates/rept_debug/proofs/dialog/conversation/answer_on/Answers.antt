use Rattle.std.proofs.Common.{◌++◌, List, ℕ, Err, subst, arith}
use Rattle.std.specs.Io.KnownBytes.{Appends}
use Rattle.rept_ports.specs.Causes.{AppendsPrefix}
use Rattle.rept_ports.specs.Port.{move}
use Rattle.rept_remote.specs.Frames.{arrived}
use Rattle.rept_findings.specs.Shown.{session_told}
use Rattle.rept_debug.specs.Dialog.Converse.{Parties, parties_over, rules_of}
use Rattle.rept_debug.specs.Dialog.Dialog.{IsTurn}
use Rattle.rept_debug.proofs.DialogLemmas.Course.{arrives_next, awaits, broke, ends, longer, on_turn, opened, takes_some}
use Rattle.rept_debug.proofs.dialog.conversation.answer_on.Goals as goal

pub dialog-init : goal.dialog-init
dialog-init g c = record { within = c.requires.within; waits = λ input output h. h }

pub dialog-preserved : goal.dialog-preserved
dialog-preserved g c =
    let s = g.F.Findings.shown c.args.findings.now in
    let here = c.dialog.invariant in
    let parties : Parties = parties_over (session_told s c.args.setting.skipped (g.F.Findings.reasons c.args.findings.now)) c.args.setting in
    let what = arrived c.dialog.arrival c.dialog.packets.carried in
    let turned : IsTurn parties.told parties.setting c.dialog.dialog what c.in-Ok.text c.take_turn.new.dialog =
    subst (λ (bytes : List ℕ). IsTurn parties.told parties.setting c.dialog.dialog (arrived c.dialog.arrival bytes) c.in-Ok.text c.take_turn.new.dialog) c.carried.ensures c.in-Ok.ensures.turn in
    let wrote = subst (λ (bytes : List ℕ). Appends (g.K.Sink.port c.dialog.out).bytes (g.K.Sink.port c.write_all.new.sink).bytes bytes) c.bytes.ensures c.in-Ok-write_all.ensures.ok in
    let taken = arrives_next c.dialog.packets c.next.new.self (g.S.Source.port c.dialog.input) (g.S.Source.port c.next.new.source) c.in-Ok-next.arrival c.in-Ok-next.ensures in
    record {
      within = c.take_turn.ensures.within;
      waits = λ input output h.
          let w = here.waits input output h in
          let so_far = on_turn (rules_of parties) (longer parties) input (g.S.Source.port c.dialog.input) output (g.K.Sink.port c.dialog.out) c.dialog.dialog c.dialog.packets c.dialog.arrival w (g.K.Sink.port c.write_all.new.sink) c.in-Ok.text c.take_turn.new.dialog turned wrote c.in-Ok-write_all.ensures.cause.calm in
          awaits (rules_of parties) input (g.S.Source.port c.dialog.input) (g.S.Source.port c.next.new.source) output (g.K.Sink.port c.write_all.new.sink) (w.arrival.read ++ w.arrival.got) c.take_turn.new.dialog so_far c.dialog.packets c.next.new.self w.counted c.in-Ok-next.arrival taken;
    }

pub dialog-smaller : goal.dialog-smaller
dialog-smaller g c =
    let taken = arrives_next c.dialog.packets c.next.new.self (g.S.Source.port c.dialog.input) (g.S.Source.port c.next.new.source) c.in-Ok-next.arrival c.in-Ok-next.ensures in
    omega (arith, taken.1.took.within, takes_some c.dialog.packets c.next.new.self (move (g.S.Source.port c.dialog.input) (g.S.Source.port c.next.new.source)) c.in-Ok-next.arrival taken)

pub returns-in-Err : goal.returns-in-Err
returns-in-Err g c = record {
  talk = λ input output h. (c.dialog.invariant.waits input output h).arrival;
}

pub returns-in-Err-write_all : goal.returns-in-Err-write_all
returns-in-Err-write_all g c = record {
  talk = λ input output h.
      let s = g.F.Findings.shown c.args.findings.now in
      let here = c.dialog.invariant in
      let parties : Parties = parties_over (session_told s c.args.setting.skipped (g.F.Findings.reasons c.args.findings.now)) c.args.setting in
      let what = arrived c.dialog.arrival c.dialog.packets.carried in
      let turned : IsTurn parties.told parties.setting c.dialog.dialog what c.in-Ok.text c.take_turn.new.dialog =
      subst (λ (bytes : List ℕ). IsTurn parties.told parties.setting c.dialog.dialog (arrived c.dialog.arrival bytes) c.in-Ok.text c.take_turn.new.dialog) c.carried.ensures c.in-Ok.ensures.turn in
      let wrote = subst (λ (bytes : List ℕ). AppendsPrefix (g.K.Sink.port c.dialog.out).bytes (g.K.Sink.port c.write_all.new.sink).bytes bytes) c.bytes.ensures c.in-Err-write_all.ensures.err in
      let cause = c.in-Err-write_all.ensures.cause in
      broke (rules_of parties) (longer parties) input (g.S.Source.port c.dialog.input) output (g.K.Sink.port c.dialog.out) c.dialog.dialog c.dialog.packets c.dialog.arrival (here.waits input output h) (g.K.Sink.port c.write_all.new.sink) c.in-Ok.text c.take_turn.new.dialog turned wrote (record { rose = cause.failed; later = cause.later; once = cause.once });
}

pub returns-then-dialog : goal.returns-then-dialog
returns-then-dialog g c = record {
  talk = λ input output h.
      let s = g.F.Findings.shown c.args.findings.now in
      let here = c.dialog.invariant in
      let parties : Parties = parties_over (session_told s c.args.setting.skipped (g.F.Findings.reasons c.args.findings.now)) c.args.setting in
      let what = arrived c.dialog.arrival c.dialog.packets.carried in
      let turned : IsTurn parties.told parties.setting c.dialog.dialog what c.in-Ok.text c.take_turn.new.dialog =
      subst (λ (bytes : List ℕ). IsTurn parties.told parties.setting c.dialog.dialog (arrived c.dialog.arrival bytes) c.in-Ok.text c.take_turn.new.dialog) c.carried.ensures c.in-Ok.ensures.turn in
      let wrote = subst (λ (bytes : List ℕ). Appends (g.K.Sink.port c.dialog.out).bytes (g.K.Sink.port c.write_all.new.sink).bytes bytes) c.bytes.ensures c.in-Ok-write_all.ensures.ok in
      let w = here.waits input output h in
      record {
        read = w.arrival.read ++ w.arrival.got;
        now = c.take_turn.new.dialog;
        progress = on_turn (rules_of parties) (longer parties) input (g.S.Source.port c.dialog.input) output (g.K.Sink.port c.dialog.out) c.dialog.dialog c.dialog.packets c.dialog.arrival w (g.K.Sink.port c.write_all.new.sink) c.in-Ok.text c.take_turn.new.dialog turned wrote c.in-Ok-write_all.ensures.cause.calm;
        left = c.if-dialog.true;
      };
}

pub returns-in-Err-next : goal.returns-in-Err-next
returns-in-Err-next g c = record {
  talk = λ input output h.
      let s = g.F.Findings.shown c.args.findings.now in
      let here = c.dialog.invariant in
      let parties : Parties = parties_over (session_told s c.args.setting.skipped (g.F.Findings.reasons c.args.findings.now)) c.args.setting in
      let what = arrived c.dialog.arrival c.dialog.packets.carried in
      let turned : IsTurn parties.told parties.setting c.dialog.dialog what c.in-Ok.text c.take_turn.new.dialog =
      subst (λ (bytes : List ℕ). IsTurn parties.told parties.setting c.dialog.dialog (arrived c.dialog.arrival bytes) c.in-Ok.text c.take_turn.new.dialog) c.carried.ensures c.in-Ok.ensures.turn in
      let wrote = subst (λ (bytes : List ℕ). Appends (g.K.Sink.port c.dialog.out).bytes (g.K.Sink.port c.write_all.new.sink).bytes bytes) c.bytes.ensures c.in-Ok-write_all.ensures.ok in
      let w = here.waits input output h in
      let so_far = on_turn (rules_of parties) (longer parties) input (g.S.Source.port c.dialog.input) output (g.K.Sink.port c.dialog.out) c.dialog.dialog c.dialog.packets c.dialog.arrival w (g.K.Sink.port c.write_all.new.sink) c.in-Ok.text c.take_turn.new.dialog turned wrote c.in-Ok-write_all.ensures.cause.calm in
      let ended = opened c.dialog.packets c.next.new.self (g.S.Source.port c.dialog.input) (g.S.Source.port c.next.new.source) (Err c.in-Err-next.why) w.going c.in-Err-next.ensures in
      ends (rules_of parties) input (g.S.Source.port c.dialog.input) (g.S.Source.port c.next.new.source) output (g.K.Sink.port c.write_all.new.sink) (w.arrival.read ++ w.arrival.got) c.take_turn.new.dialog so_far c.dialog.packets c.next.new.self w.counted c.in-Err-next.why ended;
}
