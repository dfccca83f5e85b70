-- What is answered before a report is what is answered over any.
use Rattle.std.proofs.Common.{◌≡◌, ℕ, List, [], ◌++◌, Bool, true, false, Option, None, Some, refl, sym, ◌∙◌, ap, subst}
use Rattle.std.specs.Prelude.{codes, if◌then◌else◌}
use Rattle.rept_ports.specs.Port.{Port, PortMove, move}
use Rattle.rept_remote.specs.Escapes.{packet_of}
use Rattle.rept_remote.specs.Frames.{Arrived}
use Rattle.rept_remote.specs.Frames.Arrived.{packet, broken, large, again, interrupt}
use Rattle.rept_remote.specs.Request.Requests.{request_of}
use Rattle.rept_remote.specs.Reading.{PacketReader}
use Rattle.rept_remote.specs.declared.arrival.Arrival.{Arrival}
use Rattle.rept_remote.specs.declared.request.request.GdbRequest.{GdbRequest}
use Rattle.rept_remote.specs.declared.request.request.GdbRequest.TheVariants as request
use Rattle.rept_remote.specs.declared.request.request.TargetObject.TheVariants as object
use Rattle.rept_remote.specs.declared.request.request.ThreadName.TheVariants as name
use Rattle.rept_findings.specs.Shown.{SessionTold, Shown}
use Rattle.rept_stub.specs.Answers.{IsAnswerTo, Still, line_by, line_before, stand_after, stand_by}
use Rattle.rept_stub.specs.Early.{early_reply}
use Rattle.rept_stub.specs.Standing.{is_alone, named_thread, selected, start_of}
use Rattle.rept_stub.specs.Threads.{there_reply}
use Rattle.rept_stub.specs.declared.answers.Setting.{Setting}
use Rattle.rept_stub.specs.declared.answers.Stand.{Stand}
use Rattle.rept_debug.specs.Dialog.Converse.{Broke, Converses, Parties, Progress, TalkEnded, parties_over, rules_of}
use Rattle.rept_debug.specs.Dialog.Converse as dialogs
use Rattle.rept_debug.specs.Dialog.Dialog.{IsTurn, Talks, acknowledges_after, after_packet, early_at, is_last, sign, start_at, written_to}
use Rattle.rept_debug.specs.Dialog.Dialog.Talks.{begun as full_begun, turn as full_step}
use Rattle.rept_debug.specs.Dialog.Greeting.{Awaits, EndsEarly, Greets, IsEarlyTurn, early_after, early_rules}
use Rattle.rept_debug.specs.Dialog.Greeting.Greets.{begun, turn}
use Rattle.rept_debug.specs.declared.dialog.conversation.SessionEnd.{SessionEnd}
use Rattle.rept_debug.specs.declared.dialog.conversation.SessionEnd.TheVariants as conversed
use Rattle.rept_debug.specs.declared.dialog.early.EarlyDialog.{EarlyDialog}
use Rattle.rept_debug.specs.declared.dialog.turn.Dialog.{Dialog}

none_some : {X : Type 0} {x : X} → None ≡ Some x → ⊥
none_some e = cc

inside : {X : Type 0} {x y : X} → Some x ≡ Some y → y ≡ x
inside e = cc

same_way : {X : Type 0} (b : Bool) (x : X) → (if b then x else x) ≡ x
same_way true x = refl
same_way false x = refl

module _ (t : SessionTold) (setting : Setting) where
  abbrev start : Stand
  start = start_of t.shown (record { breaks = []; regions = [] })

  any : named_thread t.shown start name.Any ≡ Some 0
  any = same_way (is_alone t.shown) (Some 0)

  -- an answer to a request that no report changes
  record Fits (bytes : List ℕ) (r : GdbRequest) (reply : List ℕ) : Type 0 where
    answer : IsAnswerTo t (record { setting = setting; stand = start; packet = bytes }) r reply
    line : line_by t.shown start r ≡ []
    stays : stand_by t.shown start bytes r ≡ start
    written : written_to r [] reply ≡ packet_of reply
    last : is_last r ≡ false

  fits : (bytes : List ℕ) (r : GdbRequest) (reply : List ℕ) → early_reply r ≡ Some reply → Fits bytes r reply
  fits bytes request.Features reply e = record { answer = inside e; line = refl; stays = refl; written = refl; last = refl }
  fits bytes request.NoAcknowledgments reply e = record { answer = inside e; line = refl; stays = refl; written = refl; last = refl }
  fits bytes request.Moves reply e = record { answer = inside e; line = refl; stays = refl; written = refl; last = refl }
  fits bytes request.Attached reply e = record { answer = inside e; line = refl; stays = refl; written = refl; last = refl }
  fits bytes request.Unknown reply e = record { answer = inside e; line = refl; stays = refl; written = refl; last = refl }
  fits bytes (request.Part object.Description offset count) reply e = record { answer = inside e; line = refl; stays = refl; written = refl; last = refl }
  fits bytes (request.SelectThread name.Any) reply e = record { answer = inside e ∙ sym (ap there_reply any); line = refl; stays = ap (selected start) any; written = refl; last = refl }
  fits bytes (request.SelectThread name.Selected) reply e = absurd (none_some e)
  fits bytes (request.SelectThread (name.One process)) reply e = absurd (none_some e)
  fits bytes (request.SelectThread name.Unreadable) reply e = absurd (none_some e)
  fits bytes (request.SelectMoving name.Any) reply e = record { answer = inside e ∙ sym (ap there_reply any); line = refl; stays = refl; written = refl; last = refl }
  fits bytes (request.SelectMoving name.Selected) reply e = absurd (none_some e)
  fits bytes (request.SelectMoving (name.One process)) reply e = absurd (none_some e)
  fits bytes (request.SelectMoving name.Unreadable) reply e = absurd (none_some e)
  fits bytes (request.Part object.AuxiliaryVector offset count) reply e = absurd (none_some e)
  fits bytes (request.Part object.SignalInfo offset count) reply e = absurd (none_some e)
  fits bytes request.Offsets reply e = absurd (none_some e)
  fits bytes request.Reason reply e = absurd (none_some e)
  fits bytes request.Registers reply e = absurd (none_some e)
  fits bytes (request.Register n) reply e = absurd (none_some e)
  fits bytes (request.Memory a n) reply e = absurd (none_some e)
  fits bytes (request.Bytes a n) reply e = absurd (none_some e)
  fits bytes (request.Move way who) reply e = absurd (none_some e)
  fits bytes (request.Break a) reply e = absurd (none_some e)
  fits bytes (request.Unbreak a) reply e = absurd (none_some e)
  fits bytes (request.Watch kind a n) reply e = absurd (none_some e)
  fits bytes (request.Unwatch kind a n) reply e = absurd (none_some e)
  fits bytes request.Monitor reply e = absurd (none_some e)
  fits bytes (request.IsAlive who) reply e = absurd (none_some e)
  fits bytes request.Thread reply e = absurd (none_some e)
  fits bytes request.Threads reply e = absurd (none_some e)
  fits bytes request.MoreThreads reply e = absurd (none_some e)
  fits bytes (request.ThreadText who) reply e = absurd (none_some e)
  fits bytes request.Change reply e = absurd (none_some e)
  fits bytes request.Detach reply e = absurd (none_some e)
  fits bytes request.Kill reply e = absurd (none_some e)

  abbrev full : EarlyDialog → Dialog
  full d = early_at t.shown d

  -- the dialog after a packet
  after_fits : (d : EarlyDialog) (bytes reply : List ℕ) → Fits bytes (request_of bytes) reply → full (early_after d bytes reply) ≡ after_packet t (full d) bytes reply
  after_fits d bytes reply f =
      ap (λ (stand : Stand). record (full (early_after d bytes reply)) { stand = stand }) (sym f.stays)
      ∙ ap (λ (text : List ℕ). record (after_packet t (full d) bytes reply) { last = text; is_over = false }) (sym (ap (λ (line : List ℕ). written_to (request_of bytes) line reply) f.line ∙ f.written))
      ∙ ap (λ (over : Bool). record (after_packet t (full d) bytes reply) { is_over = over }) (sym f.last)

  full_turn : (d : EarlyDialog) (what : Arrived) (text : List ℕ) (new : EarlyDialog) → IsEarlyTurn d what text new → IsTurn t setting (full d) what text (full new)
  full_turn d (packet bytes) text new h =
      let f = fits bytes (request_of bytes) h.0 h.1 in (
        h.0,
        f.answer,
        h.2 ∙ ap (λ (w : List ℕ). sign (full d) (codes "+") ++ w) (sym (ap (λ (line : List ℕ). written_to (request_of bytes) line h.0) f.line ∙ f.written)),
        ap full h.3 ∙ after_fits d bytes h.0 f,
      )
  full_turn d broken text new h = (h.0, ap full h.1)
  full_turn d large text new h = (h.0, ap full h.1)
  full_turn d again text new h = (h.0, ap full h.1)
  full_turn d interrupt text new h = (h.0, ap full h.1)

  full_talks : (read written : List ℕ) (d : EarlyDialog) → Greets read written d → Talks t setting (start_at t.shown) read written (full d)
  full_talks _ _ _ begun = full_begun
  full_talks _ _ _ (turn read written d got text what new h arrives is) = full_step read written (full d) got text what (full new) (full_talks read written d h) arrives (full_turn d what text new is)

  abbrev parties : Parties
  parties = parties_over t setting

  pub full_progress : (source sink : PortMove Port) (read : List ℕ) (d : EarlyDialog) → Progress early_rules source sink read d → Progress (rules_of parties) source sink read (full d)
  full_progress source sink read d h = record { written = h.written; talks = full_talks read h.written d h.talks; consumed = h.consumed; wrote = h.wrote; read_calm = h.read_calm; write_calm = h.write_calm }

  abbrev pub full_arrival : (source sink : PortMove Port) → dialogs.Arrival early_rules source sink → dialogs.Arrival (rules_of parties) source sink
  full_arrival source sink h = record { read = h.read; now = full h.now; got = h.got; what = h.what; middle = h.middle; progress = full_progress (move source.before h.middle) sink h.read h.now h.progress; consumed = h.consumed; arrives = h.arrives; calm = h.calm }

  -- how the dialog ended before
  pub full_end : (source sink : PortMove Port) (end : SessionEnd) → EndsEarly source sink end → Converses parties source sink end
  full_end source sink conversed.Left h = absurd h
  full_end source sink (conversed.Ended why) h = record { read = h.read; now = full h.now; got = h.got; middle = h.middle; count = h.count; progress = full_progress (move source.before h.middle) sink h.read h.now h.progress; counted = h.counted; stops = h.stops }
  full_end source sink conversed.OutputFault h = record { before = h.before; arrival = full_arrival source (move sink.before h.before) h.arrival; text = h.text; next = full h.next; turn = full_turn h.arrival.now h.arrival.what h.text h.next h.turn; wrote = h.wrote; fault = h.fault }
  full_end source sink conversed.OutOfMemory h = full_arrival source sink h

  -- the arrival that waits
  pub full_awaits : (source sink : PortMove Port) (d : EarlyDialog) (packets : PacketReader) (a : Arrival) (dialog : Dialog) → dialog ≡ full d → Awaits early_rules source sink d packets a → Awaits (rules_of parties) source sink dialog packets a
  full_awaits source sink d packets a dialog is h = record { arrival = full_arrival source sink h.arrival; is_now = ap (λ (x : EarlyDialog). full x) h.is_now ∙ sym is; is_what = h.is_what; counted = h.counted; going = h.going }
