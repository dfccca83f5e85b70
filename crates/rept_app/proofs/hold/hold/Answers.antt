use Rattle.std.proofs.Common.{◌≡◌, inl, inr, refl}
use Rattle.rept_ports.specs.Port.{move}
use Rattle.rept_findings.specs.Shown.{SessionTold, session_told}
use Rattle.rept_session.specs.Serving.Serving.{Serves}
use Rattle.rept_session.specs.declared.serving.serving.Served.TheVariants as served
use Rattle.rept_opening.specs.Delivered.{Delivers}
use Rattle.rept_app.specs.Held.{IsHeldSession}
use Rattle.rept_opening.specs.declared.refusal.Refusal.TheVariants as refusal
use Rattle.rept_opening.specs.declared.status.ExitStatus.TheVariants as ends
use Rattle.rept_opening.proofs.ToldLemmas.{over}
use Rattle.rept_app.proofs.HeldLemmas.{reading_here, calm_out, calm_in, fault_out, ended, failed, cut_off, overran, ran_out, ended_causes, failed_causes, read_causes, other_causes}
use Rattle.rept_app.proofs.hold.hold.Goals as goal

pub returns-in-Ended-clause-text : goal.returns-in-Ended-clause-text
returns-in-Ended-clause-text g c =
    let t : SessionTold = session_told (g.F.Findings.shown c.args.findings.now) c.args.skipped (g.F.Findings.reasons c.args.findings.now) in
    over (g.S.Source.port c.args.input.now).bytes (g.S.Source.port c.args.input.now).bytes (λ bytes. Serves t (reading_here bytes (g.S.Source.port c.serve.new.input)) (move (g.K.Sink.port c.args.out.now) (g.K.Sink.port c.serve.new.out)) served.Ended)
    (λ bytes. Delivers (IsHeldSession t (reading_here bytes (g.S.Source.port c.serve.new.input))) (move (g.K.Sink.port c.args.out.now) (g.K.Sink.port c.serve.new.out)) ends.Ok) refl c.in-Ended.ensures.text
    (λ bytes h. ended t (reading_here bytes (g.S.Source.port c.serve.new.input)) (g.K.Sink.port c.args.out.now) (g.K.Sink.port c.serve.new.out) h (calm_out (move (g.S.Source.port c.args.input.now) (g.S.Source.port c.serve.new.input)) (move (g.K.Sink.port c.args.out.now) (g.K.Sink.port c.serve.new.out)) served.Ended (λ (e : served.Ended ≡ served.OutputFault). cc) c.in-Ended.ensures.causes))

pub returns-in-OutputFault-clause-text : goal.returns-in-OutputFault-clause-text
returns-in-OutputFault-clause-text g c =
    let t : SessionTold = session_told (g.F.Findings.shown c.args.findings.now) c.args.skipped (g.F.Findings.reasons c.args.findings.now) in
    over (g.S.Source.port c.args.input.now).bytes (g.S.Source.port c.args.input.now).bytes (λ bytes. Serves t (reading_here bytes (g.S.Source.port c.serve.new.input)) (move (g.K.Sink.port c.args.out.now) (g.K.Sink.port c.serve.new.out)) served.OutputFault)
    (λ bytes. Delivers (IsHeldSession t (reading_here bytes (g.S.Source.port c.serve.new.input))) (move (g.K.Sink.port c.args.out.now) (g.K.Sink.port c.serve.new.out)) ends.OutputFault) refl c.in-OutputFault.ensures.text
    (λ bytes h. failed t (reading_here bytes (g.S.Source.port c.serve.new.input)) (g.K.Sink.port c.args.out.now) (g.K.Sink.port c.serve.new.out) h (fault_out (move (g.S.Source.port c.args.input.now) (g.S.Source.port c.serve.new.input)) (move (g.K.Sink.port c.args.out.now) (g.K.Sink.port c.serve.new.out)) c.in-OutputFault.ensures.causes))

pub returns-in-ReadFault-clause-text : goal.returns-in-ReadFault-clause-text
returns-in-ReadFault-clause-text g c =
    let t : SessionTold = session_told (g.F.Findings.shown c.args.findings.now) c.args.skipped (g.F.Findings.reasons c.args.findings.now) in
    over (g.S.Source.port c.args.input.now).bytes (g.S.Source.port c.args.input.now).bytes (λ bytes. Serves t (reading_here bytes (g.S.Source.port c.serve.new.input)) (move (g.K.Sink.port c.args.out.now) (g.K.Sink.port c.serve.new.out)) served.ReadFault)
    (λ bytes. Delivers (IsHeldSession t (reading_here bytes (g.S.Source.port c.serve.new.input))) (move (g.K.Sink.port c.args.out.now) (g.K.Sink.port c.deliver.new.out)) c.deliver.result) refl c.in-ReadFault.ensures.text
    (λ bytes h. cut_off t (reading_here bytes (g.S.Source.port c.serve.new.input)) (g.K.Sink.port c.args.out.now) (g.K.Sink.port c.serve.new.out) (calm_out (move (g.S.Source.port c.args.input.now) (g.S.Source.port c.serve.new.input)) (move (g.K.Sink.port c.args.out.now) (g.K.Sink.port c.serve.new.out)) served.ReadFault (λ (e : served.ReadFault ≡ served.OutputFault). cc) c.in-ReadFault.ensures.causes) (g.K.Sink.port c.deliver.new.out) c.deliver.result h c.deliver.ensures)

pub returns-in-TooMuchInput-clause-text : goal.returns-in-TooMuchInput-clause-text
returns-in-TooMuchInput-clause-text g c =
    let t : SessionTold = session_told (g.F.Findings.shown c.args.findings.now) c.args.skipped (g.F.Findings.reasons c.args.findings.now) in
    over (g.S.Source.port c.args.input.now).bytes (g.S.Source.port c.args.input.now).bytes (λ bytes. Serves t (reading_here bytes (g.S.Source.port c.serve.new.input)) (move (g.K.Sink.port c.args.out.now) (g.K.Sink.port c.serve.new.out)) served.TooMuchInput)
    (λ bytes. Delivers (IsHeldSession t (reading_here bytes (g.S.Source.port c.serve.new.input))) (move (g.K.Sink.port c.args.out.now) (g.K.Sink.port c.deliver-in-TooMuchInput.new.out)) c.deliver-in-TooMuchInput.result) refl c.in-TooMuchInput.ensures.text
    (λ bytes h. overran t (reading_here bytes (g.S.Source.port c.serve.new.input)) (g.K.Sink.port c.args.out.now) (g.K.Sink.port c.serve.new.out) (calm_out (move (g.S.Source.port c.args.input.now) (g.S.Source.port c.serve.new.input)) (move (g.K.Sink.port c.args.out.now) (g.K.Sink.port c.serve.new.out)) served.TooMuchInput (λ (e : served.TooMuchInput ≡ served.OutputFault). cc) c.in-TooMuchInput.ensures.causes) (g.K.Sink.port c.deliver-in-TooMuchInput.new.out) c.deliver-in-TooMuchInput.result h c.deliver-in-TooMuchInput.ensures)

pub returns-in-OutOfMemory-clause-text : goal.returns-in-OutOfMemory-clause-text
returns-in-OutOfMemory-clause-text g c =
    let t : SessionTold = session_told (g.F.Findings.shown c.args.findings.now) c.args.skipped (g.F.Findings.reasons c.args.findings.now) in
    over (g.S.Source.port c.args.input.now).bytes (g.S.Source.port c.args.input.now).bytes (λ bytes. Serves t (reading_here bytes (g.S.Source.port c.serve.new.input)) (move (g.K.Sink.port c.args.out.now) (g.K.Sink.port c.serve.new.out)) served.OutOfMemory)
    (λ bytes. Delivers (IsHeldSession t (reading_here bytes (g.S.Source.port c.serve.new.input))) (move (g.K.Sink.port c.args.out.now) (g.K.Sink.port c.deliver-in-OutOfMemory.new.out)) c.deliver-in-OutOfMemory.result) refl c.in-OutOfMemory.ensures.text
    (λ bytes h. ran_out t (reading_here bytes (g.S.Source.port c.serve.new.input)) (g.K.Sink.port c.args.out.now) (g.K.Sink.port c.serve.new.out) (calm_out (move (g.S.Source.port c.args.input.now) (g.S.Source.port c.serve.new.input)) (move (g.K.Sink.port c.args.out.now) (g.K.Sink.port c.serve.new.out)) served.OutOfMemory (λ (e : served.OutOfMemory ≡ served.OutputFault). cc) c.in-OutOfMemory.ensures.causes) (g.K.Sink.port c.deliver-in-OutOfMemory.new.out) c.deliver-in-OutOfMemory.result h c.deliver-in-OutOfMemory.ensures)

pub returns-in-Ended-clause-causes : goal.returns-in-Ended-clause-causes
returns-in-Ended-clause-causes g c = ended_causes (move (g.S.Source.port c.args.input.now) (g.S.Source.port c.serve.new.input)) (move (g.K.Sink.port c.args.out.now) (g.K.Sink.port c.serve.new.out)) c.in-Ended.ensures.causes

pub returns-in-OutputFault-clause-causes : goal.returns-in-OutputFault-clause-causes
returns-in-OutputFault-clause-causes g c = failed_causes (move (g.S.Source.port c.args.input.now) (g.S.Source.port c.serve.new.input)) (move (g.K.Sink.port c.args.out.now) (g.K.Sink.port c.serve.new.out)) c.in-OutputFault.ensures.causes

pub returns-in-ReadFault-clause-causes : goal.returns-in-ReadFault-clause-causes
returns-in-ReadFault-clause-causes g c = read_causes (move (g.S.Source.port c.args.input.now) (g.S.Source.port c.serve.new.input)) (g.K.Sink.port c.args.out.now) (g.K.Sink.port c.serve.new.out) (g.K.Sink.port c.deliver.new.out) c.deliver.result c.in-ReadFault.ensures.causes c.deliver.ensures

pub returns-in-TooMuchInput-clause-causes : goal.returns-in-TooMuchInput-clause-causes
returns-in-TooMuchInput-clause-causes g c = other_causes refusal.TooMuchInput ends.TooMuchInput (move (g.S.Source.port c.args.input.now) (g.S.Source.port c.serve.new.input)) (g.K.Sink.port c.args.out.now) (g.K.Sink.port c.serve.new.out) (g.K.Sink.port c.deliver-in-TooMuchInput.new.out) c.deliver-in-TooMuchInput.result (λ (e : ends.TooMuchInput ≡ ends.OutputFault). cc) (λ (e : ends.TooMuchInput ≡ ends.InputFault). cc) (inr (inr (inl refl))) (calm_in (move (g.S.Source.port c.args.input.now) (g.S.Source.port c.serve.new.input)) (move (g.K.Sink.port c.args.out.now) (g.K.Sink.port c.serve.new.out)) served.TooMuchInput (λ (e : served.TooMuchInput ≡ served.ReadFault). cc) c.in-TooMuchInput.ensures.causes) (calm_out (move (g.S.Source.port c.args.input.now) (g.S.Source.port c.serve.new.input)) (move (g.K.Sink.port c.args.out.now) (g.K.Sink.port c.serve.new.out)) served.TooMuchInput (λ (e : served.TooMuchInput ≡ served.OutputFault). cc) c.in-TooMuchInput.ensures.causes) c.deliver-in-TooMuchInput.ensures

pub returns-in-OutOfMemory-clause-causes : goal.returns-in-OutOfMemory-clause-causes
returns-in-OutOfMemory-clause-causes g c = other_causes refusal.OutOfMemory ends.OutOfMemory (move (g.S.Source.port c.args.input.now) (g.S.Source.port c.serve.new.input)) (g.K.Sink.port c.args.out.now) (g.K.Sink.port c.serve.new.out) (g.K.Sink.port c.deliver-in-OutOfMemory.new.out) c.deliver-in-OutOfMemory.result (λ (e : ends.OutOfMemory ≡ ends.OutputFault). cc) (λ (e : ends.OutOfMemory ≡ ends.InputFault). cc) (inr (inr (inr (inr refl)))) (calm_in (move (g.S.Source.port c.args.input.now) (g.S.Source.port c.serve.new.input)) (move (g.K.Sink.port c.args.out.now) (g.K.Sink.port c.serve.new.out)) served.OutOfMemory (λ (e : served.OutOfMemory ≡ served.ReadFault). cc) c.in-OutOfMemory.ensures.causes) (calm_out (move (g.S.Source.port c.args.input.now) (g.S.Source.port c.serve.new.input)) (move (g.K.Sink.port c.args.out.now) (g.K.Sink.port c.serve.new.out)) served.OutOfMemory (λ (e : served.OutOfMemory ≡ served.OutputFault). cc) c.in-OutOfMemory.ensures.causes) c.deliver-in-OutOfMemory.ensures
