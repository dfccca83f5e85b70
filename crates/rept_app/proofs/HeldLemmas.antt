-- From how a session was served to what the call writes and how it ends.
use Rattle.std.proofs.Common.{◌≡◌, ◌⊎◌, ℕ, List, ◌++◌, inl, inr, refl, sym, ap, subst, ◌∙◌}
use Rattle.rept_ports.specs.Causes.{OneFault}
use Rattle.rept_ports.specs.Port.{Port, PortMove, move}
use Rattle.rept_ports.proofs.CallerLemmas.{fault_after}
use Rattle.rept_findings.specs.Shown.{SessionTold}
use Rattle.rept_session.specs.Serving.Serving.{Reading, Serves, CountsAt, IsServeCaused as IsServed}
use Rattle.rept_session.specs.declared.serving.serving.Served.{Served}
use Rattle.rept_session.specs.declared.serving.serving.Served.TheVariants as served
use Rattle.rept_opening.specs.Delivered.{Delivers}
use Rattle.rept_app.specs.Ends.{FaultEnds, EndsSession, IsCaused, TellsInputFault, Yields}
use Rattle.rept_app.specs.Held.{IsHeldSession}
use Rattle.rept_opening.specs.Lines.{line_of}
use Rattle.rept_opening.specs.declared.refusal.Refusal.{Refusal}
use Rattle.rept_opening.specs.declared.refusal.Refusal.TheVariants as refusal
use Rattle.rept_opening.specs.declared.status.ExitStatus.{ExitStatus}
use Rattle.rept_opening.specs.declared.status.ExitStatus.TheVariants as ends
use Rattle.rept_app.proofs.DeliveredLemmas.{delivers_after, prefix_of_longer}

abbrev pub reading_here : List ℕ → Port → Reading
reading_here bytes source = record { input = bytes; left = source.bytes }

-- the line that ends a session, with its status
abbrev pub Line : Refusal → ExitStatus → List ℕ → ExitStatus → Type 0
Line r status whole end = (whole ≡ line_of r) × (end ≡ status)

-- a count that rose where the session ended so stands where it ended otherwise
calm_at : (before now : ℕ) (expected result : Served) → (result ≡ expected → ⊥) → CountsAt before now expected result → now ≡ before
calm_at before now expected result never (inl h) = absurd (never h.0)
calm_at before now expected result never (inr h) = h.1

fault_at : (before now : ℕ) (expected : Served) → CountsAt before now expected expected → OneFault before now
fault_at before now expected (inl h) = h.1
fault_at before now expected (inr h) = absurd (h.0 refl)

-- the output didn't fail
pub calm_out : (source sink : PortMove Port) (result : Served) → (result ≡ served.OutputFault → ⊥) → IsServed source sink result → sink.after.faults ≡ sink.before.faults
calm_out source sink result never c = calm_at sink.before.faults sink.after.faults served.OutputFault result never c.output

pub calm_in : (source sink : PortMove Port) (result : Served) → (result ≡ served.ReadFault → ⊥) → IsServed source sink result → source.after.faults ≡ source.before.faults
calm_in source sink result never c = calm_at source.before.faults source.after.faults served.ReadFault result never c.input

module _ (t : SessionTold) (reading : Reading) (old mid : Port) where
  pub ended : Serves t reading (move old mid) served.Ended → mid.faults ≡ old.faults → Delivers (IsHeldSession t reading) (move old mid) ends.Ok
  ended (inl (text, w, a)) calm = inl (text, inl w, a, calm)
  ended (inr (e, rest)) calm = let no : ⊥ = cc in absurd no

  pub failed : Serves t reading (move old mid) served.OutputFault → OneFault old.faults mid.faults → Delivers (IsHeldSession t reading) (move old mid) ends.OutputFault
  failed (inl (text, w, a)) fault = absurd w
  failed (inr (e, (whole, first, front))) fault =
      inr (refl, fault, (whole ++ line_of refusal.OutOfMemory, ends.OutOfMemory, inr (whole, first, refl), prefix_of_longer old.bytes mid.bytes whole (line_of refusal.OutOfMemory) front))

  module _ (calm : mid.faults ≡ old.faults) (new : Port) (result : ExitStatus) where
    pub cut_off : Serves t reading (move old mid) served.ReadFault → Delivers (Line refusal.InputFault ends.InputFault) (move mid new) result → Delivers (IsHeldSession t reading) (move old new) result
    cut_off (inl (front, w, a)) d =
        delivers_after (Line refusal.InputFault ends.InputFault) (IsHeldSession t reading) old mid new front result calm a
        (λ text s goes. subst (IsHeldSession t reading (front ++ text)) (sym goes.1) (inr (front, w, ap (λ (x : List ℕ). front ++ x) goes.0))) d
    cut_off (inr (e, rest)) d = let no : ⊥ = cc in absurd no

    pub overran : Serves t reading (move old mid) served.TooMuchInput → Delivers (Line refusal.TooMuchInput ends.TooMuchInput) (move mid new) result → Delivers (IsHeldSession t reading) (move old new) result
    overran (inl (front, w, a)) d =
        delivers_after (Line refusal.TooMuchInput ends.TooMuchInput) (IsHeldSession t reading) old mid new front result calm a
        (λ text s goes. subst (IsHeldSession t reading (front ++ text)) (sym goes.1) (inl (front, w, ap (λ (x : List ℕ). front ++ x) goes.0))) d
    overran (inr (e, rest)) d = let no : ⊥ = cc in absurd no

    pub ran_out : Serves t reading (move old mid) served.OutOfMemory → Delivers (Line refusal.OutOfMemory ends.OutOfMemory) (move mid new) result → Delivers (IsHeldSession t reading) (move old new) result
    ran_out (inl (front, w, a)) d =
        delivers_after (Line refusal.OutOfMemory ends.OutOfMemory) (IsHeldSession t reading) old mid new front result calm a
        (λ text s goes. subst (IsHeldSession t reading (front ++ text)) (sym goes.1) (inr (front, w, ap (λ (x : List ℕ). front ++ x) goes.0))) d
    ran_out (inr (e, rest)) d = let no : ⊥ = cc in absurd no

-- how a line ends a call, after which its status is told
line_told : (r : Refusal) (status result : ExitStatus) (out : PortMove Port) → Delivers (Line r status) out result → (result ≡ status) ⊎ (result ≡ ends.OutputFault)
line_told r status result out (inl (text, goes, appended, calm)) = inl goes.1
line_told r status result out (inr (e, fault, rest)) = inr e

line_yields : (r : Refusal) (status result : ExitStatus) (out : PortMove Port) → Delivers (Line r status) out result → Yields status result
line_yields r status result out d = stops (line_told r status result out d)
  where
    stops : (result ≡ status) ⊎ (result ≡ ends.OutputFault) → Yields status result
    stops (inl e) = inl e
    stops (inr e) = inr (inl e)

-- the causes of a call that ends with such a line
pub line_causes : (r : Refusal) (status : ExitStatus) (source : PortMove Port) (old mid new : Port) (result : ExitStatus) → (status ≡ ends.OutputFault → ⊥) → (Yields status result → EndsSession result) → (result ≡ ends.InputFault → OneFault source.before.faults source.after.faults)
    → FaultEnds source.before.faults source.after.faults (TellsInputFault result) → mid.faults ≡ old.faults → Delivers (Line r status) (move mid new) result → IsCaused source (move old new) result
line_causes r status source old mid new result not_output so input input_ends calm d = record {
  ports = record { input = input; input_ends = input_ends; output = fails d; output_ends = count d };
  answered = so (line_yields r status result (move mid new) d);
}
  where
    fails : Delivers (Line r status) (move mid new) result → result ≡ ends.OutputFault → OneFault old.faults new.faults
    fails (inl (text, goes, appended, still)) e = absurd (not_output (sym goes.1 ∙ e))
    fails (inr (e', fault, rest)) e = fault_after old.faults mid.faults new.faults calm fault

    count : Delivers (Line r status) (move mid new) result → FaultEnds old.faults new.faults (result ≡ ends.OutputFault)
    count (inl (text, goes, appended, still)) = inl (still ∙ calm)
    count (inr (e', fault, rest)) = inr (fault_after old.faults mid.faults new.faults calm fault, e')

-- the session ended at the end of the input or at `quit`
pub ended_causes : (source sink : PortMove Port) → IsServed source sink served.Ended → IsCaused source sink ends.Ok
ended_causes source sink c = record {
  ports = record {
    input = λ (e : ends.Ok ≡ ends.InputFault). cc;
    input_ends = inl (calm_in source sink served.Ended (λ (e : served.Ended ≡ served.ReadFault). cc) c);
    output = λ (e : ends.Ok ≡ ends.OutputFault). cc;
    output_ends = inl (calm_out source sink served.Ended (λ (e : served.Ended ≡ served.OutputFault). cc) c);
  };
  answered = inl refl;
}

pub fault_in : (source sink : PortMove Port) → IsServed source sink served.ReadFault → OneFault source.before.faults source.after.faults
fault_in source sink c = fault_at source.before.faults source.after.faults served.ReadFault c.input

pub fault_out : (source sink : PortMove Port) → IsServed source sink served.OutputFault → OneFault sink.before.faults sink.after.faults
fault_out source sink c = fault_at sink.before.faults sink.after.faults served.OutputFault c.output

pub failed_causes : (source sink : PortMove Port) → IsServed source sink served.OutputFault → IsCaused source sink ends.OutputFault
failed_causes source sink c = record {
  ports = record {
    input = λ (e : ends.OutputFault ≡ ends.InputFault). cc;
    input_ends = inl (calm_in source sink served.OutputFault (λ (e : served.OutputFault ≡ served.ReadFault). cc) c);
    output = λ _. fault_out source sink c;
    output_ends = inr (fault_out source sink c, refl);
  };
  answered = inr (inr (inr (inl refl)));
}

pub read_causes : (source : PortMove Port) (old mid new : Port) (result : ExitStatus) → IsServed source (move old mid) served.ReadFault → Delivers (Line refusal.InputFault ends.InputFault) (move mid new) result → IsCaused source (move old new) result
read_causes source old mid new result c d =
    let fault = fault_in source (move old mid) c in
    line_causes refusal.InputFault ends.InputFault source old mid new result (λ (e : ends.InputFault ≡ ends.OutputFault). cc) so (λ _. fault) (inr (fault, line_told refusal.InputFault ends.InputFault result (move mid new) d))
    (calm_out source (move old mid) served.ReadFault (λ (e : served.ReadFault ≡ served.OutputFault). cc) c) d
  where
    so : Yields ends.InputFault result → EndsSession result
    so (inl e) = inr (inl e)
    so (inr s) = inr (inr (inr s))

pub other_causes : (r : Refusal) (status : ExitStatus) (source : PortMove Port) (old mid new : Port) (result : ExitStatus) → (status ≡ ends.OutputFault → ⊥) → (status ≡ ends.InputFault → ⊥) → EndsSession status → source.after.faults ≡ source.before.faults → mid.faults ≡ old.faults
    → Delivers (Line r status) (move mid new) result → IsCaused source (move old new) result
other_causes r status source old mid new result not_output not_input ends_so still calm d =
    line_causes r status source old mid new result not_output so (λ e. absurd (never (line_yields r status result (move mid new) d) e)) (inl still) calm d
  where
    so : Yields status result → EndsSession result
    so (inl e) = subst EndsSession (sym e) ends_so
    so (inr s) = inr (inr (inr s))

    never : Yields status result → result ≡ ends.InputFault → ⊥
    never (inl h) e = not_input (sym h ∙ e)
    never (inr (inl h)) e = let bad : ends.OutputFault ≡ ends.InputFault = sym h ∙ e in let no : ⊥ = cc in no
    never (inr (inr h)) e = let bad : ends.OutOfMemory ≡ ends.InputFault = sym h ∙ e in let no : ⊥ = cc in no
