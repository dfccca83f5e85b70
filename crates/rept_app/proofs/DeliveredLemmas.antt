-- What was delivered, one part after another.
use Rattle.std.proofs.Common.{◌≡◌, ℕ, ◌+◌, List, ◌++◌, length, take, Option, inl, inr, refl, sym, subst, ◌∙◌, arith}
use Rattle.std.proofs.lemmas.List.{length-append, take-append-le}
use Rattle.std.proofs.Math.Seq.{take-append-add}
use Rattle.std.specs.Io.KnownBytes.{Appends}
use Rattle.rept_ports.specs.Causes.{OneFault, AppendsPrefix}
use Rattle.rept_ports.specs.Port.{Port, PortMove, move}
use Rattle.rept_ports.proofs.CallerLemmas.{Appends-trans, fault_after}
use Rattle.rept_opening.specs.Delivered.{Delivers, SaysOrNoMemory}
use Rattle.rept_app.specs.Ends.{Yields, FaultEnds, PortsEnd}
use Rattle.rept_opening.specs.Lines.{status_of}
use Rattle.rept_opening.specs.declared.refusal.Refusal.{Refusal}
use Rattle.rept_opening.specs.declared.status.ExitStatus.{ExitStatus}
use Rattle.rept_opening.specs.declared.status.ExitStatus.TheVariants as ends

-- a prefix of what follows
pub prefix_after : (old mid new : Option (List ℕ)) (front whole : List ℕ) → Appends old mid front → AppendsPrefix mid new whole → AppendsPrefix old new (front ++ whole)
prefix_after old mid new front whole h p = (
  length front + p.0,
  omega (arith, length-append front whole, p.1),
  subst (Appends old new) (sym (take-append-add front whole p.0)) (Appends-trans old mid new front (take p.0 whole) h p.2),
)

-- a prefix of a text is one of each longer text
pub prefix_of_longer : (old new : Option (List ℕ)) (text rest : List ℕ) → AppendsPrefix old new text → AppendsPrefix old new (text ++ rest)
prefix_of_longer old new text rest p = (p.0, omega (arith, length-append text rest, p.1), subst (Appends old new) (sym (take-append-le p.0 text rest p.1)) p.2)

-- a delivery after a text
pub delivers_after : (Goes Whole : List ℕ → ExitStatus → Type 0) (old mid new : Port) (front : List ℕ) (result : ExitStatus)
    → mid.faults ≡ old.faults → Appends old.bytes mid.bytes front → ((text : List ℕ) (s : ExitStatus) → Goes text s → Whole (front ++ text) s)
    → Delivers Goes (move mid new) result → Delivers Whole (move old new) result
delivers_after Goes Whole old mid new front result calm h wider (inl d) =
    inl (front ++ d.0, wider d.0 result d.1, Appends-trans old.bytes mid.bytes new.bytes front d.0 h d.2, d.3 ∙ calm)
delivers_after Goes Whole old mid new front result calm h wider (inr d) =
    inr (d.0, fault_after old.faults mid.faults new.faults calm d.1, (front ++ d.2.0, d.2.1, wider d.2.0 d.2.1 d.2.2, prefix_after old.bytes mid.bytes new.bytes front d.2.0 h d.2.3))

-- the output failed after a text
pub fails_after : (Whole : List ℕ → ExitStatus → Type 0) (old mid new : Port) (front next rest all : List ℕ) (status : ExitStatus)
    → mid.faults ≡ old.faults → OneFault mid.faults new.faults → Appends old.bytes mid.bytes front → AppendsPrefix mid.bytes new.bytes next → all ≡ front ++ (next ++ rest) → Whole all status → Delivers Whole (move old new) ends.OutputFault
fails_after Whole old mid new front next rest all status calm fault h p e goes =
    inr (refl, fault_after old.faults mid.faults new.faults calm fault, (all, status, goes, rw e (prefix_after old.bytes mid.bytes new.bytes front (next ++ rest) h (prefix_of_longer mid.bytes new.bytes next rest p))))

-- how a call ends that tells a refusal: with its status, or cut short
pub ends_told : (r : Refusal) (out : PortMove Port) (result : ExitStatus) → Delivers (SaysOrNoMemory r) out result → Yields (status_of r) result
ends_told r out result (inl (text, inl says, appended, calm)) = inl says.ending
ends_told r out result (inl (text, inr says, appended, calm)) = inr (inr says.ending)
ends_told r out result (inr (failed, fault, whole)) = inr (inl failed)

-- a call that yields one status, or stops, doesn't end with another
pub not_yielded : (expected other status : ExitStatus) → (expected ≡ other → ⊥) → (other ≡ ends.OutputFault → ⊥) → (other ≡ ends.OutOfMemory → ⊥) → Yields expected status → status ≡ other → ⊥
not_yielded expected other status a b c (inl h) e = a (sym h ∙ e)
not_yielded expected other status a b c (inr (inl h)) e = b (sym e ∙ h)
not_yielded expected other status a b c (inr (inr h)) e = c (sym e ∙ h)

-- a call that tells a refusal reads nothing, and a fault of the output ends it
pub told_ports : (r : Refusal) (source : Port) (out : PortMove Port) (result : ExitStatus) → (status_of r ≡ ends.InputFault → ⊥) → (status_of r ≡ ends.OutputFault → ⊥) → Delivers (SaysOrNoMemory r) out result → PortsEnd (move source source) out result
told_ports r source out result no_input no_output d = record {
  input = λ e. absurd (not_yielded (status_of r) ends.InputFault result no_input (λ (same : ends.InputFault ≡ ends.OutputFault). cc) (λ (same : ends.InputFault ≡ ends.OutOfMemory). cc) (ends_told r out result d) e);
  input_ends = inl refl;
  output = failed d;
  output_ends = count d;
}
  where
    failed : Delivers (SaysOrNoMemory r) out result → result ≡ ends.OutputFault → OneFault out.before.faults out.after.faults
    failed (inl (text, inl says, appended, calm)) e = absurd (no_output (sym says.ending ∙ e))
    failed (inl (text, inr says, appended, calm)) e = let bad : ends.OutOfMemory ≡ ends.OutputFault = sym says.ending ∙ e in let no : ⊥ = cc in absurd no
    failed (inr (so, fault, whole)) e = fault

    count : Delivers (SaysOrNoMemory r) out result → FaultEnds out.before.faults out.after.faults (result ≡ ends.OutputFault)
    count (inl h) = inl h.3
    count (inr h) = inr (h.1, h.0)

-- ports that counted no fault before a call
pub ports_after : (source source' : Port) (old mid new : Port) (last : Port) (result : ExitStatus) → source'.faults ≡ source.faults → mid.faults ≡ old.faults → PortsEnd (move source' last) (move mid new) result → PortsEnd (move source last) (move old new) result
ports_after source source' old mid new last result calm_source calm_sink p = record {
  input = λ e. fault_after source.faults source'.faults last.faults calm_source (p.input e);
  input_ends = after source.faults source'.faults last.faults calm_source p.input_ends;
  output = λ e. fault_after old.faults mid.faults new.faults calm_sink (p.output e);
  output_ends = after old.faults mid.faults new.faults calm_sink p.output_ends;
}
  where
    after : {P : Type 0} (a b c : ℕ) → b ≡ a → FaultEnds b c P → FaultEnds a c P
    after a b c same (inl h) = inl (h ∙ same)
    after a b c same (inr h) = inr (fault_after a b c same h.0, h.1)
