-- Why a file isn't loaded, seen from before the loads of those before it.
use Rattle.std.proofs.Common.{◌≡◌, ℕ, ◌≤◌, List, length, Option, None, Some, IfSome, MatchOption, subst, ap, ◌∙◌}
use Rattle.rept_ports.specs.Causes.{Rose, next_count}
use Rattle.rept_ports.specs.Port.{move}
use Rattle.rept_ports.specs.Shelves.{Files, Shelved, IsOver}
use Rattle.rept_opening.specs.Loading.{BothLoaded, CoreStopsAt, FileFits, IsLastLoad, LoadRefuses, limit_of}
use Rattle.rept_opening.specs.Words.Words.{CoreNames, Names}
use Rattle.rept_opening.specs.declared.refusal.FileKind.{FileKind}
use Rattle.rept_opening.specs.declared.refusal.FileKind.TheVariants as file
use Rattle.rept_opening.specs.declared.refusal.Refusal.{Refusal}
use Rattle.rept_opening.specs.declared.refusal.Refusal.TheVariants as refusal

module _ (old mid new : Shelved) (name : List ℕ) (kind : FileKind) (files : mid.files ≡ old.files) (calm : mid.faults ≡ old.faults) where
  rose : Rose mid.faults new.faults → Rose old.faults new.faults
  rose h = subst (λ n. Rose n new.faults) calm h

  by_files : (P : Files → Type 0) → MatchOption mid.files (Rose mid.faults new.faults) (λ fs. P fs × (new.faults ≡ mid.faults)) → MatchOption old.files (Rose old.faults new.faults) (λ fs. P fs × (new.faults ≡ old.faults))
  by_files P h =
      let Q : ℕ → Type 0 = λ n. MatchOption mid.files (Rose n new.faults) (λ fs. P fs × (new.faults ≡ n)) in
      let R : Option Files → Type 0 = λ o. MatchOption o (Rose old.faults new.faults) (λ fs. P fs × (new.faults ≡ old.faults)) in
      subst R files (subst Q calm h)

  pub refuses_before : (r : Refusal) → LoadRefuses (move mid new) name kind r → LoadRefuses (move old new) name kind r
  refuses_before (refusal.LoadFault k) h = (h.0, rose h.1)
  refuses_before (refusal.NoFile k) h = (h.0, by_files (λ fs. fs name ≡ None) h.1)
  refuses_before (refusal.TooLarge k) h = (h.0, by_files (λ fs. IsOver fs name (limit_of kind)) h.1)
  refuses_before refusal.OutOfMemory h = tt
  refuses_before refusal.Usage h = absurd h
  refuses_before refusal.TooMuchInput h = absurd h
  refuses_before (refusal.Executable f) h = absurd h
  refuses_before (refusal.CoreImage f) h = absurd h
  refuses_before (refusal.Core f) h = absurd h
  refuses_before (refusal.Maps f) h = absurd h
  refuses_before (refusal.Path f) h = absurd h
  refuses_before (refusal.Inconsistent k) h = absurd h
  refuses_before (refusal.Refuted p r) h = absurd h
  refuses_before refusal.InputFault h = absurd h

-- the bytes that a file store gave are those of a file that fits
fits : (o : Option Files) (kind : FileKind) (name bytes : List ℕ) → length bytes ≤ limit_of kind → IfSome o (λ fs. fs name ≡ Some bytes) → IfSome o (λ fs. FileFits fs kind name)
fits None kind name bytes short h = tt
fits (Some fs) kind name bytes short h = (bytes, h, short)

two : (o : Option Files) (P Q : Files → Type 0) → IfSome o P → IfSome o Q → IfSome o (λ fs. P fs × Q fs)
two None P Q h k = tt
two (Some fs) P Q h k = (h, k)

three : (o : Option Files) (P Q R : Files → Type 0) → IfSome o P → IfSome o Q → IfSome o R → IfSome o (λ fs. P fs × Q fs × R fs)
three None P Q R h k l = tt
three (Some fs) P Q R h k l = (h, k, l)

-- the trace isn't loaded
pub trace_stops : (a b c d : Shelved) (names : Names) (exe core : List ℕ) (r : Refusal) → b.files ≡ a.files → c.files ≡ b.files → b.faults ≡ a.faults → c.faults ≡ b.faults
    → b.loads ≡ next_count a.loads → c.loads ≡ next_count b.loads → d.loads ≡ next_count c.loads
    → length exe ≤ limit_of file.Exe → IfSome a.files (λ fs. fs names.exe ≡ Some exe) → length core ≤ limit_of file.Core → IfSome b.files (λ fs. fs names.core ≡ Some core)
    → LoadRefuses (move c d) names.trace file.Trace r → IsLastLoad (move a d) names file.Trace r
trace_stops a b c d names exe core r e f calm calmer one two_ three short here shorter there h = record {
  before = two a.files (λ fs. FileFits fs file.Exe names.exe) (λ fs. FileFits fs file.Core names.core) (fits a.files file.Exe names.exe exe short here)
      (fits a.files file.Core names.core core shorter (let P : Option Files → Type 0 = λ o. IfSome o (λ fs. fs names.core ≡ Some core) in subst P e there));
  loads = three ∙ ap next_count (two_ ∙ ap next_count one);
  why = refuses_before a c d names.trace file.Trace (f ∙ e) (calmer ∙ calm) r h;
}

-- the trace of a core file isn't loaded
pub core_trace_stops : (a b c : Shelved) (names : CoreNames) (core : List ℕ) (r : Refusal) → b.files ≡ a.files → b.faults ≡ a.faults → b.loads ≡ next_count a.loads → c.loads ≡ next_count b.loads
    → length core ≤ limit_of file.Core → IfSome a.files (λ fs. fs names.core ≡ Some core) → LoadRefuses (move b c) names.trace file.Trace r → CoreStopsAt (move a c) names file.Trace r
core_trace_stops a b c names core r e calm one two_ short here h = record {
  one = tt;
  before = fits a.files file.Core names.core core short here;
  loads = two_ ∙ ap next_count one;
  why = refuses_before a b c names.trace file.Trace e calm r h;
}

-- both are loaded
pub both_loaded : (a b c : Shelved) (names : CoreNames) (core trace : List ℕ) → b.files ≡ a.files → b.loads ≡ next_count a.loads → c.loads ≡ next_count b.loads
    → length core ≤ limit_of file.Core → IfSome a.files (λ fs. fs names.core ≡ Some core) → length trace ≤ limit_of file.Trace → IfSome b.files (λ fs. fs names.trace ≡ Some trace) → BothLoaded names core (move a c)
both_loaded a b c names core trace e one two_ short here shorter there = record {
  found = three a.files (λ fs. fs names.core ≡ Some core) (λ fs. FileFits fs file.Core names.core) (λ fs. FileFits fs file.Trace names.trace) here (fits a.files file.Core names.core core short here)
      (fits a.files file.Trace names.trace trace shorter (let P : Option Files → Type 0 = λ o. IfSome o (λ fs. fs names.trace ≡ Some trace) in subst P e there));
  loads = two_ ∙ ap next_count one;
}
