-- What words and files come to where a load was the last.
use Rattle.std.proofs.Common.{◌≡◌, ◌⊎◌, ℕ, ◌+◌, ◌<◌, ◌≤◌, List, length, Bool, true, false, Option, None, Some, MatchOption, IfSome, Result, Ok, IfOk, inl, inr, refl, sym, ap, subst, ◌∙◌, arith, cond, nat_lt}
use Rattle.std.proofs.lemmas.Bool.Decides.{nat_tests}
use Rattle.rept_ports.specs.Causes.{Rose}
use Rattle.rept_ports.specs.Port.{move}
use Rattle.rept_ports.specs.Shelves.{Files, Shelved, IsOver}
use Rattle.rept_opening.specs.Loading.{crash_bytes, core_bytes, Loading, loading, loading_by, fetched, fetched_all, fetched_core, limit_of, FileFits, FitBefore, CoreFitBefore, name_of, core_name_of, loads_to, core_loads_to, ComesTo, ComesToCore, LoadRefuses, MeaningStops, LoadingStops, manner_of}
use Rattle.rept_opening.specs.Loading.Loading.{Refused, Loaded, LoadedCore, MadeRun}
use Rattle.rept_opening.specs.Words.Words.{CoreNames, Names, Meaning, meaning_of}
use Rattle.rept_opening.specs.Words.Words.Meaning.{Open, Maps, Made}
use Rattle.rept_opening.specs.declared.words.request.Domain.{Domain}
use Rattle.rept_opening.specs.declared.load.OpenOptions.{OpenOptions}
use Rattle.rept_opening.specs.declared.refusal.FileKind.{FileKind}
use Rattle.rept_opening.specs.declared.refusal.FileKind.TheVariants as file
use Rattle.rept_opening.specs.declared.refusal.Refusal.{Refusal}
use Rattle.rept_opening.specs.declared.refusal.Refusal.TheVariants as refusal

-- why one file isn't loaded, one case after the other
abbrev pub Why : Shelved → Shelved → List ℕ → FileKind → Refusal → Type 0
Why old new name kind r =
    ((r ≡ refusal.LoadFault kind) × Rose old.faults new.faults)
    ⊎ ((r ≡ refusal.NoFile kind) × MatchOption old.files (Rose old.faults new.faults) (λ files. (files name ≡ None) × (new.faults ≡ old.faults)))
    ⊎ ((r ≡ refusal.TooLarge kind) × MatchOption old.files (Rose old.faults new.faults) (λ files. IsOver files name (limit_of kind) × (new.faults ≡ old.faults)))
    ⊎ (r ≡ refusal.OutOfMemory)

pub why : (old new : Shelved) (name : List ℕ) (kind : FileKind) (r : Refusal) → LoadRefuses (move old new) name kind r → Why old new name kind r
why old new name kind (refusal.LoadFault k) h = inl (ap refusal.LoadFault h.0, h.1)
why old new name kind (refusal.NoFile k) h = inr (inl (ap refusal.NoFile h.0, h.1))
why old new name kind (refusal.TooLarge k) h = inr (inr (inl (ap refusal.TooLarge h.0, h.1)))
why old new name kind refusal.OutOfMemory h = inr (inr (inr refl))
why old new name kind refusal.Usage h = absurd h
why old new name kind refusal.TooMuchInput h = absurd h
why old new name kind (refusal.Executable f) h = absurd h
why old new name kind (refusal.CoreImage f) h = absurd h
why old new name kind (refusal.Core f) h = absurd h
why old new name kind (refusal.Maps f) h = absurd h
why old new name kind (refusal.Path f) h = absurd h
why old new name kind (refusal.Inconsistent k) h = absurd h
why old new name kind (refusal.Refuted p r) h = absurd h
why old new name kind refusal.InputFault h = absurd h

-- what holds where files are told
pub at_told : (o : Option Files) (P : Type 0) (Q : Files → Type 0) (files : Files) → o ≡ Some files → MatchOption o P Q → Q files
at_told o P Q files e h = subst (λ (x : Option Files). MatchOption x P Q) e h

pub at_files : (o : Option Files) (Q : Files → Type 0) (files : Files) → o ≡ Some files → IfSome o Q → Q files
at_files o Q files e h = subst (λ (x : Option Files). IfSome x Q) e h

-- the files come to the first one that is refused
not_over : (limit n : ℕ) → n ≤ limit → nat_lt limit n ≡ false
not_over limit n h = grind (arith, nat_tests)

is_over : (limit n : ℕ) → limit < n → nat_lt limit n ≡ true
is_over limit n h = grind (arith, nat_tests)

module _ (files : Files) (names : Names) (manner : OpenOptions) where
  passes : (kind : FileKind) (name : List ℕ) (next : List ℕ → Loading) (fits : FileFits files kind name) → fetched kind (files name) next ≡ next fits.0
  passes kind name next fits =
      ap (λ (o : Option (List ℕ)). fetched kind o next) fits.1 ∙ ap (λ (b : Bool). cond b (Refused (refusal.TooLarge kind)) (next fits.0)) (not_over (limit_of kind) (length fits.0) fits.2)

  after_core : List ℕ → List ℕ → Loading
  after_core exe core = fetched file.Trace (files names.trace) (λ trace. Loaded (crash_bytes exe core trace manner))

  after_exe : List ℕ → Loading
  after_exe exe = fetched file.Core (files names.core) (λ core. after_core exe core)

  comes_to : (kind : FileKind) (r : Refusal) → FitBefore files names kind → ((next : List ℕ → Loading) → fetched kind (files (name_of names kind)) next ≡ Refused r) → fetched_all files names manner ≡ Refused r
  unfolding after_exe after_core
  comes_to file.Exe r before h = h after_exe
  comes_to file.Core r before h = passes file.Exe names.exe after_exe before ∙ h (after_core before.0)
  comes_to file.Trace r before h = passes file.Exe names.exe after_exe before.0 ∙ passes file.Core names.core (after_core before.0.0) before.1 ∙ h (λ trace. Loaded (crash_bytes before.0.0 before.1.0 trace manner))

  lacks : (kind : FileKind) → FitBefore files names kind → files (name_of names kind) ≡ None → fetched_all files names manner ≡ Refused (refusal.NoFile kind)
  lacks kind before none = comes_to kind (refusal.NoFile kind) before (λ next. ap (λ (o : Option (List ℕ)). fetched kind o next) none)

  over : (kind : FileKind) → FitBefore files names kind → IsOver files (name_of names kind) (limit_of kind) → fetched_all files names manner ≡ Refused (refusal.TooLarge kind)
  over kind before large = comes_to kind (refusal.TooLarge kind) before
      (λ next. ap (λ (o : Option (List ℕ)). fetched kind o next) large.1 ∙ ap (λ (b : Bool). cond b (Refused (refusal.TooLarge kind)) (next large.0)) (is_over (limit_of kind) (length large.0) large.2))

-- a core file and a trace come to the first one that is refused
module _ (files : Files) (names : CoreNames) (manner : OpenOptions) where
  core_passes : (fits : FileFits files file.Core names.core) (next : List ℕ → Loading) → fetched file.Core (files names.core) next ≡ next fits.0
  core_passes fits next =
      ap (λ (o : Option (List ℕ)). fetched file.Core o next) fits.1 ∙ ap (λ (b : Bool). cond b (Refused (refusal.TooLarge file.Core)) (next fits.0)) (not_over (limit_of file.Core) (length fits.0) fits.2)

  trace_of : List ℕ → Loading
  trace_of core = fetched file.Trace (files names.trace) (λ trace. LoadedCore (core_bytes core trace manner))

  core_comes_to : (kind : FileKind) (r : Refusal) → CoreFitBefore files names kind → ((next : List ℕ → Loading) → fetched kind (files (core_name_of names kind)) next ≡ Refused r) → fetched_core files names manner ≡ Refused r
  unfolding trace_of
  core_comes_to file.Exe r before h = absurd before
  core_comes_to file.Core r before h = h trace_of
  core_comes_to file.Trace r before h = core_passes before trace_of ∙ h (λ trace. LoadedCore (core_bytes before.0 trace manner))

  core_lacks : (kind : FileKind) → CoreFitBefore files names kind → files (core_name_of names kind) ≡ None → fetched_core files names manner ≡ Refused (refusal.NoFile kind)
  core_lacks kind before none = core_comes_to kind (refusal.NoFile kind) before (λ next. ap (λ (o : Option (List ℕ)). fetched kind o next) none)

  core_over : (kind : FileKind) → CoreFitBefore files names kind → IsOver files (core_name_of names kind) (limit_of kind) → fetched_core files names manner ≡ Refused (refusal.TooLarge kind)
  core_over kind before large = core_comes_to kind (refusal.TooLarge kind) before
      (λ next. ap (λ (o : Option (List ℕ)). fetched kind o next) large.1 ∙ ap (λ (b : Bool). cond b (Refused (refusal.TooLarge kind)) (next large.0)) (is_over (limit_of kind) (length large.0) large.2))

-- files are to be loaded
abbrev pub LoadsFiles : Loading → Type 0
LoadsFiles (MadeRun seed steps) = ⊥
LoadsFiles _ = Unit {0}

either_loads : (b : Bool) (r : Refusal) (l : Loading) → LoadsFiles l → LoadsFiles (cond b (Refused r) l)
either_loads true r l h = tt
either_loads false r l h = h

one_fetched : (kind : FileKind) (o : Option (List ℕ)) (next : List ℕ → Loading) → ((bytes : List ℕ) → LoadsFiles (next bytes)) → LoadsFiles (fetched kind o next)
one_fetched kind None next h = tt
one_fetched kind (Some bytes) next h = either_loads (nat_lt (limit_of kind) (length bytes)) (refusal.TooLarge kind) (next bytes) (h bytes)

pub all_fetched : (files : Files) (names : Names) (manner : OpenOptions) → LoadsFiles (fetched_all files names manner)
all_fetched files names manner =
    one_fetched file.Exe (files names.exe) (λ exe. fetched file.Core (files names.core) (λ core. fetched file.Trace (files names.trace) (λ trace. Loaded (crash_bytes exe core trace manner))))
    (λ exe. one_fetched file.Core (files names.core) (λ core. fetched file.Trace (files names.trace) (λ trace. Loaded (crash_bytes exe core trace manner)))
    (λ core. one_fetched file.Trace (files names.trace) (λ trace. Loaded (crash_bytes exe core trace manner)) (λ trace. tt)))

pub core_fetched : (files : Files) (names : CoreNames) (manner : OpenOptions) → LoadsFiles (fetched_core files names manner)
core_fetched files names manner =
    one_fetched file.Core (files names.core) (λ core. fetched file.Trace (files names.trace) (λ trace. LoadedCore (core_bytes core trace manner)))
    (λ core. one_fetched file.Trace (files names.trace) (λ trace. LoadedCore (core_bytes core trace manner)) (λ trace. tt))

module _ (words : List (List ℕ)) (files : Files) where
  -- which load was the last
  abbrev pub Came : Shelved → Shelved → FileKind → Type 0
  Came old new kind = (ComesTo words files kind × (new.loads ≡ loads_to kind old.loads)) ⊎ (ComesToCore words files kind × (new.loads ≡ core_loads_to kind old.loads))

  -- why no files are loaded: a load failed, memory ran out, or the files say so
  abbrev pub Stops : Shelved → Shelved → Refusal → Type 0
  Stops old new r =
      ((kind : FileKind) × (r ≡ refusal.LoadFault kind) × Came old new kind)
      ⊎ (r ≡ refusal.OutOfMemory)
      ⊎ (loading words files ≡ Refused r)

  names_stop : (old new : Shelved) (d : Domain) (names : Names) (from : Option ℕ) (kind : FileKind) (r : Refusal) → old.files ≡ Some files → meaning_of words ≡ Some (Open d names from) → FitBefore files names kind → new.loads ≡ loads_to kind old.loads
      → Why old new (name_of names kind) kind r → Stops old new r
  names_stop old new d names from kind r told named before loads (inl h) = inl (kind, h.0, inl ((d, names, from, named, before), loads))
  names_stop old new d names from kind r told named before loads (inr (inl h)) =
      inr (inr (ap (loading_by files) named ∙ lacks files names (manner_of d from) kind before (at_told old.files _ (λ fs. (fs (name_of names kind) ≡ None) × (new.faults ≡ old.faults)) files told h.1).0 ∙ ap Refused (sym h.0)))
  names_stop old new d names from kind r told named before loads (inr (inr (inl h))) =
      inr (inr (ap (loading_by files) named ∙ over files names (manner_of d from) kind before (at_told old.files _ (λ fs. IsOver fs (name_of names kind) (limit_of kind) × (new.faults ≡ old.faults)) files told h.1).0 ∙ ap Refused (sym h.0)))
  names_stop old new d names from kind r told named before loads (inr (inr (inr h))) = inr (inl h)

  core_stop : (old new : Shelved) (d : Domain) (names : CoreNames) (from : Option ℕ) (kind : FileKind) (r : Refusal) → old.files ≡ Some files → meaning_of words ≡ Some (Maps d names from) → CoreFitBefore files names kind → new.loads ≡ core_loads_to kind old.loads
      → Why old new (core_name_of names kind) kind r → Stops old new r
  core_stop old new d names from kind r told named before loads (inl h) = inl (kind, h.0, inr ((d, names, from, named, before), loads))
  core_stop old new d names from kind r told named before loads (inr (inl h)) =
      inr (inr (ap (loading_by files) named ∙ core_lacks files names (manner_of d from) kind before (at_told old.files _ (λ fs. (fs (core_name_of names kind) ≡ None) × (new.faults ≡ old.faults)) files told h.1).0 ∙ ap Refused (sym h.0)))
  core_stop old new d names from kind r told named before loads (inr (inr (inl h))) =
      inr (inr (ap (loading_by files) named ∙ core_over files names (manner_of d from) kind before (at_told old.files _ (λ fs. IsOver fs (core_name_of names kind) (limit_of kind) × (new.faults ≡ old.faults)) files told h.1).0 ∙ ap Refused (sym h.0)))
  core_stop old new d names from kind r told named before loads (inr (inr (inr h))) = inr (inl h)

  words_stop : (old new : Shelved) (r : Refusal) → old.files ≡ Some files → (m : Option Meaning) → meaning_of words ≡ m → MeaningStops m (move old new) r → Stops old new r
  words_stop old new r told None e h = inr (inr (ap (loading_by files) e ∙ ap Refused (sym h.0)))
  words_stop old new r told (Some (Made seed steps)) e h = absurd h
  words_stop old new r told (Some (Maps d names from)) e (kind, s) =
      core_stop old new d names from kind r told e (at_files old.files (λ fs. CoreFitBefore fs names kind) files told s.before) s.loads (why old new (core_name_of names kind) kind r s.why)
  words_stop old new r told (Some (Open d names from)) e (kind, s) =
      names_stop old new d names from kind r told e (at_files old.files (λ fs. FitBefore fs names kind) files told s.before) s.loads (why old new (name_of names kind) kind r s.why)

  pub stops : (old new : Shelved) (r : Refusal) → old.files ≡ Some files → LoadingStops (meaning_of words) (move old new) r → Stops old new r
  stops old new r told (inl h) = inr (inl h.0)
  stops old new r told (inr h) = words_stop old new r told (meaning_of words) refl h

-- what is said of a call that answered so
pub ok_at : {T E : Type 0} (r : Result T E) (a b : T) (P : T → Type 0) → r ≡ Ok a → a ≡ b → IfOk r P → P b
ok_at {T} {E} r a b P e same h =
    let here : P a = subst (λ (x : Result T E). IfOk x P) e h in
    subst P same here
