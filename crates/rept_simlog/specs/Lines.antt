-- The lines of a log, and what they tell. A newline ends a line (POSIX.1-2017, 3.206); the last one
-- may lack it. What a line tells is an entry, and each kind of log has its own: of a line, its
-- number and an entry `tells` says that the line tells this entry.
use Rattle.std.specs.Prelude.{◌≡◌, ◌≢◌, ℕ, ◌+◌, ◌-◌, ◌<◌, ◌≤◌, List, [], ◌∷◌, ◌++◌, length, take, drop, slice_get, slice_index, Some}
use Rattle.rept_elf.specs.Checks.{checks, first_failure}
use Rattle.rept_elf.specs.declared.fault.Want.TheVariants.{Exec}
use Rattle.rept_simlog.specs.declared.log.LogFault.{LogFault}
use Rattle.rept_simlog.specs.declared.log.LogFault.TheVariants.{Executable, NoEntry, OutOfMemory}

-- The first newline stands after so many bytes, or there is none.
pub record IsLineEnd (bytes : List ℕ) (size : ℕ) : Type 0 where
  pub within : size ≤ length bytes
  pub before : (i : ℕ) → i < size → slice_index bytes i ≢ 10
  pub there : size < length bytes → slice_index bytes size ≡ 10

-- The bytes begin with this line, and these follow its newline.
pub record IsFirstLine (bytes line rest : List ℕ) : Type 0 where
  pub size : ℕ
  pub cut : IsLineEnd bytes size
  pub text : line ≡ take size bytes
  pub later : rest ≡ drop (size + 1) bytes

-- The bytes are these lines, and then the rest.
abbrev pub AreLinesThen : List ℕ → List (List ℕ) → List ℕ → Type 0
AreLinesThen bytes [] rest = bytes ≡ rest
AreLinesThen bytes (line ∷ lines) rest = (after : List ℕ) × (0 < length bytes) × IsFirstLine bytes line after × AreLinesThen after lines rest

-- Each of these lines, which are numbered from 1, tells its entry.
pub record TellEntries {E : Type 0} (tells : ℕ → List ℕ → E → Type 0) (lines : List (List ℕ)) (entries : List E) : Type 0 where
  pub count : length entries ≡ length lines
  pub each : (i : ℕ) (line : List ℕ) (entry : E) → slice_get lines i ≡ Some line → slice_get entries i ≡ Some entry → tells (i + 1) line entry

-- The log is the lines of these entries.
pub record AreEntries {E : Type 0} (tells : ℕ → List ℕ → E → Type 0) (log : List ℕ) (entries : List E) : Type 0 where
  pub lines : List (List ℕ)
  pub cut : AreLinesThen log lines []
  pub told : TellEntries tells lines entries

-- The line of this number is the first one that tells nothing.
pub record IsNoEntry {E : Type 0} (tells : ℕ → List ℕ → E → Type 0) (log : List ℕ) (number : ℕ) : Type 0 where
  pub lines : List (List ℕ)
  pub line : List ℕ
  pub rest : List ℕ
  pub cut : AreLinesThen log (lines ++ line ∷ []) rest
  pub entries : List E
  pub told : TellEntries tells lines entries
  pub none : (entry : E) → tells number line entry → ⊥
  pub place : number ≡ length lines + 1

-- why an executable and a log over it aren't read
abbrev pub IsLogFault : {E : Type 0} → (ℕ → List ℕ → E → Type 0) → List ℕ → List ℕ → LogFault → Type 0
IsLogFault tells exe log (Executable fault) = first_failure (checks Exec exe) ≡ Some fault
IsLogFault tells exe log (NoEntry k) = IsNoEntry tells log k
IsLogFault tells exe log OutOfMemory = Unit {0}

-- the last 65,537 of them: of one hart where each of the last 65,536 steps began, and where the
-- last one led
abbrev pub last_entries : {E : Type 0} → List E → List E
last_entries entries = drop (length entries - 65537) entries
