-- A log of the addresses that several harts executed, in the order of execution: a line gives a
-- hart, a thread and an address, with one space between each two. It is this project's own.
use Rattle.std.specs.Prelude.{◌≡◌, ◌≢◌, ℕ, ◌+◌, ◌<◌, ◌≤◌, ◌^◌, List, [], ◌∷◌, length, take, drop, slice_index}
use Rattle.rept_simlog.specs.Log.{IsLogNumber}
use Rattle.rept_simlog.specs.declared.hartlog.log.HartLogLine.{HartLogLine}

-- The first space stands after so many bytes.
pub record IsFirstSpace (text : List ℕ) (size : ℕ) : Type 0 where
  pub within : size < length text
  pub before : (i : ℕ) → i < size → slice_index text i ≢ 32
  pub there : slice_index text size ≡ 32

-- The text begins with this word and a space, and the rest follows.
pub record IsLogWord (text word rest : List ℕ) : Type 0 where
  pub size : ℕ
  pub space : IsFirstSpace text size
  pub front : word ≡ take size text
  pub later : rest ≡ drop (size + 1) text

-- Three texts write the numbers of an entry.
pub record AreNumbers (hart thread address : List ℕ) (entry : HartLogLine) : Type 0 where
  pub hart_is : IsLogNumber hart entry.hart
  pub thread_is : IsLogNumber thread entry.thread
  pub address_is : IsLogNumber address entry.address

-- The line gives what an entry has: a hart, a thread and an address.
pub record GivesEntry (line : List ℕ) (entry : HartLogLine) : Type 0 where
  pub hart : List ℕ
  pub rest : List ℕ
  pub thread : List ℕ
  pub address : List ℕ
  pub first : IsLogWord line hart rest
  pub second : IsLogWord rest thread address
  pub numbers : AreNumbers hart thread address entry

-- The log is one of several harts: its first line has a space.
pub record NamesHarts (log : List ℕ) : Type 0 where
  pub size : ℕ
  pub within : size < length log
  pub there : slice_index log size ≡ 32
  pub line : (i : ℕ) → i < size → slice_index log i ≢ 10

-- The line of this number tells the entry.
abbrev pub IsHartEntry : ℕ → List ℕ → HartLogLine → Type 0
IsHartEntry number line entry = (entry.line ≡ number) × GivesEntry line entry

-- The entries are of lines that follow one another from the one of this number on.
abbrev pub AreLinesFrom : ℕ → List HartLogLine → Type 0
AreLinesFrom line [] = Unit {0}
AreLinesFrom line (entry ∷ entries) = (entry.line ≡ line) × AreLinesFrom (line + 1) entries

-- They are of lines that follow one another, with numbers below 2^32.
pub record AreLines (entries : List HartLogLine) : Type 0 where
  pub line : ℕ
  pub each : AreLinesFrom line entries
  pub few : line + length entries ≤ 2 ^ 32
