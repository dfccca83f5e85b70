-- What the ports in memory hold, and what one call makes of it. Calls are numbered from 1, and the
-- calls whose numbers are listed fail.
use Rattle.std.specs.Prelude.{◌≡◌, ◌≢◌, MatchBool, ℕ, ◌-◌, min, List, [], ◌++◌, length, take, drop, Bool, true, false, ◌||◌, ◌&&◌, ◌==◌, not, Some, Result, Err, MatchResult}
use Rattle.std.specs.List.{list_any}
use Rattle.rept_ports.specs.Causes.{next_count}
use Rattle.rept_ports.specs.FileList.{file_in}
use Rattle.rept_ports.specs.Shelves.{Shelved}
use Rattle.rept_ports.specs.declared.traits.LoadFault.{LoadFault}
use Rattle.rept_ports.specs.declared.traits.LoadFault.TheVariants as load

-- the number is listed
abbrev pub is_listed : ℕ → List ℕ → Bool
is_listed n numbers = list_any (λ k. k == n) numbers

-- a sink: what was written, the room for it, and the calls and the faults so far
pub record SinkState : Type 0 where
  pub written : List ℕ
  pub room : ℕ
  pub fails : List ℕ
  pub calls : ℕ
  pub faults : ℕ

abbrev pub new_sink : ℕ → List ℕ → SinkState
new_sink room fails = record { written = []; room = room; fails = fails; calls = 0; faults = 0 }

-- how many bytes of the piece fit
abbrev pub fitting : SinkState → List ℕ → ℕ
fitting s piece = min (s.room - length s.written) (length piece)

-- the next write fails: its number is listed, or nothing fits of a piece that is not empty
abbrev pub fails_at : SinkState → List ℕ → Bool
fails_at s piece = is_listed (next_count s.calls) s.fails || (fitting s piece == 0 && not (length piece == 0))

-- a write appends what fits, or it fails and appends nothing
abbrev pub SinkStep : {E : Type 0} → SinkState → SinkState → List ℕ → Result ℕ E → Type 0
SinkStep old new piece result = MatchResult result
    (λ n. (fails_at old piece ≡ false) × (n ≡ fitting old piece) × (new ≡ record old { written = old.written ++ take n piece; calls = next_count old.calls }))
    (λ _. (fails_at old piece ≡ true) × (new ≡ record old { calls = next_count old.calls; faults = next_count old.faults }))

-- a source: the bytes that are left, and the calls and the faults so far
pub record SourceState : Type 0 where
  pub left : List ℕ
  pub fails : List ℕ
  pub calls : ℕ
  pub faults : ℕ

abbrev pub new_source : List ℕ → List ℕ → SourceState
new_source bytes fails = record { left = bytes; fails = fails; calls = 0; faults = 0 }

-- a read moves as many bytes as are left and fit to the front of the room
abbrev pub CalmRead : {E : Type 0} → List ℕ → List ℕ → List ℕ → List ℕ → Result ℕ E → Type 0
CalmRead old new room filled result = MatchResult result
    (λ n. (n ≡ min (length old) (length room)) × (filled ≡ take n old ++ drop n room) × (new ≡ drop n old))
    (λ _. ⊥)

-- the same, or it fails, takes nothing and writes nothing
abbrev pub SourceStep : {E : Type 0} → SourceState → SourceState → List ℕ → List ℕ → Result ℕ E → Type 0
SourceStep old new room filled result = MatchResult result
    (λ n. (is_listed (next_count old.calls) old.fails ≡ false) × (n ≡ min (length old.left) (length room)) × (filled ≡ take n old.left ++ drop n room)
    × (new ≡ record old { left = drop n old.left; calls = next_count old.calls }))
    (λ _. (is_listed (next_count old.calls) old.fails ≡ true) × (filled ≡ room) × (new ≡ record old { calls = next_count old.calls; faults = next_count old.faults }))

-- a file store whose loads don't fail: its files, and the calls so far
pub record CalmState : Type 0 where
  pub files : List (List ℕ × List ℕ)
  pub calls : ℕ

-- what it tells: all files, all calls, and no faults
abbrev pub calm_shelved : CalmState → Shelved
calm_shelved s = record { files = Some (file_in s.files); loads = s.calls; faults = 0 }

-- a file store: its files, and the calls and the faults so far
pub record FileStoreState : Type 0 where
  pub files : List (List ℕ × List ℕ)
  pub fails : List ℕ
  pub calls : ℕ
  pub faults : ℕ

-- what it tells: all of that but the calls that are to fail
abbrev pub shelved : FileStoreState → Shelved
shelved s = record { files = Some (file_in s.files); loads = s.calls; faults = s.faults }

abbrev pub new_file_store : List ℕ → FileStoreState
new_file_store fails = record { files = []; fails = fails; calls = 0; faults = 0 }

-- a load counts its call, and is `Failed` where its number is listed and only there
abbrev pub FileStoreStep : {T : Type 0} → FileStoreState → FileStoreState → Result T LoadFault → Type 0
FileStoreStep old new result = MatchBool (is_listed (next_count old.calls) old.fails)
    ((result ≡ Err load.Failed) × (new ≡ record old { calls = next_count old.calls; faults = next_count old.faults }))
    ((result ≢ Err load.Failed) × (new ≡ record old { calls = next_count old.calls }))
