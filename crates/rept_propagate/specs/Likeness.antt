-- Bytes that go the same ways as another one, so that they needn't be gone over. This project's
-- own.
use Rattle.std.specs.Prelude.{◌≡◌, ◌≤◌, ℕ, true, Option, None, Some, length, slice_get}
use Rattle.rept_alias.specs.Accesses.{call_hits}
use Rattle.rept_report.specs.Conflicts.{IsQuiet}
use Rattle.rept_facts.specs.State.{AnalysisState, all_known, along}
use Rattle.rept_writing.specs.declared.list.Writing.{Writing}

-- where of a byte the same is known at two numbers, the same is known of the other one at them
abbrev pub IsToldBy : {W : Type 0} → ℕ → ℕ → AnalysisState W → Type 0
IsToldBy a b s = (m w : ℕ) → m ≤ s.path.given.moments.end → w ≤ s.path.given.moments.end → s.known.store.fact m a ≡ s.known.store.fact w a → s.known.store.fact m b ≡ s.known.store.fact w b

-- each row of the list that may write the byte may write the other one
abbrev pub AreHitsShared : {W : Type 0} → ℕ → ℕ → AnalysisState W → Type 0
AreHitsShared a b s = (k : ℕ) (w : Writing) → slice_get s.work.writing k ≡ Some w → call_hits w.access a ≡ true → call_hits w.access b ≡ true

-- the other byte goes the same ways: where it may be carried the first may be, and where the first
-- has one value it has one
pub record IsLikeByte {W : Type 0} (a b : ℕ) (s : AnalysisState W) : Type 0 where
  pub told : IsToldBy a b s
  pub hits : AreHitsShared a b s

-- so does it as a byte that may be named
abbrev pub IsLikeAny : {W : Type 0} → Option ℕ → ℕ → AnalysisState W → Type 0
IsLikeAny None b s = ⊥
IsLikeAny (Some a) b s = IsLikeByte a b s

-- by all that is known no range is empty and no turn wrong, and the sets are those of all that is
-- known
pub record IsCurrent {W : Type 0} (s : AnalysisState W) : Type 0 where
  pub quiet : IsQuiet (along s.path) (all_known s)
  pub filled : s.filled ≡ length s.known.log
