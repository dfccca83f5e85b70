-- A search in indices that rise.
use Rattle.std.proofs.Common.{◌≡◌, ℕ, inl, inr, ◌<◌, ◌≤◌, false, List, length, get_or, ◌∙◌, arith}
use Rattle.std.specs.List.{Contains}
use Rattle.std.proofs.lemmas.Bool.{cases_lt}
use Rattle.std.proofs.lemmas.List.{get_or_default}
use Rattle.rept_writing.specs.declared.list.Writing.{Writing}
use Rattle.rept_writing.specs.Hits.{hits_at}
use Rattle.rept_writing.specs.Acting.{IsSplitByActing}

-- what was passed over
abbrev pub NoneHits : List Writing → List ℕ → ℕ → ℕ → (ℕ → Type 0)
NoneHits list wide from to = λ a. (m : ℕ) → from ≤ m → m < to → hits_at list (get_or wide m 0) a ≡ false

-- the place of an index
pub place_of : (wide : List ℕ) (j : ℕ) → Contains wide j → (m : ℕ) × (m < length wide) × (get_or wide m 0 ≡ j)
place_of wide j (m, inside, is) = (m, inside, get_or_default wide m 0 j inside ∙ is)

pub contains_at : (wide : List ℕ) (m j : ℕ) → m < length wide → get_or wide m 0 ≡ j → Contains wide j
contains_at wide m j inside is = (m, inside, get_or_default wide m j 0 inside ∙ is)

pub at_or_after : (wide : List ℕ) (k start m : ℕ) → IsSplitByActing wide k start → k ≤ get_or wide m 0 → start ≤ m
at_or_after wide k start m cut low = elim (cases_lt m start) [ inl lt ↦ absurd (omega (arith, cut.below m lt, low)) | inr le ↦ le ]
