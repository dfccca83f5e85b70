-- Which rows of a list may write an address, and the first of them. This project's own.
use Rattle.std.specs.Prelude.{◌≡◌, ℕ, ◌+◌, ◌<◌, ◌≤◌, ◌⊎◌, List, length, Bool, true, false, Option, Some, None, slice_get}
use Rattle.std.specs.List.Sorted.{IsNonDecreasingBy}
use Rattle.rept_alias.specs.Accesses.{call_hits}
use Rattle.rept_writing.specs.declared.list.Writing.{Writing}

-- rows that may write, and for how many there is room
pub record Listed : Type 0 where
  pub list : List Writing
  pub room : ℕ

abbrev pub writing_hits : Option Writing → ℕ → Bool
writing_hits None a = false
writing_hits (Some w) a = call_hits w.access a

-- whether the row at an index of the list may write the address; past the end none does
abbrev pub hits_at : List Writing → ℕ → ℕ → Bool
hits_at list j a = writing_hits (slice_get list j) a

-- the row at index h is the first one from index k on that may write the address
pub record IsFirstHit (list : List Writing) (k a h : ℕ) : Type 0 where
  pub from : k ≤ h
  pub inside : h < length list
  pub hits : hits_at list h a ≡ true
  pub none_before : (j : ℕ) → k ≤ j → j < h → hits_at list j a ≡ false

-- the first row from an index to before another one that may write the address, or that there is
-- none
abbrev pub IsNextHitBelow : List Writing → ℕ → ℕ → ℕ → Option ℕ → Type 0
IsNextHitBelow list k end a None = (j : ℕ) → k ≤ j → j < end → hits_at list j a ≡ false
IsNextHitBelow list k end a (Some h) = (h < end) × IsFirstHit list k a h

-- a number of a moment and one that is next to it, and an address
pub record Link : Type 0 where
  pub from : ℕ
  pub to : ℕ
  pub address : ℕ

-- the row may write the address, and may act between the numbers
pub record IsMeeting (list : List Writing) (link : Link) (j : ℕ) : Type 0 where
  pub writing : Writing
  pub stands : slice_get list j ≡ Some writing
  pub hits : call_hits writing.access link.address ≡ true
  pub above : link.from < writing.to
  pub below : writing.from ≤ link.to

-- the first such row from an index on, or that there is none
abbrev pub IsNextMeeting : List Writing → ℕ → Link → Option ℕ → Type 0
IsNextMeeting list k link None = (j : ℕ) → k ≤ j → IsMeeting list link j → ⊥
IsNextMeeting list k link (Some h) = (k ≤ h) × IsMeeting list link h × ((j : ℕ) → k ≤ j → j < h → IsMeeting list link j → ⊥)

-- the rows stand in the order of time
abbrev pub AreInOrder : List Writing → Type 0
AreInOrder list = IsNonDecreasingBy (λ w. w.at) list

-- the rows before index k are those at lower numbers than the given one
pub record IsSplitAt (list : List Writing) (number k : ℕ) : Type 0 where
  pub bound : k ≤ length list
  pub below : (j : ℕ) (w : Writing) → slice_get list j ≡ Some w → j < k → w.at < number
  pub above : (j : ℕ) (w : Writing) → slice_get list j ≡ Some w → k ≤ j → number ≤ w.at

-- the row at index j stands at a lower number than the given one, and may write the address
pub record IsHitBefore (list : List Writing) (number a j : ℕ) : Type 0 where
  pub writing : Writing
  pub stands : slice_get list j ≡ Some writing
  pub lower : writing.at < number
  pub hits : call_hits writing.access a ≡ true

-- the index after the last such row from an index on; that index where there is none
pub record IsPastHitFrom (list : List Writing) (low number a past : ℕ) : Type 0 where
  pub from : low ≤ past
  pub before : (past ≡ low) ⊎ ((j : ℕ) × (past ≡ j + 1) × IsHitBefore list number a j)
  pub none_after : (j : ℕ) → past ≤ j → IsHitBefore list number a j → ⊥

-- no row that stands before a number and may write the address may act at this number or a later
-- one
abbrev pub IsFreeSince : List Writing → ℕ → ℕ → ℕ → Type 0
IsFreeSince list number a since = (j : ℕ) → (w : Writing) → slice_get list j ≡ Some w → w.at < number → call_hits w.access a ≡ true → w.to ≤ since

-- no row that stands at a number or later and may write the address may act before this number
abbrev pub IsFreeUntil : List Writing → ℕ → ℕ → ℕ → Type 0
IsFreeUntil list number a until = (j : ℕ) → (w : Writing) → slice_get list j ≡ Some w → number ≤ w.at → call_hits w.access a ≡ true → until ≤ w.from
