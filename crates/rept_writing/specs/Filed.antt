-- How the bytes that rows of a list may write are kept, so that they are found by address. This
-- project's own.
use Rattle.std.specs.Prelude.{◌≡◌, ℕ, ◌+◌, ◌<◌, ◌≤◌, ◌^◌, ◌⊎◌, zero, suc, List, [], ◌∷◌, ◌++◌, get_or, length, true, Option, Some, None, Result, MatchResult, if◌then◌else◌, min}
use Rattle.std.specs.List.{All, Contains}
use Rattle.std.specs.List.Sorted.{IsNonDecreasing, IsPartitionPoint}
use Rattle.std.specs.Ordering.{nat_cmp, ordering_then}
use Rattle.std.specs.declared.cmp.Ordering.{Ordering}
use Rattle.std.specs.declared.cmp.Ordering.TheVariants.{Less, Greater}
use Rattle.rept_alias.specs.declared.addresses.Access.{Access}
use Rattle.rept_alias.specs.declared.addresses.CallAccess.{CallAccess}
use Rattle.rept_isa.specs.Numbers.{beside}
use Rattle.rept_alias.specs.Accesses.{distance}
use Rattle.rept_writing.specs.declared.list.Writing.{Writing}
use Rattle.rept_writing.specs.declared.narrow.Hit.{Hit}
use Rattle.rept_writing.specs.Hits.{hits_at}

-- that the row at an index may write an address
abbrev pub hit : ℕ → ℕ → Hit
hit a j = record { address = a; index = j }

-- by address, and at one address by index
abbrev pub hit_cmp : Hit → Hit → Ordering
hit_cmp x y = ordering_then (nat_cmp x.address y.address) (nat_cmp x.index y.index)

-- those before a place come before a hit, and those from it on after
abbrev pub IsPlaceOf : List Hit → Hit → ℕ → Type 0
IsPlaceOf hits x at = IsPartitionPoint (λ y. hit_cmp y x ≡ Less) (λ y. hit_cmp y x ≡ Greater) hits at

-- a hit is one of these, or else its place among them
abbrev pub IsFound : List Hit → Hit → Result ℕ ℕ → Type 0
IsFound hits x r = MatchResult r (λ i. Contains hits x) (λ at. IsPlaceOf hits x at)

-- the least number from k on of which P holds, or that there is none
abbrev pub IsLeast : (ℕ → Type 0) → ℕ → Option ℕ → Type 0
IsLeast P k None = (j : ℕ) → k ≤ j → P j → ⊥
IsLeast P k (Some h) = (k ≤ h) × P h × ((j : ℕ) → k ≤ j → j < h → P j → ⊥)

-- the same before another number
abbrev pub IsFirst : (ℕ → Type 0) → ℕ → ℕ → Option ℕ → Type 0
IsFirst P k end None = (j : ℕ) → k ≤ j → j < end → P j → ⊥
IsFirst P k end (Some h) = (k ≤ h) × (h < end) × P h × ((j : ℕ) → k ≤ j → j < h → P j → ⊥)

-- the number after the greatest one from a number on and below k of which P holds, or the former
-- number where there is none
pub record IsPast (P : ℕ → Type 0) (low k past : ℕ) : Type 0 where
  pub from : low ≤ past
  pub before : (past ≡ low) ⊎ ((j : ℕ) × (past ≡ j + 1) × (j < k) × P j)
  pub none : (j : ℕ) → past ≤ j → j < k → P j → ⊥

-- the lesser of two numbers, where there are two
abbrev pub sooner : Option ℕ → Option ℕ → Option ℕ
sooner None second = second
sooner (Some p) None = Some p
sooner (Some p) (Some q) = Some (min p q)

-- how many addresses an access has
abbrev pub size : Access → ℕ
size access = if access.all then 2 ^ 32 else distance access.lo access.hi + 1

abbrev pub size_of_part : Option Access → ℕ
size_of_part None = 0
size_of_part (Some access) = size access

abbrev pub size_of : CallAccess → ℕ
size_of access = size_of_part access.first + size_of_part access.second

-- the first address of a part is a word
abbrev pub StartsAtWord : Option Access → Type 0
StartsAtWord None = Unit {0}
StartsAtWord (Some access) = access.lo < 2 ^ 32

-- so many addresses from one on, modulo 2 ^ 32, with the index of a row
abbrev pub hits_from : ℕ → ℕ → ℕ → List Hit
hits_from first zero j = []
hits_from first (suc n) j = hits_from first n j ++ hit (beside first n) j ∷ []

abbrev pub hits_of_part : Option Access → ℕ → List Hit
hits_of_part None j = []
hits_of_part (Some access) j = hits_from access.lo (size access) j

-- the addresses of both parts, with the index of a row
abbrev pub hits_of : CallAccess → ℕ → List Hit
hits_of access j = hits_of_part access.first j ++ hits_of_part access.second j

-- each address of a row of few is kept with its index
pub record IsKeptByAddress (access : CallAccess) (index : ℕ) (old new : List Hit) : Type 0 where
  pub few : size_of access ≤ 8
  pub first : StartsAtWord access.first
  pub second : StartsAtWord access.second
  pub is : new ≡ old ++ hits_of access index

-- Each address that the row at an index may write stands among the single ones with that index, or
-- the index among those of rows of many addresses, but not both; and nothing else stands there.
pub record IsFiled (list : List Writing) (narrow : List Hit) (wide : List ℕ) : Type 0 where
  pub sound : All (λ h. hits_at list h.index h.address ≡ true) narrow
  pub complete : (j a : ℕ) → a < 2 ^ 32 → hits_at list j a ≡ true → Contains narrow (hit a j) ⊎ Contains wide j
  pub rising : IsNonDecreasing wide
  pub each_once : (p q : ℕ) → p < q → q < length wide → get_or wide p 0 < get_or wide q 0
  pub inside : All (λ j. j < length list) wide
  pub few : length wide ≤ length list
  pub apart : All (λ h. Contains wide h.index → ⊥) narrow
