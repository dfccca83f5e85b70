-- Which numbers are next to each, and to which ones each is next, in lists by numbers. This
-- project's own.
use Rattle.std.specs.Prelude.{◌≡◌, ℕ, ◌+◌, ◌⊎◌, ◌↔◌, true, List, [], length, slice_index_or, Option}
use Rattle.std.specs.List.{Contains}
use Rattle.rept_report.specs.Moments.{Moments}
use Rattle.rept_report.specs.Timeline.{IsLeastFrom, IsGreatestTo}
use Rattle.rept_extents.specs.declared.carry.links.Links.{Links}

-- the list of a number; past the last one there is none
abbrev pub listed : List (List ℕ) → ℕ → List ℕ
listed lists k = slice_index_or lists k []

-- so many lists, all of them empty
pub record HasNoLinks (count : ℕ) (lists : List (List ℕ)) : Type 0 where
  pub many : length lists ≡ count
  pub none : (k : ℕ) → listed lists k ≡ []

-- a number was added to the list of another one
abbrev pub AddsAt : ℕ → ℕ → List (List ℕ) → List (List ℕ) → Type 0
AddsAt at n old new = (m w : ℕ) → Contains (listed new m) w ↔ (Contains (listed old m) w ⊎ ((m ≡ at) × (w ≡ n)))

-- from the one number a link leads to the other, by the lists onward and by those back
abbrev pub Leads : Links → ℕ → ℕ → Type 0
Leads links m w = Contains (listed links.onward.items m) w

abbrev pub Comes : Links → ℕ → ℕ → Type 0
Comes links m w = Contains (listed links.back.items w) m

-- there are links of so many numbers, none at first
pub record AreNone (count : ℕ) (links : Links) : Type 0 where
  pub onward : HasNoLinks count links.onward.items
  pub back : HasNoLinks count links.back.items

-- for each number there is a list onward and one back
pub record AreRoomFor (moments : Moments) (links : Links) : Type 0 where
  pub onward : length links.onward.items ≡ moments.end + 1
  pub back : length links.back.items ≡ moments.end + 1

-- the links are the pairs of which something is so
pub record AreLinked (Is : ℕ → ℕ → Type 0) (links : Links) : Type 0 where
  pub onward : (m w : ℕ) → Leads links m w ↔ Is m w
  pub back : (m w : ℕ) → Comes links m w ↔ Is m w

-- of the pairs of which the second number is next to the first
abbrev pub AreLinks : Moments → Links → Type 0
AreLinks moments = AreLinked (λ m w. moments.next m w ≡ true)

-- the pairs of which something is so were added
pub record AddsPairs (Is : ℕ → ℕ → Type 0) (old new : Links) : Type 0 where
  pub onward : (m w : ℕ) → Leads new m w ↔ (Leads old m w ⊎ Is m w)
  pub back : (m w : ℕ) → Comes new m w ↔ (Comes old m w ⊎ Is m w)

-- one pair; those of a number with others; and those of a number with all that are next to it
abbrev pub IsPair : ℕ → ℕ → ℕ → ℕ → Type 0
IsPair from to m w = (m ≡ from) × (w ≡ to)

abbrev pub IsPairOf : ℕ → List ℕ → ℕ → ℕ → Type 0
IsPairOf from list m w = (m ≡ from) × Contains list w

abbrev pub IsNextOf : Moments → ℕ → ℕ → ℕ → Type 0
IsNextOf moments from m w = (m ≡ from) × (moments.next m w ≡ true)

-- the least number from one on, and the greatest one up to one, that is next to a number, and to
-- which a number is next
abbrev pub IsNextFrom : Moments → ℕ → ℕ → Option ℕ → Type 0
IsNextFrom moments m least found = IsLeastFrom (λ w. moments.next m w ≡ true) least found

abbrev pub IsNextTo : Moments → ℕ → ℕ → Option ℕ → Type 0
IsNextTo moments m most found = IsGreatestTo (λ w. moments.next m w ≡ true) most found

abbrev pub IsPreviousFrom : Moments → ℕ → ℕ → Option ℕ → Type 0
IsPreviousFrom moments w least found = IsLeastFrom (λ m. moments.next m w ≡ true) least found

abbrev pub IsPreviousTo : Moments → ℕ → ℕ → Option ℕ → Type 0
IsPreviousTo moments w most found = IsGreatestTo (λ m. moments.next m w ≡ true) most found
