-- Between which moments a byte is carried, and on which way it is carried to one. This project's
-- own.
use Rattle.std.specs.Prelude.{◌≡◌, ℕ, zero, suc, ◌+◌, ◌<◌, ◌≤◌, Bool, true, false, not, ◌&&◌, ◌||◌, nat_lt, Option, Some, None}
use Rattle.std.proofs.Common.{inl, inr}
use Rattle.std.proofs.lemmas.Bool.{and_parts, or_cases}
use Rattle.rept_report.specs.declared.nearest.found.NearestValue.{NearestValue}
use Rattle.rept_report.specs.Nearest.Nets.{Links, IsNearest}
use Rattle.rept_report.specs.Moments.{Moments}
use Rattle.rept_report.specs.Spots.{Passage, passage}
use Rattle.rept_report.specs.Timeline.{Timeline, IsTimeline}
use Rattle.rept_report.specs.declared.origin.step.Direction.{Direction}
use Rattle.rept_report.specs.declared.origin.step.Direction.TheVariants.{Onward, Back}
use Rattle.rept_report.specs.declared.origin.step.Carriage.{Carriage}

-- a byte of the memory
pub record ByteAlong : Type 0 where
  pub address : ℕ
  -- by the number of a moment the byte, where it is known there by itself
  pub source : ℕ → Option ℕ
  -- of the rows below a number it is told whether they may write the byte at an address
  pub rows : ℕ
  pub may : ℕ → ℕ → Bool

-- whether none of the rows below a number may act between the moments and may write the byte
abbrev pub spares : Moments → (ℕ → ℕ → Bool) → Passage → ℕ → Bool
spares moments may x zero = true
spares moments may x (suc n) = not (moments.may_act n x.from x.to && may n x.address) && spares moments may x n

-- whether it is carried from a moment to a next one: nothing that may act between may write it
abbrev pub carries_over : Timeline → ByteAlong → ℕ → ℕ → Bool
carries_over t b m w = t.moments.next m w && (not (t.moments.untraced m w) && spares t.moments b.may (passage b.address m w) t.legs.count)

-- by the way the one or the other
abbrev pub by_way : Direction → Bool → Bool → Bool
by_way Onward on back = on
by_way Back on back = back

-- whether a step leads to a moment
abbrev pub leads_by : Timeline → ℕ → Carriage → Bool
leads_by t m s = by_way s.way (t.moments.next s.from m) (t.moments.next m s.from)

-- whether it is carried to a moment by a step
abbrev pub carries_by : Timeline → ByteAlong → ℕ → Carriage → Bool
carries_by t b m s = by_way s.way (carries_over t b s.from m) (carries_over t b m s.from)

-- moments are linked where it is carried from one to the other
abbrev pub links_over : Timeline → ByteAlong → Links
links_over t b = record { last = t.moments.end; value = b.source; linked = λ m w. carries_over t b w m || carries_over t b m w }

-- the least number from one on of which something holds, or that there is none
abbrev pub IsLeastFrom : (ℕ → Bool) → ℕ → Option ℕ → Type 0
IsLeastFrom f least None = (n : ℕ) → least ≤ n → f n ≡ false
IsLeastFrom f least (Some m) = (f m ≡ true) × (least ≤ m) × ((n : ℕ) → least ≤ n → n < m → f n ≡ false)

-- a number beside this one, from which one link less leads to a value
pub record IsLinkBeside (L : Links) (number links w : ℕ) : Type 0 where
  pub linked : L.linked number w ≡ true
  pub found : NearestValue
  pub nearest : IsNearest L w (Some found)
  pub nearer : found.links + 1 ≡ links

-- whether something was found, fewer links away
abbrev pub is_nearer : Option NearestValue → ℕ → Bool
is_nearer None links = false
is_nearer (Some found) links = nat_lt found.links links

-- of the numbers of which something holds one that is fewer links away from a value, or that none
-- is
abbrev pub IsNearerAmong : (ℕ → Bool) → Links → ℕ → Option ℕ → Type 0
IsNearerAmong f L links None = (w : ℕ) → f w ≡ true → (there : Option NearestValue) × IsNearest L w there × (is_nearer there links ≡ false)
IsNearerAmong f L links (Some w) = (f w ≡ true) × ((there : Option NearestValue) × IsNearest L w there × (is_nearer there links ≡ true))

pub carried_next : (t : Timeline) (b : ByteAlong) (m w : ℕ) → carries_over t b m w ≡ true → t.moments.next m w ≡ true
carried_next t b m w e = (and_parts (t.moments.next m w) (not (t.moments.untraced m w) && spares t.moments b.may (passage b.address m w) t.legs.count) e).0

pub linked_inside : (t : Timeline) → IsTimeline t → (b : ByteAlong) (m w : ℕ) → (links_over t b).linked m w ≡ true → w ≤ (links_over t b).last
linked_inside t laws b m w e = elim (or_cases (carries_over t b w m) (carries_over t b m w) e) [
  | inl back ↦ (laws.moments.inside w m (carried_next t b w m back)).0
  | inr onward ↦ (laws.moments.inside m w (carried_next t b m w onward)).1
]
