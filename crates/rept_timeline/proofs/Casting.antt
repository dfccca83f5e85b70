-- What stands of a course's numbers, in the words of the report.
use mathlib.Core.Logic.{∥∥₁_elim, ∥∥₁_prop}
use Rattle.std.proofs.Props.{props}
use Rattle.std.proofs.Common.{◌≡◌, ℕ, ◌≤◌, Bool, true, false, Option, Some, None, refl}
use Rattle.rept_report.specs.Moments.{Moments}
use Rattle.rept_report.specs.Timeline as report
use Rattle.rept_moments.specs.Seen as seen
use Rattle.rept_span.specs.Ranges.{Legs}
use Rattle.rept_report.specs.declared.paths.NumberChain.{NumberChain}
use Rattle.rept_extents.specs.Carry.Links.{IsNextFrom, IsPreviousFrom}
use Rattle.rept_extents.specs.declared.carry.lines.Lines.{Lines}
use Rattle.rept_extents.specs.declared.carry.lines.Lines as cases
use Rattle.rept_extents.specs.Carry.Lines.{AreLines, IsIn}
use Rattle.rept_extents.specs.Timelines.{as_timeline}
use Rattle.rept_timeline.specs.Listed.{AreLinesOf}

not_so : (b : Bool) → (b ≡ true → ⊥) → b ≡ false
not_so true k = absurd (k refl)
not_so false k = refl

pub next_as : (M : Moments) (m least : ℕ) (o : Option ℕ) → IsNextFrom M m least o → report.IsNextFrom M m least o
next_as M m least None its = λ w low. not_so (M.next m w) (its w low)
next_as M m least (Some w) its = (its.0, its.1, λ v low less. not_so (M.next m v) (its.2 v low less))

pub former_as : (M : Moments) (w least : ℕ) (o : Option ℕ) → IsPreviousFrom M w least o → report.IsFormerFrom M w least o
former_as M w least None its = λ m low. not_so (M.next m w) (its m low)
former_as M w least (Some m) its = (its.0, its.1, λ v low less. not_so (M.next v w) (its.2 v low less))

pub row_at_as : (x : seen.SeenMoments) (m : ℕ) (o : Option ℕ) → seen.IsRowAt x m o → report.IsRowAt (as_timeline x) m o
row_at_as x m None its = its
row_at_as x m (Some i) its = its

pub last_as : (legs : Legs) (least : ℕ) (o : Option ℕ) → seen.IsLastFrom legs least o → report.IsLastFrom legs least o
last_as legs least None its = its
last_as legs least (Some p) its = its

-- a line is told by what is merely so
joined_of : (M : Moments) (k : ℕ) → ∥ report.IsJoined M k ∥₁ → report.IsJoined M k
joined_of M k t = record { next = ∥∥₁_elim t (hlevel props) (λ j. j.next); only = λ w e. ∥∥₁_elim t (hlevel props) (λ j. j.only w e) }

pub line_of_mere : (M : Moments) (m : ℕ) (x : NumberChain) → ∥ report.IsLine M m x ∥₁ → report.IsLine M m x
line_of_mere M m x t = record {
  from = ∥∥₁_elim t (hlevel props) (λ l. l.from);
  to = ∥∥₁_elim t (hlevel props) (λ l. l.to);
  inside = ∥∥₁_elim t (hlevel props) (λ l. l.inside);
  joined = λ k low less. joined_of M k (∥∥₁_elim t ∥∥₁_prop (λ l. ∣ l.joined k low less ∣₁));
  begins = λ k same its. ∥∥₁_elim t (λ x y. absurd x) (λ l. l.begins k same its);
  ends = λ its. ∥∥₁_elim t (λ x y. absurd x) (λ l. l.ends its);
}

-- of the lines of the moments
pub line_from : (M : Moments) (lines : Lines) (m : ℕ) (x : NumberChain) → ∥ AreLinesOf M lines ∥₁ → m ≤ M.end → ((N : Moments) → AreLines N lines → m ≤ N.end → report.IsLine N m x) → report.IsLine M m x
line_from M lines m x t few its = line_of_mere M m x (∥∥₁_elim t ∥∥₁_prop (λ a. ∣ its M a.each few ∣₁))

pub line_in : (M : Moments) (lines : Lines) (m : ℕ) → ∥ AreLinesOf M lines ∥₁ → m ≤ M.end → ∥ IsIn lines m ∥₁
line_in M lines m t few = ∥∥₁_elim t ∥∥₁_prop (λ a. ∣ a.inside m few ∣₁)

in_of : (lines : Lines) (m : ℕ) → ∥ IsIn lines m ∥₁ → IsIn lines m
in_of (cases.TheVariants.One end) m t = tt
in_of (cases.TheVariants.Many list) m t = ∥∥₁_elim t (hlevel props) (λ l. l)

pub is_in : (M : Moments) (lines : Lines) (m : ℕ) → ∥ AreLinesOf M lines ∥₁ → m ≤ M.end → IsIn lines m
is_in M lines m t few = in_of lines m (line_in M lines m t few)
