-- What the slices are that a written stream tells. This project's own.
use Rattle.std.specs.Prelude.{⊤, ◌≡◌, ℕ, ◌≤◌, Bool, List, [], ◌∷◌, Some, None}
use Rattle.rept_encode.specs.declared.weaving.stretch.HartStretch.{HartStretch}
use Rattle.rept_encode.specs.Weaving.Woven.{IsStretchSent}
use Rattle.rept_streams.specs.Slices.Parts.{ToldSlice, thread_of, begin_of, beyond, first_time}
use Rattle.rept_streams.specs.Slices.Stretches.{stretch}

-- The slice of a stream is that of a stretch: it begins while the trace waits, of the same thread
-- and at the same time; the first time that its stream tells once it has ended is the stretch's
-- end; and the packets along which it is walked are those of the stretch.
pub record IsSliceOf (halves : Bool) (s : ℕ) (x : HartStretch) (t : ToldSlice) : Type 0 where
  pub stream : t.stream ≡ s
  pub thread : thread_of t ≡ x.process
  pub begin : begin_of t ≡ x.begin
  pub waits : t.inside ≡ None
  pub end : first_time (beyond t) ≡ Some x.end
  pub packets : IsStretchSent halves x (stretch t)

-- one slice for each stretch, in order
abbrev pub AreSlicesOf : Bool → ℕ → List HartStretch → List ToldSlice → Type 0
AreSlicesOf halves s [] ts = ts ≡ []
AreSlicesOf halves s (x ∷ xs) [] = ⊥
AreSlicesOf halves s (x ∷ xs) (t ∷ ts) = IsSliceOf halves s x t × AreSlicesOf halves s xs ts

-- The stretches of a hart follow one another in time, from a time on.
abbrev pub AreInTime : ℕ → List HartStretch → Type 0
AreInTime time [] = ⊤
AreInTime time (x ∷ xs) = (time ≤ x.begin) × (x.begin ≤ x.end) × AreInTime x.end xs
