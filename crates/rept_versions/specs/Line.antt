-- A line of numbers on which spans have a value.
use Rattle.std.specs.Prelude.{◌≡◌, ◌≢◌, ℕ, suc, ◌+◌, ◌-◌, ◌<◌, ◌≤◌, Bool, ◌&&◌, ltb, leb, ◌==◌, if◌then◌else◌, List, [], ◌∷◌, length, set, Option, Some, None, slice_index_or, remove, ◌⊎◌}
use Rattle.rept_versions.specs.declared.span.Span.{Span}

abbrev pub no_span : Span
no_span = record { low = 0; high = 0; value = 0 }

abbrev pub nth : List Span → ℕ → Span
nth ss i = slice_index_or ss i no_span

-- whether k lies in a span
abbrev pub covers : Span → ℕ → Bool
covers s k = leb s.low k && leb k s.high

-- the value at k, if any span has k
abbrev pub value_at : List Span → ℕ → Option ℕ
value_at [] k = None
value_at (s ∷ ss) k = if covers s k then Some s.value else value_at ss k

-- no span is empty, and each ends before the next begins
pub record IsRising (ss : List Span) : Type 0 where
  pub whole : (i : ℕ) → i < length ss → (nth ss i).low ≤ (nth ss i).high
  pub apart : (i j : ℕ) → i < j → j < length ss → (nth ss i).high < (nth ss j).low

-- if span i and the next one meet, their values differ
abbrev pub JoinedAt : List Span → ℕ → Type 0
JoinedAt ss i = suc i < length ss → (nth ss i).high + 1 ≡ (nth ss (suc i)).low → (nth ss i).value ≢ (nth ss (suc i)).value

-- neighbouring spans of one value are one span
abbrev pub AreSpansJoined : List Span → Type 0
AreSpansJoined ss = (i : ℕ) → JoinedAt ss i

abbrev pub IsJoinedBut : List Span → ℕ → Type 0
IsJoinedBut ss i = (j : ℕ) → j ≢ i → JoinedAt ss j

-- spans before place i begin at or below k, and the others above it
pub record Parts (ss : List Span) (k i : ℕ) : Type 0 where
  pub bound : i ≤ length ss
  pub below : (j : ℕ) → j < i → (nth ss j).low ≤ k
  pub above : (j : ℕ) → i ≤ j → j < length ss → k < (nth ss j).low

-- spans before place i end below k, and the others at k or later
pub record IsFirst (ss : List Span) (k i : ℕ) : Type 0 where
  pub bound : i ≤ length ss
  pub below : (j : ℕ) → j < i → (nth ss j).high < k
  pub above : (j : ℕ) → i ≤ j → j < length ss → k ≤ (nth ss j).high

-- s is the first span that ends at k or later, and stands at place i
pub record FirstAt (ss : List Span) (k i : ℕ) (s : Span) : Type 0 where
  pub within : i < length ss
  pub span : s ≡ nth ss i
  pub first : IsFirst ss k i

abbrev pub raised : List Span → ℕ → ℕ → List Span
raised ss i high = set ss i (record { low = (nth ss i).low; high = high; value = (nth ss i).value })

abbrev pub lowered : List Span → ℕ → ℕ → List Span
lowered ss i low = set ss i (record { low = low; high = (nth ss i).high; value = (nth ss i).value })

-- span i and the next one as one span
abbrev pub joined : List Span → ℕ → List Span
joined ss i = remove (raised ss i (nth ss (suc i)).high) (suc i)

-- span i has k
pub record LiesInSpan (ss : List Span) (k i : ℕ) : Type 0 where
  pub within : i < length ss
  pub from : (nth ss i).low ≤ k
  pub to : k ≤ (nth ss i).high

-- no span has k: those before place i end below it, the others begin above it
pub record Misses (ss : List Span) (k i : ℕ) : Type 0 where
  pub parts : Parts ss k i
  pub below : (j : ℕ) → j < i → (nth ss j).high < k

-- the span before place i ends just below k, with value v
pub record FollowsAt (ss : List Span) (i k v : ℕ) : Type 0 where
  pub some : 0 < i
  pub meets : (nth ss (i - 1)).high + 1 ≡ k
  pub value : (nth ss (i - 1)).value ≡ v

-- the span at place i begins just above k, with value v
pub record PrecedesAt (ss : List Span) (i k v : ℕ) : Type 0 where
  pub some : i < length ss
  pub meets : (nth ss i).low ≡ k + 1
  pub value : (nth ss i).value ≡ v

-- the spans and the room for them
pub record Line : Type 0 where
  pub spans : List Span
  pub room : ℕ

-- what is read after v was put at each number above `from`, up to `to`
abbrev pub filled : List Span → ℕ → ℕ → ℕ → ℕ → Option ℕ
filled ss from to v q = if ltb from q && leb q to then Some v else value_at ss q

abbrev pub filled_down : List Span → ℕ → ℕ → ℕ → ℕ → Option ℕ
filled_down ss to from v q = if leb to q && ltb q from then Some v else value_at ss q

-- the same is read of both
abbrev pub ReadsSame : List Span → List Span → Type 0
ReadsSame old new = (q : ℕ) → value_at new q ≡ value_at old q

-- v is read just above or just below k
abbrev pub Beside : List Span → ℕ → ℕ → Type 0
Beside ss k v = (value_at ss (k + 1) ≡ Some v) ⊎ ((j : ℕ) × (j + 1 ≡ k) × (value_at ss j ≡ Some v))

-- v is put at k, where nothing was
pub record Added (old new : Line) (k v : ℕ) : Type 0 where
  pub none : value_at old.spans k ≡ None
  pub reads : (q : ℕ) → value_at new.spans q ≡ (if q == k then Some v else value_at old.spans q)
  pub room : new.room ≡ old.room
  pub len : length new.spans ≤ length old.spans + 1
  pub beside : Beside old.spans k v → length new.spans ≤ length old.spans

-- v is put at each number above `from`, up to `to`, where nothing was or v
pub record Filled (old new : Line) (from to v : ℕ) : Type 0 where
  pub reads : (q : ℕ) → value_at new.spans q ≡ filled old.spans from to v q
  pub free : (q w : ℕ) → from < q → q ≤ to → value_at old.spans q ≡ Some w → w ≡ v
  pub room : new.room ≡ old.room
  pub len : length new.spans ≤ length old.spans

-- the same up to just below `stop`, which has another value
pub record StoppedBelow (old new : Line) (from to v stop : ℕ) : Type 0 where
  pub over : from < stop
  pub under : stop ≤ to
  pub filled : Filled old new from (stop - 1) v
  pub other : (w : ℕ) × (value_at old.spans stop ≡ Some w) × (w ≢ v)

pub record FilledDown (old new : Line) (to from v : ℕ) : Type 0 where
  pub reads : (q : ℕ) → value_at new.spans q ≡ filled_down old.spans to from v q
  pub free : (q w : ℕ) → to ≤ q → q < from → value_at old.spans q ≡ Some w → w ≡ v
  pub room : new.room ≡ old.room
  pub len : length new.spans ≤ length old.spans

pub record StoppedDown (old new : Line) (to from v stop : ℕ) : Type 0 where
  pub under : stop < from
  pub over : to ≤ stop
  pub filled : FilledDown old new (stop + 1) from v
  pub other : (w : ℕ) × (value_at old.spans stop ≡ Some w) × (w ≢ v)

-- between k and a span nothing is read, in it one value, and not that value beside it
pub record IsNextOn (ss : List Span) (k : ℕ) (s : Span) : Type 0 where
  pub ordered : s.low ≤ s.high
  pub reaches : k ≤ s.high
  pub value : (q : ℕ) → s.low ≤ q → q ≤ s.high → value_at ss q ≡ Some s.value
  pub free : (q : ℕ) → k ≤ q → q < s.low → value_at ss q ≡ None
  pub begins : (q : ℕ) → q + 1 ≡ s.low → value_at ss q ≢ Some s.value
  pub ends : value_at ss (s.high + 1) ≢ Some s.value

abbrev pub NextsOn : List Span → ℕ → Option Span → Type 0
NextsOn ss k (Some s) = IsNextOn ss k s
NextsOn ss k None = (q : ℕ) → k ≤ q → value_at ss q ≡ None
