-- What a store of byte facts holds, and what its calls say. All of this is the project's own.
use Rattle.std.specs.Prelude.{◌≡◌, ◌≢◌, ℕ, ◌+◌, ◌*◌, ◌<◌, ◌≤◌, Bool, true, false, List, [], ◌∷◌, ◌++◌, length, Option, Some, None, Result, Ok, Err, Contains, ◌⊎◌, ⊤}
use Rattle.std.specs.declared.alloc.AllocError.{AllocError}
use Rattle.rept_versions.specs.declared.facts.Learnt.{Learnt}
use Rattle.rept_versions.specs.declared.facts.Learnt.TheVariants.{Old, New, Clash}
use Rattle.rept_versions.specs.declared.facts.Carried.{Carried}
use Rattle.rept_versions.specs.declared.facts.Carried.TheVariants.{Same, More, Stop}
use Rattle.rept_versions.specs.declared.facts.ValueStretch.{ValueStretch}

-- the value that is known at a point of an address
abbrev pub KnownValues : Type 0
KnownValues = ℕ → ℕ → Option ℕ

pub record Store : Type 0 where
  pub fact : KnownValues
  -- the tracked addresses, in the order of their first use
  pub tracked : List ℕ
  -- so many facts can be learnt without memory
  pub spare : ℕ
  -- where the store joins, so many addresses can be tracked without memory
  pub places : ℕ

-- what a call does to a store: whether the store joins, and what it holds before and after
pub record StoreChange : Type 0 where
  pub joins : Bool
  pub old : Store
  pub new : Store

abbrev pub change : Bool → Store → Store → StoreChange
change joins old new = record { joins = joins; old = old; new = new }

-- the value of an address at a point
pub record ByteFact : Type 0 where
  pub point : ℕ
  pub address : ℕ
  pub value : ℕ

-- a value of an address that is carried from one point to another
pub record Carry : Type 0 where
  pub address : ℕ
  pub from : ℕ
  pub to : ℕ
  pub value : ℕ

-- the same, carried to this point
abbrev pub as_far_as : Carry → ℕ → Carry
as_far_as course point = record { address = course.address; from = course.from; to = point; value = course.value }

-- the same facts, addresses and room
pub record StoreStays (old new : Store) : Type 0 where
  pub fact : (q b : ℕ) → new.fact q b ≡ old.fact q b
  pub tracked : new.tracked ≡ old.tracked
  pub spare : new.spare ≡ old.spare
  pub places : new.places ≡ old.places

-- a new store
pub record Made (joins : Bool) (made : Store) (access_bytes : ℕ) : Type 0 where
  pub fact : (q b : ℕ) → made.fact q b ≡ None
  pub tracked : made.tracked ≡ []
  pub places : joins ≡ true → made.places ≡ access_bytes
  pub spare : joins ≡ true → 2 * access_bytes + 1 ≤ made.spare

-- the value of the fact is known at the point before or after it
abbrev pub HasBeside : KnownValues → ByteFact → Type 0
HasBeside told f = (told (f.point + 1) f.address ≡ Some f.value) ⊎ ((q : ℕ) × (q + 1 ≡ f.point) × (told q f.address ≡ Some f.value))

-- one fact more, where nothing was known
pub record AddsFact (c : StoreChange) (f : ByteFact) : Type 0 where
  pub none : c.old.fact f.point f.address ≡ None
  pub here : c.new.fact f.point f.address ≡ Some f.value
  pub others : (q b : ℕ) → (q ≡ f.point → b ≡ f.address → ⊥) → c.new.fact q b ≡ c.old.fact q b
  pub tracked : c.new.tracked ≡ c.old.tracked
  pub places : c.new.places ≡ c.old.places
  pub spare : c.old.spare ≤ c.new.spare + 1
  pub beside : c.joins ≡ true → HasBeside c.old.fact f → c.old.spare ≤ c.new.spare

-- what `learn` did, by its answer
abbrev pub Learns : StoreChange → ByteFact → Result Learnt AllocError → Type 0
Learns c f (Err e) = StoreStays c.old c.new × (c.old.fact f.point f.address ≡ None) × (c.old.spare ≡ 0)
Learns c f (Ok Old) = StoreStays c.old c.new × (c.old.fact f.point f.address ≡ Some f.value)
Learns c f (Ok New) = AddsFact c f
Learns c f (Ok (Clash known asked)) = StoreStays c.old c.new × (c.old.fact f.point f.address ≡ Some known) × (known ≢ f.value) × (asked ≡ f.value)

-- q stands between two points, in either order, or is one of them
abbrev pub Between : ℕ → ℕ → ℕ → Type 0
Between from to q = ((from ≤ q) × (q ≤ to)) ⊎ ((to ≤ q) × (q ≤ from))

-- the value is known at each point of the course, where before it was that value or nothing;
-- nothing else changed
pub record Spreads (c : StoreChange) (course : Carry) : Type 0 where
  pub here : (q : ℕ) → Between course.from course.to q → c.new.fact q course.address ≡ Some course.value
  pub free : (q w : ℕ) → Between course.from course.to q → c.old.fact q course.address ≡ Some w → w ≡ course.value
  pub others : (q b : ℕ) → (Between course.from course.to q → b ≡ course.address → ⊥) → c.new.fact q b ≡ c.old.fact q b
  pub tracked : c.new.tracked ≡ c.old.tracked
  pub places : c.new.places ≡ c.old.places
  pub spare : c.joins ≡ true → c.old.spare ≤ c.new.spare

-- the value was carried to a point of the course, and next to that one on the way stands `stop`
pub record ReachesPoint (c : StoreChange) (course : Carry) (stop : ℕ) : Type 0 where
  pub before : ℕ
  pub next : (before + 1 ≡ stop) ⊎ (stop + 1 ≡ before)
  pub toward : Between course.from course.to before
  pub within : Between course.from course.to stop
  pub spreads : Spreads c (as_far_as course before)

-- the value was carried to the point next to one at which another value is known
pub record StopsAtValue (c : StoreChange) (course : Carry) (stop found : ℕ) : Type 0 where
  pub reaches : ReachesPoint c course stop
  pub other : c.old.fact stop course.address ≡ Some found
  pub differs : found ≢ course.value

-- the value was carried to the point next to one at which nothing is known and that there is no
-- room for
pub record FailsForRoom (c : StoreChange) (course : Carry) : Type 0 where
  pub plain : c.joins ≡ false
  pub stop : ℕ
  pub reaches : ReachesPoint c course stop
  pub none : c.old.fact stop course.address ≡ None
  pub spare : c.new.spare ≡ 0

-- what `carry` of the value did, by its answer
abbrev pub CarriesOr : StoreChange → Carry → Result Carried AllocError → Type 0
CarriesOr c course (Err e) = FailsForRoom c course
CarriesOr c course (Ok Same) = StoreStays c.old c.new × Spreads c course
CarriesOr c course (Ok More) = Spreads c course × ((q : ℕ) × Between course.from course.to q × (c.old.fact q course.address ≡ None))
CarriesOr c course (Ok (Stop stop known found)) = (known ≡ course.value) × StopsAtValue c course stop found

-- a is tracked too: where it wasn't, it goes last
pub record TracksAddress (old new : Store) (a : ℕ) : Type 0 where
  pub fact : (q b : ℕ) → new.fact q b ≡ old.fact q b
  pub spare : new.spare ≡ old.spare
  pub places : new.places ≡ old.places
  pub there : Contains old.tracked a → new.tracked ≡ old.tracked
  pub last : (Contains old.tracked a → ⊥) → new.tracked ≡ old.tracked ++ a ∷ []

-- what `track` did, by its answer
abbrev pub TracksOr : StoreChange → ℕ → Result ⊤ AllocError → Type 0
TracksOr c a (Ok u) = TracksAddress c.old c.new a
TracksOr c a (Err e) = StoreStays c.old c.new × (Contains c.old.tracked a → ⊥) × (c.joins ≡ true → c.old.places ≤ length c.old.tracked)

-- the value of the stretch is known from its first point to its last, and neither at the point
-- before nor at the one after
pub record IsWholeStretch (told : KnownValues) (a : ℕ) (s : ValueStretch) : Type 0 where
  pub ordered : s.first ≤ s.last
  pub value : (q : ℕ) → s.first ≤ q → q ≤ s.last → told q a ≡ Some s.value
  pub begins : (q : ℕ) → q + 1 ≡ s.first → told q a ≢ Some s.value
  pub ends : told (s.last + 1) a ≢ Some s.value

-- the first stretch of one value that ends at p or later; between p and it nothing is known
pub record IsNextStretch (told : KnownValues) (a p : ℕ) (s : ValueStretch) : Type 0 where
  pub run : IsWholeStretch told a s
  pub reaches : p ≤ s.last
  pub free : (q : ℕ) → p ≤ q → q < s.first → told q a ≡ None

-- what `next_stretch` answers
abbrev pub Nexts : KnownValues → ℕ → ℕ → Option ValueStretch → Type 0
Nexts told a p (Some s) = IsNextStretch told a p s
Nexts told a p None = (q : ℕ) → p ≤ q → told q a ≡ None
