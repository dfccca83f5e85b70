-- What inferring conclusions does to an analysis. This project's own.
use Rattle.std.specs.Prelude.{◌≡◌, ◌≢◌, ℕ, zero, suc, ◌+◌, ◌-◌, ◌<◌, ◌≤◌, ◌^◌, ◌⊎◌, Bool, true, false, List, length, Option, Some, None, Contains, slice_get}
use Rattle.std.specs.Option.{IsSome}
use Rattle.rept_isa.specs.declared.row.StepRow.{StepRow}
use Rattle.rept_isa.specs.Operands.{written_by}
use Rattle.rept_isa.specs.Numbers.{beside}
use Rattle.rept_versions.specs.Facts.{Between, Carry}
use Rattle.rept_alias.specs.declared.addresses.CallAccess.{CallAccess}
use Rattle.rept_alias.specs.Accesses.{call_hits}
use Rattle.rept_partial.specs.declared.flat.Flat.{Flat}
use Rattle.rept_partial.specs.declared.flat.Flat.TheVariants.{Known}
use Rattle.rept_reason.specs.declared.fact.Fact.{Fact}
use Rattle.rept_reason.specs.declared.fact.Cell.{Cell}
use Rattle.rept_reason.specs.declared.fact.Cell.TheVariants.{Register, Byte}
use Rattle.rept_reason.specs.Facts.{IsCell, told}
use Rattle.rept_span.specs.Filled.{entry_at, IsFilled}
use Rattle.rept_reason.specs.declared.view.inferred.Conclusion.{Conclusion}
use Rattle.rept_reason.specs.View.Rules.{IsRowByte, Fits}
use Rattle.rept_log.specs.Around.{around}
use Rattle.rept_report.specs.Setting.{HasLaws, IsLast, IsInstant, way_of}
use Rattle.rept_report.specs.Spots.{Passage, passage, Spot}
use Rattle.rept_report.specs.Views.{instant_of, may_write, Carries}
use Rattle.rept_report.specs.Conclusions.{HasWords, IsCarried, Concludes}
use Rattle.rept_report.specs.Conflicts.{IsQuiet}
use Rattle.rept_report.specs.Log.{oldest}
use Rattle.rept_report.specs.Why.{fact_of}
use Rattle.rept_facts.specs.declared.halt.LearnError.{LearnError}
use Rattle.rept_facts.specs.declared.halt.LearnError.TheVariants.{Clash, OutOfMemory}
use Rattle.rept_report.specs.Reach.Reaching.{IsExtent}
use Rattle.rept_report.specs.declared.paths.NumberWindow.{NumberWindow}
use Rattle.rept_writing.specs.Hits.{AreInOrder}
use Rattle.rept_writing.specs.declared.list.Writing.{Writing}
use Rattle.rept_report.specs.declared.paths.Strip.{Strip}
use Rattle.rept_facts.specs.declared.piece.Piece.{Piece}
use Rattle.rept_facts.specs.declared.leap.ByteLeap.{ByteLeap}
use Rattle.rept_writing.specs.declared.passes.pass.Pass.TheVariants.{Cut}
use Rattle.rept_facts.specs.Work.{left, number_past}
use Rattle.rept_facts.specs.Room.{IsInferable, IsInferredAt, own_at, IsOwnByte}
use Rattle.rept_facts.specs.State.{AnalysisState, IsRoomy, all_known, along}

-- the cell is known to have the value
abbrev pub Knows : {W : Type 0} → ℕ → Cell → ℕ → AnalysisState W → Type 0
Knows p c v s = all_known s p c ≡ Some v

abbrev pub IsTracked : {W : Type 0} → ℕ → AnalysisState W → Type 0
IsTracked a s = Contains s.known.store.tracked a

-- the sets are those of some of the facts
abbrev pub IsFitted : {W : Type 0} → AnalysisState W → Type 0
IsFitted s = IsFilled (way_of (along s.path)) s.spans (told (oldest s.filled s.known.log))

-- row i may not write the byte, by the facts of which the sets are
abbrev pub IsSparedAt : {W : Type 0} → ℕ → ℕ → AnalysisState W → Type 0
IsSparedAt i a s = may_write (along s.path) (told (oldest s.filled s.known.log)) i a ≡ false

-- row i may not write the byte, by all that is known by now, if that leaves no range empty and no
-- turn wrong
abbrev pub IsSparedNow : {W : Type 0} → ℕ → ℕ → AnalysisState W → Type 0
IsSparedNow i a s = IsQuiet (along s.path) (all_known s) → may_write (along s.path) (all_known s) i a ≡ false

-- it may not, by the one or by the other
abbrev pub IsSpared : {W : Type 0} → ℕ → ℕ → AnalysisState W → Type 0
IsSpared i a s = IsSparedAt i a s ⊎ IsSparedNow i a s

-- row i may write nothing, by the facts of which the sets are
abbrev pub IsSilent : {W : Type 0} → ℕ → AnalysisState W → Type 0
IsSilent i s = (a : ℕ) → a < 2 ^ 32 → IsSparedAt i a s

-- a row stands in a list of rows that may write
pub record IsInList (list : List Writing) (i : ℕ) : Type 0 where
  pub index : ℕ
  pub writing : Writing
  pub found : slice_get list index ≡ Some writing
  pub row : writing.row ≡ i

-- the number after that of the entry before an index in such a list, or the first one
abbrev pub past : List Writing → ℕ → ℕ
past list zero = 0
past list (suc k) = number_past (slice_get list k)

-- a row of such a list: it may not write what isn't among its addresses, by the one or by the other
pub record IsBarrier {W : Type 0} (w : Writing) (s : AnalysisState W) : Type 0 where
  pub there : IsSome (s.path.given.legs.row w.row)
  pub time : w.at ≡ s.path.given.moments.before w.row
  pub extent : IsExtent s.path.given.moments w.row (record { from = w.from; to = w.to })
  pub others : (a : ℕ) → a < 2 ^ 32 → call_hits w.access a ≡ false → IsSpared w.row a s

-- no row but these may write, and they stand in the order of time
pub record AreBarriers {W : Type 0} (list : List Writing) (s : AnalysisState W) : Type 0 where
  pub each : (k : ℕ) (w : Writing) → slice_get list k ≡ Some w → IsBarrier w s
  pub order : AreInOrder list
  pub all : (i : ℕ) → IsSome (s.path.given.legs.row i) → IsInList list i ⊎ IsSilent i s

-- the sets are those of some of the facts, and no row may write but those of the list
pub record AreWritings {W : Type 0} (s : AnalysisState W) : Type 0 where
  pub laws : HasLaws (along s.path)
  pub words : HasWords (all_known s)
  pub fitted : IsFitted s
  pub barriers : AreBarriers s.work.writing s

-- the rows of the list may write all of their addresses, by the facts of which the sets are
abbrev pub AreExact : {W : Type 0} → AnalysisState W → Type 0
AreExact s = (k : ℕ) (w : Writing) (a : ℕ) → slice_get s.work.writing k ≡ Some w → a < 2 ^ 32 → call_hits w.access a ≡ true → may_write (along s.path) (told (oldest s.filled s.known.log)) w.row a ≡ true

-- another state of the same analysis, which knows no less
pub record Grows {W : Type 0} (old new : AnalysisState W) : Type 0 where
  pub path : new.path ≡ old.path
  pub count : new.path.given.legs.count ≡ old.path.given.legs.count
  pub row : (i : ℕ) → new.path.given.legs.row i ≡ old.path.given.legs.row i
  pub spans : new.spans ≡ old.spans
  pub filled : new.filled ≡ old.filled
  pub shown : new.shown ≡ old.shown
  pub complete : new.complete ≡ old.complete
  pub conflict : new.conflict ≡ old.conflict
  pub answers : oldest new.shown new.known.log ≡ oldest old.shown old.known.log
  pub older : oldest new.filled new.known.log ≡ oldest old.filled old.known.log
  pub longer : length old.known.log ≤ length new.known.log
  pub log : (t : ℕ) → t ≤ length old.known.log → oldest t new.known.log ≡ oldest t old.known.log
  pub more : (p : ℕ) (c : Cell) (v : ℕ) → Knows p c v old → Knows p c v new
  pub tracked : (a : ℕ) → IsTracked a old → IsTracked a new
  pub counted : length old.known.store.tracked ≤ length new.known.store.tracked
  pub writing : AreWritings old → AreWritings new
  pub fewer : left new.work.inferred ≤ left old.work.inferred
  pub spent : new.work.infers + left new.work.inferred ≤ old.work.infers + left old.work.inferred
  pub words : HasWords (all_known old) → HasWords (all_known new)

-- a cell is known that wasn't, an address is tracked that wasn't, or rules were applied
pub data HasNews {W : Type 0} (old new : AnalysisState W) : Type 0 where
  fact : (p : ℕ) (c : Cell) (v : ℕ) → IsInstant (along old.path) c p → IsCell c → all_known old p c ≡ None → Knows p c v new → HasNews old new
  address : (a : ℕ) → a < 2 ^ 32 → (IsTracked a old → ⊥) → IsTracked a new → HasNews old new
  anew : left new.work.inferred < left old.work.inferred → HasNews old new

-- of no row something that its rules let one conclude wasn't learnt
abbrev pub IsUncut : {W : Type 0} → AnalysisState W → Type 0
IsUncut s = (i : ℕ) → slice_get s.work.inferred i ≡ Some Cut → ⊥

-- inferring brought news, or it changed nothing, and P holds
pub record HasInferred {W : Type 0} (old new : AnalysisState W) (learnt : Bool) (P : AnalysisState W → Type 0) : Type 0 where
  pub news : learnt ≡ true → HasNews old new
  pub unchanged : learnt ≡ false → new ≡ old
  pub closed : learnt ≡ false → P old
  pub uncut : IsUncut old → IsUncut new

-- the fact follows from what is known, if that leaves no range empty and no turn wrong
abbrev pub IsFollowing : {W : Type 0} → AnalysisState W → Fact → Type 0
IsFollowing s f = IsQuiet (along s.path) (all_known s) → Concludes (along s.path) (all_known s) f

-- it does so by being carried
abbrev pub IsBrought : {W : Type 0} → AnalysisState W → Fact → Type 0
IsBrought s f = IsQuiet (along s.path) (all_known s) → IsCarried (along s.path) (all_known s) f

-- a fact that follows, where another value of its cell is known
pub record IsClash {W : Type 0} (s : AnalysisState W) (f : Fact) (known : ℕ) : Type 0 where
  pub is_known : Knows f.point f.cell known s
  pub differs : known ≢ f.value
  pub follows : IsFollowing s f

-- Why a conclusion wasn't learnt is so: memory runs out only where not all was taken at first.
abbrev pub IsHalt : {W : Type 0} → AnalysisState W → LearnError → Type 0
IsHalt s (Clash p c known value) = IsClash s (fact_of p c value) known
IsHalt s OutOfMemory = IsRoomy s → ⊥

-- a register has one value before and after row i
pub record IsKeptAt {W : Type 0} (i r : ℕ) (s : AnalysisState W) : Type 0 where
  pub onward : (v : ℕ) → Knows i (Register r) v s → Knows (i + 1) (Register r) v s
  pub back : (v : ℕ) → Knows (i + 1) (Register r) v s → Knows i (Register r) v s

-- so have the registers below x(n) that the row doesn't write
abbrev pub KeptBelow : {W : Type 0} → ℕ → StepRow → ℕ → AnalysisState W → Type 0
KeptBelow n row i s = (r : ℕ) → 0 < r → r < n → written_by row.instr ≢ Some r → IsKeptAt i r s

-- a byte has one value at two moments, where it is carried from the one to the other by the facts
-- of which the sets are
pub record IsCarriedOver {W : Type 0} (x : Passage) (s : AnalysisState W) : Type 0 where
  pub onward : (v : ℕ) → Carries (along s.path) (told (oldest s.filled s.known.log)) x → Knows x.from (Byte x.address) v s → Knows x.to (Byte x.address) v s
  pub back : (v : ℕ) → Carries (along s.path) (told (oldest s.filled s.known.log)) x → Knows x.to (Byte x.address) v s → Knows x.from (Byte x.address) v s

-- so it has at a moment and the one of the next number
abbrev pub IsCarriedAt : {W : Type 0} → ℕ → ℕ → AnalysisState W → Type 0
IsCarriedAt m a s = IsCarriedOver (passage a m (m + 1)) s

-- a conclusion of row i is known
abbrev pub KnowsInferred : {W : Type 0} → ℕ → Conclusion → AnalysisState W → Type 0
KnowsInferred i d s = Knows (instant_of s.path.given.moments i d.when d.cell) d.cell d.value s

-- so are the first n that a list has
abbrev pub InferredBelow : {W : Type 0} → ℕ → List Conclusion → ℕ → AnalysisState W → Type 0
InferredBelow n list i s = (k : ℕ) (d : Conclusion) → k < n → slice_get list k ≡ Some d → KnowsInferred i d s

-- so are all that the row lets one infer
abbrev pub InferredKnown : {W : Type 0} → StepRow → ℕ → AnalysisState W → Type 0
InferredKnown row i s = (d : Conclusion) → Contains (s.path.rules.infer row (around s.path.given.moments s.known i)) d → KnowsInferred i d s

-- the bytes that the row's rules look at are tracked
abbrev pub IsRowTracked : {W : Type 0} → StepRow → ℕ → AnalysisState W → Type 0
IsRowTracked row i s = (a : ℕ) → IsRowByte s.path.rules row (around s.path.given.moments s.known i) a → IsTracked a s

-- all that row i lets one conclude is known
pub record IsRowInferred {W : Type 0} (row : StepRow) (i : ℕ) (s : AnalysisState W) : Type 0 where
  pub registers : KeptBelow 32 row i s
  pub tracked : IsRowTracked row i s
  pub inferred : InferredKnown row i s

abbrev pub IsRowClosed : {W : Type 0} → ℕ → AnalysisState W → Type 0
IsRowClosed i s = (row : StepRow) → s.path.given.legs.row i ≡ Some row → IsRowInferred row i s

abbrev pub RowsClosedBelow : {W : Type 0} → ℕ → AnalysisState W → Type 0
RowsClosedBelow n s = (i : ℕ) → i < n → IsRowClosed i s

-- the last value of a register is known at a point
abbrev pub LastKnownAt : {W : Type 0} → ℕ → ℕ → AnalysisState W → Type 0
LastKnownAt p r s = (v : ℕ) → 0 < r → s.path.given.last p r ≡ Some v → Knows p (Register r) v s

-- so are those of the registers below x(n)
abbrev pub LastPointKnown : {W : Type 0} → ℕ → ℕ → AnalysisState W → Type 0
LastPointKnown n p s = (r : ℕ) → r < n → LastKnownAt p r s

-- the last value of a register is known at the last point of each thread
abbrev pub LastKnown : {W : Type 0} → ℕ → AnalysisState W → Type 0
LastKnown r s = (p v : ℕ) → IsLast (along s.path) p → 0 < r → s.path.given.last p r ≡ Some v → Knows p (Register r) v s

-- so are those of the registers below x(n)
abbrev pub LastKnownBelow : {W : Type 0} → ℕ → AnalysisState W → Type 0
LastKnownBelow n s = (r : ℕ) → r < n → LastKnown r s

-- the byte of the dump is known at the end
abbrev pub LastByteKnown : {W : Type 0} → ℕ → AnalysisState W → Type 0
LastByteKnown a s = (v : ℕ) → s.path.given.dump a ≡ Some v → Knows s.path.given.moments.end (Byte a) v s

-- so are those of the first n tracked addresses
abbrev pub LastBytesBelow : {W : Type 0} → ℕ → AnalysisState W → Type 0
LastBytesBelow n s = (k a : ℕ) → k < n → slice_get s.known.store.tracked k ≡ Some a → LastByteKnown a s

-- a set of one value is known
abbrev pub SingleKnown : {W : Type 0} → ℕ → ℕ → AnalysisState W → Type 0
SingleKnown p r s = (set : _) (v : ℕ) → entry_at s.spans p r ≡ Some set → s.path.sets.as_exact set ≡ Some v → 0 < r → Knows p (Register r) v s

abbrev pub PointSingles : {W : Type 0} → ℕ → ℕ → AnalysisState W → Type 0
PointSingles n p s = (r : ℕ) → r < n → SingleKnown p r s

abbrev pub SinglesBelow : {W : Type 0} → ℕ → AnalysisState W → Type 0
SinglesBelow n s = (p : ℕ) → p < n → PointSingles 32 p s

-- all one-step conclusions are known, with the sets as they are
pub record IsInferredAll {W : Type 0} (s : AnalysisState W) : Type 0 where
  pub last : LastKnownBelow 32 s
  pub rows : RowsClosedBelow (s.path.given.legs.count) s
  pub bytes : (a : ℕ) → IsTracked a s → LastByteKnown a s
  pub carried : (a m w : ℕ) → IsTracked a s → IsCarriedOver (passage a m w) s
  pub singles : SinglesBelow (s.path.given.legs.count + 1) s

-- the same path and facts, with other sets
pub record SameFacts {W : Type 0} (old new : AnalysisState W) : Type 0 where
  pub path : new.path ≡ old.path
  pub known : new.known ≡ old.known
  pub shown : new.shown ≡ old.shown
  pub complete : new.complete ≡ old.complete
  pub conflict : new.conflict ≡ old.conflict
  pub infers : new.work.infers ≡ old.work.infers
  pub inferred : new.work.inferred ≡ old.work.inferred

-- another state of the same analysis, which answers the same
pub record Continues {W : Type 0} (old new : AnalysisState W) : Type 0 where
  pub path : new.path ≡ old.path
  pub shown : new.shown ≡ old.shown
  pub complete : new.complete ≡ old.complete
  pub conflict : new.conflict ≡ old.conflict
  pub answers : oldest new.shown new.known.log ≡ oldest old.shown old.known.log

-- all is learnt: no range is empty and no turn wrong, the sets are those of all facts, each
-- conclusion is known, and the rows of the list are those that may write, each with the addresses
-- that it may write
pub record IsSettled {W : Type 0} (s : AnalysisState W) : Type 0 where
  pub quiet : IsQuiet (along s.path) (all_known s)
  pub fitted : IsFitted s
  pub filled : s.filled ≡ length s.known.log
  pub inferred : IsInferredAll s
  pub writings : AreWritings s
  pub exact : AreExact s

-- the value, if there is one, is known
abbrev pub IsLearntAt : {W : Type 0} → ℕ → ℕ → Flat → AnalysisState W → Type 0
IsLearntAt p r x s = (v : ℕ) → x ≡ Known v → 0 < r → Knows p (Register r) v s

-- these are the bytes that row i may write by the facts of which the sets are
abbrev pub IsAccess : {W : Type 0} → ℕ → CallAccess → AnalysisState W → Type 0
IsAccess i access s = (a : ℕ) → a < 2 ^ 32 → call_hits access a ≡ may_write (along s.path) (told (oldest s.filled s.known.log)) i a

-- the bytes from an address on are tracked
abbrev pub AreTrackedFrom : {W : Type 0} → ℕ → ℕ → AnalysisState W → Type 0
AreTrackedFrom start n s = (k : ℕ) → k < n → IsTracked (beside start k) s

-- one of the bytes that a row's rules look at, whose base is known
abbrev pub IsRowAddress : {W : Type 0} → ℕ → AnalysisState W → Type 0
IsRowAddress a s = (i : ℕ) × (j : ℕ) × IsOwnByte s.path s.known.log (own_at i j a)

-- so are those from an address on
abbrev pub AreRowAddresses : {W : Type 0} → ℕ → ℕ → AnalysisState W → Type 0
AreRowAddresses start n s = (k : ℕ) → k < n → IsRowAddress (beside start k) s

-- There is room for the byte at a moment: a row lets one conclude it, and the log keeps it, or it
-- is the end; or room isn't promised.
abbrev pub HasPlace : {W : Type 0} → Bool → ℕ → ℕ → AnalysisState W → Type 0
HasPlace true p a s = IsInferredAt s.path s.known.log p a
HasPlace false p a s = (p ≡ s.path.given.moments.end) ⊎ (IsRoomy s → ⊥)

-- a conclusion that follows, on a cell that can be learnt
pub record IsConclusion {W : Type 0} (i : ℕ) (d : Conclusion) (s : AnalysisState W) : Type 0 where
  pub cell : IsCell d.cell
  pub fits : Fits d.cell d.value
  pub follows : d.value < 2 ^ 32 → IsFollowing s (fact_of (instant_of s.path.given.moments i d.when d.cell) d.cell d.value)
  pub tracked : (a : ℕ) → d.cell ≡ Byte a → IsTracked a s
  pub byte : (a : ℕ) → d.cell ≡ Byte a → IsInferable s.path s.known.log i d

abbrev pub AreConclusions : {W : Type 0} → ℕ → List Conclusion → AnalysisState W → Type 0
AreConclusions i list s = (k : ℕ) (d : Conclusion) → slice_get list k ≡ Some d → IsConclusion i d s

abbrev pub RowsClosed : {W : Type 0} → AnalysisState W → Type 0
RowsClosed s = RowsClosedBelow (s.path.given.legs.count) s

abbrev pub LastBytesKnown : {W : Type 0} → AnalysisState W → Type 0
LastBytesKnown s = (a : ℕ) → IsTracked a s → LastByteKnown a s

abbrev pub SinglesKnown : {W : Type 0} → AnalysisState W → Type 0
SinglesKnown s = SinglesBelow (s.path.given.legs.count + 1) s

-- nothing that isn't told may act between a moment and a next one, and no row that may write the
-- byte, by the facts of which the sets are or by all that is known by now
pub record IsBridged {W : Type 0} (x : Passage) (s : AnalysisState W) : Type 0 where
  pub next : s.path.given.moments.next x.from x.to ≡ true
  pub light : s.path.given.moments.untraced x.from x.to ≡ false
  pub spared : (i : ℕ) → s.path.given.moments.may_act i x.from x.to ≡ true → IsSpared i x.address s

-- so it is from each number between two to the one after it
abbrev pub IsSparedBetween : {W : Type 0} → ℕ → ℕ → ℕ → AnalysisState W → Type 0
IsSparedBetween from to a s = (m : ℕ) → ((from ≤ m) × (m < to)) ⊎ ((to ≤ m) × (m < from)) → IsBridged (passage a m (m + 1)) s

-- each number after those, up to the one to which it goes, is next to an earlier one that isn't
-- before them, from which the byte is carried
pub record IsLeapUp {W : Type 0} (x : ByteLeap) (s : AnalysisState W) : Type 0 where
  pub from : x.last ≤ x.to
  pub inside : x.to ≤ s.path.given.moments.end
  pub ways : (k : ℕ) → x.last < k → k ≤ x.to → (m : ℕ) × (x.first ≤ m) × (m < k) × IsBridged (passage x.address m k) s

-- each number before those, down to the one to which it goes, has a later one next to it that isn't
-- after them, to which the byte is carried
pub record IsLeapDown {W : Type 0} (x : ByteLeap) (s : AnalysisState W) : Type 0 where
  pub from : x.to ≤ x.first
  pub ways : (k : ℕ) → x.to ≤ k → k < x.first → (w : ℕ) × (k < w) × (w ≤ x.last) × IsBridged (passage x.address k w) s

-- the byte has the value at each point of a course
abbrev pub IsSpreadTo : {W : Type 0} → Carry → AnalysisState W → Type 0
IsSpreadTo course s = (q : ℕ) → Between course.from course.to q → Knows q (Byte course.address) course.value s

-- a number stands on the way from the beginning of a course to a point, before that point
abbrev pub StandsBefore : Carry → ℕ → ℕ → Type 0
StandsBefore course q p = ((course.from ≤ p) × (p < q)) ⊎ ((q < p) × (p ≤ course.from))

-- the byte is carried to a point from a number next to it, or back to it: from one at which its
-- value is known, or from one before that point on the course
pub record IsLedTo {W : Type 0} (course : Carry) (q : ℕ) (s : AnalysisState W) : Type 0 where
  pub source : ℕ
  pub known : Knows source (Byte course.address) course.value s ⊎ StandsBefore course q source
  pub bridged : IsBridged (passage course.address source q) s ⊎ IsBridged (passage course.address q source) s

-- so it is to each point of a course but the first
abbrev pub IsLed : {W : Type 0} → Carry → AnalysisState W → Type 0
IsLed course s = (q : ℕ) → Between course.from course.to q → q ≢ course.from → IsLedTo course q s

-- the byte is carried from each number from one to before another to the one after it
abbrev pub IsCarriedFrom : {W : Type 0} → ℕ → ℕ → ℕ → AnalysisState W → Type 0
IsCarriedFrom a from to s = (i : ℕ) → from ≤ i → i < to → IsCarriedAt i a s

-- between all moments, where the list is exact
abbrev pub IsCarriedAlong : {W : Type 0} → ℕ → AnalysisState W → Type 0
IsCarriedAlong a s = AreExact s → (m w : ℕ) → IsCarriedOver (passage a m w) s

-- the byte isn't carried over, where the list is exact
abbrev pub IsBlocked : {W : Type 0} → Passage → AnalysisState W → Type 0
IsBlocked x s = AreExact s → Carries (along s.path) (told (oldest s.filled s.known.log)) x → ⊥

-- nor to any moment that is next to one
abbrev pub AreBlocked : {W : Type 0} → ℕ → ℕ → AnalysisState W → Type 0
AreBlocked a m s = (w : ℕ) → s.path.given.moments.next m w ≡ true → IsBlocked (passage a m w) s

-- the row at an index of the list may write the byte, and may act between the two moments
pub record Blocks {W : Type 0} (x : Passage) (s : AnalysisState W) (k : ℕ) : Type 0 where
  pub writing : Writing
  pub found : slice_get s.work.writing k ≡ Some writing
  pub hits : call_hits writing.access x.address ≡ true
  pub may_act : s.path.given.moments.may_act writing.row x.from x.to ≡ true

-- a row of the list may write the byte
pub record IsHitBy {W : Type 0} (a row : ℕ) (s : AnalysisState W) : Type 0 where
  pub index : ℕ
  pub writing : Writing
  pub found : slice_get s.work.writing index ≡ Some writing
  pub hits : call_hits writing.access a ≡ true
  pub row_is : writing.row ≡ row

-- the rows of the list from an index to before another one that may write the byte lie wholly
-- before a moment
abbrev pub AreHitsPast : {W : Type 0} → ℕ → ℕ → Spot → AnalysisState W → Type 0
AreHitsPast from to x s = (k : ℕ) (w : Writing) → slice_get s.work.writing k ≡ Some w → from ≤ k → k < to → call_hits w.access x.address ≡ true → s.path.given.moments.past w.row x.moment ≡ true

-- so do those that stand at lower numbers than the moment
abbrev pub AreFormerPast : {W : Type 0} → Spot → AnalysisState W → Type 0
AreFormerPast x s = (k : ℕ) (w : Writing) → slice_get s.work.writing k ≡ Some w → w.at < x.moment → call_hits w.access x.address ≡ true → s.path.given.moments.past w.row x.moment ≡ true

-- so do those that stand at this number or higher ones
abbrev pub AreLaterPast : {W : Type 0} → Spot → AnalysisState W → Type 0
AreLaterPast x s = (k : ℕ) (w : Writing) → slice_get s.work.writing k ≡ Some w → x.moment ≤ w.at → call_hits w.access x.address ≡ true → s.path.given.moments.past w.row x.moment ≡ true

-- a row of the list may write the byte, and doesn't lie wholly before the moment
pub record IsLateHit {W : Type 0} (x : Spot) (s : AnalysisState W) : Type 0 where
  pub index : ℕ
  pub writing : Writing
  pub found : slice_get s.work.writing index ≡ Some writing
  pub hits : call_hits writing.access x.address ≡ true
  pub late : s.path.given.moments.past writing.row x.moment ≡ false

-- the index of such a row, or that there is none
abbrev pub IsBlocker : {W : Type 0} → Passage → AnalysisState W → Option ℕ → Type 0
IsBlocker x s None = (k : ℕ) → Blocks x s k → ⊥
IsBlocker x s (Some k) = Blocks x s k

-- nothing that may write the byte may act at the pause of a strip, if it has one
abbrev pub IsCalm : {W : Type 0} → ℕ → Strip → AnalysisState W → Type 0
IsCalm a strip s = (p : ℕ) → strip.pause ≡ Some p → IsBridged (passage a p (p + 1)) s

-- a number before or after a piece from which it isn't known whether the byte is carried on
abbrev pub IsEnd : Piece → ℕ → Type 0
IsEnd piece i = (piece.before ≡ Some i) ⊎ (piece.after ≡ Some i)

-- the number of an entry of the list from which it isn't known whether the byte is carried on in
-- the strip; its row may act there, or it isn't in it
abbrev pub IsLooseEnd : {W : Type 0} → Strip → ℕ → Option ℕ → AnalysisState W → Type 0
IsLooseEnd strip k None s = (w : Writing) → slice_get s.work.writing k ≡ Some w → strip.first ≤ w.at → w.at < strip.last → s.path.given.moments.may_act w.row w.at (w.at + 1) ≡ true
IsLooseEnd strip k (Some m) s = (w : Writing) → slice_get s.work.writing k ≡ Some w → (w.at ≡ m) × (s.path.given.moments.next m (m + 1) ≡ true)

-- so it is with the entry before an index, if there is one
abbrev pub IsLooseBefore : {W : Type 0} → Strip → ℕ → Option ℕ → AnalysisState W → Type 0
IsLooseBefore strip zero m s = m ≡ None
IsLooseBefore strip (suc k) m s = IsLooseEnd strip k m s

-- numbers around one, in a strip, over which the byte is carried: they end with the strip, or where
-- it isn't carried, or at one of the two ends
pub record IsPiece {W : Type 0} (a : ℕ) (strip : Strip) (point : ℕ) (piece : Piece) (s : AnalysisState W) : Type 0 where
  pub inside : strip.first ≤ piece.from
  pub low : piece.from ≤ point
  pub high : point ≤ piece.to
  pub within : piece.to ≤ strip.last
  pub spared : IsSparedBetween piece.from piece.to a s
  pub below : (i : ℕ) → i + 1 ≡ piece.from → strip.first ≤ i → IsBlocked (passage a i (i + 1)) s ⊎ IsEnd piece i
  pub above : piece.to < strip.last → IsBlocked (passage a piece.to (piece.to + 1)) s ⊎ IsEnd piece piece.to
  pub ends : (i : ℕ) → IsEnd piece i → s.path.given.moments.next i (i + 1) ≡ true

-- from a moment to a next one, where the list is exact
abbrev pub IsCarriedIf : {W : Type 0} → Passage → AnalysisState W → Type 0
IsCarriedIf x s = AreExact s → IsCarriedOver x s

-- from the numbers of a strip around one to the ones after them, from one before it to another one
pub record IsCarriedBeside {W : Type 0} (a : ℕ) (strip : Strip) (point to : ℕ) (s : AnalysisState W) : Type 0 where
  pub first : ℕ
  pub low : first ≤ point - 1
  pub closed : (i : ℕ) → first ≤ i → i ≤ to → strip.first ≤ i → i < strip.last → IsCarriedIf (passage a i (i + 1)) s

-- from those below one
abbrev pub IsCarriedBelow : {W : Type 0} → ℕ → Strip → ℕ → AnalysisState W → Type 0
IsCarriedBelow a strip n s = (i : ℕ) → strip.first ≤ i → i < n → i < strip.last → IsCarriedIf (passage a i (i + 1)) s

-- from all of them
abbrev pub IsCarriedIn : {W : Type 0} → ℕ → Strip → AnalysisState W → Type 0
IsCarriedIn a strip s = (i : ℕ) → strip.first ≤ i → i < strip.last → IsCarriedIf (passage a i (i + 1)) s

-- from a number to the next ones below another one
abbrev pub AreLinksBelow : {W : Type 0} → ℕ → ℕ → ℕ → AnalysisState W → Type 0
AreLinksBelow a m n s = (w : ℕ) → w < n → IsCarriedIf (passage a m w) s

-- to all of them
abbrev pub AreLinks : {W : Type 0} → ℕ → ℕ → AnalysisState W → Type 0
AreLinks a m s = (w : ℕ) → IsCarriedIf (passage a m w) s

-- from the numbers below one to all next ones
abbrev pub IsCarriedUpTo : {W : Type 0} → ℕ → ℕ → AnalysisState W → Type 0
IsCarriedUpTo a n s = (m w : ℕ) → m < n → IsCarriedIf (passage a m w) s

-- so are the first n tracked bytes
abbrev pub CarriedAlongBelow : {W : Type 0} → ℕ → AnalysisState W → Type 0
CarriedAlongBelow n s = (k a : ℕ) → k < n → slice_get s.known.store.tracked k ≡ Some a → IsCarriedAlong a s

-- so are all
abbrev pub AllCarried : {W : Type 0} → AnalysisState W → Type 0
AllCarried s = (a : ℕ) → IsTracked a s → IsCarriedAlong a s

-- the same is known of the byte at each number from one to another one
abbrev pub IsEven : {W : Type 0} → ℕ → ℕ → ℕ → AnalysisState W → Type 0
IsEven a from to s = (i : ℕ) → from ≤ i → i ≤ to → s.known.store.fact i a ≡ s.known.store.fact from a

-- the number is one of the window, at all of whose numbers the same is known of the byte
pub record IsEvenAround {W : Type 0} (a number : ℕ) (known : NumberWindow) (s : AnalysisState W) : Type 0 where
  pub from : known.from ≤ number
  pub to : number < known.to
  pub inside : known.to ≤ s.path.given.moments.end + 1
  pub even : (i : ℕ) → known.from ≤ i → i < known.to → s.known.store.fact i a ≡ s.known.store.fact number a

-- a row of such a list, with the bytes that it may write, at a lower number
pub record IsWriting {W : Type 0} (n : ℕ) (w : Writing) (s : AnalysisState W) : Type 0 where
  pub low : w.at < n
  pub there : IsSome (s.path.given.legs.row w.row)
  pub time : w.at ≡ s.path.given.moments.before w.row
  pub extent : IsExtent s.path.given.moments w.row (record { from = w.from; to = w.to })
  pub access : IsAccess w.row w.access s

-- these are the rows at numbers below one that may write, in the order of time
pub record AreWritingsBefore {W : Type 0} (n : ℕ) (list : List Writing) (s : AnalysisState W) : Type 0 where
  pub each : (k : ℕ) (w : Writing) → slice_get list k ≡ Some w → IsWriting n w s
  pub order : AreInOrder list
  pub all : (i : ℕ) → IsSome (s.path.given.legs.row i) → s.path.given.moments.before i < n → IsInList list i ⊎ IsSilent i s
