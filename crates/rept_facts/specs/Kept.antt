-- What always holds of an analysis. This project's own.
use Rattle.std.specs.Prelude.{◌≡◌, ℕ, ◌+◌, ◌<◌, ◌≤◌, ◌==◌, Bool, true, false, ◌||◌, List, [], ◌∷◌, length, Option, Some, Contains, slice_get}
use Rattle.rept_reason.specs.declared.fact.Cell.{Cell}
use Rattle.rept_reason.specs.declared.fact.Cell.TheVariants.{Byte}
use Rattle.rept_reason.specs.Facts.{Knowledge, told, register_known}
use Rattle.rept_report.specs.declared.conflict.ConflictKind.{ConflictKind}
use Rattle.rept_report.specs.Conflicts.{IsQuiet}
use Rattle.rept_report.specs.Closure.{ClosureHas, IsReport}
use Rattle.rept_report.specs.Log.{oldest, Entry, facts_of, logged_of, IsTrace, OnceEach}
use Rattle.rept_report.specs.Implied.{with_implied}
use Rattle.rept_isa.specs.declared.row.StepRow.{StepRow}
use Rattle.rept_reason.specs.declared.view.inferred.When.{When}
use Rattle.rept_reason.specs.declared.view.inferred.Conclusion.{Conclusion}
use Rattle.rept_reason.specs.View.Seen.{Seen, IsLawful, seen_cell}
use Rattle.rept_log.specs.Around.{around}
use Rattle.rept_writing.specs.declared.passes.pass.Pass.{Pass}
use Rattle.rept_writing.specs.declared.passes.pass.Pass.TheVariants.{Never, With, Cut}
use Rattle.rept_facts.specs.Cells.{cells_known}
use Rattle.rept_facts.specs.Room.{HasRoom}
use Rattle.rept_facts.specs.State.{AnalysisState, IsRoomy, all_known, along}
use Rattle.rept_facts.specs.Inferring.{IsTracked, IsSettled, Knows, KnowsInferred}

-- whether an address is one of these
abbrev pub is_among : List ℕ → ℕ → Bool
is_among [] a = false
is_among (x ∷ xs) a = x == a || is_among xs a

-- what is answered of registers: x0 is 0, and of the others what the oldest facts of the log tell
abbrev pub register_answer : {W : Type 0} → AnalysisState W → ℕ → ℕ → Option ℕ
register_answer s p r = register_known (told (oldest s.shown s.known.log)) p r

-- all that an analysis says that has ended: what it knows, and the bytes of the dump that no row
-- may write
abbrev pub answers : {W : Type 0} → AnalysisState W → Knowledge
answers s = with_implied (along s.path) (all_known s) (is_among s.known.store.tracked)

-- how the facts were learnt
pub record HasTrace {W : Type 0} (s : AnalysisState W) : Type 0 where
  pub entries : List Entry
  pub trace : IsTrace (along s.path) entries
  pub logged : logged_of entries ≡ s.known.log
  pub agree : (p : ℕ) (c : Cell) → told (facts_of entries) p c ≡ all_known s p c

pub record IsFinished {W : Type 0} (s : AnalysisState W) : Type 0 where
  pub settled : IsSettled s
  pub report : IsReport (along s.path) (answers s)
  pub all : s.shown ≡ length s.known.log

-- The row's rules were applied from something that was seen around the row, in which so many of its
-- cells were known: what they let one conclude from it is known, and so is all that was seen.
pub record IsInferredWith {W : Type 0} (row : StepRow) (i k : ℕ) (s : AnalysisState W) : Type 0 where
  pub view : Seen
  pub lawful : IsLawful view
  pub count : cells_known s.path.rules row view ≡ k
  pub learnt : (d : Conclusion) → Contains (s.path.rules.infer row view) d → KnowsInferred i d s
  pub less : (w : When) (c : Cell) (v : ℕ) → seen_cell view w c ≡ Some v → seen_cell (around s.path.given.moments s.known i) w c ≡ Some v

-- what is kept of how far they were applied is so
abbrev pub IsPass : {W : Type 0} → StepRow → ℕ → Pass → AnalysisState W → Type 0
IsPass row i Never s = Unit {0}
IsPass row i (With k) s = IsInferredWith row i k s
IsPass row i Cut s = Unit {0}

pub record IsKept {W : Type 0} (s : AnalysisState W) : Type 0 where
  pub few : s.path.given.legs.count ≤ 66560
  pub registers : (p r v : ℕ) → s.path.given.last p r ≡ Some v → r < 32
  pub last_is : s.known.last ≡ s.path.given.legs.count
  pub sized : s.spans.points ≡ s.path.given.legs.count + 1
  pub filled : s.filled ≤ length s.known.log
  pub once : OnceEach s.known.log
  pub traced : HasTrace s
  pub listed : (p a v : ℕ) → Knows p (Byte a) v s → IsTracked a s
  pub shown : s.shown ≤ length s.known.log
  pub calm : (u : ℕ) → u < s.shown → IsQuiet (along s.path) (told (oldest u s.known.log))
  pub stopped : (kind : ConflictKind) → s.conflict ≡ Some kind → ClosureHas (along s.path) kind
  pub finished : s.complete ≡ true → IsFinished s
  pub room : s.path.given.moments.end < s.work.room
  pub rows : length s.work.inferred ≡ s.path.given.legs.count
  pub inferred : (i : ℕ) (row : StepRow) (pass : Pass) → s.path.given.legs.row i ≡ Some row → slice_get s.work.inferred i ≡ Some pass → IsPass row i pass s
  pub roomy : IsRoomy s → HasRoom s.path s.known
