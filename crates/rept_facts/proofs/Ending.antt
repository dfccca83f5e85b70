-- Steps on the way to an end.
use Rattle.std.specs.Prelude.{⊤}
use Rattle.std.proofs.Common.{◌≡◌, ◌+◌, ◌⊎◌, ℕ, ◌≤◌, List, length, Some, Result, Err, inl, inr, refl, sym, subst, ◌∙◌, arith}
use Rattle.std.proofs.lemmas.Bool.{cases_lt}
use Rattle.rept_reason.specs.declared.fact.Fact.{Fact}
use Rattle.rept_reason.specs.declared.fact.Cell.TheVariants.{Register}
use Rattle.rept_reason.specs.Facts.{told, register_known}
use Rattle.rept_report.specs.declared.conflict.ConflictKind.{ConflictKind}
use Rattle.rept_report.specs.Conflicts.{IsQuiet, Shows}
use Rattle.rept_report.specs.Closure.{ClosureHas}
use Rattle.rept_report.specs.Log.{oldest, OnceEach}
use Rattle.rept_report.proofs.Places.{oldest_all, oldest_more}
use Rattle.rept_report.proofs.ViewLaws.{known_more}
use Rattle.rept_report.proofs.Registers.{quiet_same}
use Rattle.rept_log.specs.Known.{Known}
use Rattle.rept_facts.specs.State.{AnalysisState, all_known, Subject, along}
use Rattle.rept_facts.specs.Inferring.{Grows, SameFacts, Continues, IsFitted, IsInferredAll, IsSettled, IsUncut, AreWritings, AreExact}
use Rattle.rept_facts.specs.Work.{left}
use Rattle.rept_facts.specs.Kept.{IsKept}
use Rattle.rept_facts.specs.Refined.{KeepsAnswers, KeepsKnown, IsClashOf, ShowsTo, IsEnded, IsStopped, IsPaused, IsHalted}
use Rattle.rept_facts.specs.declared.stop.Stop.{Stop}
use Rattle.rept_facts.specs.declared.stop.Stop.TheVariants.{Conflict, OutOfMemory}
use Rattle.rept_facts.specs.Measure.{measure}

pub same_stop : {x : Stop} → ◌≡◌ {A = Result ⊤ Stop} (Err x) (Err OutOfMemory) → x ≡ OutOfMemory
same_stop e = cc

pub Same_itself : {W : Type 0} (a : AnalysisState W) → SameFacts a a
Same_itself a = record { path = refl; known = refl; shown = refl; complete = refl; conflict = refl; infers = refl; inferred = refl }

pub Same_trans : {W : Type 0} (a b c : AnalysisState W) → SameFacts a b → SameFacts b c → SameFacts a c
Same_trans a b c g h = record { path = h.path ∙ g.path; known = h.known ∙ g.known; shown = h.shown ∙ g.shown; complete = h.complete ∙ g.complete; conflict = h.conflict ∙ g.conflict; infers = h.infers ∙ g.infers; inferred = h.inferred ∙ g.inferred }

-- what facts show depends on the path and the facts alone
module _ {W : Type 0} (s t : AnalysisState W) (path : t.path ≡ s.path) (known : t.known ≡ s.known) where
  clash_like : (kind : ConflictKind) → IsClashOf s kind → IsClashOf t kind
  clash_like kind c = record {
    fact = c.fact;
    known = c.known;
    clash = record { is_known = rw known c.clash.is_known; differs = c.clash.differs; follows = rw (path, known) c.clash.follows };
    named = c.named;
  }

  pub shows_like : (n : ℕ) (kind : ConflictKind) → ShowsTo s n kind → ShowsTo t n kind
  shows_like n kind h = record { quiet = λ u below. rw (path, known) (h.quiet u below); shows = of h.shows }
    where
      of : Shows (along s.path) (told (oldest n s.known.log)) kind ⊎ ((n ≡ length s.known.log) × IsClashOf s kind) → Shows (along t.path) (told (oldest n t.known.log)) kind ⊎ ((n ≡ length t.known.log) × IsClashOf t kind)
      of (inl e) = inl (rw (path, known) e)
      of (inr (all, c)) = inr (rw known all, clash_like kind c)

  pub known_like : KeepsKnown s t
  known_like p c v e = rw known e

pub known_after : {W : Type 0} (a b c : AnalysisState W) → KeepsKnown a b → KeepsKnown b c → KeepsKnown a c
known_after a b c g h p x v e = h p x v (g p x v e)

module _ {W : Type 0} (a b : AnalysisState W) (same : SameFacts a b) where
  -- what is so of the path and the facts stays so
  pub forth : (P : Subject W → Known → Type 0) → P a.path a.known → P b.path b.known
  forth P h = rw (same.path, same.known) h

  pub back_to : (P : Subject W → Known → Type 0) → P b.path b.known → P a.path a.known
  back_to P h = rw (same.path, same.known) at h

  pub measure_same : measure b ≡ measure a
  measure_same = rw (same.path, same.known, same.inferred) refl

  pub stopped_from : (c : AnalysisState W) (kind : ConflictKind) → IsStopped b c kind → IsStopped a c kind
  stopped_from c kind h = record {
    path = h.path ∙ same.path;
    recorded = h.recorded;
    has = subst (λ (P : Subject W). ClosureHas (along P) kind) same.path h.has;
    kept = λ p r v e. h.kept p r v (rw (same.shown, same.known) e);
    more = λ p x v e. h.more p x v (rw same.known e);
    shown = λ calm. h.shown (same.conflict ∙ calm);
  }

  pub paused_from : (c : AnalysisState W) → IsPaused b c → IsPaused a c
  paused_from c h = record {
    path = h.path ∙ same.path;
    complete = h.complete ∙ same.complete;
    conflict = h.conflict ∙ same.conflict;
    kept = λ p r v e. h.kept p r v (rw (same.shown, same.known) e);
    more = λ p x v e. h.more p x v (rw same.known e);
    whole = h.whole;
  }

  pub same_continues : Continues a b
  same_continues = record { path = same.path; shown = same.shown; complete = same.complete; conflict = same.conflict; answers = rw (same.shown, same.known) refl }

pub grows_continues : {W : Type 0} (a b : AnalysisState W) → Grows a b → Continues a b
grows_continues a b g = record { path = g.path; shown = g.shown; complete = g.complete; conflict = g.conflict; answers = g.answers }

pub Continues_itself : {W : Type 0} (a : AnalysisState W) → Continues a a
Continues_itself a = record { path = refl; shown = refl; complete = refl; conflict = refl; answers = refl }

pub Continues_trans : {W : Type 0} (a b c : AnalysisState W) → Continues a b → Continues b c → Continues a c
Continues_trans a b c g h = record { path = h.path ∙ g.path; shown = h.shown ∙ g.shown; complete = h.complete ∙ g.complete; conflict = h.conflict ∙ g.conflict; answers = h.answers ∙ g.answers }

pub continues_answers : {W : Type 0} (a b : AnalysisState W) → Continues a b → KeepsAnswers a b
continues_answers a b g p r v e = rw g.answers e

-- more places answer no less
pub known_later : (fs : List Fact) → OnceEach fs → (t u : ℕ) → t ≤ u → (p r v : ℕ) → register_known (told (oldest t fs)) p r ≡ Some v → register_known (told (oldest u fs)) p r ≡ Some v
known_later fs once t u le p r v e = known_more (told (oldest t fs)) (told (oldest u fs)) (λ q s w x. oldest_more t u fs once le q (Register s) w x) p r v e

-- a loud place isn't below those that are answered
pub least_later : {W : Type 0} (s : AnalysisState W) → IsKept s → (t : ℕ) → (IsQuiet (along s.path) (told (oldest t s.known.log)) → ⊥) → s.shown ≤ t
least_later s kept t loud =
    elim (cases_lt t s.shown) [
      | inl lt ↦ absurd (loud (kept.calm t lt))
      | inr le ↦ le
    ]

-- what all facts tell of registers
pub quiet_whole : {W : Type 0} (s : AnalysisState W) (n : ℕ) → n ≡ length s.known.log → IsQuiet (along s.path) (told (oldest n s.known.log)) → IsQuiet (along s.path) (all_known s)
quiet_whole s n all quiet =
    let whole : oldest n s.known.log ≡ s.known.log = oldest_all n s.known.log (omega (arith, all)) in
    quiet_same (along s.path) (told s.known.log) (all_known s) (λ p r. refl) (subst (λ (fs : List Fact). IsQuiet (along s.path) (told fs)) whole quiet)

pub quiet_part : {W : Type 0} (s : AnalysisState W) (n : ℕ) → n ≡ length s.known.log → IsQuiet (along s.path) (told s.known.log) → IsQuiet (along s.path) (told (oldest n s.known.log))
quiet_part s n all quiet =
    let whole : oldest n s.known.log ≡ s.known.log = oldest_all n s.known.log (omega (arith, all)) in
    subst (λ (fs : List Fact). IsQuiet (along s.path) (told fs)) (sym whole) quiet

pub settled_by : {W : Type 0} (s : AnalysisState W) (n : ℕ) → n ≡ length s.known.log → IsQuiet (along s.path) (told (oldest n s.known.log)) → IsFitted s → s.filled ≡ n → IsInferredAll s → AreWritings s → AreExact s → IsSettled s
settled_by s n all quiet fitted filled inferred writings exact = record { quiet = quiet_whole s n all quiet; fitted = fitted; filled = filled ∙ all; inferred = inferred; writings = writings; exact = exact }

module _ {W : Type 0} (a b c : AnalysisState W) where
  pub ended_after : Continues a b → KeepsKnown a b → IsEnded b c → IsEnded a c
  ended_after g more h = record { path = h.path ∙ g.path; complete = h.complete; conflict = h.conflict; finished = h.finished; kept = λ p r v e. h.kept p r v (continues_answers a b g p r v e); more = known_after a b c more h.more }

  pub stopped_after : (kind : ConflictKind) → Continues a b → KeepsKnown a b → IsStopped b c kind → IsStopped a c kind
  stopped_after kind g more h = record {
    path = h.path ∙ g.path;
    recorded = h.recorded;
    has = subst (λ (P : Subject W). ClosureHas (along P) kind) g.path h.has;
    kept = λ p r v e. h.kept p r v (continues_answers a b g p r v e);
    more = known_after a b c more h.more;
    shown = λ calm. h.shown (g.conflict ∙ calm);
  }

  pub halted_after : (stop : Stop) → Continues a b → KeepsKnown a b → IsHalted b c stop → IsHalted a c stop
  halted_after (Conflict kind) g more h = stopped_after kind g more h
  halted_after OutOfMemory g more h = record { path = h.path ∙ g.path; complete = h.complete ∙ g.complete; conflict = h.conflict ∙ g.conflict; kept = λ p r v e. h.kept p r v (continues_answers a b g p r v e); more = known_after a b c more h.more; whole = h.whole }

-- how often rules can be applied stays so where only sets change
pub spent_like : {W : Type 0} (a b s : AnalysisState W) → SameFacts a b → a.work.infers + left a.work.inferred ≤ s.work.infers + left s.work.inferred → b.work.infers ≤ s.work.infers + left s.work.inferred
spent_like a b s same h = let infers = same.infers in omega (arith, h, infers)

pub spent_after : {W : Type 0} (a b d s : AnalysisState W) → SameFacts a b → Grows b d → a.work.infers + left a.work.inferred ≤ s.work.infers + left s.work.inferred → d.work.infers + left d.work.inferred ≤ s.work.infers + left s.work.inferred
spent_after a b d s same grows h =
    let spent = grows.spent in
    let infers = same.infers in
    let inferred : left b.work.inferred ≡ left a.work.inferred = rw same.inferred refl in
    omega (arith, h, spent, infers, inferred)

pub uncut_like : {W : Type 0} (a b : AnalysisState W) → SameFacts a b → IsUncut a → IsUncut b
uncut_like a b same u i at = u i (rw same.inferred at at)
