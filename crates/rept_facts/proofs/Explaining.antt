-- Each fact that an analysis answers at the end has a reason, and bytes are found in the prefixes
-- of its log.
use Rattle.std.proofs.Common.{◌≡◌, ℕ, ◌≤◌, Bool, List, Some, sym, ap, subst}
use Rattle.rept_reason.specs.declared.fact.Fact.{Fact}
use Rattle.rept_reason.specs.declared.fact.Cell.TheVariants.{Byte}
use Rattle.rept_reason.specs.Facts.{Knowledge, told}
use Rattle.rept_report.specs.Setting.{HasLaws}
use Rattle.rept_report.specs.Conflicts.{IsQuiet}
use Rattle.rept_report.specs.Log.{oldest}
use Rattle.rept_report.specs.Reasons.{StandsIn, IsStanding}
use Rattle.rept_report.specs.Implied.{with_implied, IsClosed, HasEnded, known_at_end}
use Rattle.rept_report.specs.Why.{fact_of}
use Rattle.rept_report.specs.Reasons.StandsIn.{listed}
use Rattle.rept_report.specs.Search.{standing}
use Rattle.rept_report.proofs.Told.{told_in}
use Rattle.rept_report.proofs.Standing.{stands_up, stands_single, front_early, front_standing}
use Rattle.rept_log.specs.Fronts.{FrontView, stands}
use Rattle.rept_facts.specs.State.{AnalysisState, along}
use Rattle.rept_facts.specs.Kept.{is_among, answers, IsFinished, IsKept}
use Rattle.rept_facts.proofs.Learning.{trace_known}
use Rattle.rept_facts.proofs.Reported.{settled_closed}

module _ {W : Type 0} (s : AnalysisState W) (laws : HasLaws (along s.path)) (kept : IsKept s) (finished : IsFinished s) where
  abbrev tracked : ℕ → Bool
  tracked = is_among s.known.store.tracked

  -- an analysis that has ended, as the laws of reports speak of it
  pub has_ended : HasEnded (along s.path) kept.traced.entries tracked
  has_ended =
      let same = sym (trace_known s kept) in
      record {
        trace = kept.traced.trace;
        quiet = subst (IsQuiet (along s.path)) same finished.settled.quiet;
        closed = subst (λ (K : Knowledge). IsClosed (along s.path) K tracked) same (settled_closed s laws kept finished.settled);
      }

  -- what is answered, as they do
  pub ends_with : known_at_end (along s.path) kept.traced.entries tracked ≡ answers s
  ends_with = ap (λ (K : Knowledge). with_implied (along s.path) K tracked) (trace_known s kept)

  -- the prefix of the log, as the log's look-ups speak of it
  abbrev pub front_at : ℕ → FrontView W
  front_at t = record { sets = s.path.sets; moves = s.path.moves; rules = s.path.rules; given = s.path.given; facts = oldest t s.known.log }

  -- what the log's look-up finds in a prefix is what stands there
  pub front_finds : (t : ℕ) → IsStanding (along s.path) (oldest t s.known.log) (stands (front_at t))
  front_finds t = subst (λ (fs : List Fact). IsStanding (along s.path) (oldest t fs) (standing (along s.path) (oldest t fs))) kept.traced.logged (front_standing (along s.path) laws kept.traced.entries has_ended.trace has_ended.quiet tracked has_ended.closed t)

  -- one value of a byte stands in a prefix at a moment
  pub one_stands : (t p a v w : ℕ) → StandsIn (along s.path) (oldest t s.known.log) (fact_of p (Byte a) v) → StandsIn (along s.path) (oldest t s.known.log) (fact_of p (Byte a) w) → v ≡ w
  one_stands t p a v w h k =
      let log = sym kept.traced.logged in
      stands_single (along s.path) laws kept.traced.entries has_ended.trace has_ended.quiet tracked has_ended.closed t t p v w (Byte a) (subst (λ (fs : List Fact). StandsIn (along s.path) (oldest t fs) (fact_of p (Byte a) v)) log h) (subst (λ (fs : List Fact). StandsIn (along s.path) (oldest t fs) (fact_of p (Byte a) w)) log k)

  -- and the facts on bytes are at moments
  pub bytes_early : (t m a v : ℕ) → told (oldest t s.known.log) m (Byte a) ≡ Some v → m ≤ s.path.given.moments.end
  bytes_early t m a v e = front_early (along s.path) laws kept.traced.entries has_ended.trace has_ended.quiet t (fact_of m (Byte a) v) (subst (λ (fs : List Fact). StandsIn (along s.path) (oldest t fs) (fact_of m (Byte a) v)) (sym kept.traced.logged) (listed (fact_of m (Byte a) v) (told_in (oldest t s.known.log) m (Byte a) v e)))

  -- and then in each longer prefix
  pub front_more : (t u : ℕ) (f : Fact) → t ≤ u → StandsIn (along s.path) (oldest t s.known.log) f → StandsIn (along s.path) (oldest u s.known.log) f
  front_more t u f le h =
      let log = kept.traced.logged in
      subst (λ (fs : List Fact). StandsIn (along s.path) (oldest u fs) f) log (stands_up (along s.path) laws kept.traced.entries has_ended.trace has_ended.quiet t u f le (subst (λ (fs : List Fact). StandsIn (along s.path) (oldest t fs) f) (sym log) h))
