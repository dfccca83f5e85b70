-- What an analysis has that has ended: its log is one of what it answers.
use Rattle.std.proofs.Common.{ℕ, Bool, sym, ap, subst}
use Rattle.rept_reason.specs.Facts.{Knowledge}
use Rattle.rept_report.specs.Setting.{HasLaws}
use Rattle.rept_report.specs.Conflicts.{IsQuiet}
use Rattle.rept_report.specs.Implied.{with_implied, IsClosed}
use Rattle.rept_facts.specs.State.{AnalysisState, along}
use Rattle.rept_facts.specs.Kept.{is_among, answers, IsFinished, IsKept}
use Rattle.rept_analysis.specs.Logged.{IsLogOf}
use Rattle.rept_facts.proofs.Learning.{trace_known}
use Rattle.rept_facts.proofs.Reported.{settled_closed}

pub log_of : {W : Type 0} (s : AnalysisState W) → HasLaws (along s.path) → IsKept s → IsFinished s → IsLogOf (along s.path) (answers s) s.known.log
log_of s laws kept finished =
    let tracked : ℕ → Bool = is_among s.known.store.tracked in
    let same = sym (trace_known s kept) in
    record {
      entries = kept.traced.entries;
      tracked = tracked;
      ended = record {
        trace = kept.traced.trace;
        quiet = subst (IsQuiet (along s.path)) same finished.settled.quiet;
        closed = subst (λ (K : Knowledge). IsClosed (along s.path) K tracked) same (settled_closed s laws kept finished.settled);
      };
      knows = λ p c. ap (λ (K : Knowledge). with_implied (along s.path) K tracked p c) (trace_known s kept);
      logged = kept.traced.logged;
    }
