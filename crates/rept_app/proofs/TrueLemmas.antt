-- What is told of the report of a run is true, and known bits tell more of it.
use Rattle.std.proofs.Common.{◌≡◌, ℕ, Bool, List, refl, sym, subst, ◌∙◌, arith}
use mathlib.Core.Path.{fun_ext}
use Rattle.rept_ports.specs.Shelves.{Files}
use Rattle.rept_steps.specs.Course.{Course}
use Rattle.rept_steps.specs.Runs.{course_of}
use Rattle.rept_reason.specs.declared.fact.Cell.TheVariants.{Register}
use Rattle.rept_reason.specs.Facts.{Knowledge, told}
use Rattle.rept_report.specs.Beside.{by_other_sets}
use Rattle.rept_report.specs.Closure.{IsReport}
use Rattle.rept_report.specs.Implied.{HasEnded, known_at_end}
use Rattle.rept_report.specs.Knowing.{Extends}
use Rattle.rept_report.specs.Conclusions.{HasWords}
use Rattle.rept_report.specs.Conflicts.{IsQuiet}
use Rattle.rept_report.specs.Log.{Entry, facts_of}
use Rattle.rept_report.specs.Views.{bounds}
use Rattle.rept_report.proofs.Registers.{quiet_same}
use Rattle.rept_report.proofs.Traces.{trace_words, words_of}
use Rattle.rept_report.proofs.ViewLaws.{LiesIn}
use Rattle.rept_report.specs.Setting.{Setting, Uses, way_of}
use Rattle.rept_partial.specs.Ranges.{range_lawful, range_sets}
use Rattle.rept_span.specs.Finer.{kind, IsFiner}
use Rattle.rept_span.specs.Tables.{range_moves}
use Rattle.rept_span.specs.Laws.RangeMoves.{range_covers}
use Rattle.rept_span.specs.Ranges.{range}
use Rattle.rept_known.specs.Both.{both_sets}
use Rattle.rept_known.specs.BothMoves.{both_moves}
use Rattle.rept_known.specs.declared.both.Both.{Both}
use Rattle.rept_known.specs.Laws.BothLaws.{both_lawful}
use Rattle.rept_amo.specs.Atomic.{atomic_rules}
use Rattle.rept_found.specs.Crash.{Means, ending_of, setting}
use Rattle.rept_found.proofs.Trips.{uses_trip}
use Rattle.rept_opening.specs.declared.words.request.Domain.TheVariants as domain
use Rattle.rept_app.proofs.Narrower.{no_wider}
use Rattle.rept_app.specs.Claims.{BitsKnowMore, ReportHolds}
use Rattle.rept_opening.specs.Domains.{means_of}
use Rattle.rept_opening.specs.Opened.{crash_at, domain_at}
use Rattle.rept_opening.proofs.TrueLemmas.{ReportsAreTrue, opened_whole}

-- so what is told of that of the files is true
pub reports_hold : (words : List (List ℕ)) (files : Files) → ReportsAreTrue → ReportHolds words files
reports_hold words files true_of o known opens report = true_of (domain_at o) (crash_at o) o.run known (opened_whole o opens.read opens.told) report

-- what is known by ranges is known by ranges with known bits, of one run and crash
abbrev pub FinerLaw : Type 0
FinerLaw =
    (S : Setting Both) (es : List Entry) (tracked : ℕ → Bool) (K : Knowledge) → Uses S both_sets both_moves atomic_rules → IsFiner (kind both_sets both_moves) (kind range_sets range_moves) → HasEnded S es tracked
    → IsReport (by_other_sets S range_sets range_moves) K → Extends K (known_at_end S es tracked)

pub bits_know : (words : List (List ℕ)) (files : Files) → FinerLaw → IsFiner (kind both_sets both_moves) (kind range_sets range_moves) → BitsKnowMore words files
bits_know words files law finer o by_ranges by_bits opens r b =
    let m : Means Both = means_of domain.KnownBits in
    let C : Course = course_of o.run in
    let S = setting m (crash_at o) C in
    let whole = opened_whole o opens.read opens.told in
    let es = b.log.entries in
    let L = known_at_end S es b.log.tracked in
    let more : Extends by_ranges.known L = law S es b.log.tracked by_ranges.known (uses_trip m C (ending_of (crash_at o)) whole.sound) finer b.log.ended r.report in
    let same : L ≡ by_bits.known = fun_ext (λ p. fun_ext (λ c. b.log.knows p c)) in
    let words_in : HasWords L = λ p r v e. words_of (facts_of es) (trace_words S es b.log.ended.trace) p r v e in
    let quiet : IsQuiet S L = quiet_same S (told (facts_of es)) L (λ p r. refl) b.log.ended.quiet in
    record {
      facts = λ p c v e. sym (b.log.knows p c) ∙ more p c v e;
      ranges = λ p r few in_file.
          subst (λ (K : Knowledge). LiesIn (bounds both_sets (range (way_of S) K p r)) (bounds range_sets (range (way_of (by_other_sets S range_sets range_moves)) by_ranges.known p r))) same
          (no_wider S range_sets range_moves both_lawful range_lawful range_covers finer by_ranges.known L words_in (λ q s v e. more q (Register s) v e) p r (quiet.full p r (omega (arith, few)) in_file));
    }
