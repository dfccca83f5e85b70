-- What `bits` tells of a run, `infer` tells of the run that it analyses for it.
use Rattle.std.proofs.Common.{◌≡◌, ℕ, ◌-◌, ◌≤◌, Bool, true, false, cond, List, Option, None, Some, MatchOption, refl, sym, ap, subst, ◌∙◌, arith}
use Rattle.std.specs.Prelude.{MatchBool, option_map}
use Rattle.std.proofs.lemmas.Bool.{false≢true}
use Rattle.rept_ports.specs.Shelves.{Files}
use Rattle.rept_known.specs.Both.{both_sets}
use Rattle.rept_known.specs.BothMoves.{both_covers}
use Rattle.rept_known.specs.Laws.BothLaws.{both_lawful}
use Rattle.rept_known.specs.declared.both.Both.{Both}
use Rattle.rept_amo.specs.Laws.AtomicLaws.{atomic_lawful}
use Rattle.rept_partial.specs.Sets.{Sets}
use Rattle.rept_reason.specs.declared.fact.Cell.TheVariants.{Register, Byte}
use Rattle.rept_span.specs.Ranges.{range}
use Rattle.rept_span.proofs.RangeLaws.{HasIn}
use Rattle.rept_steps.specs.Course.{IsSoundCourse}
use Rattle.rept_steps.specs.Runs.{course_of}
use Rattle.rept_steps.specs.declared.run.Run.{Run}
use Rattle.rept_streams.specs.Runs.Ended.{IsEndedRun, with_untraced}
use Rattle.rept_streams.specs.Runs.Kind.{is_several}
use Rattle.rept_streams.specs.Slices.Ending.{begun, ends_alone, last_time}
use Rattle.rept_streams.specs.Slices.Skipping.{full_from}
use Rattle.rept_trace.specs.declared.packet.Packet.{Packet}
use Rattle.rept_report.specs.Setting.{way_of}
use Rattle.rept_report.proofs.ViewLaws.{known_more}
use Rattle.rept_findings.specs.Shown.{Shown}
use Rattle.rept_found.specs.Crash.{Crash, ending_of}
use Rattle.rept_found.specs.Inferred.Narrowed.{Beyond, TellsAll, shown_beyond}
use Rattle.rept_found.specs.Telling.{shown_on}
use Rattle.rept_found.proofs.InferredLemmas.Kept.{knows_beyond}
use Rattle.rept_opening.specs.declared.words.request.Domain.TheVariants as domain
use Rattle.rept_opening.specs.Domains.{means_of}
use Rattle.rept_opening.specs.Opened.{CrashRun, IsAccountOf, IsBeyond, RunAccount, crash_at, crash_run, route_of, run_setting, told_in}
use Rattle.rept_opening.specs.Places.{same_place}
use Rattle.rept_opening.specs.TraceRun.{ends_early}
use Rattle.rept_opening.proofs.EarlierLemmas.{KnowsNoLess, knows_ended}
use Rattle.rept_opening.proofs.Notes.{some_said}
use Rattle.rept_opening.proofs.RunLemmas.{IsWhole, whole_run}
use Rattle.rept_app.specs.Claims.{InferKnowsMore, InferTellsMore, TellsNoLess}

-- by `bits` nothing is inferred beyond the report
nothing_beyond : (x : CrashRun Both) → x.means.beyond ≡ false → (b : Option Beyond) → IsBeyond x b → b ≡ None
nothing_beyond x e None h = refl
nothing_beyond x e (Some b) h = absurd (false≢true (sym e ∙ h.asked))

left_in : (o : Sets Both) (x : Option Both) (v : ℕ) → MatchOption x ⊥ (λ set. o.has set v ≡ true) → HasIn o x v
left_in o None v h = h
left_in o (Some set) v h = h

in_left : (o : Sets Both) (x : Option Both) (v : ℕ) → HasIn o x v → MatchOption x ⊥ (λ set. o.has set v ≡ true)
in_left o None v h = h
in_left o (Some set) v h = h

-- the untraced prefix ends no later
less_or_same : (b : Bool) (end : ℕ) → cond b (end - 1) end ≤ end
less_or_same true end = omega arith
less_or_same false end = omega arith

ends_sooner : (from : ℕ) (lists : List (List Packet)) (end : ℕ) → last_time from lists end ≤ end
ends_sooner from lists end = less_or_same (ends_alone (full_from (begun from lists)) end (begun from lists)) end

same_prefix : (o : Option ℕ) → option_map (λ d. d) o ≡ o
same_prefix None = refl
same_prefix (Some d) = refl

module _ (crash : Crash) (told : Run) (sound : IsSoundCourse (course_of told)) (bits : RunAccount) where
  abbrev by_bits : CrashRun Both
  by_bits = crash_run (means_of domain.KnownBits) crash told

  abbrev by_infer : Run → CrashRun Both
  by_infer run = crash_run (means_of domain.Inferred) crash run

  module _ (first : IsAccountOf by_bits bits) (f : ℕ → ℕ) (less : (d : ℕ) → f d ≤ d) (infer : RunAccount) where
    abbrev ended : Run
    ended = with_untraced (option_map f told.untraced) told

    abbrev old : Shown
    old = shown_on (route_of by_bits) bits.known bits.scene

    abbrev new : Shown
    new = shown_on (route_of (by_infer ended)) infer.known infer.scene

    module _ (second : IsAccountOf (by_infer ended) infer) where
      knows : KnowsNoLess (means_of domain.KnownBits) (ending_of crash) (course_of told) (course_of ended) bits.known infer.known
      knows = knows_ended (means_of domain.KnownBits) both_lawful both_covers atomic_lawful told.threads told.untraced f less sound (ending_of crash) bits.known infer.known infer.log first.report second.report second.log

      all : TellsAll new (told_in (by_infer ended) infer).shown
      all = knows_beyond infer.beyond new

      tells_old : TellsNoLess (course_of told) (course_of ended) old (told_in (by_infer ended) infer).shown
      tells_old = record {
        registers = λ p r v e. all.registers p r v (known_more bits.known infer.known (λ q s w h. knows.facts q (Register s) w h) p r v e);
        bytes = λ m a v e. all.bytes (same_place (course_of told) (course_of ended) m) a v (knows.facts m (Byte a) v e);
        ranges = λ p r few in_file.
            let here = knows.ranges p r (omega (arith, few)) in_file in
            let there = all.ranges p r in
            (let x = here.0 in let y = there.0 in omega (arith, x, y), let x = here.1 in let y = there.1 in omega (arith, x, y));
      }

      tells_ended : InferTellsMore by_bits (by_infer ended) bits infer
      tells_ended = record {
        shown = subst (λ (b : Option Beyond). TellsNoLess (course_of told) (course_of ended) (shown_beyond b old) (told_in (by_infer ended) infer).shown) (sym (nothing_beyond by_bits refl bits.beyond first.beyond)) tells_old;
        sets = λ p r v h.
            in_left both_sets (range (way_of (run_setting by_bits)) bits.known p r) v
            (knows.sets p r v (left_in both_sets (range (way_of (run_setting (by_infer ended))) infer.known p r) v h));
      }

  tells_of : IsAccountOf by_bits bits → (f : ℕ → ℕ) → ((d : ℕ) → f d ≤ d) → (run : Run) → run ≡ with_untraced (option_map f told.untraced) told → (infer : RunAccount) → IsAccountOf (by_infer run) infer → InferTellsMore by_bits (by_infer run) bits infer
  tells_of first f less run same =
      subst (λ (x : Run). (infer : RunAccount) → IsAccountOf (by_infer x) infer → InferTellsMore by_bits (by_infer x) bits infer) (sym same) (λ infer second. tells_ended first f less infer second)

  tells_by : IsAccountOf by_bits bits → (early : Bool) (trace : List ℕ) (from : ℕ) (run : Run) → MatchBool early (IsEndedRun trace from told run) (run ≡ told) → (infer : RunAccount) → IsAccountOf (by_infer run) infer → InferTellsMore by_bits (by_infer run) bits infer
  tells_by first true trace from run (lists, holds, same) = tells_of first (last_time from lists) (ends_sooner from lists) run same
  tells_by first false trace from run same = tells_of first (λ d. d) (λ d. omega arith) run (same ∙ ap (λ (o : Option ℕ). with_untraced o told) (sym (same_prefix told.untraced)))

pub infer_knows : (words : List (List ℕ)) (files : Files) → InferKnowsMore words files
infer_knows words files o told bits infer opens is by first second =
    let whole : IsWhole (crash_at o) told = whole_run (crash_at o) o.bytes.trace o.bytes.manner.from told (some_said (is_several o.bytes.trace) o.bytes.core o.notes opens.read.noted) is in
    tells_by (crash_at o) told whole.sound bits first (ends_early o.bytes.manner.domain o.bytes.trace) o.bytes.trace o.bytes.manner.from o.run by infer second
