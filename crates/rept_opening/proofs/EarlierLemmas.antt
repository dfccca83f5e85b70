-- What is known of a run is known of the run of the same steps whose untraced prefix ends sooner.
use Rattle.std.proofs.Common.{◌≡◌, ℕ, ◌≤◌, ◌<◌, ◌==◌, if◌then◌else◌, Bool, true, false, List, [], ◌∷◌, length, Option, None, Some, inl, inr, refl, sym, ap, subst, ◌∙◌, arith}
use Rattle.std.specs.Prelude.{option_map}
use mathlib.Core.Path.{fun_ext}
use Rattle.rept_isa.specs.declared.row.StepRow.{StepRow}
use Rattle.rept_partial.specs.Sets.{AreLawful as AreLawfulSets}
use Rattle.rept_reason.specs.declared.fact.Fact.{Fact}
use Rattle.rept_reason.specs.declared.fact.Cell.{Cell}
use Rattle.rept_reason.specs.declared.fact.Cell.TheVariants.{Register, Byte}
use Rattle.rept_reason.specs.Facts.{Knowledge, In, told}
use Rattle.rept_reason.specs.View.Rules.{AreLawfulRules}
use Rattle.rept_span.specs.Moves.{AreMoves}
use Rattle.rept_span.specs.Ranges.{range}
use Rattle.rept_span.proofs.RangeLaws.{NoMore, range_narrower}
use Rattle.rept_steps.specs.declared.threads.ThreadRows.{ThreadRows}
use Rattle.rept_steps.specs.Course.{Course, IsSoundCourse}
use Rattle.rept_order.specs.History.{Ending}
use Rattle.rept_order.specs.Moments.{Moment, IsMoment}
use Rattle.rept_order.specs.Moments.Moment.{before, after, at_end}
use Rattle.rept_order.specs.Legs.{number_of}
use Rattle.rept_moments.specs.Naming.Names.{AreNames}
use Rattle.rept_moments.specs.Naming.Numbered.{legs_on, moments_of, setting_of}
use Rattle.rept_moments.specs.Numbers.{numbers_of}
use Rattle.rept_moments.specs.Seen.{SeenMoments, alone_by, moment_in, seen, seen_by, seen_many}
use Rattle.rept_moments.proofs.Apart.{are_numbers}
use Rattle.rept_moments.proofs.NamingLemmas.Naming.{are_legs, are_moments}
use Rattle.rept_report.specs.Closure.{Derivation, IsReport}
use Rattle.rept_report.specs.Conclusions.{Concludes, HasWords}
use Rattle.rept_report.specs.Conflicts.{IsQuiet}
use Rattle.rept_report.specs.Implied.{known_at_end}
use Rattle.rept_report.specs.Log.{facts_of}
use Rattle.rept_report.specs.Setting.{HasLaws, IsInstant, Setting, way_of}
use Rattle.rept_report.specs.Views.{bounds}
use Rattle.rept_report.proofs.Implied.{known_closed}
use Rattle.rept_report.proofs.Registers.{quiet_same}
use Rattle.rept_report.proofs.Traces.{trace_words, words_of}
use Rattle.rept_report.proofs.ViewLaws.{LiesIn, bounds_smaller}
use Rattle.rept_analysis.specs.Logged.{IsLogOf}
use Rattle.rept_findings.specs.declared.place.Place.TheVariants as places
use Rattle.rept_found.specs.Crash.{Means, trip_by}
use Rattle.rept_found.specs.Places.Places.{last_by, named_on, place_number, point_named}
use Rattle.rept_found.specs.Trip.Trip.{setting_on}
use Rattle.rept_found.proofs.PlacesLemmas.Matching.{moments as place_returns}
use Rattle.rept_found.proofs.PlacesLemmas.Naming.{after_number, before_number, last_of_all}
use Rattle.rept_opening.specs.Places.{same_place}
use Rattle.rept_opening.proofs.Earlier.{embeds, to}
use Rattle.rept_opening.proofs.EarlierMoments.{moment_to, sound_to, traced_from}
use Rattle.rept_opening.proofs.Embedded.{report_stands}
use Rattle.rept_opening.proofs.OrderLemmas.{ending_seen, many_setting}
use Rattle.rept_opening.proofs.Renumbered.{moved}

-- a run of which something isn't traced is no path alone
no_path : (threads : List ThreadRows) (d : ℕ) → alone_by threads (Some d) ≡ None
no_path [] d = refl
no_path (thread ∷ []) d = refl
no_path (thread ∷ other ∷ threads) d = refl

-- each fact of a report stands at a point or a memory point
module _ {W : Type 0} (S : Setting W) where
  early_in : (fs : List Fact) → Derivation S fs → (f : Fact) → In fs f → IsInstant S f.cell f.point
  early_in [] d f h = absurd h
  early_in (g ∷ gs) d f (inl e) = subst (λ (k : Fact). IsInstant S k.cell k.point) (sym e) d.2.early
  early_in (g ∷ gs) d f (inr h) = early_in gs d.0 f h

  early_of : (K : Knowledge) → IsReport S K → (p : ℕ) (c : Cell) (v : ℕ) → K p c ≡ Some v → IsInstant S c p
  early_of K report p c v e =
      let x = (report.exact (record { point = p; cell = c; value = v })).0 e in
      early_in x.0 x.1 (record { point = p; cell = c; value = v }) x.2

-- The second run's report knows all that the first one's does, at the same places, and none of its
-- sets is wider.
pub record KnowsNoLess {W : Type 0} (m : Means W) (D : Ending) (C E : Course) (K L : Knowledge) : Type 0 where
  pub facts : (p : ℕ) (c : Cell) (v : ℕ) → K p c ≡ Some v → L (moved (same_place C E) c p) c ≡ Some v
  pub sets : (p r : ℕ) → NoMore m.sets (range (way_of (setting_on (trip_by m E D))) L p r) (range (way_of (setting_on (trip_by m C D))) K p r)
  pub ranges : (p r : ℕ) → p ≤ (setting_on (trip_by m C D)).legs.count → r < 32 → LiesIn (bounds m.sets (range (way_of (setting_on (trip_by m E D))) L p r)) (bounds m.sets (range (way_of (setting_on (trip_by m C D))) K p r))

module _ (threads : List ThreadRows) (d u : ℕ) (sooner : u ≤ d) (sound : IsSoundCourse (traced_from threads (Some d))) where
  abbrev T : Course
  T = traced_from threads (Some d)

  abbrev S : Course
  S = traced_from threads (Some u)

  ends : IsSoundCourse S
  ends = sound_to threads (Some d) (Some u) (λ (e : Some d ≡ None). cc) sound

  seen_late : seen T ≡ seen_many T
  seen_late = ap (seen_by T) (no_path threads d)

  seen_early : seen S ≡ seen_many S
  seen_early = ap (seen_by S) (no_path threads u)

  old : AreNames T (numbers_of T)
  old = are_numbers T sound

  new : AreNames S (numbers_of S)
  new = are_numbers S ends

  end_number_by : (one : Bool) → place_number S (if one then point_named 0 (seen T).legs.count else record { thread = 0; place = places.End }) ≡ (numbers_of S).end
  end_number_by true =
      ap (λ (x : SeenMoments). moment_in (seen S) (number_of S 0 x.legs.count)) seen_late
      ∙ ap (λ (x : SeenMoments). moment_in x (number_of S 0 (legs_on S).count)) seen_early
      ∙ last_of_all S (number_of S 0 (legs_on S).count) (omega arith)
  end_number_by false = ap (λ (x : SeenMoments). x.moments.end) seen_early

  number_named : (x : Moment) → IsMoment S x → place_number S (named_on T x) ≡ (numbers_of S).name x
  number_named (before r) is = ap (λ (x : SeenMoments). moment_in x (number_of S r.thread r.step)) seen_early ∙ before_number S r.thread r.step is
  number_named (after r) is = ap (λ (x : SeenMoments). x.moments.after (number_of S r.thread r.step)) seen_early ∙ after_number S r.thread r.step is
  number_named at_end is = end_number_by (length threads == 1) ∙ sym new.end

  -- the same place is the same memory point
  same_place_is : (m : ℕ) → m ≤ (numbers_of T).end → same_place T S m ≡ to threads d u sooner (numbers_of T) (numbers_of S) old new m
  same_place_is m few =
      ap (λ (o : Option (List StepRow)). place_number S (named_on T (last_by T o m))) (no_path threads d)
      ∙ number_named ((numbers_of T).last m) (moment_to threads (Some d) (Some u) ((numbers_of T).last m) (old.named m few).0)

  module _ {W : Type 0} (m : Means W) (sets : AreLawfulSets m.sets) (moves : AreMoves m.sets m.moves) (rules : AreLawfulRules m.rules) (D : Ending) where
    abbrev late : Setting W
    late = setting_of m.sets m.moves m.rules T (ending_seen T D) (numbers_of T)

    abbrev early : Setting W
    early = setting_of m.sets m.moves m.rules S (ending_seen S D) (numbers_of S)

    late_laws : HasLaws late
    late_laws = record { sets = sets; moves = moves; rules = rules; legs = are_legs T; moments = are_moments T sound (numbers_of T) old }

    early_laws : HasLaws early
    early_laws = record { sets = sets; moves = moves; rules = rules; legs = are_legs S; moments = are_moments S ends (numbers_of S) new }

    late_is : setting_on (trip_by m T D) ≡ late
    late_is = many_setting (trip_by m T D) (no_path threads d)

    early_is : setting_on (trip_by m S D) ≡ early
    early_is = many_setting (trip_by m S D) (no_path threads u)

    module _ (K L : Knowledge) (log : List Fact) (report : IsReport late K) (its_log : IsLogOf early L log) where
      abbrev found : Knowledge
      found = known_at_end early its_log.entries its_log.tracked

      found_is : found ≡ L
      found_is = fun_ext (λ p. fun_ext (λ c. its_log.knows p c))

      words : HasWords found
      words p r v e = words_of (facts_of its_log.entries) (trace_words early its_log.entries its_log.ended.trace) p r v e

      quiet : IsQuiet early found
      quiet = quiet_same early (told (facts_of its_log.entries)) found (λ p r. refl) its_log.ended.quiet

      closed : (f : Fact) → Concludes early found f → found f.point f.cell ≡ Some f.value
      closed f h = known_closed early early_laws its_log.entries its_log.ended.trace its_log.ended.quiet its_log.tracked its_log.ended.closed f h

      stands : (p : ℕ) (c : Cell) (v : ℕ) → K p c ≡ Some v → found (moved (to threads d u sooner (numbers_of T) (numbers_of S) old new) c p) c ≡ Some v
      stands p c v e = report_stands late (moments_of T (numbers_of T)) (moments_of S (numbers_of S)) (to threads d u sooner (numbers_of T) (numbers_of S) old new)
          (embeds threads d u sooner (numbers_of T) (numbers_of S) old new m.sets m.moves m.rules (ending_seen T D) sound ends) late_laws found words quiet closed K report p c v e

      facts : (p : ℕ) (c : Cell) (v : ℕ) → K p c ≡ Some v → L (moved (same_place T S) c p) c ≡ Some v
      facts p (Register r) v e = sym (its_log.knows p (Register r)) ∙ stands p (Register r) v e
      facts p (Byte a) v e =
          let few = early_of late K report p (Byte a) v e in
          ap (λ (n : ℕ). L n (Byte a)) (same_place_is p few)
          ∙ sym (its_log.knows (to threads d u sooner (numbers_of T) (numbers_of S) old new p) (Byte a))
          ∙ stands p (Byte a) v e

      no_more : (p r : ℕ) → NoMore m.sets (range (way_of early) L p r) (range (way_of late) K p r)
      no_more p r = range_narrower (way_of early) sets moves K L (λ q s v e. facts q (Register s) v e) p r

      full : (p r : ℕ) → p ≤ early.legs.count → r < 32 → range (way_of early) L p r ≡ None → ⊥
      full = subst (λ (X : Knowledge). (p r : ℕ) → p ≤ early.legs.count → r < 32 → range (way_of early) X p r ≡ None → ⊥) found_is quiet.full

      ranges : (p r : ℕ) → p ≤ late.legs.count → r < 32 → LiesIn (bounds m.sets (range (way_of early) L p r)) (bounds m.sets (range (way_of late) K p r))
      ranges p r few in_file = bounds_smaller m.sets sets (range (way_of late) K p r) (range (way_of early) L p r) (no_more p r) (full p r few in_file)

    knows_sooner : (K L : Knowledge) (log : List Fact) → IsReport (setting_on (trip_by m T D)) K → IsLogOf (setting_on (trip_by m S D)) L log → KnowsNoLess m D T S K L
    knows_sooner K L log report its_log =
        let here : IsReport late K = subst (λ (X : Setting W). IsReport X K) late_is report in
        let there : IsLogOf early L log = subst (λ (X : Setting W). IsLogOf X L log) early_is its_log in
        record {
          facts = facts K L log here there;
          sets = λ p r. subst (λ (X : Setting W). NoMore m.sets (range (way_of X) L p r) (range (way_of (setting_on (trip_by m T D))) K p r)) (sym early_is)
              (subst (λ (X : Setting W). NoMore m.sets (range (way_of early) L p r) (range (way_of X) K p r)) (sym late_is) (no_more K L log here there p r));
          ranges = λ p r few in_file.
              subst (λ (X : Setting W). LiesIn (bounds m.sets (range (way_of X) L p r)) (bounds m.sets (range (way_of (setting_on (trip_by m T D))) K p r))) (sym early_is)
              (subst (λ (X : Setting W). p ≤ X.legs.count → LiesIn (bounds m.sets (range (way_of early) L p r)) (bounds m.sets (range (way_of X) K p r))) (sym late_is) (λ below. ranges K L log here there p r below in_file) few);
        }

-- one report of a run knows what the other does
module _ {W : Type 0} (m : Means W) (sets : AreLawfulSets m.sets) (moves : AreMoves m.sets m.moves) (C : Course) (sound : IsSoundCourse C) (D : Ending) (K L : Knowledge) (log : List Fact) where
  abbrev Here : Setting W
  Here = setting_on (trip_by m C D)

  module _ (report : IsReport Here K) (other : IsReport Here L) (its_log : IsLogOf Here L log) where
    same_facts : (p : ℕ) (c : Cell) (v : ℕ) → K p c ≡ Some v → L p c ≡ Some v
    same_facts p c v e = (other.exact (record { point = p; cell = c; value = v })).1 ((report.exact (record { point = p; cell = c; value = v })).0 e)

    at_place : (p : ℕ) (c : Cell) (v : ℕ) → K p c ≡ Some v → L (moved (same_place C C) c p) c ≡ Some v
    at_place p (Register r) v e = same_facts p (Register r) v e
    at_place p (Byte a) v e = ap (λ (n : ℕ). L n (Byte a)) (place_returns C sound p (early_of Here K report p (Byte a) v e)) ∙ same_facts p (Byte a) v e

    no_more_here : (p r : ℕ) → NoMore m.sets (range (way_of Here) L p r) (range (way_of Here) K p r)
    no_more_here p r = range_narrower (way_of Here) sets moves K L (λ q s v e. same_facts q (Register s) v e) p r

    full_here : (p r : ℕ) → p ≤ Here.legs.count → r < 32 → range (way_of Here) L p r ≡ None → ⊥
    full_here =
        let is : known_at_end Here its_log.entries its_log.tracked ≡ L = fun_ext (λ p. fun_ext (λ c. its_log.knows p c)) in
        let quiet = quiet_same Here (told (facts_of its_log.entries)) (known_at_end Here its_log.entries its_log.tracked) (λ p r. refl) its_log.ended.quiet in
        subst (λ (X : Knowledge). (p r : ℕ) → p ≤ Here.legs.count → r < 32 → range (way_of Here) X p r ≡ None → ⊥) is quiet.full

    knows_same : KnowsNoLess m D C C K L
    knows_same = record {
      facts = at_place;
      sets = no_more_here;
      ranges = λ p r few in_file. bounds_smaller m.sets sets (range (way_of Here) K p r) (range (way_of Here) L p r) (no_more_here p r) (full_here p r few in_file);
    }

-- A run and the run of the same steps whose untraced prefix, if it has one, ends no later: the
-- report of the second knows no less.
pub knows_ended : {W : Type 0} (m : Means W) → AreLawfulSets m.sets → AreMoves m.sets m.moves → AreLawfulRules m.rules → (threads : List ThreadRows) (prefix : Option ℕ) (f : ℕ → ℕ) → ((d : ℕ) → f d ≤ d) → IsSoundCourse (traced_from threads prefix) → (D : Ending) (K L : Knowledge) (log : List Fact)
    → IsReport (setting_on (trip_by m (traced_from threads prefix) D)) K → IsReport (setting_on (trip_by m (traced_from threads (option_map f prefix)) D)) L → IsLogOf (setting_on (trip_by m (traced_from threads (option_map f prefix)) D)) L log
    → KnowsNoLess m D (traced_from threads prefix) (traced_from threads (option_map f prefix)) K L
knows_ended m sets moves rules threads None f less sound D K L log report other its_log = knows_same m sets moves (traced_from threads None) sound D K L log report other its_log
knows_ended m sets moves rules threads (Some d) f less sound D K L log report other its_log = knows_sooner threads d (f d) (less d) sound m sets moves rules D K L log report its_log
