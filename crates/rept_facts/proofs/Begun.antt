-- A log that begins with the last register values of all threads.
use Rattle.std.specs.Prelude.{⊤}
use Rattle.std.proofs.Common.{◌≡◌, ◌≢◌, ◌⊎◌, ℕ, ◌<◌, ◌≤◌, ltb, eqb, Bool, true, false, List, [], ◌∷◌, length, Option, Some, None, Result, Ok, Err, IfErr, inl, inr, refl, sym, ap, subst, ◌∙◌, arith}
use Rattle.std.proofs.lemmas.Bool.{cases_eq, cases_lt, cond-true, cond-false, lt-ltb, le-ltb, eq-eqb, ne_eqb}
use Rattle.rept_isa.specs.declared.row.StepRow.{StepRow}
use Rattle.rept_reason.specs.declared.fact.Fact.{Fact}
use Rattle.rept_reason.specs.declared.fact.Cell.{Cell}
use Rattle.rept_reason.specs.declared.fact.Cell.TheVariants.{Register}
use Rattle.rept_reason.specs.Facts.{told}
use Rattle.rept_report.specs.Setting.{Setting, IsLast, HasLaws}
use Rattle.rept_report.specs.Conflicts.{IsQuiet}
use Rattle.rept_report.specs.Log.{oldest, OnceEach, add_if}
use Rattle.rept_report.proofs.Told.{told_in, none_some, same_some}
use Rattle.rept_report.proofs.Places.{oldest_all, oldest_more}
use Rattle.rept_report.proofs.Standing.{oldest_up}
use Rattle.rept_report.proofs.Monotony.{quiet_less}
use Rattle.rept_facts.specs.State.{AnalysisState, Subject, along}
use Rattle.rept_facts.specs.Inferring.{Knows, Grows, LastKnownAt, LastPointKnown, LastKnownBelow}
use Rattle.rept_facts.specs.Kept.{IsKept}
use Rattle.rept_facts.proofs.Following.{LastsBelow}
use Rattle.rept_facts.specs.Refined.{IsHalted}
use Rattle.rept_facts.specs.declared.stop.Stop.{Stop}
use Rattle.rept_facts.specs.declared.stop.Stop.TheVariants.{Conflict, OutOfMemory}
use Rattle.rept_facts.specs.Begun.{value_at_end, ends_told, AreEndFacts, KnowsEnds, BeginsWithEnds, HasEndsAlone, HasEndsFirst, LearnsEndsFirst, IsLogWith}

-- with a fact that the log keeps, or doesn't
pub log_added : (keep : Bool) (f : Fact) (old new : List Fact) → new ≡ add_if keep f old → IsLogWith f old new
log_added true f old new is = inr is
log_added false f old new is = inl is

-- the last value of a register of a thread
record IsEnd {W : Type 0} (S : Setting W) (p r v : ℕ) : Type 0 where
  last : IsLast S p
  named : 0 < r
  value : S.last p r ≡ Some v

module _ {W : Type 0} (S : Setting W) where
  pub ends_at : (p r v : ℕ) → IsLast S p → 0 < r → S.last p r ≡ Some v → ends_told S p (Register r) ≡ Some v
  ends_at p r v last named is =
      cond-false (ltb S.legs.count p) None (value_at_end (S.legs.row p) (S.last p) r) (le-ltb S.legs.count p last.0)
      ∙ ap (λ (o : Option StepRow). value_at_end o (S.last p) r) last.1
      ∙ cond-false (eqb r 0) None (S.last p r) (ne_eqb r 0 (omega (arith, named)))
      ∙ is

  end_by : (p r v : ℕ) → p ≤ S.legs.count → (o : Option StepRow) → S.legs.row p ≡ o → value_at_end o (S.last p) r ≡ Some v → IsEnd S p r v
  end_by p r v early (Some row) is e = absurd (none_some e)
  end_by p r v early None is e =
      elim (cases_eq r 0) [
        | inl zero ↦ absurd (none_some (sym (cond-true (eqb r 0) None (S.last p r) (eq-eqb r 0 zero)) ∙ e))
        | inr other ↦ record { last = (early, is); named = omega (arith, other); value = sym (cond-false (eqb r 0) None (S.last p r) (ne_eqb r 0 other)) ∙ e }
      ]

  end_of : (p r v : ℕ) → ends_told S p (Register r) ≡ Some v → IsEnd S p r v
  end_of p r v e =
      elim (cases_lt S.legs.count p) [
        | inl past ↦ absurd (none_some (sym (cond-true (ltb S.legs.count p) None (value_at_end (S.legs.row p) (S.last p) r) (lt-ltb S.legs.count p past)) ∙ e))
        | inr early ↦ end_by p r v early (S.legs.row p) refl (sym (cond-false (ltb S.legs.count p) None (value_at_end (S.legs.row p) (S.last p) r) (le-ltb S.legs.count p early)) ∙ e)
      ]

  -- such values tell nothing else
  pub ends_only : (facts : List Fact) → AreEndFacts S facts → (p : ℕ) (c : Cell) (v : ℕ) → told facts p c ≡ Some v → ends_told S p c ≡ Some v
  ends_only facts ends p c v e = ends (record { point = p; cell = c; value = v }) (told_in facts p c v e)

  -- one more
  pub ends_more : (f : Fact) (facts : List Fact) → ends_told S f.point f.cell ≡ Some f.value → AreEndFacts S facts → AreEndFacts S (f ∷ facts)
  ends_more f facts here ends g (inl is) = subst (λ (x : Fact). ends_told S x.point x.cell ≡ Some x.value) (sym is) here
  ends_more f facts here ends g (inr there) = ends g there

  pub ends_with : (f : Fact) (old new : List Fact) → ends_told S f.point f.cell ≡ Some f.value → IsLogWith f old new → AreEndFacts S old → AreEndFacts S new
  ends_with f old new here (inl same) ends = subst (λ (fs : List Fact). AreEndFacts S fs) (sym same) ends
  ends_with f old new here (inr more) ends = subst (λ (fs : List Fact). AreEndFacts S fs) (sym more) (ends_more f old here ends)

  -- no two of them are of one register at one point
  pub ends_agree : (facts : List Fact) (p r v w : ℕ) → AreEndFacts S facts → ends_told S p (Register r) ≡ Some v → told facts p (Register r) ≡ Some w → w ≢ v → ⊥
  ends_agree facts p r v w ends here e differs = differs (same_some (sym (ends_only facts ends p (Register r) w e) ∙ here))

  -- they leave no set empty and no turn wrong where all of them don't
  pub ends_quiet : HasLaws S → (facts : List Fact) → AreEndFacts S facts → IsQuiet S (ends_told S) → IsQuiet S (told facts)
  ends_quiet laws facts ends quiet = quiet_less S laws (told facts) (ends_told S) (λ p r v e. ends_only facts ends p (Register r) v e) quiet

  -- all are known, and nothing else
  pub begun_now : (log : List Fact) → AreEndFacts S log → KnowsEnds S (told log) → BeginsWithEnds S log
  begun_now log ends all =
      let whole : oldest (length log) log ≡ log = oldest_all (length log) log (omega arith) in
      record {
        count = length log;
        within = omega arith;
        ends = subst (λ (fs : List Fact). AreEndFacts S fs) (sym whole) ends;
        all = subst (λ (fs : List Fact). KnowsEnds S (told fs)) (sym whole) all;
      }

  -- a log that grows begins as it did
  pub begun_grows : (old new : List Fact) → length old ≤ length new → ((t : ℕ) → t ≤ length old → oldest t new ≡ oldest t old) → BeginsWithEnds S old → BeginsWithEnds S new
  begun_grows old new longer same begun =
      let within = begun.within in
      record {
        count = begun.count;
        within = omega (arith, longer, within);
        ends = subst (λ (fs : List Fact). AreEndFacts S fs) (sym (same begun.count begun.within)) begun.ends;
        all = subst (λ (fs : List Fact). KnowsEnds S (told fs)) (sym (same begun.count begun.within)) begun.all;
      }

  module _ (laws : HasLaws S) (log : List Fact) (once : OnceEach log) (begun : BeginsWithEnds S log) (quiet : IsQuiet S (ends_told S)) where
    fewer_quiet : (t : ℕ) → t < begun.count → IsQuiet S (told (oldest t log))
    fewer_quiet t less = ends_quiet laws (oldest t log) (λ f h. begun.ends f (oldest_up t begun.count log f (omega (arith, less)) h)) quiet

    -- as many facts as aren't quiet, or all, have them
    pub ends_among : (t : ℕ) → (IsQuiet S (told (oldest t log)) → ⊥) ⊎ (t ≡ length log) → KnowsEnds S (told (oldest t log))
    ends_among t h p r v e =
        elim (cases_lt t begun.count) [
          | inl less ↦ absurd (too_few h less)
          | inr most ↦ oldest_more begun.count t log once most p (Register r) v (begun.all p r v e)
        ]
      where
        too_few : (IsQuiet S (told (oldest t log)) → ⊥) ⊎ (t ≡ length log) → t < begun.count → ⊥
        too_few (inl loud) less = loud (fewer_quiet t less)
        too_few (inr all) less = let within = begun.within in omega (arith, all, within, less)

module _ {W : Type 0} (s : AnalysisState W) where
  -- a last value that was learnt
  pub last_known_by : (p r w : ℕ) → s.path.given.last p r ≡ Some w → Knows p (Register r) w s → LastKnownAt p r s
  last_known_by p r w found known v named is = known ∙ sym found ∙ is

  -- where there is none, nothing was to be learnt
  pub no_last_known : (p r : ℕ) → s.path.given.last p r ≡ None → LastKnownAt p r s
  no_last_known p r none v named is = absurd (none_some (sym none ∙ is))

  -- those of all threads were
  pub ends_known : IsKept s → LastKnownBelow 32 s → KnowsEnds (along s.path) (told s.known.log)
  ends_known kept known p r v e =
      let its = end_of (along s.path) p r v e in
      known r (kept.registers p r v its.value) p v its.last its.named its.value

  -- where they alone don't show a conflict, and the facts do, they were learnt before anything else
  pub ends_first : HasLaws (along s.path) → (IsQuiet (along s.path) (told s.known.log) → ⊥) → IsQuiet (along s.path) (ends_told (along s.path)) → LearnsEndsFirst s → HasEndsFirst s
  ends_first laws loud quiet (inl alone) = absurd (loud (ends_quiet (along s.path) laws s.known.log alone quiet))
  ends_first laws loud quiet (inr first) = first

module _ {W : Type 0} (old new : AnalysisState W) where
  -- what is so of the path and the log alone
  pub begun_like : new.path ≡ old.path → new.known.log ≡ old.known.log → HasEndsFirst old → HasEndsFirst new
  begun_like path log first = subst (λ (P : Subject W). BeginsWithEnds (along P) new.known.log) (sym path) (subst (λ (fs : List Fact). BeginsWithEnds (along old.path) fs) (sym log) first)

  pub alone_like : new.path ≡ old.path → new.known.log ≡ old.known.log → HasEndsAlone old → HasEndsAlone new
  alone_like path log alone = subst (λ (P : Subject W). AreEndFacts (along P) new.known.log) (sym path) (subst (λ (fs : List Fact). AreEndFacts (along old.path) fs) (sym log) alone)

  pub begins_like : new.path ≡ old.path → new.known.log ≡ old.known.log → LearnsEndsFirst old → LearnsEndsFirst new
  begins_like path log (inl alone) = inl (alone_like path log alone)
  begins_like path log (inr first) = inr (begun_like path log first)

  pub begun_after : Grows old new → HasEndsFirst old → HasEndsFirst new
  begun_after grows first = subst (λ (P : Subject W). BeginsWithEnds (along P) new.known.log) (sym grows.path) (begun_grows (along old.path) old.known.log new.known.log grows.longer grows.log first)

  -- they were learnt before anything else, as all of them are known now
  pub begun_by : Grows old new → IsKept new → LastKnownBelow 32 new → (HasEndsAlone old → HasEndsAlone new) → LearnsEndsFirst old → HasEndsFirst new
  begun_by grows kept known alone (inl h) = begun_now (along new.path) new.known.log (alone h) (ends_known new kept known)
  begun_by grows kept known alone (inr first) = begun_after grows first

  -- or before, as it can't be otherwise
  pub begun_unless : Grows old new → (HasEndsAlone old → ⊥) → LearnsEndsFirst old → HasEndsFirst new
  begun_unless grows never (inl h) = absurd (never h)
  begun_unless grows never (inr first) = begun_after grows first

  -- what is known at a last point is known where more is
  pub last_point_grows : Grows old new → (n p : ℕ) → LastPointKnown n p old → LastPointKnown n p new
  last_point_grows grows n p known r inside v named is = grows.more p (Register r) v (known r inside v named (subst (λ (P : Subject W). P.given.last p r ≡ Some v) grows.path is))

  pub lasts_grow : Grows old new → (least : ℕ) → LastsBelow least old → LastsBelow least new
  lasts_grow grows least known p below last = last_point_grows grows 32 p (known p below (subst (λ (P : Subject W). IsLast (along P) p) grows.path last))

-- where nothing was learnt yet
pub none_learnt : {W : Type 0} {S : Setting W} {log : List Fact} → log ≡ [] → AreEndFacts S log ⊎ BeginsWithEnds S log
none_learnt {W} {S} none = inl (subst (λ (fs : List Fact). AreEndFacts S fs) (sym none) (λ f h. absurd h))

-- what is so is so of any error
pub any_err : {A E : Type 0} (r : Result A E) (Q : Type 0) → Q → IfErr r (λ e. Q)
any_err (Ok x) Q so = tt
any_err (Err e) Q so = so

-- a halt changes no path
pub halted_path : {W : Type 0} (old new : AnalysisState W) (stop : Stop) → IsHalted old new stop → new.path ≡ old.path
halted_path old new (Conflict kind) h = h.path
halted_path old new OutOfMemory h = h.path

pub same_err : {x y : Stop} → ◌≡◌ {A = Result ⊤ Stop} (Err x) (Err y) → x ≡ y
same_err e = cc
