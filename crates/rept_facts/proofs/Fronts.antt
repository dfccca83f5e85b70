-- Fronts of the log of an analysis that has ended, and the reasons that are found in them.
use Rattle.std.proofs.Common.{◌≡◌, ℕ, ◌+◌, ◌<◌, ◌≤◌, ◌^◌, false, eqb, List, [], ◌∷◌, length, Option, Some, None, Result, Ok, Err, IsOk, IfErr, OnOk, IfSome, IfNone, IsTrue, inl, inr, refl, sym, ap, subst, ◌∙◌, arith}
use Rattle.std.specs.Prelude.{⊤}
use Rattle.std.proofs.lemmas.Bool.{cases_Bool, cond-true, cond-false, eq-eqb, ne_eqb, eqb-true, false≢true}
use Rattle.rept_reason.specs.declared.fact.Fact.{Fact}
use Rattle.rept_reason.specs.declared.fact.Cell.{Cell}
use Rattle.rept_reason.specs.declared.fact.Cell.TheVariants.{Register, Byte}
use Rattle.rept_reason.specs.Facts.{Knowledge, IsCell, told, speaks}
use Rattle.rept_span.specs.declared.spans.EmptyAt.{EmptyAt}
use Rattle.rept_span.specs.Ranges.{IsEmptyFirst}
use Rattle.rept_span.specs.Filled.{View}
use Rattle.rept_report.specs.Setting.{Setting, HasLaws, way_of}
use Rattle.rept_report.specs.Conflicts.{IsQuiet}
use Rattle.rept_report.specs.Conclusions.{HasWords}
use Rattle.rept_report.specs.Log.{oldest, logged_of, entry, place_of}
use Rattle.rept_report.specs.Reasons.{StandsIn, IsStanding}
use Rattle.rept_report.specs.Why.{Because, fact_of, IsInferredBecause, IsKnownBecause, IsCarriedBecause, IsLeastFront}
use Rattle.rept_report.proofs.Told.{none_some, same_some, speaks_is, told_old}
use Rattle.rept_report.proofs.Places.{oldest_all, oldest_less, place_none}
use Rattle.rept_report.proofs.Standing.{front_quiet}
use Rattle.rept_report.proofs.Explained.{known_by, inferred_by, carried_by}
use Rattle.rept_report.proofs.Implied.{known_stands}
use Rattle.rept_partial.specs.Sets.{Sets}
use Rattle.rept_span.specs.Moves.{Moves}
use Rattle.rept_reason.specs.View.Rules.{Rules}
use Rattle.rept_versions.specs.Facts.{Store}
use Rattle.rept_log.specs.Fronts.{Stored, IsFront, basis_of, front_of, stands}
use Rattle.rept_facts.specs.State.{AnalysisState, Whole, setting_of, state_of, along}
use Rattle.rept_facts.specs.Kept.{is_among, answers, IsFinished, IsKept}
use Rattle.rept_facts.specs.Reasoned.{front_below, AreSetsOf, IsNotLast}
use Rattle.rept_facts.proofs.Learning.{known_words}
use Rattle.rept_facts.proofs.Answering.{answers_early}
use Rattle.rept_facts.proofs.Explaining.{has_ended, ends_with, front_at, front_finds, one_stands, bytes_early}

fact_is : (f g : Fact) → f.point ≡ g.point → f.cell ≡ g.cell → f.value ≡ g.value → f ≡ g
fact_is f g p c v =
    ap (λ (x : ℕ). record { point = x; cell = f.cell; value = f.value }) p
    ∙ ap (λ (x : Cell). record { point = g.point; cell = x; value = f.value }) c
    ∙ ap (λ (x : ℕ). record { point = g.point; cell = g.cell; value = x }) v

pub none_by : {A : Type 0} (P : Type 0) (found : Option A) → P → IfNone found P
none_by P None h = h
none_by P (Some x) h = tt

-- the fact at the place of a cell
pub record IsPlaced (fs : List Fact) (p : ℕ) (c : Cell) (k : ℕ) : Type 0 where
  pub fact : Fact
  pub at : entry fs k ≡ Some fact
  pub point : fact.point ≡ p
  pub cell : fact.cell ≡ c
  pub tells : told fs p c ≡ Some fact.value

some_is : {x y : ℕ} → Some x ≡ Some y → x ≡ y
some_is e = cc

place_of_within : (fs : List Fact) (p : ℕ) (c : Cell) (k : ℕ) → place_of fs p c ≡ Some k → k < length fs
place_of_within [] p c k e = absurd (none_some e)
place_of_within (g ∷ gs) p c k e =
    elim (cases_Bool (speaks g p c)) [
      | inl here ↦ let is = some_is (sym (cond-true (speaks g p c) (Some (length gs)) (place_of gs p c) here) ∙ e) in omega arith
      | inr elsewhere ↦ let below = place_of_within gs p c k (sym (cond-false (speaks g p c) (Some (length gs)) (place_of gs p c) elsewhere) ∙ e) in omega arith
    ]

pub placed : (fs : List Fact) (p : ℕ) (c : Cell) (k : ℕ) → place_of fs p c ≡ Some k → IsPlaced fs p c k
placed [] p c k e = absurd (none_some e)
placed (g ∷ gs) p c k e =
    elim (cases_Bool (speaks g p c)) [
      | inl here ↦
          let is : length gs ≡ k = some_is (sym (cond-true (speaks g p c) (Some (length gs)) (place_of gs p c) here) ∙ e) in
          let parts = speaks_is g p c here in
          record {
            fact = g;
            at = cond-true (eqb k (length gs)) (Some g) (entry gs k) (eq-eqb k (length gs) (sym is));
            point = parts.0;
            cell = parts.1;
            tells = cond-true (speaks g p c) (Some g.value) (told gs p c) here;
          }
      | inr elsewhere ↦
          let e' = sym (cond-false (speaks g p c) (Some (length gs)) (place_of gs p c) elsewhere) ∙ e in
          let below = place_of_within gs p c k e' in
          let h = placed gs p c k e' in
          record {
            fact = h.fact;
            at = cond-false (eqb k (length gs)) (Some g) (entry gs k) (ne_eqb k (length gs) (λ x. omega arith)) ∙ h.at;
            point = h.point;
            cell = h.cell;
            tells = told_old g gs p c elsewhere ∙ h.tells;
          }
    ]

pub filled_ok : {W : Type 0} (S : Setting W) (K : Knowledge) → IsQuiet S K → (result : Result ⊤ EmptyAt) → IfErr result (λ e. IsEmptyFirst (way_of S) K e.point e.reg) → IsOk result
filled_ok S K quiet (Ok x) h = refl
filled_ok S K quiet (Err e) h = absurd (quiet.full e.point e.reg h.early h.in_file h.empty)

module _ {W : Type 0} (s : AnalysisState W) (laws : HasLaws (along s.path)) (kept : IsKept s) (finished : IsFinished s) where
  abbrev Log : List Fact
  Log = s.known.log

  -- the prefix of a log, with the sets that are filled from it
  pub front_is : (t : ℕ) (spans : View W) → AreSetsOf (along s.path) (oldest t s.known.log) spans → IsFront (front_at s laws kept finished t) s.known.last spans
  front_is t spans sets = record {
    last_is = kept.last_is;
    sized = sets.sized;
    words = λ p r v e. known_words s kept p r v (oldest_less t s.known.log kept.once p (Register r) v e);
    filled = sets.filled;
    early = bytes_early s laws kept finished t;
    single = one_stands s laws kept finished t;
  }

  abbrev IsAnswered : Fact → Type 0
  IsAnswered f = answers s f.point f.cell ≡ Some f.value

  pub quiet_below : (t : ℕ) → IsQuiet (along s.path) (told (oldest t s.known.log))
  quiet_below t = let end = has_ended s laws kept finished in subst (λ (fs : List Fact). IsQuiet (along s.path) (told (oldest t fs))) kept.traced.logged (front_quiet (along s.path) laws kept.traced.entries end.trace end.quiet t)

  -- what is answered stands in the whole log
  pub stands_all : (f : Fact) → IsAnswered f → StandsIn (along s.path) (oldest (length s.known.log) s.known.log) f
  stands_all f e =
      let end = has_ended s laws kept finished in
      let known = ap (λ (K : Knowledge). K f.point f.cell) (ends_with s laws kept finished) ∙ e in
      let h = known_stands (along s.path) laws kept.traced.entries end.trace end.quiet (is_among s.known.store.tracked) end.closed f.point f.cell f.value known in
      let h' : StandsIn (along s.path) s.known.log f = subst (λ (fs : List Fact). StandsIn (along s.path) fs f) kept.traced.logged h in
      rw (oldest_all (length s.known.log) s.known.log (omega arith)) h'

  -- what is found is what stands
  pub stands_there : (t : ℕ) (f : Fact) (a : ℕ) → f.cell ≡ Byte a → f.point ≤ s.path.given.moments.end → a < 2 ^ 32 → stands (front_at s laws kept finished t) f.point (Byte a) ≡ Some f.value → StandsIn (along s.path) (oldest t s.known.log) f
  stands_there t f a cell early small e = subst (StandsIn (along s.path) (oldest t s.known.log)) (fact_is (fact_of f.point (Byte a) f.value) f refl (sym cell) refl) ((front_finds s laws kept finished t).sound f.point a f.value early small e)

  pub found_there : (t : ℕ) (f : Fact) (a : ℕ) → f.cell ≡ Byte a → a < 2 ^ 32 → StandsIn (along s.path) (oldest t s.known.log) f → stands (front_at s laws kept finished t) f.point (Byte a) ≡ Some f.value
  found_there t f a cell small h = (front_finds s laws kept finished t).whole f.point a f.value small (subst (StandsIn (along s.path) (oldest t s.known.log)) (fact_is f (fact_of f.point (Byte a) f.value) refl cell refl) h)

  -- the same of the log as the laws of reports speak of it
  finds_logged : (t : ℕ) → IsStanding (along s.path) (oldest t (logged_of kept.traced.entries)) (stands (front_at s laws kept finished t))
  finds_logged t = subst (λ (fs : List Fact). IsStanding (along s.path) (oldest t fs) (stands (front_at s laws kept finished t))) (sym kept.traced.logged) (front_finds s laws kept finished t)

  -- where no rule gives a register's fact at its place, it isn't answered
  pub no_known : (f : Fact) (r t : ℕ) → f.cell ≡ Register r → entry s.known.log t ≡ Some f → ((why : Because) → IsKnownBecause (along s.path) (stands (front_at s laws kept finished t)) f why → ⊥) → IsAnswered f → ⊥
  no_known f r t cell at none e =
      let end = has_ended s laws kept finished in
      let h = known_by (along s.path) laws kept.traced.entries end.trace end.quiet (is_among s.known.store.tracked) end.closed t f r (stands (front_at s laws kept finished t)) (finds_logged t) cell (subst (λ (fs : List Fact). entry fs t ≡ Some f) (sym kept.traced.logged) at) in
      none h.0 h.1

  pub no_inferred : (f : Fact) (a t : ℕ) → f.cell ≡ Byte a → IsLeastFront (along s.path) s.known.log f (t + 1) → entry s.known.log t ≡ Some f → ((why : Because) → IsInferredBecause (along s.path) (stands (front_at s laws kept finished t)) f why → ⊥) → IsAnswered f → ⊥
  no_inferred f a t cell least at none e =
      let end = has_ended s laws kept finished in
      let same : f ≡ fact_of f.point (Byte a) f.value = fact_is f (fact_of f.point (Byte a) f.value) refl cell refl in
      let least' = subst (λ (x : Fact). IsLeastFront (along s.path) (logged_of kept.traced.entries) x (t + 1)) same (subst (λ (fs : List Fact). IsLeastFront (along s.path) fs f (t + 1)) (sym kept.traced.logged) least) in
      let at' = subst (λ (x : Fact). entry (logged_of kept.traced.entries) t ≡ Some x) same (subst (λ (fs : List Fact). entry fs t ≡ Some f) (sym kept.traced.logged) at) in
      let h = inferred_by (along s.path) laws kept.traced.entries end.trace end.quiet (is_among s.known.store.tracked) end.closed t f.point a f.value (stands (front_at s laws kept finished t)) (finds_logged t) least' at' in
      none h.0 (subst (λ (x : Fact). IsInferredBecause (along s.path) (stands (front_at s laws kept finished t)) x h.0) (sym same) h.1)

  pub no_carried : (f : Fact) (a t : ℕ) → f.cell ≡ Byte a → IsLeastFront (along s.path) s.known.log f t → IsNotLast s.known.log f t → ((why : Because) → IsCarriedBecause (along s.path) (oldest t s.known.log) f why → ⊥) → IsAnswered f → ⊥
  no_carried f a t cell least other none e =
      let end = has_ended s laws kept finished in
      let small : a < 2 ^ 32 = subst IsCell cell (answers_early s finished f.point f.cell f.value e).1 in
      let same : f ≡ fact_of f.point (Byte a) f.value = fact_is f (fact_of f.point (Byte a) f.value) refl cell refl in
      let least' = subst (λ (x : Fact). IsLeastFront (along s.path) (logged_of kept.traced.entries) x t) same (subst (λ (fs : List Fact). IsLeastFront (along s.path) fs f t) (sym kept.traced.logged) least) in
      let other' = subst (λ (x : Fact). IsNotLast (logged_of kept.traced.entries) x t) same (subst (λ (fs : List Fact). IsNotLast fs f t) (sym kept.traced.logged) other) in
      let h = carried_by (along s.path) laws kept.traced.entries end.trace end.quiet (is_among s.known.store.tracked) end.closed t f.point a f.value small least' other' in
      none h.0 (subst (λ (fs : List Fact). IsCarriedBecause (along s.path) (oldest t fs) f h.0) kept.traced.logged (subst (λ (x : Fact). IsCarriedBecause (along s.path) (oldest t (logged_of kept.traced.entries)) x h.0) (sym same) h.1))

  -- x0 has no facts
  pub no_zero : (f : Fact) (r : ℕ) → f.cell ≡ Register r → r ≡ 0 → IsAnswered f → ⊥
  no_zero f r cell zero e = let named : (0 < r) × (r < 32) = subst IsCell cell (answers_early s finished f.point f.cell f.value e).1 in let some = named.0 in omega arith

  -- nor has a register without a place
  pub no_place : (f : Fact) (r : ℕ) → f.cell ≡ Register r → place_of s.known.log f.point (Register r) ≡ None → IsAnswered f → ⊥
  no_place f r cell none e =
      let told_it : told s.known.log f.point (Register r) ≡ Some f.value = subst (λ (c : Cell). answers s f.point c ≡ Some f.value) cell e in
      none_some (sym (place_none s.known.log f.point (Register r) none) ∙ told_it)

  pub no_entry : (f : Fact) (r t : ℕ) → f.cell ≡ Register r → place_of s.known.log f.point (Register r) ≡ Some t → (entry s.known.log t ≡ Some f → ⊥) → IsAnswered f → ⊥
  no_entry f r t cell at other e =
      let told_it : told s.known.log f.point (Register r) ≡ Some f.value = subst (λ (c : Cell). answers s f.point c ≡ Some f.value) cell e in
      let h = placed s.known.log f.point (Register r) t at in
      let same : h.fact ≡ f = fact_is h.fact f h.point (h.cell ∙ sym cell) (same_some (sym h.tells ∙ told_it)) in
      other (h.at ∙ ap (λ (x : Fact). Some x) same)

  -- whether a byte's fact stands in a prefix, by the byte that is found there
  pub found_stands : (t : ℕ) (f : Fact) (a : ℕ) → f.cell ≡ Byte a → f.point ≤ s.path.given.moments.end → a < 2 ^ 32 → (v : ℕ) → stands (front_at s laws kept finished t) f.point (Byte a) ≡ Some v → (IsTrue (eqb v f.value) → StandsIn (along s.path) (oldest t s.known.log) f) × (StandsIn (along s.path) (oldest t s.known.log) f → IsTrue (eqb v f.value))
  found_stands t f a cell early small v e = (
    λ same. stands_there t f a cell early small (e ∙ ap Some (eqb-true v f.value same)),
    λ h. eq-eqb v f.value (same_some (sym e ∙ found_there t f a cell small h)),
  )

  pub none_stands : (t : ℕ) (f : Fact) (a : ℕ) → f.cell ≡ Byte a → a < 2 ^ 32 → stands (front_at s laws kept finished t) f.point (Byte a) ≡ None → (IsTrue false → StandsIn (along s.path) (oldest t s.known.log) f) × (StandsIn (along s.path) (oldest t s.known.log) f → IsTrue false)
  none_stands t f a cell small e = (λ x. absurd (false≢true x), λ h. absurd (none_some (sym e ∙ found_there t f a cell small h)))

pub place_some : (fs : List Fact) (p : ℕ) (c : Cell) (x : Option ℕ) → x ≡ place_of fs p c → IfSome x (λ t. t < length fs)
place_some fs p c None e = tt
place_some fs p c (Some t) e = place_of_within fs p c t (sym e)

pub on_ok : (result : Result ⊤ EmptyAt) (P : Type 0) → IsOk result → OnOk result P → P
on_ok (Ok x) P h p = p
on_ok (Err e) P h p = cc

-- a prefix of what an analysis holds is that of what is given
pub front_same : {B W R : Type 0} (sets : Sets W) (moves : Moves W) (rules : Rules) (a : Whole B W R) (t : ℕ) (b : Stored) → b ≡ record { paths = a.paths; last = a.last; exe = a.exe; core = a.core; facts = oldest t a.known.log } → front_of sets moves rules (basis_of b) ≡ front_below sets moves rules a t
front_same sets moves rules a t b is = ap (λ (x : Stored). front_of sets moves rules (basis_of x)) is

pub front_by : {B W R : Type 0} (sets : Sets W) (moves : Moves W) (rules : Rules) (store : B → Store) (a : Whole B W R) (t : ℕ) (spans : View W) → HasLaws (setting_of sets moves rules a) → IsKept (state_of sets moves rules store a) → IsFinished (state_of sets moves rules store a) → AreSetsOf (setting_of sets moves rules a) (oldest t a.known.log) spans → IsFront (front_of sets moves rules (basis_of (record { paths = a.paths; last = a.last; exe = a.exe; core = a.core; facts = oldest t a.known.log }))) a.known.last spans
front_by sets moves rules store a t spans laws kept finished its = front_is (state_of sets moves rules store a) laws kept finished t spans its

-- words, and the last point, of a prefix of the log
module _ {B W R : Type 0} (sets : Sets W) (moves : Moves W) (rules : Rules) (store : B → Store) (a : Whole B W R) (kept : IsKept (state_of sets moves rules store a)) where
  abbrev its_state : AnalysisState W
  its_state = state_of sets moves rules store a

  pub prefix_words : (t : ℕ) → HasWords (told (oldest t a.known.log))
  prefix_words t p r v e = known_words its_state kept p r v (oldest_less t a.known.log kept.once p (Register r) v e)

  pub prefix_last : a.known.last ≡ (setting_of sets moves rules a).legs.count
  prefix_last = kept.last_is
