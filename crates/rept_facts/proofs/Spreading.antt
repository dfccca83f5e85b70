-- A byte's value that is carried over several points is as if it were learnt at one after another.
use Rattle.std.proofs.Common.{◌≡◌, ◌≢◌, ℕ, zero, suc, ◌+◌, ◌-◌, ◌<◌, ◌≤◌, ◌^◌, ◌⊎◌, ◌&&◌, Bool, true, false, cond, eqb, List, Option, Some, None, Result, Ok, Err, inl, inr, refl, sym, ap, subst, ◌∙◌, arith, Contains, max}
use Rattle.std.proofs.lemmas.Bool.{cases_lt, cases_eq, cond-true, cond-false, and_parts, and_from, eq-eqb, eqb-true, false≢true}
use mathlib.Core.Path.{fun_ext}
use Rattle.rept_reason.specs.declared.fact.Cell.{Cell}
use Rattle.rept_reason.specs.declared.fact.Cell.TheVariants.{Register, Byte}
use Rattle.rept_reason.specs.Facts.{told}
use Rattle.rept_report.specs.Setting.{HasLaws}
use Rattle.rept_report.specs.Spots.{Passage, passage}
use Rattle.rept_report.specs.Views.{may_write, Carries}
use Rattle.rept_report.specs.Conclusions.IsCarried.{onward, back}
use Rattle.rept_report.specs.Conflicts.{IsQuiet}
use Rattle.rept_report.specs.Log.{oldest}
use Rattle.rept_report.proofs.Told.{same_some}
use Rattle.rept_report.proofs.Places.{oldest_less}
use Rattle.rept_report.proofs.Monotony.{spared_more}
use Rattle.std.specs.declared.alloc.AllocError.{AllocError}
use Rattle.rept_reason.specs.declared.fact.Fact.{Fact}
use Rattle.rept_versions.specs.declared.facts.Carried.{Carried}
use Rattle.rept_versions.specs.declared.facts.Carried.TheVariants.{Same, More, Stop}
use Rattle.rept_versions.specs.declared.facts.ValueStretch.{ValueStretch}
use Rattle.rept_versions.specs.Facts.{KnownValues, Store, change, Carry, Between, Spreads, CarriesOr as StoreCarries, Nexts}
use Rattle.rept_log.proofs.Stores.{stays_same}
use Rattle.rept_log.specs.Known.{Known, knows, known_change, AddsByte, SameLog}
use Rattle.rept_facts.specs.State.{AnalysisState, IsRoomy, all_known, Subject, along}
use Rattle.rept_report.specs.Why.{fact_of}
use Rattle.rept_facts.specs.Inferring.{Knows, IsTracked, Grows, IsBrought, IsSpared, IsBridged, IsSparedBetween, StandsBefore, IsLedTo, IsLed, IsSpreadTo, IsCarriedFrom}
use Rattle.rept_facts.specs.Inferring.HasNews.{fact}
use Rattle.rept_facts.specs.Told.{Sends}
use Rattle.rept_facts.specs.Kept.{IsKept}
use Rattle.rept_facts.proofs.Barriers.{writings_still, spared_still}
use Rattle.rept_facts.proofs.Conclusion.{Grows_itself, Grows_trans}
use Rattle.rept_facts.proofs.Following.{brought_follows}
use Rattle.rept_facts.proofs.Passing.{passes_more}
use Rattle.rept_facts.proofs.Learning.{with_known, same_known, kept_same, known_words, new_byte}
use Rattle.rept_facts.proofs.Reserve.{room_like}
use Rattle.rept_facts.specs.Room.{HasRoom}

-- the same log, facts and addresses
pub kept_like : {W : Type 0} (s : AnalysisState W) (k k' : Known) → k'.last ≡ k.last → k'.log ≡ k.log → k'.store.fact ≡ k.store.fact → k'.store.tracked ≡ k.store.tracked → s.complete ≡ false → (IsRoomy s → HasRoom s.path k') → IsKept (with_known s k) → IsKept (with_known s k')
kept_like s k k' last log facts tracked open_ roomy kept = record {
  few = kept.few;
  registers = kept.registers;
  last_is = last ∙ kept.last_is;
  sized = kept.sized;
  filled = rw log kept.filled;
  once = rw log kept.once;
  traced = record { entries = kept.traced.entries; trace = kept.traced.trace; logged = kept.traced.logged ∙ sym log; agree = λ p c. kept.traced.agree p c ∙ same p c };
  listed = λ p a v e. subst (λ (xs : List ℕ). Contains xs a) (sym tracked) (kept.listed p a v (same p (Byte a) ∙ e));
  shown = rw log kept.shown;
  calm = λ u below. rw log (kept.calm u below);
  stopped = kept.stopped;
  finished = λ e. absurd (false≢true (sym open_ ∙ e));
  room = kept.room;
  rows = kept.rows;
  inferred = passes_more (with_known s k) (with_known s k') refl (λ p c v e. sym (same p c) ∙ e) refl kept.inferred;
  roomy = roomy;
}
  where
    same : (p : ℕ) (c : Cell) → knows k p c ≡ knows k' p c
    same p (Register r) = rw log refl
    same p (Byte a) = rw facts refl

-- a row that may not write the byte may not by all that is known
spared_now : {W : Type 0} (s : AnalysisState W) → HasLaws (along s.path) → IsKept s → IsQuiet (along s.path) (all_known s) → (i a : ℕ) → a < 2 ^ 32 → IsSpared i a s → may_write (along s.path) (all_known s) i a ≡ false
spared_now s laws kept quiet i a small (inl old) = spared_more (along s.path) laws (told (oldest s.filled s.known.log)) (all_known s) (λ p r w e. oldest_less s.filled s.known.log kept.once p (Register r) w e) (known_words s kept) quiet i a small old
spared_now s laws kept quiet i a small (inr now) = now quiet

-- a byte is brought to where it is carried
module _ {W : Type 0} (s : AnalysisState W) (laws : HasLaws (along s.path)) (kept : IsKept s) (x : Passage) (v : ℕ) (small : x.address < 2 ^ 32) (bridged : IsBridged x s) where
  carries : IsQuiet (along s.path) (all_known s) → Carries (along s.path) (all_known s) (passage x.address x.from x.to)
  carries quiet = record { next = bridged.next; light = bridged.light; spared = λ i may_act. spared_now s laws kept quiet i x.address small (bridged.spared i may_act) }

  pub brought_on : Knows x.from (Byte x.address) v s → IsBrought s (fact_of x.to (Byte x.address) v)
  brought_on h quiet = onward x.address x.from x.to refl refl (carries quiet) h

  pub brought_back : Knows x.to (Byte x.address) v s → IsBrought s (fact_of x.from (Byte x.address) v)
  brought_back h quiet = back x.address x.from x.to refl refl (carries quiet) h

-- it is carried still where more is known
pub bridged_still : {W : Type 0} (s t : AnalysisState W) → HasLaws (along s.path) → IsKept t → Grows s t → (x : Passage) → x.address < 2 ^ 32 → IsBridged x s → IsBridged x t
bridged_still s t laws kept g x small h = record {
  next = rw g.path h.next;
  light = rw g.path h.light;
  spared = λ i may_act. spared_still s t laws (known_words t kept) g.path g.older g.more i x.address small (h.spared i (subst (λ (P : Subject _). P.given.moments.may_act i x.from x.to ≡ true) g.path may_act));
}

pub bridged_after : {W : Type 0} (s t : AnalysisState W) → HasLaws (along s.path) → IsKept t → Grows s t → (m a : ℕ) → a < 2 ^ 32 → IsBridged (passage a m (m + 1)) s → IsBridged (passage a m (m + 1)) t
bridged_after s t laws kept g m a small h = bridged_still s t laws kept g (passage a m (m + 1)) small h

-- it is brought to a point of a course where its values at those before it are known
module _ {W : Type 0} (s t : AnalysisState W) (laws : HasLaws (along s.path)) (kept : IsKept t) (g : Grows s t) (course : Carry) (small : course.address < 2 ^ 32) (q : ℕ) (x : IsLedTo course q s) (before : (p : ℕ) → StandsBefore course q p → Knows p (Byte course.address) course.value t) where
  laws_then : HasLaws (along t.path)
  laws_then = subst (λ (P : Subject W). HasLaws (along P)) (sym g.path) laws

  known_then : Knows x.source (Byte course.address) course.value t
  known_then =
      elim x.known [
        | inl h ↦ g.more x.source (Byte course.address) course.value h
        | inr y ↦ before x.source y
      ]

  pub led_brought : IsBrought t (fact_of q (Byte course.address) course.value)
  led_brought =
      elim x.bridged [
        | inl h ↦ brought_on t laws_then kept (passage course.address x.source q) course.value small (bridged_still s t laws kept g (passage course.address x.source q) small h) known_then
        | inr h ↦ brought_back t laws_then kept (passage course.address q x.source) course.value small (bridged_still s t laws kept g (passage course.address q x.source) small h) known_then
      ]

-- from one number to the one after it
pub spared_led : {W : Type 0} (s : AnalysisState W) (a from to v : ℕ) → IsSparedBetween from to a s → IsLed (record { address = a; from = from; to = to; value = v }) s
spared_led s a from to v spared q (inl x) ne =
    let low = x.0 in
    let high = x.1 in
    let next : q - 1 + 1 ≡ q = omega (arith, low, ne) in
    record {
      source = q - 1;
      known = inr (inl (omega (arith, low, ne), omega (arith, low, ne)));
      bridged = inl (subst (λ (n : ℕ). IsBridged (passage a (q - 1) n) s) next (spared (q - 1) (inl (omega (arith, low, ne), omega (arith, low, high, ne)))));
    }
spared_led s a from to v spared q (inr x) ne =
    let low = x.0 in
    let high = x.1 in
    record {
      source = q + 1;
      known = inr (inr (omega arith, omega (arith, high, ne)));
      bridged = inr (spared q (inr (low, omega (arith, high, ne))));
    }

module _ {W : Type 0} (s : AnalysisState W) (laws : HasLaws (along s.path)) (kept : IsKept s) (open_ : s.complete ≡ false) (a v : ℕ) (small : a < 2 ^ 32) (tracked : IsTracked a s) where
  -- one fact more
  abbrev with_fact : Known → ℕ → Known
  with_fact k p = record { last = k.last; log = k.log; store = record { fact = λ q b. cond (eqb q p && eqb b a) (Some v) (k.store.fact q b); tracked = k.store.tracked; spare = k.store.spare; places = k.store.places }; left = k.left }

  fact_here : (k : Known) (p : ℕ) → (with_fact k p).store.fact p a ≡ Some v
  fact_here k p = cond-true (eqb p p && eqb a a) (Some v) (k.store.fact p a) (and_from (eqb p p) (eqb a a) (eq-eqb p p refl) (eq-eqb a a refl))

  fact_else : (k : Known) (p q b : ℕ) → (q ≡ p → b ≡ a → ⊥) → (with_fact k p).store.fact q b ≡ k.store.fact q b
  fact_else k p q b differs = cond-false (eqb q p && eqb b a) (Some v) (k.store.fact q b) (not_here (eqb q p && eqb b a) refl)
    where
      not_here : (x : Bool) → (eqb q p && eqb b a) ≡ x → (eqb q p && eqb b a) ≡ false
      not_here true e = let parts = and_parts (eqb q p) (eqb b a) e in absurd (differs (eqb-true q p parts.0) (eqb-true b a parts.1))
      not_here false e = e

  same_fact : (k : Known) (p : ℕ) → k.store.fact p a ≡ Some v → with_fact k p ≡ k
  same_fact k p known = ap (λ (f : KnownValues). record { last = k.last; log = k.log; store = record { fact = f; tracked = k.store.tracked; spare = k.store.spare; places = k.store.places }; left = k.left }) (fun_ext (λ (q : ℕ). fun_ext (λ (b : ℕ). at q b)))
    where
      at : (q b : ℕ) → (with_fact k p).store.fact q b ≡ k.store.fact q b
      at q b =
          elim (cases_eq q p) [
            | inr ne ↦ fact_else k p q b (λ e x. ne e)
            | inl e ↦ elim (cases_eq b a) [
              | inr ne ↦ fact_else k p q b (λ x f. ne f)
              | inl f ↦ rw (e, f) (fact_here k p ∙ sym known)
            ]
          ]

  adds : (k : Known) (p : ℕ) → k.store.fact p a ≡ None → AddsByte (known_change true k (with_fact k p)) (record { point = p; address = a; value = v }) false
  adds k p none = record {
    last = refl;
    log = refl;
    left = refl;
    had_room = λ e. absurd (false≢true e);
    store = record { none = none; here = fact_here k p; others = λ q b ne. fact_else k p q b ne; tracked = refl; places = refl; spare = omega arith; beside = λ _ _. omega arith };
  }

  -- the values at one point after another
  abbrev chain : (ℕ → ℕ) → ℕ → AnalysisState W
  chain pt zero = s
  chain pt (suc d) = with_known (chain pt d) (with_fact (chain pt d).known (pt (suc d)))

  chain_is : (pt : ℕ → ℕ) (d : ℕ) → chain pt d ≡ with_known s (chain pt d).known
  chain_is pt zero = refl
  chain_is pt (suc d) = ap (λ (x : AnalysisState W). with_known x (with_fact (chain pt d).known (pt (suc d)))) (chain_is pt d)

  chain_log : (pt : ℕ → ℕ) (d : ℕ) → (chain pt d).known.log ≡ s.known.log
  chain_log pt zero = refl
  chain_log pt (suc d) = chain_log pt d

  chain_last : (pt : ℕ → ℕ) (d : ℕ) → (chain pt d).known.last ≡ s.known.last
  chain_last pt zero = refl
  chain_last pt (suc d) = chain_last pt d

  chain_tracked : (pt : ℕ → ℕ) (d : ℕ) → (chain pt d).known.store.tracked ≡ s.known.store.tracked
  chain_tracked pt zero = refl
  chain_tracked pt (suc d) = chain_tracked pt d

  chain_else : (pt : ℕ → ℕ) (d q b : ℕ) → ((j : ℕ) → 0 < j → j ≤ d → q ≡ pt j → b ≡ a → ⊥) → (chain pt d).known.store.fact q b ≡ s.known.store.fact q b
  chain_else pt zero q b out = refl
  chain_else pt (suc d) q b out = fact_else (chain pt d).known (pt (suc d)) q b (out (suc d) (omega arith) (omega arith)) ∙ chain_else pt d q b (λ j positive le e f. out j positive (omega (arith, le)) e f)

  chain_value : (pt : ℕ → ℕ) (d q w : ℕ) → (chain pt d).known.store.fact q a ≡ Some w → (w ≡ v) ⊎ (s.known.store.fact q a ≡ Some w)
  chain_value pt zero q w e = inr e
  chain_value pt (suc d) q w e =
      elim (cases_eq q (pt (suc d))) [
        | inl is ↦ inl (same_some (sym e ∙ rw is (fact_here (chain pt d).known (pt (suc d)))))
        | inr ne ↦ chain_value pt d q w (sym (fact_else (chain pt d).known (pt (suc d)) q a (λ x f. ne x)) ∙ e)
      ]

  chain_stays : (pt : ℕ → ℕ) (d q : ℕ) → (chain pt d).known.store.fact q a ≡ Some v → (chain pt (suc d)).known.store.fact q a ≡ Some v
  chain_stays pt d q e =
      elim (cases_eq q (pt (suc d))) [
        | inl is ↦ rw is (fact_here (chain pt d).known (pt (suc d)))
        | inr ne ↦ fact_else (chain pt d).known (pt (suc d)) q a (λ x f. ne x) ∙ e
      ]

  module _ (pt : ℕ → ℕ) (D : ℕ) (early : (d : ℕ) → d ≤ D → pt d ≤ s.path.given.moments.end) (free : (d w : ℕ) → d ≤ D → s.known.store.fact (pt d) a ≡ Some w → w ≡ v) (start : s.known.store.fact (pt 0) a ≡ Some v) (reach : (d : ℕ) → d < D → (t : AnalysisState W) → IsKept t → Grows s t → ((j : ℕ) → j ≤ d → Knows (pt j) (Byte a) v t) → IsBrought t (fact_of (pt (suc d)) (Byte a) v)) where
    step : (t : AnalysisState W) → IsKept t → Grows s t → (p : ℕ) → p ≤ s.path.given.moments.end → t.known.store.fact p a ≡ None → IsBrought t (fact_of p (Byte a) v) → IsKept (with_known t (with_fact t.known p)) × Grows t (with_known t (with_fact t.known p))
    step t kept_t g p le none brought =
        let early_t : p ≤ t.path.given.moments.end = subst (λ (P : Subject W). p ≤ P.given.moments.end) (sym g.path) le in
        let both = new_byte t kept_t true p a v early_t small (g.tracked a tracked) (g.complete ∙ open_) (brought_follows t p a v early_t small brought) false (λ _. brought) (with_fact t.known p) (adds t.known p none) kept_t.once (λ more j. room_like t.path t.known (with_fact t.known p) more (omega arith) (omega arith) refl refl (kept_t.roomy j)) in
        (both.0, both.1.grows)

    abbrev IsChained : ℕ → Type 0
    IsChained d = IsKept (chain pt d) × Grows s (chain pt d) × ((j : ℕ) → j ≤ d → Knows (pt j) (Byte a) v (chain pt d))

    chain_kept : (d : ℕ) → d ≤ D → IsChained d
    chain_kept zero le = (kept, Grows_itself s, λ j h. let e : 0 ≡ j = omega (arith, h) in subst (λ (x : ℕ). s.known.store.fact (pt x) a ≡ Some v) e start)
    chain_kept (suc d) le = next (chain_kept d (omega (arith, le))) ((chain pt d).known.store.fact (pt (suc d)) a) refl
      where
        more : ((j : ℕ) → j ≤ d → Knows (pt j) (Byte a) v (chain pt d)) → (j : ℕ) → j ≤ suc d → Knows (pt j) (Byte a) v (chain pt (suc d))
        more all j h =
            elim (cases_eq j (suc d)) [
              | inl e ↦ rw e (fact_here (chain pt d).known (pt (suc d)))
              | inr ne ↦ chain_stays pt d (pt j) (all j (omega (arith, h, ne)))
            ]

        next : IsChained d → (x : Option ℕ) → (chain pt d).known.store.fact (pt (suc d)) a ≡ x → IsChained (suc d)
        next (k, g, all) None none =
            let both = step (chain pt d) k g (pt (suc d)) (early (suc d) le) none (reach d (omega (arith, le)) (chain pt d) k g all) in
            (both.0, Grows_trans s (chain pt d) (chain pt (suc d)) g both.1, more all)
        next (k, g, all) (Some w) some =
            let value : w ≡ v = elim (chain_value pt d (pt (suc d)) w some) [ inl e ↦ e | inr e ↦ free (suc d) w le e ] in
            let known : (chain pt d).known.store.fact (pt (suc d)) a ≡ Some v = some ∙ ap Some value in
            let same : chain pt (suc d) ≡ chain pt d = ap (λ (x : Known). with_known (chain pt d) x) (same_fact (chain pt d).known (pt (suc d)) known) in
            (subst (λ (x : AnalysisState W). IsKept x) (sym same) k, subst (λ (x : AnalysisState W). Grows s x) (sym same) g, more all)

    chain_here : (j : ℕ) → j ≤ D → (chain pt D).known.store.fact (pt j) a ≡ Some v
    chain_here j h = (chain_kept D (omega arith)).2 j h

    -- a store that has these facts
    pub chain_done : (k : Known) → k.last ≡ s.known.last → k.log ≡ s.known.log → k.left ≡ s.known.left → k.store.tracked ≡ s.known.store.tracked → k.store.places ≡ s.known.store.places → (s.work.joins ≡ true → s.known.store.spare ≤ k.store.spare) → ((q b : ℕ) → k.store.fact q b ≡ (chain pt D).known.store.fact q b) → IsKept (with_known s k) × Grows s (with_known s k)
    chain_done k last log left same_tracked places spare same =
        let t = chain_kept D (omega arith) in
        let at : IsKept (with_known s (chain pt D).known) = subst (λ (x : AnalysisState W). IsKept x) (chain_is pt D) t.0 in
        let g : Grows s (with_known s (chain pt D).known) = subst (λ (x : AnalysisState W). Grows s x) (chain_is pt D) t.1 in
        let facts : k.store.fact ≡ (chain pt D).known.store.fact = fun_ext (λ (q : ℕ). fun_ext (λ (b : ℕ). same q b)) in
        let k_log = log ∙ sym (chain_log pt D) in
        let roomy : IsRoomy s → HasRoom s.path k = λ j. room_like s.path s.known k (λ p c w e. more_of p c w (g.more p c w e) facts k_log) (spare j.0) (omega (arith, left)) same_tracked places (kept.roomy j) in (
          kept_like s (chain pt D).known k (last ∙ sym (chain_last pt D)) k_log facts (same_tracked ∙ sym (chain_tracked pt D)) open_ roomy at,
          record {
            path = refl;
            count = refl;
            row = λ i. refl;
            spans = refl;
            filled = refl;
            shown = refl;
            complete = refl;
            conflict = refl;
            answers = rw log refl;
            older = rw log refl;
            longer = rw log (omega arith);
            log = λ t below. ap (λ (fs : List Fact). oldest t fs) log;
            more = λ p c w e. more_of p c w (g.more p c w e) facts k_log;
            tracked = λ b h. subst (λ (xs : List ℕ). Contains xs b) (sym same_tracked) h;
            counted = rw same_tracked (omega arith);
            writing = writings_still s (with_known s k) refl refl (rw log refl) (λ p c w e. more_of p c w (g.more p c w e) facts k_log) refl (λ words p r w e. words p r w (rw log at e));
            fewer = omega arith;
            spent = omega arith;
            words = λ words p r w e. words p r w (rw log at e);
          },
        )
      where
        more_of : (p : ℕ) (c : Cell) (w : ℕ) → knows (chain pt D).known p c ≡ Some w → k.store.fact ≡ (chain pt D).known.store.fact → k.log ≡ (chain pt D).known.log → knows k p c ≡ Some w
        more_of p (Register r) w e facts k_log = rw k_log e
        more_of p (Byte b) w e facts k_log = rw facts e

  -- a store in which the value was spread from a point to another one
  module _ (k : Known) (from to : ℕ) (last : k.last ≡ s.known.last) (log : k.log ≡ s.known.log) (left : k.left ≡ s.known.left) (from_early : from ≤ s.path.given.moments.end) (to_early : to ≤ s.path.given.moments.end) (known : Knows from (Byte a) v s) (led : IsLed (record { address = a; from = from; to = to; value = v }) s) (spreads : Spreads (change s.work.joins s.known.store k.store) (record { address = a; from = from; to = to; value = v })) where
    start_up : s.known.store.fact (from + 0) a ≡ Some v
    start_up = let e : from ≡ from + 0 = omega arith in subst (λ (p : ℕ). s.known.store.fact p a ≡ Some v) e known

    start_down : s.known.store.fact (from - 0) a ≡ Some v
    start_down = let e : from ≡ from - 0 = omega arith in subst (λ (p : ℕ). s.known.store.fact p a ≡ Some v) e known

    up : from ≤ to → IsKept (with_known s k) × Grows s (with_known s k)
    up le = chain_done (λ d. from + d) (to - from) (λ d h. omega (arith, h, to_early, le)) (λ d w h e. spreads.free (from + d) w (inl (omega arith, omega (arith, h, le))) e) start_up reach k last log left spreads.tracked spreads.places spreads.spare same
      where
        reach : (d : ℕ) → d < to - from → (t : AnalysisState W) → IsKept t → Grows s t → ((j : ℕ) → j ≤ d → Knows (from + j) (Byte a) v t) → IsBrought t (fact_of (from + suc d) (Byte a) v)
        reach d lt t kept_t g all =
            led_brought s t laws kept_t g (record { address = a; from = from; to = to; value = v }) small (from + suc d) (led (from + suc d) (inl (omega arith, omega (arith, lt))) (λ e. omega (arith, e))) before
          where
            before : (p : ℕ) → StandsBefore (record { address = a; from = from; to = to; value = v }) (from + suc d) p → Knows p (Byte a) v t
            before p (inl x) = let low = x.0 in let high = x.1 in let at : from + (p - from) ≡ p = omega (arith, low) in subst (λ (n : ℕ). Knows n (Byte a) v t) at (all (p - from) (omega (arith, low, high)))
            before p (inr x) = let low = x.0 in let high = x.1 in absurd (omega (arith, low, high))

        same : (q b : ℕ) → k.store.fact q b ≡ (chain (λ d. from + d) (to - from)).known.store.fact q b
        same q b =
            elim (cases_eq b a) [
              | inr ne ↦ spreads.others q b (λ x f. ne f) ∙ sym (chain_else (λ d. from + d) (to - from) q b (λ j positive h e f. ne f))
              | inl is ↦ elim (cases_lt q from) [
                | inl low ↦ spreads.others q b (λ x f. elim x [ inl y ↦ let z = y.0 in omega (arith, z, low) | inr y ↦ let z = y.0 in omega (arith, z, low, le) ]) ∙ sym (chain_else (λ d. from + d) (to - from) q b (λ j positive h e f. omega (arith, e, low)))
                | inr high ↦ elim (cases_lt to q) [
                  | inl past ↦ spreads.others q b (λ x f. elim x [ inl y ↦ let z = y.1 in omega (arith, z, past) | inr y ↦ let z = y.1 in omega (arith, z, past, le) ]) ∙ sym (chain_else (λ d. from + d) (to - from) q b (λ j positive h e f. omega (arith, e, h, past, le)))
                  | inr under ↦
                      let at : from + (q - from) ≡ q = omega (arith, high) in
                      let there = chain_here (λ d. from + d) (to - from) (λ d h. omega (arith, h, to_early, le)) (λ d w h e. spreads.free (from + d) w (inl (omega arith, omega (arith, h, le))) e) start_up reach (q - from) (omega (arith, under)) in
                      let value : (chain (λ d. from + d) (to - from)).known.store.fact q a ≡ Some v = subst (λ (p : ℕ). (chain (λ d. from + d) (to - from)).known.store.fact p a ≡ Some v) at there in
                      rw is (spreads.here q (inl (high, under)) ∙ sym value)
                ]
              ]
            ]

    down : to ≤ from → IsKept (with_known s k) × Grows s (with_known s k)
    down le = chain_done (λ d. from - d) (from - to) (λ d h. omega (arith, from_early)) (λ d w h e. spreads.free (from - d) w (inr (omega (arith, h, le), omega arith)) e) start_down reach k last log left spreads.tracked spreads.places spreads.spare same
      where
        reach : (d : ℕ) → d < from - to → (t : AnalysisState W) → IsKept t → Grows s t → ((j : ℕ) → j ≤ d → Knows (from - j) (Byte a) v t) → IsBrought t (fact_of (from - suc d) (Byte a) v)
        reach d lt t kept_t g all =
            led_brought s t laws kept_t g (record { address = a; from = from; to = to; value = v }) small (from - suc d) (led (from - suc d) (inr (omega (arith, lt), omega arith)) (λ e. omega (arith, e, lt))) before
          where
            before : (p : ℕ) → StandsBefore (record { address = a; from = from; to = to; value = v }) (from - suc d) p → Knows p (Byte a) v t
            before p (inl x) = let low = x.0 in let high = x.1 in absurd (omega (arith, low, high))
            before p (inr x) = let low = x.0 in let high = x.1 in let at : from - (from - p) ≡ p = omega (arith, high) in subst (λ (n : ℕ). Knows n (Byte a) v t) at (all (from - p) (omega (arith, low, high, lt)))

        same : (q b : ℕ) → k.store.fact q b ≡ (chain (λ d. from - d) (from - to)).known.store.fact q b
        same q b =
            elim (cases_eq b a) [
              | inr ne ↦ spreads.others q b (λ x f. ne f) ∙ sym (chain_else (λ d. from - d) (from - to) q b (λ j positive h e f. ne f))
              | inl is ↦ elim (cases_lt q to) [
                | inl low ↦ spreads.others q b (λ x f. elim x [ inl y ↦ let z = y.0 in omega (arith, z, low, le) | inr y ↦ let z = y.0 in omega (arith, z, low) ]) ∙ sym (chain_else (λ d. from - d) (from - to) q b (λ j positive h e f. omega (arith, e, h, low, le)))
                | inr high ↦ elim (cases_lt from q) [
                  | inl past ↦ spreads.others q b (λ x f. elim x [ inl y ↦ let z = y.1 in omega (arith, z, past, le) | inr y ↦ let z = y.1 in omega (arith, z, past) ]) ∙ sym (chain_else (λ d. from - d) (from - to) q b (λ j positive h e f. omega (arith, e, past)))
                  | inr under ↦
                      let at : from - (from - q) ≡ q = omega (arith, under) in
                      let there = chain_here (λ d. from - d) (from - to) (λ d h. omega (arith, from_early)) (λ d w h e. spreads.free (from - d) w (inr (omega (arith, h, le), omega arith)) e) start_down reach (from - q) (omega (arith, high)) in
                      let value : (chain (λ d. from - d) (from - to)).known.store.fact q a ≡ Some v = subst (λ (p : ℕ). (chain (λ d. from - d) (from - to)).known.store.fact p a ≡ Some v) at there in
                      rw is (spreads.here q (inr (high, under)) ∙ sym value)
                ]
              ]
            ]

    pub spread_kept : IsKept (with_known s k) × Grows s (with_known s k)
    spread_kept =
        elim (cases_lt to from) [
          | inl less ↦ down (omega (arith, less))
          | inr more ↦ up more
        ]

-- what a store's answer to `carry` comes to
module _ {W : Type 0} (s : AnalysisState W) (laws : HasLaws (along s.path)) (kept : IsKept s) (open_ : s.complete ≡ false) (a from to v : ℕ) (small : a < 2 ^ 32) (from_early : from ≤ s.path.given.moments.end) (to_early : to ≤ s.path.given.moments.end) (known : Knows from (Byte a) v s) (led : IsLed (record { address = a; from = from; to = to; value = v }) s) where
  tracked : IsTracked a s
  tracked = kept.listed from a v known

  between_early : (q : ℕ) → Between from to q → q ≤ s.path.given.moments.end
  between_early q (inl y) = let z = y.1 in omega (arith, z, to_early)
  between_early q (inr y) = let z = y.1 in omega (arith, z, from_early)

  wider : (before q : ℕ) → Between from to before → Between from before q → Between from to q
  wider before q (inl y) (inl x) = let high = y.1 in let low = x.1 in inl (x.0, omega (arith, high, low))
  wider before q (inl y) (inr x) = let low = y.0 in let high = y.1 in let under = x.0 in let over = x.1 in inl (omega (arith, low, under), omega (arith, low, high, over))
  wider before q (inr y) (inl x) = let low = y.0 in let high = y.1 in let under = x.0 in let over = x.1 in inr (omega (arith, low, high, under), omega (arith, high, over))
  wider before q (inr y) (inr x) = let low = y.0 in let high = x.0 in inr (omega (arith, low, high), x.1)

  within : (before : ℕ) → Between from to before → IsLed (record { address = a; from = from; to = before; value = v }) s
  within before at q between ne = let x = led q (wider before q at between) ne in record { source = x.source; known = x.known; bridged = x.bridged }

  spread : (k : Known) → SameLog s.known k → (before : ℕ) → Between from to before → Spreads (change s.work.joins s.known.store k.store) (record { address = a; from = from; to = before; value = v }) → IsKept (with_known s k) × Grows s (with_known s k)
  spread k log before at h = spread_kept s laws kept open_ a v small tracked k from before log.last log.log log.left from_early (between_early before at) known (within before at) h

  -- what comes before a point that wasn't reached was reached
  module _ (before stop : ℕ) (out : Between from before stop → ⊥) where
    not_first : Between from to before → stop ≢ from
    not_first (inl y) e = let low = y.0 in out (inl (omega (arith, e), omega (arith, e, low)))
    not_first (inr y) e = let high = y.1 in out (inr (omega (arith, e, high), omega (arith, e)))

    reached : (before + 1 ≡ stop) ⊎ (stop + 1 ≡ before) → Between from to before → Between from to stop → (p : ℕ) → StandsBefore (record { address = a; from = from; to = to; value = v }) stop p → Between from before p
    reached (inl next) (inl y) (inl x) p (inl z) = let high = z.1 in inl (z.0, omega (arith, next, high))
    reached (inl next) (inl y) (inl x) p (inr z) = let low = x.0 in let under = z.0 in let over = z.1 in absurd (omega (arith, low, under, over))
    reached (inr next) (inl y) (inl x) p z = absurd (out (inl (x.0, omega (arith, next))))
    reached (inl next) (inr y) (inr x) p z = absurd (out (inr (omega (arith, next), x.1)))
    reached (inr next) (inr y) (inr x) p (inl z) = let high = x.1 in let under = z.0 in let over = z.1 in absurd (omega (arith, high, under, over))
    reached (inr next) (inr y) (inr x) p (inr z) = let low = z.0 in inr (omega (arith, next, low), z.1)
    reached (inl next) (inl y) (inr x) p z = let b = y.1 in let c = x.0 in let d = x.1 in let e = y.0 in absurd (omega (arith, next, b, c, d, e))
    reached (inr next) (inl y) (inr x) p z = let b = y.1 in let c = x.0 in let d = x.1 in let e = y.0 in absurd (omega (arith, next, b, c, d, e))
    reached (inl next) (inr y) (inl x) p z = let b = y.1 in let c = x.0 in let d = x.1 in let e = y.0 in absurd (omega (arith, next, b, c, d, e))
    reached (inr next) (inr y) (inl x) p z = let b = y.1 in let c = x.0 in let d = x.1 in let e = y.0 in absurd (omega (arith, next, b, c, d, e))

  same_known_is : (k : Known) → SameLog s.known k → k.store ≡ s.known.store → k ≡ s.known
  same_known_is k log store =
      ap (λ (x : ℕ). record { last = x; log = k.log; store = k.store; left = k.left }) log.last
      ∙ ap (λ (x : List Fact). record { last = s.known.last; log = x; store = k.store; left = k.left }) log.log
      ∙ ap (λ (x : Store). record { last = s.known.last; log = s.known.log; store = x; left = k.left }) store
      ∙ ap (λ (x : ℕ). record { last = s.known.last; log = s.known.log; store = s.known.store; left = x }) log.left

  pub sent : (k : Known) → SameLog s.known k → (r : Result Carried AllocError) → StoreCarries (change s.work.joins s.known.store k.store) (record { address = a; from = from; to = to; value = v }) r → IsKept (with_known s k) × Sends s (with_known s k) (record { address = a; from = from; to = to; value = v }) r
  sent k log (Ok Same) (stays, h) =
      let same = same_known_is k log (stays_same s.known.store k.store stays) in
      (kept_same s k same kept, (same_known s k same, λ q between. sym (stays.fact q a) ∙ h.here q between))
  sent k log (Ok More) h =
      let both = spread_kept s laws kept open_ a v small tracked k from to log.last log.log log.left from_early to_early known led h.0 in
      let q = h.1.0 in
      (both.0, (both.1, fact q (Byte a) v (between_early q h.1.1) small h.1.2 (h.0.here q h.1.1), refl))
  sent k log (Ok (Stop stop k_known found)) (value, stops) =
      let r = stops.reaches in
      let both = spread k log r.before r.toward r.spreads in
      let t = with_known s k in
      let out : Between from r.before stop → ⊥ = λ at. stops.differs (r.spreads.free stop found at stops.other) in
      let source = led stop r.within (not_first r.before stop out r.toward) in
      let brought = led_brought s t laws both.0 both.1 (record { address = a; from = from; to = to; value = v }) small stop source (λ p first. r.spreads.here p (reached r.before stop out r.next r.toward r.within p first)) in
      (both.0, (both.1, record { is_known = both.1.more stop (Byte a) found stops.other; differs = stops.differs; follows = brought_follows t stop a v (between_early stop r.within) small brought }, value))
  sent k log (Err e) h = let both = spread k log h.reaches.before h.reaches.toward h.reaches.spreads in (both.0, (both.1, λ j. false≢true (sym h.plain ∙ j.0)))

-- a segment in which no row may write the byte
pub segment_spread : {W : Type 0} (s : AnalysisState W) (a from to at v : ℕ) → from ≤ at → at ≤ to → IsSpreadTo (record { address = a; from = at; to = to; value = v }) s → IsSpreadTo (record { address = a; from = at; to = from; value = v }) s → IsCarriedFrom a from to s
segment_spread s a from to at v low high right left i le lt = record {
  onward = λ w spared h. each (i + 1) (omega (arith, le)) (omega (arith, lt)) ∙ ap Some (same_some (sym (each i le (omega (arith, lt))) ∙ h));
  back = λ w spared h. each i le (omega (arith, lt)) ∙ ap Some (same_some (sym (each (i + 1) (omega (arith, le)) (omega (arith, lt))) ∙ h));
}
  where
    each : (q : ℕ) → from ≤ q → q ≤ to → Knows q (Byte a) v s
    each q low_q high_q =
        elim (cases_lt q at) [
          | inl less ↦ left q (inr (low_q, omega (arith, less)))
          | inr more ↦ right q (inl (more, high_q))
        ]

pub next_value : {W : Type 0} (s : AnalysisState W) (a from at : ℕ) (stretch : ValueStretch) → Nexts s.known.store.fact a from (Some stretch) → at ≡ max stretch.first from → Knows at (Byte a) stretch.value s
next_value s a from at stretch h is =
    let reaches = h.reaches in
    let ordered = h.run.ordered in
    h.run.value at (omega (arith, is)) (omega (arith, is, reaches, ordered))

pub next_at : (from to at first : ℕ) → from ≤ to → first ≤ to → at ≡ max first from → (from ≤ at) × (at ≤ to)
next_at from to at first le reach is = (omega (arith, is), omega (arith, is, reach, le))

-- one stretch has all points of a segment
pub segment_covered : {W : Type 0} (s : AnalysisState W) (a from to : ℕ) (stretch : ValueStretch) → Nexts s.known.store.fact a from (Some stretch) → (stretch.first ≤ from) × (to ≤ stretch.last) → IsCarriedFrom a from to s
segment_covered s a from to stretch h covers i le lt =
    let low = covers.0 in
    let high = covers.1 in
    let here = h.run.value i (omega (arith, low, le)) (omega (arith, high, lt)) in
    let after = h.run.value (i + 1) (omega (arith, low, le)) (omega (arith, high, lt)) in
    record {
      onward = λ w spared e. after ∙ ap Some (same_some (sym here ∙ e));
      back = λ w spared e. here ∙ ap Some (same_some (sym after ∙ e));
    }

pub spared_down : {W : Type 0} (s : AnalysisState W) (from to at a : ℕ) → from ≤ at → at ≤ to → IsSparedBetween from to a s → IsSparedBetween at from a s
spared_down s from to at a low high h i (inl x) = let p = x.0 in let q = x.1 in absurd (omega (arith, p, q, low))
spared_down s from to at a low high h i (inr x) = let q = x.1 in h i (inl (x.0, omega (arith, q, high)))
