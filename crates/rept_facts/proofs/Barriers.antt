-- The rows by which bytes are carried stay such rows as more is known, and when one of them is put
-- in their list anew.
use Rattle.std.proofs.Common.{◌≡◌, ℕ, zero, suc, ◌+◌, ◌<◌, ◌^◌, false, List, length, Some, inl, inr, refl, sym, ap, subst, ◌∙◌, arith, get_or, set, slice_get}
use Rattle.std.specs.Option.{IsSome}
use Rattle.std.proofs.lemmas.Bool.{cases_eq}
use Rattle.std.proofs.lemmas.List.{length-set}
use Rattle.std.proofs.lemmas.Option.{slice_get-get_or, slice_get_within}
use Rattle.rept_alias.specs.Accesses.{call_hits}
use Rattle.rept_alias.specs.declared.addresses.CallAccess.{CallAccess}
use Rattle.rept_reason.specs.declared.fact.Cell.{Cell}
use Rattle.rept_reason.specs.declared.fact.Cell.TheVariants.{Register}
use Rattle.rept_span.proofs.Filling.{set_here, set_elsewhere}
use Rattle.rept_report.specs.Reach.Reaching.{IsExtent}
use Rattle.rept_writing.specs.Hits.{AreInOrder}
use Rattle.rept_writing.specs.declared.list.Writing.{Writing}
use Rattle.rept_report.specs.Setting.{HasLaws}
use Rattle.rept_report.specs.Views.{may_write}
use Rattle.rept_report.specs.Conclusions.{HasWords}
use Rattle.rept_report.specs.Conflicts.{IsQuiet}
use Rattle.rept_report.specs.Log.{oldest}
use Rattle.rept_report.proofs.Monotony.{quiet_less, spared_more}
use Rattle.rept_facts.specs.Work.{number_past}
use Rattle.rept_facts.specs.State.{AnalysisState, all_known, with_writing, Subject, along}
use Rattle.rept_facts.specs.Inferring.{Knows, IsSilent, IsSpared, IsSparedNow, IsInList, past, IsBarrier, AreBarriers, AreWritings, Grows}

module _ {W : Type 0} (s t : AnalysisState W) (laws : HasLaws (along s.path)) (words : HasWords (all_known t)) (setting : t.path ≡ s.path) (older : oldest t.filled t.known.log ≡ oldest s.filled s.known.log) (more : (p : ℕ) (c : Cell) (v : ℕ) → Knows p c v s → Knows p c v t) where
  -- a row that may not write a byte may not where more is known
  pub spared_still : (i a : ℕ) → a < 2 ^ 32 → IsSpared i a s → IsSpared i a t
  spared_still i a small (inl old) = inl (rw (setting, older) old)
  spared_still i a small (inr now) = inr (subst (λ (P : Subject W). IsQuiet (along P) (all_known t) → may_write (along P) (all_known t) i a ≡ false) (sym setting) (λ quiet.
      spared_more (along s.path) laws (all_known s) (all_known t) (λ p r v e. more p (Register r) v e) words quiet i a small (now (quiet_less (along s.path) laws (all_known s) (all_known t) (λ p r v e. more p (Register r) v e) quiet))))

  silent_still : (i : ℕ) → IsSilent i s → IsSilent i t
  silent_still i h a small = rw (setting, older) (h a small)

  pub barriers_still : (list : List Writing) → AreBarriers list s → AreBarriers list t
  barriers_still list h = record {
    each = λ k w at.
        let x = h.each k w at in
        record {
          there = rw setting x.there;
          time = rw setting x.time;
          extent = subst (λ (P : Subject W). IsExtent P.given.moments w.row (record { from = w.from; to = w.to })) (sym setting) x.extent;
          others = λ a small miss. spared_still w.row a small (x.others a small miss);
        };
    order = h.order;
    all = λ i there.
        elim (h.all i (subst (λ (P : Subject W). IsSome (P.given.legs.row i)) setting there)) [
          | inl listed ↦ inl listed
          | inr silent ↦ inr (silent_still i silent)
        ];
  }

pub writings_still : {W : Type 0} (s t : AnalysisState W) → t.path ≡ s.path → t.spans ≡ s.spans → oldest t.filled t.known.log ≡ oldest s.filled s.known.log → ((p : ℕ) (c : Cell) (v : ℕ) → Knows p c v s → Knows p c v t) → t.work.writing ≡ s.work.writing → (HasWords (all_known s) → HasWords (all_known t)) → AreWritings s → AreWritings t
writings_still s t setting spans older more same words h = record {
  laws = subst (λ (P : Subject _). HasLaws (along P)) (sym setting) h.laws;
  words = words h.words;
  fitted = rw (setting, spans, older) h.fitted;
  barriers = subst (λ (list : List Writing). AreBarriers list t) (sym same) (barriers_still s t h.laws (words h.words) setting older more s.work.writing h.barriers);
}

same_writing : {x y : Writing} → Some x ≡ Some y → x ≡ y
same_writing e = cc

-- the number after that of the entry at an index
pub past_at : (list : List Writing) (k : ℕ) (w : Writing) → slice_get list k ≡ Some w → past list (k + 1) ≡ w.at + 1
past_at list k w at = at_suc (k + 1) refl
  where
    at_suc : (n : ℕ) → n ≡ k + 1 → past list n ≡ w.at + 1
    at_suc zero e = absurd (omega (arith, e))
    at_suc (suc m) e = let same : m ≡ k = omega (arith, e) in rw same (ap number_past at)

-- another entry of the same row at an index
module _ (list : List Writing) (k : ℕ) (w x : Writing) (found : slice_get list k ≡ Some w) (row : x.row ≡ w.row) where
  there : slice_get (set list k x) k ≡ Some x
  there = set_here list k x (slice_get_within list k w found)

  listed_set : (i : ℕ) → IsInList list i → IsInList (set list k x) i
  listed_set i h =
      elim (cases_eq h.index k) [
        | inl e ↦
            let same : w ≡ h.writing = same_writing (sym found ∙ subst (λ (n : ℕ). slice_get list n ≡ Some h.writing) e h.found) in
            record { index = k; writing = x; found = there; row = row ∙ ap (λ (y : Writing). y.row) same ∙ h.row }
        | inr ne ↦ record { index = h.index; writing = h.writing; found = set_elsewhere list k h.index x ne ∙ h.found; row = h.row }
      ]

  module _ (time : x.at ≡ w.at) where
    at_set : (i : ℕ) (d : Writing) → i < length list → (get_or (set list k x) i d).at ≡ (get_or list i d).at
    at_set i d inside =
        let long = length-set list k x in
        let new = slice_get-get_or (set list k x) i d (omega (arith, inside, long)) in
        let old = slice_get-get_or list i d inside in
        elim (cases_eq i k) [
          | inl e ↦
              let here : x ≡ get_or (set list k x) i d = same_writing (sym there ∙ subst (λ (n : ℕ). slice_get (set list k x) n ≡ Some (get_or (set list k x) i d)) e new) in
              let before : w ≡ get_or list i d = same_writing (sym found ∙ subst (λ (n : ℕ). slice_get list n ≡ Some (get_or list i d)) e old) in
              sym (ap (λ (y : Writing). y.at) here) ∙ time ∙ ap (λ (y : Writing). y.at) before
          | inr ne ↦ ap (λ (y : Writing). y.at) (same_writing (sym new ∙ set_elsewhere list k i x ne ∙ old))
        ]

    order_set : AreInOrder list → AreInOrder (set list k x)
    order_set order i j d le lt =
        let long = length-set list k x in
        let before = order i j d le (omega (arith, lt, long)) in
        let first = at_set i d (omega (arith, le, lt, long)) in
        let second = at_set j d (omega (arith, lt, long)) in
        omega (arith, before, first, second)

  module _ {W : Type 0} (s : AnalysisState W) (free : (a : ℕ) → a < 2 ^ 32 → call_hits x.access a ≡ false → IsSparedNow w.row a s) (time : x.at ≡ s.path.given.moments.before w.row) (extent : IsExtent s.path.given.moments w.row (record { from = x.from; to = x.to })) (h : AreBarriers list s) where
    anew_here : IsBarrier x s
    anew_here =
        let old = h.each k w found in
        record {
          there = rw row old.there;
          time = rw row time;
          extent = subst (λ (i : ℕ). IsExtent s.path.given.moments i (record { from = x.from; to = x.to })) (sym row) extent;
          others = λ a small miss. rw row (inr (free a small miss));
        }

    anew_each : (j : ℕ) (y : Writing) → slice_get (set list k x) j ≡ Some y → IsBarrier y s
    anew_each j y at =
        elim (cases_eq j k) [
          | inl e ↦ let same : x ≡ y = same_writing (sym there ∙ subst (λ (n : ℕ). slice_get (set list k x) n ≡ Some y) e at) in subst (λ (z : Writing). IsBarrier z s) same anew_here
          | inr ne ↦ h.each j y (sym (set_elsewhere list k j x ne) ∙ at)
        ]

    pub barriers_anew : AreBarriers (set list k x) s
    barriers_anew = record {
      each = anew_each;
      order = order_set (time ∙ sym (h.each k w found).time) h.order;
      all = λ i some.
          elim (h.all i some) [
            | inl listed ↦ inl (listed_set i listed)
            | inr silent ↦ inr silent
          ];
    }

barriers_listed : {W : Type 0} (s : AnalysisState W) (rows list : List Writing) → AreBarriers rows s → AreBarriers rows (with_writing s list)
barriers_listed s rows list h = record {
  each = λ k w at. let x = h.each k w at in record { there = x.there; time = x.time; extent = x.extent; others = x.others };
  order = h.order;
  all = h.all;
}

-- a row of the list was put in it anew, with what it may write by all that is known by now
pub put_writings : {W : Type 0} (s t : AnalysisState W) (k : ℕ) (w x : Writing) → slice_get s.work.writing k ≡ Some w → x.row ≡ w.row → ((a : ℕ) → a < 2 ^ 32 → call_hits x.access a ≡ false → IsSparedNow w.row a s) → x.at ≡ s.path.given.moments.before w.row → IsExtent s.path.given.moments w.row (record { from = x.from; to = x.to }) → t ≡ with_writing s (set s.work.writing k x) → AreWritings s → AreWritings t
put_writings s t k w x found row free time extent is h = subst (λ (y : AnalysisState _). AreWritings y) (sym is) (record {
  laws = h.laws;
  words = h.words;
  fitted = h.fitted;
  barriers = barriers_listed s (set s.work.writing k x) (set s.work.writing k x) (barriers_anew s.work.writing k w x found row s free time extent h.barriers);
})

-- only the list differs
pub put_grows : {W : Type 0} (s t : AnalysisState W) (list : List Writing) → t ≡ with_writing s list → (AreWritings s → AreWritings t) → Grows s t
put_grows s t list is keeps = subst (λ (y : AnalysisState _). (AreWritings s → AreWritings y) → Grows s y) (sym is) (λ f. record { path = refl; count = refl; row = λ i. refl; spans = refl; filled = refl; shown = refl; complete = refl; conflict = refl; answers = refl; older = refl; longer = omega arith; log = λ t h. refl; more = λ p c v e. e; tracked = λ a h. h; counted = omega arith; writing = f; fewer = omega arith; spent = omega arith; words = λ w. w }) keeps

-- row i of the list was put in it anew, with what it may write by all that is known by now, and all
-- else stayed
module _ {W : Type 0} (s t : AnalysisState W) (k i : ℕ) (x : Writing) (access : CallAccess) (row : x.row ≡ i) (its : x.access ≡ access) (within : k < length s.work.writing) (listed : (w : Writing) → slice_get s.work.writing k ≡ Some w → w.row ≡ i) where
  abbrev former : Writing
  former = get_or s.work.writing k x

  found : slice_get s.work.writing k ≡ Some former
  found = slice_get-get_or s.work.writing k x within

  same : i ≡ former.row
  same = sym (listed former found)

  pub anew_grows : ((a : ℕ) → a < 2 ^ 32 → call_hits access a ≡ false → IsSparedNow i a s) → x.at ≡ s.path.given.moments.before i → IsExtent s.path.given.moments i (record { from = x.from; to = x.to }) → t ≡ with_writing s (set s.work.writing k x) → Grows s t
  anew_grows free time extent is =
      put_grows s t (set s.work.writing k x) is (put_writings s t k former x found (row ∙ same)
      (λ a small miss. subst (λ (j : ℕ). IsSparedNow j a s) same (free a small (subst (λ (y : CallAccess). call_hits y a ≡ false) its miss)))
      (subst (λ (j : ℕ). x.at ≡ s.path.given.moments.before j) same time)
      (subst (λ (j : ℕ). IsExtent s.path.given.moments j (record { from = x.from; to = x.to })) same extent)
      is)
