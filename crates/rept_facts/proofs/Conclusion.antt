-- Drawings one after another.
use Rattle.std.proofs.Common.{◌≡◌, ◌≢◌, ℕ, ◌+◌, ◌-◌, ◌<◌, ◌≤◌, Bool, true, false, ◌||◌, List, length, Option, Some, None, Result, Ok, Err, IfOk, inl, inr, refl, sym, ap, subst, ◌∙◌, arith, Contains}
use Rattle.std.proofs.lemmas.Bool.{cases_lt, or_parts, false≢true, true≢false}
use Rattle.std.proofs.Common.{slice_get}
use Rattle.rept_isa.specs.declared.row.StepRow.{StepRow}
use Rattle.rept_reason.specs.declared.fact.Cell.{Cell}
use Rattle.rept_report.specs.Setting.{IsInstant}
use Rattle.rept_facts.specs.State.{AnalysisState, Subject, all_known, along}
use Rattle.std.proofs.lemmas.Option.{slice_get-get_or, slice_get_within}
use Rattle.rept_reason.specs.declared.view.inferred.Conclusion.{Conclusion}
use Rattle.rept_report.proofs.Told.{same_some}
use Rattle.rept_report.specs.Why.{fact_of}
use Rattle.rept_facts.specs.Inferring.{Knows, IsTracked, Grows, HasNews, HasInferred, IsFollowing, IsClash, KnowsInferred, InferredBelow, IsConclusion, AreConclusions, IsUncut, IsRowClosed}
use Rattle.rept_facts.specs.Inferring.HasNews.{fact, address, anew}

pub Grows_itself : {W : Type 0} (a : AnalysisState W) → Grows a a
Grows_itself a = record { path = refl; count = refl; row = λ i. refl; spans = refl; filled = refl; shown = refl; complete = refl; conflict = refl; answers = refl; older = refl; longer = omega arith; log = λ t h. refl; more = λ p c v e. e; tracked = λ x h. h; counted = omega arith; writing = λ h. h; fewer = omega arith; spent = omega arith; words = λ w. w }

-- where nothing changed, no less is known
pub Grows_same : {W : Type 0} (a b : AnalysisState W) → b ≡ a → Grows a b
Grows_same a b same = subst (λ (x : AnalysisState _). Grows a x) (sym same) (Grows_itself a)

pub Grows_trans : {W : Type 0} (a b c : AnalysisState W) → Grows a b → Grows b c → Grows a c
Grows_trans a b c g h = record {
  path = h.path ∙ g.path;
  count = h.count ∙ g.count;
  row = λ i. h.row i ∙ g.row i;
  spans = h.spans ∙ g.spans;
  filled = h.filled ∙ g.filled;
  shown = h.shown ∙ g.shown;
  complete = h.complete ∙ g.complete;
  conflict = h.conflict ∙ g.conflict;
  answers = h.answers ∙ g.answers;
  older = h.older ∙ g.older;
  longer = let i = g.longer in let j = h.longer in omega (arith, i, j);
  log = λ t below. h.log t (let i = g.longer in omega (arith, i, below)) ∙ g.log t below;
  more = λ p d v e. h.more p d v (g.more p d v e);
  tracked = λ x t. h.tracked x (g.tracked x t);
  counted = let i = g.counted in let j = h.counted in omega (arith, i, j);
  writing = λ w. h.writing (g.writing w);
  fewer = let i = g.fewer in let j = h.fewer in omega (arith, i, j);
  spent = let i = g.spent in let j = h.spent in omega (arith, i, j);
  words = λ w. h.words (g.words w);
}

-- news stay news
pub news_then : {W : Type 0} (a b c : AnalysisState W) → Grows b c → HasNews a b → HasNews a c
news_then a b c g (fact p d v early cell none here) = fact p d v early cell none (g.more p d v here)
news_then a b c g (address x small was_not here) = address x small was_not (g.tracked x here)
news_then a b c g (anew less) = anew (let more = g.fewer in omega (arith, more, less))

pub news_before : {W : Type 0} (a b c : AnalysisState W) → Grows a b → HasNews b c → HasNews a c
news_before a b c g (fact p d v early cell none here) = fact p d v (subst (λ (P : Subject _). IsInstant (along P) d p) g.path early) cell (was_none (all_known a p d) refl) here
  where
    was_none : (x : Option ℕ) → all_known a p d ≡ x → all_known a p d ≡ None
    was_none None e = e
    was_none (Some w) e = absurd (differs (sym none ∙ g.more p d w e))
      where
        differs : None ≡ Some w → ⊥
        differs z = cc
news_before a b c g (address x small was_not here) = address x small (λ t. was_not (g.tracked x t)) here
news_before a b c g (anew less) = anew (let more = g.fewer in omega (arith, more, less))

module _ {W : Type 0} (a b c : AnalysisState W) (x y : Bool) (P Q R : AnalysisState W → Type 0) where
  -- two drawings, one after the other
  pub HasInferred_both : Grows a b → Grows b c → HasInferred a b x P → HasInferred b c y Q → (P a → Q a → R a) → HasInferred a c (x || y) R
  HasInferred_both g h p q r = record {
    news = λ e. newer x y p q e;
    unchanged = λ e. let parts = or_parts x y e in q.unchanged parts.1 ∙ p.unchanged parts.0;
    closed = λ e. let parts = or_parts x y e in r (p.closed parts.0) (subst Q (p.unchanged parts.0) (q.closed parts.1));
    uncut = λ h. q.uncut (p.uncut h);
  }
    where
      newer : (x y : Bool) → HasInferred a b x P → HasInferred b c y Q → (x || y) ≡ true → HasNews a c
      newer true y p q e = news_then a b c h (p.news refl)
      newer false true p q e = news_before a b c g (q.news refl)
      newer false false p q e = absurd (false≢true e)

  -- the second of which changed nothing
  pub HasInferred_first : Grows b c → y ≡ false → HasInferred a b x P → HasInferred b c y Q → (P a → Q a → R a) → HasInferred a c x R
  HasInferred_first h calm p q r = record {
    news = λ e. news_then a b c h (p.news e);
    unchanged = λ e. q.unchanged calm ∙ p.unchanged e;
    closed = λ e. r (p.closed e) (subst Q (p.unchanged e) (q.closed calm));
    uncut = λ u. q.uncut (p.uncut u);
  }

  -- the first of which changed nothing
  pub HasInferred_second : x ≡ false → Grows a b → HasInferred a b x P → HasInferred b c y Q → (P a → Q a → R a) → HasInferred a c y R
  HasInferred_second calm g p q r = record {
    news = λ e. news_before a b c g (q.news e);
    unchanged = λ e. q.unchanged e ∙ p.unchanged calm;
    closed = λ e. r (p.closed calm) (subst Q (p.unchanged calm) (q.closed e));
    uncut = λ u. q.uncut (p.uncut u);
  }

  -- the first of which brought news
  pub HasInferred_further : Grows b c → x ≡ true → HasInferred a b x P → HasInferred b c y Q → HasInferred a c true R
  HasInferred_further h loud p q = record {
    news = λ _. news_then a b c h (p.news loud);
    unchanged = λ e. absurd (true≢false e);
    closed = λ e. absurd (true≢false e);
    uncut = λ u. q.uncut (p.uncut u);
  }

pub HasInferred_as : {W : Type 0} (a b : AnalysisState W) (x : Bool) (P Q : AnalysisState W → Type 0) → HasInferred a b x P → (P a → Q a) → HasInferred a b x Q
HasInferred_as a b x P Q d f = record { news = d.news; unchanged = d.unchanged; closed = λ e. f (d.closed e); uncut = d.uncut }

-- what is closed may be read of what is known now
pub HasInferred_since : {W : Type 0} (a b : AnalysisState W) (x : Bool) (P Q : AnalysisState W → Type 0) → HasInferred a b x P → (P b → Q b) → HasInferred a b x Q
HasInferred_since a b x P Q d f = record { news = d.news; unchanged = d.unchanged; closed = λ e. subst Q (d.unchanged e) (f (subst P (sym (d.unchanged e)) (d.closed e))); uncut = d.uncut }

-- so where the last call answers whether something was learnt
pub HasInferred_if : {W E : Type 0} (a b : AnalysisState W) (r : Result Bool E) (P Q : AnalysisState W → Type 0) → IfOk r (λ x. HasInferred a b x P) → (P a → Q a) → IfOk r (λ x. HasInferred a b x Q)
HasInferred_if a b (Ok x) P Q d f = HasInferred_as a b x P Q d f
HasInferred_if a b (Err e) P Q d f = tt

pub HasInferred_none : {W : Type 0} (a b : AnalysisState W) (P : AnalysisState W → Type 0) → b ≡ a → P a → HasInferred a b false P
HasInferred_none a b P same h = record { news = λ e. absurd (false≢true e); unchanged = λ _. same; closed = λ _. h; uncut = λ u. subst (λ (x : AnalysisState _). IsUncut x) (sym same) u }

pub HasInferred_new : {W : Type 0} (a b : AnalysisState W) (P : AnalysisState W → Type 0) → HasNews a b → b.work ≡ a.work → HasInferred a b true P
HasInferred_new a b P h still = record { news = λ _. h; unchanged = λ e. absurd (true≢false e); closed = λ e. absurd (true≢false e); uncut = λ u. rw still u }

-- what held below r, and holds at r, holds below r + 1
pub one_more : (C : ℕ → Type 0) (r : ℕ) → ((s : ℕ) → s < r → C s) → C r → (s : ℕ) → s < r + 1 → C s
one_more C r below here s h =
    elim (cases_lt s r) [ inl lt ↦ below s lt | inr le ↦ let e : r ≡ s = omega arith in subst C e here ]

-- a value that clashes
pub clash_found : {W : Type 0} (old new : AnalysisState W) (p : ℕ) (c : Cell) (w v : ℕ) → new ≡ old → Knows p c w old → w ≢ v → IsFollowing old (fact_of p c v) → IsClash new (fact_of p c v) w
clash_found old new p c w v same known differs follows = subst (λ (x : AnalysisState _). IsClash x (fact_of p c v) w) (sym same) (record { is_known = known; differs = differs; follows = follows })

pub row_after : {W : Type 0} (old new : AnalysisState W) (i : ℕ) (row : StepRow) → Grows old new → old.path.given.legs.row i ≡ Some row → new.path.given.legs.row i ≡ Some row
row_after old new i row grows found = grows.row i ∙ found

-- one more conclusion of a list is known
pub inferred_more : {W : Type 0} (s : AnalysisState W) (i : ℕ) (list : List Conclusion) (k : ℕ) (d : Conclusion) → slice_get list k ≡ Some d → InferredBelow k list i s → KnowsInferred i d s → InferredBelow (k + 1) list i s
inferred_more s i list k d at below here j e lt is =
    elim (cases_lt j k) [
      | inl less ↦ below j e less is
      | inr more ↦
          let same : k ≡ j = omega (arith, lt, more) in
          let found : d ≡ e = same_inferred (sym at ∙ rw same is) in
          subst (λ (x : Conclusion). KnowsInferred i x s) found here
    ]
  where
    same_inferred : {x y : Conclusion} → Some x ≡ Some y → x ≡ y
    same_inferred z = cc

-- one more tracked address is done
pub tracked_more : {W : Type 0} (s : AnalysisState W) (P : ℕ → AnalysisState W → Type 0) (k a : ℕ) → slice_get s.known.store.tracked k ≡ Some a → ((j b : ℕ) → j < k → slice_get s.known.store.tracked j ≡ Some b → P b s) → P a s → (j b : ℕ) → j < k + 1 → slice_get s.known.store.tracked j ≡ Some b → P b s
tracked_more s P k a at below here j b lt is =
    elim (cases_lt j k) [
      | inl less ↦ below j b less is
      | inr more ↦
          let same : k ≡ j = omega (arith, lt, more) in
          let found : a ≡ b = same_some (sym at ∙ rw same is) in
          subst (λ (x : ℕ). P x s) found here
    ]

-- so all that are tracked are done
pub tracked_all : {W : Type 0} (s : AnalysisState W) (P : ℕ → AnalysisState W → Type 0) (n : ℕ) → length s.known.store.tracked ≤ n → ((j b : ℕ) → j < n → slice_get s.known.store.tracked j ≡ Some b → P b s) → (a : ℕ) → IsTracked a s → P a s
tracked_all s P n le h a at = let lt = at.1 in h at.0 a (omega (arith, lt, le)) (slice_get-get_or s.known.store.tracked at.0 a at.1 ∙ ap Some at.2)

contains_at : (list : List Conclusion) (k : ℕ) (d : Conclusion) → slice_get list k ≡ Some d → Contains list d
contains_at list k d at = let lt = slice_get_within list k d at in (k, lt, same_inferred (sym (slice_get-get_or list k d lt) ∙ at))
  where
    same_inferred : {x y : Conclusion} → Some x ≡ Some y → x ≡ y
    same_inferred z = cc

-- all elements of a list are conclusions
pub list_conclusions : {W : Type 0} (s : AnalysisState W) (i : ℕ) (list : List Conclusion) → ((d : Conclusion) → Contains list d → IsConclusion i d s) → AreConclusions i list s
list_conclusions s i list h k d at = h d (contains_at list k d at)

pub list_known : {W : Type 0} (s : AnalysisState W) (i : ℕ) (list : List Conclusion) → InferredBelow (length list) list i s → (d : Conclusion) → Contains list d → KnowsInferred i d s
list_known s i list h d at = h at.0 d at.1 (slice_get-get_or list at.0 d at.1 ∙ ap Some at.2)

-- a tracked address that was read
pub read_tracked : {W : Type 0} (s : AnalysisState W) (k a : ℕ) → slice_get s.known.store.tracked k ≡ Some a → IsTracked a s
read_tracked s k a at = let lt = slice_get_within s.known.store.tracked k a at in (k, lt, same_some (sym (slice_get-get_or s.known.store.tracked k a lt) ∙ at))

-- nothing is inferred, and P holds
pub HasInferred_same : {W : Type 0} (a : AnalysisState W) (P : AnalysisState W → Type 0) → P a → HasInferred a a false P
HasInferred_same a P h = record { news = λ e. absurd (false≢true e); unchanged = λ _. refl; closed = λ _. h; uncut = λ u. u }

-- where inferring brought news, nothing is said of what is closed
pub HasInferred_loud : {W : Type 0} (a b : AnalysisState W) (x : Bool) (P Q : AnalysisState W → Type 0) → x ≡ true → HasInferred a b x P → HasInferred a b x Q
HasInferred_loud a b x P Q loud d = record { news = d.news; unchanged = d.unchanged; closed = λ e. absurd (true≢false (sym loud ∙ e)); uncut = d.uncut }

-- what held from k on, and holds at the one before k, holds from there on
pub one_before : (C : ℕ → Type 0) (k n : ℕ) → ((s : ℕ) → k ≤ s → s < n → C s) → C (k - 1) → (s : ℕ) → k - 1 ≤ s → s < n → C s
one_before C k n above here s low high =
    elim (cases_lt s k) [ inl lt ↦ let e : k - 1 ≡ s = omega (arith, low, lt) in subst C e here | inr le ↦ above s le high ]

-- all that rows from one on let one conclude is known
abbrev pub RowsClosedFrom : {W : Type 0} → ℕ → AnalysisState W → Type 0
RowsClosedFrom n s = (i : ℕ) → n ≤ i → i < s.path.given.legs.count → IsRowClosed i s
