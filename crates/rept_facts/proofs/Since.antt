-- Sets and lists that are made anew where more became known.
use Rattle.std.proofs.Common.{◌≡◌, ◌≢◌, ◌⊎◌, ℕ, ◌+◌, ◌<◌, ◌≤◌, ◌^◌, eqb, Bool, true, false, not, if◌then◌else◌, List, ◌∷◌, Option, Some, None, inl, inr, refl, sym, ap, subst, ◌∙◌, arith, slice_get}
use Rattle.std.proofs.lemmas.Bool.{cases_Bool, cases_eq, cases_lt, cond-true, cond-false}
use Rattle.rept_isa.specs.Operands.{first_read, second_read}
use Rattle.rept_reason.specs.declared.fact.Fact.{Fact}
use Rattle.rept_reason.specs.declared.fact.Cell.TheVariants.{Register}
use Rattle.rept_reason.specs.Facts.{Knowledge, told, speaks, register_known, register_fact, flat, operand}
use Rattle.rept_span.specs.Filled.{SameAt, IsFilled}
use Rattle.rept_span.specs.Points.{HasPoint, IsFirstPoint, IsNextPoint, KeepsPoints}
use Rattle.rept_span.specs.Ranges.{range}
use Rattle.rept_report.specs.Setting.{Setting, HasLaws, way_of}
use Rattle.rept_report.specs.Conclusions.{HasWords}
use Rattle.rept_report.specs.Conflicts.{IsWrongTurn, IsQuiet}
use Rattle.rept_report.specs.Log.{oldest, entry, OnceEach}
use Rattle.rept_report.proofs.Monotony.{spared_more, words_less}
use Rattle.rept_report.proofs.Places.{oldest_more, oldest_less}
use Rattle.rept_report.proofs.Told.{told_old, speaks_is}
use Rattle.rept_log.proofs.Looking.{oldest_step}
use Rattle.rept_facts.specs.State.{AnalysisState, all_known, along}
use Rattle.rept_facts.specs.Inferring.{AreWritings, IsSparedAt, IsSpared}

pub not_true : (b : Bool) → not b ≡ true → b ≡ false
not_true true e = cc
not_true false e = refl

-- a point is marked or isn't
pub marked_or : (marks : List Bool) (p : ℕ) → HasPoint marks p ⊎ (HasPoint marks p → ⊥)
marked_or marks p = of (slice_get marks p) refl
  where
    none_true : None ≡ Some true → ⊥
    none_true e = cc

    false_true : Some false ≡ Some true → ⊥
    false_true e = cc

    of : (x : Option Bool) → slice_get marks p ≡ x → HasPoint marks p ⊎ (HasPoint marks p → ⊥)
    of None is = inr (λ has. none_true (sym is ∙ has))
    of (Some true) is = inl is
    of (Some false) is = inr (λ has. false_true (sym is ∙ has))

-- a fact tells of registers at its point alone
told_elsewhere : (f : Fact) (fs : List Fact) (p r : ℕ) → (f.point ≡ p → f.cell ≡ Register r → ⊥) → told (f ∷ fs) p (Register r) ≡ told fs p (Register r)
told_elsewhere f fs p r other =
    elim (cases_Bool (speaks f p (Register r))) [
      | inl here ↦ let parts = speaks_is f p (Register r) here in absurd (other parts.0 parts.1)
      | inr elsewhere ↦ told_old f fs p (Register r) elsewhere
    ]

-- with one fact more the same is told at a point that isn't marked for it
pub same_more : (log : List Fact) (from t : ℕ) (f : Fact) (last : ℕ) (marks more : List Bool) → entry log t ≡ Some f → KeepsPoints marks more → ((r : ℕ) → f.cell ≡ Register r → f.point ≤ last → HasPoint more f.point) → (p : ℕ) → p ≤ last → ((HasPoint marks p → ⊥) → SameAt (told (oldest from log)) (told (oldest t log)) p) → (HasPoint more p → ⊥) → SameAt (told (oldest from log)) (told (oldest (t + 1) log)) p
same_more log from t f last marks more is keeps here p early before bare r =
    before (λ has. bare (keeps p has)) r ∙ sym (new_fact r)
  where
    there : (s : ℕ) → told (f ∷ oldest t log) p (Register s) ≡ told (oldest t log) p (Register s)
    there s = told_elsewhere f (oldest t log) p s (λ at cell. bare (subst (λ (q : ℕ). HasPoint more q) at (here s cell (rw at early))))

    new_fact : (s : ℕ) → register_fact (told (oldest (t + 1) log)) p s ≡ register_fact (told (oldest t log)) p s
    new_fact s = ap (λ (x : Option ℕ). if eqb s 0 then None else x) (ap (λ (fs : List Fact). told fs p (Register s)) (oldest_step log t f is) ∙ there s)

-- a turn is wrong by what is known at its point
module _ {W : Type 0} (S : Setting W) (K L : Knowledge) (i : ℕ) (same : SameAt K L i) where
  known_same : (r : ℕ) → register_known L i r ≡ register_known K i r
  known_same r =
      elim (cases_Bool (eqb r 0)) [
        | inl zero ↦ cond-true (eqb r 0) (Some 0) (L i (Register r)) zero ∙ sym (cond-true (eqb r 0) (Some 0) (K i (Register r)) zero)
        | inr other ↦
            cond-false (eqb r 0) (Some 0) (L i (Register r)) other
            ∙ sym (cond-false (eqb r 0) None (L i (Register r)) other)
            ∙ sym (same r)
            ∙ cond-false (eqb r 0) None (K i (Register r)) other
            ∙ sym (cond-false (eqb r 0) (Some 0) (K i (Register r)) other)
      ]

  operand_same : (place : Option ℕ) → operand L i place ≡ operand K i place
  operand_same None = refl
  operand_same (Some r) = ap flat (known_same r)

  pub wrong_back : IsWrongTurn S L i → IsWrongTurn S K i
  wrong_back h = record {
    row = h.row;
    is_row = h.is_row;
    wrong = rw (operand_same (first_read h.row.instr), operand_same (second_read h.row.instr)) at h.wrong;
  }

-- each marked point up to one has a right turn
pub right_more : (marks : List Bool) (Q : ℕ → Type 0) (from p : ℕ) → ((i : ℕ) → i < from → HasPoint marks i → Q i) → IsFirstPoint marks from p → Q p → (i : ℕ) → i < p + 1 → HasPoint marks i → Q i
right_more marks Q from p before next here i below has =
    elim (cases_lt i from) [
      | inl less ↦ before i less has
      | inr past ↦
          elim (cases_eq i p) [
            | inl is ↦ rw is here
            | inr other ↦ absurd (next.first i past (omega (arith, below, other)) has)
          ]
    ]

pub right_all : (marks : List Bool) (Q : ℕ → Type 0) (from : ℕ) → ((i : ℕ) → i < from → HasPoint marks i → Q i) → IsNextPoint marks from None → (i : ℕ) → HasPoint marks i → Q i
right_all marks Q from before none i has =
    elim (cases_lt i from) [
      | inl less ↦ before i less has
      | inr past ↦ absurd (none i past has)
    ]

-- no turn is wrong where marked ones aren't, and nothing is new elsewhere
pub quiet_since : {W : Type 0} (S : Setting W) (K L : Knowledge) (marks : List Bool) → HasLaws S → IsQuiet S K → ((p r : ℕ) → p ≤ S.legs.count → r < 32 → range (way_of S) L p r ≢ None) → ((p : ℕ) → p ≤ S.legs.count → (HasPoint marks p → ⊥) → SameAt K L p) → ((i : ℕ) → HasPoint marks i → IsWrongTurn S L i → ⊥) → IsQuiet S L
quiet_since S K L marks laws quiet some news right = record {
  full = some;
  right = λ i h.
      let inside = laws.legs.inside i h.row h.is_row in
      elim (marked_or marks i) [
        | inl has ↦ right i has h
        | inr bare ↦ quiet.right i (wrong_back S K L i (news i (omega (arith, inside)) bare) h)
      ];
}

-- the sets of more facts, with the list that was made by fewer
module _ {W : Type 0} (s t : AnalysisState W) (n : ℕ) (path : t.path ≡ s.path) (known : t.known ≡ s.known) (work : t.work ≡ s.work) (filled : t.filled ≡ n) (once : OnceEach s.known.log) (more : s.filled ≤ n) (sets : IsFilled (way_of (along s.path)) t.spans (told (oldest n s.known.log))) (quiet : IsQuiet (along s.path) (told (oldest n s.known.log))) (h : AreWritings s) where
  abbrev K : Knowledge
  K = told (oldest s.filled s.known.log)

  abbrev L : Knowledge
  L = told (oldest n s.known.log)

  words : HasWords L
  words = words_less (along s.path) h.laws L (all_known s) (λ p r v e. oldest_less n s.known.log once p (Register r) v e) h.words

  spared_at : (i a : ℕ) → a < 2 ^ 32 → IsSparedAt i a s → IsSparedAt i a t
  spared_at i a small old = rw (path, known, filled) (spared_more (along s.path) h.laws K L (λ p r v e. oldest_more s.filled n s.known.log once more p (Register r) v e) words quiet i a small old)

  spared : (i a : ℕ) → a < 2 ^ 32 → IsSpared i a s → IsSpared i a t
  spared i a small (inl old) = inl (spared_at i a small old)
  spared i a small (inr now) = inr (rw (path, known) now)

  pub writings_since : AreWritings t
  writings_since = record {
    laws = rw path h.laws;
    words = rw known h.words;
    fitted = rw (path, known, filled) sets;
    barriers = record {
      each = λ k w found.
          let x = h.barriers.each k w (rw work at found) in
          record {
            there = rw path x.there;
            time = rw path x.time;
            extent = rw path x.extent;
            others = λ a small miss. spared w.row a small (x.others a small miss);
          };
      order = rw work h.barriers.order;
      all = λ i there.
          elim (h.barriers.all i (rw path at there)) [
            | inl listed ↦ inl (rw work listed)
            | inr old ↦ inr (λ a small. spared_at i a small (old a small))
          ];
    };
  }
