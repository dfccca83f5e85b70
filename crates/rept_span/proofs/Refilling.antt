-- Sets that are filled anew from the points at which more became known.
use Rattle.std.proofs.Common.{◌≡◌, ℕ, zero, suc, ◌+◌, ◌-◌, ◌<◌, ◌≤◌, Bool, List, length, slice_get, Option, Some, None, inl, inr, refl, sym, ap, subst, ◌∙◌, arith}
use Rattle.std.proofs.lemmas.Bool.{cases_lt, cases_eq}
use Rattle.rept_isa.specs.Operands.{first_read, second_read}
use Rattle.rept_isa.specs.declared.row.StepRow.{StepRow}
use Rattle.rept_partial.specs.Sets.{Sets}
use Rattle.rept_reason.specs.Facts.{Knowledge, register_fact}
use Rattle.rept_span.specs.Moves.{Moves}
use Rattle.rept_span.specs.Points.{HasPoint, HasNoneIn, IsFirstPoint, IsNextPoint, KeepsPoints}
use Rattle.rept_span.specs.Ranges.{Legs, Way, way_along, row_to, operand_set, through_row, through, cut, at_start, range}
use Rattle.rept_span.specs.Filled.{View, entry_at, AreAt, ChangesAt, FilledBelow, IsFilled, ReadsRegisters, AllReadBelow, SameAt, IsFilledElse, SameElse}

module _ {W : Type 0} (w : Way W) where
  operand_same : (before after : ℕ → Option W) → ((r : ℕ) → r < 32 → before r ≡ after r) → (place : Option ℕ) → ((r : ℕ) → place ≡ Some r → r < 32) → operand_set w before place ≡ operand_set w after place
  operand_same before after same None small = refl
  operand_same before after same (Some r) small = same r (small r refl)

  -- what a row leaves of the registers comes from the sets of the registers alone
  row_same : (row : StepRow) → ReadsRegisters row → (before after : ℕ → Option W) → ((r : ℕ) → r < 32 → before r ≡ after r) → (r : ℕ) → r < 32 → through_row w row before r ≡ through_row w row after r
  row_same row reads before after same r small =
      rw (operand_same before after same (first_read row.instr) reads.first, operand_same before after same (second_read row.instr) reads.second, same r small) refl

  through_same : (row : Option StepRow) → ((x : StepRow) → row ≡ Some x → ReadsRegisters x) → (before after : ℕ → Option W) → ((r : ℕ) → r < 32 → before r ≡ after r) → (r : ℕ) → r < 32 → through w row before r ≡ through w row after r
  through_same None reads before after same r small = refl
  through_same (Some x) reads before after same r small = row_same x (reads x refl) before after same r small

-- no row leads to the very first point
reads_to : (legs : Legs) (n : ℕ) → AllReadBelow legs n → (p : ℕ) → p < n → (x : StepRow) → row_to legs p ≡ Some x → ReadsRegisters x
reads_to legs n reads zero below x e = absurd (no_row e)
  where
    no_row : None ≡ Some x → ⊥
    no_row e = cc
reads_to legs n reads (suc i) below x e = reads i x (omega arith) e

pub reads_more : (legs : Legs) (p : ℕ) → AllReadBelow legs p → ((row : StepRow) → row_to legs p ≡ Some row → ReadsRegisters row) → AllReadBelow legs (p + 1)
reads_more legs p before here i row below found = elim (cases_lt (i + 1) p) [
  | inl less ↦ before i row less found
  | inr past ↦ let next : p ≡ suc i = omega arith in here row (rw next found)
]

pub first_is : (marks : List Bool) (from : ℕ) (next : Option ℕ) (p : ℕ) → next ≡ Some p → IsNextPoint marks from next → IsFirstPoint marks from p
first_is marks from next p is its = subst (λ (x : Option ℕ). IsNextPoint marks from x) is its

pub none_is : (marks : List Bool) (from : ℕ) (next : Option ℕ) → ((p : ℕ) → next ≡ Some p → ⊥) → IsNextPoint marks from next → IsNextPoint marks from None
none_is marks from None never its = its
none_is marks from (Some p) never its = absurd (never p refl)

pub none_left : (x : Option ℕ) → ((r : ℕ) → x ≡ Some r → ⊥) → x ≡ None
none_left None never = refl
none_left (Some r) never = absurd (never r refl)

module _ {W : Type 0} (o : Sets W) (m : Moves W) (legs : Legs) (J K : Knowledge) where
  abbrev w : Way W
  w = way_along o m legs

  -- by the one and by the other the registers have the same sets at a point
  abbrev pub SameSets : ℕ → Type 0
  SameSets p = (r : ℕ) → r < 32 → range w K p r ≡ range w J p r

  -- so it is where the same is known there and they had the same at the point before
  pub sets_same : (p : ℕ) → ((x : StepRow) → row_to legs p ≡ Some x → ReadsRegisters x) → ((q : ℕ) → p ≡ suc q → SameSets q) → SameAt J K p → SameSets p
  sets_same zero reads before facts r small = ap (λ (v : Option ℕ). cut w (at_start w r) v) (sym (facts r))
  sets_same (suc p) reads before facts r small =
      ap (λ (x : Option W). cut w x (register_fact K (suc p) r)) (through_same w (legs.row p) reads (range w K p) (range w J p) (before p refl) r small)
      ∙ ap (λ (v : Option ℕ). cut w (through w (legs.row p) (range w J p) r) v) (sym (facts r))

  -- and so on, as far as the same is known
  pub stretch_same : (from to : ℕ) → AllReadBelow legs to → ((q : ℕ) → from ≡ suc q → SameSets q) → ((p : ℕ) → from ≤ p → p < to → SameAt J K p) → (n : ℕ) → from + n < to → SameSets (from + n)
  stretch_same from to reads before facts zero below =
      let e : from + 0 ≡ from = omega arith in
      rw e (sets_same from (reads_to legs to reads from (omega arith)) before (facts from (omega arith) (omega arith)))
  stretch_same from to reads before facts (suc n) below =
      let e : from + suc n ≡ suc (from + n) = omega arith in
      let earlier : SameSets (from + n) = stretch_same from to reads before facts n (omega arith) in
      rw e (sets_same (suc (from + n)) (reads_to legs to reads (suc (from + n)) (omega arith)) (λ q is. rw (sym (same_number (from + n) q is)) earlier) (facts (suc (from + n)) (omega arith) (omega arith)))
    where
      same_number : (a b : ℕ) → suc a ≡ suc b → a ≡ b
      same_number a b e = omega arith

-- The sets were filled anew up to a point. From there on they are as they were, and at that point
-- nothing is new unless it is marked.
pub record Refilled {W : Type 0} (w : Way W) (K : Knowledge) (old new : View W) (first marks : List Bool) (from : ℕ) : Type 0 where
  pub points : new.points ≡ old.points
  pub long : length marks ≡ length first
  pub kept : KeepsPoints first marks
  pub filled : FilledBelow w new K from
  pub rest : (q : ℕ) → from ≤ q → q < old.points → AreAt new q (entry_at old q)
  pub calm : (HasPoint marks from → ⊥) → (q : ℕ) → from ≡ suc q → from < old.points → (r : ℕ) → r < 32 → range w K q r ≡ entry_at old q r
  pub same : (q r : ℕ) → q < from → q < old.points → (HasPoint marks q → ⊥) → r < 32 → entry_at new q r ≡ entry_at old q r

module _ {W : Type 0} (o : Sets W) (m : Moves W) (legs : Legs) (K : Knowledge) (old : View W) (first : List Bool) (count : old.points ≡ legs.count + 1) (reads : AllReadBelow legs old.points) (former : IsFilledElse (way_along o m legs) old K first) where
  abbrev v : Way W
  v = way_along o m legs

  pub refilled_none : Refilled v K old old first first 0
  refilled_none = record {
    points = refl;
    long = refl;
    kept = λ p has. has;
    filled = λ q less. absurd (omega arith);
    rest = λ q later inside r small. refl;
    calm = λ bare q is inside r small. absurd (omega arith);
    same = λ q r less inside bare small. absurd (omega arith);
  }

  -- as far as none is marked, the sets are those that follow
  pub refilled_to : (new : View W) (marks : List Bool) (from to : ℕ) → Refilled v K old new first marks from → HasNoneIn marks from to → to ≤ old.points → FilledBelow v new K to
  refilled_to new marks from to so none within q below r small =
      elim (cases_lt q from) [
        | inl less ↦ so.filled q less r small
        | inr past ↦
            let e : from + (q - from) ≡ q = omega arith in
            let facts : (p : ℕ) → from ≤ p → p < to → SameAt former.former K p = λ p later sooner. former.same p (omega (arith, count)) (λ has. none p later sooner (so.kept p has)) in
            let before : (p : ℕ) → from ≡ suc p → SameSets o m legs former.former K p = λ p is s less. so.calm (λ has. none from (omega arith) (omega arith) has) p is (omega arith) s less ∙ former.filled p (omega (arith, count)) s less in
            let there = stretch_same o m legs former.former K from to (λ i row less found. reads i row (omega arith) found) before facts (q - from) (omega arith) in
            let here : SameSets o m legs former.former K q = rw (sym e) there in
            so.rest q past (omega arith) r small ∙ former.filled q (omega (arith, count)) r small ∙ sym (here r small)
      ]

  -- one more point
  pub refilled_more : (mid new : View W) (marks more : List Bool) (from p : ℕ) → Refilled v K old mid first marks from → IsFirstPoint marks from p → p < old.points → FilledBelow v mid K p → ChangesAt mid new p → AreAt new p (range v K p) → length more ≡ length marks → KeepsPoints marks more → (p + 1 < mid.points → (HasPoint more (p + 1) → ⊥) → AreAt new p (entry_at mid p)) → Refilled v K old new first more (p + 1)
  refilled_more mid new marks more from p so next inside filled only here longer keeps unchanged = record {
    points = only.points ∙ so.points;
    long = longer ∙ so.long;
    kept = λ q has. keeps q (so.kept q has);
    filled = λ q below r small. elim (cases_eq q p) [
      | inl e ↦ rw e (here r small)
      | inr ne ↦ only.elsewhere q r ne small ∙ filled q (omega (arith, ne)) r small
    ];
    rest = λ q later within r small. only.elsewhere q r (λ e. omega arith) small ∙ so.rest q (let past = next.later in omega arith) within r small;
    calm = λ bare q is within r small.
        let e : q ≡ p = omega arith in
        let there = so.points in
        rw e (sym (here r small) ∙ unchanged (omega arith) bare r small ∙ so.rest p next.later inside r small);
    same = λ q r below within bare small. elim (cases_eq q p) [
      | inl e ↦ absurd (bare (rw e (keeps p next.has)))
      | inr ne ↦ only.elsewhere q r ne small ∙ kept_before q r (omega (arith, ne)) within (λ has. bare (keeps q has)) small
    ];
  }
    where
      kept_before : (q r : ℕ) → q < p → q < old.points → (HasPoint marks q → ⊥) → r < 32 → entry_at mid q r ≡ entry_at old q r
      kept_before q r below within bare small = elim (cases_lt q from) [
        | inl less ↦ so.same q r less within bare small
        | inr past ↦ so.rest q past within r small
      ]

  -- all points
  pub refilled_all : (new : View W) (marks : List Bool) (from : ℕ) → Refilled v K old new first marks from → IsNextPoint marks from None → IsFilled v new K
  refilled_all new marks from so none p early =
      refilled_to new marks from old.points so (λ q later sooner has. none q later has) (omega arith) p (omega (arith, count))

  pub refilled_same : (new : View W) (marks : List Bool) (from : ℕ) → Refilled v K old new first marks from → SameElse old new marks
  refilled_same new marks from so q r inside bare small = elim (cases_lt q from) [
    | inl less ↦ so.same q r less inside bare small
    | inr past ↦ so.rest q past inside r small
  ]
