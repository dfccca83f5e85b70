-- The list of the rows that may write memory.
use mathlib.Core.Logic.{∥∥₁_elim, ∥∥₁_prop}
use Rattle.std.proofs.Props.{props}
use Rattle.std.proofs.Common.{◌≡◌, ℕ, zero, suc, ◌+◌, ◌-◌, ◌<◌, ◌≤◌, cond, Bool, true, false, List, [], ◌∷◌, ◌++◌, length, get_or, Some, None, inl, inr, refl, sym, ap, ◌∙◌, subst, arith, length-append}
use Rattle.std.specs.Option.{IsSome}
use Rattle.std.specs.List.{Contains}
use Rattle.std.specs.List.Sorted.{IsNonDecreasingBy}
use Rattle.std.proofs.lemmas.Bool.{false≢true, cases_lt, cases_order}
use Rattle.std.proofs.lemmas.List.{get_or_default, get_or_append_left, get_or_push}
use Rattle.std.proofs.lemmas.List.Elements.{Contains-append_left, Contains-push}
use Rattle.rept_steps.specs.Course.{Course, IsSoundCourse}
use Rattle.rept_order.specs.Moments.{stores}
use Rattle.rept_order.specs.Legs.{leg_row}
use Rattle.rept_moments.specs.Naming.Numbered.{row_on}
use Rattle.rept_moments.specs.Points.{points_in}
use Rattle.rept_moments.specs.Numbers.{numbers_of, numbered}
use Rattle.rept_moments.specs.Seen.{seen_many}
use Rattle.rept_moments.specs.declared.course.NumberedRun.{NumberedRun}
use Rattle.rept_moments.specs.declared.course.NumberedRun as courses
use Rattle.rept_extents.specs.Timelines.{IsSoundIn}
use Rattle.rept_moments.proofs.Places.{leg_below}
use Rattle.rept_report.specs.Timeline.{Timeline}
use Rattle.rept_timeline.specs.declared.storing.ListPart.{ListPart}
use Rattle.rept_extents.specs.Timelines.{as_timeline}
use Rattle.rept_timeline.specs.Listed.{AreListed, storing_to, storing_in, AreStoring, IsFirstFrom, ArePastFirst}
use Rattle.rept_timeline.proofs.Fronts.{rests_past, stores_row, past_front}

not_so : (b : Bool) → (b ≡ true → ⊥) → b ≡ false
not_so true k = absurd (k refl)
not_so false k = refl

abbrev IsUp : List ℕ → Type 0
IsUp xs = IsNonDecreasingBy (λ (i : ℕ). i) xs

below_more : (xs : List ℕ) (g : ℕ) (b : Bool) → ((k : ℕ) → k < length xs → get_or xs k 0 < g) → (k : ℕ) → k < length (cond b (xs ++ g ∷ []) xs) → get_or (cond b (xs ++ g ∷ []) xs) k 0 < suc g
below_more xs g true low k less =
    let all = length-append xs (g ∷ []) in
    elim (cases_lt k (length xs)) [
      | inl inside ↦ let rest = low k inside in let same = get_or_append_left xs (g ∷ []) 0 k inside in omega arith
      | inr past ↦ let same = get_or_push xs g 0 k (omega arith) in omega arith
    ]
below_more xs g false low k less = let rest = low k less in omega arith

up_more : (xs : List ℕ) (g : ℕ) (b : Bool) → ((k : ℕ) → k < length xs → get_or xs k 0 < g) → IsUp xs → IsUp (cond b (xs ++ g ∷ []) xs)
up_more xs g true low up i j d order less =
    let all = length-append xs (g ∷ []) in
    elim (cases_lt j (length xs)) [
      | inl inside ↦
          let first = get_or_append_left xs (g ∷ []) d i (omega arith) in
          let second = get_or_append_left xs (g ∷ []) d j inside in
          let rest = up i j d order inside in
          omega arith
      | inr past ↦
          let second = get_or_push xs g d j (omega arith) in
          elim (cases_lt i (length xs)) [
            | inl inside ↦
                let first = get_or_append_left xs (g ∷ []) d i inside in
                let same = get_or_default xs i d 0 inside in
                let rest = low i inside in
                omega arith
            | inr end ↦ let first = get_or_push xs g d i (omega arith) in omega arith
          ]
    ]
up_more xs g false low up i j d order less = up i j d order less

module _ (C : Course) where
  stores_more : (xs : List ℕ) (g : ℕ) (b : Bool) → stores C (row_on C g) ≡ b → ((k : ℕ) → k < length xs → stores C (row_on C (get_or xs k 0)) ≡ true) → (k : ℕ) → k < length (cond b (xs ++ g ∷ []) xs) → stores C (row_on C (get_or (cond b (xs ++ g ∷ []) xs) k 0)) ≡ true
  stores_more xs g true is each k less =
      let all = length-append xs (g ∷ []) in
      elim (cases_lt k (length xs)) [
        | inl inside ↦ subst (λ (i : ℕ). stores C (row_on C i) ≡ true) (sym (get_or_append_left xs (g ∷ []) 0 k inside)) (each k inside)
        | inr past ↦ subst (λ (i : ℕ). stores C (row_on C i) ≡ true) (sym (get_or_push xs g 0 k (omega arith))) is
      ]
  stores_more xs g false is each k less = each k less

  all_more : (xs : List ℕ) (g : ℕ) (b : Bool) → stores C (row_on C g) ≡ b → ((i : ℕ) → i < g → stores C (row_on C i) ≡ true → Contains xs i) → (i : ℕ) → i < suc g → stores C (row_on C i) ≡ true → Contains (cond b (xs ++ g ∷ []) xs) i
  all_more xs g true is all i less writes =
      elim (cases_order i g) [
        | inl same ↦ subst (λ (k : ℕ). Contains (xs ++ g ∷ []) k) (sym same) (Contains-push xs g)
        | inr (inl low) ↦ Contains-append_left xs (g ∷ []) i (all i low writes)
        | inr (inr over) ↦ absurd (omega arith)
      ]
  all_more xs g false is all i less writes =
      elim (cases_order i g) [
        | inl same ↦ absurd (false≢true (sym is ∙ subst (λ (k : ℕ). stores C (row_on C k) ≡ true) same writes))
        | inr (inl low) ↦ all i low writes
        | inr (inr over) ↦ absurd (omega arith)
      ]

  pub below_to : (n k : ℕ) → k < length (storing_to C n) → get_or (storing_to C n) k 0 < n
  below_to zero k less = absurd (omega arith)
  below_to (suc g) k less = below_more (storing_to C g) g (stores C (row_on C g)) (below_to g) k less

  pub up_to : (n : ℕ) → IsUp (storing_to C n)
  up_to zero = λ i j d order less. absurd (omega arith)
  up_to (suc g) = up_more (storing_to C g) g (stores C (row_on C g)) (below_to g) (up_to g)

  pub stores_to : (n k : ℕ) → k < length (storing_to C n) → stores C (row_on C (get_or (storing_to C n) k 0)) ≡ true
  stores_to zero k less = absurd (omega arith)
  stores_to (suc g) k less = stores_more (storing_to C g) g (stores C (row_on C g)) refl (stores_to g) k less

  all_to : (n i : ℕ) → i < n → stores C (row_on C i) ≡ true → Contains (storing_to C n) i
  all_to zero i less writes = absurd (omega arith)
  all_to (suc g) i less writes = all_more (storing_to C g) g (stores C (row_on C g)) refl (all_to g) i less writes

  pub listed_all : (i : ℕ) → stores C (row_on C i) ≡ true → Contains (storing_in C) i
  listed_all i writes = let less = leg_below C i (stores_row C i writes) in all_to (points_in C - 1) i (omega arith) writes

  -- one more row, or none
  pub added : (list : List ℕ) (g : ℕ) (b : Bool) → list ≡ storing_to C g → b ≡ stores C (row_on C g) → cond b (list ++ g ∷ []) list ≡ storing_to C (g + 1)
  added list g b same is =
      let one : suc g ≡ g + 1 = omega arith in
      ap (λ (xs : List ℕ). cond b (xs ++ g ∷ []) xs) same ∙ ap (λ (c : Bool). cond c (storing_to C g ++ g ∷ []) (storing_to C g)) is ∙ ap (storing_to C) one

-- the place of an element
pub place_of : (list : List ℕ) (i : ℕ) → Contains list i → (k : ℕ) × (k < length list) × (get_or list k 0 ≡ i)
place_of list i h = (h.0, h.1, get_or_default list h.0 0 i h.1 ∙ h.2)

pub at_place : (list : List ℕ) (k : ℕ) → k < length list → Contains list (get_or list k 0)
at_place list k less = (k, less, get_or_default list k (get_or list k 0) 0 less)

-- halves
pub begin_after_by : (list : List ℕ) (m k row x : ℕ) → IsUp list → x ≡ get_or list m x → m ≤ k → k < length list → row ≤ x → row ≤ get_or list k 0
begin_after_by list m k row x up read order less late =
    let least = up m k x order less in
    let same = get_or_default list k x 0 less in
    omega arith

pub begin_before_by : (list : List ℕ) (m k row x : ℕ) → IsUp list → x ≡ get_or list m x → k ≤ m → m < length list → x < row → get_or list k 0 < row
begin_before_by list m k row x up read order less early =
    let most = up k m x order less in
    let same = get_or_default list k x 0 (omega arith) in
    omega arith

-- where a number begins in the list
pub record BeginsAt (list : List ℕ) (row place : ℕ) : Type 0 where
  pub few : place ≤ length list
  pub before : (k : ℕ) → k < place → get_or list k 0 < row
  pub after : (k : ℕ) → place ≤ k → k < length list → row ≤ get_or list k 0

pub first_some : (list : List ℕ) (row place found : ℕ) → IsUp list → BeginsAt list row place → place < length list → found ≡ get_or list place 0 → IsFirstFrom list row (Some found)
first_some list row place found up its less read =
    let low = its.after place (omega arith) less in (
      subst (λ (i : ℕ). Contains list i) (sym read) (at_place list place less),
      omega arith,
      λ v least below h.
          let there = place_of list v h in
          let inside = there.1 in
          let value = there.2 in
          elim (cases_lt there.0 place) [
            | inl early ↦ let under = its.before there.0 early in absurd (omega arith)
            | inr late ↦ let more = up place there.0 0 late inside in absurd (omega arith)
          ],
    )

pub first_none : (list : List ℕ) (row place : ℕ) → BeginsAt list row place → length list ≤ place → IsFirstFrom list row None
first_none list row place its past w least h =
    let there = place_of list w h in
    let inside = there.1 in
    let value = there.2 in
    let under = its.before there.0 (omega arith) in
    omega arith

-- a part of the list, from a row to the last point of its thread
module _ (C : Course) (list : List ℕ) (its : ∥ AreStoring C list ∥₁) where
  all_is : list ≡ storing_in C
  all_is = ∥∥₁_elim its (hlevel props) (λ a. a.all)

  pub sound_of : ∥ IsSoundCourse C ∥₁
  sound_of = ∥∥₁_elim its ∥∥₁_prop (λ a. ∣ a.sound ∣₁)

  pub up_list : IsUp list
  up_list = subst (λ (xs : List ℕ). IsUp xs) (sym all_is) (up_to C (points_in C - 1))

  pub stores_at : (k : ℕ) → k < length list → stores C (row_on C (get_or list k 0)) ≡ true
  stores_at = subst (λ (xs : List ℕ). (k : ℕ) → k < length xs → stores C (row_on C (get_or xs k 0)) ≡ true) (sym all_is) (stores_to C (points_in C - 1))

  pub below_at : (k : ℕ) → k < length list → get_or list k 0 < points_in C - 1
  below_at = subst (λ (xs : List ℕ). (k : ℕ) → k < length xs → get_or xs k 0 < points_in C - 1) (sym all_is) (below_to C (points_in C - 1))

  pub listed : (i : ℕ) → stores C (row_on C i) ≡ true → Contains list i
  listed i writes = subst (λ (xs : List ℕ). Contains xs i) (sym all_is) (listed_all C i writes)

  pub listed_stores : (i : ℕ) → Contains list i → stores C (row_on C i) ≡ true
  listed_stores i h = let there = place_of list i h in subst (λ (k : ℕ). stores C (row_on C k) ≡ true) there.2 (stores_at there.0 there.1)

  -- what isn't in the list lies before each moment
  pub unlisted_past : (i m : ℕ) → (Contains list i → ⊥) → (numbered C).past i m ≡ true
  unlisted_past i m none = go (stores C (row_on C i)) refl
    where
      go : (b : Bool) → stores C (row_on C i) ≡ b → (numbered C).past i m ≡ true
      go true is = absurd (none (listed i is))
      go false is = rests_past C i m is

  module _ (m row last : ℕ) (few : m ≤ (numbers_of C).end) (rows : (q : ℕ) → row ≤ q → q < last → IsSome (leg_row C q)) (low high : ℕ) (first : BeginsAt list row low) (end : BeginsAt list last high) where
    pub past_first : row < last → ArePastFirst (as_timeline (seen_many C)) list (record { low = low; high = high }) m
    past_first up = record {
      order =
          elim (cases_lt high low) [
            | inl over ↦
                let under = first.before high over in
                let most = first.few in
                let past = end.after high (omega arith) (omega arith) in
                absurd (omega arith)
            | inr past ↦ past
          ];
      inside = end.few;
      rows = λ k from less. let most = end.few in stores_row C (get_or list k 0) (stores_at k (omega arith));
      first = λ j k from order less past.
          let most = end.few in
          let start = first.after j from (omega arith) in
          let stop = end.before k less in
          ∥∥₁_elim its (hlevel props) (λ a. past_front C a.sound (get_or list j 0) (get_or list k 0) m (up_list j k 0 order (omega arith)) (λ q above under. rows q (omega arith) (omega arith)) few (stores_at k (omega arith)) past);
    }

    pub past_all : (place to : ℕ) → ((k : ℕ) → low ≤ k → k < place → (numbered C).past (get_or list k 0) m ≡ true) → ((k : ℕ) → place ≤ k → k < length list → to ≤ get_or list k 0) → (i : ℕ) → row ≤ i → i < to → (numbered C).past i m ≡ true
    past_all place to before stop i from less = go (stores C (row_on C i)) refl
      where
        go : (b : Bool) → stores C (row_on C i) ≡ b → (numbered C).past i m ≡ true
        go false is = rests_past C i m is
        go true is =
            let there = place_of list i (listed i is) in
            let inside = there.1 in
            let value = there.2 in
            elim (cases_lt there.0 low) [
              | inl early ↦ let under = first.before there.0 early in absurd (omega arith)
              | inr late ↦
                  elim (cases_lt there.0 place) [
                    | inl here ↦ subst (λ (k : ℕ). (numbered C).past k m ≡ true) value (before there.0 late here)
                    | inr past ↦ let over = stop there.0 past inside in absurd (omega arith)
                  ]
            ]

    -- of a number that is reached by the list
    pub reached_up : (place : ℕ) → low ≤ place → place < length list → (numbered C).past row m ≡ true → (numbered C).past (get_or list place 0) m ≡ false → row < get_or list place 0
    reached_up place from less past open_at =
        let start = first.after place from less in
        elim (cases_order row (get_or list place 0)) [
          | inl same ↦ absurd (false≢true (sym open_at ∙ ap (λ (i : ℕ). (numbered C).past i m) (sym same) ∙ past))
          | inr (inl below) ↦ below
          | inr (inr over) ↦ absurd (omega arith)
        ]

pub later_open : (t : Timeline) (list : List ℕ) (part : ListPart) (m j k : ℕ) → ArePastFirst t list part m → part.low ≤ j → j ≤ k → k < part.high → t.moments.past (get_or list j 0) m ≡ false → t.moments.past (get_or list k 0) m ≡ false
later_open t list part m j k its from order less none = not_so (t.moments.past (get_or list k 0) m) (λ e. false≢true (sym none ∙ its.first j k from order less e))

-- a course whose rows that may write are listed is sound
pub listed_sound : (c : NumberedRun) (list : List ℕ) → ∥ AreListed c list ∥₁ → ∥ IsSoundIn c ∥₁
listed_sound (courses.TheVariants.One steps) list t = ∣ tt ∣₁
listed_sound (courses.TheVariants.Many many) list t = sound_of many list t
