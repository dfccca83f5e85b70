-- Links are added one after the other.
use Rattle.std.proofs.Common.{◌≡◌, ℕ, suc, ◌+◌, ◌-◌, ◌<◌, ◌≤◌, ◌⊎◌, ◌↔◌, true, List, [], ◌∷◌, ◌++◌, length, get_or, set, Option, Some, None, slice_get, inl, inr, refl, sym, ap, ◌∙◌, subst, arith}
use Rattle.std.specs.List.{All, Contains}
use Rattle.std.proofs.lemmas.Bool.{cases_lt, cases_eq}
use Rattle.std.proofs.lemmas.List.{get_or_default, get_or-set_same, get_or-set_other}
use Rattle.std.proofs.lemmas.List.Elements.{Contains-get_or}
use Rattle.rept_span.specs.Ranges.{Legs}
use Rattle.rept_report.specs.Moments.{Moments, AreMoments}
use Rattle.rept_moments.specs.Seen.{AddsNexts}
use Rattle.rept_extents.specs.declared.carry.links.Links.{Links}
use Rattle.rept_extents.specs.Carry.Rising.{AddsOne}
use Rattle.rept_extents.specs.Carry.Links.{listed, HasNoLinks, AddsAt, Leads, Comes, AreNone, AreRoomFor, AreLinked, AreLinks, AddsPairs, IsPair, IsPairOf, IsNextOf}

none_in : (w : ℕ) → Contains {X = ℕ} [] w → ⊥
none_in w h = let less = h.1 in omega arith

-- pairs of which something is so were added to pairs
abbrev AddsTo : (ℕ → ℕ → Type 0) → (ℕ → ℕ → Type 0) → (ℕ → ℕ → Type 0) → Type 0
AddsTo Is old new = (m w : ℕ) → new m w ↔ (old m w ⊎ Is m w)

module _ (P Q R : ℕ → ℕ → Type 0) (to : (m w : ℕ) → P m w ⊎ Q m w → R m w) (from : (m w : ℕ) → R m w → P m w ⊎ Q m w) where
  both_to : (start old new : ℕ → ℕ → Type 0) → AddsTo P start old → AddsTo Q old new → AddsTo R start new
  both_to start old new first second m w = (forth, back)
    where
      forth : new m w → start m w ⊎ R m w
      forth h =
          elim ((second m w).0 h) [
            | inl k ↦
                elim ((first m w).0 k) [
                  | inl j ↦ inl j
                  | inr j ↦ inr (to m w (inl j))
                ]
            | inr k ↦ inr (to m w (inr k))
          ]

      back : start m w ⊎ R m w → new m w
      back (inl k) = (second m w).1 (inl ((first m w).1 (inl k)))
      back (inr k) =
          elim (from m w k) [
            | inl j ↦ (second m w).1 (inl ((first m w).1 (inr j)))
            | inr j ↦ (second m w).1 (inr j)
          ]

  pub adds_both : (start old new : Links) → AddsPairs P start old → AddsPairs Q old new → AddsPairs R start new
  adds_both start old new first second = record {
    onward = both_to (Leads start) (Leads old) (Leads new) first.onward second.onward;
    back = both_to (Comes start) (Comes old) (Comes new) first.back second.back;
  }

  linked_to : (old new : ℕ → ℕ → Type 0) → ((m w : ℕ) → old m w ↔ P m w) → AddsTo Q old new → (m w : ℕ) → new m w ↔ R m w
  linked_to old new known adds m w = (forth, back)
    where
      forth : new m w → R m w
      forth h =
          elim ((adds m w).0 h) [
            | inl k ↦ to m w (inl ((known m w).0 k))
            | inr k ↦ to m w (inr k)
          ]

      back : R m w → new m w
      back k =
          elim (from m w k) [
            | inl j ↦ (adds m w).1 (inl ((known m w).1 j))
            | inr j ↦ (adds m w).1 (inr j)
          ]

  pub linked_more : (old new : Links) → AreLinked P old → AddsPairs Q old new → AreLinked R new
  linked_more old new known adds = record {
    onward = linked_to (Leads old) (Leads new) known.onward adds.onward;
    back = linked_to (Comes old) (Comes new) known.back adds.back;
  }

module _ (P Q : ℕ → ℕ → Type 0) (to : (m w : ℕ) → P m w → Q m w) (from : (m w : ℕ) → Q m w → P m w) where
  as_to : (old new : ℕ → ℕ → Type 0) → AddsTo P old new → AddsTo Q old new
  as_to old new adds m w = (forth, back)
    where
      forth : new m w → old m w ⊎ Q m w
      forth h =
          elim ((adds m w).0 h) [
            | inl k ↦ inl k
            | inr k ↦ inr (to m w k)
          ]

      back : old m w ⊎ Q m w → new m w
      back (inl k) = (adds m w).1 (inl k)
      back (inr k) = (adds m w).1 (inr (from m w k))

  pub adds_as : (old new : Links) → AddsPairs P old new → AddsPairs Q old new
  adds_as old new adds = record {
    onward = as_to (Leads old) (Leads new) adds.onward;
    back = as_to (Comes old) (Comes new) adds.back;
  }

pub adds_none : (P : ℕ → ℕ → Type 0) (links : Links) → ((m w : ℕ) → P m w → ⊥) → AddsPairs P links links
adds_none P links none = record { onward = same (Leads links); back = same (Comes links) }
  where
    same : (old : ℕ → ℕ → Type 0) → AddsTo P old old
    same old m w = (λ h. inl h, λ h. elim h [ inl k ↦ k | inr k ↦ absurd (none m w k) ])

-- one number in the list of another one
module _ (lists : List (List ℕ)) (at n : ℕ) (less : at < length lists) (now : List ℕ) (adds : (v : ℕ) → Contains now v ↔ (Contains (get_or lists at []) v ⊎ (v ≡ n))) where
  here : (m : ℕ) → m ≡ at → listed (set lists at now) m ≡ now
  here m same = ap (listed (set lists at now)) same ∙ get_or-set_same lists at now [] less

  away : (m : ℕ) → (m ≡ at → ⊥) → listed (set lists at now) m ≡ listed lists m
  away m other = get_or-set_other lists at m now [] other

  pub set_adds : AddsAt at n lists (set lists at now)
  set_adds m w =
      elim (cases_eq m at) [
        | inl same ↦ (
          λ h.
              elim ((adds w).0 (subst (λ (xs : List ℕ). Contains xs w) (here m same) h)) [
                | inl k ↦ inl (subst (λ (j : ℕ). Contains (listed lists j) w) (sym same) k)
                | inr e ↦ inr (same, e)
              ],
          λ h. subst (λ (xs : List ℕ). Contains xs w) (sym (here m same)) ((adds w).1 (elim h [ inl k ↦ inl (subst (λ (j : ℕ). Contains (listed lists j) w) same k) | inr k ↦ inr k.1 ])),
        )
        | inr other ↦ (
          λ h. inl (subst (λ (xs : List ℕ). Contains xs w) (away m other) h),
          λ h. subst (λ (xs : List ℕ). Contains xs w) (sym (away m other)) (elim h [ inl k ↦ k | inr k ↦ absurd (other k.0) ]),
        )
      ]

pub set_adds_to : (lists : List (List ℕ)) (at n : ℕ) → at < length lists → (old now : List ℕ) → old ≡ get_or lists at old → AddsOne n old now → AddsAt at n lists (set lists at now)
set_adds_to lists at n less old now read adds =
    let same : old ≡ get_or lists at [] = read ∙ get_or_default lists at old [] less in
    set_adds lists at n less now (subst (λ (xs : List ℕ). AddsOne n xs now) same adds)

-- one pair
pub pair_added : (from to : ℕ) (old new : Links) → AddsAt from to old.onward.items new.onward.items → AddsAt to from old.back.items new.back.items → AddsPairs (IsPair from to) old new
pair_added from to old new onward back = record { onward = λ m w. onward m w; back = λ m w. (forth m w, hence m w) }
  where
    forth : (m w : ℕ) → Comes new m w → Comes old m w ⊎ IsPair from to m w
    forth m w h =
        elim ((back w m).0 h) [
          | inl k ↦ inl k
          | inr k ↦ inr (k.1, k.0)
        ]

    hence : (m w : ℕ) → Comes old m w ⊎ IsPair from to m w → Comes new m w
    hence m w (inl k) = (back w m).1 (inl k)
    hence m w (inr k) = (back w m).1 (inr (k.1, k.0))

-- a number is one of the first so many
abbrev pub IsFirst : List ℕ → ℕ → ℕ → Type 0
IsFirst list i w = (k : ℕ) × (k < i) × (get_or list k w ≡ w)

abbrev pub IsPairTo : ℕ → List ℕ → ℕ → ℕ → ℕ → Type 0
IsPairTo from list i m w = (m ≡ from) × IsFirst list i w

module _ (from : ℕ) (list : List ℕ) where
  pub pairs_none : (links : Links) → AddsPairs (IsPairTo from list 0) links links
  pairs_none links = adds_none (IsPairTo from list 0) links (λ m w h. let less = h.1.1 in omega arith)

  pub pairs_more : (i : ℕ) (start old new : Links) → i < length list → AddsPairs (IsPairTo from list i) start old → AddsPairs (IsPair from (get_or list i 0)) old new → AddsPairs (IsPairTo from list (i + 1)) start new
  pairs_more i start old new less = adds_both (IsPairTo from list i) (IsPair from (get_or list i 0)) (IsPairTo from list (i + 1)) to back start old new
    where
      read : (w : ℕ) → get_or list i w ≡ get_or list i 0
      read w = get_or_default list i w 0 less

      to : (m w : ℕ) → IsPairTo from list i m w ⊎ IsPair from (get_or list i 0) m w → IsPairTo from list (i + 1) m w
      to m w (inl h) = let low = h.1.1 in (h.0, (h.1.0, omega arith, h.1.2))
      to m w (inr h) = (h.0, (i, omega arith, read w ∙ sym h.1))

      back : (m w : ℕ) → IsPairTo from list (i + 1) m w → IsPairTo from list i m w ⊎ IsPair from (get_or list i 0) m w
      back m w h =
          let most = h.1.1 in
          elim (cases_lt h.1.0 i) [
            | inl low ↦ inl (h.0, (h.1.0, low, h.1.2))
            | inr past ↦ let same : h.1.0 ≡ i = omega arith in inr (h.0, sym h.1.2 ∙ ap (λ (k : ℕ). get_or list k w) same ∙ read w)
          ]

  pub pairs_all : (i : ℕ) (start new : Links) → i ≡ length list → AddsPairs (IsPairTo from list i) start new → AddsPairs (IsPairOf from list) start new
  pairs_all i start new all adds = subst (λ (k : ℕ). AddsPairs (IsPairTo from list k) start new) all adds

-- all numbers next to one
pub nexts_added : (M : Moments) (from : ℕ) (list : List ℕ) (old new : Links) → AddsNexts M from [] list → AddsPairs (IsPairOf from list) old new → AddsPairs (IsNextOf M from) old new
nexts_added M from list old new nexts = adds_as (IsPairOf from list) (IsNextOf M from) to back old new
  where
    to : (m w : ℕ) → IsPairOf from list m w → IsNextOf M from m w
    to m w h =
        elim ((nexts w).0 h.1) [
          | inl k ↦ absurd (none_in w k)
          | inr e ↦ (h.0, subst (λ (k : ℕ). M.next k w ≡ true) (sym h.0) e)
        ]

    back : (m w : ℕ) → IsNextOf M from m w → IsPairOf from list m w
    back m w h = (h.0, (nexts w).1 (inr (subst (λ (k : ℕ). M.next k w ≡ true) h.0 h.1)))

pub nexts_inside : (L : Legs) (M : Moments) (from count : ℕ) (list : List ℕ) → AreMoments L M → AddsNexts M from [] list → count ≡ M.end + 1 → All (λ w. w < count) list
nexts_inside L M from count list laws nexts room k d less =
    elim ((nexts (get_or list k d)).0 (Contains-get_or list k d less)) [
      | inl h ↦ absurd (none_in (get_or list k d) h)
      | inr e ↦ let most = (laws.inside from (get_or list k d) e).1 in omega arith
    ]

-- one number after the other
abbrev pub IsBelow : Moments → ℕ → ℕ → ℕ → Type 0
IsBelow M n m w = (m < n) × (M.next m w ≡ true)

module _ (M : Moments) where
  pub none_linked : (count : ℕ) (links : Links) → AreNone count links → AreLinked (IsBelow M 0) links
  none_linked count links none = record {
    onward = λ m w. (λ h. absurd (none_in w (subst (λ (xs : List ℕ). Contains xs w) (none.onward.none m) h)), λ h. let low = h.0 in absurd (omega arith));
    back = λ m w. (λ h. absurd (none_in m (subst (λ (xs : List ℕ). Contains xs m) (none.back.none w) h)), λ h. let low = h.0 in absurd (omega arith));
  }

  pub below_more : (n : ℕ) (old new : Links) → AreLinked (IsBelow M n) old → AddsPairs (IsNextOf M n) old new → AreLinked (IsBelow M (n + 1)) new
  below_more n old new = linked_more (IsBelow M n) (IsNextOf M n) (IsBelow M (n + 1)) to back old new
    where
      to : (m w : ℕ) → IsBelow M n m w ⊎ IsNextOf M n m w → IsBelow M (n + 1) m w
      to m w (inl h) = let low = h.0 in (omega arith, h.1)
      to m w (inr h) = let same = h.0 in (omega arith, h.1)

      back : (m w : ℕ) → IsBelow M (n + 1) m w → IsBelow M n m w ⊎ IsNextOf M n m w
      back m w h =
          let low = h.0 in
          elim (cases_lt m n) [
            | inl below ↦ inl (below, h.1)
            | inr past ↦ let same : m ≡ n = omega arith in inr (same, h.1)
          ]

  pub below_all : (L : Legs) (n : ℕ) (old new : Links) → AreMoments L M → n ≡ M.end → AreLinked (IsBelow M n) old → AddsPairs (IsNextOf M n) old new → AreLinks M new
  below_all L n old new laws all known adds =
      let more = below_more n old new known adds in
      record {
        onward = λ m w. (λ h. ((more.onward m w).0 h).1, λ e. let most = (laws.inside m w e).0 in (more.onward m w).1 (omega arith, e));
        back = λ m w. (λ h. ((more.back m w).0 h).1, λ e. let most = (laws.inside m w e).0 in (more.back m w).1 (omega arith, e));
      }
