-- Where a row isn't named yet that is named later: it is named at each point since.
use Rattle.std.proofs.Common.{◌≡◌, ℕ, suc, zero, ◌+◌, ◌<◌, ◌≤◌, inl, inr, Bool, true, false, not, cond, arith, refl, sym, ◌∙◌, ap, subst}
use Rattle.std.specs.Prelude.{Option, Some, None, ◌==◌, nat_lt, if◌then◌else◌}
use Rattle.std.proofs.lemmas.Bool.{cases_lt, eqb-true, le-ltb}
use Rattle.rept_findings.specs.LastWriters.{AreLastWriters, IsNamed, named_row, writer_at}
use Rattle.rept_findings.specs.Shown.{IsThreadPoint, Shown}
use Rattle.rept_findings.specs.Texts.{at}
use Rattle.rept_findings.specs.declared.place.ThreadPoint.{ThreadPoint}
use Rattle.rept_remote.specs.Moves.Halts.{before, last_below, later, names, point_before}
use Rattle.rept_remote.specs.declared.moves.halt.LastWrite.{LastWrite}
use Rattle.rept_remote.proofs.MovesLemmas.Forward.{is_row_of, row_is}

-- none passes
pub last_none : (test : ℕ → Bool) (n : ℕ) → ((k : ℕ) → k < n → test k ≡ false) → last_below test n ≡ None
last_none test zero none = refl
last_none test (suc n) none = ap (λ b. cond b (Some n) (last_below test n)) (none n (omega arith)) ∙ last_none test n (λ k below. none k (omega arith))

-- one passes, and none after it
pub last_is : (test : ℕ → Bool) (n low : ℕ) → low < n → test low ≡ true → ((k : ℕ) → low < k → k < n → test k ≡ false) → last_below test n ≡ Some low
last_is test zero low under passes none = absurd (omega (arith, under))
last_is test (suc n) low under passes none =
    elim (cases_lt low n) as (λ _. last_below test (suc n) ≡ Some low) [
      | inl less ↦ ap (λ b. cond b (Some n) (last_below test n)) (none n less (omega arith)) ∙ last_is test n low less passes (λ k above below. none k above (omega arith))
      | inr not_less ↦
          let same : n ≡ low = omega (arith, under, not_less) in
          ap (λ b. cond b (Some n) (last_below test n)) (subst (λ k. test k ≡ true) (sym same) passes) ∙ ap Some same
    ]

module _ (s : Shown) (c : ThreadPoint) (a row : ℕ) (last : AreLastWriters s c.thread a) (within : IsThreadPoint s c) (named : IsNamed s c a row) where
  abbrev unnamed : ℕ → Bool
  unnamed p = not (names s (at c.thread p) a row)

  -- from a point on at which it is named
  pub named_from : (o : ℕ) → names s (at c.thread o) a row ≡ true → (k : ℕ) → o ≤ k → k < c.point → unnamed k ≡ false
  named_from o is k from under =
      ap not (is_row_of (named_row (writer_at s (at c.thread k) a)) row (last.between row o k c.point within (row_is (named_row (writer_at s (at c.thread o) a)) row is) named from (omega (arith, under))))

  pub none_unnamed : names s (at c.thread 0) a row ≡ true → last_below unnamed c.point ≡ None
  none_unnamed is = last_none unnamed c.point (λ k under. named_from 0 is k (omega arith) under)

  pub last_found : (low high : ℕ) → low < high → high ≤ low + 1 → high ≤ c.point → names s (at c.thread low) a row ≡ false → names s (at c.thread high) a row ≡ true → Some low ≡ last_below unnamed c.point
  last_found low high under over top not_yet is =
      sym (last_is unnamed c.point low (omega (arith, under, top)) (ap not not_yet) (λ k above below. named_from high is k (omega (arith, above, over)) below))

  pub here_named : names s (at c.thread c.point) a row ≡ true
  here_named = is_row_of (named_row (writer_at s c a)) row named

-- a number that isn't after a write is no later one
not_after : (write : LastWrite) (p a : ℕ) → p ≤ write.point → later (Some write) (Some p) a ≡ Some write
not_after write p a order = ap (λ b. cond b (Some (record { point = p; address = a })) (Some write)) (le-ltb write.point p order)

-- nor is the last one that passes, where none after it does
before_all : (test : ℕ → Bool) (n : ℕ) (write : LastWrite) (a : ℕ) → ((k : ℕ) → write.point < k → k < n → test k ≡ false) → later (Some write) (last_below test n) a ≡ Some write
before_all test zero write a none = refl
before_all test (suc n) write a none =
    let rest = before_all test n write a (λ k above below. none k above (omega arith)) in
    elim (cases_lt write.point n) as (λ _. later (Some write) (last_below test (suc n)) a ≡ Some write) [
      | inl after ↦ ap (λ b. later (Some write) (cond b (Some n) (last_below test n)) a) (none n after (omega arith)) ∙ rest
      | inr up_to_it ↦ by_test (test n) refl rest up_to_it
    ]
  where
    by_test : (b : Bool) → test n ≡ b → later (Some write) (last_below test n) a ≡ Some write → n ≤ write.point → later (Some write) (last_below test (suc n)) a ≡ Some write
    by_test true is rest order = ap (λ b. later (Some write) (cond b (Some n) (last_below test n)) a) is ∙ not_after write n a order
    by_test false is rest order = ap (λ b. later (Some write) (cond b (Some n) (last_below test n)) a) is ∙ rest

-- a row that is named right after a write already isn't later
pub no_later : (s : Shown) (c : ThreadPoint) (a row : ℕ) → AreLastWriters s c.thread a → IsThreadPoint s c → IsNamed s c a row → (write : LastWrite) → write.point < c.point → names s (at c.thread (write.point + 1)) a row ≡ true
    → later (Some write) (point_before s c a (Some row)) a ≡ Some write
no_later s c a row last within named write order is = by_thread ((s.point row).thread == c.thread) refl
  where
    here : IsThreadPoint s (at c.thread (write.point + 1))
    here = let top = within.1 in (within.0, omega (arith, top, order))

    is_named : IsNamed s (at c.thread (write.point + 1)) a row
    is_named = row_is (named_row (writer_at s (at c.thread (write.point + 1)) a)) row is

    others : Option ℕ
    others = last_below (λ p. not (names s (at c.thread p) a row)) c.point

    own : (b : Bool) → nat_lt (s.point row).point c.point ≡ b → (s.point row).point ≤ write.point → later (Some write) (if b then Some (s.point row).point else None) a ≡ Some write
    own true e low = not_after write (s.point row).point a low
    own false e low = refl

    by_thread : (b : Bool) → ((s.point row).thread == c.thread) ≡ b → later (Some write) (point_before s c a (Some row)) a ≡ Some write
    by_thread true e =
        let low = last.before row (write.point + 1) here (eqb-true (s.point row).thread c.thread e) is_named in
        ap (λ b. later (Some write) (cond b (before c.point (s.point row).point) others) a) e ∙ own (nat_lt (s.point row).point c.point) refl (omega (arith, low))
    by_thread false e =
        ap (λ b. later (Some write) (cond b (before c.point (s.point row).point) others) a) e
        ∙ before_all (λ p. not (names s (at c.thread p) a row)) c.point write a (λ k above below. named_from s c a row last within named (write.point + 1) is k (omega (arith, above)) below)
