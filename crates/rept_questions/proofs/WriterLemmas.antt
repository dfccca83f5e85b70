-- The steps that wrote some bytes, one step and one byte at a time.
use Rattle.std.proofs.Common.{◌≡◌, ℕ, zero, suc, ◌+◌, ◌<◌, ◌≤◌, ◌∷◌, [], ◌++◌, List, take, Bool, true, false, cond, nat_lt, nat_le, Option, None, Some, ap, refl, sym, subst, ◌∙◌, arith}
use Rattle.std.proofs.lemmas.Bool.Decides.{nat_tests}
use Rattle.std.specs.Prelude.{◌||◌, ◌&&◌, ◌==◌, if◌then◌else◌, slice_get}
use Rattle.std.specs.List.{filter, list_any, range_with_len}
use Rattle.rept_report.specs.declared.writer.Writer.{Writer}
use Rattle.rept_report.specs.declared.writer.Writer.TheVariants as writer
use Rattle.rept_findings.specs.LastWriters.{AreLastWriters, IsNamed, named_row, writer_at}
use Rattle.rept_findings.specs.Shown.{IsThreadPoint, Shown}
use Rattle.rept_findings.specs.Texts.{at}
use Rattle.rept_findings.specs.declared.place.ThreadPoint.{ThreadPoint}
use Rattle.rept_questions.specs.Spots.{one_where}
use Rattle.rept_questions.specs.Trail.{falling, own_step}
use Rattle.rept_questions.specs.Writers.{after_step, is_step, is_writer, names, quiet_after, touches}

last_one : (b : Bool) (k : ℕ) (xs : List ℕ) → cond b (k ∷ xs) xs ≡ one_where b k ++ xs
last_one true k xs = refl
last_one false k xs = refl

-- the numbers below one that pass, from the last of them on
pub falling_where : (test : ℕ → Bool) (n k : ℕ) → n ≡ suc k → filter test (falling n) ≡ one_where (test k) k ++ filter test (falling k)
falling_where test n k is = ap (λ m. filter test (falling m)) is ∙ last_one (test k) k (filter test (falling k))

-- some number of a stretch passes: the first one, or one of those after it
pub any_more : (test : ℕ → Bool) (a n m : ℕ) → n ≡ suc m → list_any test (range_with_len a n) ≡ (test a || list_any test (range_with_len (a + 1) m))
any_more test a n m is = ap (λ k. list_any test (range_with_len a k)) is

-- none of those that are left
pub any_none : (test : ℕ → Bool) (a n : ℕ) → n ≡ 0 → list_any test (range_with_len a n) ≡ false
any_none test a n is = ap (λ k. list_any test (range_with_len a k)) is

-- none of a stretch passes
pub any_false : (test : ℕ → Bool) (a n : ℕ) → ((j : ℕ) → a ≤ j → j < a + n → test j ≡ false) → list_any test (range_with_len a n) ≡ false
any_false test a zero none = refl
any_false test a (suc n) none =
    ap (λ (b : Bool). b || list_any test (range_with_len (a + 1) n)) (none a (omega arith) (omega arith))
    ∙ any_false test (a + 1) n (λ j over under. none j (omega (arith, over)) (omega (arith, under)))

-- what holds of all numbers below one, and of it
pub one_more : (P : ℕ → Type 0) (i : ℕ) → ((j : ℕ) → j < i → P j) → P i → (j : ℕ) → j < i + 1 → P j
one_more P i before here j under = by_place (nat_lt j i) refl
  where
    by_place : (b : Bool) → nat_lt j i ≡ b → P j
    by_place true e = before j (grind (arith, nat_tests, e))
    by_place false e = let same : i ≡ j = grind (arith, nat_tests, e, under) in subst P same here

-- numbers that don't pass can be left out
pub skip_quiet : (test : ℕ → Bool) (p r : ℕ) → r ≤ p → ((k : ℕ) → r ≤ k → k < p → test k ≡ false) → filter test (falling p) ≡ filter test (falling r)
skip_quiet test zero r within quiet = let none : 0 ≡ r = omega (arith, within) in ap (λ q. filter test (falling q)) none
skip_quiet test (suc p) r within quiet = by_place (nat_le r p) refl (λ near. skip_quiet test p r near (λ k over under. quiet k over (omega (arith, under))))
  where
    by_place : (b : Bool) → nat_le r p ≡ b → (r ≤ p → filter test (falling p) ≡ filter test (falling r)) → filter test (falling (suc p)) ≡ filter test (falling r)
    by_place true e rest =
        let near : r ≤ p = grind (arith, nat_tests, e) in
        ap (λ (b : Bool). cond b (p ∷ filter test (falling p)) (filter test (falling p))) (quiet p near (omega arith)) ∙ rest near
    by_place false e rest = let same : suc p ≡ r = grind (arith, nat_tests, e, within) in ap (λ q. filter test (falling q)) same

pub and_false : (b c : Bool) → c ≡ false → b && c ≡ false
and_false true c is = is
and_false false c is = refl

-- a step that is named is the one that is told
named_is : (s : Shown) (c : ThreadPoint) (w : Writer) (row : ℕ) → named_row w ≡ Some row → names s c w ≡ is_step c (s.point row)
named_is s c (writer.Writes r) row is = let same : r ≡ row = cc in ap (λ k. is_step c (s.point k)) same
named_is s c (writer.MayWrite r) row is = let same : r ≡ row = cc in ap (λ k. is_step c (s.point k)) same
named_is s c writer.Several row is = let never : ⊥ = cc in absurd never
named_is s c writer.None row is = let never : ⊥ = cc in absurd never

-- what is told of a byte's writer at a point of a thread: the steps after the one that is named, up
-- to the point, aren't writers
module _ (s : Shown) (thread a p : ℕ) (last : AreLastWriters s thread a) (inside : IsThreadPoint s (at thread p)) where
  abbrev Quiet : ℕ → Type 0
  Quiet r = (k : ℕ) → r ≤ k → k < p → is_writer s a (at thread k) ≡ false

  abbrev After : Option ℕ → Type 0
  After o = Quiet (after_step (at thread p) o)

  by_row : (w : Writer) (row : ℕ) → writer_at s (at thread p) a ≡ w → named_row w ≡ Some row → After (own_step (at thread p) (s.point row))
  by_row w row is named = by_thread ((s.point row).thread == thread) refl
    where
      here : IsNamed s (at thread p) a row
      here = ap named_row is ∙ named

      by_thread : (b : Bool) → ((s.point row).thread == thread) ≡ b → After (own_step (at thread p) (s.point row))
      by_thread true e =
          let own : (s.point row).thread ≡ thread = grind (arith, nat_tests, e) in
          let j = (s.point row).point in
          let before = last.before row p inside own here in
          let under : nat_lt j p ≡ true = grind (arith, nat_tests, before) in
          let both : ((s.point row).thread == thread) && nat_lt j p ≡ true = ap (λ (b : Bool). b && nat_lt j p) e ∙ under in
          subst After (sym (ap (λ (b : Bool). if b then Some j else None) both))
          (λ k over upto.
          let named_there = last.since row (k + 1) p inside own here (omega (arith, over)) (omega (arith, upto)) in
          let differs : (j == k) ≡ false = grind (arith, nat_tests, over) in
          and_false (touches s a (at thread k)) _ (named_is s (at thread k) (writer_at s (at thread (k + 1)) a) row named_there ∙ ap (λ (b : Bool). b && (j == k)) e ∙ differs))
      by_thread false e =
          subst After (sym (ap (λ (b : Bool). if b && nat_lt (s.point row).point p then Some (s.point row).point else None) e)) (λ k over upto. absurd (omega (arith, over, upto)))

  by_writer : (w : Writer) → writer_at s (at thread p) a ≡ w → Quiet (quiet_after s (at thread p) w)
  by_writer (writer.Writes row) is = by_row (writer.Writes row) row is refl
  by_writer (writer.MayWrite row) is = by_row (writer.MayWrite row) row is refl
  by_writer writer.Several is = λ k over upto. absurd (omega (arith, over, upto))
  by_writer writer.None is = λ k over upto. and_false (touches s a (at thread k)) _ (ap (names s (at thread k)) (last.none (k + 1) p inside is (omega (arith, upto))))

  pub quiet_byte : Quiet (quiet_after s (at thread p) (writer_at s (at thread p) a))
  quiet_byte = by_writer (writer_at s (at thread p) a) refl

-- the first number that passes, where none before an index does
pub first_passing : (test : ℕ → Bool) (xs : List ℕ) (i x : ℕ) → filter test (take i xs) ≡ [] → slice_get xs i ≡ Some x → test x ≡ true → slice_get (filter test xs) 0 ≡ Some x
first_passing test [] i x none here passes = let bad : ⊥ = cc in absurd bad
first_passing test (y ∷ ys) zero x none here passes =
    let same : y ≡ x = cc in
    ap (λ (b : Bool). slice_get (cond b (y ∷ filter test ys) (filter test ys)) 0) (ap test same ∙ passes) ∙ here
first_passing test (y ∷ ys) (suc i) x none here passes = by_test (test y) refl none (λ rest. first_passing test ys i x rest here passes)
  where
    by_test : (b : Bool) → test y ≡ b → cond b (y ∷ filter test (take i ys)) (filter test (take i ys)) ≡ [] → (filter test (take i ys) ≡ [] → slice_get (filter test ys) 0 ≡ Some x) → slice_get (filter test (y ∷ ys)) 0 ≡ Some x
    by_test true e bad onward = let no : ⊥ = cc in absurd no
    by_test false e rest onward = ap (λ (b : Bool). slice_get (cond b (y ∷ filter test ys) (filter test ys)) 0) e ∙ onward rest
