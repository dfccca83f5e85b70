-- Of the byte that both threads write, the other thread's store is named at some points, and no
-- step at the others.
use Rattle.std.proofs.Common.{◌≡◌, ◌⊎◌, ℕ, ◌+◌, ◌-◌, ◌<◌, ◌≤◌, List, length, Bool, true, false, cond, refl, ap, sym, subst, ◌∙◌, arith, inl, inr}
use Rattle.std.specs.Prelude.{◌==◌, nat_lt, Some, None}
use Rattle.std.proofs.lemmas.Bool.{cases_eq, cases_lt, eq-eqb, eqb-false, eqb-true, ne_eqb}
use Rattle.rept_report.specs.declared.writer.Writer.{Writer}
use Rattle.rept_report.specs.declared.writer.Writer.TheVariants as writers
use Rattle.rept_findings.specs.LastWriters.{named_row}
use Rattle.rept_findings.specs.Texts.{at}

abbrev of_shared : ℕ → Writer
of_shared m = cond (m == 1) (writers.MayWrite 6) (cond (m == 5) (writers.MayWrite 1) (cond (m == 6) (writers.MayWrite 1) writers.Several))

abbrev pub two_writers : ℕ → ℕ → Writer
two_writers m a = cond (a == 131072) (of_shared m) writers.Several

abbrev pub moment_of : ℕ → ℕ
moment_of p = cond (p == 7) 4 p

same_row : (row step : ℕ) → Some row ≡ Some step → row ≡ step
same_row row step e = cc

no_row : {X : Type 0} (step : ℕ) → None ≡ Some step → X
no_row step e = cc

not_none : {X : Type 0} → writers.Several ≡ writers.None → X
not_none e = cc

may_not_none : {X : Type 0} (step : ℕ) → writers.MayWrite step ≡ writers.None → X
may_not_none step e = cc

-- some step may have written each byte before each moment
pub some_writer : {X : Type 0} (m a : ℕ) → two_writers m a ≡ writers.None → X
some_writer {X} m a e = by_tests (a == 131072) (m == 1) (m == 5) (m == 6) e
  where
    by_tests : (b c d f : Bool) → cond b (cond c (writers.MayWrite 6) (cond d (writers.MayWrite 1) (cond f (writers.MayWrite 1) writers.Several))) writers.Several ≡ writers.None → X
    by_tests true true d f e = may_not_none 6 e
    by_tests true false true f e = may_not_none 1 e
    by_tests true false false true e = may_not_none 1 e
    by_tests true false false false e = not_none e
    by_tests false c d f e = not_none e

-- the moments at which a step is named
abbrev NamedAt : ℕ → ℕ → Type 0
NamedAt m step = ((m ≡ 1) × (6 ≡ step)) ⊎ (((m ≡ 5) ⊎ (m ≡ 6)) × (1 ≡ step))

named_at : (m a step : ℕ) → named_row (two_writers m a) ≡ Some step → NamedAt m step
named_at m a step e = by_tests (a == 131072) (m == 1) (m == 5) (m == 6) refl refl refl e
  where
    by_tests : (b c d f : Bool) → (m == 1) ≡ c → (m == 5) ≡ d → (m == 6) ≡ f
        → named_row (cond b (cond c (writers.MayWrite 6) (cond d (writers.MayWrite 1) (cond f (writers.MayWrite 1) writers.Several))) writers.Several) ≡ Some step → NamedAt m step
    by_tests true true d f one five six e = inl (eqb-true m 1 one, same_row 6 step e)
    by_tests true false true f one five six e = inr (inl (eqb-true m 5 five), same_row 1 step e)
    by_tests true false false true one five six e = inr (inr (eqb-true m 6 six), same_row 1 step e)
    by_tests true false false false one five six e = no_row step e
    by_tests false c d f one five six e = no_row step e

-- the points of a thread at which one is named: of thread 0 its point 1, of thread 1 its points 0
-- and 1
abbrev IsPlace : Bool → ℕ → ℕ → Type 0
IsPlace true p step = (p ≡ 1) × (6 ≡ step)
IsPlace false p step = (p < 2) × (1 ≡ step)

moment_is : (n : ℕ) → (n ≡ 7 → ⊥) → moment_of n ≡ n
moment_is n other = ap (λ b. cond b 4 n) (ne_eqb n 7 other)

in_first : (p m step : ℕ) → p ≤ 4 → m ≡ p → NamedAt m step → IsPlace true p step
in_first p m step h e (inl here) = let one = here.0 in (omega (arith, one, e), here.1)
in_first p m step h e (inr (inl five, row)) = absurd (omega (arith, h, e, five))
in_first p m step h e (inr (inr six, row)) = absurd (omega (arith, h, e, six))

in_second : (p m step : ℕ) → p ≤ 2 → m ≡ 5 + p → NamedAt m step → IsPlace false p step
in_second p m step h e (inl here) = let one = here.0 in absurd (omega (arith, one, e))
in_second p m step h e (inr (inl five, row)) = (omega (arith, e, five), row)
in_second p m step h e (inr (inr six, row)) = (omega (arith, e, six), row)

end_unnamed : {X : Type 0} (step : ℕ) → NamedAt 4 step → X
end_unnamed step (inl here) = let one = here.0 in absurd (omega (arith, one))
end_unnamed step (inr (inl five, row)) = absurd (omega (arith, five))
end_unnamed step (inr (inr six, row)) = absurd (omega (arith, six))

is_place : (first : Bool) (p a step : ℕ) → p ≤ cond first 4 2 → named_row (two_writers (moment_of (cond first 0 5 + p)) a) ≡ Some step → IsPlace first p step
is_place true p a step h e = in_first p (moment_of (0 + p)) step h (moment_is (0 + p) (λ last. absurd (omega (arith, h, last))) ∙ omega arith) (named_at (moment_of (0 + p)) a step e)
is_place false p a step h e = elim (cases_eq (5 + p) 7) as (λ _. IsPlace false p step) [
  | inl last ↦ let there : moment_of (5 + p) ≡ 4 = ap (λ b. cond b 4 (5 + p)) (eq-eqb (5 + p) 7 last) in end_unnamed step (named_at 4 a step (sym (ap (λ m. named_row (two_writers m a)) there) ∙ e))
  | inr other ↦ in_second p (moment_of (5 + p)) step h (moment_is (5 + p) other) (named_at (moment_of (5 + p)) a step e)
]

-- the thread of a step
abbrev thread_of : ℕ → ℕ
thread_of step = (cond (nat_lt step 5) (at 0 step) (at 1 (step - 5))).thread

other_thread : {X : Type 0} (first : Bool) (t p step : ℕ) → (t == 0) ≡ first → IsPlace first p step → thread_of step ≡ t → X
other_thread true t p step e place own =
    let zero = eqb-true t 0 e in
    let six : thread_of step ≡ 1 = ap thread_of (sym place.1) in
    absurd (omega (arith, zero, six, own))
other_thread false t p step e place own =
    let one : thread_of step ≡ 0 = ap thread_of (sym place.1) in
    absurd (eqb-false t 0 e (sym own ∙ one))

near : (first : Bool) (o p step : ℕ) → IsPlace first o step → IsPlace first p step → o ≤ p → p ≤ o + 1
near true o p step low high h = let a = low.0 in let b = high.0 in omega (arith, a, b)
near false o p step low high h = let b = high.0 in omega (arith, b)

-- a thread's own step isn't named
pub own_unnamed : {X : Type 0} (t p a step : ℕ) → p ≤ cond (t == 0) 4 2 → thread_of step ≡ t → named_row (two_writers (moment_of (cond (t == 0) 0 5 + p)) a) ≡ Some step → X
own_unnamed t p a step h own e = other_thread (t == 0) t p step refl (is_place (t == 0) p a step h e) own

-- a step that is named at two points is named at those between, which are one of the two
pub is_between : (t o q p a step : ℕ) → p ≤ cond (t == 0) 4 2 → named_row (two_writers (moment_of (cond (t == 0) 0 5 + o)) a) ≡ Some step → named_row (two_writers (moment_of (cond (t == 0) 0 5 + p)) a) ≡ Some step
    → o ≤ q → q ≤ p → named_row (two_writers (moment_of (cond (t == 0) 0 5 + q)) a) ≡ Some step
is_between t o q p a step h first then low high =
    let wide : p ≤ o + 1 = near (t == 0) o p step (is_place (t == 0) o a step (omega (arith, low, high, h)) first) (is_place (t == 0) p a step h then) (omega (arith, low, high)) in
    elim (cases_eq q o) as (λ _. named_row (two_writers (moment_of (cond (t == 0) 0 5 + q)) a) ≡ Some step) [
      | inl same ↦ subst (λ n. named_row (two_writers (moment_of (cond (t == 0) 0 5 + n)) a) ≡ Some step) (sym same) first
      | inr other ↦ let last : p ≡ q = elim (cases_lt q p) as (λ _. p ≡ q) [
        | inl before ↦ absurd (other (omega (arith, before, wide, low)))
        | inr after ↦ omega (arith, after, high)
      ] in subst (λ n. named_row (two_writers (moment_of (cond (t == 0) 0 5 + n)) a) ≡ Some step) last then
    ]

-- the points of a thread
pub few : (first : Bool) {X : Type 0} (xs ys : List X) (p : ℕ) → length xs ≡ 4 → length ys ≡ 2 → p ≤ length (cond first xs ys) → p ≤ cond first 4 2
few true xs ys p four two h = omega (arith, four, h)
few false xs ys p four two h = omega (arith, two, h)
