-- What is learnt makes the measure fall.
use Rattle.std.proofs.Common.{◌≡◌, ℕ, ◌+◌, ◌<◌, ◌≤◌, ◌^◌, Bool, true, false, not, Option, Some, None, is_none, refl, ap, arith}
use Rattle.std.proofs.lemmas.Bool.{false≢true}
use Rattle.rept_reason.specs.declared.fact.Cell.{Cell}
use Rattle.rept_reason.specs.declared.fact.Cell.TheVariants.{Register, Byte}
use Rattle.rept_reason.specs.Facts.{IsCell}
use Rattle.rept_report.specs.Setting.{IsInstant}
use Rattle.rept_facts.specs.State.{AnalysisState, Subject, all_known, along}
use Rattle.rept_facts.specs.Inferring.{Knows, Grows, HasNews}
use Rattle.rept_facts.specs.Inferring.HasNews.{fact, address, anew}
use Rattle.rept_facts.specs.Kept.{is_among}
use Rattle.rept_facts.specs.Measure.{registers_unknown, bytes_unknown, measure}
use Rattle.rept_facts.specs.Sums.{count_true, sum_to}
use Rattle.rept_facts.proofs.Sums.{count_le, count_less, sum_le, sum_less}
use Rattle.rept_facts.proofs.Reported.{among_contains, contains_among}

none_before : (x y : Option ℕ) → ((v : ℕ) → x ≡ Some v → y ≡ Some v) → is_none y ≡ true → is_none x ≡ true
none_before None y h e = refl
none_before (Some v) y h e = absurd (false≢true (rw (h v refl) at e))

not_before : (x y : Bool) → (x ≡ true → y ≡ true) → not y ≡ true → not x ≡ true
not_before true y h e = absurd (false≢true (rw (h refl) at e))
not_before false y h e = refl

module _ {W : Type 0} (a b : AnalysisState W) (g : Grows a b) where
  cells : (p : ℕ) (c : Cell) → is_none (all_known b p c) ≡ true → is_none (all_known a p c) ≡ true
  cells p c e = none_before (all_known a p c) (all_known b p c) (λ v x. g.more p c v x) e

  registers_le : (p : ℕ) → count_true (λ r. is_none (all_known b p (Register r))) 32 ≤ count_true (λ r. is_none (all_known a p (Register r))) 32
  registers_le p = count_le (λ r. is_none (all_known a p (Register r))) (λ r. is_none (all_known b p (Register r))) 32 (λ r lt e. cells p (Register r) e)

  bytes_le : (p n : ℕ) → count_true (λ x. is_none (all_known b p (Byte x))) n ≤ count_true (λ x. is_none (all_known a p (Byte x))) n
  bytes_le p n = count_le (λ x. is_none (all_known a p (Byte x))) (λ x. is_none (all_known b p (Byte x))) n (λ x lt e. cells p (Byte x) e)

  tracked_before : (x : ℕ) → not (is_among b.known.store.tracked x) ≡ true → not (is_among a.known.store.tracked x) ≡ true
  tracked_before x e = not_before (is_among a.known.store.tracked x) (is_among b.known.store.tracked x) (λ t. contains_among b.known.store.tracked x (g.tracked x (among_contains a.known.store.tracked x t))) e

  tracked_le : (n : ℕ) → count_true (λ x. not (is_among b.known.store.tracked x)) n ≤ count_true (λ x. not (is_among a.known.store.tracked x)) n
  tracked_le n = count_le (λ x. not (is_among a.known.store.tracked x)) (λ x. not (is_among b.known.store.tracked x)) n (λ x lt e. tracked_before x e)

  -- of registers and of bytes no more is unknown
  all_registers : sum_to (registers_unknown (all_known b)) (a.path.given.legs.count + 1) ≤ sum_to (registers_unknown (all_known a)) (a.path.given.legs.count + 1)
  all_registers = sum_le (registers_unknown (all_known a)) (registers_unknown (all_known b)) (a.path.given.legs.count + 1) (λ q lt. registers_le q)

  all_bytes : sum_to (bytes_unknown (all_known b)) (a.path.given.moments.end + 1) ≤ sum_to (bytes_unknown (all_known a)) (a.path.given.moments.end + 1)
  all_bytes = sum_le (bytes_unknown (all_known a)) (bytes_unknown (all_known b)) (a.path.given.moments.end + 1) (λ q lt. bytes_le q (2 ^ 32))

  -- one cell more is known
  cell_less : (p : ℕ) (c : Cell) (v : ℕ) → IsInstant (along a.path) c p → IsCell c → all_known a p c ≡ None → Knows p c v b → sum_to (registers_unknown (all_known b)) (a.path.given.legs.count + 1) + sum_to (bytes_unknown (all_known b)) (a.path.given.moments.end + 1) < sum_to (registers_unknown (all_known a)) (a.path.given.legs.count + 1) + sum_to (bytes_unknown (all_known a)) (a.path.given.moments.end + 1)
  cell_less p (Register r) v early cell none here =
      let less = count_less (λ s. is_none (all_known a p (Register s))) (λ s. is_none (all_known b p (Register s))) 32 r (λ s lt e. cells p (Register s) e) cell.1 (rw none refl) (rw here refl) in
      let one = sum_less (registers_unknown (all_known a)) (registers_unknown (all_known b)) (a.path.given.legs.count + 1) p (λ q lt. registers_le q) (omega (arith, early)) less in
      let other = all_bytes in
      omega (arith, one, other)
  cell_less p (Byte x) v early cell none here =
      let less = count_less (λ s. is_none (all_known a p (Byte s))) (λ s. is_none (all_known b p (Byte s))) (2 ^ 32) x (λ s lt e. cells p (Byte s) e) cell (rw none refl) (rw here refl) in
      let one = sum_less (bytes_unknown (all_known a)) (bytes_unknown (all_known b)) (a.path.given.moments.end + 1) p (λ q lt. bytes_le q (2 ^ 32)) (omega (arith, early)) less in
      let other = all_registers in
      omega (arith, one, other)

  same_end : b.path.given.moments.end ≡ a.path.given.moments.end
  same_end = ap (λ (P : Subject W). P.given.moments.end) g.path

  pub measure_le : measure b ≤ measure a
  measure_le =
      let r = all_registers in
      let y = all_bytes in
      let t = tracked_le (2 ^ 32) in
      let fewer = g.fewer in
      rw (g.count, same_end) (omega (arith, fewer, t, r, y))

  pub news_less : HasNews a b → measure b < measure a
  news_less (fact p c v early cell none here) =
      let less = cell_less p c v early cell none here in
      let t = tracked_le (2 ^ 32) in
      let fewer = g.fewer in
      rw (g.count, same_end) (omega (arith, less, t, fewer))
  news_less (address x small was_not here) =
      let r = all_registers in
      let y = all_bytes in
      let less = count_less (λ y. not (is_among a.known.store.tracked y)) (λ y. not (is_among b.known.store.tracked y)) (2 ^ 32) x (λ y lt e. tracked_before y e) small (not_there (is_among a.known.store.tracked x) refl) (rw (contains_among b.known.store.tracked x here) refl) in
      let fewer = g.fewer in
      rw (g.count, same_end) (omega (arith, less, r, y, fewer))
    where
      not_there : (t : Bool) → is_among a.known.store.tracked x ≡ t → not t ≡ true
      not_there true e = absurd (was_not (among_contains a.known.store.tracked x e))
      not_there false e = refl
  news_less (anew fewer) =
      let r = all_registers in
      let y = all_bytes in
      let t = tracked_le (2 ^ 32) in
      rw (g.count, same_end) (omega (arith, fewer, t, r, y))
