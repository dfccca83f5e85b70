-- The points at which something holds, one more at a time.
use Rattle.std.proofs.Common.{◌≡◌, ℕ, suc, ◌+◌, ◌<◌, ◌≤◌, nat_lt, List, [], ◌∷◌, ◌++◌, length, reverse, take, drop, get_or, Bool, true, false, cond, Some, refl, sym, ap, ◌∙◌, arith, drop-cons}
use Rattle.std.proofs.lemmas.Bool.Decides.{nat_tests}
use Rattle.std.proofs.lemmas.List.{reverse-append, take_more}
use Rattle.std.specs.List.{filter, find, flat_map, range_with_len}
use Rattle.rept_questions.specs.Spots.{one_where}
use Rattle.rept_findings.proofs.TextLemmas.{grown_whole}

-- what a filter keeps, element by element
kept : (holds : ℕ → Bool) (xs : List ℕ) → filter holds xs ≡ flat_map (λ p. one_where (holds p) p) xs
kept holds [] = refl
kept holds (x ∷ xs) = by_test (holds x) (kept holds xs)
  where
    by_test : (b : Bool) → filter holds xs ≡ flat_map (λ p. one_where (holds p) p) xs → cond b (x ∷ filter holds xs) (filter holds xs) ≡ one_where b x ++ flat_map (λ p. one_where (holds p) p) xs
    by_test true same = ap (λ rest. x ∷ rest) same
    by_test false same = same

-- the points up to one more
pub points_more : (holds : ℕ → Bool) (k m : ℕ) (old new : List ℕ) → m ≡ suc k → old ≡ filter holds (range_with_len 0 k) → new ≡ old ++ one_where (holds k) k → new ≡ filter holds (range_with_len 0 m)
points_more holds k m old new more before pushed =
    let same : k ≡ 0 + k = omega arith in
    grown_whole (λ p. one_where (holds p) p) 0 k k m old new same more (before ∙ kept holds (range_with_len 0 k)) pushed ∙ sym (kept holds (range_with_len 0 m))

true_of : (a b : ℕ) → a < b → nat_lt a b ≡ true
true_of a b h = grind (arith, nat_tests, h)

false_of : (a b : ℕ) → b ≤ a → nat_lt a b ≡ false
false_of a b h = grind (arith, nat_tests, h)

-- the last of the first elements that is before a cursor, with one element more
module _ (cursor : ℕ) (xs : List ℕ) (i d : ℕ) (h : i < length xs) where
  abbrev before : ℕ → Bool
  before p = nat_lt p cursor

  more : find before (reverse (take (i + 1) xs)) ≡ cond (before (get_or xs i d)) (Some (get_or xs i d)) (find before (reverse (take i xs)))
  more = ap (λ (ys : List ℕ). find before (reverse ys)) (take_more xs i d h) ∙ ap (find before) (reverse-append (take i xs) (get_or xs i d ∷ []))

  pub newest_taken : get_or xs i d < cursor → Some (get_or xs i d) ≡ find before (reverse (take (i + 1) xs))
  newest_taken is = sym (more ∙ ap (λ b. cond b (Some (get_or xs i d)) (find before (reverse (take i xs)))) (true_of (get_or xs i d) cursor is))

  pub newest_kept : cursor ≤ get_or xs i d → find before (reverse (take i xs)) ≡ find before (reverse (take (i + 1) xs))
  newest_kept not = sym (more ∙ ap (λ b. cond b (Some (get_or xs i d)) (find before (reverse (take i xs)))) (false_of (get_or xs i d) cursor not))

  -- the first one after a cursor
  abbrev after : ℕ → Bool
  after p = nat_lt cursor p

  rest : find after (drop i xs) ≡ cond (after (get_or xs i d)) (Some (get_or xs i d)) (find after (drop (suc i) xs))
  rest = ap (find after) (drop-cons xs i d h)

  pub next_found : cursor < get_or xs i d → find after (drop i xs) ≡ Some (get_or xs i d)
  next_found is = rest ∙ ap (λ b. cond b (Some (get_or xs i d)) (find after (drop (suc i) xs))) (true_of cursor (get_or xs i d) is)

  pub next_passed : get_or xs i d ≤ cursor → find after (drop i xs) ≡ find after (drop (i + 1) xs)
  next_passed not =
      let same : suc i ≡ i + 1 = omega arith in
      rest ∙ ap (λ b. cond b (Some (get_or xs i d)) (find after (drop (suc i) xs))) (false_of cursor (get_or xs i d) not) ∙ ap (λ n. find after (drop n xs)) same
