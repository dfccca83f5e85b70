-- Forward to the first stop: where the last writer of a byte is another one than before, and which
-- of two stops comes first.
use Rattle.std.proofs.Common.{◌≡◌, ℕ, suc, zero, ◌+◌, ◌-◌, ◌<◌, ◌≤◌, inl, inr, List, [], ◌∷◌, ◌++◌, length, take, get_or, Bool, true, false, not, cond, arith, refl, sym, ◌∙◌, ap, subst}
use Rattle.std.specs.Prelude.{Option, Some, None, ◌||◌, ◌==◌}
use Rattle.std.specs.List.{find, list_any, range_with_len}
use Rattle.std.specs.Option.{option_or}
use Rattle.std.proofs.lemmas.Bool.{cases_lt, eq-eqb, eqb-true, ne_eqb}
use Rattle.std.proofs.lemmas.List.{take_more}
use Rattle.std.proofs.lemmas.List.Folds.{list_any-append}
use Rattle.rept_report.specs.declared.writer.Writer.{Writer}
use Rattle.rept_report.specs.declared.writer.Writer.TheVariants as writer
use Rattle.rept_findings.specs.LastWriters.{AreLastWriters, IsNamed, named_row, writer_at}
use Rattle.rept_findings.specs.Shown.{IsThreadPoint, Shown}
use Rattle.rept_findings.specs.Texts.{at}
use Rattle.rept_findings.specs.declared.place.ThreadPoint.{ThreadPoint}
use Rattle.rept_remote.specs.Moves.Halts.{NamesNoOther, came, has_changed, is_break, is_new, is_open, is_row, is_stop, is_touched, names}
use Rattle.rept_remote.proofs.MovesLemmas.Ranges.{find_on, range_front}

same_some : {X : Type 0} {x y : X} → Some x ≡ Some y → x ≡ y
same_some e = cc

some_none : {X P : Type 0} {x : X} → Some x ≡ None → P
some_none e = cc

true_false : {P : Type 0} → true ≡ false → P
true_false e = cc

-- a row that is named, by the test and by the equation
pub row_is : (o : Option ℕ) (row : ℕ) → is_row o row ≡ true → o ≡ Some row
row_is None row e = true_false (sym e)
row_is (Some named) row e = ap Some (eqb-true named row e)

pub is_row_of : (o : Option ℕ) (row : ℕ) → o ≡ Some row → is_row o row ≡ true
is_row_of o row e = ap (λ o. is_row o row) e ∙ eq-eqb row row refl

-- one that is named isn't open
closed : (w : Writer) (row : ℕ) → named_row w ≡ Some row → is_open w ≡ false
closed (writer.Writes j) row e = refl
closed (writer.MayWrite j) row e = refl
closed writer.Several row e = some_none (sym e)
closed writer.None row e = refl

not_false : (b : Bool) → (not b || false) ≡ false → b ≡ true
not_false true e = refl
not_false false e = true_false e

not_true : (b : Bool) → (not b || false) ≡ true → b ≡ false
not_true true e = true_false (sym e)
not_true false e = refl

-- rows of one thread whose last writers are told
module _ (s : Shown) (c : ThreadPoint) (a : ℕ) (last : AreLastWriters s c.thread a) where
  abbrev here : ℕ → ThreadPoint
  here p = at c.thread p

  abbrev writes : ℕ → Writer
  writes p = writer_at s (here p) a

  abbrev touched : ℕ → Bool
  touched p = is_touched s (here p) a

  -- a row that is named at two points which follow one another came before them
  came_before : (row k : ℕ) → IsThreadPoint s (here (k - 1)) → IsNamed s (here k) a row → IsNamed s (here (k - 1)) a row → touched k ≡ false
  came_before row k h now then =
      ap (λ b. came s (here k) a (named_row (writes k)) || b) (closed (writes k) row now) ∙ ap (λ o. came s (here k) a o || false) now
      ∙ ap (λ b. b || false) (by_thread ((s.point row).thread == c.thread) refl)
    where
      by_thread : (own : Bool) → ((s.point row).thread == c.thread) ≡ own → came s (here k) a (Some row) ≡ false
      by_thread true e =
          let before = last.before row (k - 1) h (eqb-true (s.point row).thread c.thread e) then in
          ap (λ own. cond own ((s.point row).point == k - 1) (not (is_row (named_row (writes (k - 1))) row))) e ∙ ne_eqb (s.point row).point (k - 1) (λ same. absurd (omega (arith, same, before)))
      by_thread false e =
          ap (λ own. cond own ((s.point row).point == k - 1) (not (is_row (named_row (writes (k - 1))) row))) e ∙ ap not (is_row_of (named_row (writes (k - 1))) row then)

  -- where the same row is named at both ends, or none, nothing is written between them
  pub none_between : (b : ℕ) → IsThreadPoint s (here b) → has_changed s c a (writes b) ≡ false → (k : ℕ) → c.point < k → k ≤ b → touched k ≡ false
  none_between b h same k low high = by_writer (writes b) refl same
    where
      within : IsThreadPoint s (here (k - 1))
      within = let top = h.1 in (h.0, omega (arith, top, high))

      by_row : (row : ℕ) → named_row (writes b) ≡ Some row → names s c a row ≡ true → touched k ≡ false
      by_row row e is =
          let start : IsNamed s (here c.point) a row = row_is (named_row (writer_at s c a)) row is in
          came_before row k within (last.between row c.point k b h start e (omega arith) high) (last.between row c.point (k - 1) b h start e (omega arith) (omega arith))

      by_writer : (w : Writer) → writes b ≡ w → has_changed s c a w ≡ false → touched k ≡ false
      by_writer (writer.Writes row) e is = by_row row (ap named_row e) (not_false (names s c a row) is)
      by_writer (writer.MayWrite row) e is = by_row row (ap named_row e) (not_false (names s c a row) is)
      by_writer writer.Several e is = true_false is
      by_writer writer.None e is = ap (λ w. came s (here k) a (named_row w) || is_open w) (last.none k b h e high)

  -- and what is named at the later one is named at the first
  pub none_new : (b : ℕ) → has_changed s c a (writes b) ≡ false → (row : ℕ) → names s (here b) a row ≡ true → names s c a row ≡ true
  none_new b same row is = by_writer (writes b) refl same
    where
      by_row : (other : ℕ) → named_row (writes b) ≡ Some other → names s c a other ≡ true → names s c a row ≡ true
      by_row other e known = let one : other ≡ row = same_some (sym e ∙ row_is (named_row (writes b)) row is) in subst (λ n. names s c a n ≡ true) one known

      by_writer : (w : Writer) → writes b ≡ w → has_changed s c a w ≡ false → names s c a row ≡ true
      by_writer (writer.Writes other) e known = by_row other (ap named_row e) (not_false (names s c a other) known)
      by_writer (writer.MayWrite other) e known = by_row other (ap named_row e) (not_false (names s c a other) known)
      by_writer writer.Several e known = true_false known
      by_writer writer.None e known = some_none (sym (row_is (named_row (writes b)) row is) ∙ ap named_row e)

  -- where something is new, and nothing was at the point before, the byte is written between them
  pub written_here : (low high : ℕ) → IsThreadPoint s (here high) → low < high → high ≤ low + 1 → ((row : ℕ) → names s (here low) a row ≡ true → names s c a row ≡ true)
      → has_changed s c a (writes high) ≡ true → touched high ≡ true
  written_here low high h under over old new = by_writer (writes high) refl new
    where
      one : high - 1 ≡ low
      one = omega arith

      by_row : (row : ℕ) → named_row (writes high) ≡ Some row → names s c a row ≡ false → touched high ≡ true
      by_row row e is =
          ap (λ b. came s (here high) a (named_row (writes high)) || b) (closed (writes high) row e) ∙ ap (λ o. came s (here high) a o || false) e
          ∙ ap (λ b. b || false) (by_thread ((s.point row).thread == c.thread) refl)
        where
          fresh : names s (here low) a row ≡ true → {P : Type 0} → P
          fresh known = true_false (sym (old row known) ∙ is)

          unnamed : (b : Bool) → names s (here low) a row ≡ b → b ≡ false
          unnamed true known = fresh known
          unnamed false known = refl

          own : (s.point row).thread ≡ c.thread → (s.point row).point ≡ high - 1
          own same =
              let before = last.before row high h same e in
              elim (cases_lt (s.point row).point low) as (λ _. (s.point row).point ≡ high - 1) [
                | inl earlier ↦ fresh (is_row_of (named_row (writes low)) row (last.since row low high h same e earlier (omega arith)))
                | inr not_earlier ↦ omega (arith, before, not_earlier, one, under, over)
              ]

          by_thread : (b : Bool) → ((s.point row).thread == c.thread) ≡ b → came s (here high) a (Some row) ≡ true
          by_thread true t =
              ap (λ own. cond own ((s.point row).point == high - 1) (not (is_row (named_row (writes (high - 1))) row))) t ∙ eq-eqb (s.point row).point (high - 1) (own (eqb-true (s.point row).thread c.thread t))
          by_thread false t =
              ap (λ own. cond own ((s.point row).point == high - 1) (not (is_row (named_row (writes (high - 1))) row))) t
              ∙ ap (λ n. not (is_row (named_row (writes n)) row)) one ∙ ap not (unnamed (names s (here low) a row) refl)

      by_writer : (w : Writer) → writes high ≡ w → has_changed s c a w ≡ true → touched high ≡ true
      by_writer (writer.Writes row) e is = by_row row (ap named_row e) (not_true (names s c a row) is)
      by_writer (writer.MayWrite row) e is = by_row row (ap named_row e) (not_true (names s c a row) is)
      by_writer writer.Several e is = ap (λ w. came s (here high) a (named_row w) || is_open w) e
      by_writer writer.None e is = true_false (sym is)

  -- a row of the thread is named from the point after it on
  pub own_since : (high row : ℕ) (step : ThreadPoint) → step ≡ s.point row → step.thread ≡ c.thread → IsThreadPoint s (here high) → IsNamed s (here high) a row → IsNamed s (here (step.point + 1)) a row
  own_since high row step is own h named =
      let same : (s.point row).thread ≡ c.thread = sym (ap (λ (p : ThreadPoint). p.thread) is) ∙ own in
      let spot : step.point ≡ (s.point row).point = ap (λ (p : ThreadPoint). p.point) is in
      let before = last.before row high h same named in
      last.since row (step.point + 1) high h same named (omega (arith, spot)) (omega (arith, spot, before))

  -- and it isn't before a point at which it isn't named yet
  pub own_after : (high row : ℕ) (step : ThreadPoint) → step ≡ s.point row → step.thread ≡ c.thread → IsThreadPoint s (here high) → IsNamed s (here high) a row → (low : ℕ) → low < high → (IsNamed s (here low) a row → ⊥) → low < step.point + 1
  own_after high row step is own h named low under not_yet =
      let same : (s.point row).thread ≡ c.thread = sym (ap (λ (p : ThreadPoint). p.thread) is) ∙ own in
      let spot : step.point ≡ (s.point row).point = ap (λ (p : ThreadPoint). p.point) is in
      elim (cases_lt (s.point row).point low) as (λ _. low < step.point + 1) [
        | inl earlier ↦ absurd (not_yet (last.since row low high h same named earlier (omega arith)))
        | inr not_earlier ↦ omega (arith, not_earlier, spot)
      ]

-- what is new by a row is new wherever that row is named
pub new_row : (s : Shown) (c : ThreadPoint) (a : ℕ) (w : Writer) (row : ℕ) → named_row w ≡ Some row → has_changed s c a w ≡ true → names s c a row ≡ false
new_row s c a w row e is = not_true (names s c a row) (ap (λ b. b || false) (ap (λ o. is_new s c a o) (sym e)) ∙ ap (λ b. is_new s c a (named_row w) || b) (sym (closed w row e)) ∙ is)

pub new_there : (s : Shown) (c : ThreadPoint) (a : ℕ) (w : Writer) (row : ℕ) → named_row w ≡ Some row → names s c a row ≡ false → has_changed s c a w ≡ true
new_there s c a w row e is =
    ap (λ b. is_new s c a (named_row w) || b) (closed w row e) ∙ ap (λ o. is_new s c a o || false) e ∙ ap (λ b. not b || false) is

-- and isn't named where no other row is than at the earlier point
pub not_named : (s : Shown) (c : ThreadPoint) (low a row : ℕ) → NamesNoOther s c low a → names s c a row ≡ false → IsNamed s (at c.thread low) a row → ⊥
not_named s c low a row old new is = true_false (sym (old row (is_row_of (named_row (writer_at s (at c.thread low) a)) row is)) ∙ new)

-- a lesser number that is another
pub below : (m n : ℕ) → m ≤ n → (m ≡ n → ⊥) → m < n
below m n order other =
    elim (cases_lt m n) as (λ _. m < n) [
      | inl less ↦ less
      | inr not_less ↦ absurd (other (omega (arith, order, not_less)))
    ]

-- none of the first numbers of a range passes
find_beyond : (test : ℕ → Bool) (from below bound : ℕ) → from ≤ below → below ≤ bound → ((k : ℕ) → from < k → k ≤ below → test k ≡ false)
    → find test (range_with_len (from + 1) (bound - from)) ≡ find test (range_with_len (below + 1) (bound - below))
find_beyond test from below bound order within none = by_count (below - from) from (omega arith) none
  where
    by_count : (n start : ℕ) → n + start ≡ below → ((k : ℕ) → start < k → k ≤ below → test k ≡ false)
        → find test (range_with_len (start + 1) (bound - start)) ≡ find test (range_with_len (below + 1) (bound - below))
    by_count zero start e h = let same : start ≡ below = omega arith in ap (λ m. find test (range_with_len (m + 1) (bound - m))) same
    by_count (suc n) start e h =
        let width : bound - start ≡ bound + 1 - (start + 1) = omega arith in
        let rest : bound + 1 - (start + 1 + 1) ≡ bound - (start + 1) = omega arith in
        ap (λ m. find test (range_with_len (start + 1) m)) width
        ∙ find_on test (start + 1) (bound + 1) (omega arith) (h (start + 1) (omega arith) (omega arith))
        ∙ ap (λ m. find test (range_with_len (start + 1 + 1) m)) rest
        ∙ by_count n (start + 1) (omega arith) (λ k low high. h k (omega arith) high)

-- none at all
pub none_found : (test : ℕ → Bool) (from bound : ℕ) → from ≤ bound → ((k : ℕ) → from < k → k ≤ bound → test k ≡ false) → find test (range_with_len (from + 1) (bound - from)) ≡ None
none_found test from bound order none =
    let empty : bound - bound ≡ 0 = omega arith in
    find_beyond test from bound bound order (omega arith) none ∙ ap (λ n. find test (range_with_len (bound + 1) n)) empty

-- none of these, and then one
pub first_found : (test : ℕ → Bool) (from low high bound : ℕ) → from ≤ low → high ≡ low + 1 → high ≤ bound → ((k : ℕ) → from < k → k ≤ low → test k ≡ false) → test high ≡ true
    → Some high ≡ find test (range_with_len (from + 1) (bound - from))
first_found test from low high bound order next within none passes =
    let width : bound + 1 - (low + 1) ≡ bound - low = omega arith in
    let here : test (low + 1) ≡ true = subst (λ n. test n ≡ true) next passes in
    sym
    (find_beyond test from low bound order (omega arith) none
    ∙ ap (λ n. find test (range_with_len (low + 1) n)) (sym width) ∙ ap (find test) (range_front (low + 1) (bound + 1) (omega arith))
    ∙ ap (λ b. cond b (Some (low + 1)) (find test (range_with_len (low + 1 + 1) (bound + 1 - (low + 1 + 1))))) here ∙ ap Some (sym next))

find_same : (f g : ℕ → Bool) → ((p : ℕ) → f p ≡ g p) → (xs : List ℕ) → find f xs ≡ find g xs
find_same f g same [] = refl
find_same f g same (x ∷ xs) = ap (λ b. cond b (Some x) (find f xs)) (same x) ∙ ap (λ rest. cond (g x) (Some x) rest) (find_same f g same xs)

-- one test or another, where none passes the one
pub either_none : (f g : ℕ → Bool) (xs : List ℕ) → None ≡ find f xs → find g xs ≡ find (λ p. f p || g p) xs
either_none f g [] e = refl
either_none f g (x ∷ xs) e = by_test (λ left. either_none f g xs left) (f x) refl
  where
    by_test : (None ≡ find f xs → find g xs ≡ find (λ p. f p || g p) xs) → (b : Bool) → f x ≡ b → find g (x ∷ xs) ≡ find (λ p. f p || g p) (x ∷ xs)
    by_test rest true passes = some_none (sym (e ∙ ap (λ b. cond b (Some x) (find f xs)) passes))
    by_test rest false fails =
        let left = e ∙ ap (λ b. cond b (Some x) (find f xs)) fails in
        ap (λ found. cond (g x) (Some x) found) (rest left) ∙ sym (ap (λ b. cond (b || g x) (Some x) (find (λ p. f p || g p) xs)) fails)

-- a number that was found is in the range
found_within : (f : ℕ → Bool) (a n b : ℕ) → Some b ≡ find f (range_with_len a n) → a ≤ b
found_within f a zero b e = some_none e
found_within f a (suc n) b e = by_test (λ later. found_within f (a + 1) n b later) (f a) refl
  where
    by_test : (Some b ≡ find f (range_with_len (a + 1) n) → a + 1 ≤ b) → (t : Bool) → f a ≡ t → a ≤ b
    by_test rest true passes = let same : b ≡ a = same_some (e ∙ ap (λ t. cond t (Some a) (find f (range_with_len (a + 1) n))) passes) in omega arith
    by_test rest false fails = let later = rest (e ∙ ap (λ t. cond t (Some a) (find f (range_with_len (a + 1) n))) fails) in omega arith

-- one test or another, where a number passes the one: of those that pass the other only the ones
-- before it count
either_some : (f g : ℕ → Bool) (a n b m : ℕ) → Some b ≡ find f (range_with_len a n) → m + a ≡ b → option_or (find g (range_with_len a m)) (Some b) ≡ find (λ p. f p || g p) (range_with_len a n)
either_some f g a zero b m e width = some_none e
either_some f g a (suc n) b zero e width = by_test (f a) refl
  where
    by_test : (t : Bool) → f a ≡ t → Some b ≡ cond (f a || g a) (Some a) (find (λ p. f p || g p) (range_with_len (a + 1) n))
    by_test true passes =
        let same : b ≡ a = omega arith in
        ap Some same ∙ sym (ap (λ t. cond (t || g a) (Some a) (find (λ p. f p || g p) (range_with_len (a + 1) n))) passes)
    by_test false fails = let after = found_within f (a + 1) n b (e ∙ ap (λ t. cond t (Some a) (find f (range_with_len (a + 1) n))) fails) in absurd (omega arith)
either_some f g a (suc n) b (suc m) e width = by_test (λ later. either_some f g (a + 1) n b m later (omega arith)) (f a) (g a) refl refl
  where
    by_test : (Some b ≡ find f (range_with_len (a + 1) n) → option_or (find g (range_with_len (a + 1) m)) (Some b) ≡ find (λ p. f p || g p) (range_with_len (a + 1) n)) → (t u : Bool) → f a ≡ t → g a ≡ u → option_or (cond (g a) (Some a) (find g (range_with_len (a + 1) m))) (Some b) ≡ cond (f a || g a) (Some a) (find (λ p. f p || g p) (range_with_len (a + 1) n))
    by_test rest true u passes writes = let same : b ≡ a = same_some (e ∙ ap (λ t. cond t (Some a) (find f (range_with_len (a + 1) n))) passes) in absurd (omega arith)
    by_test rest false true fails writes =
        ap (λ u. option_or (cond u (Some a) (find g (range_with_len (a + 1) m))) (Some b)) writes
        ∙ sym (ap (λ t. cond (t || g a) (Some a) (find (λ p. f p || g p) (range_with_len (a + 1) n))) fails ∙ ap (λ u. cond (false || u) (Some a) (find (λ p. f p || g p) (range_with_len (a + 1) n))) writes)
    by_test rest false false fails misses =
        let later = e ∙ ap (λ t. cond t (Some a) (find f (range_with_len (a + 1) n))) fails in
        ap (λ u. option_or (cond u (Some a) (find g (range_with_len (a + 1) m))) (Some b)) misses ∙ rest later
        ∙ sym (ap (λ t. cond (t || g a) (Some a) (find (λ p. f p || g p) (range_with_len (a + 1) n))) fails ∙ ap (λ u. cond (false || u) (Some a) (find (λ p. f p || g p) (range_with_len (a + 1) n))) misses)

pub up_to_stop : (f g : ℕ → Bool) (point n stop : ℕ) → point < stop → Some stop ≡ find f (range_with_len (point + 1) n)
    → option_or (find g (range_with_len (point + 1) (stop - 1 - point))) (Some stop) ≡ find (λ p. f p || g p) (range_with_len (point + 1) n)
up_to_stop f g point n stop h e = either_some f g (point + 1) n stop (stop - 1 - point) e (omega arith)

-- one byte more
one_byte : (s : Shown) (breaks front : List ℕ) (a : ℕ) (c : ThreadPoint) → (is_stop s breaks front c || is_touched s c a) ≡ is_stop s breaks (front ++ a ∷ []) c
one_byte s breaks front a c =
    by_parts (is_break s breaks c) (list_any (is_touched s c) front) (is_touched s c a) ∙ ap (λ b. is_break s breaks c || b) (sym (list_any-append (is_touched s c) front (a ∷ [])))
  where
    by_parts : (b l t : Bool) → ((b || l) || t) ≡ (b || (l || (t || false)))
    by_parts true l t = refl
    by_parts false true t = refl
    by_parts false false true = refl
    by_parts false false false = refl

pub one_byte_more : (s : Shown) (breaks addresses : List ℕ) (thread : ℕ) (xs : List ℕ) (i d : ℕ) → i < length addresses
    → find (λ p. is_stop s breaks (take i addresses) (at thread p) || is_touched s (at thread p) (get_or addresses i d)) xs ≡ find (λ p. is_stop s breaks (take (i + 1) addresses) (at thread p)) xs
one_byte_more s breaks addresses thread xs i d h =
    find_same (λ p. is_stop s breaks (take i addresses) (at thread p) || is_touched s (at thread p) (get_or addresses i d)) (λ p. is_stop s breaks (take i addresses ++ get_or addresses i d ∷ []) (at thread p)) (λ p. one_byte s breaks (take i addresses) (get_or addresses i d) (at thread p)) xs
    ∙ ap (λ (front : List ℕ). find (λ p. is_stop s breaks front (at thread p)) xs) (sym (take_more addresses i d h))
