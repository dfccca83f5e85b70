-- The lines of `writers` are true of an execution, of which all that is told is true.
use Rattle.std.proofs.Common.{◌≡◌, ◌⊎◌, ℕ, zero, suc, ℤ, ◌+◌, ◌-◌, ◌<◌, ◌≤◌, ◌%◌, ◌^◌, ◌==◌, inl, inr, List, [], ◌∷◌, ◌++◌, length, map, take, Bool, true, false, cond, nat_lt, Option, Some, None, option_map, slice_get, refl, sym, ap, subst, ◌∙◌, arith}
use Rattle.std.specs.Prelude.{not, ◌&&◌, ◌||◌, if◌then◌else◌, MatchBool, codes}
use Rattle.std.specs.List.{All, AllPairs, Contains, filter, flat_map, list_any, range_with_len}
use Rattle.std.proofs.lemmas.Bool.{and_from, and_parts, cases_eq, eqb-true, false≢true}
use Rattle.std.proofs.lemmas.Bool.Decides.{nat_tests}
use Rattle.std.proofs.lemmas.Nat.{mod_below}
use Rattle.std.proofs.lemmas.List.Elements.{All-cons, All-contains, All-map, All-nil, Contains-append_right}
use Rattle.std.proofs.lemmas.List.FromFn.{get_or-range_with_len, length-range_with_len}
use Rattle.rept_isa.specs.declared.instr.Instr.{Instr}
use Rattle.rept_isa.specs.declared.instr.Instr.TheVariants.{Lui, Auipc, Jal, Jalr, Branch, Load, Store, Imm, Op, Amo, Fence, Ecall, Ebreak, Counter}
use Rattle.rept_isa.specs.declared.instr.StoreOp.{StoreOp}
use Rattle.rept_isa.specs.declared.instr.StoreOp.TheVariants.{Sb, Sh, Sw}
use Rattle.rept_isa.specs.declared.row.StepRow.{StepRow}
use Rattle.rept_isa.specs.Numbers.{plus}
use Rattle.rept_isa.specs.Operands.{is_call}
use Rattle.rept_steps.specs.Course.{Row, row_of}
use Rattle.rept_order.specs.Writers.{Writer}
use Rattle.rept_order.specs.Writers.Writer.{writes}
use Rattle.rept_report.specs.declared.writer.Writer as told
use Rattle.rept_findings.specs.Shown.{IsThreadPoint, Shown, moment_at, number}
use Rattle.rept_findings.specs.Texts.{at, wrapped, writer_line}
use Rattle.rept_findings.specs.declared.place.ThreadPoint.{ThreadPoint}
use Rattle.rept_questions.specs.Texts.{group_by, group_entry, is_sure_row, is_sure_step, left_line, newest_of, unwritten_line, writers_lines}
use Rattle.rept_questions.specs.Trail.{address_by, base_of, bytes_from, falling}
use Rattle.rept_questions.specs.Writers.{has_place, is_among, is_some_writer, is_step, is_store, is_sure_of_some, is_sure_writer, is_writer, may_touch, names, names_surely, row_touches, stored, stored_by, touches, writer_after, writers_before, writes_some}
use Rattle.rept_questions.specs.declared.writers.SoughtBytes.{SoughtBytes}
use Rattle.rept_app.specs.TrueSteps.{address_in}
use Rattle.rept_app.specs.TrueValues.{IsWriterLineTrue, PointHeld}
use Rattle.rept_app.specs.TrueWriters.{IsNamedRow, IsPassedOver, IsUntold, IsWritersTrue, StoresElsewhere, Wrote, WroteOneOf, WritersAsked, WritersTold, addresses, bytes_stored, step_told, writers_asked}
use Rattle.rept_app.proofs.HeldPoints.{IsHeldAt, writer_is, writer_told}
use Rattle.rept_app.proofs.StepLemmas.{accessed}

-- ---- numbers that fall from below a first one
abbrev Falls : ℕ → List ℕ → Type 0
Falls n [] = Unit {0}
Falls n (x ∷ xs) = (x < n) × Falls x xs

falls_more : (n m : ℕ) (xs : List ℕ) → n ≤ m → Falls n xs → Falls m xs
falls_more n m [] le f = tt
falls_more n m (x ∷ xs) le f = let less = f.0 in (omega (arith, le, less), f.1)

falls_where : (test : ℕ → Bool) (n : ℕ) → Falls n (filter test (falling n))
falls_where test zero = tt
falls_where test (suc k) = by (test k) (falls_where test k)
  where
    by : (b : Bool) → Falls k (filter test (falling k)) → Falls (suc k) (cond b (k ∷ filter test (falling k)) (filter test (falling k)))
    by true f = (omega arith, f)
    by false f = falls_more k (suc k) (filter test (falling k)) (omega arith) f

falls_take : (n m : ℕ) (xs : List ℕ) → Falls n xs → Falls n (take m xs)
falls_take n zero xs f = tt
falls_take n (suc m) [] f = tt
falls_take n (suc m) (x ∷ xs) f = (f.0, falls_take x m xs f.1)

falls_below : (n : ℕ) (xs : List ℕ) → Falls n xs → All (λ k. k < n) xs
falls_below n [] f = All-nil (λ k. k < n)
falls_below n (x ∷ xs) f = let less = f.0 in All-cons (λ k. k < n) x xs less (falls_below n xs (falls_more x n xs (omega (arith, less)) f.1))

falls_pairs : (n : ℕ) (xs : List ℕ) → Falls n xs → AllPairs (λ x y. y < x) xs
falls_pairs n [] f i j d low inside = absurd (omega (arith, low, inside))
falls_pairs n (x ∷ xs) f zero zero d low inside = absurd (omega (arith, low))
falls_pairs n (x ∷ xs) f zero (suc j) d low inside = falls_below x xs f.1 j d (omega (arith, inside))
falls_pairs n (x ∷ xs) f (suc i) zero d low inside = absurd (omega (arith, low))
falls_pairs n (x ∷ xs) f (suc i) (suc j) d low inside = falls_pairs x xs f.1 i j d (omega (arith, low)) (omega (arith, inside))

-- ---- what is in a list
pub first_in : (x : ℕ) (xs : List ℕ) (k : ℕ) → x ≡ k → Contains (x ∷ xs) k
first_in x xs k e = (0, omega arith, e)

pub rest_in : (x : ℕ) (xs : List ℕ) (k : ℕ) → Contains xs k → Contains (x ∷ xs) k
rest_in x xs k h = Contains-append_right (x ∷ []) xs k h

in_either : (x : ℕ) (xs : List ℕ) (k : ℕ) → Contains (x ∷ xs) k → (x ≡ k) ⊎ Contains xs k
in_either x xs k (zero, inside, e) = inl e
in_either x xs k (suc i, inside, e) = inr (i, omega (arith, inside), e)

none_in : (k : ℕ) → Contains [] k → ⊥
none_in k h = let less = h.1 in omega (arith, less)

-- a number below that passes
kept_of : (test : ℕ → Bool) (n j : ℕ) → j < n → test j ≡ true → Contains (filter test (falling n)) j
kept_of test zero j less e = absurd (omega (arith, less))
kept_of test (suc k) j less e = by (test k) refl (λ low. kept_of test k j low e)
  where
    by : (b : Bool) → test k ≡ b → (j < k → Contains (filter test (falling k)) j) → Contains (cond b (k ∷ filter test (falling k)) (filter test (falling k))) j
    by true is later = elim (cases_eq j k) [
      | inl here ↦ first_in k (filter test (falling k)) j (sym here)
      | inr ne ↦ rest_in k (filter test (falling k)) j (later (omega (arith, less, ne)))
    ]
    by false is later = elim (cases_eq j k) [
      | inl here ↦ absurd (false≢true (sym is ∙ ap test (sym here) ∙ e))
      | inr ne ↦ later (omega (arith, less, ne))
    ]

-- of falling numbers one that isn't among the first so many is lower than these
after_taken : (n m : ℕ) (xs : List ℕ) (j : ℕ) → Falls n xs → Contains xs j → Contains (take m xs) j ⊎ ((k : ℕ) → Contains (take m xs) k → j < k)
after_taken n zero xs j f inside = inr (λ k h. absurd (none_in k h))
after_taken n (suc m) [] j f inside = absurd (none_in j inside)
after_taken n (suc m) (x ∷ xs) j f inside = by (in_either x xs j inside) (λ h. after_taken x m xs j f.1 h)
  where
    by_rest : Contains xs j → Contains (take m xs) j ⊎ ((k : ℕ) → Contains (take m xs) k → j < k) → Contains (x ∷ take m xs) j ⊎ ((k : ℕ) → Contains (x ∷ take m xs) k → j < k)
    by_rest h (inl early) = inl (rest_in x (take m xs) j early)
    by_rest h (inr low) = inr (λ k among. elim (in_either x (take m xs) k among) [
      | inl e ↦ subst (λ (y : ℕ). j < y) e (All-contains (λ y. y < x) xs j (falls_below x xs f.1) h)
      | inr later ↦ low k later
    ])

    by : (x ≡ j) ⊎ Contains xs j → (Contains xs j → Contains (take m xs) j ⊎ ((k : ℕ) → Contains (take m xs) k → j < k)) → Contains (x ∷ take m xs) j ⊎ ((k : ℕ) → Contains (x ∷ take m xs) k → j < k)
    by (inl e) onward = inl (first_in x (take m xs) j e)
    by (inr h) onward = by_rest h (onward h)

all_taken : (m : ℕ) (xs : List ℕ) → length xs ≤ length (take m xs) → take m xs ≡ xs
all_taken zero [] le = refl
all_taken zero (x ∷ xs) le = absurd (omega (arith, le))
all_taken (suc m) [] le = refl
all_taken (suc m) (x ∷ xs) le = ap (λ (ys : List ℕ). x ∷ ys) (all_taken m xs (omega (arith, le)))

newest_falls : (n : ℕ) (xs : List ℕ) → Falls n xs → Falls n (newest_of xs)
unfolding newest_of
newest_falls n xs f = falls_take n 8192 xs f

after_newest : (n : ℕ) (xs : List ℕ) (j : ℕ) → Falls n xs → Contains xs j → Contains (newest_of xs) j ⊎ ((k : ℕ) → Contains (newest_of xs) k → j < k)
unfolding newest_of
after_newest n xs j f inside = after_taken n 8192 xs j f inside

all_newest : (xs : List ℕ) → length xs ≤ length (newest_of xs) → newest_of xs ≡ xs
unfolding newest_of
all_newest xs le = all_taken 8192 xs le

-- some number of a list that passes, and none that does
any_found : (f : ℕ → ℕ) (test : ℕ → Bool) (xs : List ℕ) → list_any (λ i. test (f i)) xs ≡ true → (y : ℕ) × Contains (map f xs) y × (test y ≡ true)
any_found f test [] e = let no : ⊥ = cc in absurd no
any_found f test (x ∷ xs) e = by (test (f x)) refl e (any_found f test xs)
  where
    by : (b : Bool) → test (f x) ≡ b → (b || list_any (λ i. test (f i)) xs) ≡ true → (list_any (λ i. test (f i)) xs ≡ true → (y : ℕ) × Contains (map f xs) y × (test y ≡ true)) → (y : ℕ) × Contains (f x ∷ map f xs) y × (test y ≡ true)
    by true is h onward = (f x, first_in (f x) (map f xs) (f x) refl, is)
    by false is h onward = let later = onward h in (later.0, rest_in (f x) (map f xs) later.0 later.1, later.2)

none_found : (f : ℕ → ℕ) (test : ℕ → Bool) (xs : List ℕ) → list_any (λ i. test (f i)) xs ≡ false → (y : ℕ) → Contains (map f xs) y → test y ≡ false
none_found f test [] e y h = absurd (none_in y h)
none_found f test (x ∷ xs) e y h = by (test (f x)) refl e (λ rest later. none_found f test xs rest y later) (in_either (f x) (map f xs) y h)
  where
    by : (b : Bool) → test (f x) ≡ b → (b || list_any (λ i. test (f i)) xs) ≡ false → (list_any (λ i. test (f i)) xs ≡ false → Contains (map f xs) y → test y ≡ false) → (f x ≡ y) ⊎ Contains (map f xs) y → test y ≡ false
    by true is rest onward at = let no : ⊥ = cc in absurd no
    by false is rest onward (inl here) = ap test (sym here) ∙ is
    by false is rest onward (inr later) = onward rest later

-- ---- tests
not_both : (b d : Bool) → b && d ≡ false → (b ≡ false) ⊎ (d ≡ false)
not_both true d e = inr e
not_both false d e = inl refl

none_of_both : (b d : Bool) → b || d ≡ false → (b ≡ false) × (d ≡ false)
none_of_both true d e = let no : ⊥ = cc in absurd no
none_of_both false d e = (refl, e)

is_not : (b : Bool) → not b ≡ false → b ≡ true
is_not true e = refl
is_not false e = let no : ⊥ = cc in absurd no

unless_true : (b : Bool) → (b ≡ true → ⊥) → b ≡ false
unless_true true never = absurd (never refl)
unless_true false never = refl

none_of_three : (b d e : Bool) → (if b then true else if d then false else e) ≡ false → (b ≡ false) × ((d ≡ true) ⊎ (e ≡ false))
none_of_three true d e h = let no : ⊥ = cc in absurd no
none_of_three false true e h = (refl, inl refl)
none_of_three false false e h = (refl, inr h)

-- ---- bytes
addresses_small : (b : SoughtBytes) → All (λ a. a < 2 ^ 32) (addresses b)
addresses_small b = All-map (λ a. a < 2 ^ 32) (λ i. wrapped (b.address + i)) (range_with_len 0 b.count) (λ k d inside. mod_below _ (2 ^ 32) (omega arith))

no_bytes : (o : Option ℕ) (a : ℕ) → Contains (bytes_from 0 o) a → ⊥
no_bytes None a h = none_in a h
no_bytes (Some x) a h = none_in a h

byte_back : (x i a : ℕ) → i < 4 → x < 2 ^ 32 → (x + i) % 2 ^ 32 ≡ a → (a + (2 ^ 32 - x)) % 2 ^ 32 ≡ i
byte_back x i a few small is = omega (arith, few, small, is)

not_within : (n count : ℕ) → nat_lt n count ≡ false → n < count → ⊥
not_within n count e less = let under : nat_lt n count ≡ true = grind (arith, nat_tests, less) in false≢true (sym e ∙ under)

missed : (a count x : ℕ) → count ≤ 4 → x < 2 ^ 32 → nat_lt ((a + (2 ^ 32 - x)) % 2 ^ 32) count ≡ false → Contains (bytes_from count (Some x)) a → ⊥
missed a count x few small e h = All-contains (λ y. y ≡ a → ⊥) (bytes_from count (Some x)) a apart h refl
  where
    at_index : (i : ℕ) → i < count → (x + i) % 2 ^ 32 ≡ a → ⊥
    at_index i inside is =
        let back : (a + (2 ^ 32 - x)) % 2 ^ 32 ≡ i = byte_back x i a (omega (arith, inside, few)) small is in
        not_within ((a + (2 ^ 32 - x)) % 2 ^ 32) count e (omega (arith, back, inside))

    apart : All (λ y. y ≡ a → ⊥) (bytes_from count (Some x))
    apart = All-map (λ y. y ≡ a → ⊥) (λ i. (x + i) % 2 ^ 32) (range_with_len 0 count) (λ k d inside.
        let all = length-range_with_len 0 count in
        let less : k < count = omega (arith, inside, all) in
        let same = get_or-range_with_len 0 count k d less in
        at_index _ (omega (arith, same, less)))

few_stored_by : (op : StoreOp) → stored_by op ≤ 4
few_stored_by Sb = omega arith
few_stored_by Sh = omega arith
few_stored_by Sw = omega arith

few_stored : (instr : Instr) → stored instr ≤ 4
few_stored (Lui rd imm) = omega arith
few_stored (Auipc rd imm) = omega arith
few_stored (Jal rd imm) = omega arith
few_stored (Jalr rd rs1 imm) = omega arith
few_stored (Branch op rs1 rs2 imm) = omega arith
few_stored (Load op rd rs1 imm) = omega arith
few_stored (Store op rs1 rs2 imm) = few_stored_by op
few_stored (Imm op rd rs1 imm) = omega arith
few_stored (Op op rd rs1 rs2) = omega arith
few_stored (Amo op rd rs1 rs2) = omega arith
few_stored Fence = omega arith
few_stored Ecall = omega arith
few_stored Ebreak = omega arith
few_stored (Counter rd csr) = omega arith

some_is : {x y : ℕ} → Some x ≡ Some y → x ≡ y
some_is e = cc

address_small : (register : ℕ → ℕ) (base : Option (ℕ × ℤ)) (x : ℕ) → option_map (λ b. plus (register b.0) b.1) base ≡ Some x → x < 2 ^ 32
address_small register None x e = let no : ⊥ = cc in absurd no
address_small register (Some base) x e = subst (λ (y : ℕ). y < 2 ^ 32) (some_is e) (mod_below _ (2 ^ 32) (omega arith))

-- a byte that isn't among those from the address that is known isn't among those from the address
not_among : (a count : ℕ) (known address : Option ℕ) → count ≤ 4 → ((x : ℕ) → known ≡ Some x → (address ≡ Some x) × (x < 2 ^ 32)) → is_among a count known ≡ false → Contains (bytes_from count address) a → ⊥
not_among a count None address few is e h = let no : ⊥ = cc in absurd no
not_among a count (Some x) address few is e h = let there = is x refl in missed a count x few there.1 e (subst (λ (o : Option ℕ). Contains (bytes_from count o) a) there.0 h)

-- ---- the step that is told
same_row : {x y : StepRow} → Some x ≡ Some y → x ≡ y
same_row e = cc

module _ (s : Shown) where
  surely_is : (c : ThreadPoint) (w : told.Writer) → names_surely s c w ≡ true → writer_told s w ≡ writes (row_of c.thread c.point)
  surely_is c (told.TheVariants.Writes j) e =
      let same = and_parts ((s.point j).thread == c.thread) ((s.point j).point == c.point) e in
      ap (λ (t : ℕ). writes (row_of t (s.point j).point)) (eqb-true (s.point j).thread c.thread same.0) ∙ ap (λ (i : ℕ). writes (row_of c.thread i)) (eqb-true (s.point j).point c.point same.1)
  surely_is c (told.TheVariants.MayWrite j) e = let no : ⊥ = cc in absurd no
  surely_is c told.TheVariants.Several e = let no : ⊥ = cc in absurd no
  surely_is c told.TheVariants.None e = let no : ⊥ = cc in absurd no

  other_row : (c step : ThreadPoint) → is_step c step ≡ false → row_of step.thread step.point ≡ row_of c.thread c.point → ⊥
  other_row c step e same =
      let thread : step.thread ≡ c.thread = ap (λ (r : Row). r.thread) same in
      let point : step.point ≡ c.point = ap (λ (r : Row). r.step) same in
      let first : (step.thread == c.thread) ≡ true = grind (arith, nat_tests, thread) in
      let second : (step.point == c.point) ≡ true = grind (arith, nat_tests, point) in
      false≢true (sym e ∙ and_from (step.thread == c.thread) (step.point == c.point) first second)

  passed_over : (c : ThreadPoint) (w : told.Writer) → names s c w ≡ false → IsNamedRow (writer_told s w) (row_of c.thread c.point) → ⊥
  passed_over c (told.TheVariants.Writes j) e same = other_row c (s.point j) e same
  passed_over c (told.TheVariants.MayWrite j) e same = other_row c (s.point j) e same
  passed_over c told.TheVariants.Several e same = same
  passed_over c told.TheVariants.None e same = same

module _ (s : Shown) (held : ThreadPoint → PointHeld) (all : (c : ThreadPoint) → IsThreadPoint s c → IsHeldAt s c (held c)) where
  -- what is told right after a step
  told_after : (c : ThreadPoint) (a : ℕ) → IsThreadPoint s (at c.thread (c.point + 1)) → a < 2 ^ 32 → (held (at c.thread (c.point + 1))).last_writer a (writer_told s (writer_after s a c))
  told_after c a next small = (all (at c.thread (c.point + 1)) next).writers a small

  wrote_by : (c : ThreadPoint) (a : ℕ) → IsThreadPoint s (at c.thread (c.point + 1)) → a < 2 ^ 32 → is_sure_writer s a c ≡ true → Wrote held c a
  wrote_by c a next small e =
      let sure = (and_parts (touches s a c) (names_surely s c (writer_after s a c)) e).1 in
      subst (λ (w : Writer). (held (at c.thread (c.point + 1))).last_writer a w) (surely_is s c (writer_after s a c) sure) (told_after c a next small)

  -- a step that doesn't touch the byte
  untouched : (c : ThreadPoint) (a : ℕ) (row : StepRow) → IsThreadPoint s c → may_touch s (number s c) a row.instr ≡ false → (is_call row.instr ≡ false) × (Contains (bytes_stored (held c).register row.instr) a → ⊥)
  untouched c a row is e =
      let three = none_of_three (is_call row.instr) (stored row.instr == 0) (is_among a (stored row.instr) (address_by s (number s c) (base_of row.instr))) e in
      (three.0, by three.1)
    where
      by : ((stored row.instr == 0) ≡ true) ⊎ (is_among a (stored row.instr) (address_by s (number s c) (base_of row.instr)) ≡ false) → Contains (bytes_stored (held c).register row.instr) a → ⊥
      by (inl none) h = no_bytes (address_in (held c).register row.instr) a (subst (λ (n : ℕ). Contains (bytes_from n (address_in (held c).register row.instr)) a) (eqb-true (stored row.instr) 0 none) h)
      by (inr far) h =
          not_among a (stored row.instr) (address_by s (number s c) (base_of row.instr)) (address_in (held c).register row.instr) (few_stored row.instr)
          (λ x known. let there = accessed s held all c is (base_of row.instr) x known in (there, address_small (held c).register (base_of row.instr) x there)) far h

  untouched_row : (c : ThreadPoint) (a : ℕ) → IsThreadPoint s c → touches s a c ≡ false → StoresElsewhere held s c a
  untouched_row c a is e row there = untouched c a row is (by (slice_get (s.rows c.thread) c.point) there e)
    where
      by : (o : Option StepRow) → o ≡ Some row → row_touches s a c o ≡ false → may_touch s (number s c) a row.instr ≡ false
      by None same h = let no : ⊥ = cc in absurd no
      by (Some r) same h = subst (λ (x : StepRow). may_touch s (number s c) a x.instr ≡ false) (same_row same) h

  no_store : (c : ThreadPoint) (a : ℕ) → is_store (slice_get (s.rows c.thread) c.point) ≡ false → StoresElsewhere held s c a
  no_store c a e row there =
      let none = none_of_both (is_call row.instr) (not (stored row.instr == 0)) (ap is_store (sym there) ∙ e) in
      (none.0, λ h. no_bytes (address_in (held c).register row.instr) a (subst (λ (n : ℕ). Contains (bytes_from n (address_in (held c).register row.instr)) a) (eqb-true (stored row.instr) 0 (is_not (stored row.instr == 0) none.1)) h))

  unnamed : (c : ThreadPoint) (a : ℕ) → IsThreadPoint s c → IsThreadPoint s (at c.thread (c.point + 1)) → a < 2 ^ 32 → is_writer s a c ≡ false → StoresElsewhere held s c a ⊎ IsPassedOver held c a
  unnamed c a is next small e = by (not_both (touches s a c) (names s c (writer_after s a c)) e)
    where
      by : (touches s a c ≡ false) ⊎ (names s c (writer_after s a c) ≡ false) → StoresElsewhere held s c a ⊎ IsPassedOver held c a
      by (inl far) = inl (untouched_row c a is far)
      by (inr other) = inr (writer_told s (writer_after s a c), told_after c a next small, passed_over s c (writer_after s a c) other)

  module _ (c : ThreadPoint) (is : IsThreadPoint s c) (b : SoughtBytes) where
    abbrev steps : List ℕ
    steps = writers_before s b c

    abbrev test : ℕ → Bool
    test k = writes_some s b (at c.thread k)

    here : (j : ℕ) → j < c.point → IsThreadPoint s (at c.thread j)
    here j less = let most = is.1 in (is.0, omega (arith, less, most))

    next : (j : ℕ) → j < c.point → IsThreadPoint s (at c.thread (j + 1))
    next j less = let most = is.1 in (is.0, omega (arith, less, most))

    small : (a : ℕ) → Contains (addresses b) a → a < 2 ^ 32
    small a among = All-contains (λ x. x < 2 ^ 32) (addresses b) a (addresses_small b) among

    steps_fall : Falls c.point steps
    steps_fall = falls_where test c.point

    sure_wrote : (j : ℕ) → j < c.point → is_sure_step s b c.thread j ≡ true → WroteOneOf held (at c.thread j) (addresses b)
    sure_wrote j less e = by (slice_get (s.rows c.thread) j) e
      where
        by : (o : Option StepRow) → is_sure_row s b (at c.thread j) o ≡ true → WroteOneOf held (at c.thread j) (addresses b)
        by None h = let no : ⊥ = cc in absurd no
        by (Some row) h =
            let some = (and_parts (has_place s (at c.thread j) row.instr) (is_sure_of_some s b (at c.thread j)) h).1 in
            let found = any_found (λ i. wrapped (b.address + i)) (λ a. is_sure_writer s a (at c.thread j)) (range_with_len 0 b.count) some in
            (found.0, found.1, wrote_by (at c.thread j) found.0 (next j less) (small found.0 found.1) found.2)

    not_written : (j a : ℕ) → j < c.point → test j ≡ false → Contains (addresses b) a → StoresElsewhere held s (at c.thread j) a ⊎ IsPassedOver held (at c.thread j) a
    not_written j a less e among = by (not_both (is_store (slice_get (s.rows c.thread) j)) (is_some_writer s b (at c.thread j)) e)
      where
        by : (is_store (slice_get (s.rows c.thread) j) ≡ false) ⊎ (is_some_writer s b (at c.thread j) ≡ false) → StoresElsewhere held s (at c.thread j) a ⊎ IsPassedOver held (at c.thread j) a
        by (inl none) = inl (no_store (at c.thread j) a none)
        by (inr none) =
            unnamed (at c.thread j) a (here j less) (next j less) (small a among)
            (none_found (λ i. wrapped (b.address + i)) (λ x. is_writer s x (at c.thread j)) (range_with_len 0 b.count) none a among)

    abbrev asked : WritersAsked
    asked = record { cursor = c; bytes = b }

    -- where no step is told
    none_told : (text : List ℕ) → steps ≡ [] → b.address < 2 ^ 32 → text ≡ unwritten_line s c b → IsWritersTrue held s asked text
    none_told text none low e = record {
      told = record { steps = []; is_sure = λ j. false; left = 0 };
      falls = λ i j d less inside. absurd (omega (arith, less, inside));
      before = All-nil (λ j. j < c.point);
      wrote = λ j h sure. absurd (none_in j h);
      others = λ j a u among. not_written j a u.before (unless_true (test j) (λ passes. none_in j (subst (λ (xs : List ℕ). Contains xs j) none (kept_of test c.point j u.before passes)))) among;
      is = inl (refl, refl, by (b.count == 1) e);
    }
      where
        by : (one : Bool) → text ≡ (if one then writer_line s (s.writer (moment_at s c) b.address) else codes "no step of the thread" ++ 10 ∷ []) → MatchBool one (IsWriterLineTrue s.threads (held c) b.address text) (text ≡ codes "no step of the thread" ++ 10 ∷ [])
        by true h = (writer_told s (s.writer (moment_at s c) b.address), (all c is).writers b.address low, h ∙ ap (λ (ws : List ℕ). ws ++ 10 ∷ []) (writer_is s (s.writer (moment_at s c) b.address)))
        by false h = h

    abbrev told_of : WritersTold
    told_of = record { steps = newest_of steps; is_sure = is_sure_step s b c.thread; left = length steps - length (newest_of steps) }

    entry_is : (j : ℕ) (o : Option StepRow) → group_by s b c.thread (newest_of steps) j o ≡ step_told s told_of (at c.thread j) o
    entry_is j None = refl
    entry_is j (Some row) = refl

    entries_are : (js : List ℕ) → flat_map (group_entry s b c.thread (newest_of steps)) js ≡ flat_map (λ j. step_told s told_of (at c.thread j) (slice_get (s.rows c.thread) j)) js
    entries_are [] = refl
    entries_are (j ∷ js) =
        ap (λ (t : List ℕ). t ++ flat_map (group_entry s b c.thread (newest_of steps)) js) (entry_is j (slice_get (s.rows c.thread) j))
        ∙ ap (λ (t : List ℕ). step_told s told_of (at c.thread j) (slice_get (s.rows c.thread) j) ++ t) (entries_are js)

    not_told : (j : ℕ) → IsUntold asked told_of j → test j ≡ true → ⊥
    not_told j u passes = by (after_newest c.point steps j steps_fall (kept_of test c.point j u.before passes)) u.reached
      where
        by : Contains (newest_of steps) j ⊎ ((k : ℕ) → Contains (newest_of steps) k → j < k) → (told_of.left ≡ 0) ⊎ ((k : ℕ) × Contains (newest_of steps) k × (k < j)) → ⊥
        by (inl among) reached = u.untold among
        by (inr low) (inl none) = u.untold (subst (λ (xs : List ℕ). Contains xs j) (sym (all_newest steps (omega (arith, none)))) (kept_of test c.point j u.before passes))
        by (inr low) (inr (k, among, less)) = let more = low k among in omega (arith, less, more)

    some_told : (text : List ℕ) → text ≡ flat_map (group_entry s b c.thread (newest_of steps)) (newest_of steps) ++ left_line (length steps - length (newest_of steps)) → IsWritersTrue held s asked text
    some_told text e =
        let falls = newest_falls c.point steps steps_fall in
        record {
          told = told_of;
          falls = falls_pairs c.point (newest_of steps) falls;
          before = falls_below c.point (newest_of steps) falls;
          wrote = λ j among sure. sure_wrote j (All-contains (λ k. k < c.point) (newest_of steps) j (falls_below c.point (newest_of steps) falls) among) sure;
          others = λ j a u among. not_written j a u.before (unless_true (test j) (not_told j u)) among;
          is = inr (e ∙ ap (λ (t : List ℕ). t ++ left_line (length steps - length (newest_of steps))) (entries_are (newest_of steps)));
        }

    answered : (text : List ℕ) → b.address < 2 ^ 32 → text ≡ writers_lines s c b steps → IsWritersTrue held s asked text
    answered text low e = by steps refl e
      where
        by : (xs : List ℕ) → steps ≡ xs → text ≡ writers_lines s c b xs → IsWritersTrue held s asked text
        by [] same h = none_told text same low h
        by (x ∷ xs) same h = some_told text (h ∙ sym (ap (λ (ys : List ℕ). flat_map (group_entry s b c.thread (newest_of ys)) (newest_of ys) ++ left_line (length ys - length (newest_of ys))) same))

  pub writers_true : (c : ThreadPoint) (a count : ℕ) (text : List ℕ) → IsThreadPoint s c → text ≡ writers_lines s c (record { address = a; count = count }) (writers_before s (record { address = a; count = count }) c) → a < 2 ^ 32 → IsWritersTrue held s (writers_asked c a count) text
  writers_true c a count text is e low = answered c is (record { address = a; count = count }) text low e
