-- A row of spans in blocks, split at one of them.
use Rattle.std.proofs.Common.{◌≡◌, ℕ, zero, suc, ◌+◌, ◌-◌, ◌*◌, ◌<◌, ◌≤◌, List, [], ◌∷◌, ◌++◌, length, take, get_or, set, refl, sym, ◌∙◌, ap, subst, inl, inr, arith}
use Rattle.std.specs.List.{insert, remove}
use Rattle.std.proofs.lemmas.Bool.{cases_lt}
use Rattle.std.proofs.lemmas.List.{append_assoc, get_or_default, length-append, length-take, length-set, set-append_left, set-append_right, get_or-append-add, get_or_append_left}
use Rattle.std.proofs.lemmas.List.Edits.{length-insert, length-remove, insert-append_left, insert-append_right, remove-append_left, remove-append_right}
use Rattle.rept_versions.specs.declared.span.Span.{Span}
use Rattle.rept_versions.specs.Line.{nth, no_span}
use Rattle.rept_versions.specs.Blocks.{flat, block, IsPacked, AreEmptyBlocks}

-- the blocks before one, all full, that one, and those after it
pub record Split (bs : List (List Span)) (k : ℕ) : Type 0 where
  pub front : List Span
  pub back : List Span
  pub before : length front ≡ k * 2048
  pub whole : flat bs ≡ front ++ (block bs k ++ back)
  pub fits : length (block bs k) ≤ 2048
  pub last : length (block bs k) < 2048 → back ≡ []
  pub edited : (b : List Span) → flat (set bs k b) ≡ front ++ (b ++ back)
  pub packed : (b : List Span) → length b ≤ 2048 → (length b < 2048 → back ≡ []) → IsPacked (set bs k b)

-- a full block before the others
split_on : (b : List Span) (bs : List (List Span)) (k : ℕ) → length b ≡ 2048 → Split bs k → Split (b ∷ bs) (suc k)
split_on b bs k full s = record {
  front = b ++ s.front;
  back = s.back;
  before = length-append b s.front ∙ omega (arith, full, s.before);
  whole = ap (λ l. b ++ l) s.whole ∙ sym (append_assoc b s.front (block bs k ++ s.back));
  fits = s.fits;
  last = s.last;
  edited = λ d. ap (λ l. b ++ l) (s.edited d) ∙ sym (append_assoc b s.front (d ++ s.back));
  packed = λ d fits last. (omega (arith, full), λ less. absurd (omega (arith, less, full)), s.packed d fits last);
}

full_or : (b : List Span) (bs : List (List Span)) (k : ℕ) → IsPacked (b ∷ bs) → suc k * 2048 ≤ length (b ++ flat bs) → length b ≡ 2048
full_or b bs k p over = elim (cases_lt (length b) 2048) [
  | inl less ↦ absurd (omega (arith, over, less, ap length (p.1 less), length-append b (flat bs)))
  | inr more ↦ omega (arith, more, p.0)
]

pub split : (bs : List (List Span)) (k : ℕ) → IsPacked bs → k < length bs → k * 2048 ≤ length (flat bs) → Split bs k
split [] k p at over = absurd (omega (arith, at))
split (b ∷ bs) zero p at over = record {
  front = [];
  back = flat bs;
  before = refl;
  whole = refl;
  fits = p.0;
  last = p.1;
  edited = λ c. refl;
  packed = λ c fits last. (fits, last, p.2);
}
split (b ∷ bs) (suc k) p at over = split_on b bs k (full_or b bs k p over) (split bs k p.2 (omega (arith, at)) (omega (arith, over, full_or b bs k p over, length-append b (flat bs))))

-- edits of a part
insert_in : (front b back : List Span) (n r : ℕ) (x : Span) → length front ≡ n → r ≤ length b → insert (front ++ (b ++ back)) (n + r) x ≡ front ++ (insert b r x ++ back)
insert_in front b back n r x is le =
    insert-append_right front (b ++ back) n (n + r) x is (omega arith)
    ∙ ap (λ l. front ++ l) (subst (λ j. insert (b ++ back) j x ≡ insert b r x ++ back) {x = r} (omega arith) (insert-append_left b back r x le))

remove_in : (front b back : List Span) (n r : ℕ) → length front ≡ n → r < length b → remove (front ++ (b ++ back)) (n + r) ≡ front ++ (remove b r ++ back)
remove_in front b back n r is lt =
    remove-append_right front (b ++ back) n (n + r) is (omega arith)
    ∙ ap (λ l. front ++ l) (subst (λ j. remove (b ++ back) j ≡ remove b r ++ back) {x = r} (omega arith) (remove-append_left b back r lt))

set_in : (front b back : List Span) (n r : ℕ) (x : Span) → length front ≡ n → r < length b → set (front ++ (b ++ back)) (n + r) x ≡ front ++ (set b r x ++ back)
set_in front b back n r x is lt =
    set-append_right front (b ++ back) n (n + r) x is (omega arith)
    ∙ ap (λ l. front ++ l) (subst (λ j. set (b ++ back) j x ≡ set b r x ++ back) {x = r} (omega arith) (set-append_left b back r x lt))

nth_in : (front b back : List Span) (n r : ℕ) → length front ≡ n → r < length b → nth (front ++ (b ++ back)) (n + r) ≡ nth b r
nth_in front b back n r is lt = subst (λ m. nth (front ++ (b ++ back)) (m + r) ≡ nth b r) is (get_or-append-add front (b ++ back) r no_span ∙ get_or_append_left b back no_span r lt)

insert_end : (xs : List Span) (x : Span) → insert xs (length xs) x ≡ xs ++ x ∷ []
insert_end [] x = refl
insert_end (y ∷ ys) x = ap (λ l. y ∷ l) (insert_end ys x)

pub insert_removed : (xs : List Span) (i : ℕ) → i < length xs → insert (remove xs i) i (nth xs i) ≡ xs
insert_removed [] i lt = absurd (omega (arith, lt))
insert_removed (y ∷ ys) zero lt = refl
insert_removed (y ∷ ys) (suc i) lt = ap (λ l. y ∷ l) (insert_removed ys i (omega (arith, lt)))

pub remove_inserted : (xs : List Span) (i : ℕ) (x : Span) → i ≤ length xs → remove (insert xs i x) i ≡ xs
remove_inserted xs zero x le = refl
remove_inserted [] (suc i) x le = absurd (omega (arith, le))
remove_inserted (y ∷ ys) (suc i) x le = ap (λ l. y ∷ l) (remove_inserted ys i x (omega (arith, le)))

last_apart : (xs : List Span) (n : ℕ) → length xs ≡ suc n → xs ≡ take n xs ++ nth xs n ∷ []
last_apart [] n is = absurd (omega (arith, is))
last_apart (y ∷ []) zero is = refl
last_apart (y ∷ z ∷ zs) zero is = absurd (omega (arith, is))
last_apart (y ∷ ys) (suc n) is = ap (λ l. y ∷ l) (last_apart ys n (omega (arith, is)))

nothing : (xs : List Span) → length xs ≡ 0 → xs ≡ []
nothing [] is = refl
nothing (x ∷ xs) is = absurd (omega (arith, is))

module _ (bs : List (List Span)) (k : ℕ) (packed : IsPacked bs) (at : k < length bs) (over : k * 2048 ≤ length (flat bs)) where
  s : Split bs k
  s = split bs k packed at over

  abbrev pub b : List Span
  b = block bs k

  total : length (flat bs) ≡ k * 2048 + (length b + length s.back)
  total = ap length s.whole ∙ (length-append s.front (b ++ s.back) ∙ omega (arith, s.before, length-append b s.back))

  pub full : suc k * 2048 ≤ length (flat bs) → length b ≡ 2048
  full le = elim (cases_lt (length b) 2048) [
    | inl less ↦ absurd (omega (arith, less, le, total, ap length (s.last less)))
    | inr more ↦ omega (arith, more, s.fits)
  ]

  pub short : length (flat bs) < suc k * 2048 → length b < 2048
  short lt = omega (arith, lt, total)

  pub inner : (r : ℕ) → k * 2048 + r < length (flat bs) → r < 2048 → r < length b
  inner r lt small = elim (cases_lt (length b) 2048) [
    | inl less ↦ omega (arith, lt, total, ap length (s.last less))
    | inr more ↦ omega (arith, more, small)
  ]

  pub up_to : (r : ℕ) → k * 2048 + r ≤ length (flat bs) → length b < 2048 → r ≤ length b
  up_to r le less = omega (arith, le, total, ap length (s.last less))

  pub reads : (r : ℕ) → r < length b → nth (flat bs) (k * 2048 + r) ≡ nth b r
  reads r lt = ap (λ l. nth l (k * 2048 + r)) s.whole ∙ nth_in s.front b s.back (k * 2048) r s.before lt

  pub put_is : (r : ℕ) (x : Span) → r < length b → flat (set bs k (set b r x)) ≡ set (flat bs) (k * 2048 + r) x
  put_is r x lt = s.edited (set b r x) ∙ sym (ap (λ l. set l (k * 2048 + r) x) s.whole ∙ set_in s.front b s.back (k * 2048) r x s.before lt)

  pub put_packed : (r : ℕ) (x : Span) → IsPacked (set bs k (set b r x))
  put_packed r x = s.packed (set b r x) (omega (arith, s.fits, length-set b r x)) (λ less. s.last (omega (arith, less, length-set b r x)))

  pub inserted : (r : ℕ) (x : Span) → r ≤ length b → flat (set bs k (insert b r x)) ≡ insert (flat bs) (k * 2048 + r) x
  inserted r x le = s.edited (insert b r x) ∙ sym (ap (λ l. insert l (k * 2048 + r) x) s.whole ∙ insert_in s.front b s.back (k * 2048) r x s.before le)

  pub inserted_packed : (r : ℕ) (x : Span) → r ≤ length b → length b < 2048 → IsPacked (set bs k (insert b r x))
  inserted_packed r x le less = s.packed (insert b r x) (omega (arith, less, length-insert b r x le)) (λ _. s.last less)

  pub removed : (r : ℕ) → r < length b → flat (set bs k (remove b r)) ≡ remove (flat bs) (k * 2048 + r)
  removed r lt = s.edited (remove b r) ∙ sym (ap (λ l. remove l (k * 2048 + r)) s.whole ∙ remove_in s.front b s.back (k * 2048) r s.before lt)

  pub removed_packed : (r : ℕ) → r < length b → length (flat bs) ≤ suc k * 2048 → IsPacked (set bs k (remove b r))
  removed_packed r lt le = s.packed (remove b r) (omega (arith, s.fits, length-remove b r lt)) (λ _. elim (cases_lt (length b) 2048) [
    | inl less ↦ s.last less
    | inr more ↦ nothing s.back (omega (arith, more, total, le))
  ])

  -- a full block that takes in a span and gives up its last one
  module _ (r : ℕ) (x : Span) (small : r < 2048) (whole : length b ≡ 2048) where
    abbrev pub rest : List Span
    rest = take (length b - 1) b

    rest_length : length rest ≡ 2047
    rest_length = length-take (length b - 1) b ∙ omega (arith, whole)

    abbrev pub pushed : List Span
    pushed = insert rest r x

    pushed_length : length pushed ≡ 2048
    pushed_length = length-insert rest r x (omega (arith, small, rest_length)) ∙ omega (arith, rest_length)

    apart : b ≡ rest ++ nth b 2047 ∷ []
    apart = subst (λ n. b ≡ take n b ++ nth b n ∷ []) {x = 2047} {y = length b - 1} (omega (arith, whole)) (last_apart b 2047 whole) ∙ ap (λ n. rest ++ nth b n ∷ []) (omega (arith, whole))

    pushed_on : insert b r x ≡ pushed ++ nth b 2047 ∷ []
    pushed_on = ap (λ l. insert l r x) apart ∙ insert-append_left rest (nth b 2047 ∷ []) r x (omega (arith, small, rest_length))

    pub pushed_is : insert (flat (set bs k pushed)) (suc k * 2048) (nth b 2047) ≡ insert (flat bs) (k * 2048 + r) x
    pushed_is =
        let left : insert (flat (set bs k pushed)) (k * 2048 + length pushed) (nth b 2047) ≡ s.front ++ (insert pushed (length pushed) (nth b 2047) ++ s.back) = ap (λ l. insert l (k * 2048 + length pushed) (nth b 2047)) (s.edited pushed) ∙ insert_in s.front pushed s.back (k * 2048) (length pushed) (nth b 2047) s.before (omega arith) in
        let right : insert (flat bs) (k * 2048 + r) x ≡ s.front ++ (insert b r x ++ s.back) = ap (λ l. insert l (k * 2048 + r) x) s.whole ∙ insert_in s.front b s.back (k * 2048) r x s.before (omega (arith, small, whole)) in
        ap (λ n. insert (flat (set bs k pushed)) n (nth b 2047)) (omega (arith, pushed_length))
        ∙ (left ∙ (ap (λ l. s.front ++ (l ++ s.back)) (insert_end pushed (nth b 2047) ∙ sym pushed_on) ∙ sym right))

    pub pushed_packed : IsPacked (set bs k pushed)
    pushed_packed = s.packed pushed (omega (arith, pushed_length)) (λ less. absurd (omega (arith, less, pushed_length)))

    pub pushed_same : length (flat (set bs k pushed)) ≡ length (flat bs)
    pushed_same = ap length (s.edited pushed) ∙ (length-append s.front (pushed ++ s.back) ∙ omega (arith, length-append pushed s.back, pushed_length, total, whole, s.before))

    -- and one that gives up a span and takes in another one as the last
    abbrev pub pulled : List Span
    pulled = remove b r ++ x ∷ []

    pulled_length : length pulled ≡ 2048
    pulled_length = length-append (remove b r) (x ∷ []) ∙ omega (arith, length-remove b r (omega (arith, small, whole)), whole)

    pulled_on : insert pulled r (nth b r) ≡ b ++ x ∷ []
    pulled_on = insert-append_left (remove b r) (x ∷ []) r (nth b r) (omega (arith, length-remove b r (omega (arith, small, whole)), small, whole)) ∙ ap (λ l. l ++ x ∷ []) (insert_removed b r (omega (arith, small, whole)))

    pub pulled_is : insert (flat (set bs k pulled)) (k * 2048 + r) (nth b r) ≡ insert (flat bs) (suc k * 2048) x
    pulled_is =
        let left : insert (flat (set bs k pulled)) (k * 2048 + r) (nth b r) ≡ s.front ++ (insert pulled r (nth b r) ++ s.back) = ap (λ l. insert l (k * 2048 + r) (nth b r)) (s.edited pulled) ∙ insert_in s.front pulled s.back (k * 2048) r (nth b r) s.before (omega (arith, small, pulled_length)) in
        let right : insert (flat bs) (k * 2048 + length b) x ≡ s.front ++ (insert b (length b) x ++ s.back) = ap (λ l. insert l (k * 2048 + length b) x) s.whole ∙ insert_in s.front b s.back (k * 2048) (length b) x s.before (omega arith) in
        left ∙ (ap (λ l. s.front ++ (l ++ s.back)) (pulled_on ∙ sym (insert_end b x)) ∙ (sym right ∙ ap (λ n. insert (flat bs) n x) (omega (arith, whole))))

    pub pulled_packed : IsPacked (set bs k pulled)
    pulled_packed = s.packed pulled (omega (arith, pulled_length)) (λ less. absurd (omega (arith, less, pulled_length)))

    pub pulled_same : length (flat (set bs k pulled)) ≡ length (flat bs)
    pulled_same = ap length (s.edited pulled) ∙ (length-append s.front (pulled ++ s.back) ∙ omega (arith, length-append pulled s.back, pulled_length, total, whole, s.before))

-- what an access gives is the block
pub held : (bs : List (List Span)) (k : ℕ) (now : List Span) → k < length bs → now ≡ get_or bs k now → now ≡ block bs k
held bs k now at is = is ∙ get_or_default bs k now [] at

pub empty_on : (bs : List (List Span)) (n : ℕ) → AreEmptyBlocks bs n → AreEmptyBlocks (bs ++ [] ∷ []) (n + 1)
empty_on bs n e = record {
  len = length-append bs ([] ∷ []) ∙ omega (arith, e.len);
  packed = packed_on bs e.packed e.none;
  none = none_on bs e.none;
}
  where
    none_on : (bs : List (List Span)) → flat bs ≡ [] → flat (bs ++ [] ∷ []) ≡ []
    none_on [] is = refl
    none_on ([] ∷ bs) is = none_on bs is
    none_on ((x ∷ b) ∷ bs) is = absurd (omega (arith, ap length is))

    packed_on : (bs : List (List Span)) → IsPacked bs → flat bs ≡ [] → IsPacked (bs ++ [] ∷ [])
    packed_on [] p is = (omega arith, λ _. refl, tt)
    packed_on ([] ∷ bs) p is = (p.0, λ _. none_on bs is, packed_on bs p.2 is)
    packed_on ((x ∷ b) ∷ bs) p is = absurd (omega (arith, ap length is))
