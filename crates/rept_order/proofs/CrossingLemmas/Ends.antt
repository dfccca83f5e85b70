-- The latest ends of writers, one writer after the other.
use Rattle.std.proofs.Common.{◌≡◌, ◌≢◌, ℕ, zero, suc, ◌+◌, ◌<◌, ◌≤◌, ◌&&◌, ◌||◌, not, eqb, nat_le, cond, Bool, true, false, List, [], ◌∷◌, ◌++◌, length, take, get_or, Option, Some, None, slice_get, inl, inr, refl, sym, ap, ◌∙◌, subst, arith, length-append}
use Rattle.std.specs.List.{list_any}
use Rattle.std.proofs.lemmas.Bool.{false≢true, cases_lt, cases_eq, cases_order, or_cases, or_left, and_parts, eq-eqb, ne_eqb, lt-ltb, le-ltb, leb-true, le-leb}
use Rattle.std.proofs.lemmas.List.Folds.{list_any-append}
use Rattle.std.proofs.lemmas.Option.{slice_get_past, slice_get_read}
use Rattle.rept_order.specs.declared.crossing.writer.TimedWriter.{TimedWriter}
use Rattle.rept_order.specs.declared.crossing.writer.Rest.{Rest}
use Rattle.rept_order.specs.declared.crossing.latest.Latest.{Latest}
use Rattle.rept_order.specs.Crossing.Writers.{no_writer, lasts_to, not_past, crosses}
use Rattle.rept_order.specs.Crossing.Latest.{later_of, latest_none, latest_with, reaches_to, latest_reaches, TellsLatest, AreLatest}

or_false : (a : Bool) → (a || false) ≡ a
or_false true = refl
or_false false = refl

absorb : (p q : Bool) → (q ≡ true → p ≡ true) → (p || q) ≡ p
absorb true q k = refl
absorb false true k = absurd (false≢true (k refl))
absorb false false k = refl

absorb_left : (p q : Bool) → (p ≡ true → q ≡ true) → (p || q) ≡ q
absorb_left true q k = sym (k refl)
absorb_left false q k = refl

not_so : (b : Bool) → (b ≡ true → ⊥) → b ≡ false
not_so true k = absurd (k refl)
not_so false k = refl

up : (f a b : ℕ) → a ≤ b → nat_le f a ≡ true → nat_le f b ≡ true
up f a b less e = let k = leb-true f a e in le-leb f b (omega arith)

later_reaches : (o : Option ℕ) (e f : ℕ) → reaches_to (later_of o e) f ≡ (reaches_to o f || nat_le f e)
later_reaches None e f = refl
later_reaches (Some k) e f =
    elim (cases_lt e k) [
      | inl less ↦ rw (lt-ltb e k less) (sym (absorb (nat_le f k) (nat_le f e) (up f e k (omega arith))))
      | inr past ↦ rw (le-ltb e k past) (sym (absorb_left (nat_le f k) (nat_le f e) (up f k e past)))
    ]

abbrev latest : ℕ → Option ℕ → Option ℕ → Latest
latest a e o = record { thread = a; end = e; other = o }

-- whether another thread's writer lasts to a time, with one more
abbrev Adds : ℕ → Latest → Latest → ℕ → TimedWriter → Type 0
Adds f x y t w = latest_reaches y t f ≡ (latest_reaches x t f || lasts_to t f w)

module _ (a : ℕ) (o : Option ℕ) (w : TimedWriter) (t f : ℕ) where
  first_adds : (reaches_to o f ≡ true → ⊥) → Adds f (latest a None o) (latest w.thread (Some w.end) None) t w
  first_adds none =
      elim (cases_eq t w.thread) [
        | inl same ↦ rw (eq-eqb t w.thread same, eq-eqb w.thread t (sym same)) (sym (ap (λ (b : Bool). b || false) (old (eqb t a))))
        | inr other ↦ rw (ne_eqb t w.thread other, ne_eqb w.thread t (λ e. other (sym e))) (sym (ap (λ (b : Bool). b || nat_le f w.end) (old (eqb t a))))
      ]
    where
      old : (b : Bool) → reaches_to (cond b o None) f ≡ false
      old true = not_so (reaches_to o f) none
      old false = refl

  same_adds : (e : ℕ) → w.thread ≡ a → Adds f (latest a (Some e) o) (latest a (later_of (Some e) w.end) o) t w
  same_adds e its =
      elim (cases_eq t a) [
        | inl same ↦ rw (eq-eqb t a same, eq-eqb w.thread t (its ∙ sym same)) (sym (or_false (reaches_to o f)))
        | inr other ↦ rw (ne_eqb t a other, ne_eqb w.thread t (λ k. other (sym k ∙ its))) (later_reaches (Some e) w.end f)
      ]

  early_adds : (e : ℕ) → w.thread ≢ a → w.end ≤ e → Adds f (latest a (Some e) o) (latest a (Some e) (later_of o w.end)) t w
  early_adds e its less =
      elim (cases_eq t a) [
        | inl same ↦ rw (eq-eqb t a same, ne_eqb w.thread t (λ k. its (k ∙ same))) (later_reaches o w.end f)
        | inr other ↦ rw (ne_eqb t a other) (sym (absorb (nat_le f e) (lasts_to t f w) (λ k. up f w.end e less (and_parts (not (eqb w.thread t)) (nat_le f w.end) k).1)))
      ]

  late_adds : (e : ℕ) → w.thread ≢ a → e < w.end → (reaches_to o f ≡ true → nat_le f e ≡ true) → Adds f (latest a (Some e) o) (latest w.thread (Some w.end) (Some e)) t w
  late_adds e its less least =
      elim (cases_eq t w.thread) [
        | inl same ↦ rw (eq-eqb t w.thread same, eq-eqb w.thread t (sym same), ne_eqb t a (λ k. its (sym same ∙ k))) (sym (or_false (nat_le f e)))
        | inr other ↦ rw (ne_eqb t w.thread other, ne_eqb w.thread t (λ k. other (sym k))) (sym (absorb_left (reaches_to (cond (eqb t a) o (Some e)) f) (nat_le f w.end) (old (eqb t a))))
      ]
    where
      old : (b : Bool) → reaches_to (cond b o (Some e)) f ≡ true → nat_le f w.end ≡ true
      old true k = up f e w.end (omega arith) (least k)
      old false k = up f e w.end (omega arith) k

-- what stands of the latest ends
pub record IsFit (f : ℕ) (x y : Latest) (w : TimedWriter) : Type 0 where
  pub adds : (t : ℕ) → Adds f x y t w
  pub least : reaches_to y.other f ≡ true → reaches_to y.end f ≡ true

fits_with : (a : ℕ) (e o : Option ℕ) (w : TimedWriter) (f : ℕ) → (reaches_to o f ≡ true → reaches_to e f ≡ true) → IsFit f (latest a e o) (latest_with (latest a e o) w) w
fits_with a None o w f least = record { adds = λ t. first_adds a o w t f (λ k. false≢true (least k)); least = λ k. absurd (false≢true k) }
fits_with a (Some e) o w f least =
    elim (cases_eq w.thread a) [
      | inl same ↦ rw (eq-eqb w.thread a same) (record {
        adds = λ t. same_adds a o w t f e same;
        least = λ k. later_reaches (Some e) w.end f ∙ or_left (nat_le f e) (nat_le f w.end) (least k);
      })
      | inr other ↦
          elim (cases_lt e w.end) [
            | inl less ↦ rw (ne_eqb w.thread a other, over w.end e less) (record {
              adds = λ t. late_adds a o w t f e other less least;
              least = λ k. up f e w.end (omega arith) k;
            })
            | inr past ↦ rw (ne_eqb w.thread a other, le-leb w.end e past) (record {
              adds = λ t. early_adds a o w t f e other past;
              least = λ k.
                  elim (or_cases (reaches_to o f) (nat_le f w.end) (sym (later_reaches o w.end f) ∙ k)) [
                    | inl r ↦ least r
                    | inr r ↦ up f w.end e past r
                  ];
            })
          ]
    ]
  where
    over : (m n : ℕ) → n < m → nat_le m n ≡ false
    over m n less = not_so (nat_le m n) (λ e. let k = leb-true m n e in omega arith)

pub none_latest : TellsLatest [] latest_none
none_latest = record { is = λ t f. sym (none (eqb t 0) f); least = λ f k. absurd (false≢true k) }
  where
    none : (b : Bool) (f : ℕ) → reaches_to (cond b None None) f ≡ false
    none true f = refl
    none false f = refl

pub more_latest : (ws : List TimedWriter) (x : Latest) (w : TimedWriter) → TellsLatest ws x → TellsLatest (ws ++ w ∷ []) (latest_with x w)
more_latest ws x w its = record {
  is = λ t f. list_any-append (lasts_to t f) ws (w ∷ []) ∙ ap (λ (b : Bool). b || (lasts_to t f w || false)) (its.is t f) ∙ ap (λ (b : Bool). latest_reaches x t f || b) (or_false (lasts_to t f w)) ∙ sym ((fits_with x.thread x.end x.other w f (its.least f)).adds t);
  least = λ f. (fits_with x.thread x.end x.other w f (its.least f)).least;
}

pub take_more : (ws : List TimedWriter) (k : ℕ) (d : TimedWriter) → k < length ws → take (suc k) ws ≡ take k ws ++ get_or ws k d ∷ []
take_more [] k d less = absurd (omega arith)
take_more (w ∷ ws) zero d less = refl
take_more (w ∷ ws) (suc k) d less = ap (λ (xs : List TimedWriter). w ∷ xs) (take_more ws k d (omega arith))

-- only those that have begun cross
pub crossing : (rest : Rest) (ws : List TimedWriter) (k : ℕ) → ((i : ℕ) → i < k → not_past rest.to (get_or ws i no_writer).begin ≡ true) → ((i : ℕ) → k ≤ i → i < length ws → not_past rest.to (get_or ws i no_writer).begin ≡ false) → list_any (crosses rest) ws ≡ list_any (lasts_to rest.thread rest.from) (take k ws)
crossing rest [] zero before after = refl
crossing rest [] (suc k) before after = refl
crossing rest (w ∷ ws) zero before after =
    ap (λ (b : Bool). (lasts_to rest.thread rest.from w && b) || list_any (crosses rest) ws) (after 0 (omega arith) (omega arith))
    ∙ ap (λ (b : Bool). b || list_any (crosses rest) ws) (off (lasts_to rest.thread rest.from w))
    ∙ crossing rest ws zero (λ i less. absurd (omega arith)) (λ i least less. after (suc i) (omega arith) (omega arith))
    ∙ none ws
  where
    off : (b : Bool) → (b && false) ≡ false
    off true = refl
    off false = refl

    none : (ws : List TimedWriter) → list_any (lasts_to rest.thread rest.from) (take 0 ws) ≡ list_any (lasts_to rest.thread rest.from) (take 0 (w ∷ ws))
    none [] = refl
    none (v ∷ ws) = refl
crossing rest (w ∷ ws) (suc k) before after =
    ap (λ (b : Bool). (lasts_to rest.thread rest.from w && b) || list_any (crosses rest) ws) (before 0 (omega arith))
    ∙ ap (λ (b : Bool). b || list_any (crosses rest) ws) (on (lasts_to rest.thread rest.from w))
    ∙ ap (λ (b : Bool). lasts_to rest.thread rest.from w || b) (crossing rest ws k (λ i less. before (suc i) (omega arith)) (λ i least less. after (suc i) (omega arith) (omega arith)))
  where
    on : (b : Bool) → (b && true) ≡ b
    on true = refl
    on false = refl

-- the table of each count, with one more
abbrev pub IsTable : List TimedWriter → ℕ → List Latest → Latest → Type 0
IsTable ws i xs x = record {
  count : length xs ≡ suc i;
  each : (k : ℕ) (x : Latest) → slice_get xs k ≡ Some x → TellsLatest (take k ws) x;
  known : TellsLatest (take i ws) x;
}

get_end : (xs : List Latest) (x : Latest) → slice_get (xs ++ x ∷ []) (length xs) ≡ Some x
get_end [] x = refl
get_end (y ∷ xs) x = get_end xs x

get_before : (xs : List Latest) (x : Latest) (k : ℕ) → k < length xs → slice_get (xs ++ x ∷ []) k ≡ slice_get xs k
get_before [] x k less = absurd (omega arith)
get_before (y ∷ xs) x zero less = refl
get_before (y ∷ xs) x (suc k) less = get_before xs x k (omega arith)

one_more : (n : ℕ) → n + 1 ≡ suc n
one_more n = omega arith

some_same : {x y : Latest} → Some x ≡ Some y → x ≡ y
some_same e = cc

none_some : {x : Latest} → None ≡ Some x → ⊥
none_some e = cc

pub table_more : (ws : List TimedWriter) (i : ℕ) (xs ys : List Latest) (x y : Latest) → i < length ws → IsTable ws i xs x → y ≡ latest_with x (get_or ws i no_writer) → ys ≡ xs ++ y ∷ [] → IsTable ws (i + 1) ys y
table_more ws i xs ys x y less its step e =
    let count = its.count in
    let long : length ys ≡ suc (length xs) = ap (λ (zs : List Latest). length zs) e ∙ length-append xs (y ∷ []) ∙ one_more (length xs) in
    let one : i + 1 ≡ suc i = omega arith in
    let known : TellsLatest (take (suc i) ws) y = subst (λ (vs : List TimedWriter). TellsLatest vs y) (sym (take_more ws i no_writer less)) (subst (λ (z : Latest). TellsLatest (take i ws ++ get_or ws i no_writer ∷ []) z) (sym step) (more_latest (take i ws) x (get_or ws i no_writer) its.known)) in
    record {
      count = omega arith;
      each = λ k z found.
          let there : slice_get (xs ++ y ∷ []) k ≡ Some z = sym (ap (λ (zs : List Latest). slice_get zs k) e) ∙ found in
          elim (cases_order k (length xs)) [
            | inl same ↦
                let at : slice_get (xs ++ y ∷ []) k ≡ Some y = ap (λ (j : ℕ). slice_get (xs ++ y ∷ []) j) same ∙ get_end xs y in
                subst (λ (j : ℕ). TellsLatest (take j ws) z) (sym (same ∙ count)) (subst (λ (v : Latest). TellsLatest (take (suc i) ws) v) (some_same (sym at ∙ there)) known)
            | inr (inl below) ↦ its.each k z (sym (get_before xs y k below) ∙ there)
            | inr (inr over) ↦ absurd (none_some (sym (slice_get_past ys k (omega arith)) ∙ found))
          ];
      known = subst (λ (j : ℕ). TellsLatest (take j ws) y) (sym one) known;
    }

pub crossed_is : (ws : List TimedWriter) (xs : List Latest) (rest : Rest) (k : ℕ) (x : Latest) (r : Bool) → AreLatest ws xs → k ≤ length ws → ((i : ℕ) → i < k → not_past rest.to (get_or ws i no_writer).begin ≡ true) → ((i : ℕ) → k ≤ i → i < length ws → not_past rest.to (get_or ws i no_writer).begin ≡ false) → x ≡ get_or xs k x → r ≡ latest_reaches x rest.thread rest.from → r ≡ list_any (crosses rest) ws
crossed_is ws xs rest k x r are few before after read e =
    let count = are.count in
    let there = slice_get_read xs (length xs) k x refl (omega arith) read in
    e ∙ sym ((are.each k x there).is rest.thread rest.from) ∙ sym (crossing rest ws k before after)
