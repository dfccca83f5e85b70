-- Reduced sets by their parts, and by the words that lie next to a range's bounds.
use Rattle.std.proofs.Common.{◌≡◌, ℕ, ◌<◌, ◌≤◌, ◌⊎◌, true, Option, Some, None, inl, inr, refl, sym, subst, ap, ◌∙◌, arith}
use Rattle.std.specs.Prelude.{bit_xor, IfSome}
use Rattle.std.proofs.lemmas.Bool.{cases_lt}
use Rattle.std.proofs.Math.Bridge.{le_prop}
use Rattle.std.proofs.Math.Bool.{Bool-set}
use Rattle.rept_partial.specs.declared.range.Range.{Range}
use Rattle.rept_partial.specs.Ranges.{from_to, range_has}
use Rattle.rept_partial.proofs.Bounds.{from_to_is}
use Rattle.rept_span.specs.Tables.{cover}
use Rattle.rept_known.specs.declared.bits.Bits.{Bits}
use Rattle.rept_known.specs.declared.both.Both.{Both}
use Rattle.rept_known.specs.Bits.{outside, bits_has}
use Rattle.rept_known.specs.Least.{IsLeastFrom, IsGreatestTo}
use Rattle.rept_known.specs.Both.{open_between, between, Least, Greatest, least_of, greatest_of, if_ordered, from_ends, reduced, IsReduced}
use Rattle.rept_known.specs.Laws.BothLaws.{is_reduced, reduced_none}

same_range : (a b : Range) → a.lo ≡ b.lo → a.hi ≡ b.hi → a ≡ b
same_range a b e f = from_to_is a.lo a.hi a.ordered a.small ∙ ap (λ x. from_to x a.hi) e ∙ ap (λ x. from_to b.lo x) f ∙ sym (from_to_is b.lo b.hi b.ordered b.small)

abbrev of_parts : (r : Range) (b : Bits) → bits_has b r.lo ≡ true → bits_has b r.hi ≡ true → b.loose ≤ cover (bit_xor r.lo r.hi) → Both
of_parts r b p q t = record { range = r; bits = b; least = p; greatest = q; tight = t }

-- their proofs are alike
same_proofs : (r : Range) (b : Bits) (p p' : bits_has b r.lo ≡ true) (q q' : bits_has b r.hi ≡ true) (t t' : b.loose ≤ cover (bit_xor r.lo r.hi)) → of_parts r b p q t ≡ of_parts r b p' q' t'
same_proofs r b p p' q q' t t' =
    ap (λ (x : bits_has b r.lo ≡ true). of_parts r b x q t) (Bool-set (bits_has b r.lo) true p p')
    ∙ ap (λ (x : bits_has b r.hi ≡ true). of_parts r b p' x t) (Bool-set (bits_has b r.hi) true q q')
    ∙ ap (λ (x : b.loose ≤ cover (bit_xor r.lo r.hi)). of_parts r b p' q' x) (le_prop t t')

pub same_both : (a c : Both) → a.range.lo ≡ c.range.lo → a.range.hi ≡ c.range.hi → a.bits ≡ c.bits → a ≡ c
same_both a c e f g =
    subst (λ (y : Bits). (p : bits_has y c.range.lo ≡ true) (q : bits_has y c.range.hi ≡ true) (t : y.loose ≤ cover (bit_xor c.range.lo c.range.hi)) → a ≡ of_parts c.range y p q t) g
    (subst (λ (x : Range). (p : bits_has a.bits x.lo ≡ true) (q : bits_has a.bits x.hi ≡ true) (t : a.bits.loose ≤ cover (bit_xor x.lo x.hi)) → a ≡ of_parts x a.bits p q t) (same_range a.range c.range e f) (λ p q t. same_proofs a.range a.bits a.least p a.greatest q a.tight t)) c.least c.greatest c.tight

-- ---- the ways in which a reduced set comes about
none_low : (b : Bits) (lo hi : ℕ) (l : Least b lo) (g : Greatest b hi) → ((u : ℕ) → bits_has b u ≡ true → u < lo) → None ≡ from_ends b lo hi l g
none_low b lo hi (inl none) g h = refl
none_low b lo hi (inr l) g h = let x = h l.0 l.1.has in let y = l.1.beyond in absurd (omega arith)

pub reduced_low : (r : Range) (b : Bits) → ((u : ℕ) → bits_has b u ≡ true → u < r.lo) → None ≡ reduced r b
reduced_low r b h = none_low b r.lo r.hi (least_of b r.lo) (greatest_of b r.hi) h

none_high : (b : Bits) (lo hi : ℕ) (l : Least b lo) (g : Greatest b hi) → ((u : ℕ) → bits_has b u ≡ true → u ≤ hi → ⊥) → None ≡ from_ends b lo hi l g
none_high b lo hi (inl none) g h = refl
none_high b lo hi (inr l) (inl none) h = refl
none_high b lo hi (inr l) (inr g) h = absurd (h g.0 g.1.has g.1.within)

pub reduced_high : (r : Range) (b : Bits) → ((u : ℕ) → bits_has b u ≡ true → u ≤ r.hi → ⊥) → None ≡ reduced r b
reduced_high r b h = none_high b r.lo r.hi (least_of b r.lo) (greatest_of b r.hi) h

least_unique : (b : Bits) (lo u v : ℕ) → IsLeastFrom b lo u → IsLeastFrom b lo v → u ≡ v
least_unique b lo u v h k = let p = h.first v k.has k.beyond in let q = k.first u h.has h.beyond in omega arith

greatest_unique : (b : Bits) (hi u v : ℕ) → IsGreatestTo b hi u → IsGreatestTo b hi v → u ≡ v
greatest_unique b hi u v h k = let p = h.last v k.has k.within in let q = k.last u h.has h.within in omega arith

none_apart : (b : Bits) (lo hi u v : ℕ) (l : Least b lo) (g : Greatest b hi) → IsLeastFrom b lo u → IsGreatestTo b hi v → v < u → None ≡ from_ends b lo hi l g
none_apart b lo hi u v (inl none) g h k lt = refl
none_apart b lo hi u v (inr l) (inl none) h k lt = refl
none_apart b lo hi u v (inr l) (inr g) h k lt = by (cases_lt g.0 l.0)
  where
    by : (o : (g.0 < l.0) ⊎ (l.0 ≤ g.0)) → None ≡ if_ordered b l.0 g.0 l.1.has g.1.has o
    by (inl apart) = refl
    by (inr le) =
        let p = least_unique b lo l.0 u l.1 h in
        let q = greatest_unique b hi g.0 v g.1 k in
        absurd (omega arith)

pub reduced_apart : (r : Range) (b : Bits) (u v : ℕ) → IsLeastFrom b r.lo u → IsGreatestTo b r.hi v → v < u → None ≡ reduced r b
reduced_apart r b u v h k lt = none_apart b r.lo r.hi u v (least_of b r.lo) (greatest_of b r.hi) h k lt

-- a set from one word of another set to another
pub record IsBetween (b : Bits) (u v : ℕ) (x : Both) : Type 0 where
  pub lowest : x.range.lo ≡ u
  pub highest : x.range.hi ≡ v
  pub bits : x.bits ≡ outside u (open_between b u v)

some_between : (b : Bits) (lo hi u v : ℕ) (x : Both) (l : Least b lo) (g : Greatest b hi) → IsLeastFrom b lo u → IsGreatestTo b hi v → u ≤ v → IsBetween b u v x → Some x ≡ from_ends b lo hi l g
some_between b lo hi u v x (inl none) g h k le is = let p = none u h.has in let q = h.beyond in absurd (omega arith)
some_between b lo hi u v x (inr l) (inl none) h k le is = absurd (none v k.has k.within)
some_between b lo hi u v x (inr l) (inr g) h k le is = by (cases_lt g.0 l.0)
  where
    p : u ≡ l.0
    p = least_unique b lo u l.0 h l.1

    q : v ≡ g.0
    q = greatest_unique b hi v g.0 k g.1

    by : (o : (g.0 < l.0) ⊎ (l.0 ≤ g.0)) → Some x ≡ if_ordered b l.0 g.0 l.1.has g.1.has o
    by (inl apart) = let p' = p in let q' = q in absurd (omega arith)
    by (inr le') =
        ap (λ (y : Both). Some y) (same_both x (between b l.0 g.0 l.1.has g.1.has le') (is.lowest ∙ p) (is.highest ∙ q) (is.bits ∙ ap (λ n. outside n (open_between b n v)) p ∙ ap (λ n. outside l.0 (open_between b l.0 n)) q))

pub reduced_between : (r : Range) (b : Bits) (u v : ℕ) (x : Both) → IsLeastFrom b r.lo u → IsGreatestTo b r.hi v → u ≤ v → IsBetween b u v x → Some x ≡ reduced r b
reduced_between r b u v x h k le is = some_between b r.lo r.hi u v x (least_of b r.lo) (greatest_of b r.hi) h k le is

-- what is answered is reduced
pub new_some : (r : Range) (b : Bits) (o : Option Both) → o ≡ reduced r b → IfSome o (λ a. IsReduced r b a)
new_some r b None e = tt
new_some r b (Some a) e = is_reduced r b a (sym e)

pub new_none : (r : Range) (b : Bits) (o : Option Both) → o ≡ reduced r b → o ≡ None → (v : ℕ) → range_has r v ≡ true → bits_has b v ≡ true → ⊥
new_none r b o e f = reduced_none r b (sym e ∙ f)
