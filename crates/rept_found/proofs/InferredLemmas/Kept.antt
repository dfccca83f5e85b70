-- What is narrowed stays true, and nothing that was known is lost.
use Rattle.std.proofs.Common.{◌≡◌, ◌≢◌, ℕ, ◌+◌, ◌<◌, ◌≤◌, Bool, true, false, cond, length, Option, Some, None, refl, sym, ap, subst, ◌∙◌, arith}
use Rattle.std.specs.Prelude.{nat_lt, if◌then◌else◌, is_some, unwrap_or, bit_and, bit_or}
use Rattle.std.specs.Option.{option_or}
use Rattle.std.specs.Int.{bit_at}
use Rattle.std.proofs.lemmas.Nat.Bits.{bit_at_and, bit_at_or, same_from_bits}
use Rattle.std.proofs.lemmas.Bool.{ltb-true}
use Rattle.rept_machine.specs.State.{State}
use Rattle.rept_partial.specs.declared.range.Range.{Range}
use Rattle.rept_partial.specs.Ranges.{range_has, range_lawful, range_meet}
use Rattle.rept_known.specs.declared.both.Both.{Both}
use Rattle.rept_known.specs.Both.{both_has}
use Rattle.rept_known.specs.BothMoves.{both_covers, both_moves}
use Rattle.rept_known.specs.Laws.BothLaws.{both_lawful, both_parts}
use Rattle.rept_reason.specs.declared.fact.Cell.{Cell}
use Rattle.rept_reason.specs.declared.fact.Cell.TheVariants.{Register, Byte}
use Rattle.rept_report.specs.OneThread.{ThreadPath}
use Rattle.rept_findings.specs.Shown.{Shown, known_value, places_of}
use Rattle.rept_report.specs.declared.writer.Writer.TheVariants as writer
use Rattle.rept_found.specs.Truth.{IsTrueOf}
use Rattle.rept_narrow.specs.Admitted.{Story}
use Rattle.rept_infer.specs.Holding.{Holding, Holds}
use Rattle.rept_found.proofs.InferredLemmas.Writers.{writer_true}
use Rattle.rept_found.specs.Inferred.Added.{value_by}
use Rattle.rept_found.specs.Inferred.Narrowed.{Beyond, TellsAll, joined, narrowed, note_by, range_by, shown_beyond}

-- a set that is told has a value
abbrev HasIn : Option Both → ℕ → Type 0
HasIn o x = (w : Both) → o ≡ Some w → both_has w x ≡ true

value_true : (known : Option ℕ) (o : Option Both) (x v : ℕ) → (known ≡ Some v → x ≡ v) → HasIn o x → value_by known o ≡ Some v → x ≡ v
value_true (Some u) o x v by_known in_set e = by_known e
value_true None None x v by_known in_set e = by_known e
value_true None (Some w) x v by_known in_set e = both_lawful.as_exact w v x e (in_set w refl)

in_range : (a : Range) (x : ℕ) → a.lo ≤ x → x ≤ a.hi → range_has a x ≡ true
in_range a x l h = grind (arith, l, h)

range_true : (a : Range) (o : Option Both) (x : ℕ) → (a.lo ≤ x) × (x ≤ a.hi) → HasIn o x → ((range_by a o).lo ≤ x) × (x ≤ (range_by a o).hi)
range_true a None x inside in_set = inside
range_true a (Some w) x inside in_set = by (range_meet a w.range) refl
  where
    by : (o : Option Range) → range_meet a w.range ≡ o → ((unwrap_or o a).lo ≤ x) × (x ≤ (unwrap_or o a).hi)
    by None e = inside
    by (Some c) e = range_lawful.bounds c x (range_lawful.meet_some a w.range c x e (in_range a x inside.0 inside.1) ((both_parts w x (in_set w refl)).0))

-- the bits of two masks
and_or : (x m k : ℕ) → bit_and x (bit_or m k) ≡ bit_or (bit_and x m) (bit_and x k)
and_or x m k = same_from_bits (bit_and x (bit_or m k)) (bit_or (bit_and x m) (bit_and x k)) (λ i.
    let a = bit_at_and x (bit_or m k) i in
    let b = bit_at_or m k i in
    let c = bit_at_or (bit_and x m) (bit_and x k) i in
    let d = bit_at_and x m i in
    let e = bit_at_and x k i in
    omega (arith, a, b, c, d, e))

and_self : (m : ℕ) → bit_and m m ≡ m
and_self m = same_from_bits (bit_and m m) m (λ i. let a = bit_at_and m m i in omega (arith, a))

and_more : (m k : ℕ) → bit_and m (bit_or m k) ≡ m
and_more m k = same_from_bits (bit_and m (bit_or m k)) m (λ i.
    let a = bit_at_and m (bit_or m k) i in
    let b = bit_at_or m k i in
    omega (arith, a, b))

joined_true : (x : ℕ) (n : ℕ × ℕ) (o : Option (ℕ × ℕ)) → bit_and x n.0 ≡ n.1 → ((k : ℕ × ℕ) → o ≡ Some k → bit_and x k.0 ≡ k.1) → bit_and x (joined n o).0 ≡ (joined n o).1
joined_true x n None a b = a
joined_true x n (Some k) a b = and_or x n.0 k.0 ∙ ap (λ y. bit_or y (bit_and x k.0)) a ∙ ap (λ y. bit_or n.1 y) (b k refl)

same_note : {m n : ℕ × ℕ} → Some m ≡ Some n → m ≡ n
same_note e = cc

note_true : (note : Option (ℕ × ℕ)) (o : Option Both) (x : ℕ) (n : ℕ × ℕ) → ((m : ℕ × ℕ) → note ≡ Some m → bit_and x m.0 ≡ m.1) → HasIn o x → note_by note o ≡ Some n → bit_and x n.0 ≡ n.1
note_true None None x n a in_set e = a n e
note_true (Some m) None x n a in_set e = a n e
note_true None (Some w) x n a in_set e = both_covers.noted w n e x (in_set w refl)
note_true (Some m) (Some w) x n a in_set e =
    subst (λ (k : ℕ × ℕ). bit_and x k.0 ≡ k.1) (same_note e)
    (joined_true x m (both_moves.note w) (a m refl) (λ k is. both_covers.noted w k is x (in_set w refl)))

byte_true : (known : Option ℕ) (b : Bool) (o : Option ℕ) (x v : ℕ) → (known ≡ Some v → x ≡ v) → (b ≡ true → o ≡ Some v → x ≡ v) → option_or known (if b then o else None) ≡ Some v → x ≡ v
byte_true (Some u) b o x v by_known by_held e = by_known e
byte_true None true o x v by_known by_held e = by_held refl e
byte_true None false o x v by_known by_held e = by_known e

-- Where all that is shown of a path is true of an execution, and the holding holds in it, all that
-- is shown narrowed is true of it.
pub narrowed_true : {W : Type 0} (P : ThreadPath W) (s : Shown) (story : Story) (b : Beyond) (run : ℕ → State) → story.rows ≡ P.given.rows → s.moments ≡ length P.given.rows + 1 → s.rows 0 ≡ P.given.rows → ((p a : ℕ) → p ≤ length P.given.rows → s.writer p a ≢ writer.Several) → IsTrueOf P s run → Holds story b.told run → IsTrueOf P (narrowed b s) run
narrowed_true P s story b run same ends rows single t holds = record {
  registers = λ p r v early e. value_true (s.register p r) (b.told.set p r) ((run p).register r) v (t.registers p r v early) (in_set p r early) e;
  ranges = λ p r early. range_true (s.range p r) (b.told.set p r) ((run p).register r) (t.ranges p r early) (in_set p r early);
  notes = λ p r n early e. note_true (s.note p r) (b.told.set p r) ((run p).register r) n (λ m is. t.notes p r m early is) (in_set p r early) e;
  bytes = λ p a v e. byte_true (s.byte p a) (nat_lt p s.moments) (b.told.byte p a) ((run p).memory a) v (t.bytes p a v) (λ before is. holds.bytes p a v (within p before) is) e;
  writers = λ p a early small. writer_true P s story b.told run same rows t holds a (λ q le. single q a le) small p early;
}
  where
    size : length story.rows ≡ length P.given.rows
    size = ap length same

    in_set : (p r : ℕ) → p ≤ length P.given.rows → HasIn (b.told.set p r) ((run p).register r)
    in_set p r early w is = holds.sets p r w (omega (arith, size, early)) is

    within : (p : ℕ) → nat_lt p s.moments ≡ true → p ≤ length story.rows
    within p before = let low : p < s.moments = ltb-true p s.moments before in omega (arith, size, ends, low)

tighter : (a : Range) (o : Option Both) → (a.lo ≤ (range_by a o).lo) × ((range_by a o).hi ≤ a.hi)
tighter a None = (omega arith, omega arith)
tighter a (Some w) = by (range_meet a w.range) refl
  where
    by : (o : Option Range) → range_meet a w.range ≡ o → (a.lo ≤ (unwrap_or o a).lo) × ((unwrap_or o a).hi ≤ a.hi)
    by None e = (omega arith, omega arith)
    by (Some c) e = range_lawful.bounds_within c a (λ v has. (range_lawful.meet_within a w.range c v e has).0)

joins : (n : ℕ × ℕ) (o : Option (ℕ × ℕ)) → bit_and n.0 (joined n o).0 ≡ n.0
joins n None = and_self n.0
joins n (Some k) = and_more n.0 k.0

note_kept : (n : ℕ × ℕ) (o : Option Both) → (m : ℕ × ℕ) × (note_by (Some n) o ≡ Some m) × (bit_and n.0 m.0 ≡ n.0)
note_kept n None = (n, refl, and_self n.0)
note_kept n (Some w) = (joined n (both_moves.note w), refl, joins n (both_moves.note w))

-- all that was known still is
pub knows_all : (b : Beyond) (s : Shown) → TellsAll s (narrowed b s)
knows_all b s = let h : Holding = b.told in record {
  registers = λ p r v e. ap (λ o. value_by o (h.set p r)) e;
  ranges = λ p r. tighter (s.range p r) (h.set p r);
  notes = λ p r n e. subst (λ (o : Option (ℕ × ℕ)). (m : ℕ × ℕ) × (note_by o (h.set p r) ≡ Some m) × (bit_and n.0 m.0 ≡ n.0)) (sym e) (note_kept n (h.set p r));
  bytes = λ m a v e. ap (λ o. option_or o (if nat_lt m s.moments then h.byte m a else None)) e;
}

knows_same : (s : Shown) → TellsAll s s
knows_same s = record {
  registers = λ p r v e. e;
  ranges = λ p r. (omega arith, omega arith);
  notes = λ p r n e. (n, e, and_self n.0);
  bytes = λ m a v e. e;
}

pub knows_beyond : (o : Option Beyond) (s : Shown) → TellsAll s (shown_beyond o s)
knows_beyond None s = knows_same s
knows_beyond (Some b) s = knows_all b s

-- a register or byte has values at as many points or moments
pub places_kept : (b : Beyond) (s : Shown) (c : Cell) → places_of (narrowed b s) c ≡ places_of s c
places_kept b s (Register r) = refl
places_kept b s (Byte a) = refl

reported_value : (known : Option ℕ) (i : Bool) → (if is_some known then i else true) ≡ false → (is_some known ≡ true) × (i ≡ false)
reported_value None i e = let bad : ⊥ = cc in absurd bad
reported_value (Some v) i e = (refl, e)

value_kept : (known : Option ℕ) (o : Option Both) → is_some known ≡ true → value_by known o ≡ known
value_kept None o e = let bad : ⊥ = cc in absurd bad
value_kept (Some v) o e = refl

byte_kept : (known o : Option ℕ) → is_some known ≡ true → option_or known o ≡ known
byte_kept None o e = let bad : ⊥ = cc in absurd bad
byte_kept (Some v) o e = refl

-- what isn't inferred is of the findings
pub reported : (b : Beyond) (s : Shown) (p : ℕ) (c : Cell) → (narrowed b s).is_inferred p c ≡ false → (known_value (narrowed b s) p c ≡ known_value s p c) × (s.is_inferred p c ≡ false)
reported b s p (Register r) e = let k = reported_value (s.register p r) (s.is_inferred p (Register r)) e in (value_kept (s.register p r) (b.told.set p r) k.0, k.1)
reported b s p (Byte a) e = let k = reported_value (s.byte p a) (s.is_inferred p (Byte a)) e in (byte_kept (s.byte p a) (if nat_lt p s.moments then b.told.byte p a else None) k.0, k.1)
