-- What a row lets follow.
use Rattle.std.proofs.Common.{◌≡◌, ◌≢◌, ℕ, ◌+◌, ◌<◌, ◌≤◌, ◌^◌, eqb, ltb, false, min, List, length, Option, Some, None, true, is_some, inl, inr, refl, sym, ap, subst, ◌∙◌, arith, Contains, slice_get, get_or}
use Rattle.std.specs.Option.{IsSome}
use Rattle.std.proofs.lemmas.Option.{slice_get-get_or, same_Some}
use Rattle.std.proofs.lemmas.Bool.{cases_Bool, cond-true, cond-false, ne_eqb, cases_lt, cases_order, lt-ltb, le-ltb, false≢true}
use mathlib.Core.Path.{fun_ext}
use Rattle.rept_isa.specs.Numbers.{plus, beside}
use Rattle.rept_isa.specs.declared.row.StepRow.{StepRow}
use Rattle.rept_isa.specs.Operands.{written_by, first_read}
use Rattle.rept_alias.specs.declared.addresses.CallAccess.{CallAccess}
use Rattle.rept_alias.specs.Accesses.{call_hits}
use Rattle.rept_partial.specs.declared.flat.Flat.{Flat}
use Rattle.rept_partial.specs.declared.flat.Flat.TheVariants.{Known}
use Rattle.rept_partial.specs.declared.range.Range.{Range}
use Rattle.rept_reason.specs.declared.fact.Fact.{Fact}
use Rattle.rept_reason.specs.declared.fact.Cell.{Cell}
use Rattle.rept_reason.specs.declared.fact.Cell.TheVariants.{Register, Byte}
use Rattle.rept_reason.specs.Facts.{Knowledge, told, flat, register_known}
use Rattle.rept_span.specs.Ranges.{Legs, range}
use Rattle.rept_span.specs.Filled.{entry_at}
use Rattle.rept_span.proofs.RangeLaws.{HasIn}
use Rattle.rept_reason.specs.declared.view.inferred.When.{When}
use Rattle.rept_reason.specs.declared.view.inferred.When.TheVariants.{Before, After}
use Rattle.rept_reason.specs.declared.view.inferred.Conclusion.{Conclusion}
use Rattle.rept_reason.specs.View.Seen.{Seen, KnowsMore, seen_cell}
use Rattle.rept_reason.specs.View.Rules.{offset_of, IsRowByte, IsRowCell, Rules}
use Rattle.rept_log.specs.Around.{around, around_lawful}
use Rattle.rept_report.specs.Setting.{HasLaws, IsLast, IsInstant, way_of}
use Rattle.rept_report.specs.Timeline.{IsLastFrom}
use Rattle.rept_report.specs.Moments.{Moments}
use Rattle.rept_report.specs.Views.{point_of, instant_of, all_words, bounds, register_range, known_or, seen_at, registers_at, may_write}
use Rattle.rept_report.specs.Conclusions.{IsWordOf, HasWords, Concludes}
use Rattle.rept_report.specs.Conclusions.IsCarried.{last_byte}
use Rattle.rept_report.specs.Conclusions.Follows.{last_value, kept_onward, kept_back, carried, inferred, only_value}
use Rattle.rept_report.specs.Conflicts.{IsQuiet}
use Rattle.rept_report.specs.Log.{oldest, OnceEach}
use Rattle.rept_report.proofs.Told.{same_some, none_some}
use Rattle.rept_report.proofs.Places.{oldest_less}
use Rattle.rept_report.proofs.OnlyValue.{known_only}
use Rattle.rept_report.specs.Laws.SeenLaws.{known_fact, known_word, seen_at_lawful, registers_at_lawful}
use Rattle.rept_report.proofs.ViewLaws.{LiesIn, known_more, seen_more, ranges_lie}
use Rattle.rept_report.proofs.Monotony.{quiet_less, single_value_more, Concludes_more}
use Rattle.rept_facts.specs.Cells.{bytes_from, bytes_known, base_known}
use Rattle.rept_log.specs.Compared.{IsSameAfter, IsNextDiffering}
use Rattle.rept_log.specs.Known.{Known as LogKnown}
use Rattle.rept_facts.specs.State.{AnalysisState, all_known, Subject, along}
use Rattle.rept_facts.specs.Moments.{filled_range, moment, moment_lawful}
use Rattle.rept_facts.specs.Room.{IsInferable, own_at, IsOwnByte}
use Rattle.rept_facts.proofs.Reserve.{inferable_more, own_byte_more}
use Rattle.rept_report.specs.Why.{fact_of}
use Rattle.rept_facts.specs.Inferring.{Knows, IsTracked, Grows, IsFollowing, IsBrought, IsLearntAt, IsKeptAt, LastPointKnown, LastKnownBelow, IsFitted, IsAccess, AreTrackedFrom, IsRowTracked, IsConclusion, KeptBelow, InferredKnown, IsRowInferred, IsRowClosed, LastByteKnown, SingleKnown, AreRowAddresses}

pub flat_known : (x : Option ℕ) (v : ℕ) → flat x ≡ Known v → x ≡ Some v
flat_known None v e = cc
flat_known (Some w) v e = cc

-- what is known of a register other than x0 is told
pub known_told : {W : Type 0} (s : AnalysisState W) (p r v : ℕ) (x : Flat) → x ≡ flat (register_known (told s.known.log) p r) → x ≡ Known v → 0 < r → Knows p (Register r) v s
known_told s p r v x read is named =
    elim (known_fact (told s.known.log) p r v (flat_known (register_known (told s.known.log) p r) v (sym read ∙ is))) [
      | inl z ↦ let zero_is = z.0 in absurd (omega (arith, named, zero_is))
      | inr h ↦ h.1
    ]

-- and the other way
pub told_known : {W : Type 0} (s : AnalysisState W) (p r v : ℕ) (x : Flat) → x ≡ flat (register_known (told s.known.log) p r) → Knows p (Register r) v s → 0 < r → x ≡ Known v
told_known s p r v x read h named = read ∙ ap flat (other ∙ h)
  where
    other : register_known (told s.known.log) p r ≡ told s.known.log p (Register r)
    other = cond-false (eqb r 0) (Some 0) (told s.known.log p (Register r)) (ne_eqb r 0 (λ e. omega (arith, named, e)))

module _ {W : Type 0} (s : AnalysisState W) (i : ℕ) (row : StepRow) (found : s.path.given.legs.row i ≡ Some row) (inside : i < s.path.given.legs.count) (r v : ℕ) (named : 0 < r) (in_file : r < 32) (small : v < 2 ^ 32) (kept : written_by row.instr ≢ Some r) (x : Flat) where
  pub onward_follows : x ≡ flat (register_known (told s.known.log) i r) → x ≡ Known v → IsFollowing s (fact_of (i + 1) (Register r) v)
  onward_follows read is quiet = record { early = omega (arith, inside); cell = (named, in_file); word = small; by = kept_onward i r row found refl refl kept (known_told s i r v x read is named) }

  pub back_follows : x ≡ flat (register_known (told s.known.log) (i + 1) r) → x ≡ Known v → IsFollowing s (fact_of i (Register r) v)
  back_follows read is quiet = record { early = omega (arith, inside); cell = (named, in_file); word = small; by = kept_back i r row found refl refl kept (known_told s (i + 1) r v x read is named) }

pub kept_at : {W : Type 0} (s : AnalysisState W) (i r : ℕ) (x : Flat) → x ≡ flat (register_known (told s.known.log) i r) → 0 < r → IsLearntAt (i + 1) r x s → ((v : ℕ) → 0 < r → Knows (i + 1) (Register r) v s → Knows i (Register r) v s) → IsKeptAt i r s
kept_at s i r x read named on off = record { onward = λ v h. on v (told_known s i r v x read h named) named; back = λ v h. off v named h }

-- so it has where the facts tell the same before and after
pub kept_same : {W : Type 0} (s : AnalysisState W) (i r : ℕ) → IsSameAfter s.known.log i r → IsKeptAt i r s
kept_same s i r same = record { onward = λ v h. sym same ∙ h; back = λ v h. same ∙ h }

-- all have, where there is no next one that differs
pub none_differs : (log : List Fact) (i least : ℕ) (x : Option ℕ) → ((r : ℕ) → x ≡ Some r → ⊥) → IsNextDiffering log i least x → (r : ℕ) → least ≤ r → r < 32 → IsSameAfter log i r
none_differs log i least None none h = h
none_differs log i least (Some r) none h = absurd (none r refl)

-- all registers have up to one, where the facts tell the same of those from another one on
pub kept_to : {W : Type 0} (s : AnalysisState W) (row : StepRow) (i least end : ℕ) → ((r : ℕ) → least ≤ r → r < end → IsSameAfter s.known.log i r) → KeptBelow least row i s → KeptBelow end row i s
kept_to s row i least end same h r named inside kept = elim (cases_lt r least) [
  | inl lt ↦ h r named lt kept
  | inr le ↦ kept_same s i r (same r le inside)
]

pub back_known : {W : Type 0} (s : AnalysisState W) (i r : ℕ) (x : Flat) → x ≡ flat (register_known (told s.known.log) (i + 1) r) → IsLearntAt i r x s → (v : ℕ) → 0 < r → Knows (i + 1) (Register r) v s → Knows i (Register r) v s
back_known s i r x read learnt v named h = learnt v (told_known s (i + 1) r v x read h named) named

pub last_follows : {W : Type 0} (s : AnalysisState W) (p r v w : ℕ) → IsLast (along s.path) p → s.path.given.last p r ≡ Some w → Known w ≡ Known v → 0 < r → r < 32 → v < 2 ^ 32 → IsFollowing s (fact_of p (Register r) v)
last_follows s p r v w at found is named in_file small quiet = record { early = at.0; cell = (named, in_file); word = small; by = last_value r at refl (found ∙ ap Some (same_flat is)) }
  where
    same_flat : {x y : ℕ} → Known x ≡ Known y → x ≡ y
    same_flat e = cc

-- of the last points below one
abbrev pub LastsBelow : {W : Type 0} → ℕ → AnalysisState W → Type 0
LastsBelow n s = (p : ℕ) → p < n → IsLast (along s.path) p → LastPointKnown 32 p s

-- after the last one there is none
pub lasts_all : {W : Type 0} (s : AnalysisState W) (least : ℕ) → IsLastFrom s.path.given.legs least None → LastsBelow least s → LastKnownBelow 32 s
lasts_all s least past below r inside p v last = below p (omega (arith, past, last.0)) last r inside v

-- where none is found there is none
pub last_none : (legs : Legs) (least : ℕ) (o : Option ℕ) → ((p : ℕ) → o ≡ Some p → ⊥) → IsLastFrom legs least o → IsLastFrom legs least None
last_none legs least None never its = its
last_none legs least (Some p) never its = absurd (never p refl)

-- the next one
pub lasts_more : {W : Type 0} (s : AnalysisState W) (least point : ℕ) → IsLastFrom s.path.given.legs least (Some point) → LastsBelow least s → LastPointKnown 32 point s → LastsBelow (point + 1) s
lasts_more s least point next below here p less last =
    elim (cases_order p point) [
      | inl same ↦ subst (λ (q : ℕ). LastPointKnown 32 q s) (sym same) here
      | inr (inl under) ↦ elim (cases_lt p least) [
        | inl early ↦ below p early last
        | inr late ↦ absurd (not_some (s.path.given.legs.row p) last.1 (next.3 p late under))
      ]
      | inr (inr over) ↦ absurd (omega (arith, less, over))
    ]
  where
    not_some : (o : Option StepRow) → o ≡ None → IsSome o → ⊥
    not_some None e some = cc
    not_some (Some x) e some = cc

-- what followed still follows
pub follows_more : {W : Type 0} (s t : AnalysisState W) → HasLaws (along s.path) → Grows s t → HasWords (all_known t) → (f : Fact) → IsFollowing s f → IsFollowing t f
follows_more s t laws g words f follows = subst (λ (P : Subject _). IsQuiet (along P) (all_known t) → Concludes (along P) (all_known t) f) (sym g.path) (λ quiet.
    let before = quiet_less (along s.path) laws (all_known s) (all_known t) (λ p r v e. g.more p (Register r) v e) quiet in
    Concludes_more (along s.path) laws (all_known s) (all_known t) g.more words quiet f (follows before))

pub learnt_at : {W : Type 0} (s : AnalysisState W) (p r w : ℕ) (x : Flat) → x ≡ Known w → Knows p (Register r) w s → IsLearntAt p r x s
learnt_at s p r w x is h v is' named = h ∙ ap Some (same (sym is ∙ is'))
  where
    same : {x y : ℕ} → Known x ≡ Known y → x ≡ y
    same e = cc

-- the bytes of a row are tracked, where those from its address on are
-- the register of a base that is known
pub record BaseRead (row : StepRow) (k : LogKnown) (i base : ℕ) : Type 0 where
  pub register : ℕ
  pub read : first_read row.instr ≡ Some register
  pub known : register_known (told k.log) i register ≡ Some base

pub base_read : (row : StepRow) (moments : Moments) (k : LogKnown) (i base : ℕ) → base_known (first_read row.instr) (around moments k i) ≡ Some base → BaseRead row k i base
base_read row moments k i base is = by_register (first_read row.instr) refl is
  where
    by_register : (x : Option ℕ) → first_read row.instr ≡ x → base_known x (around moments k i) ≡ Some base → BaseRead row k i base
    by_register None e known = absurd (none_some known)
    by_register (Some r) e known = record { register = r; read = e; known = known }

pub base_at : (row : StepRow) (moments : Moments) (k : LogKnown) (i r : ℕ) (x : Flat) (found : Option ℕ) → first_read row.instr ≡ Some r → x ≡ flat (register_known (told k.log) i r) → x ≡ flat found → found ≡ base_known (first_read row.instr) (around moments k i)
base_at row moments k i r x found reads read is = rw reads (flat_same found (register_known (told k.log) i r) (sym is ∙ read))
  where
    flat_same : (a b : Option ℕ) → flat a ≡ flat b → a ≡ b
    flat_same None None e = refl
    flat_same None (Some w) e = cc
    flat_same (Some v) None e = cc
    flat_same (Some v) (Some w) e = cc

pub base_after : {W : Type 0} (s t : AnalysisState W) (row : StepRow) (i base : ℕ) → Grows s t → base_known (first_read row.instr) (around s.path.given.moments s.known i) ≡ Some base → base_known (first_read row.instr) (around t.path.given.moments t.known i) ≡ Some base
base_after s t row i base g at =
    let b = base_read row s.path.given.moments s.known i base at in
    rw b.read (known_more (told s.known.log) (told t.known.log) (λ q k w e. g.more q (Register k) w e) i b.register base b.known)

-- where it isn't known, a row's rules look at no byte
pub none_tracked : {W : Type 0} (s : AnalysisState W) (i : ℕ) (row : StepRow) → base_known (first_read row.instr) (around s.path.given.moments s.known i) ≡ None → IsRowTracked row i s
none_tracked s i row none a h =
    let here : base_known (first_read row.instr) (around s.path.given.moments s.known i) ≡ Some h.base = rw h.read h.base_known in
    absurd (none_some (sym none ∙ here))

pub row_tracked : {W : Type 0} (s : AnalysisState W) (i : ℕ) (row : StepRow) (base start count : ℕ) → base_known (first_read row.instr) (around s.path.given.moments s.known i) ≡ Some base → start ≡ plus base (offset_of row.instr) → count ≡ min (s.path.rules.places row) 4 → AreTrackedFrom start count s → IsRowTracked row i s
row_tracked s i row base start count at from few tracked a h =
    let here : base_known (first_read row.instr) (around s.path.given.moments s.known i) ≡ Some h.base = rw h.read h.base_known in
    let same : base ≡ h.base = same_some (sym at ∙ here) in
    let below : h.k < count = let p = h.below_places in let q = h.below_four in rw few (omega (arith, p, q)) in
    subst (λ (y : ℕ). IsTracked y s) (sym (h.address ∙ ap (λ (b : ℕ). beside (plus b (offset_of row.instr)) h.k) (sym same) ∙ ap (λ (z : ℕ). beside z h.k) (sym from))) (tracked h.k below)

word_fits : (c : Cell) (v : ℕ) → v < 2 ^ 32 → IsWordOf c v
word_fits (Register r) v h = h
word_fits (Byte a) v h = tt

-- what a row lets one infer follows
module _ {W : Type 0} (s : AnalysisState W) (laws : HasLaws (along s.path)) (words : HasWords (all_known s)) (i : ℕ) (row : StepRow) (found : s.path.given.legs.row i ≡ Some row) (inside : i < s.path.given.legs.count) where
  log_words : HasWords (told s.known.log)
  log_words p r v e = words p r v e

  same_cells : (w : When) (c : Cell) → seen_cell (seen_at (along s.path) (all_known s) i) w c ≡ seen_cell (around s.path.given.moments s.known i) w c
  same_cells w (Register r) = refl
  same_cells w (Byte a) = refl

  pub inferred_seen : (d : Conclusion) → Contains (s.path.rules.infer row (around s.path.given.moments s.known i)) d → Contains (s.path.rules.infer row (seen_at (along s.path) (all_known s) i)) d
  inferred_seen d h = laws.rules.needs_enough row (around s.path.given.moments s.known i) (seen_at (along s.path) (all_known s) i) d (around_lawful s.path.given.moments s.known i log_words) (seen_at_lawful (along s.path) (all_known s) words i) h (λ n needed. same_cells n.when n.cell)

  pub seen_inferred : (d : Conclusion) → Contains (s.path.rules.infer row (seen_at (along s.path) (all_known s) i)) d → Contains (s.path.rules.infer row (around s.path.given.moments s.known i)) d
  seen_inferred d h = laws.rules.needs_enough row (seen_at (along s.path) (all_known s) i) (around s.path.given.moments s.known i) d (seen_at_lawful (along s.path) (all_known s) words i) (around_lawful s.path.given.moments s.known i log_words) h (λ n needed. sym (same_cells n.when n.cell))

  -- before and after the row there are places for facts
  instant_early : (w : When) (c : Cell) → IsInstant (along s.path) c (instant_of s.path.given.moments i w c)
  instant_early Before (Register r) = omega (arith, inside)
  instant_early After (Register r) = omega (arith, inside)
  instant_early Before (Byte a) = laws.moments.rows_before i row found
  instant_early After (Byte a) = laws.moments.rows_after i row found

  inferred_here : (d : Conclusion) (a : ℕ) → Contains (s.path.rules.infer row (around s.path.given.moments s.known i)) d → IsRowByte s.path.rules row (around s.path.given.moments s.known i) a → IsInferable s.path s.known.log i d
  inferred_here d a h own = record { row = row; found = found; view = around s.path.given.moments s.known i; lawful = around_lawful s.path.given.moments s.known i log_words; inferred = h; base_register = own.base_register; base = own.base; read = own.read; seen = own.base_known; known = own.base_known }

  pub inferred_conclusion : IsRowTracked row i s → (d : Conclusion) → Contains (s.path.rules.infer row (around s.path.given.moments s.known i)) d → IsConclusion i d s
  inferred_conclusion tracked d h =
      let own = laws.rules.own row (around s.path.given.moments s.known i) d (around_lawful s.path.given.moments s.known i log_words) h in
      record {
        cell = own.1;
        fits = own.2;
        follows = λ small quiet. record { early = instant_early d.when d.cell; cell = own.1; word = word_fits d.cell d.value small; by = inferred i row d found (inferred_seen d h) refl refl refl };
        tracked = λ a is. tracked a (subst (λ (c : Cell). IsRowCell s.path.rules row (around s.path.given.moments s.known i) d.when c) is own.0);
        byte = λ a is. inferred_here d a h (subst (λ (c : Cell). IsRowCell s.path.rules row (around s.path.given.moments s.known i) d.when c) is own.0);
      }

pub conclusion_more : {W : Type 0} (s t : AnalysisState W) → HasLaws (along s.path) → Grows s t → HasWords (all_known t) → (i : ℕ) (d : Conclusion) → IsConclusion i d s → IsConclusion i d t
conclusion_more s t laws g words i d h = record { cell = h.cell; fits = h.fits; follows = λ small. subst (λ (P : Subject _). IsFollowing t (fact_of (instant_of P.given.moments i d.when d.cell) d.cell d.value)) (sym g.path) (follows_more s t laws g words (fact_of (instant_of s.path.given.moments i d.when d.cell) d.cell d.value) (h.follows small)); tracked = λ a is. g.tracked a (h.tracked a is); byte = λ a is. subst (λ (P : Subject _). IsInferable P t.known.log i d) (sym g.path) (inferable_more s.path s.known.log t.known.log (λ p r v e. g.more p (Register r) v e) i d (h.byte a is)) }

-- the sets of a moment are the ranges
module _ {W : Type 0} (s : AnalysisState W) (i : ℕ) (inside : i < s.path.given.legs.count) (fitted : IsFitted s) where
  abbrev older : List Fact
  older = oldest s.filled s.known.log

  early : (w : When) → point_of i w ≤ s.path.given.legs.count
  early Before = omega (arith, inside)
  early After = omega (arith, inside)

  same_range : (p r : ℕ) → p ≤ s.path.given.legs.count → filled_range s.path.sets s.spans p r ≡ register_range (along s.path) (told older) p r
  same_range p r h =
      elim (cases_lt r 32) [
        | inl lt ↦ rw (cond-true (ltb r 32) (bounds s.path.sets (entry_at s.spans p r)) all_words (lt-ltb r 32 lt), cond-true (ltb r 32) (bounds s.path.sets (range (way_of (along s.path)) (told older) p r)) all_words (lt-ltb r 32 lt)) (ap (λ (x : Option W). bounds s.path.sets x) (fitted p h r lt))
        | inr le ↦ rw (cond-false (ltb r 32) (bounds s.path.sets (entry_at s.spans p r)) all_words (le-ltb r 32 le), cond-false (ltb r 32) (bounds s.path.sets (range (way_of (along s.path)) (told older) p r)) all_words (le-ltb r 32 le)) refl
      ]

  abbrev seen_with : (When → ℕ → Range) → Seen
  seen_with ranges = record { register = λ w r. register_known (told older) (point_of i w) r; byte = λ w a. None; range = λ w r. known_or (register_known (told older) (point_of i w) r) (ranges w r) }

  pub moment_is : moment s.path.sets older s.spans i ≡ registers_at (along s.path) (told older) i
  moment_is = ap seen_with (fun_ext (λ (w : When). fun_ext (λ (r : ℕ). same_range (point_of i w) r (early w))))

  pub access_is : (row : StepRow) (access : CallAccess) → s.path.given.legs.row i ≡ Some row → ((a : ℕ) → a < 2 ^ 32 → call_hits access a ≡ s.path.rules.touched row (moment s.path.sets older s.spans i) s.path.given.image_end a) → IsAccess i access s
  access_is row access found hits a small = hits a small ∙ rw found (ap (λ (v : Seen). s.path.rules.touched row v s.path.given.image_end a) moment_is)

-- what a row may not write by all facts and the sets of older ones, it may not write by what is
-- known
module _ {W : Type 0} (s : AnalysisState W) (i : ℕ) (inside : i < s.path.given.legs.count) (fitted : IsFitted s) (laws : HasLaws (along s.path)) (words : HasWords (all_known s)) (once : OnceEach s.known.log) (quiet : IsQuiet (along s.path) (all_known s)) where
  now_seen : KnowsMore (moment s.path.sets s.known.log s.spans i) (registers_at (along s.path) (all_known s) i)
  now_seen = seen_more (along s.path).moments (register_known (told s.known.log)) (λ p a. None) (filled_range s.path.sets s.spans) (register_known (all_known s)) (λ p a. None) (register_range (along s.path) (all_known s)) i (record {
    registers = λ p r v e. e;
    bytes = λ p a v e. e;
    small = known_word (all_known s) words;
    inside = λ w r v unknown known. absurd (none_some (sym unknown ∙ known));
    lies = λ w r. subst (λ (x : Range). LiesIn (register_range (along s.path) (all_known s) (point_of i w) r) x) (sym (same_range s i inside fitted (point_of i w) r (early s i inside fitted w)))
        (ranges_lie (along s.path) laws (told (oldest s.filled s.known.log)) (all_known s) (λ p q v e. oldest_less s.filled s.known.log once p (Register q) v e) words quiet (point_of i w) r (early s i inside fitted w));
  })

  pub not_touched : (row : StepRow) (access : CallAccess) (a : ℕ) → a < 2 ^ 32 → s.path.given.legs.row i ≡ Some row → call_hits access a ≡ s.path.rules.touched row (moment s.path.sets s.known.log s.spans i) s.path.given.image_end a → call_hits access a ≡ false → may_write (along s.path) (all_known s) i a ≡ false
  not_touched row access a small found hits miss =
      elim (cases_Bool (s.path.rules.touched row (registers_at (along s.path) (all_known s) i) s.path.given.image_end a)) [
        | inl t ↦ absurd (false≢true (sym miss ∙ hits ∙ laws.rules.touched_less s.path.given.image_end row (moment s.path.sets s.known.log s.spans i) (registers_at (along s.path) (all_known s) i) a (moment_lawful s.path.sets s.known.log s.spans i (λ p r v e. words p r v e)) (registers_at_lawful (along s.path) (all_known s) words i) now_seen small t))
        | inr t ↦ rw found t
      ]

pub brought_follows : {W : Type 0} (s : AnalysisState W) (p a v : ℕ) → p ≤ s.path.given.moments.end → a < 2 ^ 32 → IsBrought s (fact_of p (Byte a) v) → IsFollowing s (fact_of p (Byte a) v)
brought_follows s p a v h small brought quiet = record { early = h; cell = small; word = tt; by = carried (brought quiet) }

pub fitted_after : {W : Type 0} (s t : AnalysisState W) → Grows s t → IsFitted s → IsFitted t
fitted_after s t g h = rw (g.path, g.spans, g.older) h

-- an element that was read
pub slice_read : (xs : List Conclusion) (k : ℕ) (d : Conclusion) → k < length xs → d ≡ get_or xs k d → slice_get xs k ≡ Some d
slice_read xs k d lt read = slice_get-get_or xs k d lt ∙ ap Some (sym read)

pub row_closed : {W : Type 0} (s : AnalysisState W) (i : ℕ) (row : StepRow) → s.path.given.legs.row i ≡ Some row → KeptBelow 32 row i s → IsRowTracked row i s → InferredKnown row i s → IsRowClosed i s
row_closed s i row found registers tracked inferred_ row' found' =
    let same : row ≡ row' = same_row (sym found ∙ found') in
    subst (λ (x : StepRow). IsRowInferred x i s) same (record { registers = registers; tracked = tracked; inferred = inferred_ })
  where
    same_row : {x y : StepRow} → Some x ≡ Some y → x ≡ y
    same_row e = cc

-- where no row leads from a point, nothing is to be concluded
pub none_closed : {W : Type 0} (s : AnalysisState W) (i : ℕ) → s.path.given.legs.row i ≡ None → IsRowClosed i s
none_closed s i none row found = absurd (no_row (sym none ∙ found))
  where
    no_row : {x : StepRow} → None ≡ Some x → ⊥
    no_row e = cc

pub last_byte_brought : {W : Type 0} (s : AnalysisState W) (p a v : ℕ) → p ≡ s.path.given.moments.end → s.path.given.dump a ≡ Some v → IsBrought s (fact_of p (Byte a) v)
last_byte_brought s p a v at found quiet = last_byte a at refl found

pub last_byte_known : {W : Type 0} (s : AnalysisState W) (p a w : ℕ) → p ≡ s.path.given.moments.end → s.path.given.dump a ≡ Some w → Knows p (Byte a) w s → LastByteKnown a s
last_byte_known s p a w at found h v is = subst (λ (q : ℕ). Knows q (Byte a) v s) at (h ∙ ap Some (same_some (sym found ∙ is)))

pub no_last_byte : {W : Type 0} (s : AnalysisState W) (a : ℕ) → s.path.given.dump a ≡ None → LastByteKnown a s
no_last_byte s a none v is = absurd (none_some (sym none ∙ is))

-- a set of one value, as the sets were filled
module _ {W : Type 0} (s : AnalysisState W) (laws : HasLaws (along s.path)) (words : HasWords (all_known s)) (once : OnceEach s.known.log) (fitted : IsFitted s) where
  pub single_follows : (p r v : ℕ) (set : W) → p ≤ s.path.given.legs.count → 0 < r → r < 32 → v < 2 ^ 32 → entry_at s.spans p r ≡ Some set → s.path.sets.as_exact set ≡ Some v → IsFollowing s (fact_of p (Register r) v)
  single_follows p r v set early_ named in_file small at only quiet =
      let is : range (way_of (along s.path)) (told (oldest s.filled s.known.log)) p r ≡ Some set = sym (fitted p early_ r in_file) ∙ at in
      let next = single_value_more (along s.path) laws (told (oldest s.filled s.known.log)) (all_known s) (λ q t w e. oldest_less s.filled s.known.log once q (Register t) w e) words quiet p r v set early_ in_file is only in
      record { early = early_; cell = (named, in_file); word = small; by = only_value r next.0 refl next.1 next.2 }

  abbrev filled_by : Knowledge
  filled_by = told (oldest s.filled s.known.log)

  -- where the facts tell the register's value, the set has no other one
  pub told_single : (p r : ℕ) → p ≤ s.path.given.legs.count → r < 32 → true ≡ is_some (register_known (told (oldest s.filled s.known.log)) p r) → SingleKnown p r s
  told_single p r early_ in_file known set v at only named = go (filled_by p (Register r)) refl
    where
      other : eqb r 0 ≡ false
      other = ne_eqb r 0 (λ e. omega (arith, named, e))

      go : (x : Option ℕ) → filled_by p (Register r) ≡ x → Knows p (Register r) v s
      go None e = absurd (false≢true (sym (known ∙ ap (λ (x : Option ℕ). is_some x) (cond-false (eqb r 0) (Some 0) (filled_by p (Register r)) other ∙ e))))
      go (Some u) e =
          let all = oldest_less s.filled s.known.log once p (Register r) u e in
          let one = laws.sets.some set in
          let there = subst (λ (x : Option W). HasIn s.path.sets x one.0) (fitted p early_ r in_file) (subst (λ (x : Option W). HasIn s.path.sets x one.0) (sym at) one.1) in
          let its = known_only (way_of (along s.path)) laws.sets laws.moves filled_by p r u one.0 (words p r u all) (cond-false (eqb r 0) None (filled_by p (Register r)) other ∙ e) there in
          all ∙ ap Some (sym its ∙ laws.sets.as_exact set v one.0 only one.1)

pub single_known : {W : Type 0} (s : AnalysisState W) (p r w : ℕ) (set : W) → entry_at s.spans p r ≡ Some set → s.path.sets.as_exact set ≡ Some w → IsLearntAt p r (Known w) s → SingleKnown p r s
single_known s p r w set at only learnt set' v at' only' named =
    let same : set ≡ set' = same_Some set set' (sym at ∙ at') in
    let value : w ≡ v = same_some (sym only ∙ rw same only') in
    learnt v (ap Known value) named

pub no_single : {W : Type 0} (s : AnalysisState W) (p r : ℕ) (set : W) → entry_at s.spans p r ≡ Some set → s.path.sets.as_exact set ≡ None → SingleKnown p r s
no_single s p r set at none set' v at' only' named =
    let same : set ≡ set' = same_Some set set' (sym at ∙ at') in
    absurd (none_some {x = v} (sym none ∙ rw same only'))

pub same_flat : {x y : ℕ} → Known x ≡ Known y → x ≡ y
same_flat e = cc

pub words_below : {W : Type 0} (s : AnalysisState W) (t : ℕ) → OnceEach s.known.log → HasWords (told s.known.log) → HasWords (told (oldest t s.known.log))
words_below s t once words p r v e = words p r v (oldest_less t s.known.log once p (Register r) v e)

-- the bytes of a row whose base is known
pub row_bytes : (rules : Rules) (row : StepRow) (moments : Moments) (k : LogKnown) (i base start count n : ℕ) → base_known (first_read row.instr) (around moments k i) ≡ Some base → start ≡ plus base (offset_of row.instr) → count ≡ min (rules.places row) 4 → n ≡ bytes_from (around moments k i) start count → n ≡ bytes_known rules row (around moments k i) (base_known (first_read row.instr) (around moments k i))
row_bytes rules row moments k i base start count n there from few counted = rw there (rw (← from, ← few) counted)

-- the bytes that a row's rules look at, from its address on
pub row_addresses : {W : Type 0} (s : AnalysisState W) (i : ℕ) (row : StepRow) (base start count : ℕ) → s.path.given.legs.row i ≡ Some row → base_known (first_read row.instr) (around s.path.given.moments s.known i) ≡ Some base → start ≡ plus base (offset_of row.instr) → count ≡ min (s.path.rules.places row) 4 → AreRowAddresses start count s
row_addresses s i row base start count found at from few k lt =
    let b = base_read row s.path.given.moments s.known i base at in
    (i, k, record { row = row; found = found; base_register = b.register; base = base; read = b.read; known = b.known; below_places = omega (arith, lt, few); below_four = omega (arith, lt, few); address = ap (λ (z : ℕ). beside z k) from })

-- they stay so where no less is known
pub addresses_after : {W : Type 0} (s t : AnalysisState W) (start count : ℕ) → Grows s t → AreRowAddresses start count s → AreRowAddresses start count t
addresses_after s t start count g h k lt =
    let a = h k lt in
    (a.0, a.1, subst (λ (P : Subject _). IsOwnByte P t.known.log (own_at a.0 a.1 (beside start k))) (sym g.path) (own_byte_more s.path s.known.log t.known.log (λ p r v e. g.more p (Register r) v e) (own_at a.0 a.1 (beside start k)) a.2))
