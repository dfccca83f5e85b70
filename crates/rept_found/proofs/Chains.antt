-- No chain of reasons leads back to its own fact. A fact stands in the first t facts of the log, and
-- a byte there by k uses of the rules that carry it. What a fact rests on stands by fewer: of a
-- smaller t, or of the same t and a smaller k.
use Rattle.std.proofs.Common.{◌≡◌, ℕ, zero, suc, ◌+◌, ◌<◌, ◌≤◌, ◌^◌, ◌⊎◌, List, [], ◌∷◌, length, Contains, All, Some, None, inl, inr, refl, sym, ap, subst, ◌∙◌, arith}
use Rattle.std.proofs.lemmas.Bool.{cases_eq, cases_order, cond-true, cond-false, eq-eqb, ne_eqb}
use Rattle.std.proofs.lemmas.List.Elements.{All-contains, All-contains_itself, All-map}
use Rattle.std.proofs.Common.{eqb}
use Rattle.rept_isa.specs.declared.row.StepRow.{StepRow}
use Rattle.rept_reason.specs.declared.fact.Fact.{Fact}
use Rattle.rept_reason.specs.declared.fact.Cell.{Cell}
use Rattle.rept_reason.specs.declared.fact.Cell.TheVariants.{Register, Byte}
use Rattle.rept_reason.specs.Facts.{Knowledge, IsCell, In, told}
use Rattle.rept_reason.specs.declared.view.inferred.When.{When}
use Rattle.rept_reason.specs.declared.view.inferred.When.TheVariants.{Before, After}
use Rattle.rept_reason.specs.declared.view.inferred.Premise.{Premise}
use Rattle.rept_reason.specs.View.Seen.{seen_cell}
use Rattle.rept_reason.specs.View.Rules.{IsRowByte, IsRowCell}
use Rattle.rept_report.specs.Setting.{Setting, HasLaws}
use Rattle.rept_report.specs.Spots.{passage}
use Rattle.rept_report.specs.Views.{point_of, moment_of, instant_of, seen_at, Carries}
use Rattle.rept_report.specs.Conclusions.{HasWords}
use Rattle.rept_report.specs.Conflicts.{IsQuiet}
use Rattle.rept_report.specs.Log.{oldest, entry, Entry, OnceEach, facts_of, logged_of, IsTrace}
use Rattle.rept_report.specs.Reasons.{StandsIn, IsStanding, IsReached}
use Rattle.rept_report.specs.Reasons.StandsIn.{listed, last_byte, onward, back}
use Rattle.rept_report.specs.Reasons.IsReached.{here as reached_here, onward as reached_onward, back as reached_back}
use Rattle.rept_report.specs.Why.{Because, fact_of, premise_of, IsInferredBecause, IsKnownBecause, IsCarriedBecause, IsNearer, IsReason}
use Rattle.rept_report.specs.Why.IsKnownBecause.{last_value, kept_onward, kept_back, inferred, only_value}
use Rattle.rept_report.specs.Why.IsCarriedBecause.{last_byte as by_last, onward as by_onward, back as by_back}
use Rattle.rept_report.specs.Why.IsReason.{of_register, of_inferred_byte, of_carried_byte}
use Rattle.rept_report.proofs.Told.{in_told, told_in}
use Rattle.rept_report.proofs.Places.{oldest_new}
use Rattle.rept_report.proofs.Reasons.{entry_within, stands_cell}
use Rattle.rept_report.proofs.Explained.{entry_in}
use Rattle.rept_report.proofs.Standing.{front_cells, front_words, logged_once, oldest_in}
use Rattle.rept_report.proofs.Traces.{trace_once}
use Rattle.rept_report.specs.Laws.SeenLaws.{known_fact, seen_at_lawful}
use Rattle.rept_report.proofs.Why.{in_some}
use Rattle.rept_found.specs.Chains.{RestsOn}
use Rattle.rept_found.specs.Chains.RestsOn.{at_once, in_turn}

byte_register : {a r : ℕ} → Byte a ≡ Register r → ⊥
byte_register e = cc

same_byte : {a b : ℕ} → Byte a ≡ Byte b → a ≡ b
same_byte e = cc

same_register : {a b : ℕ} → Register a ≡ Register b → a ≡ b
same_register e = cc

no_value : {v : ℕ} → None ≡ Some v → ⊥
no_value e = cc

no_entry : {f : Fact} → None ≡ Some f → ⊥
no_entry e = cc

some_fact : {x y : Fact} → Some x ≡ Some y → x ≡ y
some_fact e = cc

all_none : {X : Type 0} (P : X → Type 0) → All P []
all_none P k d below = absurd (omega arith)

all_one : {X : Type 0} (P : X → Type 0) (x : X) → P x → All P (x ∷ [])
all_one P x h zero d below = h
all_one P x h (suc k) d below = absurd (omega arith)

all_contained : {X : Type 0} (P : X → Type 0) (xs : List X) → ((x : X) → Contains xs x → P x) → All P xs
all_contained P xs h k d below = h _ (All-contains_itself xs k d below)

-- a fact at a place isn't among those before it
entry_low : (fs : List Fact) → OnceEach fs → (s t : ℕ) (f : Fact) → entry fs s ≡ Some f → In (oldest t fs) f → s < t
entry_low [] once s t f e h = absurd h
entry_low (g ∷ gs) once s t f e h =
    elim (cases_eq s (length gs)) [
      | inl same ↦
          let is : g ≡ f = some_fact (sym (cond-true (eqb s (length gs)) (Some g) (entry gs s) (eq-eqb s (length gs) same)) ∙ e) in
          elim (cases_order t (length gs)) [
            | inl eq ↦ absurd (never is (rw (oldest_new t g gs (omega (arith, eq))) at h))
            | inr (inl lt) ↦ absurd (never is (rw (oldest_new t g gs (omega (arith, lt))) at h))
            | inr (inr gt) ↦ omega (arith, same, gt)
          ]
      | inr other ↦
          let older : entry gs s ≡ Some f = sym (cond-false (eqb s (length gs)) (Some g) (entry gs s) (ne_eqb s (length gs) other)) ∙ e in
          let below = entry_within gs s f older in
          elim (cases_order t (length gs)) [
            | inl eq ↦ entry_low gs once.0 s t f older (rw (oldest_new t g gs (omega (arith, eq))) at h)
            | inr (inl lt) ↦ entry_low gs once.0 s t f older (rw (oldest_new t g gs (omega (arith, lt))) at h)
            | inr (inr gt) ↦ omega (arith, below, gt)
          ]
    ]
  where
    never : g ≡ f → In (oldest t gs) f → ⊥
    never is k = no_value (sym (subst (λ (x : Fact). told gs x.point x.cell ≡ None) is once.1) ∙ in_told gs once.0 f (oldest_in t gs f k))

-- the one pair is less than the other
abbrev IsLess : ℕ → ℕ → ℕ → ℕ → Type 0
IsLess t k u l = (t < u) ⊎ ((t ≡ u) × (k < l))

less_less : (t k u l v m : ℕ) → IsLess t k u l → IsLess u l v m → IsLess t k v m
less_less t k u l v m (inl a) (inl b) = inl (omega (arith, a, b))
less_less t k u l v m (inl a) (inr b) = let e = b.0 in inl (omega (arith, a, e))
less_less t k u l v m (inr a) (inl b) = let e = a.0 in inl (omega (arith, e, b))
less_less t k u l v m (inr a) (inr b) = let x = a.0 in let y = b.0 in let p = a.1 in let q = b.1 in inr (omega (arith, x, y), omega (arith, p, q))

module _ {W : Type 0} (S : Setting W) (laws : HasLaws S) (es : List Entry) (trace : IsTrace S es) (quiet : IsQuiet S (told (facts_of es))) where
  abbrev Log : List Fact
  Log = logged_of es

  log_once : OnceEach Log
  log_once = logged_once es (trace_once S es trace)

  -- it is x0's, or stands in the first t facts
  abbrev Stands : ℕ → Fact → Type 0
  Stands t g = (g.cell ≡ Register 0) ⊎ StandsIn S (oldest t Log) g

  told_stands : (t p : ℕ) (c : Cell) (v : ℕ) → told (oldest t Log) p c ≡ Some v → Stands t (fact_of p c v)
  told_stands t p c v e = inr (listed (fact_of p c v) (told_in (oldest t Log) p c v e))

  need_stands : (t i : ℕ) (L : Knowledge) → IsStanding S (oldest t Log) L → (row : StepRow) → S.legs.row i ≡ Some row → (w : When) (c : Cell) (v : ℕ) → IsRowCell S.rules row (seen_at S L i) w c → seen_cell (seen_at S L i) w c ≡ Some v → Stands t (fact_of (instant_of S.moments i w c) c v)
  need_stands t i L there row is w (Register r) v own e =
      elim (known_fact L (point_of i w) r v e) [
        | inl (z, at) ↦ inl (ap (λ (n : ℕ). Register n) z)
        | inr (fact, at) ↦ told_stands t (point_of i w) (Register r) v (sym (there.registers (point_of i w) r) ∙ at)
      ]
  need_stands t i L there row is w (Byte a) v own e =
      let small : a < 2 ^ 32 = address w own in
      inr (there.sound (moment_of S.moments i w) a v (early w) small e)
    where
      of_row : IsRowByte S.rules row (seen_at S L i) a → a < 2 ^ 32
      of_row h = let is = h.address in omega arith

      early : (w : When) → moment_of S.moments i w ≤ S.moments.end
      early Before = laws.moments.rows_before i row is
      early After = laws.moments.rows_after i row is

      address : (w : When) → IsRowCell S.rules row (seen_at S L i) w (Byte a) → a < 2 ^ 32
      address Before h = of_row h
      address After h = of_row h

  look_words : (t : ℕ) (L : Knowledge) → IsStanding S (oldest t Log) L → HasWords L
  look_words t L there p r v e = front_words S laws es trace quiet t p r v (sym (there.registers p r) ∙ e)

  inferred_stands : (t : ℕ) (L : Knowledge) → IsStanding S (oldest t Log) L → (f : Fact) (why : Because) → IsInferredBecause S L f why → All (Stands t) why.premises
  inferred_stands t L there f why h =
      let view = seen_at S L h.step in
      rw h.is
      (All-map (Stands t) (premise_of S.moments view h.step) (S.rules.needs h.row view h.conclusion)
      (all_contained (λ (n : Premise). Stands t (premise_of S.moments view h.step n)) (S.rules.needs h.row view h.conclusion) (λ n needed.
      let own = laws.rules.needs_own h.row view h.conclusion n (seen_at_lawful S L (look_words t L there) h.step) h.inferred needed in
      let known : seen_cell view n.when n.cell ≡ Some own.1.0 = own.1.1 in
      rw known (need_stands t h.step L there h.row h.is_row n.when n.cell own.1.0 own.0 known))))

  register_stands : (t : ℕ) (L : Knowledge) → IsStanding S (oldest t Log) L → (p r v : ℕ) → L p (Register r) ≡ Some v → Stands t (fact_of p (Register r) v)
  register_stands t L there p r v e = told_stands t p (Register r) v (sym (there.registers p r) ∙ e)

  known_stands : (t : ℕ) (L : Knowledge) → IsStanding S (oldest t Log) L → (f : Fact) (why : Because) → IsKnownBecause S L f why → All (Stands t) why.premises
  known_stands t L there f why (last_value r p c e is) = rw is (all_none (Stands t))
  known_stands t L there f why (kept_onward i r row at p c kept e is) = rw is (all_one (Stands t) (fact_of i (Register r) f.value) (register_stands t L there i r f.value e))
  known_stands t L there f why (kept_back i r row at p c kept e is) = rw is (all_one (Stands t) (fact_of (i + 1) (Register r) f.value) (register_stands t L there (i + 1) r f.value e))
  known_stands t L there f why (inferred h) = inferred_stands t L there f why h
  known_stands t L there f why (only_value r set c at only is) = rw is (all_none (Stands t))

  -- a byte that stands is brought to its moment
  reached : (fs : List Fact) (f : Fact) (a : ℕ) → f.cell ≡ Byte a → StandsIn S fs f → (k : ℕ) × IsReached S fs a k f.point
  reached fs _ a is (listed f h) =
      let its = in_some fs f h in
      (0, reached_here f.point (inl (its.0, subst (λ (c : Cell). told fs f.point c ≡ Some its.0) is its.1)))
  reached fs _ a is (last_byte f b p c small e) =
      let same : b ≡ a = same_byte (sym c ∙ is) in
      (0, reached_here f.point (inr (p, (f.value, subst (λ (x : ℕ). S.dump x ≡ Some f.value) same e))))
  reached fs _ a is (onward f g b p q at c carries gp gc gv s) =
      let same : b ≡ a = same_byte (sym c ∙ is) in
      let from = reached fs g a (gc ∙ is) s in
      let link = subst (λ (x : ℕ). Carries S (told fs) (passage x p q)) same carries in
      (suc from.0, subst (λ (x : ℕ). IsReached S fs a (suc from.0) x) (sym at) (reached_onward from.0 p q link (subst (λ (x : ℕ). IsReached S fs a from.0 x) gp from.1)))
  reached fs _ a is (back f g b p q at c carries gp gc gv s) =
      let same : b ≡ a = same_byte (sym c ∙ is) in
      let from = reached fs g a (gc ∙ is) s in
      let link = subst (λ (x : ℕ). Carries S (told fs) (passage x p q)) same carries in
      (suc from.0, subst (λ (x : ℕ). IsReached S fs a (suc from.0) x) (sym at) (reached_back from.0 p q link (subst (λ (x : ℕ). IsReached S fs a from.0 x) gp from.1)))

  -- it stands in the first t facts, and a byte by at most k uses of the rules that carry it
  record StandsBy (t k : ℕ) (f : Fact) : Type 0 where
    stands : StandsIn S (oldest t Log) f
    uses : (a : ℕ) → f.cell ≡ Byte a → (j : ℕ) × (j ≤ k) × IsReached S (oldest t Log) a j f.point

  stands_by : (t : ℕ) (f : Fact) → StandsIn S (oldest t Log) f → (k : ℕ) × StandsBy t k f
  stands_by t f h = by f.cell refl where
    by : (c : Cell) → f.cell ≡ c → (k : ℕ) × StandsBy t k f
    by (Register r) e = (0, record { stands = h; uses = λ a is. absurd (byte_register (sym is ∙ e)) })
    by (Byte b) e =
        let its = reached (oldest t Log) f b e h in
        (its.0, record { stands = h; uses = λ a is. (its.0, omega arith, subst (λ (x : ℕ). IsReached S (oldest t Log) x its.0 f.point) (same_byte (sym e ∙ is)) its.1) })

  -- x0 has no fact that stands
  not_zero : (t : ℕ) (f : Fact) → StandsIn S (oldest t Log) f → f.cell ≡ Register 0 → ⊥
  not_zero t f h e =
      let its : IsCell f.cell = stands_cell S (oldest t Log) (front_cells S laws es trace quiet t) f h in
      let cell : IsCell (Register 0) = subst IsCell e its in
      let some = cell.0 in
      omega (arith, some)

  -- in whichever way the one fact stands, the other one is x0's or stands by less
  abbrev IsBelow : Fact → Fact → Type 0
  IsBelow f g = (t k : ℕ) → StandsBy t k f → (g.cell ≡ Register 0) ⊎ ((u : ℕ) × (l : ℕ) × IsLess u l t k × StandsBy u l g)

  -- what stands in fewer facts is below
  fewer : (s : ℕ) (f g : Fact) → ((t : ℕ) → StandsIn S (oldest t Log) f → s < t) → Stands s g → IsBelow f g
  fewer s f g later (inl z) t k by = inl z
  fewer s f g later (inr h) t k by = let its = stands_by s g h in let low = later t by.stands in inr (s, its.0, inl (omega (arith, low)), its.1)

  -- of registers only listed facts stand
  stands_listed : (fs : List Fact) (f : Fact) (r : ℕ) → f.cell ≡ Register r → StandsIn S fs f → In fs f
  stands_listed fs _ r is (listed f h) = h
  stands_listed fs _ r is (last_byte f a p c small e) = absurd (byte_register (sym c ∙ is))
  stands_listed fs _ r is (onward f g a p q at c h gp gc gv s) = absurd (byte_register (sym c ∙ is))
  stands_listed fs _ r is (back f g a p q at c h gp gc gv s) = absurd (byte_register (sym c ∙ is))

  least_later : (s t : ℕ) (f : Fact) → ((u : ℕ) → u < s → StandsIn S (oldest u Log) f → ⊥) → StandsIn S (oldest t Log) f → s ≤ t
  least_later s t f least h = elim (cases_order s t) [
    | inl eq ↦ omega (arith, eq)
    | inr (inl lt) ↦ omega (arith, lt)
    | inr (inr gt) ↦ absurd (least t (omega (arith, gt)) h)
  ]

  -- the byte from which one is carried stands in as many facts, by fewer uses
  nearer : (s a m w : ℕ) (f : Fact) → f.point ≡ w → f.cell ≡ Byte a → ((u : ℕ) → u < s → StandsIn S (oldest u Log) f → ⊥) → IsNearer S (oldest s Log) a m w → StandsIn S (oldest s Log) (fact_of m (Byte a) f.value) → IsBelow f (fact_of m (Byte a) f.value)
  nearer s a m w f p c least near there t k by =
      let low = least_later s t f least by.stands in
      let g = fact_of m (Byte a) f.value in
      let own : StandsBy s near.uses g = record { stands = there; uses = λ b is. (near.uses, omega arith, subst (λ (x : ℕ). IsReached S (oldest s Log) x near.uses m) (same_byte is) near.here) } in
      elim (cases_order s t) [
        | inl eq ↦
            let its = by.uses a c in
            let more : IsReached S (oldest s Log) a its.0 w = subst (λ (x : ℕ). IsReached S (oldest s Log) a its.0 x) p (subst (λ (x : ℕ). IsReached S (oldest x Log) a its.0 f.point) (sym eq) its.2) in
            elim (cases_order near.uses its.0) [
              | inl same ↦ absurd (near.not_there its.0 (omega (arith, same)) more)
              | inr (inl less) ↦ let few = its.1 in inr (s, near.uses, inr (eq, omega (arith, less, few)), own)
              | inr (inr greater) ↦ absurd (near.not_there its.0 (omega (arith, greater)) more)
            ]
        | inr (inl lt) ↦ inr (s, near.uses, inl (omega (arith, lt)), own)
        | inr (inr gt) ↦ absurd (omega (arith, low, gt))
      ]

  carried_below : (s : ℕ) (f : Fact) (why : Because) → StandsIn S (oldest s Log) f → ((u : ℕ) → u < s → StandsIn S (oldest u Log) f → ⊥) → IsCarriedBecause S (oldest s Log) f why → All (IsBelow f) why.premises
  carried_below s f why stands least (by_last a p c e is) = rw is (all_none (IsBelow f))
  carried_below s f why stands least (by_onward a m w p c carries near is) =
      let g = fact_of m (Byte a) f.value in
      rw is (all_one (IsBelow f) g (nearer s a m w f p c least near (back g f a m w refl refl carries p c refl stands)))
  carried_below s f why stands least (by_back a m w p c carries near is) =
      let g = fact_of w (Byte a) f.value in
      rw is (all_one (IsBelow f) g (nearer s a w m f p c least near (onward g f a m w refl refl carries p c refl stands)))

  all_fewer : (s : ℕ) (f : Fact) (gs : List Fact) → ((t : ℕ) → StandsIn S (oldest t Log) f → s < t) → All (Stands s) gs → All (IsBelow f) gs
  all_fewer s f gs later h = all_contained (IsBelow f) gs (λ g has. fewer s f g later (All-contains (Stands s) gs g h has))

  reason_below : (f : Fact) (why : Because) → IsReason S Log f why → All (IsBelow f) why.premises
  reason_below f why (of_register s r L there c at h) =
      all_fewer s f why.premises (λ t stands. entry_low Log log_once s t f at (stands_listed (oldest t Log) f r c stands)) (known_stands s L there f why h)
  reason_below f why (of_inferred_byte s a L there c least at h) =
      all_fewer s f why.premises (λ t stands. let low = least_later (s + 1) t f least.least stands in omega (arith, low)) (inferred_stands s L there f why h)
  reason_below f why (of_carried_byte s a c least other h) = carried_below s f why least.stands least.least h

  -- each fact that has a reason stands
  reason_stands : (f : Fact) (why : Because) → IsReason S Log f why → (t : ℕ) × StandsIn S (oldest t Log) f
  reason_stands f why (of_register s r L there c at h) = (s + 1, listed f (entry_in Log s f at))
  reason_stands f why (of_inferred_byte s a L there c least at h) = (s + 1, least.stands)
  reason_stands f why (of_carried_byte s a c least other h) = (s, least.stands)

  chain_stands : (f g : Fact) → RestsOn S Log f g → (t : ℕ) × StandsIn S (oldest t Log) f
  chain_stands _ _ (at_once f g why is has) = reason_stands f why is
  chain_stands _ _ (in_turn f g h first rest) = chain_stands f g first

  -- what is below the one that is below is below
  both_below : (f g h : Fact) → ((t : ℕ) → StandsIn S (oldest t Log) g → g.cell ≡ Register 0 → ⊥) → IsBelow f g → IsBelow g h → (s : ℕ) → StandsIn S (oldest s Log) g → IsBelow f h
  both_below f g h named first rest s there t k by = on (first t k by) where
    further : (u l : ℕ) → IsLess u l t k → (h.cell ≡ Register 0) ⊎ ((v : ℕ) × (m : ℕ) × IsLess v m u l × StandsBy v m h) → (h.cell ≡ Register 0) ⊎ ((v : ℕ) × (m : ℕ) × IsLess v m t k × StandsBy v m h)
    further u l less (inl z) = inl z
    further u l less (inr (v, m, lesser, its)) = inr (v, m, less_less v m u l t k lesser less, its)

    on : (g.cell ≡ Register 0) ⊎ ((u : ℕ) × (l : ℕ) × IsLess u l t k × StandsBy u l g) → (h.cell ≡ Register 0) ⊎ ((u : ℕ) × (l : ℕ) × IsLess u l t k × StandsBy u l h)
    on (inl z) = absurd (named s there z)
    on (inr (u, l, less, stands)) = further u l less (rest u l stands)

  chain_below : (f g : Fact) → RestsOn S Log f g → IsBelow f g
  chain_below _ _ (at_once f g why is has) = All-contains (IsBelow f) why.premises g (reason_below f why is) has
  chain_below _ _ (in_turn f g h first rest) =
      let its = chain_stands g h rest in
      both_below f g h (λ t there z. not_zero t g there z) (chain_below f g first) (chain_below g h rest) its.0 its.1

  -- what stands by less than itself doesn't stand
  module _ (f : Fact) (below : IsBelow f f) where
    next : (t k : ℕ) → StandsBy t k f → (u : ℕ) × (l : ℕ) × IsLess u l t k × StandsBy u l f
    next t k by = elim (below t k by) [ inl z ↦ absurd (not_zero t f by.stands z) | inr more ↦ more ]

    none_of : (t : ℕ) → ((u l : ℕ) → u < t → StandsBy u l f → ⊥) → (n k : ℕ) → k < n → StandsBy t k f → ⊥
    none_of t early zero k few by = omega (arith, few)
    none_of t early (suc n) k few by = go (next t k by) (λ l lt its. none_of t early n l (omega (arith, few, lt)) its) where
      go : (u : ℕ) × (l : ℕ) × IsLess u l t k × StandsBy u l f → ((l : ℕ) → l < k → StandsBy t l f → ⊥) → ⊥
      go (u, l, inl lt, its) less = early u l lt its
      go (u, l, inr (eq, lt), its) less = less l lt (subst (λ (x : ℕ). StandsBy x l f) eq its)

    none_below : (n t k : ℕ) → t < n → StandsBy t k f → ⊥
    none_below zero t k few by = omega (arith, few)
    none_below (suc n) t k few by = none_of t (λ u l lt its. none_below n u l (omega (arith, few, lt)) its) (suc k) k (omega arith) by

  pub no_circle : (f : Fact) → RestsOn S Log f f → ⊥
  no_circle f rests =
      let its = chain_stands f f rests in
      let by = stands_by its.0 f its.1 in
      none_below f (chain_below f f rests) (suc its.0) its.0 by.0 (omega arith) by.1
