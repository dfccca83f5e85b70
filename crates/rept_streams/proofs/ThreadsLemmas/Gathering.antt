-- The slices of all stretches are all slices.
use Rattle.std.proofs.Common.{◌≡◌, inl, inr, ℕ, suc, ◌+◌, ◌<◌, ◌≤◌, nat_le, List, [], ◌∷◌, ◌++◌, length, map, drop, Bool, true, false, cond, ◌&&◌, Option, Some, None, refl, sym, ◌∙◌, ap, subst, arith}
use Rattle.std.specs.Prelude.{is_none}
use Rattle.std.specs.List.{filter}
use Rattle.std.proofs.lemmas.Bool.Decides.{leb_tells}
use Rattle.rept_trace.specs.declared.packet.Packet.{Packet}
use Rattle.rept_path.specs.Code.{Code}
use Rattle.rept_streams.specs.Slices.Stamps.{is_start, running_after, context_of}
use Rattle.rept_streams.specs.Slices.Parts.{ToldSlice, told_from}
use Rattle.rept_streams.specs.Slices.Stretches.{same_stretch, stretch, StretchLegs, within, RanSlice, ran_by}
use Rattle.rept_streams.proofs.SlicesLemmas.InTime.{Each}
use Rattle.rept_streams.proofs.SlicesLemmas.Calm.{each_append}
use Rattle.rept_streams.proofs.SlicesLemmas.Following.{From, HeadFirst, head_first_told, each_from_less}
use Rattle.rept_streams.proofs.SlicesLemmas.Packs.{IsOpen, IsEnd, IsInner, kind, stretch_on}
use Rattle.rept_streams.proofs.ThreadsLemmas.Cutting.{stretch_short, after_stretch}

-- the slices up to the next one with which a stretch begins
abbrev pub inner_slices : List ToldSlice → List ToldSlice
inner_slices [] = []
inner_slices (t ∷ ts) = cond (is_none t.inside) [] (t ∷ inner_slices ts)

pub none_inner : (ts : List ToldSlice) → HeadFirst ts → inner_slices ts ≡ []
none_inner [] h = refl
none_inner (t ∷ ts) h = ap (λ (o : Option ℕ). cond (is_none o) [] (t ∷ inner_slices ts)) h

pub told_back : (code : Code) (w : StretchLegs) (ts : List ToldSlice) → map (λ (r : RanSlice). r.told) (map (ran_by code w) ts) ≡ ts
told_back code w [] = refl
told_back code w (t ∷ ts) = ap (λ (us : List ToldSlice). t ∷ us) (told_back code w ts)

module _ (w : StretchLegs) where
  abbrev end : ℕ
  end = w.head.number + length (stretch w.head)

  pub out : (ts : List ToldSlice) → Each (From end) ts → filter (within w) ts ≡ []
  out [] h = refl
  out (t ∷ ts) h = elim (leb_tells (suc t.number) end) [
    | inl x ↦ absurd (let lt = x.1 in let le = h.0 in omega (arith, lt, le))
    | inr x ↦ go (nat_le w.head.number t.number) x.0 (out ts h.1)
  ] where
    go : (b : Bool) → nat_le (suc t.number) end ≡ false → filter (within w) ts ≡ [] → cond (b && nat_le (suc t.number) end) (t ∷ filter (within w) ts) (filter (within w) ts) ≡ []
    go true e r = ap (λ (c : Bool). cond c (t ∷ filter (within w) ts) (filter (within w) ts)) e ∙ r
    go false e r = r

  pub into : (t : ToldSlice) (ts : List ToldSlice) → w.head.number ≤ t.number → t.number < end → filter (within w) (t ∷ ts) ≡ t ∷ filter (within w) ts
  into t ts low high = elim (leb_tells w.head.number t.number) [
    | inr x ↦ absurd (let lt = x.1 in omega (arith, lt, low))
    | inl x ↦ elim (leb_tells (suc t.number) end) [
      | inr y ↦ absurd (let le = y.1 in omega (arith, le, high))
      | inl y ↦ (λ i. cond (x.0 i && y.0 i) (t ∷ filter (within w) ts) (filter (within w) ts))
    ]
  ]

  abbrev Gathers : List ToldSlice → Type 0
  Gathers ts = filter (within w) ts ≡ inner_slices ts

  pub gathers : (later : List Packet) (s k x : ℕ) (others : List ToldSlice) → w.head.number ≤ k → end ≡ k + length (same_stretch false later) → Each (From (k + length later)) others → HeadFirst others → Gathers (told_from s k (Some x) later ++ others)
  gathers [] s k x others low to far heads = out others (each_from_less end (k + 0) (omega (arith, to)) others far) ∙ sym (none_inner others heads)
  gathers (p ∷ later) s k x others low to far heads = elim (kind p) [
    | inl i ↦ opened i (stretch_on p false false later (i.begins false) (i.waits false)) (λ y at. gathers later s (suc k) y others (omega (arith, low)) at farther heads)
    | inr j ↦ elim j [
      | inl i ↦ ended i (stretch_on p false true later (i.begins false) (i.waits false))
      | inr i ↦ passed i (stretch_on p false false later (i.begins false) (i.waits false)) (λ y at. gathers later s (suc k) y others (omega (arith, low)) at farther heads)
    ]
  ] where
    farther : Each (From (suc k + length later)) others
    farther = each_from_less (suc k + length later) (k + suc (length later)) (omega arith) others far

    here : ToldSlice
    here = record { stream = s; number = k; start = p; later = later; inside = Some x }

    rest : List ToldSlice
    rest = told_from s (suc k) (running_after p (Some x)) later

    not_told : is_start p ≡ false → told_from s k (Some x) (p ∷ later) ≡ rest
    not_told start = ap (λ (b : Bool). cond b (here ∷ rest) rest) start

    is_told : is_start p ≡ true → told_from s k (Some x) (p ∷ later) ≡ here ∷ rest
    is_told start = ap (λ (b : Bool). cond b (here ∷ rest) rest) start

    passed : IsInner p → same_stretch false (p ∷ later) ≡ p ∷ same_stretch false later → ((y : ℕ) → end ≡ suc k + length (same_stretch false later) → Gathers (told_from s (suc k) (Some y) later ++ others)) → Gathers (told_from s k (Some x) (p ∷ later) ++ others)
    passed i e more =
        let size = ap (length {A = Packet}) e in
        let told = not_told i.start ∙ ap (λ (o : Option ℕ). told_from s (suc k) o later) (i.runs (Some x)) in
        subst (λ (ts : List ToldSlice). Gathers (ts ++ others)) (sym told) (more x (omega (arith, to, size)))

    opened : IsOpen p → same_stretch false (p ∷ later) ≡ p ∷ same_stretch false later → ((y : ℕ) → end ≡ suc k + length (same_stretch false later) → Gathers (told_from s (suc k) (Some y) later ++ others)) → Gathers (told_from s k (Some x) (p ∷ later) ++ others)
    opened i e more =
        let size = ap (length {A = Packet}) e in
        let told : told_from s k (Some x) (p ∷ later) ≡ here ∷ told_from s (suc k) (Some (context_of p)) later = is_told i.start ∙ ap (λ (o : Option ℕ). here ∷ told_from s (suc k) o later) (i.runs (Some x)) in
        let r = more (context_of p) (omega (arith, to, size)) in
        let inside = into here (told_from s (suc k) (Some (context_of p)) later ++ others) low (omega (arith, to, size)) in
        subst (λ (ts : List ToldSlice). Gathers (ts ++ others)) (sym told) (inside ∙ ap (λ (ts : List ToldSlice). here ∷ ts) r)

    ended : IsEnd p → same_stretch false (p ∷ later) ≡ p ∷ same_stretch true later → Gathers (told_from s k (Some x) (p ∷ later) ++ others)
    ended i e =
        let size = ap (length {A = Packet}) e in
        let short = stretch_short true later in
        let at : end ≡ suc k + length (same_stretch true later) = omega (arith, to, size) in
        let told = not_told i.start ∙ ap (λ (o : Option ℕ). told_from s (suc k) o later) (i.runs (Some x)) in
        let none = out (told_from s (suc k) None later ++ others) (each_append (From end) (told_from s (suc k) None later) others (subst (λ (m : ℕ). Each (From m) (told_from s (suc k) None later)) (sym at) (after_stretch s (suc k) later)) (each_from_less end (suc k + length later) (omega (arith, at, short)) others farther)) in
        subst (λ (ts : List ToldSlice). Gathers (ts ++ others)) (sym told) (none ∙ sym (none_inner (told_from s (suc k) None later ++ others) (head_first_told s (suc k) later others heads)))

  -- the slices of a stretch, from its first one on
  pub gathered : (t : ToldSlice) (later others : List ToldSlice) → w.head ≡ t → is_start t.start ≡ true → t ∷ later ≡ told_from t.stream t.number t.inside (t.start ∷ t.later) ++ others → Each (From (t.number + 1 + length t.later)) others → HeadFirst others → filter (within w) (t ∷ later) ≡ t ∷ inner_slices later
  gathered t later others head starts same far heads = elim (kind t.start) [
    | inr j ↦ absurd (elim j [ inl i ↦ wrong i.start | inr i ↦ wrong i.start ])
    | inl o ↦
        let rest : List ToldSlice = told_from t.stream (suc t.number) (Some (context_of t.start)) t.later in
        let told : told_from t.stream t.number t.inside (t.start ∷ t.later) ≡ t ∷ rest = ap (λ (b : Bool). cond b (t ∷ told_from t.stream (suc t.number) (running_after t.start t.inside) t.later) (told_from t.stream (suc t.number) (running_after t.start t.inside) t.later)) starts ∙ ap (λ (q : Option ℕ). t ∷ told_from t.stream (suc t.number) q t.later) (o.runs t.inside) in
        let whole : t ∷ later ≡ t ∷ (rest ++ others) = same ∙ ap (λ (ts : List ToldSlice). ts ++ others) told in
        let later_is : later ≡ rest ++ others = ap (drop 1) whole in
        let number = ap (λ (u : ToldSlice). u.number) head in
        let size = ap (λ (u : ToldSlice). length (stretch u)) head in
        let r = gathers t.later t.stream (suc t.number) (context_of t.start) others (omega (arith, number)) (omega (arith, number, size)) (each_from_less (suc t.number + length t.later) (t.number + 1 + length t.later) (omega arith) others far) heads in
        into t later (omega (arith, number)) (omega (arith, number, size)) ∙ ap (λ (ts : List ToldSlice). t ∷ ts) (subst Gathers (sym later_is) r)
  ] where
    wrong : is_start t.start ≡ false → ⊥
    wrong h = cc
