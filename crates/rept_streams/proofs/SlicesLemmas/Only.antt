-- There is one run at most, or one refusal.
use Rattle.std.proofs.Common.{◌≡◌, inl, inr, ℕ, ◌+◌, List, [], ◌∷◌, Option, Some, None, Result, Ok, Err, sym, ◌∙◌, ap, subst}
use Rattle.rept_isa.specs.declared.row.StepRow.{StepRow}
use Rattle.rept_steps.specs.declared.run.Run.{Run}
use Rattle.rept_path.specs.Code.{Code}
use Rattle.rept_path.specs.declared.fault.PathFault.{PathFault}
use Rattle.rept_path.proofs.OneRoute.{one_route, route_or_stop, one_stop}
use Rattle.std.specs.Prelude.{reverse}
use Rattle.rept_streams.specs.Slices.Parts.{ToldSlice}
use Rattle.rept_streams.specs.Slices.Stretches.{stretch, heads, StretchLegs, origin_after, count_of, Goes, Walks, WalksFault}
use Rattle.rept_streams.specs.Slices.Many.{Traces, IsRunOfStreams, HasNoRunOfStreams, joined, left}

module _ (code : Code) where
  abbrev walked : ToldSlice → List (List StepRow) → StretchLegs
  walked t legs = record { head = t; legs = legs }

  -- a stretch is walked in one way
  one_walk : (count : ℕ) (t : ToldSlice) (v w : StretchLegs) → v.head ≡ t → w.head ≡ t → Goes code count v → Goes code count w → v ≡ w
  one_walk count t v w a b x y = go v.head w.head v.legs w.legs (a ∙ sym b) x y
    where
      go : (h k : ToldSlice) (p q : List (List StepRow)) → h ≡ k → Goes code count (walked h p) → Goes code count (walked k q) → walked h p ≡ walked k q
      go h k p q same x y =
          let z = subst (λ (u : ToldSlice). Goes code count (walked u p)) same x in
          let l : p ≡ q = one_route code (origin_after count k) (reverse (stretch k)) p q z y in
          ap (λ (u : ToldSlice). walked u p) same ∙ ap (λ (ls : List (List StepRow)). walked k ls) l

  one_walks : (count : ℕ) (ts : List ToldSlice) (vs ws : List StretchLegs) → Walks code count ts vs → Walks code count ts ws → vs ≡ ws
  one_walks count [] vs ws x y = x ∙ sym y
  one_walks count (t ∷ ts) [] ws x y = elim x [ ]
  one_walks count (t ∷ ts) (v ∷ vs) [] x y = elim y [ ]
  one_walks count (t ∷ ts) (v ∷ vs) (w ∷ ws) x y =
      let first : v ≡ w = one_walk count t v w x.0 y.0 x.1 y.1 in
      let rest = subst (λ (u : StretchLegs). Walks code (count + count_of code u) ts vs) first x.2 in
      let others : vs ≡ ws = one_walks (count + count_of code w) ts vs ws rest y.2 in
      cc

  stop_at : (count : ℕ) (t : ToldSlice) (w : StretchLegs) (e : PathFault) → w.head ≡ t → Goes code count w → WalksFault code count (t ∷ []) e → ⊥
  stop_at count t w e h x (inl s) =
      let z = subst (λ (u : ToldSlice). Goes code count (walked u w.legs)) h x in
      route_or_stop code (origin_after count t) (stretch t) w.legs e z s
  stop_at count t w e h x (inr (v, i, y, f)) = f

  walks_or_fault : (count : ℕ) (ts : List ToldSlice) (ws : List StretchLegs) (e : PathFault) → Walks code count ts ws → WalksFault code count ts e → ⊥
  walks_or_fault count [] ws e x f = f
  walks_or_fault count (t ∷ ts) [] e x f = x
  walks_or_fault count (t ∷ ts) (w ∷ ws) e x (inl s) = stop_at count t w e x.0 x.1 (inl s)
  walks_or_fault count (t ∷ ts) (w ∷ ws) e x (inr (v, i, y, f)) =
      let same : w ≡ v = one_walk count t w v x.0 i x.1 y in
      walks_or_fault (count + count_of code v) ts ws e (subst (λ (u : StretchLegs). Walks code (count + count_of code u) ts ws) same x.2) f

  one_fault : (count : ℕ) (ts : List ToldSlice) (d e : PathFault) → WalksFault code count ts d → WalksFault code count ts e → d ≡ e
  one_fault count [] d e x y = elim x [ ]
  one_fault count (t ∷ ts) d e (inl a) (inl b) = one_stop code (origin_after count t) (stretch t) d e a b
  one_fault count (t ∷ ts) d e (inl a) (inr (w, i, y, f)) = absurd (stop_at count t w d i y (inl a))
  one_fault count (t ∷ ts) d e (inr (v, i, x, f)) (inl b) = absurd (stop_at count t v e i x (inl b))
  one_fault count (t ∷ ts) d e (inr (v, i, x, f)) (inr (w, j, y, g)) =
      let same : v ≡ w = one_walk count t v w i j x y in
      one_fault (count + count_of code w) ts d e (subst (λ (u : StretchLegs). WalksFault code (count + count_of code u) ts d) same f) g

not_both : {A : Type 0} {r : Result A PathFault} {x : A} {y : PathFault} → r ≡ Ok x → r ≡ Err y → ⊥
not_both h g = cc

same_ok : {A : Type 0} {r : Result A PathFault} {x y : A} → r ≡ Ok x → r ≡ Ok y → x ≡ y
same_ok h g = cc

same_err : {A : Type 0} {r : Result A PathFault} {x y : PathFault} → r ≡ Err x → r ≡ Err y → x ≡ y
same_err h g = cc

same_some : {o : Option PathFault} {x y : PathFault} → o ≡ Some x → o ≡ Some y → x ≡ y
same_some h g = cc

none_or_some : {o : Option PathFault} {x : PathFault} → o ≡ None → o ≡ Some x → ⊥
none_or_some h g = cc

module _ (t : Traces) where
  pub one_run : (a b : Run) → IsRunOfStreams t a → IsRunOfStreams t b → a ≡ b
  one_run a b x y =
      let same : x.walked ≡ y.walked = one_walks t.code 0 (heads (left t)) x.walked y.walked x.walks y.walks in
      same_ok (ap (λ (ws : List StretchLegs). joined t ws) (sym same) ∙ x.result) y.result

  pub run_or_refusal : (a : Run) (e : PathFault) → IsRunOfStreams t a → HasNoRunOfStreams t e → ⊥
  run_or_refusal a e x (inl f) = none_or_some x.passed f
  run_or_refusal a e x (inr (passed, inl f)) = walks_or_fault t.code 0 (heads (left t)) x.walked e x.walks f
  run_or_refusal a e x (inr (passed, inr (ws, walks, f))) =
      let same : x.walked ≡ ws = one_walks t.code 0 (heads (left t)) x.walked ws x.walks walks in
      not_both (ap (λ (vs : List StretchLegs). joined t vs) (sym same) ∙ x.result) f

  pub one_refusal : (d e : PathFault) → HasNoRunOfStreams t d → HasNoRunOfStreams t e → d ≡ e
  one_refusal d e (inl f) (inl g) = same_some f g
  one_refusal d e (inl f) (inr (passed, g)) = absurd (none_or_some passed f)
  one_refusal d e (inr (passed, f)) (inl g) = absurd (none_or_some passed g)
  one_refusal d e (inr (passed, inl f)) (inr (other, inl g)) = one_fault t.code 0 (heads (left t)) d e f g
  one_refusal d e (inr (passed, inl f)) (inr (other, inr (ws, walks, g))) = absurd (walks_or_fault t.code 0 (heads (left t)) ws d walks f)
  one_refusal d e (inr (passed, inr (vs, walks, f))) (inr (other, inl g)) = absurd (walks_or_fault t.code 0 (heads (left t)) vs e walks g)
  one_refusal d e (inr (passed, inr (vs, x, f))) (inr (other, inr (ws, y, g))) =
      let same : vs ≡ ws = one_walks t.code 0 (heads (left t)) vs ws x y in
      same_err (ap (λ (us : List StretchLegs). joined t us) (sym same) ∙ f) g
