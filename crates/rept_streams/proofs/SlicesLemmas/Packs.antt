-- What packets do to a stretch and to its slices: a start packet, one that ends the trace, and the
-- others.
use Rattle.std.proofs.Common.{◌≡◌, ◌⊎◌, inl, inr, ℕ, suc, ◌+◌, List, [], ◌∷◌, ◌++◌, length, reverse, take, Bool, true, false, cond, not, Option, Some, None, refl, sym, ◌∙◌, ap, subst, arith, length-append}
use Rattle.std.specs.List.{flat_map, prefix_len}
use Rattle.std.proofs.lemmas.List.{length-reverse}
use Rattle.rept_isa.specs.declared.row.StepRow.{StepRow}
use Rattle.rept_trace.specs.declared.packet.Qual.TheVariants.{NoChange, EndedRep, TraceLost, EndedNtr}
use Rattle.rept_trace.specs.declared.packet.Packet.{Packet}
use Rattle.rept_trace.specs.declared.packet.Packet.TheVariants.{Start, Context, Support, Address, Map, MapAddress}
use Rattle.rept_path.specs.Packets.{begins, waits_after}
use Rattle.rept_streams.specs.Slices.Stamps.{is_start, closes, running_after, context_of}
use Rattle.rept_streams.specs.Slices.Stretches.{same_stretch}
use Rattle.rept_streams.specs.Slices.Ends.{first_or}
use Rattle.rept_streams.proofs.SlicesLemmas.Going.{same_on, same_off}

pub record IsOpen (p : Packet) : Type 0 where
  pub start : is_start p ≡ true
  pub closes : closes p ≡ true
  pub waits : (b : Bool) → waits_after p b ≡ false
  pub begins : (b : Bool) → begins p b ≡ b
  pub runs : (o : Option ℕ) → running_after p o ≡ Some (context_of p)

pub record IsEnd (p : Packet) : Type 0 where
  pub start : is_start p ≡ false
  pub closes : closes p ≡ true
  pub waits : (b : Bool) → waits_after p b ≡ true
  pub begins : (b : Bool) → begins p b ≡ false
  pub runs : (o : Option ℕ) → running_after p o ≡ None

pub record IsInner (p : Packet) : Type 0 where
  pub start : is_start p ≡ false
  pub closes : closes p ≡ false
  pub waits : (b : Bool) → waits_after p b ≡ b
  pub begins : (b : Bool) → begins p b ≡ false
  pub runs : (o : Option ℕ) → running_after p o ≡ o

pub kind : (p : Packet) → IsOpen p ⊎ (IsEnd p ⊎ IsInner p)
kind (Start branch privilege a time context) = inl (record { start = refl; closes = refl; waits = λ b. refl; begins = λ b. refl; runs = λ o. refl })
kind (Context privilege time context) = inr (inr (record { start = refl; closes = refl; waits = λ b. refl; begins = λ b. refl; runs = λ o. refl }))
kind (Support enabled EndedRep) = inr (inl (record { start = refl; closes = refl; waits = λ b. refl; begins = λ b. refl; runs = λ o. refl }))
kind (Support enabled EndedNtr) = inr (inl (record { start = refl; closes = refl; waits = λ b. refl; begins = λ b. refl; runs = λ o. refl }))
kind (Support enabled NoChange) = inr (inr (record { start = refl; closes = refl; waits = λ b. refl; begins = λ b. refl; runs = λ o. refl }))
kind (Support enabled TraceLost) = inr (inr (record { start = refl; closes = refl; waits = λ b. refl; begins = λ b. refl; runs = λ o. refl }))
kind (Address report) = inr (inr (record { start = refl; closes = refl; waits = λ b. refl; begins = λ b. refl; runs = λ o. refl }))
kind (Map map) = inr (inr (record { start = refl; closes = refl; waits = λ b. refl; begins = λ b. refl; runs = λ o. refl }))
kind (MapAddress count map report) = inr (inr (record { start = refl; closes = refl; waits = λ b. refl; begins = λ b. refl; runs = λ o. refl }))

-- a packet more of a stretch
pub stretch_on : (p : Packet) (waits after : Bool) (later : List Packet) → begins p waits ≡ false → waits_after p waits ≡ after → same_stretch waits (p ∷ later) ≡ p ∷ same_stretch after later
stretch_on p waits after later b w = same_on waits p later b ∙ ap (λ (c : Bool). p ∷ same_stretch c later) w

-- the rows of legs, oldest first
abbrev pub rows_by : List (List StepRow) → List StepRow
rows_by ls = flat_map reverse ls

pub rows_more : (l : List StepRow) (ls : List (List StepRow)) → length (rows_by (l ∷ ls)) ≡ length l + length (rows_by ls)
rows_more l ls = omega (arith, length-append (reverse l) (rows_by ls), length-reverse l)

pub rows_one : (l : List StepRow) → length (rows_by (l ∷ [])) ≡ length l
rows_one l = omega (arith, rows_more l [])

-- how many rows stand after each start packet
abbrev pub counts_from : ℕ → List Packet → List (List StepRow) → List ℕ
counts_from n [] ls = []
counts_from n (p ∷ ps) [] = []
counts_from n (p ∷ ps) (l ∷ ls) = cond (is_start p) ((n + length l) ∷ []) [] ++ counts_from (n + length l) ps ls

-- The packets of a stretch have these legs, which are empty where the trace waits.
abbrev pub Cut : Bool → List Packet → List (List StepRow) → Type 0
Cut waits [] ls = ls ≡ []
Cut waits (p ∷ ps) [] = ⊥
Cut waits (p ∷ ps) (l ∷ ls) = (waits ≡ true → l ≡ []) × Cut (waits_after p waits) ps ls

-- the rows of the legs up to that of the packet that ends a slice
abbrev pub first_rows : List Packet → List (List StepRow) → List StepRow
first_rows later ls = rows_by (take (suc (prefix_len (λ p. not (closes p)) later)) ls)

-- After the trace ended there are no rows, and no start packet of the stretch.
pub nothing_more : (n : ℕ) (later : List Packet) (ls : List (List StepRow)) → Cut true (same_stretch true later) ls → (counts_from n (same_stretch true later) ls ≡ []) × (rows_by ls ≡ [])
nothing_more n [] ls c = (refl, ap rows_by c)
nothing_more n (p ∷ later) ls c = elim (kind p) [
  | inl o ↦
      let e = same_off true p later (o.begins true) in
      let none : ls ≡ [] = subst (λ (ps : List Packet). Cut true ps ls) e c in
      (ap (λ (ps : List Packet). counts_from n ps ls) e, ap rows_by none)
  | inr k ↦ elim k [
    | inl i ↦ (let e = stretch_on p true true later (i.begins true) (i.waits true) in subst (λ (ps : List Packet). (counts_from n ps ls ≡ []) × (rows_by ls ≡ [])) (sym e) (go ls i.start (i.waits true) (λ m ks k. nothing_more m later ks k) (subst (λ (ps : List Packet). Cut true ps ls) e c)))
    | inr i ↦ (let e = stretch_on p true true later (i.begins true) (i.waits true) in subst (λ (ps : List Packet). (counts_from n ps ls ≡ []) × (rows_by ls ≡ [])) (sym e) (go ls i.start (i.waits true) (λ m ks k. nothing_more m later ks k) (subst (λ (ps : List Packet). Cut true ps ls) e c)))
  ]
] where
  go : (ls : List (List StepRow)) → is_start p ≡ false → waits_after p true ≡ true → ((m : ℕ) (ks : List (List StepRow)) → Cut true (same_stretch true later) ks → (counts_from m (same_stretch true later) ks ≡ []) × (rows_by ks ≡ [])) → Cut true (p ∷ same_stretch true later) ls → (counts_from n (p ∷ same_stretch true later) ls ≡ []) × (rows_by ls ≡ [])
  go [] s w more c = absurd c
  go (l ∷ ls) s w more c =
      let empty : l ≡ [] = c.0 refl in
      let r = more (n + length l) ls (subst (λ (b : Bool). Cut b (same_stretch true later) ls) w c.1) in
      (ap (λ (b : Bool). cond b ((n + length l) ∷ []) [] ++ counts_from (n + length l) (same_stretch true later) ls) s ∙ r.0, ap (λ (xs : List StepRow). reverse xs ++ rows_by ls) empty ∙ r.1)

abbrev Ends : ℕ → Packet → List Packet → List Packet → List (List StepRow) → Type 0
Ends n p later ps ls = first_or (n + length (rows_by ls)) (counts_from n ps ls) ≡ n + length (first_rows (p ∷ later) ls)

-- where the rows of the running slice end: after the start packet that is next, or after all rows
-- of the stretch
pub ends_at : (n : ℕ) (later : List Packet) (ls : List (List StepRow)) → Cut false (same_stretch false later) ls → first_or (n + length (rows_by ls)) (counts_from n (same_stretch false later) ls) ≡ n + length (first_rows later ls)
ends_at n [] ls c = subst (λ (xs : List (List StepRow)). n + length (rows_by xs) ≡ n + length (rows_by (take 1 xs))) (sym c) refl
ends_at n (p ∷ later) ls c = elim (kind p) [
  | inl o ↦ (let e = stretch_on p false false later (o.begins false) (o.waits false) in moved false e (opened o ls (subst (λ (ps : List Packet). Cut false ps ls) e c)))
  | inr k ↦ elim k [
    | inl i ↦ (let e = stretch_on p false true later (i.begins false) (i.waits false) in moved true e (ended i ls (subst (λ (ps : List Packet). Cut false ps ls) e c)))
    | inr i ↦ (let e = stretch_on p false false later (i.begins false) (i.waits false) in moved false e (inner i ls (λ m ks k. ends_at m later ks k) (subst (λ (ps : List Packet). Cut false ps ls) e c)))
  ]
] where
  moved : (after : Bool) → same_stretch false (p ∷ later) ≡ p ∷ same_stretch after later → Ends n p later (p ∷ same_stretch after later) ls → Ends n p later (same_stretch false (p ∷ later)) ls
  moved after e h = subst (λ (ps : List Packet). Ends n p later ps ls) (sym e) h

  closed : (l : List StepRow) (ls : List (List StepRow)) → closes p ≡ true → first_rows (p ∷ later) (l ∷ ls) ≡ rows_by (l ∷ [])
  closed l ls h = ap (λ (b : Bool). rows_by (take (suc (cond (not b) (1 + prefix_len (λ q. not (closes q)) later) 0)) (l ∷ ls))) h

  opened : IsOpen p → (ls : List (List StepRow)) → Cut false (p ∷ same_stretch false later) ls → Ends n p later (p ∷ same_stretch false later) ls
  opened o [] c = absurd c
  opened o (l ∷ ls) c =
      let s = ap (λ (b : Bool). first_or (n + length (rows_by (l ∷ ls))) (cond b ((n + length l) ∷ []) [] ++ counts_from (n + length l) (same_stretch false later) ls)) o.start in
      let r = ap (length {A = StepRow}) (closed l ls o.closes) in
      let k = rows_one l in
      omega (arith, s, r, k)

  ended : IsEnd p → (ls : List (List StepRow)) → Cut false (p ∷ same_stretch true later) ls → Ends n p later (p ∷ same_stretch true later) ls
  ended i [] c = absurd c
  ended i (l ∷ ls) c =
      let none = nothing_more (n + length l) later ls (subst (λ (b : Bool). Cut b (same_stretch true later) ls) (i.waits false) c.1) in
      let s = ap (λ (b : Bool). first_or (n + length (rows_by (l ∷ ls))) (cond b ((n + length l) ∷ []) [] ++ counts_from (n + length l) (same_stretch true later) ls)) i.start in
      let t = ap (λ (ms : List ℕ). first_or (n + length (rows_by (l ∷ ls))) ms) none.0 in
      let r = ap (length {A = StepRow}) (closed l ls i.closes) in
      let k = rows_one l in
      let m = rows_more l ls in
      let z = ap (length {A = StepRow}) none.1 in
      omega (arith, s, t, r, k, m, z)

  inner : IsInner p → (ls : List (List StepRow)) → ((m : ℕ) (ks : List (List StepRow)) → Cut false (same_stretch false later) ks → first_or (m + length (rows_by ks)) (counts_from m (same_stretch false later) ks) ≡ m + length (first_rows later ks)) → Cut false (p ∷ same_stretch false later) ls → Ends n p later (p ∷ same_stretch false later) ls
  inner i [] more c = absurd c
  inner i (l ∷ ls) more c =
      let h = more (n + length l) ls (subst (λ (b : Bool). Cut b (same_stretch false later) ls) (i.waits false) c.1) in
      let s = ap (λ (b : Bool). first_or (n + length (rows_by (l ∷ ls))) (cond b ((n + length l) ∷ []) [] ++ counts_from (n + length l) (same_stretch false later) ls)) i.start in
      let m = rows_more l ls in
      let whole : n + length (rows_by (l ∷ ls)) ≡ n + length l + length (rows_by ls) = omega (arith, m) in
      let t = ap (λ (k : ℕ). first_or k (counts_from (n + length l) (same_stretch false later) ls)) whole in
      let j = prefix_len (λ q. not (closes q)) later in
      let one : 1 + j ≡ suc j = omega arith in
      let r : first_rows (p ∷ later) (l ∷ ls) ≡ rows_by (l ∷ take (suc j) ls) = ap (λ (b : Bool). rows_by (take (suc (cond (not b) (1 + j) 0)) (l ∷ ls))) i.closes ∙ ap (λ (k : ℕ). rows_by (l ∷ take k ls)) one in
      let q = ap (length {A = StepRow}) r in
      let v = rows_more l (take (suc j) ls) in
      omega (arith, h, s, t, q, v)
