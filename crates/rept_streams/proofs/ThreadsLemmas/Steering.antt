-- The rows of each slice of a stretch lead from its start packet's address to that of the next
-- slice, or to where the stretch ends.
use Rattle.std.proofs.Common.{◌≡◌, inl, inr, ℕ, suc, ◌+◌, ◌-◌, ◌≤◌, List, [], ◌∷◌, ◌++◌, length, map, reverse, take, drop, Bool, true, false, cond, not, Option, Some, None, refl, sym, ◌∙◌, ap, subst, arith}
use Rattle.std.specs.List.{filter, prefix_len}
use Rattle.std.proofs.lemmas.List.{append-nil, drop-drop}
use Rattle.rept_isa.specs.declared.row.StepRow.{StepRow}
use Rattle.rept_trace.specs.declared.packet.Packet.{Packet}
use Rattle.rept_path.specs.Code.{Code}
use Rattle.rept_path.specs.Moves.{Place}
use Rattle.rept_path.specs.Packets.{waits_after}
use Rattle.rept_streams.specs.Slices.Stamps.{closes, running_after, context_of, address_of}
use Rattle.rept_streams.specs.Slices.Parts.{ToldSlice, inner, told_from}
use Rattle.rept_streams.specs.Slices.Order.{head_of}
use Rattle.rept_streams.specs.Slices.Stretches.{same_stretch, stretch, StretchLegs, last_place, within, rows_of, RanSlice, ran_by}
use Rattle.rept_streams.proofs.SlicesLemmas.InTime.{Each}
use Rattle.rept_streams.proofs.SlicesLemmas.Calm.{each_append}
use Rattle.rept_streams.proofs.SlicesLemmas.Going.{same_off}
use Rattle.rept_streams.proofs.SlicesLemmas.Following.{From, each_from_less}
use Rattle.rept_streams.proofs.SlicesLemmas.Packs.{IsOpen, IsEnd, IsInner, kind, stretch_on, rows_by, Cut, first_rows}
use Rattle.rept_streams.proofs.ThreadsLemmas.Routed.{Steered}
use Rattle.rept_streams.specs.Threads.Linking.{GoesFromTo}
use Rattle.rept_streams.proofs.ThreadsLemmas.Leading.{Leads, leads_goes, goes_append}
use Rattle.rept_streams.proofs.ThreadsLemmas.Cutting.{stretch_short, after_stretch}
use Rattle.rept_streams.proofs.ThreadsLemmas.Gathering.{out, into}

-- where a slice leads: to the next one of its stretch, or to where the stretch ends
abbrev pub leads_to : RanSlice → Option RanSlice → ℕ
leads_to r None = r.last.at
leads_to r (Some q) = address_of q.told.start

-- the slices of a stretch, each with the next one
abbrev pub Locals : List RanSlice → Type 0
Locals [] = Unit {0}
Locals (r ∷ rs) = GoesFromTo r.rows (address_of r.told.start) (leads_to r (head_of rs)) × Locals rs

module _ (code : Code) (w : StretchLegs) where
  abbrev finish : ℕ
  finish = (last_place code w).at

  abbrev end : ℕ
  end = w.head.number + length (stretch w.head)

  abbrev mine : List ToldSlice → List RanSlice
  mine ts = map (ran_by code w) (filter (within w) ts)

  -- After the trace ended a stretch stays where it is.
  stays : (c : ℕ) (later : List Packet) (ls : List (List StepRow)) → Cut true (same_stretch true later) ls → Steered c (same_stretch true later) ls finish → c ≡ finish
  stays c [] ls k t = t.1
  stays c (p ∷ later) ls k t = elim (kind p) [
    | inl o ↦ (subst (λ (ps : List Packet). Steered c ps ls finish) (same_off true p later (o.begins true)) t).1
    | inr j ↦ elim j [
      | inl i ↦ go ls (i.waits true) (λ d ks q r. stays d later ks q r) (subst (λ (ps : List Packet). Cut true ps ls) (stretch_on p true true later (i.begins true) (i.waits true)) k) (subst (λ (ps : List Packet). Steered c ps ls finish) (stretch_on p true true later (i.begins true) (i.waits true)) t)
      | inr i ↦ go ls (i.waits true) (λ d ks q r. stays d later ks q r) (subst (λ (ps : List Packet). Cut true ps ls) (stretch_on p true true later (i.begins true) (i.waits true)) k) (subst (λ (ps : List Packet). Steered c ps ls finish) (stretch_on p true true later (i.begins true) (i.waits true)) t)
    ]
  ] where
    go : (ls : List (List StepRow)) → waits_after p true ≡ true → ((d : ℕ) (ks : List (List StepRow)) → Cut true (same_stretch true later) ks → Steered d (same_stretch true later) ks finish → d ≡ finish) → Cut true (p ∷ same_stretch true later) ls → Steered c (p ∷ same_stretch true later) ls finish → c ≡ finish
    go [] x more k t = absurd k
    go (l ∷ ls) x more k t =
        let empty : l ≡ [] = k.0 refl in
        let same : c ≡ t.0 = subst (λ (leg : List StepRow). Leads leg c t.0) empty t.1 in
        same ∙ more t.0 ls (subst (λ (b : Bool). Cut b (same_stretch true later) ls) x k.1) t.3

  -- where the rows of a slice lead, from its start packet on
  abbrev Leaves : List Packet → List (List StepRow) → ℕ → RanSlice → List ToldSlice → Type 0
  Leaves later ls c r ts = GoesFromTo (first_rows later ls) c (leads_to r (head_of (mine ts)))

  nothing_else : (r : RanSlice) (ts : List ToldSlice) → r.last ≡ last_place code w → filter (within w) ts ≡ [] → finish ≡ leads_to r (head_of (mine ts))
  nothing_else r ts last none = ap (λ (p : Place). p.at) (sym last) ∙ sym (ap (λ (us : List ToldSlice). leads_to r (head_of (map (ran_by code w) us))) none)

  leaves : (later : List Packet) (s k x : ℕ) (others : List ToldSlice) (ls : List (List StepRow)) (c : ℕ) (r : RanSlice) → r.last ≡ last_place code w → w.head.number ≤ k → end ≡ k + length (same_stretch false later) → Each (From (k + length later)) others
      → Cut false (same_stretch false later) ls → Steered c (same_stretch false later) ls finish → Leaves later ls c r (told_from s k (Some x) later ++ others)
  leaves [] s k x others ls c r last low to far cut steered =
      let none = out w others (each_from_less end (k + 0) (omega (arith, to)) others far) in
      subst (λ (ks : List (List StepRow)). GoesFromTo (rows_by (take 1 ks)) c (leads_to r (head_of (mine others)))) (sym cut) (steered.1 ∙ nothing_else r others last none)
  leaves (p ∷ later) s k x others [] c r last low to far cut steered = elim (kind p) [
    | inl i ↦ absurd (subst (λ (ps : List Packet). Cut false ps []) (stretch_on p false false later (i.begins false) (i.waits false)) cut)
    | inr j ↦ elim j [
      | inl i ↦ absurd (subst (λ (ps : List Packet). Cut false ps []) (stretch_on p false true later (i.begins false) (i.waits false)) cut)
      | inr i ↦ absurd (subst (λ (ps : List Packet). Cut false ps []) (stretch_on p false false later (i.begins false) (i.waits false)) cut)
    ]
  ]
  leaves (p ∷ later) s k x others (l ∷ ls) c r last low to far cut steered = elim (kind p) [
    | inl i ↦ opened i (stretch_on p false false later (i.begins false) (i.waits false))
    | inr j ↦ elim j [
      | inl i ↦ ended i (stretch_on p false true later (i.begins false) (i.waits false))
      | inr i ↦ passed i (stretch_on p false false later (i.begins false) (i.waits false)) (λ d q e t. leaves later s (suc k) x others ls d r last (omega (arith, low)) q farther e t)
    ]
  ] where
    farther : Each (From (suc k + length later)) others
    farther = each_from_less (suc k + length later) (k + suc (length later)) (omega arith) others far

    here : ToldSlice
    here = record { stream = s; number = k; start = p; later = later; inside = Some x }

    rest : List ToldSlice
    rest = told_from s (suc k) (running_after p (Some x)) later

    closed : closes p ≡ true → first_rows (p ∷ later) (l ∷ ls) ≡ reverse l
    closed h = ap (λ (b : Bool). rows_by (take (suc (cond (not b) (1 + prefix_len (λ q. not (closes q)) later) 0)) (l ∷ ls))) h ∙ append-nil (reverse l)

    passed : IsInner p → same_stretch false (p ∷ later) ≡ p ∷ same_stretch false later
        → ((d : ℕ) → end ≡ suc k + length (same_stretch false later) → Cut false (same_stretch false later) ls → Steered d (same_stretch false later) ls finish → Leaves later ls d r (told_from s (suc k) (Some x) later ++ others))
        → Leaves (p ∷ later) (l ∷ ls) c r (told_from s k (Some x) (p ∷ later) ++ others)
    passed i e more =
        let size = ap (length {A = Packet}) e in
        let t : Steered c (p ∷ same_stretch false later) (l ∷ ls) finish = subst (λ (ps : List Packet). Steered c ps (l ∷ ls) finish) e steered in
        let k2 : Cut false (p ∷ same_stretch false later) (l ∷ ls) = subst (λ (ps : List Packet). Cut false ps (l ∷ ls)) e cut in
        let told : told_from s k (Some x) (p ∷ later) ≡ told_from s (suc k) (Some x) later = ap (λ (b : Bool). cond b (here ∷ rest) rest) i.start ∙ ap (λ (o : Option ℕ). told_from s (suc k) o later) (i.runs (Some x)) in
        let j = prefix_len (λ q. not (closes q)) later in
        let one : 1 + j ≡ suc j = omega arith in
        let rows : first_rows (p ∷ later) (l ∷ ls) ≡ reverse l ++ first_rows later ls = ap (λ (b : Bool). rows_by (take (suc (cond (not b) (1 + j) 0)) (l ∷ ls))) i.closes ∙ ap (λ (n : ℕ). rows_by (l ∷ take n ls)) one in
        let own = more t.0 (omega (arith, to, size)) (subst (λ (b : Bool). Cut b (same_stretch false later) ls) (i.waits false) k2.1) t.3 in
        let both = goes_append (reverse l) (first_rows later ls) c t.0 (leads_to r (head_of (mine (told_from s (suc k) (Some x) later ++ others)))) (leads_goes l c t.0 t.1) own in
        subst (λ (ts : List ToldSlice). Leaves (p ∷ later) (l ∷ ls) c r (ts ++ others)) (sym told) (subst (λ (xs : List StepRow). GoesFromTo xs c (leads_to r (head_of (mine (told_from s (suc k) (Some x) later ++ others))))) (sym rows) both)

    ended : IsEnd p → same_stretch false (p ∷ later) ≡ p ∷ same_stretch true later → Leaves (p ∷ later) (l ∷ ls) c r (told_from s k (Some x) (p ∷ later) ++ others)
    ended i e =
        let size = ap (length {A = Packet}) e in
        let short = stretch_short true later in
        let at : end ≡ suc k + length (same_stretch true later) = omega (arith, to, size) in
        let t : Steered c (p ∷ same_stretch true later) (l ∷ ls) finish = subst (λ (ps : List Packet). Steered c ps (l ∷ ls) finish) e steered in
        let k2 : Cut false (p ∷ same_stretch true later) (l ∷ ls) = subst (λ (ps : List Packet). Cut false ps (l ∷ ls)) e cut in
        let told : told_from s k (Some x) (p ∷ later) ≡ told_from s (suc k) None later = ap (λ (b : Bool). cond b (here ∷ rest) rest) i.start ∙ ap (λ (o : Option ℕ). told_from s (suc k) o later) (i.runs (Some x)) in
        let none = out w (told_from s (suc k) None later ++ others) (each_append (From end) (told_from s (suc k) None later) others (subst (λ (m : ℕ). Each (From m) (told_from s (suc k) None later)) (sym at) (after_stretch s (suc k) later)) (each_from_less end (suc k + length later) (omega (arith, at, short)) others farther)) in
        let stay = stays t.0 later ls (subst (λ (b : Bool). Cut b (same_stretch true later) ls) (i.waits false) k2.1) t.3 in
        let to_end : t.0 ≡ leads_to r (head_of (mine (told_from s (suc k) None later ++ others))) = stay ∙ nothing_else r (told_from s (suc k) None later ++ others) last none in
        let own : GoesFromTo (reverse l) c (leads_to r (head_of (mine (told_from s (suc k) None later ++ others)))) = subst (λ (b : ℕ). GoesFromTo (reverse l) c b) to_end (leads_goes l c t.0 t.1) in
        subst (λ (ts : List ToldSlice). Leaves (p ∷ later) (l ∷ ls) c r (ts ++ others)) (sym told) (subst (λ (xs : List StepRow). GoesFromTo xs c (leads_to r (head_of (mine (told_from s (suc k) None later ++ others))))) (sym (closed i.closes)) own)

    opened : IsOpen p → same_stretch false (p ∷ later) ≡ p ∷ same_stretch false later → Leaves (p ∷ later) (l ∷ ls) c r (told_from s k (Some x) (p ∷ later) ++ others)
    opened i e =
        let size = ap (length {A = Packet}) e in
        let t : Steered c (p ∷ same_stretch false later) (l ∷ ls) finish = subst (λ (ps : List Packet). Steered c ps (l ∷ ls) finish) e steered in
        let told : told_from s k (Some x) (p ∷ later) ≡ here ∷ rest = ap (λ (b : Bool). cond b (here ∷ rest) rest) i.start in
        let inside : filter (within w) (here ∷ rest ++ others) ≡ here ∷ filter (within w) (rest ++ others) = into w here (rest ++ others) low (omega (arith, to, size)) in
        let first : leads_to r (head_of (mine (here ∷ rest ++ others))) ≡ address_of p = ap (λ (us : List ToldSlice). leads_to r (head_of (map (ran_by code w) us))) inside in
        let own : GoesFromTo (reverse l) c (leads_to r (head_of (mine (here ∷ rest ++ others)))) = subst (λ (b : ℕ). GoesFromTo (reverse l) c b) (t.2 i.start ∙ sym first) (leads_goes l c t.0 t.1) in
        subst (λ (ts : List ToldSlice). Leaves (p ∷ later) (l ∷ ls) c r (ts ++ others)) (sym told) (subst (λ (xs : List StepRow). GoesFromTo xs c (leads_to r (head_of (mine (here ∷ rest ++ others))))) (sym (closed i.closes)) own)

  -- each slice of what is left of a stretch
  locals : (later : List Packet) (s k : ℕ) (inside : Option ℕ) (others : List ToldSlice) (ls : List (List StepRow)) (c : ℕ) → w.head.number ≤ k → end ≡ k + length (same_stretch false later) → Each (From (k + length later)) others → drop (k - w.head.number) (reverse w.legs) ≡ ls
      → Cut false (same_stretch false later) ls → Steered c (same_stretch false later) ls finish → Locals (mine (told_from s k inside later ++ others))
  locals [] s k inside others ls c low to far legs cut steered =
      let none = out w others (each_from_less end (k + 0) (omega (arith, to)) others far) in
      subst (λ (us : List ToldSlice). Locals (map (ran_by code w) us)) (sym none) tt
  locals (p ∷ later) s k inside others [] c low to far legs cut steered = elim (kind p) [
    | inl i ↦ absurd (subst (λ (ps : List Packet). Cut false ps []) (stretch_on p false false later (i.begins false) (i.waits false)) cut)
    | inr j ↦ elim j [
      | inl i ↦ absurd (subst (λ (ps : List Packet). Cut false ps []) (stretch_on p false true later (i.begins false) (i.waits false)) cut)
      | inr i ↦ absurd (subst (λ (ps : List Packet). Cut false ps []) (stretch_on p false false later (i.begins false) (i.waits false)) cut)
    ]
  ]
  locals (p ∷ later) s k inside others (l ∷ ls) c low to far legs cut steered = elim (kind p) [
    | inl i ↦ opened i (stretch_on p false false later (i.begins false) (i.waits false)) (λ d o q e t. locals later s (suc k) o others ls d (omega (arith, low)) q farther onward e t)
    | inr j ↦ elim j [
      | inl i ↦ ended i (stretch_on p false true later (i.begins false) (i.waits false))
      | inr i ↦ passed i (stretch_on p false false later (i.begins false) (i.waits false)) (λ d o q e t. locals later s (suc k) o others ls d (omega (arith, low)) q farther onward e t)
    ]
  ] where
    farther : Each (From (suc k + length later)) others
    farther = each_from_less (suc k + length later) (k + suc (length later)) (omega arith) others far

    onward : drop (suc k - w.head.number) (reverse w.legs) ≡ ls
    onward = ap (λ (j : ℕ). drop j (reverse w.legs)) (let q : suc k - w.head.number ≡ (k - w.head.number) + 1 = omega (arith, low) in q) ∙ sym (drop-drop 1 (k - w.head.number) (reverse w.legs)) ∙ ap (drop 1) legs

    here : ToldSlice
    here = record { stream = s; number = k; start = p; later = later; inside = inside }

    rest : List ToldSlice
    rest = told_from s (suc k) (running_after p inside) later

    passed : IsInner p → same_stretch false (p ∷ later) ≡ p ∷ same_stretch false later
        → ((d : ℕ) (o : Option ℕ) → end ≡ suc k + length (same_stretch false later) → Cut false (same_stretch false later) ls → Steered d (same_stretch false later) ls finish → Locals (mine (told_from s (suc k) o later ++ others)))
        → Locals (mine (told_from s k inside (p ∷ later) ++ others))
    passed i e more =
        let size = ap (length {A = Packet}) e in
        let t : Steered c (p ∷ same_stretch false later) (l ∷ ls) finish = subst (λ (ps : List Packet). Steered c ps (l ∷ ls) finish) e steered in
        let k2 : Cut false (p ∷ same_stretch false later) (l ∷ ls) = subst (λ (ps : List Packet). Cut false ps (l ∷ ls)) e cut in
        let told : told_from s k inside (p ∷ later) ≡ rest = ap (λ (b : Bool). cond b (here ∷ rest) rest) i.start in
        subst (λ (ts : List ToldSlice). Locals (mine (ts ++ others))) (sym told) (more t.0 (running_after p inside) (omega (arith, to, size)) (subst (λ (b : Bool). Cut b (same_stretch false later) ls) (i.waits false) k2.1) t.3)

    ended : IsEnd p → same_stretch false (p ∷ later) ≡ p ∷ same_stretch true later → Locals (mine (told_from s k inside (p ∷ later) ++ others))
    ended i e =
        let size = ap (length {A = Packet}) e in
        let short = stretch_short true later in
        let at : end ≡ suc k + length (same_stretch true later) = omega (arith, to, size) in
        let told : told_from s k inside (p ∷ later) ≡ told_from s (suc k) None later = ap (λ (b : Bool). cond b (here ∷ rest) rest) i.start ∙ ap (λ (o : Option ℕ). told_from s (suc k) o later) (i.runs inside) in
        let none = out w (told_from s (suc k) None later ++ others) (each_append (From end) (told_from s (suc k) None later) others (subst (λ (m : ℕ). Each (From m) (told_from s (suc k) None later)) (sym at) (after_stretch s (suc k) later)) (each_from_less end (suc k + length later) (omega (arith, at, short)) others farther)) in
        subst (λ (ts : List ToldSlice). Locals (mine (ts ++ others))) (sym told) (subst (λ (us : List ToldSlice). Locals (map (ran_by code w) us)) (sym none) tt)

    opened : IsOpen p → same_stretch false (p ∷ later) ≡ p ∷ same_stretch false later
        → ((d : ℕ) (o : Option ℕ) → end ≡ suc k + length (same_stretch false later) → Cut false (same_stretch false later) ls → Steered d (same_stretch false later) ls finish → Locals (mine (told_from s (suc k) o later ++ others)))
        → Locals (mine (told_from s k inside (p ∷ later) ++ others))
    opened i e more =
        let size = ap (length {A = Packet}) e in
        let t : Steered c (p ∷ same_stretch false later) (l ∷ ls) finish = subst (λ (ps : List Packet). Steered c ps (l ∷ ls) finish) e steered in
        let k2 : Cut false (p ∷ same_stretch false later) (l ∷ ls) = subst (λ (ps : List Packet). Cut false ps (l ∷ ls)) e cut in
        let k3 = subst (λ (b : Bool). Cut b (same_stretch false later) ls) (i.waits false) k2.1 in
        let told : told_from s k inside (p ∷ later) ≡ here ∷ told_from s (suc k) (Some (context_of p)) later = ap (λ (b : Bool). cond b (here ∷ rest) rest) i.start ∙ ap (λ (o : Option ℕ). here ∷ told_from s (suc k) o later) (i.runs inside) in
        let others_in = told_from s (suc k) (Some (context_of p)) later ++ others in
        let within_it : filter (within w) (here ∷ told_from s (suc k) (Some (context_of p)) later ++ others) ≡ here ∷ filter (within w) (told_from s (suc k) (Some (context_of p)) later ++ others) = into w here (told_from s (suc k) (Some (context_of p)) later ++ others) low (omega (arith, to, size)) in
        let next : drop (suc (k - w.head.number)) (reverse w.legs) ≡ ls = ap (λ (j : ℕ). drop j (reverse w.legs)) (let q : suc (k - w.head.number) ≡ (k - w.head.number) + 1 = omega arith in q) ∙ sym (drop-drop 1 (k - w.head.number) (reverse w.legs)) ∙ ap (drop 1) legs in
        let rows : rows_of w here ≡ first_rows later ls = ap (λ (xs : List (List StepRow)). rows_by (take (suc (inner here)) xs)) next in
        let own : GoesFromTo (first_rows later ls) (address_of p) (leads_to (ran_by code w here) (head_of (mine (told_from s (suc k) (Some (context_of p)) later ++ others)))) =
        leaves later s (suc k) (context_of p) others ls (address_of p) (ran_by code w here) refl (omega (arith, low)) (omega (arith, to, size)) farther k3 (subst (λ (a : ℕ). Steered a (same_stretch false later) ls finish) (t.2 i.start) t.3) in
        let first : GoesFromTo (rows_of w here) (address_of p) (leads_to (ran_by code w here) (head_of (mine (told_from s (suc k) (Some (context_of p)) later ++ others)))) = subst (λ (xs : List StepRow). GoesFromTo xs (address_of p) (leads_to (ran_by code w here) (head_of (mine (told_from s (suc k) (Some (context_of p)) later ++ others))))) (sym rows) own in
        let others_are = more t.0 (Some (context_of p)) (omega (arith, to, size)) k3 t.3 in
        subst (λ (ts : List ToldSlice). Locals (mine (ts ++ others))) (sym told) (subst (λ (us : List ToldSlice). Locals (map (ran_by code w) us)) (sym within_it) (first, others_are))

pub stretch_locals : (code : Code) (w : StretchLegs) (later : List Packet) (s k : ℕ) (inside : Option ℕ) (others : List ToldSlice) (ls : List (List StepRow)) (c : ℕ) → w.head.number ≤ k → w.head.number + length (stretch w.head) ≡ k + length (same_stretch false later) → Each (From (k + length later)) others → drop (k - w.head.number) (reverse w.legs) ≡ ls
    → Cut false (same_stretch false later) ls → Steered c (same_stretch false later) ls (last_place code w).at → Locals (map (ran_by code w) (filter (within w) (told_from s k inside later ++ others)))
stretch_locals code w later s k inside others ls c low to far legs cut steered = locals code w later s k inside others ls c low to far legs cut steered
