-- The rows of a stretch that was walked, cut into those of its slices.
use Rattle.std.proofs.Common.{◌≡◌, inl, inr, ℕ, suc, ◌+◌, ◌-◌, ◌<◌, ◌≤◌, nat_le, List, [], ◌∷◌, ◌++◌, length, map, reverse, take, drop, Bool, true, false, cond, not, ◌&&◌, Option, Some, None, refl, sym, ◌∙◌, ap, subst, arith, length-append}
use Rattle.std.specs.Prelude.{slice_get}
use Rattle.std.specs.List.{filter, prefix_len}
use Rattle.std.proofs.lemmas.Bool.Decides.{leb_tells}
use Rattle.std.proofs.lemmas.List.{drop-drop, take-append-drop, length-reverse}
use Rattle.std.proofs.lemmas.List.Sums.{sum_by-cons}
use Rattle.std.proofs.lemmas.Grind.{flat_map-append}
use Rattle.std.proofs.Math.Seq.{drop-append_seam, take-append_seam}
use Rattle.rept_isa.specs.declared.row.StepRow.{StepRow}
use Rattle.rept_trace.specs.declared.packet.Packet.{Packet}
use Rattle.rept_path.specs.Code.{Code}
use Rattle.rept_path.specs.Packets.{begins, bits, waits_after}
use Rattle.rept_path.specs.State.{here, Counts}
use Rattle.rept_streams.specs.Slices.Stamps.{is_start, closes, running_after}
use Rattle.rept_streams.specs.Slices.Parts.{ToldSlice, inner, told_from}
use Rattle.rept_streams.specs.Slices.Stretches.{same_stretch, stretch, StretchLegs, last_place, within, rows_of, RanSlice, ran_by}
use Rattle.rept_streams.specs.Slices.Joins.{ran_rows}
use Rattle.rept_streams.specs.Slices.Entries.{AreEntriesOf}
use Rattle.rept_streams.specs.Threads.Kept.{IsRan, AreRan, kept_by}
use Rattle.rept_streams.specs.Slices.Ends.{first_or}
use Rattle.rept_streams.specs.declared.slices.telling.StreamSlice.{StreamSlice}
use Rattle.rept_streams.specs.declared.threads.walks.FinishedWalk.{FinishedWalk}
use Rattle.rept_streams.proofs.SlicesLemmas.InTime.{Each}
use Rattle.rept_streams.proofs.SlicesLemmas.Calm.{each_append}
use Rattle.rept_streams.proofs.SlicesLemmas.Going.{same_off}
use Rattle.rept_streams.proofs.SlicesLemmas.Following.{From, each_from_less, told_from_on}
use Rattle.rept_streams.proofs.SlicesLemmas.Packs.{IsOpen, IsEnd, IsInner, kind, stretch_on, rows_by, rows_more, counts_from, Cut, first_rows, nothing_more, ends_at}

-- a stretch is no longer than its stream
pub stretch_short : (waits : Bool) (later : List Packet) → length (same_stretch waits later) ≤ length later
stretch_short waits [] = omega arith
stretch_short waits (p ∷ later) = go (begins p waits) (stretch_short (waits_after p waits) later) where
  rest : List Packet
  rest = same_stretch (waits_after p waits) later

  go : (b : Bool) → length rest ≤ length later → length (cond b [] (p ∷ rest)) ≤ suc (length later)
  go true h = omega arith
  go false h = omega (arith, h)

-- the slices that a stream tells after its trace ended begin after the stretch
pub after_stretch : (s k : ℕ) (later : List Packet) → Each (From (k + length (same_stretch true later))) (told_from s k None later)
after_stretch s k [] = tt
after_stretch s k (p ∷ later) = elim (kind p) [
  | inl o ↦
      let e = same_off true p later (o.begins true) in
      let n = ap (length {A = Packet}) e in
      each_from_less (k + length (same_stretch true (p ∷ later))) k (omega (arith, n)) (told_from s k None (p ∷ later)) (told_from_on s k None (p ∷ later))
  | inr i ↦ elim i [
    | inl x ↦ passed x.start (x.runs None) (stretch_on p true true later (x.begins true) (x.waits true)) (after_stretch s (suc k) later)
    | inr x ↦ passed x.start (x.runs None) (stretch_on p true true later (x.begins true) (x.waits true)) (after_stretch s (suc k) later)
  ]
] where
  passed : is_start p ≡ false → running_after p None ≡ None → same_stretch true (p ∷ later) ≡ p ∷ same_stretch true later → Each (From (suc k + length (same_stretch true later))) (told_from s (suc k) None later) → Each (From (k + length (same_stretch true (p ∷ later)))) (told_from s k None (p ∷ later))
  passed start runs e more =
      let n = ap (length {A = Packet}) e in
      let same : k + length (same_stretch true (p ∷ later)) ≡ suc k + length (same_stretch true later) = omega (arith, n) in
      let here : ToldSlice = record { stream = s; number = k; start = p; later = later; inside = None } in
      let told : told_from s k None (p ∷ later) ≡ told_from s (suc k) None later = ap (λ (b : Bool). cond b (here ∷ told_from s (suc k) (running_after p None) later) (told_from s (suc k) (running_after p None) later)) start ∙ ap (λ (o : Option ℕ). told_from s (suc k) o later) runs in
      subst (λ (ts : List ToldSlice). Each (From (k + length (same_stretch true (p ∷ later)))) ts) (sym told) (subst (λ (m : ℕ). Each (From m) (told_from s (suc k) None later)) (sym same) more)

-- rows of some of the legs
front_rows : (j : ℕ) (ls : List (List StepRow)) → take (length (rows_by (take j ls))) (rows_by ls) ≡ rows_by (take j ls)
front_rows j ls =
    let parts : rows_by ls ≡ rows_by (take j ls) ++ rows_by (drop j ls) = ap rows_by (sym (take-append-drop j ls)) ∙ flat_map-append reverse (take j ls) (drop j ls) in
    ap (take (length (rows_by (take j ls)))) parts ∙ take-append_seam (rows_by (take j ls)) (rows_by (drop j ls))

front_few : (j : ℕ) (ls : List (List StepRow)) → length (rows_by (take j ls)) ≤ length (rows_by ls)
front_few j ls =
    let parts : rows_by ls ≡ rows_by (take j ls) ++ rows_by (drop j ls) = ap rows_by (sym (take-append-drop j ls)) ∙ flat_map-append reverse (take j ls) (drop j ls) in
    let n = ap (length {A = StepRow}) parts in
    omega (arith, n, length-append (rows_by (take j ls)) (rows_by (drop j ls)))

module _ (code : Code) (w : StretchLegs) (all : List FinishedWalk) (number total : ℕ) (kept : FinishedWalk)
    (there : slice_get all number ≡ Some kept)
    (last : here kept.walk ≡ record { at = (last_place code w).at; rows = []; branches = (last_place code w).branches })
    (bits_are : kept.walk.bits.items ≡ bits code (reverse (stretch w.head))) (size_is : length kept.rows ≡ total) (empty : kept.walk.steps ≡ []) (counts : Counts kept.walk) where
  abbrev base : ℕ
  base = w.head.number

  abbrev end : ℕ
  end = w.head.number + length (stretch w.head)

  none_within : (ts : List ToldSlice) → Each (From end) ts → filter (within w) ts ≡ []
  none_within [] h = refl
  none_within (t ∷ ts) h = elim (leb_tells (suc t.number) end) [
    | inl x ↦ absurd (let lt = x.1 in let le = h.0 in omega (arith, lt, le))
    | inr x ↦ go (nat_le w.head.number t.number) x.0 (none_within ts h.1)
  ] where
    go : (b : Bool) → nat_le (suc t.number) end ≡ false → filter (within w) ts ≡ [] → cond (b && nat_le (suc t.number) end) (t ∷ filter (within w) ts) (filter (within w) ts) ≡ []
    go true e r = ap (λ (c : Bool). cond c (t ∷ filter (within w) ts) (filter (within w) ts)) e ∙ r
    go false e r = r

  some_within : (t : ToldSlice) (ts : List ToldSlice) → base ≤ t.number → t.number < end → filter (within w) (t ∷ ts) ≡ t ∷ filter (within w) ts
  some_within t ts low high = elim (leb_tells base t.number) [
    | inr x ↦ absurd (let lt = x.1 in omega (arith, lt, low))
    | inl x ↦ elim (leb_tells (suc t.number) end) [
      | inr y ↦ absurd (let le = y.1 in omega (arith, le, high))
      | inl y ↦ (λ i. cond (x.0 i && y.0 i) (t ∷ filter (within w) ts) (filter (within w) ts))
    ]
  ]

  -- What is left of a stretch: the packets and the legs from one of this number on, where so many
  -- rows stand before.
  pub record Left (k n : ℕ) (later : List Packet) (ls : List (List StepRow)) : Type 0 where
    pub low : base ≤ k
    pub legs : drop (k - base) (reverse w.legs) ≡ ls
    pub rows : drop n kept.rows ≡ rows_by ls
    pub sum : total ≡ n + length (rows_by ls)
    pub to : end ≡ k + length (same_stretch false later)
    pub cut : Cut false (same_stretch false later) ls

  -- the slices of it, as they are kept
  abbrev mine : List ToldSlice → List RanSlice
  mine ts = map (ran_by code w) (filter (within w) ts)

  abbrev Kepts : ℕ → List Packet → List (List StepRow) → List StreamSlice → List ToldSlice → Type 0
  Kepts n ps ls es ts = AreRan all (kept_by number total (counts_from n ps ls) es) (mine ts) × (first_or total (counts_from n ps ls) + ran_rows (mine ts) ≡ total)

  none_kept : (n : ℕ) (ps : List Packet) (ls : List (List StepRow)) (es : List StreamSlice) (ts : List ToldSlice) → counts_from n ps ls ≡ [] → filter (within w) ts ≡ [] → Kepts n ps ls es ts
  none_kept n ps ls es ts none nothing =
      subst (λ (ms : List ℕ). AreRan all (kept_by number total ms es) (mine ts) × (first_or total ms + ran_rows (mine ts) ≡ total)) (sym none)
      (ap (map (ran_by code w)) nothing, let e = ap (λ (us : List ToldSlice). ran_rows (map (ran_by code w) us)) nothing in omega (arith, e))

  next_left : (k n : ℕ) (p : Packet) (later : List Packet) (after : Bool) (l : List StepRow) (ls : List (List StepRow)) → same_stretch false (p ∷ later) ≡ p ∷ same_stretch after later → Left k n (p ∷ later) (l ∷ ls) → waits_after p false ≡ after → after ≡ false → Left (suc k) (n + length l) later ls
  next_left k n p later after l ls e h waits runs =
      let to = h.to in
      let low = h.low in
      let total_is = h.sum in
      let size = ap (length {A = Packet}) e in
      let same = ap (λ (b : Bool). length (same_stretch b later)) runs in
      let on : suc k - base ≡ (k - base) + 1 = omega (arith, low) in
      let m = rows_more l ls in
      let cut : Cut false (p ∷ same_stretch after later) (l ∷ ls) = subst (λ (ps : List Packet). Cut false ps (l ∷ ls)) e h.cut in
      let rows : drop (n + length l) kept.rows ≡ rows_by ls =
      sym (drop-drop (length l) n kept.rows) ∙ ap (drop (length l)) h.rows ∙ ap (λ (j : ℕ). drop j (reverse l ++ rows_by ls)) (sym (length-reverse l)) ∙ drop-append_seam (reverse l) (rows_by ls) in
      record {
        low = omega (arith, low);
        legs = ap (λ (j : ℕ). drop j (reverse w.legs)) on ∙ sym (drop-drop 1 (k - base) (reverse w.legs)) ∙ ap (drop 1) h.legs;
        rows = rows;
        sum = omega (arith, total_is, m);
        to = omega (arith, to, size, same);
        cut = subst (λ (b : Bool). Cut b (same_stretch b later) ls) runs (subst (λ (b : Bool). Cut b (same_stretch after later) ls) waits cut.1);
      }

  abbrev More : ℕ → ℕ → List Packet → List ToldSlice → Type 0
  More s k later others = (m : ℕ) (i : Option ℕ) (ks : List (List StepRow)) (fs : List StreamSlice) → Left (suc k) m later ks → Each (From (suc k + length later)) others → AreEntriesOf fs (told_from s (suc k) i later ++ others) → Kepts m (same_stretch false later) ks fs (told_from s (suc k) i later ++ others)

  abbrev Wanted : ℕ → List (List StepRow) → List StreamSlice → List ToldSlice → List Packet → List ToldSlice → Type 0
  Wanted n ls es others ps ts = Kepts n ps ls es (ts ++ others)

  pub kept_from : (later : List Packet) (s k n : ℕ) (inside : Option ℕ) (ls : List (List StepRow)) (es : List StreamSlice) (others : List ToldSlice) → Left k n later ls → Each (From (k + length later)) others → AreEntriesOf es (told_from s k inside later ++ others) → Kepts n (same_stretch false later) ls es (told_from s k inside later ++ others)
  kept_from [] s k n inside ls es others h o a =
      let to = h.to in
      none_kept n [] ls es others refl (none_within others (each_from_less end (k + 0) (omega (arith, to)) others o))
  kept_from (p ∷ later) s k n inside [] es others h o a = elim (kind p) [
    | inl i ↦ nothing false (stretch_on p false false later (i.begins false) (i.waits false))
    | inr j ↦ elim j [
      | inl i ↦ nothing true (stretch_on p false true later (i.begins false) (i.waits false))
      | inr i ↦ nothing false (stretch_on p false false later (i.begins false) (i.waits false))
    ]
  ] where
    nothing : (after : Bool) → same_stretch false (p ∷ later) ≡ p ∷ same_stretch after later → Kepts n (same_stretch false (p ∷ later)) [] es (told_from s k inside (p ∷ later) ++ others)
    nothing after e = absurd (subst (λ (ps : List Packet). Cut false ps []) e h.cut)
  kept_from (p ∷ later) s k n inside (l ∷ ls) es others h o a = elim (kind p) [
    | inl i ↦ opened i (stretch_on p false false later (i.begins false) (i.waits false)) (λ m x ks fs q r t. kept_from later s (suc k) m x ks fs others q r t)
    | inr j ↦ elim j [
      | inl i ↦ ended i (stretch_on p false true later (i.begins false) (i.waits false))
      | inr i ↦ passed i (stretch_on p false false later (i.begins false) (i.waits false)) (λ m x ks fs q r t. kept_from later s (suc k) m x ks fs others q r t)
    ]
  ] where
    here_told : ToldSlice
    here_told = record { stream = s; number = k; start = p; later = later; inside = inside }

    rest : List ToldSlice
    rest = told_from s (suc k) (running_after p inside) later

    far : Each (From (suc k + length later)) others
    far = each_from_less (suc k + length later) (k + suc (length later)) (omega arith) others o

    not_told : is_start p ≡ false → told_from s k inside (p ∷ later) ≡ rest
    not_told start = ap (λ (b : Bool). cond b (here_told ∷ rest) rest) start

    is_told : is_start p ≡ true → told_from s k inside (p ∷ later) ≡ here_told ∷ rest
    is_told start = ap (λ (b : Bool). cond b (here_told ∷ rest) rest) start

    uncounted : (after : Bool) → is_start p ≡ false → counts_from n (p ∷ same_stretch after later) (l ∷ ls) ≡ counts_from (n + length l) (same_stretch after later) ls
    uncounted after start = ap (λ (b : Bool). cond b ((n + length l) ∷ []) [] ++ counts_from (n + length l) (same_stretch after later) ls) start

    passed : IsInner p → same_stretch false (p ∷ later) ≡ p ∷ same_stretch false later → More s k later others → Kepts n (same_stretch false (p ∷ later)) (l ∷ ls) es (told_from s k inside (p ∷ later) ++ others)
    passed i e more =
        let told = not_told i.start in
        let r = more (n + length l) (running_after p inside) ls es (next_left k n p later false l ls e h (i.waits false) refl) far (subst (λ (ts : List ToldSlice). AreEntriesOf es (ts ++ others)) told a) in
        let here_kept : Wanted n (l ∷ ls) es others (p ∷ same_stretch false later) rest = subst (λ (ms : List ℕ). AreRan all (kept_by number total ms es) (mine (rest ++ others)) × (first_or total ms + ran_rows (mine (rest ++ others)) ≡ total)) (sym (uncounted false i.start)) r in
        subst (λ (ps : List Packet). Wanted n (l ∷ ls) es others ps (told_from s k inside (p ∷ later))) (sym e) (subst (λ (ts : List ToldSlice). Wanted n (l ∷ ls) es others (p ∷ same_stretch false later) ts) (sym told) here_kept)

    ended : IsEnd p → same_stretch false (p ∷ later) ≡ p ∷ same_stretch true later → Kepts n (same_stretch false (p ∷ later)) (l ∷ ls) es (told_from s k inside (p ∷ later) ++ others)
    ended i e =
        let told : told_from s k inside (p ∷ later) ≡ told_from s (suc k) None later = not_told i.start ∙ ap (λ (x : Option ℕ). told_from s (suc k) x later) (i.runs inside) in
        let to = h.to in
        let size = ap (length {A = Packet}) e in
        let short = stretch_short true later in
        let at : end ≡ suc k + length (same_stretch true later) = omega (arith, to, size) in
        let none : filter (within w) (told_from s (suc k) None later ++ others) ≡ [] =
        none_within (told_from s (suc k) None later ++ others) (each_append (From end) (told_from s (suc k) None later) others (subst (λ (m : ℕ). Each (From m) (told_from s (suc k) None later)) (sym at) (after_stretch s (suc k) later)) (each_from_less end (suc k + length later) (omega (arith, at, short)) others far)) in
        let cut : Cut false (p ∷ same_stretch true later) (l ∷ ls) = subst (λ (ps : List Packet). Cut false ps (l ∷ ls)) e h.cut in
        let more = nothing_more (n + length l) later ls (subst (λ (b : Bool). Cut b (same_stretch true later) ls) (i.waits false) cut.1) in
        let here_kept : Wanted n (l ∷ ls) es others (p ∷ same_stretch true later) (told_from s (suc k) None later) = none_kept n (p ∷ same_stretch true later) (l ∷ ls) es (told_from s (suc k) None later ++ others) (uncounted true i.start ∙ more.0) none in
        subst (λ (ps : List Packet). Wanted n (l ∷ ls) es others ps (told_from s k inside (p ∷ later))) (sym e) (subst (λ (ts : List ToldSlice). Wanted n (l ∷ ls) es others (p ∷ same_stretch true later) ts) (sym told) here_kept)

    opened : IsOpen p → same_stretch false (p ∷ later) ≡ p ∷ same_stretch false later → More s k later others → Kepts n (same_stretch false (p ∷ later)) (l ∷ ls) es (told_from s k inside (p ∷ later) ++ others)
    opened i e more =
        let told = is_told i.start in
        let counted : counts_from n (p ∷ same_stretch false later) (l ∷ ls) ≡ (n + length l) ∷ counts_from (n + length l) (same_stretch false later) ls = ap (λ (b : Bool). cond b ((n + length l) ∷ []) [] ++ counts_from (n + length l) (same_stretch false later) ls) i.start in
        let on = next_left k n p later false l ls e h (i.waits false) refl in
        let first = go es (subst (λ (ts : List ToldSlice). AreEntriesOf es (ts ++ others)) told a) e on more in
        let here_kept : Wanted n (l ∷ ls) es others (p ∷ same_stretch false later) (here_told ∷ rest) = subst (λ (ms : List ℕ). AreRan all (kept_by number total ms es) (mine (here_told ∷ rest ++ others)) × (first_or total ms + ran_rows (mine (here_told ∷ rest ++ others)) ≡ total)) (sym counted) first in
        subst (λ (ps : List Packet). Wanted n (l ∷ ls) es others ps (told_from s k inside (p ∷ later))) (sym e) (subst (λ (ts : List ToldSlice). Wanted n (l ∷ ls) es others (p ∷ same_stretch false later) ts) (sym told) here_kept)
      where
        m : ℕ
        m = n + length l

        ms : List ℕ
        ms = counts_from (n + length l) (same_stretch false later) ls

        go : (es : List StreamSlice) → AreEntriesOf es (here_told ∷ rest ++ others) → same_stretch false (p ∷ later) ≡ p ∷ same_stretch false later → Left (suc k) (n + length l) later ls → More s k later others
            → AreRan all (kept_by number total ((n + length l) ∷ counts_from (n + length l) (same_stretch false later) ls) es) (mine (here_told ∷ rest ++ others)) × (n + length l + ran_rows (mine (here_told ∷ rest ++ others)) ≡ total)
        go [] b e on more = absurd (cc)
        go (f ∷ fs) b e on more =
            let r = more (n + length l) (running_after p inside) ls fs on far b.1 in
            let to = h.to in
            let low = h.low in
            let size = ap (length {A = Packet}) e in
            let inside_it : filter (within w) (here_told ∷ rest ++ others) ≡ here_told ∷ filter (within w) (rest ++ others) = some_within here_told (rest ++ others) low (omega (arith, to, size)) in
            let legs : drop (suc (k - base)) (reverse w.legs) ≡ ls = ap (λ (j : ℕ). drop j (reverse w.legs)) (let q : suc (k - base) ≡ (k - base) + 1 = omega arith in q) ∙ sym (drop-drop 1 (k - base) (reverse w.legs)) ∙ ap (drop 1) h.legs in
            let own : rows_of w here_told ≡ first_rows later ls = ap (λ (xs : List (List StepRow)). rows_by (take (suc (inner here_told)) xs)) legs in
            let total_is = on.sum in
            let at = ends_at (n + length l) later ls on.cut in
            let up : first_or total (counts_from (n + length l) (same_stretch false later) ls) ≡ first_or (n + length l + length (rows_by ls)) (counts_from (n + length l) (same_stretch false later) ls) = ap (λ (t : ℕ). first_or t (counts_from (n + length l) (same_stretch false later) ls)) total_is in
            let own_fits = front_few (suc (prefix_len (λ q. not (closes q)) later)) ls in
            let count_is : first_or total (counts_from (n + length l) (same_stretch false later) ls) - (n + length l) ≡ length (first_rows later ls) = omega (arith, at, up) in
            let own_size = ap (length {A = StepRow}) own in
            let rows : take (first_or total (counts_from (n + length l) (same_stretch false later) ls) - (n + length l)) (drop (n + length l) kept.rows) ≡ rows_of w here_told =
            ap (λ (j : ℕ). take j (drop (n + length l) kept.rows)) count_is ∙ ap (take (length (first_rows later ls))) on.rows ∙ front_rows (suc (prefix_len (λ q. not (closes q)) later)) ls ∙ sym own in
            let is : IsRan all (record { slice = f; stretch = number; first = n + length l; count = first_or total (counts_from (n + length l) (same_stretch false later) ls) - (n + length l) }) (ran_by code w here_told) = record {
              told = b.0;
              stretch = kept;
              there = there;
              rows = rows;
              whole = omega (arith, count_is, own_size);
              fits = omega (arith, count_is, own_fits, total_is, size_is);
              last = last;
              bits = bits_are;
              empty = empty;
              counts = counts;
            } in
            let sums = sum_by-cons (λ (x : RanSlice). length x.rows) (ran_by code w here_told) (mine (rest ++ others)) in
            let rest_sum = r.1 in
            subst (λ (ts : List ToldSlice). AreRan all (kept_by number total ((n + length l) ∷ counts_from (n + length l) (same_stretch false later) ls) (f ∷ fs)) (map (ran_by code w) ts) × (n + length l + ran_rows (map (ran_by code w) ts) ≡ total)) (sym inside_it)
            ((is, r.0), omega (arith, sums, rest_sum, at, up, own_size))
