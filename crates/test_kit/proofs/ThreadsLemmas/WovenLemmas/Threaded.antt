-- The stretches of each thread, joined one to the next, are its rows and slices.
use Rattle.std.proofs.Common.{◌≡◌, inl, inr, ℕ, suc, ◌+◌, ◌-◌, ◌<◌, ◌≤◌, ◌^◌, ◌==◌, nat_le, List, [], ◌∷◌, ◌++◌, length, map, Bool, true, false, cond, ◌||◌, Option, Some, None, Result, Ok, refl, sym, ◌∙◌, ap, subst, arith, append-nil, length-append}
use Rattle.std.specs.Prelude.{slice_get, is_none, option_map}
use Rattle.std.specs.List.{AllZip, filter, flat_map, list_any, sum_by}
use Rattle.std.proofs.lemmas.Bool.Decides.{leb_tells, eqb_tells}
use Rattle.std.proofs.lemmas.List.Sums.{sum_by-cons}
use Rattle.rept_isa.specs.declared.row.StepRow.{StepRow}
use Rattle.rept_steps.specs.Course.{BeginsFrom, first_slice, KeepTime}
use Rattle.rept_steps.specs.Linked.{AreLinked, EndBefore}
use Rattle.rept_steps.specs.declared.slice.Slice.{Slice}
use Rattle.rept_steps.specs.declared.threads.ThreadRows.{ThreadRows}
use Rattle.rept_path.specs.Code.{Code}
use Rattle.rept_path.specs.declared.fault.PathFault.{PathFault}
use Rattle.rept_path.specs.declared.fault.PathFault.TheVariants.{Gap, End}
use Rattle.rept_path.specs.Gap.{gap, gap_to_start}
use Rattle.rept_path.specs.Moves.{◌>>=◌}
use Rattle.rept_streams.specs.Slices.Stamps.{address_of}
use Rattle.rept_streams.specs.Slices.Parts.{ToldSlice, thread_of, begin_of, beyond, first_time, lesser, never, end_before}
use Rattle.rept_streams.specs.Slices.Order.{put, by_time, head_of}
use Rattle.rept_streams.specs.Slices.Stretches.{RanSlice}
use Rattle.rept_streams.specs.Slices.Joins.{ThreadNote, ThreadGround, JoinedSlice, stand_at, bridge, with_rows, join, slice_by, slices, thread, of_thread, thread_ground, rows_in, ran_rows, threads}
use Rattle.rept_streams.proofs.SlicesLemmas.InTime.{Each, each_by_time, each_filter}
use Rattle.test_kit.specs.Threads.Woven.Ordered.{Piece, slices_from, thread_of as rows_of, of_thread as pieces_of, IsThreadJoined, IsNoted}
use Rattle.test_kit.specs.Threads.Woven.Ordered as ordered
use Rattle.test_kit.proofs.ThreadsLemmas.WovenLemmas.Zipped.{zip_filter, zip_by_time, zip_each}
use Rattle.test_kit.proofs.ThreadsLemmas.WovenLemmas.Ways.{IsRanOf, walked_rows, rows_before}

-- rows that are linked
next_linked : (xs : List StepRow) (last y : StepRow) (ys : List StepRow) → AreLinked ((xs ++ last ∷ []) ++ y ∷ ys) → y.at ≡ last.next
next_linked [] last y ys h = h.0
next_linked (x ∷ xs) last y ys h = next_linked xs last y ys h.1

linked_after : (xs ys : List StepRow) → AreLinked (xs ++ ys) → AreLinked ys
linked_after [] ys h = h
linked_after (x ∷ xs) ys h = linked_after xs ys h.1

ends_next : (x : StepRow) (rows : List StepRow) (a : ℕ) → 0 < length rows → EndBefore (x ∷ rows) a → EndBefore rows a
ends_next x [] a some h = absurd (omega (arith, some))
ends_next x (y ∷ rows) a some h = h

last_ends : (xs : List StepRow) (last : StepRow) (a : ℕ) → EndBefore (xs ++ last ∷ []) a → last.next ≡ a
last_ends [] last a h = h
last_ends (x ∷ xs) last a h = last_ends xs last a (ends_next x (xs ++ last ∷ []) a (let n = length-append xs (last ∷ []) in omega (arith, n)) h)

ends_after : (xs ys : List StepRow) (a : ℕ) → 0 < length ys → EndBefore (xs ++ ys) a → EndBefore ys a
ends_after [] ys a some h = h
ends_after (x ∷ xs) ys a some h = ends_after xs ys a some (ends_next x (xs ++ ys) a (let n = length-append xs ys in omega (arith, n, some)) h)

first_of_rows : (rows : List StepRow) (first : StepRow) → slice_get rows 0 ≡ Some first → (others : List StepRow) × (rows ≡ first ∷ others)
first_of_rows [] first h = absurd (cc)
first_of_rows (r ∷ rows) first h = (rows, (let e : r ≡ first = cc in ap (λ (x : StepRow). x ∷ rows) e))

-- the steps of stretches
abbrev steps : List Piece → List StepRow
steps ps = flat_map (λ (p : Piece). p.stretch.steps) ps

-- A slice that was joined has the rows of its stretch.
pub record IsJoinedOf (p : Piece) (j : JoinedSlice) : Type 0 where
  pub stream : j.told.stream ≡ p.hart
  pub begin : begin_of j.told ≡ p.stretch.begin
  pub end : first_time (beyond j.told) ≡ Some p.stretch.end
  pub fits : p.stretch.end < 2 ^ 64
  pub rows : j.rows ≡ p.stretch.steps

joined_steps : (ps : List Piece) (js : List JoinedSlice) → AllZip IsJoinedOf ps js → flat_map (λ (j : JoinedSlice). j.rows) js ≡ flat_map (λ (p : Piece). p.stretch.steps) ps
joined_steps [] [] h = refl
joined_steps [] (j ∷ js) h = absurd h
joined_steps (p ∷ ps) [] h = absurd h
joined_steps (p ∷ ps) (j ∷ js) h = let r = joined_steps ps js h.1 in λ i. (h.0).rows i ++ r i

-- the end of a slice, where the next one of its thread begins no earlier
lesser_is : (a b : ℕ) → a ≤ b → cond (nat_le b a) b a ≡ a
lesser_is a b le = elim (leb_tells b a) [
  | inl t ↦ (let ge = t.1 in let same : b ≡ a = omega (arith, le, ge) in ap (λ (c : Bool). cond c b a) t.0 ∙ same)
  | inr t ↦ ap (λ (c : Bool). cond c b a) t.0
]

own_end : (t : ToldSlice) (end : ℕ) (next : Option ℕ) → first_time (beyond t) ≡ Some end → end < 2 ^ 64 → ((b : ℕ) → next ≡ Some b → end ≤ b) → end_before t next ≡ end
own_end t end None is fits late = ap (λ (o : Option ℕ). lesser never o) is ∙ lesser_is end never (omega (arith, fits))
own_end t end (Some b) is fits late =
    ap (λ (o : Option ℕ). lesser (lesser never o) (Some b)) is
    ∙ ap (λ (n : ℕ). lesser n (Some b)) (lesser_is end never (omega (arith, fits)))
    ∙ (let le = late b refl in elim (leb_tells end b) [ inl t ↦ ap (λ (c : Bool). cond c end b) t.0 | inr t ↦ absurd (let lt = t.1 in omega (arith, lt, le)) ])

joined_slices : (first : ℕ) (ps : List Piece) (js : List JoinedSlice) → AllZip IsJoinedOf ps js → KeepTime (slices_from first ps) → slices first js ≡ slices_from first ps
joined_slices first [] [] h keep = refl
joined_slices first [] (j ∷ js) h keep = absurd h
joined_slices first (p ∷ ps) [] h keep = absurd h
joined_slices first (p ∷ ps) (j ∷ js) h keep =
    let x = h.0 in
    let count = ap (length {A = StepRow}) x.rows in
    let rest = joined_slices (first + length p.stretch.steps) ps js h.1 keep.2 in
    let end : end_before j.told (option_map (λ (n : JoinedSlice). begin_of n.told) (head_of js)) ≡ p.stretch.end = own_end j.told p.stretch.end (option_map (λ (n : JoinedSlice). begin_of n.told) (head_of js)) x.end x.fits (later ps js h.1 keep.1) in
    let here : slice_by j (head_of js) first ≡ ordered.slice_of first p = λ i. record { stream = x.stream i; begin = x.begin i; end = end i; first = first; count = count i } in
    let first_is : slices first (j ∷ js) ≡ ordered.slice_of first p ∷ slices (first + length p.stretch.steps) js = λ i. here i ∷ slices (first + count i) js in
    first_is ∙ ap (λ (ss : List Slice). ordered.slice_of first p ∷ ss) rest
  where
    later : (qs : List Piece) (ks : List JoinedSlice) → AllZip IsJoinedOf qs ks → BeginsFrom p.stretch.end (first_slice (slices_from (first + length p.stretch.steps) qs)) → (b : ℕ) → option_map (λ (n : JoinedSlice). begin_of n.told) (head_of ks) ≡ Some b → p.stretch.end ≤ b
    later [] [] z k b e = absurd (cc)
    later [] (m ∷ ks) z k b e = absurd z
    later (q ∷ qs) [] z k b e = absurd z
    later (q ∷ qs) (m ∷ ks) z k b e = let begin = (z.0).begin in let same : begin_of m.told ≡ b = cc in omega (arith, begin, same, k)

abbrev pub HasSteps : Piece → Type 0
HasSteps p = 0 < length p.stretch.steps

all_steps : (ps : List Piece) → Each HasSteps ps → length (flat_map (λ (p : Piece). p.stretch.steps) ps) ≡ rows_before ps + length ps
all_steps [] h = refl
all_steps (p ∷ ps) h =
    let r = all_steps ps h.1 in
    let some = h.0 in
    omega (arith, r, some, length-append p.stretch.steps (flat_map (λ (q : Piece). q.stretch.steps) ps))

-- how many stretches the threads of notes have
abbrev pub counted : List Piece → List ThreadNote → ℕ
counted ps [] = 0
counted ps (n ∷ notes) = length (pieces_of n.process ps) + counted ps notes

module _ (code : Code) where
  has_steps : (p : Piece) (r : RanSlice) → IsRanOf code p r → HasSteps p
  has_steps p r i = let n = ap (length {A = StepRow}) i.rows in omega (arith, n, length-append r.rows (i.last ∷ []))

  pub all_have_steps : (ps : List Piece) (rs : List RanSlice) → AllZip (IsRanOf code) ps rs → Each HasSteps ps
  all_have_steps ps rs h = zip_each (IsRanOf code) HasSteps has_steps ps rs h

  pub ran_are : (ps : List Piece) (rs : List RanSlice) → AllZip (IsRanOf code) ps rs → ran_rows rs ≡ rows_before ps
  ran_are [] [] h = refl
  ran_are [] (r ∷ rs) h = absurd h
  ran_are (p ∷ ps) [] h = absurd h
  ran_are (p ∷ ps) (r ∷ rs) h =
      let x = h.0 in
      let n = ap (length {A = StepRow}) x.rows in
      let rest = ran_are ps rs h.1 in
      let s = sum_by-cons (λ (q : RanSlice). length q.rows) r rs in
      omega (arith, n, rest, s, length-append r.rows (x.last ∷ []))

  -- a thread's slices in order
  pub in_order : (process : ℕ) (ps : List Piece) (rs : List RanSlice) → AllZip (IsRanOf code) ps rs → AllZip (IsRanOf code) (pieces_of process ps) (of_thread process rs)
  in_order process ps rs h =
      zip_by_time (IsRanOf code) ordered.begin_of (λ (r : RanSlice). begin_of r.told) (λ p r i. sym i.begin) (filter (λ p. p.stretch.process == process) ps) (filter (λ (r : RanSlice). thread_of r.told == process) rs)
      (zip_filter (IsRanOf code) (λ p. p.stretch.process == process) (λ (r : RanSlice). thread_of r.told == process) (λ p r i. ap (λ (n : ℕ). n == process) (sym i.thread)) ps rs h)

  -- What is left of a thread was joined.
  pub record Joins (e : ThreadGround) (count : ℕ) (ps : List Piece) (rs : List RanSlice) : Type 0 where
    pub js : List JoinedSlice
    pub is : join e count rs ≡ Ok js
    pub zip : AllZip IsJoinedOf ps js
    pub rows : rows_in js ≡ rows_before ps + length ps

  module _ (e : ThreadGround) (same : e.code ≡ code) where
    bridged : (count : ℕ) (p : Piece) (r : RanSlice) (ps : List Piece) (rs : List RanSlice) (i : IsRanOf code p r) → AllZip (IsRanOf code) ps rs → count < 65536 → AreLinked (p.stretch.steps ++ steps ps) → EndBefore (p.stretch.steps ++ steps ps) e.pc → bridge e count r (head_of rs) ≡ Ok (i.last ∷ [])
    bridged count p r [] [] i h few linked ends =
        let at : i.last.next ≡ e.pc = last_ends r.rows i.last e.pc (subst (λ (xs : List StepRow). EndBefore xs e.pc) (append-nil p.stretch.steps ∙ i.rows) ends) in
        ap (λ (c : Code). gap c (stand_at e.packets r count) (record { address = e.pc; otherwise = End r.last.at e.pc })) same
        ∙ ap (λ (a : ℕ). gap code (stand_at e.packets r count) (record { address = a; otherwise = End r.last.at e.pc })) (sym at)
        ∙ i.cross e.packets count (End r.last.at e.pc) few
    bridged count p r [] (q ∷ rs) i h few linked ends = absurd h
    bridged count p r (q ∷ ps) [] i h few linked ends = absurd h
    bridged count p r (q ∷ ps) (n ∷ rs) i h few linked ends =
        let x = h.0 in
        let f = first_of_rows q.stretch.steps x.first x.begins in
        let all : p.stretch.steps ++ (q.stretch.steps ++ steps ps) ≡ (r.rows ++ i.last ∷ []) ++ x.first ∷ (f.0 ++ steps ps) = λ k. i.rows k ++ (f.1 k ++ steps ps) in
        let at : x.first.at ≡ i.last.next = next_linked r.rows i.last x.first (f.0 ++ steps ps) (subst AreLinked all linked) in
        let to : address_of n.told.start ≡ i.last.next = x.starts ∙ at in
        let k : ℕ = n.told.number in
        let a : ℕ = address_of n.told.start in
        ap (λ (o : Option ℕ). cond (is_none o) (gap_to_start e.code (stand_at n.told.number r count) (address_of n.told.start)) (Ok [])) x.waits
        ∙ ap (λ (c : Code). gap c (stand_at n.told.number r count) (record { address = address_of n.told.start; otherwise = Gap n.told.number r.last.at (address_of n.told.start) })) same
        ∙ ap (λ (b : ℕ). gap code (stand_at n.told.number r count) (record { address = b; otherwise = Gap n.told.number r.last.at (address_of n.told.start) })) to
        ∙ i.cross n.told.number count (Gap n.told.number r.last.at (address_of n.told.start)) few

    pub joins : (count : ℕ) (ps : List Piece) (rs : List RanSlice) → AllZip (IsRanOf code) ps rs → count + length ps ≤ 65536 → AreLinked (steps ps) → EndBefore (steps ps) e.pc → Joins e count ps rs
    joins count [] [] h few linked ends = record { js = []; is = refl; zip = tt; rows = refl }
    joins count [] (r ∷ rs) h few linked ends = absurd h
    joins count (p ∷ ps) [] h few linked ends = absurd h
    joins count (p ∷ ps) (r ∷ rs) h few linked ends =
        let i = h.0 in
        let b = bridged count p r ps rs i h.1 (omega (arith, few)) linked ends in
        let rest = joins (count + 1) ps rs h.1 (omega (arith, few)) (linked_after p.stretch.steps (steps ps) linked) (left ps rs h.1 ends) in
        let j : JoinedSlice = with_rows r (i.last ∷ []) in
        let own : IsJoinedOf p j = record { stream = i.stream; begin = i.begin; end = i.end; fits = i.fits; rows = sym i.rows } in
        let n = ap (length {A = StepRow}) i.rows in
        let s = sum_by-cons (λ (x : JoinedSlice). length x.rows) j rest.js in
        let size = rest.rows in
        record {
          js = j ∷ rest.js;
          is = ap (λ (more : Result (List StepRow) PathFault). more >>= (λ (xs : List StepRow). join e (count + length xs) rs >>= (λ (others : List JoinedSlice). Ok (with_rows r xs ∷ others)))) b
              ∙ ap (λ (others : Result (List JoinedSlice) PathFault). others >>= (λ (os : List JoinedSlice). Ok (with_rows r (i.last ∷ []) ∷ os))) rest.is;
          zip = (own, rest.zip);
          rows = omega (arith, n, s, size, length-append r.rows (i.last ∷ []));
        }
      where
        left : (qs : List Piece) (ns : List RanSlice) → AllZip (IsRanOf code) qs ns → EndBefore (p.stretch.steps ++ steps qs) e.pc → EndBefore (steps qs) e.pc
        left [] ns z k = tt
        left (q ∷ qs) [] z k = absurd z
        left (q ∷ qs) (m ∷ ns) z k = ends_after p.stretch.steps (q.stretch.steps ++ steps qs) e.pc (let some = has_steps q m z.0 in omega (arith, some, length-append q.stretch.steps (steps qs))) k

  pub all_threads : (packets count : ℕ) (notes : List ThreadNote) (ps : List Piece) (rs : List RanSlice) → AllZip (IsRanOf code) ps rs → count + counted ps notes ≤ 65536 → Each (λ (n : ThreadNote). IsThreadJoined (rows_of (pieces_of n.process ps)) n.pc) notes
      → threads (record { code = code; packets = packets }) count notes rs ≡ Ok (map (λ (n : ThreadNote). rows_of (pieces_of n.process ps)) notes)
  all_threads packets count [] ps rs h few each = refl
  all_threads packets count (n ∷ notes) ps rs h few each =
      let zip = in_order n.process ps rs h in
      let qs : List Piece = pieces_of n.process ps in
      let x = each.0 in
      let own = joins (thread_ground code packets n) refl count (pieces_of n.process ps) (of_thread n.process rs) zip (omega (arith, few)) x.linked x.ends in
      let before = ran_are (pieces_of n.process ps) (of_thread n.process rs) zip in
      let size = own.rows in
      let more : rows_in own.js - ran_rows (of_thread n.process rs) ≡ length (pieces_of n.process ps) = omega (arith, before, size) in
      let rest = all_threads packets (count + (rows_in own.js - ran_rows (of_thread n.process rs))) notes ps rs h (omega (arith, few, more)) each.1 in
      let steps_are = joined_steps (pieces_of n.process ps) own.js own.zip in
      let slices_are = joined_slices 0 (pieces_of n.process ps) own.js own.zip x.in_time in
      let thread_is : thread own.js ≡ rows_of (pieces_of n.process ps) = λ i. record { steps = steps_are i; slices = slices_are i } in
      ap (λ (js : Result (List JoinedSlice) PathFault). js >>= (λ (ks : List JoinedSlice). threads (record { code = code; packets = packets }) (count + (rows_in ks - ran_rows (of_thread n.process rs))) notes rs >>= (λ (others : List ThreadRows). Ok (thread ks ∷ others)))) own.is
      ∙ ap (λ (others : Result (List ThreadRows) PathFault). others >>= (λ (os : List ThreadRows). Ok (thread own.js ∷ os))) rest
      ∙ ap (λ (t : ThreadRows). Ok (t ∷ map (λ (m : ThreadNote). rows_of (pieces_of m.process ps)) notes)) thread_is

-- how many rows all stretches have, thread by thread
put_rows : (p : Piece) (ps : List Piece) → (rows_before (put ordered.begin_of p ps) ≡ walked_rows p + rows_before ps) × (length (put ordered.begin_of p ps) ≡ suc (length ps))
put_rows p [] = (refl, refl)
put_rows p (q ∷ ps) = go (nat_le (ordered.begin_of p) (ordered.begin_of q)) (put_rows p ps) where
  go : (b : Bool) → (rows_before (put ordered.begin_of p ps) ≡ walked_rows p + rows_before ps) × (length (put ordered.begin_of p ps) ≡ suc (length ps))
      → (rows_before (cond b (p ∷ q ∷ ps) (q ∷ put ordered.begin_of p ps)) ≡ walked_rows p + (walked_rows q + rows_before ps)) × (length (cond b (p ∷ q ∷ ps) (q ∷ put ordered.begin_of p ps)) ≡ suc (suc (length ps)))
  go true h = (refl, refl)
  go false h = let a = h.0 in let b = h.1 in (omega (arith, a), omega (arith, b))

sorted_rows : (ps : List Piece) → rows_before (by_time ordered.begin_of ps) ≡ rows_before ps
sorted_rows [] = refl
sorted_rows (p ∷ ps) = let a = (put_rows p (by_time ordered.begin_of ps)).0 in let r = sorted_rows ps in omega (arith, a, r)

-- rows of the threads of notes
abbrev thread_rows : List Piece → List ThreadNote → ℕ
thread_rows ps [] = 0
thread_rows ps (n ∷ notes) = rows_before (filter (λ p. p.stretch.process == n.process) ps) + thread_rows ps notes

-- one stretch more: the threads of its process have its rows too
one_more : (p : Piece) (ps : List Piece) (notes : List ThreadNote) → thread_rows ps notes ≤ thread_rows (p ∷ ps) notes
one_more p ps [] = omega arith
one_more p ps (n ∷ notes) = go (p.stretch.process == n.process) (one_more p ps notes) where
  go : (b : Bool) → thread_rows ps notes ≤ thread_rows (p ∷ ps) notes → rows_before (filter (λ q. q.stretch.process == n.process) ps) + thread_rows ps notes ≤ rows_before (cond b (p ∷ filter (λ q. q.stretch.process == n.process) ps) (filter (λ q. q.stretch.process == n.process) ps)) + thread_rows (p ∷ ps) notes
  go true r = omega (arith, r)
  go false r = omega (arith, r)

own_more : (p : Piece) (ps : List Piece) (notes : List ThreadNote) → list_any (λ (n : ThreadNote). n.process == p.stretch.process) notes ≡ true → walked_rows p + thread_rows ps notes ≤ thread_rows (p ∷ ps) notes
own_more p ps [] h = absurd (cc)
own_more p ps (n ∷ notes) h = go (n.process == p.stretch.process) (p.stretch.process == n.process) (same n.process p.stretch.process) h (own_more p ps notes) (one_more p ps notes) where
  same : (a b : ℕ) → (a == b) ≡ (b == a)
  same a b = elim (eqb_tells a b) [
    | inl x ↦ elim (eqb_tells b a) [ inl y ↦ x.0 ∙ sym y.0 | inr y ↦ absurd (y.1 (sym x.1)) ]
    | inr x ↦ elim (eqb_tells b a) [ inl y ↦ absurd (x.1 (sym y.1)) | inr y ↦ x.0 ∙ sym y.0 ]
  ]

  go : (b c : Bool) → b ≡ c → (b || list_any (λ (m : ThreadNote). m.process == p.stretch.process) notes) ≡ true → (list_any (λ (m : ThreadNote). m.process == p.stretch.process) notes ≡ true → walked_rows p + thread_rows ps notes ≤ thread_rows (p ∷ ps) notes) → thread_rows ps notes ≤ thread_rows (p ∷ ps) notes
      → walked_rows p + (rows_before (filter (λ q. q.stretch.process == n.process) ps) + thread_rows ps notes) ≤ rows_before (cond c (p ∷ filter (λ q. q.stretch.process == n.process) ps) (filter (λ q. q.stretch.process == n.process) ps)) + thread_rows (p ∷ ps) notes
  go true true e k more less = omega (arith, less)
  go true false e k more less = absurd (cc)
  go false true e k more less = absurd (cc)
  go false false e k more less = let m = more k in omega (arith, m)

all_noted : (ps : List Piece) (notes : List ThreadNote) → Each (IsNoted notes) ps → rows_before ps ≤ thread_rows ps notes
all_noted [] notes h = omega arith
all_noted (p ∷ ps) notes h = let a = all_noted ps notes h.1 in let b = own_more p ps notes h.0 in omega (arith, a, b)

abbrev run_rows : List Piece → List ThreadNote → ℕ
run_rows ps notes = sum_by (λ (n : ThreadNote). length (rows_of (pieces_of n.process ps)).steps) notes

threads_rows : (ps : List Piece) (notes : List ThreadNote) → Each HasSteps ps → run_rows ps notes ≡ thread_rows ps notes + counted ps notes
threads_rows ps [] h = refl
threads_rows ps (n ∷ notes) h =
    let own : Each HasSteps (pieces_of n.process ps) = each_by_time ordered.begin_of HasSteps (filter (λ p. p.stretch.process == n.process) ps) (each_filter HasSteps (λ p. p.stretch.process == n.process) ps h) in
    let a = all_steps (pieces_of n.process ps) own in
    let b = sorted_rows (filter (λ p. p.stretch.process == n.process) ps) in
    let s = sum_by-cons (λ (m : ThreadNote). length (rows_of (pieces_of m.process ps)).steps) n notes in
    let r = threads_rows ps notes h in
    omega (arith, a, b, s, r)

-- there is room for the rows of the walks and those of the joins
pub rooms : (ps : List Piece) (notes : List ThreadNote) → Each HasSteps ps → Each (IsNoted notes) ps → sum_by (λ (n : ThreadNote). length (rows_of (pieces_of n.process ps)).steps) notes ≤ 65536 → rows_before ps + counted ps notes ≤ 65536
rooms ps notes some noted few =
    let a = all_noted ps notes noted in
    let b = threads_rows ps notes some in
    omega (arith, a, b, few)
