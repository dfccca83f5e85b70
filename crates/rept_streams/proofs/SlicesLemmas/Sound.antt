-- The run of several streams is sound.
use Rattle.std.proofs.Common.{map, ◌≡◌, inl, inr, ℕ, zero, suc, ◌+◌, ◌-◌, ◌^◌, ◌<◌, ◌≤◌, ◌==◌, nat_le, List, [], ◌∷◌, ◌++◌, length, reverse, Bool, true, false, cond, Option, Some, None, Result, Ok, Err, refl, sym, ◌∙◌, ap, subst, arith, length-append}
use Rattle.std.specs.Prelude.{slice_get, is_none, option_map, unwrap_or}
use Rattle.std.specs.List.{All, flat_map, filter}
use Rattle.std.proofs.lemmas.List.Elements.{All-head, All-tail}
use Rattle.std.proofs.lemmas.Bool.Decides.{leb_tells}
use Rattle.rept_isa.specs.declared.instr.Instr.{Instr}
use Rattle.rept_isa.specs.declared.row.StepRow.{StepRow}
use Rattle.rept_isa.specs.Operands.{is_call}
use Rattle.rept_steps.specs.declared.run.Run.{Run}
use Rattle.rept_steps.specs.declared.slice.Slice.{Slice}
use Rattle.rept_steps.specs.declared.threads.ThreadRows.{ThreadRows}
use Rattle.rept_trace.specs.declared.packet.Packet.{Packet}
use Rattle.rept_path.specs.declared.flow.Flow.{Flow}
use Rattle.rept_path.specs.declared.flow.Flow.TheVariants.{Plain, Branch, Jump, Fixed, Far, Call, Stop}
use Rattle.rept_path.specs.declared.fault.PathFault.{PathFault}
use Rattle.rept_path.specs.declared.fault.PathFault.TheVariants.{TooLong, Gap, End}
use Rattle.rept_path.specs.Code.{Code, look, is_short, flow_of}
use Rattle.rept_path.specs.Gap.{row, Goal, Edge, by_successor, by_flow, crossing, gap, gap_to_start}
use Rattle.rept_path.specs.Moves.{Stand, way_by, site, successor, ◌>>=◌}
use Rattle.rept_path.proofs.MoveLemmas.{bind_ok}
use Rattle.rept_steps.specs.Course.{no_thread, is_call_row, slice_of, TakeRows, BeginsFrom, first_slice, KeepTime, IsSoundCourse}
use Rattle.rept_streams.specs.Slices.Parts.{ToldSlice, thread_of, begin_of, first_time, beyond, lesser, never, end_before}
use Rattle.rept_streams.specs.Slices.Order.{head_of}
use Rattle.rept_streams.specs.Slices.Stamps.{clock_of, address_of}
use Rattle.rept_streams.specs.Slices.Skipping.{kept}
use Rattle.rept_streams.specs.Slices.Checks.{first_fault}
use Rattle.rept_streams.specs.Slices.Stretches.{heads, RanSlice, ran_by, ran_in, ran, StretchLegs, within, Walks, count_of}
use Rattle.rept_streams.specs.Slices.Joins.{ThreadNote, JoinGround, ThreadGround, thread_ground, stand_at, bridge, JoinedSlice, with_rows, join, slice_by, slices, thread, of_thread, rows_in, ran_rows, threads}
use Rattle.rept_streams.specs.Slices.Many.{Traces, processes, left, ground, overlap_fault, unmet, run_by, IsRunOfStreams}
use Rattle.rept_streams.proofs.SlicesLemmas.InTime.{Each, Ascend, FromTime, ascends, each_by_time, each_filter}
use Rattle.rept_streams.proofs.SlicesLemmas.Calm.{OnTime, NotBefore, ends_late, each_append, CanTell, CanBe, left_on_time, left_can}
use Rattle.rept_streams.proofs.SlicesLemmas.Plain.{IsPlain, has_successor, rows_plain}
use Rattle.rept_streams.proofs.SlicesLemmas.Whether.{Started, starts_told}

-- Each row but the last is no call.
abbrev LastCall : List StepRow → Type 0
LastCall [] = Unit {0}
LastCall (r ∷ []) = Unit {0}
LastCall (r ∷ (s ∷ rows)) = IsPlain r × LastCall (s ∷ rows)

last_call_after : (xs ys : List StepRow) → Each IsPlain xs → LastCall ys → LastCall (xs ++ ys)
last_call_after [] ys p l = l
last_call_after (x ∷ []) [] p l = tt
last_call_after (x ∷ []) (y ∷ ys) p l = (p.0, l)
last_call_after (x ∷ (z ∷ xs)) ys p l = (p.0, last_call_after (z ∷ xs) ys p.1 l)

call_is_last : (rows : List StepRow) (i : ℕ) → LastCall rows → is_call_row (slice_get rows i) ≡ true → suc i ≡ length rows
call_is_last [] i l h = absurd (cc)
call_is_last (r ∷ []) zero l h = refl
call_is_last (r ∷ []) (suc i) l h = absurd (cc)
call_is_last (r ∷ (s ∷ rows)) zero l h = absurd (let p = l.0 in cc)
call_is_last (r ∷ (s ∷ rows)) (suc i) l h = let e = call_is_last (s ∷ rows) i l.1 h in omega (arith, e)

-- The rows of a gap, newest first: one, or one that is no call and another one.
abbrev Bridged : List StepRow → Type 0
Bridged [] = Unit {0}
Bridged (r ∷ rows) = Each IsPlain rows × (length rows ≤ 1)

bridged_last : (rows : List StepRow) → Bridged rows → LastCall (reverse rows)
bridged_last [] b = tt
bridged_last (r ∷ []) b = tt
bridged_last (r ∷ (s ∷ [])) b = (b.0.0, tt)
bridged_last (r ∷ (s ∷ (x ∷ rows))) b = absurd (let le = b.1 in omega (arith, le))

one_or_two : (b c : Bool) (r s : StepRow) (e : PathFault) (rows : List StepRow) → IsPlain r → cond b (Ok (r ∷ [])) (cond c (Ok (s ∷ r ∷ [])) (Err e)) ≡ Ok rows → Bridged rows
one_or_two true c r s e rows p h = let same : r ∷ [] ≡ rows = cc in subst Bridged same (tt, omega arith)
one_or_two false true r s e rows p h = let same : s ∷ r ∷ [] ≡ rows = cc in subst Bridged same ((p, tt), omega arith)
one_or_two false false r s e rows p h = absurd (cc)

one_only : (b : Bool) (r : StepRow) (e : PathFault) (rows : List StepRow) → cond b (Ok (r ∷ [])) (Err e) ≡ Ok rows → Bridged rows
one_only true r e rows h = let same : r ∷ [] ≡ rows = cc in subst Bridged same (tt, omega arith)
one_only false r e rows h = absurd (cc)

module _ (code : Code) where
  by_next : (e : Edge) (next : Result ℕ PathFault) (rows : List StepRow) → ((a : ℕ) → next ≡ Ok a → is_call e.instr ≡ false) → (next >>= by_successor code e) ≡ Ok rows → Bridged rows
  by_next e next rows plain h =
      let b = bind_ok next (by_successor code e) rows h in
      one_or_two (b.0 == e.to) _ (row e b.0 false) _ e.otherwise rows (plain b.0 b.1) b.2

  flow_bridged : (e : Edge) (next : Result ℕ PathFault) (flow : Flow) (rows : List StepRow) → ((a : ℕ) → next ≡ Ok a → is_call e.instr ≡ false) → by_flow code e next flow ≡ Ok rows → Bridged rows
  flow_bridged e next Call rows plain h = one_only _ (row e e.to true) e.otherwise rows h
  flow_bridged e next Far rows plain h = one_only _ (row e e.to false) e.otherwise rows h
  flow_bridged e next Stop rows plain h = absurd (cc)
  flow_bridged e next Plain rows plain h = by_next e next rows plain h
  flow_bridged e next (Jump imm) rows plain h = by_next e next rows plain h
  flow_bridged e next (Fixed to) rows plain h = by_next e next rows plain h
  flow_bridged e next (Branch imm) rows plain h = by_next e next rows plain h

  fits : (b : Bool) (k : ℕ) (xs rows : List StepRow) → Bridged xs → cond b (Ok xs) (Err (TooLong k)) ≡ Ok rows → Bridged rows
  fits true k xs rows h is = let same : xs ≡ rows = cc in subst Bridged same h
  fits false k xs rows h is = absurd (cc)

  gap_bridged : (s : Stand) (goal : Goal) (rows : List StepRow) → gap code s goal ≡ Ok rows → Bridged rows
  unfolding gap
  gap_bridged s goal rows is =
      let p = s.place in
      let f : List StepRow → Result (List StepRow) PathFault = λ xs. cond (nat_le (length p.rows + length xs) s.room) (Ok xs) (Err (TooLong s.packet)) in
      let cross : Instr → Result (List StepRow) PathFault = λ i. crossing code s goal i in
      let g : Instr → Result (List StepRow) PathFault = λ i. cross i >>= f in
      let b = bind_ok (look code p.at) g rows is in
      let c = bind_ok (cross b.0) f rows b.2 in
      let edge : Edge = record { at = p.at; instr = b.0; short = is_short code p.at; to = goal.address; otherwise = goal.otherwise } in
      let way = way_by (slice_get s.bits p.branches) None in
      let there = flow_bridged edge (successor s.packet (site code p.at) (flow_of b.0) way) (flow_of b.0) c.0 (λ a h. has_successor s.packet (site code p.at) a b.0 way h) c.1 in
      fits (nat_le (length p.rows + length c.0) s.room) s.packet c.0 rows there c.2

bridge_bridged : (e : ThreadGround) (count : ℕ) (r : RanSlice) (next : Option RanSlice) (rows : List StepRow) → bridge e count r next ≡ Ok rows → Bridged rows
bridge_bridged e count r None rows h =
    let s = stand_at e.packets r count in
    gap_bridged e.code s (record { address = e.pc; otherwise = End s.place.at e.pc }) rows h
bridge_bridged e count r (Some next) rows h = go (is_none next.told.inside) h where
  s : Stand
  s = stand_at next.told.number r count

  a : ℕ
  a = address_of next.told.start

  go : (b : Bool) → cond b (gap_to_start e.code s a) (Ok []) ≡ Ok rows → Bridged rows
  go true h = gap_bridged e.code s (record { address = a; otherwise = Gap s.packet s.place.at a }) rows h
  go false h = let is : [] ≡ rows = cc in subst Bridged is tt

-- The slices of a thread as they were joined: each is one that was walked, with rows that only end
-- with a call.
abbrev Same : List RanSlice → List JoinedSlice → Type 0
Same [] [] = Unit {0}
Same [] (j ∷ js) = ⊥
Same (r ∷ rs) [] = ⊥
Same (r ∷ rs) (j ∷ js) = (j.told ≡ r.told) × LastCall j.rows × Same rs js

join_same : (e : ThreadGround) (count : ℕ) (rs : List RanSlice) (js : List JoinedSlice) → Each (λ r. Each IsPlain r.rows) rs → join e count rs ≡ Ok js → Same rs js
join_same e count [] js p h = let is : [] ≡ js = cc in subst (Same []) is tt
join_same e count (r ∷ rs) js p h =
    let b = bind_ok (bridge e count r (head_of rs)) (λ more. join e (count + length more) rs >>= (λ others. Ok (with_rows r more ∷ others))) js h in
    let c = bind_ok (join e (count + length b.0) rs) (λ others. Ok (with_rows r b.0 ∷ others)) js b.2 in
    let is : with_rows r b.0 ∷ c.0 ≡ js = (let k = c.2 in cc) in
    let last = last_call_after r.rows (reverse b.0) p.0 (bridged_last b.0 (bridge_bridged e count r (head_of rs) b.0 b.1)) in
    subst (Same (r ∷ rs)) is (refl, last, join_same e (count + length b.0) rs c.0 p.1 c.1)

-- The slice is one that its stream can tell of, at a time that can be told.
abbrev pub InTime : ToldSlice → Type 0
InTime t = OnTime t × (begin_of t ≤ never)

same_ascend : (rs : List RanSlice) (js : List JoinedSlice) → Same rs js → Ascend (λ (r : RanSlice). begin_of r.told) rs → Ascend (λ (j : JoinedSlice). begin_of j.told) js
same_ascend [] [] s a = tt
same_ascend [] (j ∷ js) s a = elim s [ ]
same_ascend (r ∷ rs) [] s a = elim s [ ]
same_ascend (r ∷ []) (j ∷ []) s a = (tt, tt)
same_ascend (r ∷ []) (j ∷ (k ∷ js)) s a = elim s.2 [ ]
same_ascend (r ∷ (q ∷ rs)) (j ∷ []) s a = elim s.2 [ ]
same_ascend (r ∷ (q ∷ rs)) (j ∷ (k ∷ js)) s a =
    let one = ap begin_of s.0 in
    let two = ap begin_of s.2.0 in
    let le = a.0 in
    (omega (arith, one, two, le), same_ascend (q ∷ rs) (k ∷ js) s.2 a.1)

same_in_time : (rs : List RanSlice) (js : List JoinedSlice) → Same rs js → Each (λ (r : RanSlice). InTime r.told) rs → Each (λ (j : JoinedSlice). InTime j.told) js
same_in_time [] [] s a = tt
same_in_time [] (j ∷ js) s a = elim s [ ]
same_in_time (r ∷ rs) [] s a = elim s [ ]
same_in_time (r ∷ rs) (j ∷ js) s a = (subst InTime (sym s.0) a.0, same_in_time rs js s.2 a.1)

same_last : (rs : List RanSlice) (js : List JoinedSlice) → Same rs js → Each (λ (j : JoinedSlice). LastCall j.rows) js
same_last [] [] s = tt
same_last [] (j ∷ js) s = elim s [ ]
same_last (r ∷ rs) [] s = elim s [ ]
same_last (r ∷ rs) (j ∷ js) s = (s.1, same_last rs js s.2)

take_rows : (first : ℕ) (js : List JoinedSlice) → TakeRows first (slices first js) (first + length (flat_map (λ (j : JoinedSlice). j.rows) js))
take_rows first [] = omega arith
take_rows first (j ∷ js) =
    let n : first + length j.rows + length (flat_map (λ (j : JoinedSlice). j.rows) js) ≡ first + length (j.rows ++ flat_map (λ (j : JoinedSlice). j.rows) js) = omega (arith, length-append j.rows (flat_map (λ (j : JoinedSlice). j.rows) js)) in
    (refl, subst (λ (to : ℕ). TakeRows (first + length j.rows) (slices (first + length j.rows) js) to) n (take_rows (first + length j.rows) js))

within_lesser : (n time : ℕ) (other : Option ℕ) → n ≤ time → NotBefore n other → n ≤ lesser time other
within_lesser n time None a b = a
within_lesser n time (Some m) a b = go (nat_le time m) where
  go : (c : Bool) → n ≤ cond c time m
  go true = a
  go false = b

lesser_within : (time m : ℕ) → lesser time (Some m) ≤ m
lesser_within time m = elim (leb_tells time m) [ inl t ↦ rw t.0 t.1 | inr t ↦ rw t.0 (omega arith) ]

next_begins : (n : ℕ) (js : List JoinedSlice) → FromTime (λ (j : JoinedSlice). begin_of j.told) n (head_of js) → NotBefore n (option_map (λ (j : JoinedSlice). begin_of j.told) (head_of js))
next_begins n [] h = tt
next_begins n (j ∷ js) h = h

keeps_time : (first : ℕ) (js : List JoinedSlice) → Ascend (λ (j : JoinedSlice). begin_of j.told) js → Each (λ (j : JoinedSlice). InTime j.told) js → KeepTime (slices first js)
keeps_time first [] a e = tt
keeps_time first (j ∷ js) a e =
    let n = begin_of j.told in
    let own : n ≤ lesser never (first_time (beyond j.told)) = within_lesser n never (first_time (beyond j.told)) e.0.1 (ends_late j.told e.0.0) in
    let end : n ≤ end_before j.told (option_map (λ (k : JoinedSlice). begin_of k.told) (head_of js)) = within_lesser n (lesser never (first_time (beyond j.told))) (option_map (λ (k : JoinedSlice). begin_of k.told) (head_of js)) own (next_begins n js a.0) in
    (end, before js, keeps_time (first + length j.rows) js a.1 e.1)
  where
    before : (js : List JoinedSlice) → BeginsFrom (end_before j.told (option_map (λ (k : JoinedSlice). begin_of k.told) (head_of js))) (first_slice (slices (first + length j.rows) js))
    before [] = tt
    before (k ∷ ks) = lesser_within (lesser never (first_time (beyond j.told))) (begin_of k.told)

get_front : (xs ys : List StepRow) (i : ℕ) → i < length xs → slice_get (xs ++ ys) i ≡ slice_get xs i
get_front [] ys i lt = absurd (omega arith)
get_front (x ∷ xs) ys zero lt = refl
get_front (x ∷ xs) ys (suc i) lt = get_front xs ys i (omega arith)

get_past : (xs ys : List StepRow) (i k : ℕ) → i ≡ length xs + k → slice_get (xs ++ ys) i ≡ slice_get ys k
get_past [] ys i k is = ap (slice_get ys) (is ∙ omega arith)
get_past (x ∷ xs) ys zero k is = absurd (omega (arith, is))
get_past (x ∷ xs) ys (suc i) k is = get_past xs ys i k (omega (arith, is))

call_ends : (first : ℕ) (js : List JoinedSlice) (i : ℕ) (s : Slice) → Each (λ (j : JoinedSlice). LastCall j.rows) js → is_call_row (slice_get (flat_map (λ (j : JoinedSlice). j.rows) js) i) ≡ true → slice_of (slices first js) (first + i) ≡ Some s → s.first + s.count ≡ suc (first + i)
call_ends first [] i s e call there = absurd (cc)
call_ends first (j ∷ js) i s e call there = elim (leb_tells (suc (first + i)) (first + length j.rows)) [
  | inl t ↦
      let lt = t.1 in
      let here : slice_by j (head_of js) first ≡ s = (let k = rw t.0 at there in cc) in
      let get = get_front j.rows (flat_map (λ (k : JoinedSlice). k.rows) js) i (omega (arith, lt)) in
      let n = call_is_last j.rows i e.0 (rw (← get) call) in
      subst (λ (x : Slice). x.first + x.count ≡ suc (first + i)) here (omega (arith, n))
  | inr t ↦
      let ge = t.1 in
      let is : i ≡ length j.rows + (i - length j.rows) = omega (arith, ge) in
      let get = get_past j.rows (flat_map (λ (k : JoinedSlice). k.rows) js) i (i - length j.rows) is in
      let at : first + i ≡ first + length j.rows + (i - length j.rows) = omega (arith, ge) in
      let on : slice_of (slices (first + length j.rows) js) (first + length j.rows + (i - length j.rows)) ≡ Some s = subst (λ (n : ℕ). slice_of (slices (first + length j.rows) js) n ≡ Some s) at (rw t.0 at there) in
      let r = call_ends (first + length j.rows) js (i - length j.rows) s e.1 (rw (← get) call) on in
      omega (arith, r, at)
]

-- A thread whose slices take its rows, keep time and end with its calls.
record Good (t : ThreadRows) : Type 0 where
  taken : TakeRows 0 t.slices (length t.steps)
  in_time : KeepTime t.slices
  calls : (i : ℕ) (s : Slice) → is_call_row (slice_get t.steps i) ≡ true → slice_of t.slices i ≡ Some s → s.first + s.count ≡ suc i

good_thread : (rs : List RanSlice) (js : List JoinedSlice) → Same rs js → Ascend (λ (r : RanSlice). begin_of r.told) rs → Each (λ (r : RanSlice). InTime r.told) rs → Good (thread js)
good_thread rs js s a e = record {
  taken = subst (λ (n : ℕ). TakeRows 0 (slices 0 js) n) (omega arith) (take_rows 0 js);
  in_time = keeps_time 0 js (same_ascend rs js s a) (same_in_time rs js s e);
  calls = λ i x call there.
      let at : 0 + i ≡ i = omega arith in
      let r = call_ends 0 js i x (same_last rs js s) call (subst (λ (n : ℕ). slice_of (slices 0 js) n ≡ Some x) (sym at) there) in
      omega (arith, r);
}

good_none : Good no_thread
good_none = record { taken = refl; in_time = tt; calls = λ i s call there. absurd (cc) }

good_at : (ts : List ThreadRows) → Each Good ts → (t : ℕ) → Good (unwrap_or (slice_get ts t) no_thread)
good_at [] g t = good_none
good_at (x ∷ ts) g zero = g.0
good_at (x ∷ ts) g (suc t) = good_at ts g.1 t

module _ (g : JoinGround) (rs : List RanSlice) (plain : Each (λ (r : RanSlice). Each IsPlain r.rows) rs) (on_time : Each (λ (r : RanSlice). InTime r.told) rs) where
  good_threads : (count : ℕ) (notes : List ThreadNote) (all : List ThreadRows) → threads g count notes rs ≡ Ok all → Each Good all
  good_threads count [] all h = let is : [] ≡ all = cc in subst (Each Good) is tt
  good_threads count (note ∷ notes) all h =
      let own = of_thread note.process rs in
      let e = thread_ground g.code g.packets note in
      let onward : List JoinedSlice → Result (List ThreadRows) PathFault = λ js. threads g (count + (rows_in js - ran_rows own)) notes rs >>= (λ others. Ok (thread js ∷ others)) in
      let b = bind_ok (join e count own) onward all h in
      let c = bind_ok (threads g (count + (rows_in b.0 - ran_rows own)) notes rs) (λ others. Ok (thread b.0 ∷ others)) all b.2 in
      let is : thread b.0 ∷ c.0 ≡ all = (let k = c.2 in cc) in
      let test : RanSlice → Bool = λ r. thread_of r.told == note.process in
      let time : RanSlice → ℕ = λ r. begin_of r.told in
      let plain_own = each_by_time time (λ (r : RanSlice). Each IsPlain r.rows) (filter test rs) (each_filter (λ (r : RanSlice). Each IsPlain r.rows) test rs plain) in
      let timed_own = each_by_time time (λ (r : RanSlice). InTime r.told) (filter test rs) (each_filter (λ (r : RanSlice). InTime r.told) test rs on_time) in
      let same = join_same e count own b.0 plain_own b.1 in
      subst (Each Good) is (good_thread own b.0 same (ascends time (filter test rs)) timed_own, good_threads (count + (rows_in b.0 - ran_rows own)) notes c.0 c.1)

-- the slices of stretches that were walked
module _ (code : Code) (ts : List ToldSlice) where
  ran_in_time : Each InTime ts → (ws : List StretchLegs) → Each (λ (r : RanSlice). InTime r.told) (ran code ts ws)
  ran_in_time h [] = tt
  ran_in_time h (w ∷ ws) = each_append (λ (r : RanSlice). InTime r.told) (ran_in code ts w) (ran code ts ws) (go (filter (within w) ts) (each_filter InTime (within w) ts h)) (ran_in_time h ws) where
    go : (us : List ToldSlice) → Each InTime us → Each (λ (r : RanSlice). InTime r.told) (map (ran_by code w) us)
    go [] h = tt
    go (u ∷ us) h = (h.0, go us h.1)

  ran_plain : (count : ℕ) (heads : List ToldSlice) (ws : List StretchLegs) → Each Started heads → Walks code count heads ws → Each (λ (r : RanSlice). Each IsPlain r.rows) (ran code ts ws)
  ran_plain count [] ws s x = subst (λ (vs : List StretchLegs). Each (λ (r : RanSlice). Each IsPlain r.rows) (ran code ts vs)) (sym x) tt
  ran_plain count (t ∷ heads) [] s x = elim x [ ]
  ran_plain count (t ∷ heads) (w ∷ ws) s x = each_append (λ (r : RanSlice). Each IsPlain r.rows) (ran_in code ts w) (ran code ts ws) (go (filter (within w) ts)) (ran_plain (count + count_of code w) heads ws s.1 x.2) where
    go : (us : List ToldSlice) → Each (λ (r : RanSlice). Each IsPlain r.rows) (map (ran_by code w) us)
    go [] = tt
    go (u ∷ us) = (rows_plain code count w u (subst Started (sym x.0) s.0) x.1, go us)

can_be : (packets : List Packet) → All (λ p. clock_of p < 2 ^ 64) packets → Each CanBe packets
can_be [] h = tt
can_be (p ∷ later) h = (let lt = All-head (λ (q : Packet). clock_of q < 2 ^ 64) p later h in omega (arith, lt), can_be later (All-tail (λ (q : Packet). clock_of q < 2 ^ 64) p later h))

all_can_be : (streams : List (List Packet)) → All (All (λ p. clock_of p < 2 ^ 64)) streams → Each (Each CanBe) streams
all_can_be [] h = tt
all_can_be (s ∷ streams) h = (can_be s (All-head (All (λ (q : Packet). clock_of q < 2 ^ 64)) s streams h), all_can_be streams (All-tail (All (λ (q : Packet). clock_of q < 2 ^ 64)) s streams h))

in_time : (ts : List ToldSlice) → Each OnTime ts → Each CanTell ts → Each InTime ts
in_time [] a b = tt
in_time (t ∷ ts) a b = ((a.0, b.0), in_time ts a.1 b.1)

-- The run of streams, each time of which has 64 bits, is sound.
pub is_sound : (t : Traces) (run : Run) → All (All (λ p. clock_of p < 2 ^ 64)) t.streams → IsRunOfStreams t run → IsSoundCourse (record { threads = run.threads; untraced = run.untraced })
is_sound t run fits x =
    let ts = left t in
    let rs = ran t.code ts x.walked in
    let onward : List ThreadRows → Result Run PathFault = λ all. Ok (run_by t all) in
    let b = bind_ok (unmet (first_fault (overlap_fault ts) (processes t))) (λ none. threads (ground t) (ran_rows rs) t.notes rs >>= onward) run x.result in
    let c = bind_ok (threads (ground t) (ran_rows rs) t.notes rs) onward run b.2 in
    let is : run_by t c.0 ≡ run = (let k = c.2 in cc) in
    let timed = in_time ts (left_on_time t.from (processes t) t.streams x.passed) (left_can t.from t.streams (all_can_be t.streams fits)) in
    let started = each_filter Started (λ u. is_none u.inside) ts (starts_told (kept t.from t.streams)) in
    let good = good_threads (ground t) rs (ran_plain t.code ts 0 (heads ts) x.walked started x.walks) (ran_in_time t.code ts timed x.walked) (ran_rows rs) t.notes c.0 c.1 in
    subst (λ (r : Run). IsSoundCourse (record { threads = r.threads; untraced = r.untraced })) is (record {
      taken = λ n. let g = good_at c.0 good n in g.taken;
      in_time = λ n. let g = good_at c.0 good n in g.in_time;
      calls = inr (λ r s call there. let g = good_at c.0 good r.thread in g.calls r.step s call there);
    })
