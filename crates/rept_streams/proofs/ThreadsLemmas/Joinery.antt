-- Slices of a thread joined one to the next.
use Rattle.std.proofs.Common.{◌≡◌, ◌⊎◌, inl, inr, ℕ, zero, suc, ◌+◌, ◌-◌, ◌<◌, ◌≤◌, ◌==◌, nat_le, List, [], ◌∷◌, ◌++◌, length, map, get_or, set, reverse, drop, Bool, true, false, cond, Option, Some, None, Result, Ok, Err, refl, sym, ◌∙◌, ap, subst, arith, append_assoc, length-append, length-drop}
use Rattle.std.specs.Prelude.{slice_get, option_map, is_none}
use Rattle.std.specs.List.{filter, flat_map}
use Rattle.std.proofs.lemmas.Bool.Decides.{leb_tells}
use Rattle.rept_streams.specs.Threads.Notes.{known_by}
use Rattle.rept_streams.specs.declared.threads.notes.KeptNote.{KeptNote}
use Rattle.std.proofs.lemmas.List.{append-nil, at_drop_all, at_drop_more, drop-drop, length-reverse, reverse-reverse}
use Rattle.std.proofs.lemmas.List.Sums.{sum_by-cons, sum_by_push}
use Rattle.std.proofs.lemmas.Grind.{flat_map-append}
use Rattle.rept_isa.specs.declared.instr.Instr.{Instr}
use Rattle.rept_isa.specs.declared.row.StepRow.{StepRow}
use Rattle.rept_steps.specs.declared.slice.Slice.{Slice}
use Rattle.rept_steps.specs.declared.threads.ThreadRows.{ThreadRows}
use Rattle.rept_trace.specs.declared.packet.Packet.{Packet}
use Rattle.rept_path.specs.Code.{Code, look}
use Rattle.rept_path.specs.declared.fault.PathFault.{PathFault}
use Rattle.rept_path.specs.declared.fault.PathFault.TheVariants.{OutOfMemory, TooLong, Gap, End}
use Rattle.rept_path.specs.Gap.{Goal, crossing, gap}
use Rattle.rept_path.specs.Moves.{Stand, Place, ◌>>=◌}
use Rattle.rept_path.specs.Program.{code_of}
use Rattle.rept_path.specs.State.{here}
use Rattle.rept_path.proofs.MoveLemmas.{bind_ok}
use Rattle.rept_streams.specs.Slices.Stamps.{address_of, clock_of, context_of}
use Rattle.rept_streams.specs.Slices.Parts.{ToldSlice, thread_of, begin_of, end_before}
use Rattle.std.specs.List.Sorted.{IsPermutation}
use Rattle.std.proofs.lemmas.List.Sorted.{IsPermutation-map}
use Rattle.rept_streams.specs.Slices.Order.{put, by_time, head_of, slices_of}
use Rattle.rept_streams.proofs.ThreadsLemmas.MeetLemmas.{map_filter}
use Rattle.rept_streams.proofs.SlicesLemmas.Apart.{told_slices}
use Rattle.rept_streams.proofs.SlicesLemmas.Until.{told_permuted}
use Rattle.rept_streams.specs.Slices.Stretches.{RanSlice}
use Rattle.rept_steps.specs.Linked.{EndBefore}
use Rattle.rept_streams.specs.Threads.Linking.{Chained, Ready}
use Rattle.rept_streams.specs.Slices.Joins.{ThreadNote, JoinGround, ThreadGround, thread_ground, stand_at, bridge, JoinedSlice, with_rows, join, slices, thread, of_thread, rows_in, ran_rows, threads}
use Rattle.rept_streams.specs.Threads.Joining.{onward, ending_of, ground_of, slice_before, begin_of_ran, AreRanInOrder, JoinsGoOn}
use Rattle.rept_streams.specs.Slices.Entries.{IsEntryOf, AreEntriesOf}
use Rattle.rept_streams.specs.Threads.Kept.{IsRan, AreRan}
use Rattle.rept_streams.specs.declared.slices.telling.StreamSlice.{StreamSlice}
use Rattle.rept_streams.specs.declared.threads.walks.FinishedWalk.{FinishedWalk}
use Rattle.rept_streams.specs.declared.threads.walks.Walked.{Walked}
use Rattle.rept_streams.specs.declared.threads.joins.Joins.{Joins}
use Rattle.rept_streams.specs.declared.threads.joins.Lead.{Lead}

-- the next slice of a thread, as its entry has it
abbrev pub NextRan : Option StreamSlice → Option RanSlice → Type 0
NextRan None None = Unit {0}
NextRan None (Some r) = ⊥
NextRan (Some e) None = ⊥
NextRan (Some e) (Some r) = IsEntryOf e r.told

pub next_ran : (all : List FinishedWalk) (ws : List Walked) (r : RanSlice) (rs : List RanSlice) → AreRan all ws (r ∷ rs) → NextRan (option_map (λ (w : Walked). w.slice) (slice_get ws 1)) (head_of rs)
next_ran all [] r rs a = absurd (cc)
next_ran all (w ∷ []) r rs a = subst (λ (xs : List RanSlice). NextRan None (head_of xs)) (sym a.1) tt
next_ran all (w ∷ (v ∷ ws)) r [] a = absurd a.1
next_ran all (w ∷ (v ∷ ws)) r (q ∷ rs) a = (a.1.0).told

pub first_ran : (all : List FinishedWalk) (ws : List Walked) (r : RanSlice) (rs : List RanSlice) → AreRan all ws (r ∷ rs) → (w : Walked) × (slice_get ws 0 ≡ Some w) × IsRan all w r
first_ran all [] r rs a = absurd (cc)
first_ran all (w ∷ ws) r rs a = (w, refl, a.0)

pub next_clock : (o : Option StreamSlice) (q : Option RanSlice) → NextRan o q → option_map (λ (e : StreamSlice). clock_of e.start) o ≡ option_map begin_of_ran q
next_clock None None n = refl
next_clock None (Some r) n = absurd n
next_clock (Some e) None n = absurd n
next_clock (Some e) (Some r) n = ap (λ (p : Packet). Some (clock_of p)) n.start

-- the rows of a gap have room
gap_fits : (code : Code) (s : Stand) (goal : Goal) (rows : List StepRow) → gap code s goal ≡ Ok rows → length s.place.rows + length rows ≤ s.room
unfolding gap
gap_fits code s goal rows is =
    let f : List StepRow → Result (List StepRow) PathFault = λ xs. cond (nat_le (length s.place.rows + length xs) s.room) (Ok xs) (Err (TooLong s.packet)) in
    let cross : Instr → Result (List StepRow) PathFault = λ i. crossing code s goal i in
    let b = bind_ok (look code s.place.at) (λ i. cross i >>= f) rows is in
    let c = bind_ok (cross b.0) f rows b.2 in
    fits c.0 c.2
  where
    fits : (xs : List StepRow) → cond (nat_le (length s.place.rows + length xs) s.room) (Ok xs) (Err (TooLong s.packet)) ≡ Ok rows → length s.place.rows + length rows ≤ s.room
    fits xs h = elim (leb_tells (length s.place.rows + length xs) s.room) [
      | inl t ↦ (let le = t.1 in let k = rw t.0 at h in let e : xs ≡ rows = cc in let n = ap (length {A = StepRow}) e in omega (arith, le, n))
      | inr t ↦ absurd (let k = rw t.0 at h in cc)
    ]

-- what leads on from a slice, where its walk stands
abbrev pub leads : Code → Lead → FinishedWalk → ℕ → Result (List StepRow) PathFault
leads code lead kept room = gap code (record { packet = lead.packet; bits = kept.walk.bits.items; place = here kept.walk; room = room }) (record { address = lead.to; otherwise = lead.otherwise })

pub leads_fit : (code : Code) (lead : Lead) (kept : FinishedWalk) (room : ℕ) (rows : List StepRow) → leads code lead kept room ≡ Ok rows → length rows ≤ room
leads_fit code lead kept room rows is =
    let h = gap_fits code (record { packet = lead.packet; bits = kept.walk.bits.items; place = here kept.walk; room = room }) (record { address = lead.to; otherwise = lead.otherwise }) rows is in
    omega (arith, h)

module _ (j : Joins) (pc : ℕ) (all : List FinishedWalk) (w : Walked) (r : RanSlice) (i : IsRan all w r) (kept : FinishedWalk) (kept_is : kept ≡ i.stretch) where
  at_is : kept.walk.at ≡ r.last.at
  at_is = ap (λ (k : FinishedWalk). k.walk.at) kept_is ∙ ap (λ (p : Place). p.at) i.last

  stand_is : (k room : ℕ) → room ≡ 65536 - j.count → record { packet = k; bits = kept.walk.bits.items; place = here kept.walk; room = room } ≡ stand_at k r j.count
  stand_is k room e =
      let bits = ap (λ (x : FinishedWalk). x.walk.bits.items) kept_is ∙ i.bits in
      let place = ap (λ (x : FinishedWalk). here x.walk) kept_is ∙ i.last in
      λ n. record { packet = k; bits = bits n; place = place n; room = e n }

  same_lead : (room : ℕ) (lead : Lead) (k to : ℕ) (otherwise : ℕ → PathFault) → room ≡ 65536 - j.count → Some (record { packet = k; to = to; otherwise = otherwise kept.walk.at }) ≡ Some lead → leads (code_of j.program) lead kept room ≡ gap (code_of j.program) (stand_at k r j.count) (record { address = to; otherwise = otherwise r.last.at })
  same_lead room lead k to otherwise e h =
      let is : record { packet = k; to = to; otherwise = otherwise kept.walk.at } ≡ lead = cc in
      ap (λ (l : Lead). leads (code_of j.program) l kept room) (sym is) ∙ (λ n. gap (code_of j.program) (stand_is k room e n) (record { address = to; otherwise = otherwise (at_is n) }))

  pub leads_on : (room : ℕ) (lead : Lead) (o : Option StreamSlice) (q : Option RanSlice) → NextRan o q → room ≡ 65536 - j.count → onward j.packets kept.walk.at pc o ≡ Some lead → leads (code_of j.program) lead kept room ≡ bridge (ending_of j pc) j.count r q
  leads_on room lead None None n e h = same_lead room lead j.packets pc (λ a. End a pc) e h
  leads_on room lead None (Some x) n e h = absurd n
  leads_on room lead (Some x) None n e h = absurd n
  leads_on room lead (Some x) (Some y) n e h =
      let inside = ap is_none n.inside in
      let number = n.number in
      let start = ap address_of n.start in
      go (is_none x.inside) (is_none y.told.inside) inside h
    where
      go : (b c : Bool) → b ≡ c → cond {A = Option Lead} b (Some (record { packet = x.number; to = address_of x.start; otherwise = Gap x.number kept.walk.at (address_of x.start) })) None ≡ Some lead
          → leads (code_of j.program) lead kept room ≡ cond c (gap (code_of j.program) (stand_at y.told.number r j.count) (record { address = address_of y.told.start; otherwise = Gap y.told.number r.last.at (address_of y.told.start) })) (Ok [])
      go true true same k = same_lead room lead x.number (address_of x.start) (λ a. Gap x.number a (address_of x.start)) e k ∙ (λ m. gap (code_of j.program) (stand_at (n.number m) r j.count) (record { address = address_of (n.start m); otherwise = Gap (n.number m) r.last.at (address_of (n.start m)) }))
      go true false same k = absurd (cc)
      go false c same k = absurd (cc)

  pub leads_nowhere : (o : Option StreamSlice) (q : Option RanSlice) → NextRan o q → onward j.packets kept.walk.at pc o ≡ None → bridge (ending_of j pc) j.count r q ≡ Ok []
  leads_nowhere None q n h = absurd (cc)
  leads_nowhere (Some x) None n h = absurd n
  leads_nowhere (Some x) (Some y) n h = go (is_none x.inside) (is_none y.told.inside) (ap is_none n.inside) h where
    go : (b c : Bool) → b ≡ c → cond {A = Option Lead} b (Some (record { packet = x.number; to = address_of x.start; otherwise = Gap x.number kept.walk.at (address_of x.start) })) None ≡ None
        → cond c (gap (code_of j.program) (stand_at y.told.number r j.count) (record { address = address_of y.told.start; otherwise = Gap y.told.number r.last.at (address_of y.told.start) })) (Ok []) ≡ Ok []
    go true c same k = absurd (cc)
    go false true same k = absurd (cc)
    go false false same k = refl

-- slices of a thread, of which the next one begins at this time
abbrev pub slices_to : ℕ → List JoinedSlice → Option ℕ → List Slice
slices_to first [] next = []
slices_to first (j ∷ []) next = slice_before j next first ∷ []
slices_to first (j ∷ (k ∷ js)) next = slice_before j (Some (begin_of k.told)) first ∷ slices_to (first + length j.rows) (k ∷ js) next

slices_end : (first : ℕ) (js : List JoinedSlice) → slices_to first js None ≡ slices first js
slices_end first [] = refl
slices_end first (j ∷ []) = refl
slices_end first (j ∷ (k ∷ js)) = ap (λ (ss : List Slice). slice_before j (Some (begin_of k.told)) first ∷ ss) (slices_end (first + length j.rows) (k ∷ js))

slices_more : (first : ℕ) (js : List JoinedSlice) (j : JoinedSlice) (next : Option ℕ) → slices_to first (js ++ j ∷ []) next ≡ slices_to first js (Some (begin_of j.told)) ++ slice_before j next (first + rows_in js) ∷ []
slices_more first [] j next = let e : first ≡ first + 0 = omega arith in ap (λ (n : ℕ). slice_before j next n ∷ []) e
slices_more first (k ∷ []) j next =
    let s = sum_by-cons (λ (x : JoinedSlice). length x.rows) k [] in
    let e : first + length k.rows ≡ first + rows_in (k ∷ []) = omega (arith, s) in
    ap (λ (n : ℕ). slice_before k (Some (begin_of j.told)) first ∷ slice_before j next n ∷ []) e
slices_more first (k ∷ (m ∷ js)) j next =
    let s = sum_by-cons (λ (x : JoinedSlice). length x.rows) k (m ∷ js) in
    let e : first + length k.rows + rows_in (m ∷ js) ≡ first + rows_in (k ∷ m ∷ js) = omega (arith, s) in
    ap (λ (ss : List Slice). slice_before k (Some (begin_of m.told)) first ∷ ss) (slices_more (first + length k.rows) (m ∷ js) j next ∙ ap (λ (n : ℕ). slices_to (first + length k.rows) (m ∷ js) (Some (begin_of j.told)) ++ slice_before j next n ∷ []) e)

rows_joined : (js : List JoinedSlice) → length (flat_map (λ (j : JoinedSlice). j.rows) js) ≡ rows_in js
rows_joined [] = refl
rows_joined (j ∷ js) =
    let h = rows_joined js in
    omega (arith, h, length-append j.rows (flat_map (λ (k : JoinedSlice). k.rows) js), sum_by-cons (λ (k : JoinedSlice). length k.rows) j js)

abbrev after_done : List JoinedSlice → Result (List JoinedSlice) PathFault → Result (List JoinedSlice) PathFault
after_done done r = r >>= (λ others. Ok (done ++ others))

-- The slices that were joined, and those that are left.
pub record Joining (e : ThreadGround) (start : ℕ) (rs : List RanSlice) (all : List FinishedWalk) (ws : List Walked) (count : ℕ) (now : ThreadRows) : Type 0 where
  pub done : List JoinedSlice
  pub later : List RanSlice
  pub are : AreRan all ws later
  pub same : join e start rs ≡ (join e count later >>= (λ others. Ok (done ++ others)))
  pub steps : now.steps ≡ flat_map (λ (j : JoinedSlice). j.rows) done
  pub told : now.slices ≡ slices_to 0 done (option_map begin_of_ran (head_of later))
  pub counted : count + ran_rows rs ≡ start + rows_in done + ran_rows later
  pub grows : start ≤ count
  pub ready : Chained rs → Chained later × Ready now.steps (head_of later)

pub none_joined : (e : ThreadGround) (start : ℕ) (rs : List RanSlice) (all : List FinishedWalk) (ws : List Walked) (now : ThreadRows) → AreRan all ws rs → now.steps ≡ [] → now.slices ≡ [] → Joining e start rs all ws start now
none_joined e start rs all ws now a steps told = record {
  done = [];
  later = rs;
  are = a;
  same = whole (join e start rs);
  steps = steps;
  told = told;
  counted = omega arith;
  grows = omega arith;
  ready = λ c. (c, subst (λ (xs : List StepRow). Ready xs (head_of rs)) (sym steps) (nothing (head_of rs)));
} where
  nothing : (o : Option RanSlice) → Ready [] o
  nothing None = tt
  nothing (Some r) = tt

  whole : (r : Result (List JoinedSlice) PathFault) → r ≡ (r >>= (λ others. Ok ([] ++ others)))
  whole (Ok js) = refl
  whole (Err f) = refl

-- the first one that is left
pub record NextJoin (e : ThreadGround) (start : ℕ) (rs : List RanSlice) (all : List FinishedWalk) (ws rest : List Walked) (count : ℕ) (now : ThreadRows) : Type 0 where
  pub done : List JoinedSlice
  pub r : RanSlice
  pub later : List RanSlice
  pub are : AreRan all ws (r ∷ later)
  pub others : AreRan all rest later
  pub same : join e start rs ≡ (join e count (r ∷ later) >>= (λ others. Ok (done ++ others)))
  pub steps : now.steps ≡ flat_map (λ (j : JoinedSlice). j.rows) done
  pub told : now.slices ≡ slices_to 0 done (Some (begin_of_ran r))
  pub counted : count + ran_rows rs ≡ start + rows_in done + ran_rows (r ∷ later)
  pub grows : start ≤ count
  pub ready : Chained rs → Chained (r ∷ later) × EndBefore now.steps (address_of r.told.start)

split_ran : (all : List FinishedWalk) (w : Walked) (ws : List Walked) (rs : List RanSlice) → AreRan all (w ∷ ws) rs → (r : RanSlice) × (later : List RanSlice) × (rs ≡ r ∷ later) × IsRan all w r × AreRan all ws later
split_ran all w ws [] a = absurd a
split_ran all w ws (r ∷ later) a = (r, later, refl, a.0, a.1)

pub next_join : (e : ThreadGround) (start : ℕ) (rs : List RanSlice) (all : List FinishedWalk) (ws : List Walked) (i count : ℕ) (now : ThreadRows) → i < length ws → Joining e start rs all (drop i ws) count now → NextJoin e start rs all (drop i ws) (drop (i + 1) ws) count now
next_join e start rs all ws i count now within g = go (drop i ws) refl where
  go : (rest : List Walked) → drop i ws ≡ rest → NextJoin e start rs all (drop i ws) (drop (i + 1) ws) count now
  go [] h = absurd (let n = ap (length {A = Walked}) h in let d = length-drop i ws in omega (arith, n, d, within))
  go (w ∷ rest) h =
      let after : drop (i + 1) ws ≡ rest = sym (drop-drop 1 i ws) ∙ ap (drop 1) h in
      let s = split_ran all w rest g.later (subst (λ (xs : List Walked). AreRan all xs g.later) h g.are) in
      let sums = ap ran_rows s.2 in
      let counted = g.counted in
      record {
        done = g.done;
        r = s.0;
        later = s.1;
        are = subst (λ (xs : List Walked). AreRan all xs (s.0 ∷ s.1)) (sym h) (s.3, s.4);
        others = subst (λ (xs : List Walked). AreRan all xs s.1) (sym after) s.4;
        same = g.same ∙ ap (λ (xs : List RanSlice). join e count xs >>= (λ others. Ok (g.done ++ others))) s.2;
        steps = g.steps;
        told = g.told ∙ ap (λ (xs : List RanSlice). slices_to 0 g.done (option_map begin_of_ran (head_of xs))) s.2;
        counted = omega (arith, counted, sums);
        grows = g.grows;
        ready = λ c. (let x = g.ready c in (subst Chained s.2 x.0, subst (λ (xs : List RanSlice). Ready now.steps (head_of xs)) s.2 x.1));
      }

join_ok : (e : ThreadGround) (count : ℕ) (r : RanSlice) (rs : List RanSlice) (more : List StepRow) (done : List JoinedSlice) → bridge e count r (head_of rs) ≡ Ok more
    → (join e count (r ∷ rs) >>= (λ others. Ok (done ++ others))) ≡ (join e (count + length more) rs >>= (λ others. Ok ((done ++ with_rows r more ∷ []) ++ others)))
join_ok e count r rs more done h =
    ap (λ (x : Result (List StepRow) PathFault). (x >>= (λ more. join e (count + length more) rs >>= (λ others. Ok (with_rows r more ∷ others)))) >>= (λ others. Ok (done ++ others))) h
    ∙ go (join e (count + length more) rs)
  where
    go : (x : Result (List JoinedSlice) PathFault) → ((x >>= (λ others. Ok (with_rows r more ∷ others))) >>= (λ others. Ok (done ++ others))) ≡ (x >>= (λ others. Ok ((done ++ with_rows r more ∷ []) ++ others)))
    go (Ok js) = ap Ok (sym (append_assoc done (with_rows r more ∷ []) js))
    go (Err f) = refl

join_err : (e : ThreadGround) (count : ℕ) (r : RanSlice) (rs : List RanSlice) (f : PathFault) (done : List JoinedSlice) → bridge e count r (head_of rs) ≡ Err f → (join e count (r ∷ rs) >>= (λ others. Ok (done ++ others))) ≡ Err f
join_err e count r rs f done h = ap (λ (x : Result (List StepRow) PathFault). (x >>= (λ more. join e (count + length more) rs >>= (λ others. Ok (with_rows r more ∷ others)))) >>= (λ others. Ok (done ++ others))) h

pub one_joined : (e : ThreadGround) (start : ℕ) (rs : List RanSlice) (all : List FinishedWalk) (ws rest : List Walked) (count : ℕ) (old new : ThreadRows) (g : NextJoin e start rs all ws rest count old) (more : List StepRow) → bridge e count g.r (head_of g.later) ≡ Ok more
    → new ≡ record { steps = old.steps ++ (with_rows g.r more).rows; slices = old.slices ++ slice_before (with_rows g.r more) (option_map begin_of_ran (head_of g.later)) (length old.steps) ∷ [] }
    → (Chained rs → Ready new.steps (head_of g.later)) → Joining e start rs all rest (count + length more) new
one_joined e start rs all ws rest count old new g more h new_is ready =
    let j = with_rows g.r more in
    let steps_new = ap (λ (t : ThreadRows). t.steps) new_is in
    let slices_new = ap (λ (t : ThreadRows). t.slices) new_is in
    let first : length old.steps ≡ 0 + rows_in g.done = (let a = ap (length {A = StepRow}) g.steps in let b = rows_joined g.done in omega (arith, a, b)) in
    let counted = g.counted in
    let grows = g.grows in
    let pushed = sum_by_push (λ (x : JoinedSlice). length x.rows) g.done j in
    let own = sum_by-cons (λ (x : RanSlice). length x.rows) g.r g.later in
    let size = length-append g.r.rows (reverse more) in
    let back = length-reverse more in
    record {
      done = g.done ++ j ∷ [];
      later = g.later;
      are = g.others;
      same = g.same ∙ join_ok e count g.r g.later more g.done h;
      steps = steps_new ∙ ap (λ (xs : List StepRow). xs ++ j.rows) g.steps ∙ ap (λ (xs : List StepRow). flat_map (λ (x : JoinedSlice). x.rows) g.done ++ xs) (sym (append-nil j.rows)) ∙ sym (flat_map-append (λ (x : JoinedSlice). x.rows) g.done (j ∷ []));
      told = slices_new ∙ ap (λ (ss : List Slice). ss ++ slice_before j (option_map begin_of_ran (head_of g.later)) (length old.steps) ∷ []) g.told ∙ ap (λ (n : ℕ). slices_to 0 g.done (Some (begin_of_ran g.r)) ++ slice_before j (option_map begin_of_ran (head_of g.later)) n ∷ []) first ∙ sym (slices_more 0 g.done j (option_map begin_of_ran (head_of g.later)));
      counted = omega (arith, counted, pushed, own, size, back);
      grows = omega (arith, grows);
      ready = λ c. ((g.ready c).0.1, ready c);
    }

pub one_unjoined : (e : ThreadGround) (start : ℕ) (rs : List RanSlice) (all : List FinishedWalk) (ws rest : List Walked) (count : ℕ) (old : ThreadRows) (g : NextJoin e start rs all ws rest count old) (f : PathFault) → (f ≡ OutOfMemory) ⊎ (bridge e count g.r (head_of g.later) ≡ Err f) → (f ≡ OutOfMemory) ⊎ (join e start rs ≡ Err f)
one_unjoined e start rs all ws rest count old g f h = elim h [ inl m ↦ inl m | inr x ↦ inr (g.same ∙ join_err e count g.r g.later f g.done x) ]

pub all_joined : (e : ThreadGround) (start : ℕ) (rs : List RanSlice) (all : List FinishedWalk) (ws : List Walked) (i count : ℕ) (now : ThreadRows) → length ws ≤ i → Joining e start rs all (drop i ws) count now
    → (js : List JoinedSlice) × (join e start rs ≡ Ok js) × (now ≡ thread js) × (count ≡ start + (rows_in js - ran_rows rs))
all_joined e start rs all ws i count now past g =
    let none : g.later ≡ [] = subst (λ (xs : List Walked). AreRan all xs g.later) (at_drop_all (λ (xs : List Walked). xs) ws i past) g.are in
    let same : join e start rs ≡ Ok g.done = g.same ∙ ap (λ (xs : List RanSlice). join e count xs >>= (λ others. Ok (g.done ++ others))) none ∙ ap Ok (append-nil g.done) in
    let told : now.slices ≡ slices 0 g.done = g.told ∙ ap (λ (xs : List RanSlice). slices_to 0 g.done (option_map begin_of_ran (head_of xs))) none ∙ slices_end 0 g.done in
    let counted = g.counted in
    let grows = g.grows in
    let zero_rows = ap ran_rows none in
    (g.done, same, (λ n. record { steps = g.steps n; slices = told n }), omega (arith, counted, grows, zero_rows))

-- Slices that were walked, of one thread and in order.
module _ (all : List FinishedWalk) where
  ran_filter : (n : ℕ) (ws : List Walked) (rs : List RanSlice) → AreRan all ws rs → AreRan all (filter (λ (w : Walked). context_of w.slice.start == n) ws) (filter (λ (r : RanSlice). thread_of r.told == n) rs)
  ran_filter n [] rs a = ap (filter (λ (r : RanSlice). thread_of r.told == n)) a
  ran_filter n (w ∷ ws) [] a = absurd a
  ran_filter n (w ∷ ws) (r ∷ rs) a =
      let same : (context_of w.slice.start == n) ≡ (thread_of r.told == n) = ap (λ (p : Packet). context_of p == n) (a.0).told.start in
      go (context_of w.slice.start == n) (thread_of r.told == n) same (ran_filter n ws rs a.1)
    where
      go : (b c : Bool) → b ≡ c → AreRan all (filter (λ (w : Walked). context_of w.slice.start == n) ws) (filter (λ (r : RanSlice). thread_of r.told == n) rs)
          → AreRan all (cond b (w ∷ filter (λ (w : Walked). context_of w.slice.start == n) ws) (filter (λ (w : Walked). context_of w.slice.start == n) ws)) (cond c (r ∷ filter (λ (r : RanSlice). thread_of r.told == n) rs) (filter (λ (r : RanSlice). thread_of r.told == n) rs))
      go true true h more = (a.0, more)
      go true false h more = absurd (cc)
      go false true h more = absurd (cc)
      go false false h more = more

  abbrev walked_begin : Walked → ℕ
  walked_begin w = clock_of w.slice.start

  ran_put : (w : Walked) (r : RanSlice) (ws : List Walked) (rs : List RanSlice) → IsRan all w r → AreRan all ws rs → AreRan all (put walked_begin w ws) (put (λ (q : RanSlice). begin_of q.told) r rs)
  ran_put w r [] rs is a = subst (λ (qs : List RanSlice). AreRan all (w ∷ []) (put (λ (q : RanSlice). begin_of q.told) r qs)) (sym a) (is, refl)
  ran_put w r (v ∷ ws) [] is a = absurd a
  ran_put w r (v ∷ ws) (q ∷ rs) is a =
      let same : nat_le (walked_begin w) (walked_begin v) ≡ nat_le (begin_of r.told) (begin_of q.told) = λ i. nat_le (clock_of (is.told.start i)) (clock_of ((a.0).told.start i)) in
      go (nat_le (walked_begin w) (walked_begin v)) (nat_le (begin_of r.told) (begin_of q.told)) same (ran_put w r ws rs is a.1)
    where
      go : (b c : Bool) → b ≡ c → AreRan all (put walked_begin w ws) (put (λ (q : RanSlice). begin_of q.told) r rs) → AreRan all (cond b (w ∷ v ∷ ws) (v ∷ put walked_begin w ws)) (cond c (r ∷ q ∷ rs) (q ∷ put (λ (q : RanSlice). begin_of q.told) r rs))
      go true true h more = (is, a)
      go true false h more = absurd (cc)
      go false true h more = absurd (cc)
      go false false h more = (a.0, more)

  ran_by_time : (ws : List Walked) (rs : List RanSlice) → AreRan all ws rs → AreRan all (by_time walked_begin ws) (by_time (λ (q : RanSlice). begin_of q.told) rs)
  ran_by_time [] rs a = ap (by_time (λ (q : RanSlice). begin_of q.told)) a
  ran_by_time (w ∷ ws) [] a = absurd a
  ran_by_time (w ∷ ws) (r ∷ rs) a = ran_put w r (by_time walked_begin ws) (by_time (λ (q : RanSlice). begin_of q.told) rs) a.0 (ran_by_time ws rs a.1)

  pub ran_in_order : (ws vs : List Walked) (rs : List RanSlice) → AreRan all ws rs
      → ((n : ℕ) → filter (λ (w : Walked). context_of w.slice.start == n) vs ≡ by_time (λ (w : Walked). clock_of w.slice.start) (filter (λ (w : Walked). context_of w.slice.start == n) ws)) → AreRanInOrder all vs rs
  ran_in_order ws vs rs a times = λ n. subst (λ (xs : List Walked). AreRan all xs (of_thread n rs)) (sym (times n)) (ran_by_time (filter (λ (w : Walked). context_of w.slice.start == n) ws) (filter (λ (r : RanSlice). thread_of r.told == n) rs) (ran_filter n ws rs a))

  pub ran_told : (ws : List Walked) (rs : List RanSlice) → AreRan all ws rs → AreEntriesOf (map (λ (w : Walked). w.slice) ws) (map (λ (r : RanSlice). r.told) rs)
  ran_told [] rs a = ap (map (λ (r : RanSlice). r.told)) a
  ran_told (w ∷ ws) [] a = absurd a
  ran_told (w ∷ ws) (r ∷ rs) a = ((a.0).told, ran_told ws rs a.1)

-- the threads that are left
module _ (g : JoinGround) (rs : List RanSlice) (whole : Result (List ThreadRows) PathFault) where
  abbrev pub Left : List ThreadRows → ℕ → List ThreadNote → Type 0
  Left done count notes = whole ≡ (threads g count notes rs >>= (λ others. Ok (done ++ others)))

  abbrev own : ThreadNote → List RanSlice
  own note = of_thread note.process rs

  pub one_thread : (done : List ThreadRows) (count new : ℕ) (note : ThreadNote) (notes : List ThreadNote) (js : List JoinedSlice) → Left done count (note ∷ notes) → join (thread_ground g.code g.packets note) count (own note) ≡ Ok js → new ≡ count + (rows_in js - ran_rows (own note)) → Left (done ++ thread js ∷ []) new notes
  one_thread done count new note notes js h joined counted =
      h ∙ ap (λ (r : Result (List JoinedSlice) PathFault). (r >>= (λ js. threads g (count + (rows_in js - ran_rows (own note))) notes rs >>= (λ others. Ok (thread js ∷ others)))) >>= (λ others. Ok (done ++ others))) joined
      ∙ go (threads g (count + (rows_in js - ran_rows (own note))) notes rs)
      ∙ ap (λ (n : ℕ). threads g n notes rs >>= (λ others. Ok ((done ++ thread js ∷ []) ++ others))) (sym counted)
    where
      go : (x : Result (List ThreadRows) PathFault) → ((x >>= (λ others. Ok (thread js ∷ others))) >>= (λ others. Ok (done ++ others))) ≡ (x >>= (λ others. Ok ((done ++ thread js ∷ []) ++ others)))
      go (Ok ts) = ap Ok (sym (append_assoc done (thread js ∷ []) ts))
      go (Err f) = refl

  pub one_thread_fails : (done : List ThreadRows) (count : ℕ) (note : ThreadNote) (notes : List ThreadNote) (f : PathFault) → Left done count (note ∷ notes) → (f ≡ OutOfMemory) ⊎ (join (thread_ground g.code g.packets note) count (own note) ≡ Err f) → (f ≡ OutOfMemory) ⊎ (whole ≡ Err f)
  one_thread_fails done count note notes f h x = elim x [
    | inl m ↦ inl m
    | inr e ↦ inr (h ∙ ap (λ (r : Result (List JoinedSlice) PathFault). (r >>= (λ js. threads g (count + (rows_in js - ran_rows (own note))) notes rs >>= (λ others. Ok (thread js ∷ others)))) >>= (λ others. Ok (done ++ others))) e)
  ]

  pub all_threads : (done : List ThreadRows) (count : ℕ) → Left done count [] → whole ≡ Ok done
  all_threads done count h = h ∙ ap Ok (append-nil done)

pub no_threads : (r : Result (List ThreadRows) PathFault) → r ≡ (r >>= (λ others. Ok ([] ++ others)))
no_threads (Ok ts) = refl
no_threads (Err f) = refl

-- what stands at the place of a slice's stretch
pub there_within : {A : Type 0} (xs : List A) (i : ℕ) (x : A) → slice_get xs i ≡ Some x → i < length xs
there_within [] i x h = absurd (cc)
there_within (y ∷ xs) zero x h = omega arith
there_within (y ∷ xs) (suc i) x h = let lt = there_within xs i x h in omega (arith, lt)

pub there_is : {A : Type 0} (xs : List A) (i : ℕ) (x d : A) → slice_get xs i ≡ Some x → get_or xs i d ≡ x
there_is [] i x d h = absurd (cc)
there_is (y ∷ xs) zero x d h = cc
there_is (y ∷ xs) (suc i) x d h = there_is xs i x d h

pub set_same : {A : Type 0} (xs : List A) (i : ℕ) (x : A) → slice_get xs i ≡ Some x → set xs i x ≡ xs
set_same [] i x h = absurd (cc)
set_same {A} (y ∷ xs) zero x h = let e : y ≡ x = cc in ap (λ (z : A). z ∷ xs) (sym e)
set_same {A} (y ∷ xs) (suc i) x h = ap (λ (zs : List A). y ∷ zs) (set_same xs i x h)

-- the first one of slices that were walked
pub first_walked : (all : List FinishedWalk) (ws : List Walked) (w : Walked) (r : RanSlice) (rs : List RanSlice) → AreRan all ws (r ∷ rs) → Some w ≡ slice_get ws 0 → IsRan all w r
first_walked all [] w r rs a h = absurd (cc)
first_walked all (x ∷ ws) w r rs a h = let e : x ≡ w = cc in subst (λ (y : Walked). IsRan all y r) e a.0

pub same_ending : (old new : Joins) (count pc : ℕ) → JoinsGoOn old new count → ending_of new pc ≡ ending_of old pc
same_ending old new count pc g = λ i. record { code = code_of (g.program i); packets = g.packets i; pc = pc }

pub same_ground : (old new : Joins) (count : ℕ) → JoinsGoOn old new count → ground_of new ≡ ground_of old
same_ground old new count g = λ i. record { code = code_of (g.program i); packets = g.packets i }

pub goes_on : (a b c : Joins) (m n : ℕ) → JoinsGoOn a b m → JoinsGoOn b c n → JoinsGoOn a c c.count
goes_on a b c m n x y = record { program = y.program ∙ x.program; packets = y.packets ∙ x.packets; stretches = y.stretches ∙ x.stretches; count = refl }

pub goes_to : (a b : Joins) (m n : ℕ) → JoinsGoOn a b m → b.count ≡ n → JoinsGoOn a b n
goes_to a b m n x e = record { program = x.program; packets = x.packets; stretches = x.stretches; count = e }

-- what a step of the joins of a thread is given
pub asked_slice : (a b : Joins) (m : ℕ) (ws here : List Walked) (r : RanSlice) (rs : List RanSlice) → JoinsGoOn a b m → here ≡ ws → AreRan a.stretches.items ws (r ∷ rs) → AreRan b.stretches.items here (r ∷ rs)
asked_slice a b m ws here r rs g e x = subst (λ (ks : List FinishedWalk). AreRan ks here (r ∷ rs)) (sym g.stretches) (subst (λ (vs : List Walked). AreRan a.stretches.items vs (r ∷ rs)) (sym e) x)

pub asked_thread : (a b : Joins) (m : ℕ) (ws here : List Walked) (rs : List RanSlice) → JoinsGoOn a b m → here ≡ ws → AreRan a.stretches.items ws rs → AreRan b.stretches.items here rs
asked_thread a b m ws here rs g e x = subst (λ (ks : List FinishedWalk). AreRan ks here rs) (sym g.stretches) (subst (λ (vs : List Walked). AreRan a.stretches.items vs rs) (sym e) x)

-- the first note that is left
pub note_left : (notes : List KeptNote) (i : ℕ) (note : KeptNote) → i < length notes → note ≡ get_or notes i note → map known_by (drop i notes) ≡ known_by note ∷ map known_by (drop (i + 1) notes)
note_left notes i note within at = ap (map known_by) (at_drop_more (λ (xs : List KeptNote). xs) notes i note within ∙ ap (λ (x : KeptNote). x ∷ drop (i + 1) notes) (sym at))

-- the entries of slices that were walked, in order
map_put : (w : Walked) (ws : List Walked) → map (λ (v : Walked). v.slice) (put (λ (v : Walked). clock_of v.slice.start) w ws) ≡ put (λ (e : StreamSlice). clock_of e.start) w.slice (map (λ (v : Walked). v.slice) ws)
map_put w [] = refl
map_put w (v ∷ ws) = go (nat_le (clock_of w.slice.start) (clock_of v.slice.start)) (map_put w ws) where
  go : (b : Bool) → map (λ (v : Walked). v.slice) (put (λ (v : Walked). clock_of v.slice.start) w ws) ≡ put (λ (e : StreamSlice). clock_of e.start) w.slice (map (λ (v : Walked). v.slice) ws)
      → map (λ (v : Walked). v.slice) (cond b (w ∷ v ∷ ws) (v ∷ put (λ (v : Walked). clock_of v.slice.start) w ws)) ≡ cond b (w.slice ∷ v.slice ∷ map (λ (v : Walked). v.slice) ws) (v.slice ∷ put (λ (e : StreamSlice). clock_of e.start) w.slice (map (λ (v : Walked). v.slice) ws))
  go true h = refl
  go false h = ap (λ (es : List StreamSlice). v.slice ∷ es) h

map_by_time : (ws : List Walked) → map (λ (v : Walked). v.slice) (by_time (λ (v : Walked). clock_of v.slice.start) ws) ≡ by_time (λ (e : StreamSlice). clock_of e.start) (map (λ (v : Walked). v.slice) ws)
map_by_time [] = refl
map_by_time (w ∷ ws) = map_put w (by_time (λ (v : Walked). clock_of v.slice.start) ws) ∙ ap (put (λ (e : StreamSlice). clock_of e.start) w.slice) (map_by_time ws)

pub told_in_order : (all : List FinishedWalk) (ws vs : List Walked) (rs : List RanSlice) (ts : List ToldSlice) → AreRan all ws rs → map (λ (r : RanSlice). r.told) rs ≡ ts
    → ((n : ℕ) → filter (λ (w : Walked). context_of w.slice.start == n) vs ≡ by_time (λ (w : Walked). clock_of w.slice.start) (filter (λ (w : Walked). context_of w.slice.start == n) ws))
    → (n : ℕ) → AreEntriesOf (map (λ (w : Walked). w.slice) (filter (λ (w : Walked). context_of w.slice.start == n) vs)) (slices_of n ts)
told_in_order all ws vs rs ts a e times n =
    let es = map (λ (w : Walked). w.slice) ws in
    let told : AreEntriesOf es ts = subst (λ (us : List ToldSlice). AreEntriesOf es us) e (ran_told all ws rs a) in
    let same : map (λ (w : Walked). w.slice) (filter (λ (w : Walked). context_of w.slice.start == n) vs) ≡ by_time (λ (e : StreamSlice). clock_of e.start) (filter (λ (e : StreamSlice). context_of e.start == n) es) =
    ap (map (λ (w : Walked). w.slice)) (times n) ∙ map_by_time (filter (λ (w : Walked). context_of w.slice.start == n) ws) ∙ ap (by_time (λ (e : StreamSlice). clock_of e.start)) (sym (map_filter n ws)) in
    subst (λ (xs : List StreamSlice). AreEntriesOf xs (slices_of n ts)) (sym same) (told_slices n es ts told)

pub told_again : (all : List FinishedWalk) (ws vs : List Walked) (rs : List RanSlice) → AreRan all ws rs → IsPermutation ws vs → (us : List ToldSlice) × AreEntriesOf (map (λ (w : Walked). w.slice) vs) us
told_again all ws vs rs a p = told_permuted (map (λ (w : Walked). w.slice) ws) (map (λ (w : Walked). w.slice) vs) (map (λ (r : RanSlice). r.told) rs) (IsPermutation-map (λ (w : Walked). w.slice) ws vs p) (ran_told all ws rs a)

-- a slice and its rows were added
pub slice_added : (old : ThreadRows) (r : RanSlice) (rs : List RanSlice) (more steps : List StepRow) (told : List Slice) (slice : Slice) (next : Option ℕ) (first len : ℕ) → steps ≡ (old.steps ++ r.rows) ++ more → first ≡ length old.steps → len ≡ length ((old.steps ++ r.rows) ++ more)
    → slice ≡ record { stream = r.told.stream; begin = begin_of r.told; end = end_before r.told next; first = first; count = len - first } → next ≡ option_map begin_of_ran (head_of rs) → told ≡ old.slices ++ slice ∷ []
    → ◌≡◌ {A = ThreadRows} (record { steps = steps; slices = told }) (record { steps = old.steps ++ (with_rows r (reverse more)).rows; slices = old.slices ++ slice_before (with_rows r (reverse more)) (option_map begin_of_ran (head_of rs)) (length old.steps) ∷ [] })
slice_added old r rs more steps told slice next first len steps_are first_is len_is slice_is next_is told_is =
    let rows : steps ≡ old.steps ++ (r.rows ++ reverse (reverse more)) = steps_are ∙ append_assoc old.steps r.rows more ∙ ap (λ (xs : List StepRow). old.steps ++ (r.rows ++ xs)) (sym (reverse-reverse more)) in
    let back = length-reverse (reverse more) in
    let back_too = length-reverse more in
    let a = length-append (old.steps ++ r.rows) more in
    let b = length-append old.steps r.rows in
    let d = length-append r.rows (reverse (reverse more)) in
    let count : len - first ≡ length (r.rows ++ reverse (reverse more)) = omega (arith, first_is, len_is, a, b, d, back, back_too) in
    let one : slice ≡ slice_before (with_rows r (reverse more)) (option_map begin_of_ran (head_of rs)) (length old.steps) = slice_is ∙ (λ i. record { stream = r.told.stream; begin = begin_of r.told; end = end_before r.told (next_is i); first = first_is i; count = count i }) in
    λ i. record { steps = rows i; slices = (told_is ∙ ap (λ (x : Slice). old.slices ++ x ∷ []) one) i }
