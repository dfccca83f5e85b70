-- A run of one thread in one slice, all of which is told, is a path that ends at the program
-- counter of the thread's note.
use Rattle.std.proofs.Common.{◌≡◌, ℕ, ◌+◌, ◌-◌, ◌<◌, ◌==◌, eqb, nat_le, cond, Bool, true, false, List, [], ◌∷◌, ◌++◌, length, map, reverse, Option, Some, None, Result, Ok, Err, inl, inr, refl, sym, ap, ◌∙◌, subst, arith, append-nil, append_assoc, length-append}
use Rattle.std.specs.Prelude.{◌%◌, ◌&&◌}
use Rattle.std.proofs.lemmas.Bool.{true≢false}
use Rattle.std.proofs.lemmas.List.{reverse-append}
use Rattle.std.proofs.lemmas.Bool.Decides.{eqb_tells}
use Rattle.rept_isa.specs.declared.instr.Instr.{Instr}
use Rattle.rept_isa.specs.declared.row.StepRow.{StepRow}
use Rattle.rept_steps.specs.declared.run.Run.{Run}
use Rattle.rept_steps.specs.declared.slice.Slice.{Slice}
use Rattle.rept_steps.specs.declared.threads.ThreadRows.{ThreadRows}
use Rattle.rept_steps.specs.Linked.{EndBefore}
use Rattle.rept_path.specs.Code.{Code, look, after_instruction, alignment, flow_of, calls_there}
use Rattle.rept_path.specs.declared.flow.Flow.{Flow}
use Rattle.rept_path.specs.declared.flow.Flow.TheVariants.{Plain, Branch, Jump, Fixed, Far, Call, Stop}
use Rattle.rept_path.specs.declared.fault.PathFault.{PathFault}
use Rattle.rept_path.specs.declared.fault.PathFault.TheVariants.{TooLong}
use Rattle.rept_path.specs.Moves.{Stand, ◌>>=◌}
use Rattle.rept_path.specs.Gap.{Goal, Edge, gap, row, call_row, crossing, by_flow, by_successor}
use Rattle.rept_path.proofs.MoveLemmas.{bind_ok}
use Rattle.rept_streams.specs.Slices.Order.{head_of}
use Rattle.rept_streams.specs.Slices.Stretches.{RanSlice, ran}
use Rattle.rept_streams.specs.Slices.Joins.{ThreadNote, ThreadGround, JoinGround, JoinedSlice, bridge, with_rows, join, slices, thread, thread_ground, of_thread, rows_in, ran_rows, threads, stand_at}
use Rattle.rept_streams.specs.Slices.Many.{left, ground}
use Rattle.rept_streams.specs.Slices.Raw.{note_in, code_in, traces}
use Rattle.rept_moments.specs.Seen.{rows_in as rows_of_slices, alone_by}
use Rattle.rept_dump.specs.Registers.{saved_pc}
use Rattle.rept_streams.specs.Runs.Calls.{entered}
use Rattle.rept_streams.proofs.RunsLemmas.Entering.{entered_alone}
use Rattle.rept_streams.specs.Runs.Told.{Traced, IsTracedRun, files_in}
use Rattle.rept_streams.specs.Runs.Kind.{path_rows, EndsPath}
use Rattle.rept_streams.proofs.RunsLemmas.Few.{walked_threads, threads_count, ok_same, err_ok}

-- where there are rows, the newest one leads to the address
record Led (to : ℕ) (rows : List StepRow) : Type 0 where
  row : StepRow
  rest : List StepRow
  is : rows ≡ row ∷ rest
  next : row.next ≡ to

abbrev Leads : ℕ → Result (List StepRow) PathFault → Type 0
Leads to r = (rows : List StepRow) → r ≡ Ok rows → Led to rows

leads_rows : (to : ℕ) (r : StepRow) (rs : List StepRow) → r.next ≡ to → Leads to (Ok (r ∷ rs))
leads_rows to r rs e rows is = record { row = r; rest = rs; is = sym (ok_same is); next = e }

leads_err : (to : ℕ) (e : PathFault) → Leads to (Err e)
leads_err to e rows is = absurd (err_ok is)

leads_cond : (to : ℕ) (b : Bool) (x y : Result (List StepRow) PathFault) → (b ≡ true → Leads to x) → Leads to y → Leads to (cond b x y)
leads_cond to true x y h k = h refl
leads_cond to false x y h k = k

leads_bind : (to : ℕ) (next : Result ℕ PathFault) (f : ℕ → Result (List StepRow) PathFault) → ((n : ℕ) → Leads to (f n)) → Leads to (next >>= f)
leads_bind to (Ok n) f h = h n
leads_bind to (Err e) f h = leads_err to e

eqb_is : (a b : ℕ) → eqb a b ≡ true → a ≡ b
eqb_is a b h = elim (eqb_tells a b) [ inl t ↦ t.1 | inr t ↦ absurd (true≢false (sym h ∙ t.0)) ]

successor_leads : (code : Code) (e : Edge) (n : ℕ) → Leads e.to (by_successor code e n)
successor_leads code e n =
    leads_cond e.to (n == e.to) _ _ (λ same. leads_rows e.to (row e n false) [] (eqb_is n e.to same))
    (leads_cond e.to (calls_there (look code n) && e.to == after_instruction code n) _ _ (λ _. leads_rows e.to (call_row code n e.to) (row e n false ∷ []) refl) (leads_err e.to e.otherwise))

flow_leads : (code : Code) (e : Edge) (next : Result ℕ PathFault) (f : Flow) → Leads e.to (by_flow code e next f)
flow_leads code e next Call = leads_cond e.to (e.to == after_instruction code e.at) _ _ (λ _. leads_rows e.to (row e e.to true) [] refl) (leads_err e.to e.otherwise)
flow_leads code e next Far = leads_cond e.to (e.to % alignment code == 0) _ _ (λ _. leads_rows e.to (row e e.to false) [] refl) (leads_err e.to e.otherwise)
flow_leads code e next Stop = leads_err e.to e.otherwise
flow_leads code e next Plain = leads_bind e.to next (by_successor code e) (successor_leads code e)
flow_leads code e next (Jump imm) = leads_bind e.to next (by_successor code e) (successor_leads code e)
flow_leads code e next (Fixed to) = leads_bind e.to next (by_successor code e) (successor_leads code e)
flow_leads code e next (Branch imm) = leads_bind e.to next (by_successor code e) (successor_leads code e)

gap_leads : (code : Code) (s : Stand) (goal : Goal) (rows : List StepRow) → gap code s goal ≡ Ok rows → Led goal.address rows
unfolding gap
gap_leads code s goal rows is =
    let f : List StepRow → Result (List StepRow) PathFault = λ xs. cond (nat_le (length s.place.rows + length xs) s.room) (Ok xs) (Err (TooLong s.packet)) in
    let cross : Instr → Result (List StepRow) PathFault = λ i. crossing code s goal i in
    let b = bind_ok (look code s.place.at) (λ i. cross i >>= f) rows is in
    let c = bind_ok (cross b.0) f rows b.2 in
    subst (Led goal.address) (same (nat_le (length s.place.rows + length c.0) s.room) c.0 c.2) (flow_leads code _ _ (flow_of b.0) c.0 c.1)
  where
    same : (b : Bool) (xs : List StepRow) → cond b (Ok xs) (Err (TooLong s.packet)) ≡ Ok rows → xs ≡ rows
    same true xs h = ok_same h
    same false xs h = absurd (err_ok h)

-- the last of rows
end_at : (xs : List StepRow) (row : StepRow) (a : ℕ) → row.next ≡ a → EndBefore (xs ++ row ∷ []) a
end_at [] row a e = e
end_at (x ∷ []) row a e = e
end_at (x ∷ y ∷ xs) row a e = end_at (y ∷ xs) row a e

-- a path, and where it ends
record EndsAt (a : ℕ) (rows : List StepRow) : Type 0 where
  some : 0 < length rows
  ends : EndBefore rows a

led_ends : (a : ℕ) (own more : List StepRow) → Led a more → EndsAt a (own ++ reverse more)
led_ends a own more led =
    let back : own ++ reverse more ≡ (own ++ reverse led.rest) ++ led.row ∷ [] =
    ap (λ (xs : List StepRow). own ++ reverse xs) led.is ∙ ap (λ (xs : List StepRow). own ++ xs) (reverse-append (led.row ∷ []) led.rest) ∙ sym (append_assoc own (reverse led.rest) (led.row ∷ [])) in
    let n = length-append (own ++ reverse led.rest) (led.row ∷ []) in
    subst (EndsAt a) (sym back) (record { some = omega arith; ends = end_at (own ++ reverse led.rest) led.row a led.next })

join_count : (e : ThreadGround) (count : ℕ) (rs : List RanSlice) (js : List JoinedSlice) → join e count rs ≡ Ok js → length js ≡ length rs
join_count e count [] js is = ap (λ (xs : List JoinedSlice). length xs) (sym (ok_same is))
join_count e count (r ∷ rs) js is =
    let b = bind_ok (bridge e count r (head_of rs)) (λ more. join e (count + length more) rs >>= (λ others. Ok (with_rows r more ∷ others))) js is in
    let c = bind_ok (join e (count + length b.0) rs) (λ others. Ok (with_rows r b.0 ∷ others)) js b.2 in
    let rest = join_count e (count + length b.0) rs c.0 c.1 in
    let n = ap (λ (xs : List JoinedSlice). length xs) (ok_same c.2) in
    omega arith

slices_count : (first : ℕ) (js : List JoinedSlice) → length (slices first js) ≡ length js
slices_count first [] = refl
slices_count first (j ∷ js) = let rest = slices_count (first + length j.rows) js in omega arith

no_more : {A : Type 0} (xs : List A) → length xs ≡ 0 → xs ≡ []
no_more [] e = refl
no_more (x ∷ xs) e = absurd (omega arith)

-- the rows of a thread of one slice
joined_one : (e : ThreadGround) (count : ℕ) (rs : List RanSlice) (js : List JoinedSlice) (s : Slice) → join e count rs ≡ Ok js → slices 0 js ≡ s ∷ [] → EndsAt e.pc (thread js).steps
joined_one e count [] js s is one =
    let n = join_count e count [] js is in
    let m = slices_count 0 js in
    let k = ap (λ (xs : List Slice). length xs) one in
    absurd (omega arith)
joined_one e count (r ∷ []) js s is one =
    let b = bind_ok (bridge e count r None) (λ more. join e (count + length more) [] >>= (λ others. Ok (with_rows r more ∷ others))) js is in
    let c = bind_ok (join e (count + length b.0) []) (λ others. Ok (with_rows r b.0 ∷ others)) js b.2 in
    let none : [] ≡ c.0 = ok_same c.1 in
    let whole : js ≡ with_rows r b.0 ∷ [] = sym (ok_same c.2) ∙ ap (λ (xs : List JoinedSlice). with_rows r b.0 ∷ xs) (sym none) in
    let rows : (thread js).steps ≡ r.rows ++ reverse b.0 = ap (λ (xs : List JoinedSlice). (thread xs).steps) whole ∙ append-nil (r.rows ++ reverse b.0) in
    subst (EndsAt e.pc) (sym rows) (led_ends e.pc r.rows b.0 (gap_leads e.code (stand_at e.packets r count) _ b.0 b.1))
joined_one e count (r ∷ q ∷ rs) js s is one =
    let n = join_count e count (r ∷ q ∷ rs) js is in
    let m = slices_count 0 js in
    let k = ap (λ (xs : List Slice). length xs) one in
    absurd (omega arith)

first_same : {x y : ThreadRows} {xs ys : List ThreadRows} → x ∷ xs ≡ y ∷ ys → x ≡ y
first_same e = cc

rest_same : {x y : ThreadRows} {xs ys : List ThreadRows} → x ∷ xs ≡ y ∷ ys → xs ≡ ys
rest_same e = cc

nil_more : {x : ThreadRows} {xs : List ThreadRows} → [] ≡ x ∷ xs → ⊥
nil_more e = cc

-- the only note, and how its thread ends
record Only (notes : List ThreadNote) (rows : List StepRow) : Type 0 where
  note : ThreadNote
  is : notes ≡ note ∷ []
  ends : EndsAt note.pc rows

threads_one : (g : JoinGround) (count : ℕ) (notes : List ThreadNote) (rs : List RanSlice) (th : ThreadRows) (s : Slice) → threads g count notes rs ≡ Ok (th ∷ []) → th.slices ≡ s ∷ [] → Only notes th.steps
threads_one g count [] rs th s is one = absurd (nil_more (ok_same is))
threads_one g count (note ∷ notes) rs th s is one =
    let own = of_thread note.process rs in
    let b = bind_ok (join (thread_ground g.code g.packets note) count own) (λ js. threads g (count + (rows_in js - ran_rows own)) notes rs >>= (λ others. Ok (thread js ∷ others))) (th ∷ []) is in
    let c = bind_ok (threads g (count + (rows_in b.0 - ran_rows own)) notes rs) (λ others. Ok (thread b.0 ∷ others)) (th ∷ []) b.2 in
    let same : thread b.0 ≡ th = first_same (ok_same c.2) in
    let none : c.0 ≡ [] = rest_same (ok_same c.2) in
    let n = threads_count g (count + (rows_in b.0 - ran_rows own)) notes rs c.0 c.1 in
    let k = ap (λ (xs : List ThreadRows). length xs) none in
    record {
      note = note;
      is = ap (λ (xs : List ThreadNote). note ∷ xs) (no_more notes (omega arith));
      ends = subst (λ (x : ThreadRows). EndsAt note.pc x.steps) same (joined_one (thread_ground g.code g.packets note) count own b.0 s b.1 (ap (λ (x : ThreadRows). x.slices) same ∙ one));
    }

-- one thread in one slice
record Alone (all : List ThreadRows) (rows : List StepRow) : Type 0 where
  thread : ThreadRows
  is : all ≡ thread ∷ []
  slice : Slice
  whole : thread.slices ≡ slice ∷ []
  own : thread.steps ≡ rows

none_some : {x : List StepRow} → None ≡ Some x → ⊥
none_some e = cc

some_same : {x y : List StepRow} → Some x ≡ Some y → x ≡ y
some_same e = cc

alone_of : (all : List ThreadRows) (untraced : Option ℕ) (rows : List StepRow) → alone_by all untraced ≡ Some rows → Alone all rows
alone_of [] untraced rows e = absurd (none_some e)
alone_of (th ∷ []) (Some d) rows e = absurd (none_some e)
alone_of (th ∷ []) None rows e = of_slices th.slices refl e
  where
    of_slices : (ss : List Slice) → th.slices ≡ ss → rows_of_slices ss th.steps ≡ Some rows → Alone (th ∷ []) rows
    of_slices [] is h = absurd (none_some h)
    of_slices (s ∷ []) is h = record { thread = th; is = refl; slice = s; whole = is; own = some_same h }
    of_slices (s ∷ u ∷ ss) is h = absurd (none_some h)
alone_of (th ∷ other ∷ all) untraced rows e = absurd (none_some e)

desc_of : (descs : List (List ℕ)) (rows : List StepRow) → Only (map note_in descs) rows → EndsPath descs rows
desc_of [] rows only = absurd (let n = ap (λ (xs : List ThreadNote). length xs) only.is in omega arith)
desc_of (desc ∷ []) rows only =
    let same : note_in desc ≡ only.note = first_note only.is in
    record { desc = desc; is = refl; some = only.ends.some; ends = subst (λ (n : ThreadNote). EndBefore rows n.pc) (sym same) only.ends.ends }
  where
    first_note : {x y : ThreadNote} {xs ys : List ThreadNote} → x ∷ xs ≡ y ∷ ys → x ≡ y
    first_note e = cc
desc_of (desc ∷ other ∷ descs) rows only = absurd (let n = ap (λ (xs : List ThreadNote). length xs) only.is in omega arith)

pub path_ends : (t : Traced) (run : Run) (rows : List StepRow) → IsTracedRun t run → path_rows run ≡ Some rows → EndsPath t.notes rows
path_ends t run rows is one =
    let told = is.2.0 in
    let code = code_in (files_in t is.0) in
    let pcs = map saved_pc t.notes in
    let same : entered code pcs told ≡ told = entered_alone code pcs told rows (subst (λ (r : Run). path_rows r ≡ Some rows) is.2.2 one) in
    let only : path_rows told ≡ Some rows = subst (λ (r : Run). path_rows r ≡ Some rows) (is.2.2 ∙ same) one in
    let alone = alone_of told.threads told.untraced rows only in
    let w = walked_threads (traces (files_in t is.0) is.2.1.0) told is.2.1.2 in
    let all : w.0 ≡ alone.thread ∷ [] = w.2 ∙ alone.is in
    let own = traces (files_in t is.0) is.2.1.0 in
    let rs = ran own.code (left own) is.2.1.2.walked in
    let made = subst (λ (xs : List ThreadRows). threads (ground own) (ran_rows rs) (map note_in t.notes) rs ≡ Ok xs) all w.1 in
    desc_of t.notes rows (subst (Only (map note_in t.notes)) alone.own (threads_one (ground own) (ran_rows rs) (map note_in t.notes) rs alone.thread alone.slice made alone.whole))
