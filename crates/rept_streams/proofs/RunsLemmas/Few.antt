-- How many rows a run has: the rows of joins have room, so all of them together are few, where no
-- two threads are of one process.
use Rattle.std.proofs.Common.{◌≡◌, ◌≢◌, ◌⊎◌, ℕ, ◌+◌, ◌-◌, ◌<◌, ◌≤◌, eqb, nat_le, cond, Bool, true, false, List, [], ◌∷◌, length, map, reverse, Some, None, Result, Ok, Err, slice_get, inl, inr, refl, sym, ap, ◌∙◌, subst, arith, length-append}
use Rattle.std.specs.List.{filter, flat_map, list_any}
use Rattle.std.specs.Prelude.{◌%◌, ◌==◌, ◌&&◌, ◌||◌}
use Rattle.std.proofs.lemmas.List.{length-reverse}
use Rattle.std.proofs.lemmas.List.Sums.{sum_by-cons}
use Rattle.std.proofs.lemmas.Bool.{true≢false, ne_eqb}
use Rattle.std.proofs.lemmas.Bool.Decides.{leb_tells, eqb_tells}
use Rattle.rept_isa.specs.declared.instr.Instr.{Instr}
use Rattle.rept_isa.specs.declared.row.StepRow.{StepRow}
use Rattle.rept_steps.specs.declared.threads.ThreadRows.{ThreadRows}
use Rattle.rept_path.specs.Code.{Code, look, after_instruction, is_short, alignment, flow_of, calls_there}
use Rattle.rept_path.specs.declared.flow.Flow.{Flow}
use Rattle.rept_path.specs.declared.flow.Flow.TheVariants.{Plain, Branch, Jump, Fixed, Far, Call, Stop}
use Rattle.rept_path.specs.declared.fault.PathFault.{PathFault}
use Rattle.rept_path.specs.declared.fault.PathFault.TheVariants.{TooLong}
use Rattle.rept_path.specs.Moves.{Stand, site, successor, way_by, ◌>>=◌}
use Rattle.rept_path.specs.Gap.{Goal, Edge, gap, row, call_row, crossing, by_flow, by_successor}
use Rattle.rept_path.proofs.MoveLemmas.{bind_ok}
use Rattle.rept_streams.specs.Slices.Parts.{thread_of, begin_of}
use Rattle.rept_streams.specs.Slices.Order.{put, by_time, head_of}
use Rattle.rept_streams.specs.Slices.Stretches.{RanSlice, ran}
use Rattle.rept_streams.specs.Slices.Joins.{ThreadNote, ThreadGround, JoinGround, JoinedSlice, bridge, with_rows, join, thread, thread_ground, of_thread, rows_in, ran_rows, threads, stand_at}
use Rattle.rept_streams.specs.Slices.Checks.{first_fault}
use Rattle.rept_streams.specs.Slices.Many.{Traces, IsRunOfStreams, processes, left, ground, overlap_fault, unmet, run_by}
use Rattle.rept_streams.specs.Slices.Raw.{note_in, code_in, traces}
use Rattle.rept_dump.specs.Registers.{first_twin, pid_of, saved_pc}
use Rattle.rept_steps.specs.declared.run.Run.{Run}
use Rattle.rept_steps.specs.Course.{IsSoundCourse}
use Rattle.rept_steps.specs.Runs.{course_of}
use Rattle.rept_streams.proofs.ThreadsLemmas.Wholes.{file_sound}
use Rattle.rept_timeline.specs.Small.{IsSmall, rows_in as rows_of_threads}
use Rattle.rept_streams.proofs.RunsLemmas.Entering.{entered_count, entered_small, entered_sound}
use Rattle.rept_streams.specs.Runs.Told.{Traced, IsTracedRun, AreNotesApart, files_in}

pub ok_same : {A : Type 0} {x y : A} → ◌≡◌ {A = Result A PathFault} (Ok x) (Ok y) → x ≡ y
ok_same e = cc

pub err_ok : {A : Type 0} {x : A} {e : PathFault} → ◌≡◌ {A = Result A PathFault} (Err e) (Ok x) → ⊥
err_ok h = cc

ran_cons : (r : RanSlice) (rs : List RanSlice) → ran_rows (r ∷ rs) ≡ length r.rows + ran_rows rs
ran_cons r rs = sum_by-cons (λ (q : RanSlice). length q.rows) r rs

joined_cons : (j : JoinedSlice) (js : List JoinedSlice) → rows_in (j ∷ js) ≡ length j.rows + rows_in js
joined_cons j js = sum_by-cons (λ (k : JoinedSlice). length k.rows) j js

-- where there are rows, there is one at least
abbrev HasRow : Result (List StepRow) PathFault → Type 0
HasRow r = (rows : List StepRow) → r ≡ Ok rows → 0 < length rows

has_rows : (r : StepRow) (rs : List StepRow) → HasRow (Ok (r ∷ rs))
has_rows r rs rows is = let n = ap (λ (xs : List StepRow). length xs) (ok_same is) in omega arith

has_err : (e : PathFault) → HasRow (Err e)
has_err e rows is = absurd (err_ok is)

has_cond : (b : Bool) (x y : Result (List StepRow) PathFault) → HasRow x → HasRow y → HasRow (cond b x y)
has_cond true x y h k = h
has_cond false x y h k = k

has_bind : (next : Result ℕ PathFault) (f : ℕ → Result (List StepRow) PathFault) → ((n : ℕ) → HasRow (f n)) → HasRow (next >>= f)
has_bind (Ok n) f h = h n
has_bind (Err e) f h = has_err e

successor_has : (code : Code) (e : Edge) (n : ℕ) → HasRow (by_successor code e n)
successor_has code e n =
    has_cond (n == e.to) _ _ (has_rows (row e n false) [])
    (has_cond (calls_there (look code n) && e.to == after_instruction code n) _ _ (has_rows (call_row code n e.to) (row e n false ∷ [])) (has_err e.otherwise))

flow_has : (code : Code) (e : Edge) (next : Result ℕ PathFault) (f : Flow) → HasRow (by_flow code e next f)
flow_has code e next Call = has_cond (e.to == after_instruction code e.at) _ _ (has_rows (row e e.to true) []) (has_err e.otherwise)
flow_has code e next Far = has_cond (e.to % alignment code == 0) _ _ (has_rows (row e e.to false) []) (has_err e.otherwise)
flow_has code e next Stop = has_err e.otherwise
flow_has code e next Plain = has_bind next (by_successor code e) (successor_has code e)
flow_has code e next (Jump imm) = has_bind next (by_successor code e) (successor_has code e)
flow_has code e next (Fixed to) = has_bind next (by_successor code e) (successor_has code e)
flow_has code e next (Branch imm) = has_bind next (by_successor code e) (successor_has code e)

crossing_has : (code : Code) (s : Stand) (goal : Goal) (i : Instr) → HasRow (crossing code s goal i)
crossing_has code s goal i =
    flow_has code (record { at = s.place.at; instr = i; short = is_short code s.place.at; to = goal.address; otherwise = goal.otherwise })
    (successor s.packet (site code s.place.at) (flow_of i) (way_by (slice_get s.bits s.place.branches) None)) (flow_of i)

-- the rows of a gap: at least one, and there is room for them
gap_some : (code : Code) (s : Stand) (goal : Goal) (rows : List StepRow) → gap code s goal ≡ Ok rows → (0 < length rows) × (length s.place.rows + length rows ≤ s.room)
unfolding gap
gap_some code s goal rows is =
    let f : List StepRow → Result (List StepRow) PathFault = λ xs. cond (nat_le (length s.place.rows + length xs) s.room) (Ok xs) (Err (TooLong s.packet)) in
    let cross : Instr → Result (List StepRow) PathFault = λ i. crossing code s goal i in
    let b = bind_ok (look code s.place.at) (λ i. cross i >>= f) rows is in
    let c = bind_ok (cross b.0) f rows b.2 in
    let fits = fit c.0 c.2 in
    let some : 0 < length c.0 = crossing_has code s goal b.0 c.0 c.1 in
    let n = ap (λ (xs : List StepRow). length xs) fits.0 in
    (omega arith, fits.1)
  where
    fit : (xs : List StepRow) → cond (nat_le (length s.place.rows + length xs) s.room) (Ok xs) (Err (TooLong s.packet)) ≡ Ok rows → (xs ≡ rows) × (length s.place.rows + length rows ≤ s.room)
    fit xs h = elim (leb_tells (length s.place.rows + length xs) s.room) [
      | inl t ↦ (let le = t.1 in let k = rw t.0 at h in let e : xs ≡ rows = ok_same k in let n = ap (λ (ys : List StepRow). length ys) e in (e, omega arith))
      | inr t ↦ absurd (let k = rw t.0 at h in err_ok k)
    ]

-- the last slice of a thread leads to the end, so there is room for a row
end_fits : (e : ThreadGround) (count : ℕ) (r : RanSlice) (more : List StepRow) → bridge e count r None ≡ Ok more → count + length more ≤ 65536
end_fits e count r more is =
    let fits = gap_some e.code (stand_at e.packets r count) _ more is in
    let some = fits.0 in let room : length more ≤ 65536 - count = omega (arith, fits.1) in
    omega arith

-- the rows of a thread's slices with those of its joins: they are no fewer, and with so many rows
-- of all threads before there is room for them
record Fits (count : ℕ) (rs : List RanSlice) (js : List JoinedSlice) : Type 0 where
  own : ran_rows rs ≤ rows_in js
  none : rs ≡ [] → rows_in js ≡ 0
  room : (rs ≡ []) ⊎ (count + (rows_in js - ran_rows rs) ≤ 65536)

some_nil : {r : RanSlice} {rs : List RanSlice} → r ∷ rs ≡ [] → ⊥
some_nil e = cc

with_rows_count : (r : RanSlice) (more : List StepRow) → length (with_rows r more).rows ≡ length r.rows + length more
with_rows_count r more = let n = length-append r.rows (reverse more) in let m = length-reverse more in omega arith

-- the first slice, where the others fit
first_fits : (e : ThreadGround) (count : ℕ) (r : RanSlice) (rs : List RanSlice) (more : List StepRow) (others : List JoinedSlice) (all : ℕ) → bridge e count r (head_of rs) ≡ Ok more → Fits (count + length more) rs others → all ≡ length r.rows + length more + rows_in others → count + (all - (length r.rows + ran_rows rs)) ≤ 65536
first_fits e count r [] more others all led rest n = let room = end_fits e count r more led in let none = rest.none refl in omega arith
first_fits e count r (q ∷ rs) more others all led rest n =
    let own = rest.own in
    elim rest.room [
      | inl nil ↦ absurd (some_nil nil)
      | inr room ↦ omega arith
    ]

join_fits : (e : ThreadGround) (count : ℕ) (rs : List RanSlice) (js : List JoinedSlice) → join e count rs ≡ Ok js → Fits count rs js
join_fits e count [] js is = let n = ap (λ (xs : List JoinedSlice). rows_in xs) (ok_same is) in record { own = omega arith; none = λ nil. omega arith; room = inl refl }
join_fits e count (r ∷ rs) js is =
    let b = bind_ok (bridge e count r (head_of rs)) (λ more. join e (count + length more) rs >>= (λ others. Ok (with_rows r more ∷ others))) js is in
    let c = bind_ok (join e (count + length b.0) rs) (λ others. Ok (with_rows r b.0 ∷ others)) js b.2 in
    let rest = join_fits e (count + length b.0) rs c.0 c.1 in
    let first = with_rows_count r b.0 in
    let n : length (with_rows r b.0).rows + rows_in c.0 ≡ rows_in js = sym (joined_cons (with_rows r b.0) c.0) ∙ ap (λ (xs : List JoinedSlice). rows_in xs) (ok_same c.2) in
    let own = rest.own in
    let all = ran_cons r rs in
    let fits = first_fits e count r rs b.0 c.0 (rows_in js) b.1 rest (omega arith) in
    record { own = omega arith; none = λ nil. absurd (some_nil nil); room = inr (omega arith) }

-- how many rows the slices of these threads have
own_rows : List ThreadNote → List RanSlice → ℕ
own_rows [] rs = 0
own_rows (note ∷ notes) rs = ran_rows (of_thread note.process rs) + own_rows notes rs

thread_count : (js : List JoinedSlice) → length (thread js).steps ≡ rows_in js
thread_count [] = refl
thread_count (j ∷ js) = let rest = thread_count js in let all = joined_cons j js in let n = length-append j.rows (flat_map (λ (k : JoinedSlice). k.rows) js) in omega arith

threads_fit : (g : JoinGround) (count : ℕ) (notes : List ThreadNote) (rs : List RanSlice) (all : List ThreadRows) → threads g count notes rs ≡ Ok all → (rows_of_threads all ≡ 0) ⊎ (rows_of_threads all + count ≤ 65536 + own_rows notes rs)
unfolding own_rows
threads_fit g count [] rs all is = inl (ap (λ (xs : List ThreadRows). rows_of_threads xs) (sym (ok_same is)))
threads_fit g count (note ∷ notes) rs all is =
    let own = of_thread note.process rs in
    let b = bind_ok (join (thread_ground g.code g.packets note) count own) (λ js. threads g (count + (rows_in js - ran_rows own)) notes rs >>= (λ others. Ok (thread js ∷ others))) all is in
    let c = bind_ok (threads g (count + (rows_in b.0 - ran_rows own)) notes rs) (λ others. Ok (thread b.0 ∷ others)) all b.2 in
    let fits = join_fits (thread_ground g.code g.packets note) count own b.0 b.1 in
    let rest = threads_fit g (count + (rows_in b.0 - ran_rows own)) notes rs c.0 c.1 in
    let rows = thread_count b.0 in
    let n : length (thread b.0).steps + rows_of_threads c.0 ≡ rows_of_threads all = ap (λ (xs : List ThreadRows). rows_of_threads xs) (ok_same c.2) in
    let less = fits.own in
    elim fits.room [
      | inl nil ↦
          let none = fits.none nil in
          elim rest [ inl empty ↦ inl (omega arith) | inr few ↦ inr (omega arith) ]
      | inr room ↦ elim rest [ inl empty ↦ inr (omega arith) | inr few ↦ inr (omega arith) ]
    ]

pub threads_count : (g : JoinGround) (count : ℕ) (notes : List ThreadNote) (rs : List RanSlice) (all : List ThreadRows) → threads g count notes rs ≡ Ok all → length all ≡ length notes
threads_count g count [] rs all is = ap (λ (xs : List ThreadRows). length xs) (sym (ok_same is))
threads_count g count (note ∷ notes) rs all is =
    let own = of_thread note.process rs in
    let b = bind_ok (join (thread_ground g.code g.packets note) count own) (λ js. threads g (count + (rows_in js - ran_rows own)) notes rs >>= (λ others. Ok (thread js ∷ others))) all is in
    let c = bind_ok (threads g (count + (rows_in b.0 - ran_rows own)) notes rs) (λ others. Ok (thread b.0 ∷ others)) all b.2 in
    let rest = threads_count g (count + (rows_in b.0 - ran_rows own)) notes rs c.0 c.1 in
    let n = ap (λ (xs : List ThreadRows). length xs) (ok_same c.2) in
    omega arith

-- the slices of a thread in order have as many rows as in any
put_count : (time : RanSlice → ℕ) (x : RanSlice) (ys : List RanSlice) → ran_rows (put time x ys) ≡ length x.rows + ran_rows ys
put_count time x [] = ran_cons x []
put_count time x (y ∷ ys) = by_place (nat_le (time x) (time y)) (put_count time x ys)
  where
    by_place : (b : Bool) → ran_rows (put time x ys) ≡ length x.rows + ran_rows ys → ran_rows (cond b (x ∷ y ∷ ys) (y ∷ put time x ys)) ≡ length x.rows + ran_rows (y ∷ ys)
    by_place true rest = ran_cons x (y ∷ ys)
    by_place false rest = let there = ran_cons y (put time x ys) in let here = ran_cons y ys in omega arith

time_count : (time : RanSlice → ℕ) (xs : List RanSlice) → ran_rows (by_time time xs) ≡ ran_rows xs
time_count time [] = refl
time_count time (x ∷ xs) = let rest = time_count time xs in let all = ran_cons x xs in let n = put_count time x (by_time time xs) in omega arith

-- one slice more is a slice of this process or not
abbrev own_of : ℕ → List RanSlice → ℕ
own_of process rs = ran_rows (filter (λ (r : RanSlice). thread_of r.told == process) rs)

own_is : (process : ℕ) (rs : List RanSlice) → ran_rows (of_thread process rs) ≡ own_of process rs
own_is process rs = time_count (λ (r : RanSlice). begin_of r.told) (filter (λ (r : RanSlice). thread_of r.told == process) rs)

own_more : (process : ℕ) (r : RanSlice) (rs : List RanSlice) → thread_of r.told ≡ process → ran_rows (of_thread process (r ∷ rs)) ≡ length r.rows + ran_rows (of_thread process rs)
own_more process r rs same =
    let here : own_of process (r ∷ rs) ≡ length r.rows + own_of process rs = rw (eqb_refl_at (thread_of r.told) process same) (ran_cons r (filter (λ (q : RanSlice). thread_of q.told == process) rs)) in
    own_is process (r ∷ rs) ∙ here ∙ ap (λ (n : ℕ). length r.rows + n) (sym (own_is process rs))
  where
    eqb_refl_at : (a b : ℕ) → a ≡ b → eqb a b ≡ true
    eqb_refl_at a b e = elim (eqb_tells a b) [ inl t ↦ t.0 | inr t ↦ absurd (t.1 e) ]

own_other : (process : ℕ) (r : RanSlice) (rs : List RanSlice) → thread_of r.told ≢ process → ran_rows (of_thread process (r ∷ rs)) ≡ ran_rows (of_thread process rs)
own_other process r rs other =
    let here : own_of process (r ∷ rs) ≡ own_of process rs = rw (ne_eqb (thread_of r.told) process other) refl in
    own_is process (r ∷ rs) ∙ here ∙ sym (own_is process rs)

abbrev processes_in : List ThreadNote → List ℕ
processes_in notes = map (λ (n : ThreadNote). n.process) notes

-- no thread of these has the slice
own_none : (notes : List ThreadNote) (r : RanSlice) (rs : List RanSlice) → list_any (λ m. m == thread_of r.told) (processes_in notes) ≡ false → own_rows notes (r ∷ rs) ≡ own_rows notes rs
unfolding own_rows
own_none [] r rs none = refl
own_none (note ∷ notes) r rs none =
    elim (eqb_tells note.process (thread_of r.told)) [
      | inl t ↦ absurd (true≢false (sym (ap (λ (b : Bool). b || list_any (λ m. m == thread_of r.told) (processes_in notes)) t.0) ∙ none))
      | inr t ↦
          let others : list_any (λ m. m == thread_of r.told) (processes_in notes) ≡ false = sym (ap (λ (b : Bool). b || list_any (λ m. m == thread_of r.told) (processes_in notes)) t.0) ∙ none in
          let rest = own_none notes r rs others in
          let first = own_other note.process r rs (λ e. t.1 (sym e)) in
          omega arith
    ]

no_twin : (n : ℕ) (ns : List ℕ) → first_twin (n ∷ ns) ≡ None → (list_any (λ m. m == n) ns ≡ false) × (first_twin ns ≡ None)
no_twin n ns none = by_any (list_any (λ m. m == n) ns) refl none
  where
    some_none : Some n ≡ None → ⊥
    some_none h = cc

    by_any : (b : Bool) → list_any (λ m. m == n) ns ≡ b → cond b (Some n) (first_twin ns) ≡ None → (list_any (λ m. m == n) ns ≡ false) × (first_twin ns ≡ None)
    by_any true e h = absurd (some_none h)
    by_any false e h = (e, h)

-- one thread at most has it
own_once : (notes : List ThreadNote) (r : RanSlice) (rs : List RanSlice) → first_twin (processes_in notes) ≡ None → own_rows notes (r ∷ rs) ≤ length r.rows + own_rows notes rs
unfolding own_rows
own_once [] r rs apart = omega arith
own_once (note ∷ notes) r rs apart =
    let tells = no_twin note.process (processes_in notes) apart in
    elim (eqb_tells (thread_of r.told) note.process) [
      | inl t ↦
          let first = own_more note.process r rs t.1 in
          let others = own_none notes r rs (subst (λ (n : ℕ). list_any (λ m. m == n) (processes_in notes) ≡ false) (sym t.1) tells.0) in
          omega arith
      | inr t ↦
          let first = own_other note.process r rs t.1 in
          let rest = own_once notes r rs tells.1 in
          omega arith
    ]

own_nothing : (notes : List ThreadNote) → own_rows notes [] ≡ 0
unfolding own_rows
own_nothing [] = refl
own_nothing (note ∷ notes) = let rest = own_nothing notes in omega arith

own_few : (notes : List ThreadNote) (rs : List RanSlice) → first_twin (processes_in notes) ≡ None → own_rows notes rs ≤ ran_rows rs
own_few notes [] apart = let none = own_nothing notes in omega arith
own_few notes (r ∷ rs) apart = let rest = own_few notes rs apart in let all = ran_cons r rs in let first = own_once notes r rs apart in omega arith

module _ (t : Traces) (run : Run) (is : IsRunOfStreams t run) where
  pub walked_threads : (all : List ThreadRows) × (threads (ground t) (ran_rows (ran t.code (left t) is.walked)) t.notes (ran t.code (left t) is.walked) ≡ Ok all) × (all ≡ run.threads)
  walked_threads =
      let slices = ran t.code (left t) is.walked in
      let b = bind_ok (unmet (first_fault (overlap_fault (left t)) (processes t))) (λ none. threads (ground t) (ran_rows slices) t.notes slices >>= (λ all. Ok (run_by t all))) run is.result in
      let c = bind_ok (threads (ground t) (ran_rows slices) t.notes slices) (λ all. Ok (run_by t all)) run b.2 in
      (c.0, c.1, ap (λ (r : Run). r.threads) (ok_same c.2))

  pub few_rows : first_twin (processes_in t.notes) ≡ None → rows_of_threads run.threads ≤ 65536
  few_rows apart =
      let w = walked_threads in
      let slices = ran t.code (left t) is.walked in
      let own = own_few t.notes slices apart in
      let same = ap (λ (xs : List ThreadRows). rows_of_threads xs) w.2 in
      elim (threads_fit (ground t) (ran_rows slices) t.notes slices w.0 w.1) [
        | inl empty ↦ omega arith
        | inr few ↦ omega arith
      ]

  pub thread_each : length run.threads ≡ length t.notes
  thread_each =
      let w = walked_threads in
      let slices = ran t.code (left t) is.walked in
      sym (ap (λ (xs : List ThreadRows). length xs) w.2) ∙ threads_count (ground t) (ran_rows slices) t.notes slices w.0 w.1

processes_are : (descs : List (List ℕ)) → processes_in (map note_in descs) ≡ map pid_of descs
processes_are [] = refl
processes_are (desc ∷ descs) = ap (λ (ns : List ℕ). pid_of desc ∷ ns) (processes_are descs)

pub notes_count : (descs : List (List ℕ)) → length (map note_in descs) ≡ length descs
notes_count [] = refl
notes_count (desc ∷ descs) = let rest = notes_count descs in omega arith

-- such a run is small
pub run_small : (t : Traced) (run : Run) → IsTracedRun t run → AreNotesApart t.notes → IsSmall (course_of run)
run_small t run is apart =
    let told = is.2.0 in
    let packets = is.2.1.0 in
    let its = is.2.1.2 in
    let each = thread_each (traces (files_in t is.0) packets) told its in
    let count = notes_count t.notes in
    let few = apart.few in
    let small : IsSmall (course_of told) = record {
      rows = few_rows (traces (files_in t is.0) packets) told its (ap first_twin (processes_are t.notes) ∙ apart.apart);
      threads = omega arith;
    } in
    subst (λ (r : Run). IsSmall (course_of r)) (sym is.2.2) (entered_small (code_in (files_in t is.0)) (map saved_pc t.notes) told small)

-- it has a thread for each note
pub each_noted : (t : Traced) (run : Run) → IsTracedRun t run → length run.threads ≡ length t.notes
each_noted t run is =
    ap (λ (r : Run). length r.threads) is.2.2 ∙ entered_count (code_in (files_in t is.0)) (map saved_pc t.notes) is.2.0
    ∙ thread_each (traces (files_in t is.0) is.2.1.0) is.2.0 is.2.1.2 ∙ notes_count t.notes

-- and it is sound
pub traced_sound : (t : Traced) (run : Run) → IsTracedRun t run → IsSoundCourse (course_of run)
traced_sound t run is =
    let told = entered_sound (code_in (files_in t is.0)) (map saved_pc t.notes) is.2.0 (file_sound (files_in t is.0) is.2.0 is.2.1) in
    subst (λ (r : Run). IsSoundCourse (course_of r)) (sym is.2.2) told
