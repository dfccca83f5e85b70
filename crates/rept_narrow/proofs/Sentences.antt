-- The sentence of a rule: how it is shown of a set that is sound, and how the sentences of rules follow one another.
use Rattle.std.proofs.Common.{◌^◌, ℤ, Bool, ◌≡◌, ◌≢◌, ℕ, ◌+◌, ◌*◌, ◌<◌, ◌≤◌, nat_lt, true, false, lit<, List, length, Option, Some, None, slice_get, get_or, inl, inr, refl, sym, ap, subst, ◌∙◌, arith}
use Rattle.std.specs.Prelude.{Result, Ok, Err, OnErr}
use Rattle.std.proofs.lemmas.Bool.{cases_eq, cases_lt}
use Rattle.std.proofs.lemmas.Option.{slice_get_past, slice_get_cases, slice_get-get_or}
use Rattle.rept_isa.specs.declared.row.StepRow.{StepRow}
use Rattle.rept_isa.specs.Operands.{written_by, first_read, second_read}
use Rattle.rept_isa.specs.Rows.{from_of, addresses_of}
use Rattle.rept_isa.specs.Numbers.{plus, beside}
use Rattle.rept_isa.specs.declared.instr.Instr.{Instr}
use Rattle.rept_isa.specs.declared.instr.Instr.TheVariants.{Load}
use Rattle.rept_isa.specs.declared.instr.LoadOp.TheVariants.{Lbu}
use Rattle.rept_machine.specs.Step.{HasEffect}
use Rattle.rept_machine.specs.State.{State}
use Rattle.rept_machine.proofs.StepLaws.{step-keeps}
use Rattle.rept_known.specs.declared.both.Both.{Both}
use Rattle.rept_known.specs.Both.{both_has, both_meet, both_sets}
use Rattle.rept_known.specs.BothMoves.{both_moves, both_covers}
use Rattle.rept_known.specs.Laws.BothLaws.{both_lawful}
use Rattle.rept_span.specs.Filled.{View}
use Rattle.rept_span.specs.Moves.{StepsFrom}
use Rattle.rept_narrow.specs.Admitted.{Story}
use Rattle.rept_narrow.specs.Rules.{set_at, HasSets, AreBytes, KeepsSets, RefusesSets, IsSoundIn, IsSound}

pub some_none : {W : Type 0} {x : W} → Some x ≡ None → ⊥
some_none e = cc

pub same_some : {W : Type 0} {x y : W} → Some x ≡ Some y → x ≡ y
same_some e = cc

inside_list : {W : Type 0} (xs : List W) (i : ℕ) (x : W) → slice_get xs i ≡ Some x → i < length xs
inside_list xs i x at = elim (cases_lt i (length xs)) [
  | inl lt ↦ lt
  | inr le ↦ absurd (some_none (sym at ∙ slice_get_past xs i le))
]

pub lt_true : (a b : ℕ) → a < b → nat_lt a b ≡ true
lt_true a b h = grind (arith, h)

pub le_false : (a b : ℕ) → b ≤ a → nat_lt a b ≡ false
le_false a b h = grind (arith, h)

pub inside_rows : (rows : List StepRow) (i : ℕ) (row : StepRow) → slice_get rows i ≡ Some row → i < length rows
inside_rows rows i row at = inside_list rows i row at

pub row_at : (rows : List StepRow) (i : ℕ) → i < length rows → (row : StepRow) × (slice_get rows i ≡ Some row)
row_at rows i less = elim (slice_get_cases rows i).1 [
  | inl found ↦ (found.0, found.2)
  | inr past ↦ absurd (let le = past.0 in omega (arith, le, less))
]

pub row_here : (rows all : List StepRow) (i : ℕ) (d : StepRow) → rows ≡ all → i < length all → slice_get rows i ≡ Some (get_or all i d)
row_here rows all i d e less = subst (λ (x : List StepRow). slice_get x i ≡ Some (get_or all i d)) (sym e) (slice_get-get_or all i d less)

pub same_err : {T E : Type 0} {x y : E} → ◌≡◌ {A = Result T E} (Err x) (Err y) → x ≡ y
same_err e = cc

pub any_err : {T E P : Type 0} (r : Result T E) → P → OnErr r P
any_err (Ok x) p = tt
any_err (Err e) p = p

-- ---- one after the other
pub keeps_itself : (story : Story) (a b : View Both) → b ≡ a → KeepsSets story a b
keeps_itself story a b e = subst (λ (x : View Both). KeepsSets story a x) (sym e) (λ run h. h)

pub keeps_then : (story : Story) (a b c : View Both) → KeepsSets story a b → KeepsSets story b c → KeepsSets story a c
keeps_then story a b c f g = λ run h. g run (f run h)

pub refuses_then : (story : Story) (a b : View Both) → KeepsSets story a b → RefusesSets story b → RefusesSets story a
refuses_then story a b f g = λ run h. g run (f run h)

-- ---- a set that is sound
same_place : (story : Story) (run : ℕ → State) (new : View Both) (p r : ℕ) (w : Both) → set_at new p r ≡ Some w → IsSoundIn story run p r w → (q s : ℕ) (u : Both) → q ≤ length story.rows → set_at new q s ≡ Some u → q ≡ p → s ≡ r → both_has u ((run q).register s) ≡ true
same_place story run new p r w here sound q s u le e qp sr =
    let known : both_has w ((run p).register r) ≡ true = sound (omega (arith, le, qp)) in
    let is : set_at new p r ≡ Some u = rw (qp, sr) at e in
    let alike : w ≡ u = same_some (sym here ∙ is) in
    rw (qp, sr, sym alike) known

pub has_cut : (story : Story) (old new : View Both) (p r : ℕ) (w : Both) → set_at new p r ≡ Some w → ((q s : ℕ) → ((q ≡ p) × (s ≡ r) → ⊥) → set_at new q s ≡ set_at old q s) → (run : ℕ → State) → HasSets story old run → IsSoundIn story run p r w → HasSets story new run
has_cut story old new p r w here others run h sound = record { admitted = h.admitted; sets = sets }
  where
    sets : (q s : ℕ) (u : Both) → q ≤ length story.rows → set_at new q s ≡ Some u → both_has u ((run q).register s) ≡ true
    sets q s u le e = elim (cases_eq q p) [
      | inl qp ↦ elim (cases_eq s r) [
        | inl sr ↦ same_place story run new p r w here sound q s u le e qp sr
        | inr ne ↦ h.sets q s u le (sym (others q s (λ both. ne both.1)) ∙ e)
      ]
      | inr ne ↦ h.sets q s u le (sym (others q s (λ both. ne both.0)) ∙ e)
    ]

pub has_met : (story : Story) (old new : View Both) (p r : ℕ) (a w m : Both) → set_at old p r ≡ Some a → both_meet a w ≡ Some m → set_at new p r ≡ Some m → ((q s : ℕ) → ((q ≡ p) × (s ≡ r) → ⊥) → set_at new q s ≡ set_at old q s) → (run : ℕ → State) → HasSets story old run → IsSoundIn story run p r w → HasSets story new run
has_met story old new p r a w m at met here others run h sound = has_cut story old new p r m here others run h (λ le. both_lawful.meet_some a w m ((run p).register r) met (h.sets p r a le at) (sound le))

pub none_met : (story : Story) (old : View Both) (p r : ℕ) (a w : Both) → set_at old p r ≡ Some a → both_meet a w ≡ None → (run : ℕ → State) → HasSets story old run → IsSoundIn story run p r w → p ≤ length story.rows → ⊥
none_met story old p r a w at met run h sound le = both_lawful.meet_none a w ((run p).register r) met (h.sets p r a le at) (sound le)

-- what has the smaller set has the one before
pub has_before : (story : Story) (old new : View Both) (p r : ℕ) (a w m : Both) → set_at old p r ≡ Some a → both_meet a w ≡ Some m → set_at new p r ≡ Some m → ((q s : ℕ) → ((q ≡ p) × (s ≡ r) → ⊥) → set_at new q s ≡ set_at old q s) → KeepsSets story new old
has_before story old new p r a w m at met here others run h = has_cut story new old p r a at (λ q s ne. sym (others q s ne)) run h (λ le. (both_lawful.meet_within a w m ((run p).register r) met (h.sets p r m le here)).0)

-- ---- a row that doesn't write a register
pub carried_on : (story : Story) (table : View Both) (i r : ℕ) (row : StepRow) (w : Both) → slice_get story.rows i ≡ Some row → written_by row.instr ≢ Some r → set_at table i r ≡ Some w → IsSound story table (i + 1) r w
carried_on story table i r row w at kept is = λ run h le.
    let same = step-keeps story.image_end row (run i) (run (i + 1)) (h.admitted.execution.steps i row at) r kept in
    rw same (h.sets i r w (omega (arith, le)) is)

pub carried_back : (story : Story) (table : View Both) (i r : ℕ) (row : StepRow) (w : Both) → slice_get story.rows i ≡ Some row → written_by row.instr ≢ Some r → set_at table (i + 1) r ≡ Some w → IsSound story table i r w
carried_back story table i r row w at kept is = λ run h le.
    let same = step-keeps story.image_end row (run i) (run (i + 1)) (h.admitted.execution.steps i row at) r kept in
    let inside = inside_rows story.rows i row at in
    rw (sym same) (h.sets (i + 1) r w (omega (arith, inside)) is)

-- ---- what a row makes of the sets of its operands
pub made_sound : (story : Story) (table : View Both) (i r : ℕ) (row : StepRow) (a b : Both) → slice_get story.rows i ≡ Some row → written_by row.instr ≡ Some r → ((s : ℕ) → first_read row.instr ≡ Some s → set_at table i s ≡ Some a) → ((s : ℕ) → second_read row.instr ≡ Some s → set_at table i s ≡ Some b) → IsSound story table (i + 1) r (both_moves.apply row.instr (from_of row) a b)
made_sound story table i r row a b at written first second = λ run h le.
    let inside : i ≤ length story.rows = omega (arith, le) in
    both_covers.covering row a b story.image_end (run i) (run (i + 1)) (record {
      before = h.admitted.execution.states i inside;
      after = h.admitted.execution.states (i + 1) le;
      step = h.admitted.execution.steps i row at;
      first = λ s e. h.sets i s a inside (first s e);
      second = λ s e. h.sets i s b inside (second s e);
    }) r written

-- the same of what the calls answered
pub made_sound_as : (story : Story) (table : View Both) (i r : ℕ) (row : StepRow) (a b : Both) (from : ℕ) (made : Both) (one other : Option ℕ) → slice_get story.rows i ≡ Some row → written_by row.instr ≡ Some r → one ≡ first_read row.instr → other ≡ second_read row.instr → ((s : ℕ) → one ≡ Some s → set_at table i s ≡ Some a) → ((s : ℕ) → other ≡ Some s → set_at table i s ≡ Some b) → from ≡ from_of row → made ≡ both_moves.apply row.instr from a b → IsSound story table (i + 1) r made
made_sound_as story table i r row a b from made one other at written o p first second f m =
    let is : made ≡ both_moves.apply row.instr (from_of row) a b = m ∙ ap (λ (n : ℕ). both_moves.apply row.instr n a b) f in
    subst (λ (w : Both). IsSound story table (i + 1) r w) (sym is) (made_sound story table i r row a b at written (λ s e. first s (o ∙ e)) (λ s e. second s (p ∙ e)))

-- ---- what a row leaves of the sets of its operands
steps_from : (story : Story) (table : View Both) (run : ℕ → State) (i : ℕ) (row : StepRow) (a b : Both) (one other : Option ℕ) → slice_get story.rows i ≡ Some row → one ≡ first_read row.instr → other ≡ second_read row.instr → ((s : ℕ) → one ≡ Some s → set_at table i s ≡ Some a) → ((s : ℕ) → other ≡ Some s → set_at table i s ≡ Some b) → HasSets story table run → StepsFrom both_sets row a b story.image_end (run i) (run (i + 1))
steps_from story table run i row a b one other at o p first second h =
    let inside = inside_rows story.rows i row at in
    record {
      before = h.admitted.execution.states i (omega (arith, inside));
      after = h.admitted.execution.states (i + 1) (omega (arith, inside));
      step = h.admitted.execution.steps i row at;
      first = λ s e. h.sets i s a (omega (arith, inside)) (first s (o ∙ e));
      second = λ s e. h.sets i s b (omega (arith, inside)) (second s (p ∙ e));
    }

module _ (story : Story) (table : View Both) (i : ℕ) (row : StepRow) (a b : Both) (one other : Option ℕ) (at : slice_get story.rows i ≡ Some row) (o : one ≡ first_read row.instr) (p : other ≡ second_read row.instr) (first : (s : ℕ) → one ≡ Some s → set_at table i s ≡ Some a) (second : (s : ℕ) → other ≡ Some s → set_at table i s ≡ Some b) where
  pub refuses_turn : both_moves.narrow row a b ≡ None → RefusesSets story table
  refuses_turn none = λ run h.
      let left = both_covers.narrowed row a b story.image_end (run i) (run (i + 1)) (steps_from story table run i row a b one other at o p first second h) in
      some_none (sym left.1 ∙ none)

  left_of : (x y : Both) → both_moves.narrow row a b ≡ Some (x, y) → (run : ℕ → State) → HasSets story table run → StepsFrom both_sets row x y story.image_end (run i) (run (i + 1))
  left_of x y is run h =
      let left = both_covers.narrowed row a b story.image_end (run i) (run (i + 1)) (steps_from story table run i row a b one other at o p first second h) in
      let same : left.0 ≡ (x, y) = same_some (sym left.1 ∙ is) in
      subst (λ (n : Both × Both). StepsFrom both_sets row n.0 n.1 story.image_end (run i) (run (i + 1))) same left.2

  pub first_sound : (x y : Both) → both_moves.narrow row a b ≡ Some (x, y) → (s : ℕ) → one ≡ Some s → IsSound story table i s x
  first_sound x y is s e = λ run h le. (left_of x y is run h).first s (sym o ∙ e)

  pub second_sound : (x y : Both) → both_moves.narrow row a b ≡ Some (x, y) → (s : ℕ) → other ≡ Some s → IsSound story table i s y
  second_sound x y is s e = λ run h le. (left_of x y is run h).second s (sym p ∙ e)

-- what is sound where less is told is sound where more is
pub still_sound : (story : Story) (old new : View Both) (p r : ℕ) (w : Both) → KeepsSets story new old → IsSound story old p r w → IsSound story new p r w
still_sound story old new p r w back sound = λ run h le. sound run (back run h) le

-- ---- a byte that is loaded
pub loaded_sound : (story : Story) (run : ℕ → State) (tells : ℕ → ℕ → ℕ → Type 0) (table : View Both) (i rd rs1 : ℕ) (imm : ℤ) (row : StepRow) (set : Both) (base place x : ℕ) (one : Both) → slice_get story.rows i ≡ Some row → row.instr ≡ Load Lbu rd rs1 imm → rd ≢ 0 → set_at table i rs1 ≡ Some set → both_sets.as_exact set ≡ Some base → place ≡ plus base imm → tells i place x → one ≡ both_sets.exact x → HasSets story table run → AreBytes story tells run → IsSoundIn story run (i + 1) rd one
loaded_sound story run tells table i rd rs1 imm row set base place x one at form named is exact there told e h bytes le =
    let inside : i ≤ length story.rows = omega (arith, le) in
    let step : HasEffect (Load Lbu rd rs1 imm) story.image_end (addresses_of row) (run i) (run (i + 1)) = subst (λ (n : Instr). HasEffect n story.image_end (addresses_of row) (run i) (run (i + 1))) form (h.admitted.execution.steps i row at) in
    let state = h.admitted.execution.states i inside in
    let value : (run i).register rs1 ≡ base = both_lawful.as_exact set base ((run i).register rs1) exact (h.sets i rs1 set inside is) in
    let same : beside (plus ((run i).register rs1) imm) 0 ≡ place = omega (arith, value, there) in
    let known : (run i).memory place ≡ x = bytes i place x inside told in
    let got : (run (i + 1)).register rd ≡ x = step.result.written named ∙ ap (λ (n : ℕ). (run i).memory n) same ∙ known in
    let small : x < 2 ^ 32 = let b = state.bytes place in omega (arith, b, known) in
    subst (λ (n : ℕ). both_has one n ≡ true) (sym got) (subst (λ (b : Both). both_has b x ≡ true) (sym e) (both_lawful.exact x small))
