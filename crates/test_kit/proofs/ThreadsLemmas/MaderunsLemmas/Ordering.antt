-- The harts and the notes are in order, and what they tell is the threads.
use Rattle.std.proofs.Common.{◌≡◌, ℕ, zero, suc, ◌+◌, ◌%◌, ◌<◌, ◌≤◌, ◌==◌, true, List, [], ◌∷◌, ◌++◌, map, length, slice_get, unwrap_or, Some, All, refl, sym, ◌∙◌, ap, subst, arith, inl, inr}
use Rattle.std.specs.List.{list_any, sum_by}
use Rattle.std.proofs.lemmas.Bool.{cases_eq, eq-eqb, ne_eqb}
use Rattle.std.proofs.lemmas.List.Elements.{All-from_recursion, All-head, All-tail}
use Rattle.std.proofs.lemmas.List.Sums.{sum_by-cons}
use Rattle.rept_isa.specs.declared.instr.Instr.{Instr}
use Rattle.rept_steps.specs.declared.threads.ThreadRows.{ThreadRows}
use Rattle.rept_steps.specs.Course.{no_thread, KeepTime}
use Rattle.rept_steps.specs.Linked.{EndBefore}
use Rattle.test_kit.specs.declared.threads.turns.turn.Turn.{Turn}
use Rattle.test_kit.specs.Threads.Turns.Turns.{rows_in, slices_from, AreApartByStream, TakeTime, first_on, BeginTogether}
use Rattle.test_kit.proofs.ThreadsLemmas.TurnsLemmas.Slices.{slices_keep}
use Rattle.test_kit.specs.Threads.Play.Code.{address_in, row_in, IsPlayable}
use Rattle.rept_encode.specs.declared.weaving.stretch.HartStretch.{HartStretch}
use Rattle.rept_streams.specs.Slices.Joins.{ThreadNote}
use Rattle.rept_streams.specs.Slices.Order.{by_time}
use Rattle.rept_streams.proofs.SlicesLemmas.InTime.{Each}
use Rattle.test_kit.specs.Threads.Woven.Told.{AreInTime}
use Rattle.test_kit.specs.Threads.Woven.Ordered.{Piece, pieces, begins, begin_of, thread_of, thread_in, IsThreadJoined, IsNoted, AreApart, AreOrdered}
use Rattle.test_kit.specs.Threads.Maderuns.Files.{pc_in}
use Rattle.test_kit.specs.Threads.Maderuns.Harts.{steps_in, stretches_of, harts_of}
use Rattle.test_kit.proofs.ThreadsLemmas.MaderunsLemmas.Turning.{after_all, Same, all_same, four_rows}
use Rattle.test_kit.proofs.ThreadsLemmas.MaderunsLemmas.Pieces.{all_of, of_process, harts_are, all_pieces, piece_of, each_piece, sorted}
use Rattle.test_kit.proofs.ThreadsLemmas.MaderunsLemmas.Gathering.{stretches_own, stretches_other}
use Rattle.test_kit.proofs.ThreadsLemmas.MaderunsLemmas.Threads.{steps_are, slices_are, linked, ends}

-- where the four threads stand
abbrev pub notes_of : List Turn → List ThreadNote
notes_of turns =
    record { process = 1; pc = pc_in turns 0 } ∷ record { process = 2; pc = pc_in turns 1 } ∷ record { process = 3; pc = pc_in turns 2 } ∷ record { process = 4; pc = pc_in turns 3 } ∷ []

noted_by : (notes : List ThreadNote) (a b c d t : ℕ) → notes ≡ record { process = 1; pc = a } ∷ record { process = 2; pc = b } ∷ record { process = 3; pc = c } ∷ record { process = 4; pc = d } ∷ [] → t < 4 → list_any (λ (n : ThreadNote). n.process == t + 1) notes ≡ true
noted_by notes a b c d zero is small = rw is refl
noted_by notes a b c d (suc zero) is small = rw is refl
noted_by notes a b c d (suc (suc zero)) is small = rw is refl
noted_by notes a b c d (suc (suc (suc zero))) is small = rw is refl
noted_by notes a b c d (suc (suc (suc (suc t)))) is small = absurd (omega arith)

abbrev thread_of_list : List ThreadRows → ℕ → ThreadRows
thread_of_list T t = unwrap_or (slice_get T t) no_thread

four_are : (T : List ThreadRows) → length T ≡ 4 → T ≡ thread_of_list T 0 ∷ thread_of_list T 1 ∷ thread_of_list T 2 ∷ thread_of_list T 3 ∷ []
four_are [] size = absurd (omega arith)
four_are (a ∷ []) size = absurd (omega arith)
four_are (a ∷ (b ∷ [])) size = absurd (omega arith)
four_are (a ∷ (b ∷ (c ∷ []))) size = absurd (omega arith)
four_are (a ∷ (b ∷ (c ∷ (d ∷ [])))) size = refl
four_are (a ∷ (b ∷ (c ∷ (d ∷ (e ∷ T))))) size = absurd (omega arith)

-- the first stretch of a hart begins at time 0
abbrev BeginsFirst : List HartStretch → Type 0
BeginsFirst [] = Unit {0}
BeginsFirst (x ∷ xs) = x.begin ≡ 0

begins_each : (hart : List HartStretch) (harts : List (List HartStretch)) → BeginsFirst hart → Each (λ (n : ℕ). n ≡ 0) (begins harts) → Each (λ (n : ℕ). n ≡ 0) (begins (hart ∷ harts))
begins_each [] harts first rest = rest
begins_each (x ∷ xs) harts first rest = (first, rest)

begins_some : (hart : List HartStretch) (harts : List (List HartStretch)) → 0 < length (begins harts) → 0 < length (begins (hart ∷ harts))
begins_some [] harts some = some
begins_some (x ∷ xs) harts some = omega arith

module _ (T : List ThreadRows) where
  in_time : (s time : ℕ) (before turns : List Turn) → All (λ later. later.stream ≡ s → time ≤ later.begin) turns → TakeTime turns → AreApartByStream turns → AreInTime time (stretches_of T s before turns)
  in_time s time before [] late long apart = tt
  in_time s time before (h ∷ turns) late long apart =
      let own = All-head (λ (turn : Turn). turn.begin < turn.end) h turns long in
      let others = All-tail (λ (turn : Turn). turn.begin < turn.end) h turns long in
      elim (cases_eq h.stream s) [
        | inl same ↦
            let begin = All-head (λ (later : Turn). later.stream ≡ s → time ≤ later.begin) h turns late same in
            let next = subst (λ (k : ℕ). All (λ (later : Turn). later.stream ≡ k → h.end ≤ later.begin) turns) same apart.0 in
            subst (AreInTime time) (sym (stretches_own T s before h turns same)) (begin, omega arith, in_time s h.end (before ++ h ∷ []) turns next others apart.1)
        | inr other ↦ subst (AreInTime time) (sym (stretches_other T s before h turns other)) (in_time s time (before ++ h ∷ []) turns (All-tail (λ (later : Turn). later.stream ≡ s → time ≤ later.begin) h turns late) others apart.1)
      ]

  all_in_time : (turns : List Turn) → TakeTime turns → AreApartByStream turns → (n s : ℕ) → Each (AreInTime 0) (harts_of T turns n s)
  all_in_time turns long apart zero s = tt
  all_in_time turns long apart (suc n) s = (in_time s 0 [] turns (λ k d less same. omega arith) long apart, all_in_time turns long apart n (suc s))

  begins_first : (s : ℕ) (before turns : List Turn) → ((turn : Turn) → first_on s turns ≡ Some turn → turn.begin ≡ 0) → BeginsFirst (stretches_of T s before turns)
  begins_first s before [] first = tt
  begins_first s before (h ∷ turns) first =
      elim (cases_eq h.stream s) [
        | inl same ↦ subst BeginsFirst (sym (stretches_own T s before h turns same)) (first h (rw (eq-eqb h.stream s same) refl))
        | inr other ↦ subst BeginsFirst (sym (stretches_other T s before h turns other)) (begins_first s (before ++ h ∷ []) turns (λ turn found. first turn (rw (ne_eqb h.stream s other) found)))
      ]

  all_begin : (turns : List Turn) → BeginTogether turns → (n s : ℕ) → Each (λ (k : ℕ). k ≡ 0) (begins (harts_of T turns n s))
  all_begin turns together zero s = tt
  all_begin turns together (suc n) s = begins_each (stretches_of T s [] turns) (harts_of T turns n (suc s)) (begins_first s [] turns (together s)) (all_begin turns together n (suc s))

  some_begin : (h : Turn) (turns : List Turn) (n s : ℕ) → s ≤ h.stream → h.stream < s + n → 0 < length (begins (harts_of T (h ∷ turns) n s))
  some_begin h turns zero s least less = absurd (omega arith)
  some_begin h turns (suc n) s least less =
      elim (cases_eq h.stream s) [
        | inl same ↦ subst (λ (hart : List HartStretch). 0 < length (begins (hart ∷ harts_of T (h ∷ turns) n (suc s)))) (sym (stretches_own T s [] h turns same)) (omega arith)
        | inr other ↦ begins_some (stretches_of T s [] (h ∷ turns)) (harts_of T (h ∷ turns) n (suc s)) (some_begin h turns n (suc s) (omega arith) (omega arith))
      ]

  begin_some : (turns : List Turn) (n : ℕ) → 0 < length turns → All (λ (turn : Turn). turn.stream < n) turns → 0 < length (begins (harts_of T turns n 0))
  begin_some [] n some streams = absurd (omega arith)
  begin_some (h ∷ turns) n some streams = let own = All-head (λ (turn : Turn). turn.stream < n) h turns streams in some_begin h turns n 0 (omega arith) (omega arith)

module _ (code : List Instr) (T : List ThreadRows) (turns : List Turn) (n : ℕ) (playable : IsPlayable code turns) (size : (t : ℕ) → length (steps_in T t) ≡ rows_in t turns) (streams : All (λ (turn : Turn). turn.stream < n) turns) (long : TakeTime turns) where
  abbrev harts : List (List HartStretch)
  harts = harts_of T turns n 0

  pub pieces_are : pieces (harts_of T turns n 0) ≡ all_pieces T [] turns n 0
  pieces_are = ap pieces (harts_are T turns n 0)

  -- what is told of a thread
  module _ (slices : (t : ℕ) → (unwrap_or (slice_get T t) no_thread).slices ≡ slices_from t 0 turns) where
    told_of : (t : ℕ) → thread_of (by_time begin_of (of_process (t + 1) (pieces (harts_of T turns n 0)))) ≡ unwrap_or (slice_get T t) no_thread
    told_of t =
        let a = steps_are T t turns (size t) in
        let b = slices_are T t turns (size t) ∙ sym (slices t) in
        ap (λ (ps : List Piece). thread_of (by_time begin_of (of_process (t + 1) ps))) pieces_are
        ∙ ap thread_of (sorted T t n [] turns streams playable.apart long)
        ∙ (λ i. record { steps = a i; slices = b i })

    pub threads_are : length T ≡ 4 → map (thread_in (harts_of T turns n 0)) (notes_of turns) ≡ T
    threads_are four = (λ i. told_of 0 i ∷ told_of 1 i ∷ told_of 2 i ∷ told_of 3 i ∷ []) ∙ sym (four_are T four)

    module _ (rows : (t i : ℕ) → i < rows_in t turns → slice_get (steps_in T t) i ≡ Some (row_in code t i)) where
      joined_at : (t : ℕ) → IsThreadJoined (thread_of (by_time begin_of (of_process (t + 1) (pieces (harts_of T turns n 0))))) (pc_in turns t)
      joined_at t =
          let own : (i : ℕ) → i < length (steps_in T t) → slice_get (steps_in T t) i ≡ Some (row_in code t (0 + i)) = λ i less. let same = size t in let e : i ≡ 0 + i = omega arith in rows t i (omega arith) ∙ ap (λ (k : ℕ). Some (row_in code t k)) e in
          let rows_are : 0 + length (steps_in T t) ≡ rows_in t turns = let same = size t in omega arith in
          let last : EndBefore (steps_in T t) (pc_in turns t) = subst (λ (k : ℕ). EndBefore (steps_in T t) (address_in t (k % 16))) rows_are (ends code t (steps_in T t) 0 own) in
          let time : KeepTime (unwrap_or (slice_get T t) no_thread).slices = subst KeepTime (sym (slices t)) (slices_keep t 0 turns playable.order playable.apart) in
          subst (λ (x : ThreadRows). IsThreadJoined x (pc_in turns t)) (sym (told_of t)) (record { linked = linked code t (steps_in T t) 0 own; ends = last; in_time = time })

      rows_told : (t : ℕ) → length (thread_of (by_time begin_of (of_process (t + 1) (pieces (harts_of T turns n 0))))).steps ≡ rows_in t turns
      rows_told t = ap (λ (x : ThreadRows). length x.steps) (told_of t) ∙ size t

      few_rows : sum_by (λ (note : ThreadNote). length (thread_in (harts_of T turns n 0) note).steps) (notes_of turns) ≤ 65536
      few_rows =
          let a = sum_by-cons (λ (note : ThreadNote). length (thread_in (harts_of T turns n 0) note).steps) (record { process = 1; pc = pc_in turns 0 }) (record { process = 2; pc = pc_in turns 1 } ∷ record { process = 3; pc = pc_in turns 2 } ∷ record { process = 4; pc = pc_in turns 3 } ∷ []) in
          let b = sum_by-cons (λ (note : ThreadNote). length (thread_in (harts_of T turns n 0) note).steps) (record { process = 2; pc = pc_in turns 1 }) (record { process = 3; pc = pc_in turns 2 } ∷ record { process = 4; pc = pc_in turns 3 } ∷ []) in
          let c = sum_by-cons (λ (note : ThreadNote). length (thread_in (harts_of T turns n 0) note).steps) (record { process = 3; pc = pc_in turns 2 }) (record { process = 4; pc = pc_in turns 3 } ∷ []) in
          let d = sum_by-cons (λ (note : ThreadNote). length (thread_in (harts_of T turns n 0) note).steps) (record { process = 4; pc = pc_in turns 3 }) [] in
          let none : sum_by (λ (note : ThreadNote). length (thread_in (harts_of T turns n 0) note).steps) [] ≡ 0 = refl in
          let rows = four_rows turns playable.threads in
          let few = playable.few in
          omega (arith, a, b, c, d, none, rows, few, rows_told 0, rows_told 1, rows_told 2, rows_told 3)

      apart_at : All (λ (p : Piece). All (AreApart p) (pieces (harts_of T turns n 0))) (pieces (harts_of T turns n 0))
      apart_at = subst (λ (ps : List Piece). All (λ (p : Piece). All (AreApart p) ps) ps) (sym pieces_are)
          (all_of (λ (p : Piece). All (AreApart p) (all_pieces T [] turns n 0)) (all_pieces T [] turns n 0)
          (each_piece T (λ b x. All (Same x) turns) (λ (p : Piece). All (AreApart p) (all_pieces T [] turns n 0))
          (λ b x same. all_of (AreApart (piece_of T b x)) (all_pieces T [] turns n 0)
          (each_piece T (λ c y. Same x y) (AreApart (piece_of T b x)) (λ c y like process begin. like (omega arith) begin) n 0 [] turns (after_all (Same x) [] turns same)))
          n 0 [] turns (after_all (λ (x : Turn). All (Same x) turns) [] turns (all_same turns playable.apart long))))

      noted_at : All (IsNoted (notes_of turns)) (pieces (harts_of T turns n 0))
      noted_at = subst (All (IsNoted (notes_of turns))) (sym pieces_are)
          (all_of (IsNoted (notes_of turns)) (all_pieces T [] turns n 0)
          (each_piece T (λ b x. x.thread < 4) (IsNoted (notes_of turns)) (λ b x small. noted_by (notes_of turns) (pc_in turns 0) (pc_in turns 1) (pc_in turns 2) (pc_in turns 3) x.thread refl small) n 0 [] turns (after_all (λ (x : Turn). x.thread < 4) [] turns playable.threads)))

      pub are_ordered : 0 < length turns → AreApartByStream turns → BeginTogether turns → AreOrdered (harts_of T turns n 0) (notes_of turns)
      are_ordered some apart together = record {
        in_time = all_of (AreInTime 0) (harts_of T turns n 0) (all_in_time T turns long apart n 0);
        some = begin_some T turns n some streams;
        time = 0;
        together = all_of (λ (k : ℕ). k ≡ 0) (begins (harts_of T turns n 0)) (all_begin T turns together n 0);
        apart = apart_at;
        noted = noted_at;
        joined = All-from_recursion (λ (note : ThreadNote). IsThreadJoined (thread_in (harts_of T turns n 0) note) note.pc) (notes_of turns) (joined_at 0, (joined_at 1, (joined_at 2, (joined_at 3, tt))));
        few = few_rows;
      }
