-- What the files of a made run tell is the run that was played.
use Rattle.std.proofs.Common.{◌≡◌, ℕ, zero, suc, ◌+◌, ◌-◌, ◌*◌, ◌^◌, ◌<◌, ◌≤◌, cond, false, List, [], ◌∷◌, ◌++◌, map, length, get_or, slice_get, Some, None, Ok, refl, sym, ◌∙◌, ap, subst, arith, append_assoc, length-append}
use Rattle.rept_isa.specs.declared.instr.Instr.{Instr}
use Rattle.rept_elf.specs.Header.{word_at}
use Rattle.rept_elf.specs.Segments.{ElfSegment, segments}
use Rattle.rept_elf.specs.Symbols.{symbol_at}
use Rattle.rept_elf.specs.Checks.{checks, first_failure}
use Rattle.rept_elf.specs.declared.fault.Want.TheVariants.{Exec, Core}
use Rattle.rept_dump.specs.Memory.{Contents, crash_byte, held_by, of_executable}
use Rattle.rept_dump.specs.Registers.{SaysOfAll}
use Rattle.rept_steps.specs.declared.threads.ThreadRows.{ThreadRows}
use Rattle.rept_order.specs.History.{Ending}
use Rattle.rept_trace.specs.Streams.{StreamFile}
use Rattle.rept_encode.specs.Encoded.{coded}
use Rattle.test_kit.specs.declared.threads.turns.turn.Turn.{Turn}
use Rattle.test_kit.specs.Threads.Turns.Turns.{rows_in}
use Rattle.test_kit.specs.declared.threads.play.score.Sizes.{Sizes}
use Rattle.test_kit.specs.Threads.Play.Shares.{sees}
use Rattle.test_kit.specs.Threads.Play.Code.{row_in}
use Rattle.test_kit.specs.Threads.Play.Drawn.{next_turn, drawn_turns, start_registers}
use Rattle.test_kit.specs.Threads.Play.Played.{IsPlayLeft, IsExecutedFrom}
use Rattle.rept_encode.specs.declared.weaving.stretch.HartStretch.{HartStretch}
use Rattle.rept_encode.specs.Weaving.Woven.{AreStreamsOf}
use Rattle.rept_streams.specs.Slices.Joins.{ThreadNote}
use Rattle.rept_streams.specs.Slices.Raw.{note_in, IsRunOfFiles}
use Rattle.test_kit.specs.Threads.Woven.Ordered.{begins, untraced_of, run_of_harts, thread_in, AreOrdered, HasStretches}
use Rattle.test_kit.specs.declared.threads.maderuns.made.MadeRun.{MadeRun}
use Rattle.rept_make.specs.Files.{core_header, status_of, status_note}
use Rattle.test_kit.specs.Threads.Maderuns.Files.{saved_of, pc_in}
use Rattle.test_kit.specs.Threads.Maderuns.Harts.{steps_in, harts_of}
use Rattle.test_kit.specs.Threads.Maderuns.Made.{IsMadeRun}
use Rattle.test_kit.specs.Threads.Maderuns.Told.{IsEndingOf, IsToldByFiles}
use Rattle.test_kit.proofs.ThreadsLemmas.MaderunsLemmas.Ordering.{notes_of, threads_are, are_ordered}
use Rattle.test_kit.proofs.ThreadsLemmas.MaderunsLemmas.Carrying.{carries}
use Rattle.test_kit.proofs.ThreadsLemmas.MaderunsLemmas.Filed.{code_of, exe_segments, exe_passes, note_of, data_of, notes_body, core_segments, core_passes, core_says, notes_size, saved_size, saved_at, saved_small, status_word, byte_there}

drawn_size : (sizes : Sizes) (seed n : ℕ) → length (drawn_turns sizes seed n) ≡ n
drawn_size sizes seed zero = refl
drawn_size sizes seed (suc n) =
    let rest = drawn_size sizes seed n in
    let more = length-append (drawn_turns sizes seed n) (next_turn sizes seed n (drawn_turns sizes seed n) ∷ []) in
    omega arith

regroup : (a b c d e : List ℕ) → a ++ (b ++ (c ++ (d ++ e))) ≡ (a ++ (b ++ (c ++ (d ++ [])))) ++ e
regroup a b c d e =
    ap (λ (xs : List ℕ). a ++ (b ++ (c ++ xs))) (sym (append_assoc d [] e))
    ∙ ap (λ (xs : List ℕ). a ++ (b ++ xs)) (sym (append_assoc c (d ++ []) e))
    ∙ ap (λ (xs : List ℕ). a ++ xs) (sym (append_assoc b (c ++ (d ++ [])) e))
    ∙ sym (append_assoc a (b ++ (c ++ (d ++ []))) e)

same_desc : {a b : List ℕ} → Some a ≡ Some b → a ≡ b
same_desc e = cc

no_desc : {a : List ℕ} → None ≡ Some a → ⊥
no_desc e = cc

-- a register of one of the notes
module _ (a b c d : List ℕ) (P : ℕ → ℕ → Type 0) (s : ℕ)
    (pa : P 0 (word_at (status_of 1 a) (72 + 4 * s))) (pb : P 1 (word_at (status_of 2 b) (72 + 4 * s))) (pc : P 2 (word_at (status_of 3 c) (72 + 4 * s))) (pd : P 3 (word_at (status_of 4 d) (72 + 4 * s))) where
  in_notes : (t : ℕ) (desc : List ℕ) → slice_get (status_of 1 a ∷ status_of 2 b ∷ status_of 3 c ∷ status_of 4 d ∷ []) t ≡ Some desc → (t < 4) × P t (word_at desc (72 + 4 * s))
  in_notes zero desc found = (omega arith, subst (λ (x : List ℕ). P 0 (word_at x (72 + 4 * s))) (same_desc found) pa)
  in_notes (suc zero) desc found = (omega arith, subst (λ (x : List ℕ). P 1 (word_at x (72 + 4 * s))) (same_desc found) pb)
  in_notes (suc (suc zero)) desc found = (omega arith, subst (λ (x : List ℕ). P 2 (word_at x (72 + 4 * s))) (same_desc found) pc)
  in_notes (suc (suc (suc zero))) desc found = (omega arith, subst (λ (x : List ℕ). P 3 (word_at x (72 + 4 * s))) (same_desc found) pd)
  in_notes (suc (suc (suc (suc t)))) desc found = absurd (no_desc found)

module _ (seed : ℕ) (sizes : Sizes) (made : MadeRun) (m : IsMadeRun seed sizes made) (some : 1 ≤ sizes.turns) (small : (i : ℕ) → get_or made.made.played.registers i 0 < 2 ^ 32)
    (whole : (contents : Contents) (file : StreamFile) (notes : List ThreadNote) (harts : List (List HartStretch)) → AreStreamsOf file.halves harts file.streams → HasStretches (coded file.halves contents) harts → AreOrdered harts notes → IsRunOfFiles (record { contents = contents; file = file; notes = notes; from = 0 }) (run_of_harts harts notes)) where
  abbrev T : List ThreadRows
  T = made.made.played.run.threads

  abbrev turns : List Turn
  turns = made.made.turns.items

  abbrev code : List Instr
  code = made.made.code.items

  abbrev registers : List ℕ
  registers = made.made.played.registers

  abbrev data_bytes : List ℕ
  data_bytes = made.made.played.bytes.items

  abbrev saved : ℕ → List ℕ
  saved t = saved_of t (pc_in turns t) registers

  abbrev harts : List (List HartStretch)
  harts = harts_of T turns sizes.streams 0

  size : (t : ℕ) → length (steps_in T t) ≡ rows_in t turns
  size t = m.play.is_played.played_turns.rows t

  rows : (t i : ℕ) → i < rows_in t turns → slice_get (steps_in T t) i ≡ Some (row_in code t i)
  rows t i less = m.play.is_played.rows t i less

  turns_some : 0 < length turns
  turns_some = let e = ap (length {A = Turn}) m.play.turns_drawn in let n = drawn_size sizes seed sizes.turns in omega arith

  ordered : AreOrdered harts (notes_of turns)
  ordered = are_ordered code T turns sizes.streams m.play.playable size m.play.streams m.play.long m.play.is_played.played_turns.slices rows turns_some m.play.apart m.play.together

  told_threads : map (thread_in harts) (notes_of turns) ≡ T
  told_threads = threads_are code T turns sizes.streams m.play.playable size m.play.streams m.play.long m.play.is_played.played_turns.slices m.play.is_played.four

  exe_are : segments made.exe ≡ code_of m.words ∷ []
  exe_are = ap segments m.exe ∙ exe_segments m.words m.code.size

  contents_are : of_executable made.exe ≡ held_by (code_of m.words ∷ []) (symbol_at made.exe)
  contents_are = ap (λ (ss : List ElfSegment). held_by ss (symbol_at made.exe)) exe_are

  carried : HasStretches (coded false (of_executable made.exe)) harts
  carried = subst (λ (x : Contents). HasStretches (coded false x) harts) (sym contents_are) (carries code m.words m.code m.code.small (symbol_at made.exe) T turns size rows m.play.playable.threads sizes.streams)

  -- the core file
  count : (t : ℕ) → length (saved t) ≡ 32
  count t = saved_size t (pc_in turns t) registers

  bytes_size : length data_bytes ≡ 32
  bytes_size = m.play.is_played.left.1

  body_size : length (notes_body (saved 0) (saved 1) (saved 2) (saved 3)) ≡ 896
  body_size = notes_size (saved 0) (saved 1) (saved 2) (saved 3) data_bytes (count 0) (count 1) (count 2) (count 3) bytes_size

  core_is : made.core ≡ core_header 896 32 ++ (notes_body (saved 0) (saved 1) (saved 2) (saved 3) ++ data_bytes)
  core_is = m.core ∙ ap (λ (xs : List ℕ). core_header 896 32 ++ xs) (regroup (status_note 1 (saved 0)) (status_note 2 (saved 1)) (status_note 3 (saved 2)) (status_note 4 (saved 3)) data_bytes)

  core_are : segments made.core ≡ note_of (notes_body (saved 0) (saved 1) (saved 2) (saved 3)) ∷ data_of data_bytes ∷ []
  core_are = ap segments core_is ∙ core_segments (notes_body (saved 0) (saved 1) (saved 2) (saved 3)) data_bytes body_size bytes_size

  abbrev descs : List (List ℕ)
  descs = status_of 1 (saved 0) ∷ status_of 2 (saved 1) ∷ status_of 3 (saved 2) ∷ status_of 4 (saved 3) ∷ []

  says : SaysOfAll (length made.core) (segments made.core) (Ok descs)
  says = subst (λ (file : List ℕ). SaysOfAll (length file) (segments file) (Ok descs)) (sym core_is) (core_says (saved 0) (saved 1) (saved 2) (saved 3) data_bytes (count 0) (count 1) (count 2) (count 3) bytes_size)

  saved_low : (t : ℕ) → t < 4 → (i : ℕ) → get_or (saved t) i 0 < 2 ^ 32
  saved_low t few = saved_small t (pc_in turns t) registers (omega arith) small

  notes_are : map note_in descs ≡ notes_of turns
  notes_are =
      let p = status_word 1 (saved 0) (count 0) (saved_low 0 (omega arith)) 0 (omega arith) in
      let q = status_word 2 (saved 1) (count 1) (saved_low 1 (omega arith)) 0 (omega arith) in
      let r = status_word 3 (saved 2) (count 2) (saved_low 2 (omega arith)) 0 (omega arith) in
      let s = status_word 4 (saved 3) (count 3) (saved_low 3 (omega arith)) 0 (omega arith) in
      λ i. record { process = 1; pc = p i } ∷ record { process = 2; pc = q i } ∷ record { process = 3; pc = r i } ∷ record { process = 4; pc = s i } ∷ []

  -- a register of a note is what the thread sees of the machine's
  register_in : (t process s : ℕ) → t < 4 → 0 < s → s < 32 → word_at (status_of process (saved t)) (72 + 4 * s) ≡ cond (sees t s) (get_or registers s 0) 0
  register_in t process s few more less = status_word process (saved t) (count t) (saved_low t few) s less ∙ saved_at t (pc_in turns t) registers s more less

  left : (D : Ending) → IsEndingOf made.exe made.core descs D → IsPlayLeft D made.made.played
  left D ending = record {
    registers = λ t s v more said.
        let e = ending.registers t s v more said in
        let its = in_notes (saved 0) (saved 1) (saved 2) (saved 3) (λ u w. w ≡ cond (sees u s) (get_or registers s 0) 0) s
        (register_in 0 1 s (omega arith) more e.2) (register_in 1 2 s (omega arith) more e.2) (register_in 2 3 s (omega arith) more e.2) (register_in 3 4 s (omega arith) more e.2) t e.0 e.1 in
        (its.0, sym its.1 ∙ e.3);
    inside = λ a v dumped. (byte_in a v (ending.bytes a v dumped)).0;
    bytes = λ a v dumped. (byte_in a v (ending.bytes a v dumped)).1;
  }
    where
      byte_in : (a v : ℕ) → crash_byte (of_executable made.exe) (segments made.core) a ≡ Some v → ((131072 ≤ a) × (a < 131104)) × (get_or data_bytes (a - 131072) 0 ≡ v)
      byte_in a v h = byte_there m.words (notes_body (saved 0) (saved 1) (saved 2) (saved 3)) data_bytes (symbol_at made.exe) a v bytes_size
          (ap (λ (ss : List ElfSegment). crash_byte (held_by (code_of m.words ∷ []) (symbol_at made.exe)) ss a) (sym core_are) ∙ ap (λ (x : Contents). crash_byte x (segments made.core) a) (sym contents_are) ∙ h)

  abbrev file : StreamFile
  file = record { halves = false; streams = m.woven.streams }

  pub is_told : IsToldByFiles seed made
  is_told = record {
    exe_read = subst (λ (x : List ℕ). first_failure (checks Exec x) ≡ None) (sym m.exe) (exe_passes m.words m.code.size);
    core_read = subst (λ (x : List ℕ). first_failure (checks Core x) ≡ None) (sym core_is) (core_passes (notes_body (saved 0) (saved 1) (saved 2) (saved 3)) data_bytes body_size bytes_size);
    descs = descs;
    notes = says;
    file = file;
    streams = m.woven.file;
    run = run_of_harts harts (notes_of turns);
    told = subst (λ (ns : List ThreadNote). IsRunOfFiles (record { contents = of_executable made.exe; file = record { halves = false; streams = m.woven.streams }; notes = ns; from = 0 }) (run_of_harts harts (notes_of turns))) (sym notes_are)
        (whole (of_executable made.exe) (record { halves = false; streams = m.woven.streams }) (notes_of turns) harts m.woven.each carried ordered);
    played = told_threads;
    none_skipped = refl;
    execution = λ D ending. subst (λ (ts : List ThreadRows). IsExecutedFrom (start_registers seed) (record { threads = ts; untraced = untraced_of (begins harts) }) D) (sym told_threads) (m.play.is_played.execution (untraced_of (begins harts)) D (left D ending));
  }
