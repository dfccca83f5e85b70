-- The executable has the instructions of all stretches.
use Rattle.std.proofs.Common.{◌≡◌, ℕ, ◌+◌, ◌*◌, ◌%◌, ◌^◌, ◌<◌, List, [], length, drop, get_or, slice_get, Option, Some, ◌∷◌, All, sym, ◌∙◌, ap, subst, arith}
use Rattle.std.proofs.lemmas.List.Elements.{All-take, All-drop}
use Rattle.std.proofs.lemmas.Option.{slice_get_within}
use Rattle.rept_isa.specs.declared.instr.Instr.{Instr}
use Rattle.rept_steps.specs.declared.threads.ThreadRows.{ThreadRows}
use Rattle.rept_elf.specs.Symbols.{FunctionSymbol}
use Rattle.rept_dump.specs.Memory.{held_by}
use Rattle.rept_path.specs.Code.{Code, words as words_of}
use Rattle.rept_path.specs.Rows.{CarriesCode, CarryCode}
use Rattle.rept_path.proofs.LongRows.{never_short}
use Rattle.test_kit.specs.declared.threads.turns.turn.Turn.{Turn}
use Rattle.test_kit.specs.Threads.Turns.Turns.{rows_in}
use Rattle.test_kit.specs.Threads.Play.Code.{row_in}
use Rattle.test_kit.specs.Threads.Woven.Ordered.{Piece, pieces}
use Rattle.test_kit.specs.Threads.Maderuns.Words.{AreCode}
use Rattle.test_kit.specs.Threads.Maderuns.Harts.{steps_in, harts_of}
use Rattle.test_kit.proofs.ThreadsLemmas.MaderunsLemmas.Turning.{after_all}
use Rattle.test_kit.proofs.ThreadsLemmas.MaderunsLemmas.Pieces.{all_of, harts_are, all_pieces, each_piece}
use Rattle.test_kit.proofs.ThreadsLemmas.MaderunsLemmas.Threads.{same_row}
use Rattle.test_kit.proofs.ThreadsLemmas.MaderunsLemmas.Sending.{all_found}
use Rattle.test_kit.proofs.ThreadsLemmas.MaderunsLemmas.Filed.{code_of, look_there}

module _ (code : List Instr) (words : List ℕ) (are : AreCode code words) (small : (i : ℕ) → get_or words i 0 < 2 ^ 32) (functions : ℕ → Option FunctionSymbol) where
  abbrev spelled : Code
  spelled = words_of (held_by (code_of words ∷ []) functions)

  carries_row : (t i : ℕ) → t < 4 → CarriesCode (words_of (held_by (code_of words ∷ []) functions)) (row_in code t i)
  carries_row t i few = record {
    instr = look_there words are.size small functions (row_in code t i).at (16 * t + i % 16) (row_in code t i).instr (omega arith) (omega arith) (are.spell t (i % 16) few (omega arith));
    short = sym (never_short (held_by (code_of words ∷ []) functions) (row_in code t i).at);
  }

  module _ (T : List ThreadRows) (turns : List Turn) (size : (t : ℕ) → length (steps_in T t) ≡ rows_in t turns) (rows : (t i : ℕ) → i < rows_in t turns → slice_get (steps_in T t) i ≡ Some (row_in code t i)) (threads : All (λ (turn : Turn). turn.thread < 4) turns) where
    carries_thread : (t : ℕ) → t < 4 → CarryCode (words_of (held_by (code_of words ∷ []) functions)) (steps_in T t)
    carries_thread t few = all_found (CarriesCode (words_of (held_by (code_of words ∷ []) functions))) (steps_in T t) (λ i row found.
        let same = size t in
        let inside = slice_get_within (steps_in T t) i row found in
        subst (CarriesCode (words_of (held_by (code_of words ∷ []) functions))) (same_row (sym (rows t i (omega arith)) ∙ found)) (carries_row t i few))

    pub carries : (n : ℕ) → All (λ (p : Piece). CarryCode (words_of (held_by (code_of words ∷ []) functions)) p.stretch.steps) (pieces (harts_of T turns n 0))
    carries n = subst (λ (ps : List Piece). All (λ (p : Piece). CarryCode (words_of (held_by (code_of words ∷ []) functions)) p.stretch.steps) ps) (sym (ap pieces (harts_are T turns n 0)))
        (all_of (λ (p : Piece). CarryCode (words_of (held_by (code_of words ∷ []) functions)) p.stretch.steps) (all_pieces T [] turns n 0)
        (each_piece T (λ b x. x.thread < 4) (λ (p : Piece). CarryCode (words_of (held_by (code_of words ∷ []) functions)) p.stretch.steps)
        (λ b x few. All-take (CarriesCode (words_of (held_by (code_of words ∷ []) functions))) x.count (drop (rows_in x.thread b) (steps_in T x.thread)) (All-drop (CarriesCode (words_of (held_by (code_of words ∷ []) functions))) (rows_in x.thread b) (steps_in T x.thread) (carries_thread x.thread few)))
        n 0 [] turns (after_all (λ (x : Turn). x.thread < 4) [] turns threads)))
