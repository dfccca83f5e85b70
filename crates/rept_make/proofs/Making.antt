-- A made crash, from its run.
use Rattle.std.proofs.Common.{Option, ◌≡◌, ℕ, zero, suc, ◌+◌, ◌-◌, ◌^◌, ◌<◌, ◌≤◌, nat_le, nat_lt, List, [], ◌∷◌, length, get_or, slice_get, Some, Bool, true, false, cond, ◌&&◌, Ok, refl, sym, ◌∙◌, ap, subst, arith, inl, inr}
use Rattle.std.proofs.lemmas.Bool.{cases_eq}
use Rattle.std.proofs.lemmas.List.Elements.{All-from_get_or}
use Rattle.std.proofs.lemmas.Option.{slice_get_within, slice_get-get_or, get_or_from_slice_get}
use Rattle.rept_isa.specs.declared.instr.Instr.{Instr}
use Rattle.rept_isa.specs.declared.instr.Instr.TheVariants.{Fence}
use Rattle.rept_isa.specs.declared.row.StepRow.{StepRow}
use Rattle.rept_isa.specs.Rows.{Addresses, addresses_of, of_word}
use Rattle.rept_isa.proofs.RowLemmas.{of_long}
use Rattle.rept_elf.specs.Segments.{ElfSegment, segments, greatest_end}
use Rattle.rept_elf.specs.Symbols.{FunctionSymbol, symbol_at}
use Rattle.rept_elf.specs.Checks.{checks, first_failure}
use Rattle.rept_elf.specs.declared.fault.Want.TheVariants.{Exec, Core}
use Rattle.rept_dump.specs.Memory.{crash_byte, held_by}
use Rattle.rept_dump.specs.Registers.{SaysRegisters}
use Rattle.rept_machine.specs.State.{State, IsState}
use Rattle.rept_machine.specs.Step.{HasEffect}
use Rattle.rept_machine.specs.declared.machine.Machine.{Machine}
use Rattle.rept_machine.specs.Machine.{state_of, pc_of}
use Rattle.rept_machine.specs.Execution.{Execution}
use Rattle.rept_path.specs.Code.{words as words_of}
use Rattle.rept_path.specs.Rows.{CarriesCode, CarryCode}
use Rattle.rept_path.proofs.LongRows.{never_short}
use Rattle.rept_trace.specs.Stream.{plain}
use Rattle.rept_path.specs.Traced.{IsTracedPath}
use Rattle.rept_encode.specs.Encoded.{TellsRows}
use Rattle.rept_make.specs.Files.{bytes_of_words, executable, status_of, core_file}
use Rattle.rept_make.specs.Laid.{laid}
use Rattle.rept_make.specs.Made.{AreSaved, IsMade}
use Rattle.rept_make.specs.Near.{Near}
use Rattle.rept_make.specs.Ran.{RanRows}
use Rattle.rept_make.specs.Run.{AreMadeStates}
use Rattle.rept_make.specs.Words.{SpellsAt, IsCode}
use Rattle.rept_make.proofs.Filed.{exe_segments, exe_passes, core_segments, core_passes, core_says, status_word, note_of, data_of, code_of, look_there, byte_there}
use Rattle.rept_make.proofs.Laying.{laid_step}
use Rattle.rept_make.proofs.Nearness.{near_step}

no_row : StepRow
no_row = record { at = 0; instr = Fence; next = 0; call = false; short = false }

module _ (seed : ℕ) (words : List ℕ) (code : IsCode seed words) (rows : List StepRow) (run : ℕ → State) (made : AreMadeStates seed rows run) where
  spelled_at : (i : ℕ) (row : StepRow) (get : slice_get rows i ≡ Some row) → let m = made.steps i row get in SpellsAt m.slot (get_or words m.slot 0) row.instr
  spelled_at i row get =
      let m = made.steps i row get in
      subst (λ (x : Instr). SpellsAt m.slot (get_or words m.slot 0) x) (sym m.instr) (code.spells m.slot m.below)

  near_at : (i : ℕ) → i ≤ length rows → Near (run i)
  near_at zero le =
      let r = made.registers in
      record { number = r 17; place = r 20; offset = (let o = r 21 in omega arith); far = 0; reached = r 22 ∙ refl; few = omega arith; target = r 23 }
  near_at (suc i) le =
      let get : slice_get rows i ≡ Some (get_or rows i no_row) = slice_get-get_or rows i no_row (omega arith) in
      let m = made.steps i (get_or rows i no_row) get in
      let s = made.states i (omega arith) in
      let p = spelled_at i (get_or rows i no_row) get in
      let row : StepRow = get_or rows i no_row in
      let effect : HasEffect row.instr 0 (of_word row.at row.next) (run i) (run (i + 1)) = subst (λ (a : Addresses). HasEffect row.instr 0 a (run i) (run (i + 1))) (of_long row m.long) (m.step 0) in
      let next = near_step row.at m.slot row.next (run i) (run (i + 1)) m.at (near_at i (omega arith)) row.instr 0 m.below s.zero p.placed effect in
      let e : i + 1 ≡ suc i = omega arith in
      subst (λ (k : ℕ). Near (run k)) e next.0

  carries : (functions : ℕ → Option FunctionSymbol) → ((i : ℕ) → get_or words i 0 < 2 ^ 32) → CarryCode (words_of (held_by (code_of words ∷ []) functions)) rows
  carries functions small = All-from_get_or (CarriesCode (words_of (held_by (code_of words ∷ []) functions))) rows no_row (λ i lt.
      let get : slice_get rows i ≡ Some (get_or rows i no_row) = slice_get-get_or rows i no_row lt in
      let m = made.steps i (get_or rows i no_row) get in
      let p = spelled_at i (get_or rows i no_row) get in
      record {
        instr = look_there words code.size small functions (get_or rows i no_row).at m.slot (get_or rows i no_row).instr m.below m.at p.spelled;
        short = m.long ∙ sym (never_short (held_by (code_of words ∷ []) functions) (get_or rows i no_row).at);
      })

byte_small : (words : List ℕ) (i : ℕ) → get_or (bytes_of_words words) i 0 < 256
byte_small [] i = omega arith
byte_small (w ∷ words) zero = omega arith
byte_small (w ∷ words) (suc zero) = omega arith
byte_small (w ∷ words) (suc (suc zero)) = omega arith
byte_small (w ∷ words) (suc (suc (suc zero))) = omega arith
byte_small (w ∷ words) (suc (suc (suc (suc i)))) = byte_small words i

either_small : (b : Bool) (x y : ℕ) → x < 256 → y < 256 → cond b x y < 256
either_small true x y p q = p
either_small false x y p q = q

laid_state : (words : List ℕ) (s : State) → IsState s → IsState (laid (bytes_of_words words) s)
laid_state words s h = record { zero = h.zero; words = h.words; bytes = λ a. either_small (nat_le 65536 a && nat_lt a 66560) (get_or (bytes_of_words words) (a - 65536) 0) (s.memory a) (byte_small words (a - 65536)) (h.bytes a) }

past : (xs : List ℕ) (i : ℕ) → length xs ≤ i → get_or xs i 0 ≡ 0
past [] i le = refl
past (x ∷ xs) zero le = absurd (omega arith)
past (x ∷ xs) (suc i) le = past xs i (omega arith)

executes : (functions : ℕ → Option FunctionSymbol) (seed end : ℕ) (words registers bytes last : List ℕ) (code : IsCode seed words) (rows : List StepRow) (run : ℕ → State) → AreMadeStates seed rows run → (next : ℕ) → AreSaved registers bytes next (run (length rows)) → length last ≡ 32 → ((r : ℕ) → 0 < r → r < 32 → get_or last r 0 ≡ get_or registers r 0) → Execution end rows (slice_get last) (crash_byte (held_by (code_of words ∷ []) functions) (note_of registers ∷ data_of bytes ∷ [])) (λ i. laid (bytes_of_words words) (run i))
executes functions seed end words registers bytes last code rows run made next saved size same = record {
  states = λ p le. laid_state words (run p) (made.states p le);
  steps = λ i row get.
      let m = made.steps i row get in
      let p = spelled_at seed words code rows run made i row get in
      let w = slice_get_within rows i row get in
      laid_step (bytes_of_words words) (addresses_of row) (run i) (run (i + 1)) (near_at seed words code rows run made i (omega arith)) m.slot row.instr end p.placed m.picks (m.step end);
  registers_end = λ r v some get.
      let w = slice_get_within last r v get in
      let lt : r < 32 = omega arith in
      sym (saved.saved r some lt) ∙ sym (same r some lt) ∙ get_or_from_slice_get last r v 0 get;
  bytes_end = λ a v h. byte_there words registers bytes (run (length rows)).memory code.size saved.size saved.bytes functions a v h;
}

pub made_is : (seed : ℕ) (words : List ℕ) (m : Machine) (rows : List StepRow) → IsCode seed words → ((i : ℕ) → get_or words i 0 < 2 ^ 32) → RanRows seed words m rows → (exe core trace registers bytes : List ℕ) → exe ≡ executable 1024 5 words → core ≡ core_file registers bytes → length registers ≡ 32 → get_or registers 0 0 ≡ pc_of m → ((r : ℕ) → 0 < r → r < 32 → get_or registers r 0 ≡ (state_of m).register r) → length bytes ≡ 1024 → ((i : ℕ) → i < 1024 → get_or bytes i 0 ≡ (state_of m).memory (131072 + i)) → TellsRows false trace rows → length trace < 2 ^ 32 → IsMade seed (length rows) (record { exe = exe; core = core; trace = trace })
made_is seed words m rows code small ran exe core trace registers bytes exe_is core_is count pc regs size held tells few =
    let now = ran.now in
    let saved : AreSaved registers bytes (pc_of m) (ran.run (length rows)) = record {
      count = count;
      pc = pc;
      saved = λ r some lt. regs r some lt ∙ ap (λ (s : State). s.register r) (sym ran.now);
      size = size;
      bytes = λ i lt. held i lt ∙ ap (λ (s : State). s.memory (131072 + i)) (sym ran.now);
    } in
    let exe_segs : segments exe ≡ code_of words ∷ [] = ap segments exe_is ∙ exe_segments words code.size in
    let core_segs : segments core ≡ note_of registers ∷ data_of bytes ∷ [] = ap segments core_is ∙ core_segments registers bytes count size in
    let slot = ran.slot in
    record {
      words = words;
      code = code;
      exe = exe_is;
      rows = rows;
      run = ran.run;
      is_run = ran.made;
      count = refl;
      pc = pc_of m;
      ends = ran.ends;
      registers = registers;
      data_bytes = bytes;
      saved = saved;
      core = core_is;
      exe_read = ap (λ (f : List ℕ). first_failure (checks Exec f)) exe_is ∙ exe_passes words code.size;
      core_read = ap (λ (f : List ℕ). first_failure (checks Core f)) core_is ∙ core_passes registers bytes count size;
      status = status_of 1 registers;
      notes = subst (λ (f : List ℕ). SaysRegisters (length f) (segments f) (Ok (status_of 1 registers))) (sym core_is) (core_says registers bytes count size);
      last_pc = status_word registers bytes count size fit 0 (omega arith) ∙ pc;
      rest = tells.rest;
      layout = tells.layout;
      few = few;
      path = subst (λ (ss : List ElfSegment). IsTracedPath (record { code = words_of (held_by ss (symbol_at exe)); stream = plain false tells.rest; from = 0; pc = pc_of m }) 0 rows) (sym exe_segs) (tells.path (held_by (code_of words ∷ []) (symbol_at exe)) (pc_of m) (carries seed words code rows ran.run ran.made (symbol_at exe) small) ran.ends);
      execution = λ last count_last same.
          let e = executes (symbol_at exe) seed (greatest_end (segments exe)) words registers bytes last code rows ran.run ran.made (pc_of m) saved count_last (λ r some lt. same r some lt ∙ status_word registers bytes count size fit r lt) in
          subst (λ (ss : List ElfSegment). Execution (greatest_end (segments exe)) rows (slice_get last) (crash_byte (held_by ss (symbol_at exe)) (segments core)) (λ i. laid (bytes_of_words words) (ran.run i))) (sym exe_segs) (subst (λ (cs : List ElfSegment). Execution (greatest_end (segments exe)) rows (slice_get last) (crash_byte (held_by (code_of words ∷ []) (symbol_at exe)) cs) (λ i. laid (bytes_of_words words) (ran.run i))) (sym core_segs) e);
    }
  where
    fit : (i : ℕ) → get_or registers i 0 < 2 ^ 32
    fit zero = let s = ran.slot in let e = s.2 in omega arith
    fit (suc i) = elim (Rattle.std.proofs.lemmas.Bool.cases_lt (suc i) 32) [
      | inl lt ↦ let e = regs (suc i) (omega arith) lt in let w = ran.state.words (suc i) in omega arith
      | inr ge ↦ let e = past registers (suc i) (omega arith) in omega arith
    ]
