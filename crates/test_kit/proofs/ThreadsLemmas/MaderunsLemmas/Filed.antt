-- What the executable and the core file say.
use Rattle.std.proofs.Common.{Option, ◌≡◌, ℕ, zero, suc, ◌+◌, ◌-◌, ◌*◌, ◌%◌, ◌^◌, ◌<◌, ◌≤◌, ◌==◌, nat_le, nat_lt, List, [], ◌∷◌, ◌++◌, length, take, drop, get_or, Some, None, Bool, true, false, cond, ◌&&◌, Ok, refl, sym, ◌∙◌, ap, subst, arith, inl, inr, length-append, append_assoc}
use Rattle.std.proofs.lemmas.List.{append-nil}
use Rattle.std.proofs.lemmas.Bool.{leb-true, le-leb, cases_eq, cases_lt, and_parts}
use Rattle.std.proofs.Math.Seq.{take-length}
use Rattle.std.specs.Option.{option_map, option_or}
use Rattle.byteorder.specs.Endian.{little_bytes, little_number}
use Rattle.rept_isa.specs.declared.instr.Instr.{Instr}
use Rattle.rept_isa.specs.Words.{IsWord}
use Rattle.rept_isa.proofs.WordLemmas.{reads}
use Rattle.rept_elf.specs.Header.{word_at}
use Rattle.rept_elf.specs.Segments.{ElfSegment, segments}
use Rattle.rept_elf.specs.Symbols.{FunctionSymbol}
use Rattle.rept_elf.specs.Checks.{checks, first_failure}
use Rattle.rept_elf.specs.declared.fault.Want.TheVariants.{Exec, Core}
use Rattle.rept_maps.specs.Notes.Notes.{Note, HoldsNote, AreNotesThen, AreNotes, HaveNotes, first_note, after_note}
use Rattle.rept_dump.specs.Registers.{SaysOfAll, all_registers, pid_of, short_size, first_of, first_short, first_twin, by_size, by_twin}
use Rattle.rept_dump.specs.Memory.{bytes_from, crash_byte, code_at, held_by}
use Rattle.rept_path.specs.Code.{instruction, words as words_of, look}
use Rattle.rept_make.specs.Files.{bytes_of_words, exe_header, executable, core_header, status_start, status_middle, status_of, status_note}
use Rattle.rept_make.proofs.Filed.{length_words, word_there}
use Rattle.test_kit.specs.declared.threads.turns.turn.Turn.{Turn}
use Rattle.test_kit.specs.Threads.Play.Shares.{sees}
use Rattle.test_kit.specs.Threads.Maderuns.Files.{shares_of, saved_of, pc_in, core_file}

-- prefixes of known length
take_front : (xs ys : List ℕ) (m k : ℕ) → m ≡ length xs + k → take m (xs ++ ys) ≡ xs ++ take k ys
take_front [] ys m k e = let f : m ≡ k = omega arith in rw f refl
take_front (x ∷ xs) ys m k e =
    let f : m ≡ suc (length xs + k) = omega arith in
    rw f (ap (λ (zs : List ℕ). x ∷ zs) (take_front xs ys (length xs + k) k refl))

drop_front : (xs ys : List ℕ) (m k : ℕ) → m ≡ length xs + k → drop m (xs ++ ys) ≡ drop k ys
drop_front [] ys m k e = let f : m ≡ k = omega arith in rw f refl
drop_front (x ∷ xs) ys m k e =
    let f : m ≡ suc (length xs + k) = omega arith in
    rw f (drop_front xs ys (length xs + k) k refl)

-- the executable
abbrev pub code_of : List ℕ → ElfSegment
code_of words = record { kind = 1; offset = 84; vaddr = 65536; memsz = 256; filesz = 256; flags = 7; body = bytes_of_words words }

pub exe_segments : (words : List ℕ) → length words ≡ 64 → segments (executable 256 7 words) ≡ code_of words ∷ []
exe_segments words size =
    let n : length (bytes_of_words words) ≡ 256 = (let h = length_words words in omega arith) in
    let t : take 256 (bytes_of_words words) ≡ bytes_of_words words = rw (← n) (take-length (bytes_of_words words)) in
    ap (λ (b : List ℕ). record { kind = 1; offset = 84; vaddr = 65536; memsz = 256; filesz = 256; flags = 7; body = b } ∷ []) t

pub exe_passes : (words : List ℕ) → length words ≡ 64 → first_failure (checks Exec (executable 256 7 words)) ≡ None
exe_passes words size =
    let n : length (executable 256 7 words) ≡ 340 = (let h = length_words words in let a = length-append (exe_header 256 7) (bytes_of_words words) in omega arith) in
    rw n refl

module _ (words : List ℕ) (size : length words ≡ 64) (small : (i : ℕ) → get_or words i 0 < 2 ^ 32) where
  code_size : length (bytes_of_words words) ≡ 256
  code_size = let h = length_words words in omega arith

  code_there : (a j : ℕ) → j < 64 → a ≡ 65536 + 4 * j → code_at (code_of words ∷ []) a ≡ Some (get_or words j 0)
  code_there a j lt e =
      let n = code_size in
      let t : nat_le 65536 a ≡ true = le-leb 65536 a (omega arith) in
      let u : nat_le (a + 4) (65536 + length (bytes_of_words words)) ≡ true = le-leb (a + 4) (65536 + length (bytes_of_words words)) (omega arith) in
      let d : a - 65536 ≡ 4 * j = omega arith in
      let w : word_at (bytes_of_words words) (4 * j) ≡ get_or words j 0 = subst (λ (xs : List ℕ). word_at xs (4 * j) ≡ get_or words j 0) (append-nil (bytes_of_words words)) (word_there words [] j (omega arith) small) in
      rw (t, u, d) (ap (λ (x : ℕ). Some x) w)

  pub look_there : (functions : ℕ → Option FunctionSymbol) (a j : ℕ) (i : Instr) → j < 64 → a ≡ 65536 + 4 * j → IsWord (get_or words j 0) i → look (words_of (held_by (code_of words ∷ []) functions)) a ≡ Ok i
  unfolding look
  look_there functions a j i lt e spelled =
      let even : (a % 4 == 0) ≡ true = (let m : a % 4 ≡ 0 = omega arith in rw m refl) in
      let c = code_there a j lt e in
      let r : instruction (get_or words j 0) ≡ Some i = reads (get_or words j 0) i spelled in
      rw (even, c, r) refl

-- a register note
module _ (process : ℕ) (saved : List ℕ) (count : length saved ≡ 32) where
  words_size : length (bytes_of_words saved) ≡ 128
  words_size = let h = length_words saved in omega arith

  pub status_size : length (status_of process saved) ≡ 204
  status_size =
      let n = words_size in
      let a = length-append (bytes_of_words saved) (0 ∷ 0 ∷ 0 ∷ 0 ∷ []) in
      omega arith

  pub note_size : length (status_note process saved) ≡ 224
  note_size = let n = status_size in omega arith

  pub status_word : ((i : ℕ) → get_or saved i 0 < 2 ^ 32) → (i : ℕ) → i < 32 → word_at (status_of process saved) (72 + 4 * i) ≡ get_or saved i 0
  status_word small i lt =
      let d : drop (72 + 4 * i) (status_of process saved) ≡ drop (4 * i) (bytes_of_words saved ++ (0 ∷ 0 ∷ 0 ∷ 0 ∷ [])) = drop_front (status_start ++ (process ∷ 0 ∷ 0 ∷ 0 ∷ status_middle)) (bytes_of_words saved ++ (0 ∷ 0 ∷ 0 ∷ 0 ∷ [])) (72 + 4 * i) (4 * i) refl in
      ap (λ (xs : List ℕ). little_number 4 xs) d ∙ word_there saved (0 ∷ 0 ∷ 0 ∷ 0 ∷ []) i (omega arith) small

  abbrev pub read_note : ℕ → Note
  read_note offset = record { offset = offset; kind = 1; name = 67 ∷ 79 ∷ 82 ∷ 69 ∷ 0 ∷ []; desc = status_of process saved }

  module _ (rest : List ℕ) where
    desc_there : take 204 (status_of process saved ++ rest) ≡ status_of process saved
    desc_there = let n = status_size in take_front (status_of process saved) rest 204 0 (omega arith) ∙ append-nil (status_of process saved)

    rest_there : drop 204 (status_of process saved ++ rest) ≡ rest
    rest_there = let n = status_size in drop_front (status_of process saved) rest 204 0 (omega arith)

    pub first_is : (offset : ℕ) → first_note offset (status_note process saved ++ rest) ≡ read_note offset
    first_is offset = ap (λ (d : List ℕ). record { offset = offset; kind = 1; name = 67 ∷ 79 ∷ 82 ∷ 69 ∷ 0 ∷ []; desc = d }) desc_there

    pub after_is : after_note (status_note process saved ++ rest) ≡ rest
    after_is = rest_there

    pub holds : HoldsNote (status_note process saved ++ rest)
    holds =
        let n = note_size in
        let a = length-append (status_note process saved) rest in
        let most : 224 ≤ length (status_note process saved ++ rest) = omega arith in
        record { header = omega arith; fits = most }

-- what a thread has saved
pub shares_none : (t : ℕ) (registers : List ℕ) → shares_of t registers 0 ≡ []
unfolding shares_of
shares_none t registers = refl

pub shares_more : (t : ℕ) (registers : List ℕ) (n : ℕ) → shares_of t registers (suc n) ≡ shares_of t registers n ++ (cond (sees t (suc n)) (get_or registers (suc n) 0) 0) ∷ []
unfolding shares_of
shares_more t registers n = refl

pub shares_size : (t : ℕ) (registers : List ℕ) (n : ℕ) → length (shares_of t registers n) ≡ n
shares_size t registers zero = ap (length {A = ℕ}) (shares_none t registers)
shares_size t registers (suc n) =
    let rest = shares_size t registers n in
    let a = length-append (shares_of t registers n) ((cond (sees t (suc n)) (get_or registers (suc n) 0) 0) ∷ []) in
    let more = ap (length {A = ℕ}) (shares_more t registers n) in
    omega arith

get_end : (xs : List ℕ) (x i : ℕ) → i ≡ length xs → get_or (xs ++ x ∷ []) i 0 ≡ x
get_end [] x i is = let e : i ≡ 0 = is in rw e refl
get_end (y ∷ xs) x zero is = absurd (omega arith)
get_end (y ∷ xs) x (suc i) is = get_end xs x i (omega arith)

get_early : (xs ys : List ℕ) (i : ℕ) → i < length xs → get_or (xs ++ ys) i 0 ≡ get_or xs i 0
get_early [] ys i less = absurd (omega arith)
get_early (x ∷ xs) ys zero less = refl
get_early (x ∷ xs) ys (suc i) less = get_early xs ys i (omega arith)

shares_at : (t : ℕ) (registers : List ℕ) (n i : ℕ) → i < n → get_or (shares_of t registers n) i 0 ≡ cond (sees t (suc i)) (get_or registers (suc i) 0) 0
shares_at t registers zero i less = absurd (omega arith)
shares_at t registers (suc n) i less =
    let size = shares_size t registers n in
    ap (λ (xs : List ℕ). get_or xs i 0) (shares_more t registers n)
    ∙ (elim (cases_eq i n) [
      | inl same ↦
          get_end (shares_of t registers n) (cond (sees t (suc n)) (get_or registers (suc n) 0) 0) i (omega arith)
          ∙ ap (λ (k : ℕ). cond (sees t (suc k)) (get_or registers (suc k) 0) 0) (sym same)
      | inr other ↦
          get_early (shares_of t registers n) (cond (sees t (suc n)) (get_or registers (suc n) 0) 0 ∷ []) i (omega arith) ∙ shares_at t registers n i (omega arith)
    ])

pub saved_size : (t pc : ℕ) (registers : List ℕ) → length (saved_of t pc registers) ≡ 32
saved_size t pc registers = let size = shares_size t registers 31 in omega arith

pub saved_at : (t pc : ℕ) (registers : List ℕ) (s : ℕ) → 0 < s → s < 32 → get_or (saved_of t pc registers) s 0 ≡ cond (sees t s) (get_or registers s 0) 0
saved_at t pc registers zero some less = absurd (omega arith)
saved_at t pc registers (suc s) some less = shares_at t registers 31 s (omega arith)

small_share : (b : Bool) (v : ℕ) → v < 2 ^ 32 → cond b v 0 < 2 ^ 32
small_share true v small = small
small_share false v small = omega arith

get_past : (xs : List ℕ) (i : ℕ) → length xs ≤ i → get_or xs i 0 ≡ 0
get_past [] i most = refl
get_past (x ∷ xs) zero most = absurd (omega arith)
get_past (x ∷ xs) (suc i) most = get_past xs i (omega arith)

pub all_small : (xs : List ℕ) (n : ℕ) → length xs ≡ n → ((i : ℕ) → i < n → get_or xs i 0 < 2 ^ 32) → (i : ℕ) → get_or xs i 0 < 2 ^ 32
all_small xs n size each i =
    elim (cases_lt i n) [
      | inl less ↦ each i less
      | inr most ↦ let is = get_past xs i (omega arith) in omega arith
    ]

pub saved_small : (t pc : ℕ) (registers : List ℕ) → pc < 2 ^ 32 → ((s : ℕ) → get_or registers s 0 < 2 ^ 32) → (i : ℕ) → get_or (saved_of t pc registers) i 0 < 2 ^ 32
saved_small t pc registers at each zero = at
saved_small t pc registers at each (suc i) =
    elim (cases_lt i 31) [
      | inl less ↦ let is = shares_at t registers 31 i less in let small = small_share (sees t (suc i)) (get_or registers (suc i) 0) (each (suc i)) in omega arith
      | inr most ↦ let is = get_past (shares_of t registers 31) i (let size = shares_size t registers 31 in omega arith) in omega arith
    ]

-- the core file
abbrev pub notes_body : List ℕ → List ℕ → List ℕ → List ℕ → List ℕ
notes_body a b c d = status_note 1 a ++ (status_note 2 b ++ (status_note 3 c ++ (status_note 4 d ++ [])))

abbrev pub note_of : List ℕ → ElfSegment
note_of notes = record { kind = 4; offset = 116; vaddr = 0; memsz = 0; filesz = 896; flags = 0; body = notes }

abbrev pub data_of : List ℕ → ElfSegment
data_of bytes = record { kind = 1; offset = 1012; vaddr = 131072; memsz = 32; filesz = 32; flags = 6; body = bytes }

module _ (notes bytes : List ℕ) (count : length notes ≡ 896) (size : length bytes ≡ 32) where
  pub core_size : length (core_header 896 32 ++ (notes ++ bytes)) ≡ 1044
  core_size = let a = length-append notes bytes in omega arith

  pub core_segments : segments (core_header 896 32 ++ (notes ++ bytes)) ≡ note_of notes ∷ data_of bytes ∷ []
  core_segments =
      let t : take 896 (notes ++ bytes) ≡ notes = take_front notes bytes 896 0 (omega arith) ∙ append-nil notes in
      let d : drop 896 (notes ++ bytes) ≡ bytes = drop_front notes bytes 896 0 (omega arith) in
      let w : take 32 bytes ≡ bytes = rw (← size) (take-length bytes) in
      let f : List ℕ → List ℕ → List ElfSegment = λ a b. record { kind = 4; offset = 116; vaddr = 0; memsz = 0; filesz = 896; flags = 0; body = a } ∷ data_of b ∷ [] in
      ap (λ (a : List ℕ). f a (take 32 (drop 896 (notes ++ bytes)))) t ∙ ap (λ (b : List ℕ). f notes (take 32 b)) d ∙ ap (λ (b : List ℕ). f notes b) w

  pub core_passes : first_failure (checks Core (core_header 896 32 ++ (notes ++ bytes))) ≡ None
  core_passes = let n = core_size in rw n refl

abbrev note_with : ℕ → List ℕ → Note
note_with offset desc = record { offset = offset; kind = 1; name = 67 ∷ 79 ∷ 82 ∷ 69 ∷ 0 ∷ []; desc = desc }

no_twin : (p q r s : ℕ) → p ≡ 1 → q ≡ 2 → r ≡ 3 → s ≡ 4 → first_twin (p ∷ q ∷ r ∷ s ∷ []) ≡ None
no_twin p q r s one two three four = rw (one, two, three, four) refl

not_short : (desc : List ℕ) → length desc ≡ 204 → short_size desc ≡ None
not_short desc size = ap (λ (k : ℕ). cond (nat_lt k 204) (Some k) None) size

four_say : (a b c d : List ℕ) → length a ≡ 204 → length b ≡ 204 → length c ≡ 204 → length d ≡ 204 → pid_of a ≡ 1 → pid_of b ≡ 2 → pid_of c ≡ 3 → pid_of d ≡ 4
    → all_registers (note_with 116 a ∷ note_with 340 b ∷ note_with 564 c ∷ note_with 788 d ∷ []) ≡ Ok (a ∷ b ∷ c ∷ d ∷ [])
four_say a b c d one two three four p q r s =
    let w = not_short a one in
    let x = not_short b two in
    let y = not_short c three in
    let z = not_short d four in
    let short : first_short (note_with 116 a ∷ note_with 340 b ∷ note_with 564 c ∷ note_with 788 d ∷ []) ≡ None = λ i. first_of (w i) (first_of (x i) (first_of (y i) (first_of (z i) None))) in
    ap (λ (o : Option ℕ). by_size o (a ∷ b ∷ c ∷ d ∷ [])) short ∙ ap (λ (o : Option ℕ). by_twin o (a ∷ b ∷ c ∷ d ∷ [])) (no_twin (pid_of a) (pid_of b) (pid_of c) (pid_of d) p q r s)

then_more : (offset process : ℕ) (saved : List ℕ) (count : length saved ≡ 32) (rest : List ℕ) (notes : List Note) → AreNotesThen (offset + 224) rest notes [] → AreNotesThen offset (status_note process saved ++ rest) (note_with offset (status_of process saved) ∷ notes) []
then_more offset process saved count rest notes h = (holds process saved count rest, first_is process saved count rest offset, subst (λ (bytes : List ℕ). AreNotesThen (offset + 224) bytes notes []) (sym (after_is process saved count rest)) h)

module _ (a b c d bytes : List ℕ) (one : length a ≡ 32) (two : length b ≡ 32) (three : length c ≡ 32) (four : length d ≡ 32) (size : length bytes ≡ 32) where
  abbrev pub statuses : List (List ℕ)
  statuses = status_of 1 a ∷ status_of 2 b ∷ status_of 3 c ∷ status_of 4 d ∷ []

  abbrev all_notes : List Note
  all_notes = note_with 116 (status_of 1 a) ∷ note_with 340 (status_of 2 b) ∷ note_with 564 (status_of 3 c) ∷ note_with 788 (status_of 4 d) ∷ []

  pub notes_size : length (notes_body a b c d) ≡ 896
  notes_size =
      let p = note_size 1 a one in
      let q = note_size 2 b two in
      let r = note_size 3 c three in
      let s = note_size 4 d four in
      let i = length-append (status_note 1 a) (status_note 2 b ++ (status_note 3 c ++ (status_note 4 d ++ []))) in
      let j = length-append (status_note 2 b) (status_note 3 c ++ (status_note 4 d ++ [])) in
      let k = length-append (status_note 3 c) (status_note 4 d ++ []) in
      let l = length-append (status_note 4 d) [] in
      omega arith

  are_notes : AreNotes 116 (notes_body a b c d) all_notes
  are_notes = (
    [],
    then_more 116 1 a one (status_note 2 b ++ (status_note 3 c ++ (status_note 4 d ++ []))) (note_with 340 (status_of 2 b) ∷ note_with 564 (status_of 3 c) ∷ note_with 788 (status_of 4 d) ∷ [])
        (then_more 340 2 b two (status_note 3 c ++ (status_note 4 d ++ [])) (note_with 564 (status_of 3 c) ∷ note_with 788 (status_of 4 d) ∷ [])
        (then_more 564 3 c three (status_note 4 d ++ []) (note_with 788 (status_of 4 d) ∷ [])
        (then_more 788 4 d four [] [] refl))),
    omega arith,
  )

  pub core_says : SaysOfAll (length (core_header 896 32 ++ (notes_body a b c d ++ bytes))) (segments (core_header 896 32 ++ (notes_body a b c d ++ bytes))) (Ok statuses)
  core_says =
      let n = core_size (notes_body a b c d) bytes notes_size size in
      let only = four_say (status_of 1 a) (status_of 2 b) (status_of 3 c) (status_of 4 d) (status_size 1 a one) (status_size 2 b two) (status_size 3 c three) (status_size 4 d four) refl refl refl refl in
      let have : HaveNotes (length (core_header 896 32 ++ (notes_body a b c d ++ bytes))) (note_of (notes_body a b c d) ∷ []) all_notes = (all_notes, [], refl, rw n (omega arith), are_notes, refl) in
      let said : SaysOfAll (length (core_header 896 32 ++ (notes_body a b c d ++ bytes))) (note_of (notes_body a b c d) ∷ data_of bytes ∷ []) (Ok statuses) = inr (all_notes, have, sym only) in
      subst (λ (ss : List ElfSegment). SaysOfAll (length (core_header 896 32 ++ (notes_body a b c d ++ bytes))) ss (Ok statuses)) (sym (core_segments (notes_body a b c d) bytes notes_size size)) said

-- the only bytes that the two files give of memory are the data
one_segment : (f : ElfSegment → ℕ) (x : ElfSegment) (b : Bool) (v : ℕ) → option_or (option_map f (cond b (Some x) None)) None ≡ Some v → (b ≡ true) × (f x ≡ v)
one_segment f x true v h = (refl, (cc))
one_segment f x false v h = cc

first_byte : (xs : List ℕ) (k : ℕ) → k < length xs → get_or (drop k xs) 0 0 ≡ get_or xs k 0
first_byte [] k lt = absurd (omega arith)
first_byte (x ∷ xs) zero lt = refl
first_byte (x ∷ xs) (suc k) lt = first_byte xs k (omega arith)

pub byte_there : (words notes bytes : List ℕ) (functions : ℕ → Option FunctionSymbol) (a v : ℕ) → length bytes ≡ 32 → crash_byte (held_by (code_of words ∷ []) functions) (note_of notes ∷ data_of bytes ∷ []) a ≡ Some v → ((131072 ≤ a) × (a < 131104)) × (get_or bytes (a - 131072) 0 ≡ v)
byte_there words notes bytes functions a v size h =
    let x = one_segment (λ (s : ElfSegment). get_or (bytes_from a s) 0 0) (data_of bytes) (nat_le 131072 a && nat_le (a + 1) (131072 + length bytes)) v h in
    let t = and_parts (nat_le 131072 a) (nat_le (a + 1) (131072 + length bytes)) x.0 in
    let low = leb-true 131072 a t.0 in
    let up = leb-true (a + 1) (131072 + length bytes) t.1 in
    ((low, omega arith), sym (first_byte bytes (a - 131072) (omega arith)) ∙ x.1)

-- words of two lists
pub words_append : (xs ys : List ℕ) → bytes_of_words (xs ++ ys) ≡ bytes_of_words xs ++ bytes_of_words ys
words_append [] ys = refl
words_append (x ∷ xs) ys = ap (λ (bs : List ℕ). little_bytes 4 x ++ bs) (words_append xs ys) ∙ sym (append_assoc (little_bytes 4 x) (bytes_of_words xs) (bytes_of_words ys))

-- one register more
pub saved_more : (t pc : ℕ) (registers : List ℕ) (i w : ℕ) (first old new : List ℕ) → old ≡ first ++ bytes_of_words (pc ∷ shares_of t registers i) → new ≡ old ++ little_bytes 4 w → w ≡ cond (sees t (i + 1)) (get_or registers (i + 1) 0) 0 → new ≡ first ++ bytes_of_words (pc ∷ shares_of t registers (i + 1))
saved_more t pc registers i w first old new before added share =
    let next : suc i ≡ i + 1 = omega arith in
    let more : shares_of t registers (i + 1) ≡ shares_of t registers i ++ w ∷ [] =
    ap (λ (k : ℕ). shares_of t registers k) (sym next) ∙ shares_more t registers i
    ∙ ap (λ (k : ℕ). shares_of t registers i ++ (cond (sees t k) (get_or registers k 0) 0) ∷ []) next
    ∙ ap (λ (v : ℕ). shares_of t registers i ++ v ∷ []) (sym share) in
    added ∙ ap (λ (bs : List ℕ). bs ++ little_bytes 4 w) before
    ∙ append_assoc first (bytes_of_words (pc ∷ shares_of t registers i)) (little_bytes 4 w)
    ∙ ap (λ (bs : List ℕ). first ++ (bytes_of_words (pc ∷ shares_of t registers i) ++ bs)) (sym (append-nil (little_bytes 4 w)))
    ∙ ap (λ (bs : List ℕ). first ++ bs) (sym (words_append (pc ∷ shares_of t registers i) (w ∷ [])))
    ∙ ap (λ (xs : List ℕ). first ++ bytes_of_words (pc ∷ xs)) (sym more)

pub saved_none : (t pc : ℕ) (registers first old : List ℕ) → old ≡ first ++ little_bytes 4 pc → old ≡ first ++ bytes_of_words (pc ∷ shares_of t registers 0)
saved_none t pc registers first old is = is ∙ ap (λ (bs : List ℕ). first ++ bs) (sym (append-nil (little_bytes 4 pc))) ∙ ap (λ (xs : List ℕ). first ++ bytes_of_words (pc ∷ xs)) (sym (shares_none t registers))

-- the core file, part by part
one_part : (old new part rest : List ℕ) → new ≡ old ++ part → new ++ rest ≡ old ++ (part ++ rest)
one_part old new part rest added = ap (λ (xs : List ℕ). xs ++ rest) added ∙ append_assoc old part rest

pub parts_are : (a b c d e bytes f g h i j k l : List ℕ) → f ≡ [] → g ≡ f ++ a → h ≡ g ++ b → i ≡ h ++ c → j ≡ i ++ d → k ≡ j ++ e → l ≡ k ++ bytes → l ≡ a ++ (b ++ (c ++ (d ++ (e ++ bytes))))
parts_are a b c d e bytes f g h i j k l none head one two three four last =
    last
    ∙ one_part j k e bytes four
    ∙ one_part i j d (e ++ bytes) three
    ∙ one_part h i c (d ++ (e ++ bytes)) two
    ∙ one_part g h b (c ++ (d ++ (e ++ bytes))) one
    ∙ one_part f g a (b ++ (c ++ (d ++ (e ++ bytes)))) head
    ∙ ap (λ (xs : List ℕ). xs ++ (a ++ (b ++ (c ++ (d ++ (e ++ bytes)))))) none

pub core_is : (turns : List Turn) (registers bytes : List ℕ) (p q r s : ℕ) (new : List ℕ) → p ≡ pc_in turns 0 → q ≡ pc_in turns 1 → r ≡ pc_in turns 2 → s ≡ pc_in turns 3
    → new ≡ core_header 896 32 ++ (status_note 1 (saved_of 0 p registers) ++ (status_note 2 (saved_of 1 q registers) ++ (status_note 3 (saved_of 2 r registers) ++ (status_note 4 (saved_of 3 s registers) ++ bytes))))
    → new ≡ core_file turns registers bytes
core_is turns registers bytes p q r s new one two three four is =
    is ∙ (λ i. core_header 896 32 ++ (status_note 1 (saved_of 0 (one i) registers) ++ (status_note 2 (saved_of 1 (two i) registers) ++ (status_note 3 (saved_of 2 (three i) registers) ++ (status_note 4 (saved_of 3 (four i) registers) ++ bytes)))))
