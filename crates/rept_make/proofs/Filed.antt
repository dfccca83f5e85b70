-- What the files of a made crash say.
use Rattle.std.proofs.Common.{Option, ◌≡◌, ℕ, zero, suc, ◌+◌, ◌-◌, ◌*◌, ◌/◌, ◌%◌, ◌^◌, ◌<◌, ◌≤◌, ◌==◌, nat_le, nat_lt, List, [], ◌∷◌, ◌++◌, length, take, drop, get_or, Some, None, Bool, true, false, cond, ◌&&◌, Ok, refl, sym, ◌∙◌, ap, subst, arith, ◌⊎◌, inl, inr, length-append}
use Rattle.std.proofs.lemmas.List.{append-nil}
use Rattle.std.proofs.lemmas.Bool.Decides.{nat_tests}
use Rattle.std.proofs.Math.Seq.{take-length}
use Rattle.byteorder.specs.Endian.{little_number}
use Rattle.rept_elf.specs.Header.{word_at}
use Rattle.rept_elf.specs.Segments.{ElfSegment, segments}
use Rattle.rept_elf.specs.Symbols.{FunctionSymbol}
use Rattle.rept_elf.specs.Checks.{checks, first_failure}
use Rattle.rept_elf.specs.declared.fault.Want.TheVariants.{Exec, Core}
use Rattle.rept_maps.specs.Notes.Notes.{Note, AreNotes, HaveNotes, first_note}
use Rattle.rept_dump.specs.Registers.{SaysRegisters, only_registers}
use Rattle.std.specs.Option.{option_map, option_or}
use Rattle.rept_isa.specs.declared.instr.Instr.{Instr}
use Rattle.rept_isa.specs.Words.{IsWord}
use Rattle.rept_isa.proofs.WordLemmas.{reads}
use Rattle.rept_dump.specs.Memory.{bytes_from, crash_byte, code_at, held_by}
use Rattle.rept_path.specs.Code.{instruction, words as words_of, look}
use Rattle.rept_make.specs.Laid.{laid_byte}
use Rattle.rept_make.proofs.Laying.{off_code}
use Rattle.rept_make.specs.Files.{bytes_of_words, exe_header, executable, note_start, status_of, core_file}

-- words as bytes
pub length_words : (words : List ℕ) → length (bytes_of_words words) ≡ 4 * length words
length_words [] = refl
length_words (w ∷ words) = let h = length_words words in omega arith

four_bytes : (w : ℕ) → w < 2 ^ 32 → w % 256 + 256 * (w / 256 % 256 + 256 * (w / 65536 % 256 + 256 * (w / 16777216 % 256 + 256 * 0))) ≡ w
four_bytes w lt = omega arith

pub word_there : (words more : List ℕ) (k : ℕ) → k < length words → ((i : ℕ) → get_or words i 0 < 2 ^ 32) → word_at (bytes_of_words words ++ more) (4 * k) ≡ get_or words k 0
word_there [] more k lt small = absurd (omega arith)
word_there (w ∷ words) more zero lt small = four_bytes w (small 0)
word_there (w ∷ words) more (suc k) lt small =
    let e : 4 * suc k ≡ suc (suc (suc (suc (4 * k)))) = omega arith in
    let h = word_there words more k (omega arith) (λ i. small (suc i)) in
    rw e h

-- the executable
pub exe_segments : (words : List ℕ) → length words ≡ 256 → segments (executable 1024 5 words) ≡ record { kind = 1; offset = 84; vaddr = 65536; memsz = 1024; filesz = 1024; flags = 5; body = bytes_of_words words } ∷ []
exe_segments words size =
    let n : length (bytes_of_words words) ≡ 1024 = (let h = length_words words in omega arith) in
    let t : take 1024 (bytes_of_words words) ≡ bytes_of_words words = rw (← n) (take-length (bytes_of_words words)) in
    ap (λ (b : List ℕ). record { kind = 1; offset = 84; vaddr = 65536; memsz = 1024; filesz = 1024; flags = 5; body = b } ∷ []) t

pub exe_passes : (words : List ℕ) → length words ≡ 256 → first_failure (checks Exec (executable 1024 5 words)) ≡ None
exe_passes words size =
    let n : length (executable 1024 5 words) ≡ 1108 = (let h = length_words words in let a = length-append (exe_header 1024 5) (bytes_of_words words) in omega arith) in
    rw n refl

-- prefixes of known length
take_front : (xs ys : List ℕ) (m k : ℕ) → m ≡ length xs + k → take m (xs ++ ys) ≡ xs ++ take k ys
take_front [] ys m k e = let f : m ≡ k = omega arith in rw f refl
take_front (x ∷ xs) ys m k e =
    let f : m ≡ suc (length xs + k) = omega arith in
    rw f (ap (λ (zs : List ℕ). x ∷ zs) (take_front xs ys (length xs + k) k refl))

drop_front : (xs ys : List ℕ) (m k : ℕ) → m ≡ length xs + k → drop m (xs ++ ys) ≡ drop k ys
drop_front [] ys m k e = let f : m ≡ k = omega arith in rw f refl
drop_front (x ∷ xs) ys m k e =
    let f : m ≡ suc (length xs + k) = omega arith in
    rw f (drop_front xs ys (length xs + k) k refl)

abbrev pub zeros : List ℕ
zeros = 0 ∷ 0 ∷ 0 ∷ 0 ∷ []

abbrev pub note_of : List ℕ → ElfSegment
note_of registers = record { kind = 4; offset = 116; vaddr = 0; memsz = 0; filesz = 224; flags = 0; body = note_start 1 ++ (bytes_of_words registers ++ zeros) }

abbrev pub data_of : List ℕ → ElfSegment
data_of bytes = record { kind = 1; offset = 340; vaddr = 131072; memsz = 1024; filesz = 1024; flags = 6; body = bytes }

module _ (registers bytes : List ℕ) (count : length registers ≡ 32) (size : length bytes ≡ 1024) where
  words_size : length (bytes_of_words registers) ≡ 128
  words_size = let h = length_words registers in omega arith

  pub core_size : length (core_file registers bytes) ≡ 1364
  core_size =
      let a = length-append (bytes_of_words registers) (0 ∷ 0 ∷ 0 ∷ 0 ∷ bytes) in
      let n = words_size in
      omega arith

  pub core_segments : segments (core_file registers bytes) ≡ note_of registers ∷ data_of bytes ∷ []
  core_segments =
      let n = words_size in
      let t : take 132 (bytes_of_words registers ++ (0 ∷ 0 ∷ 0 ∷ 0 ∷ bytes)) ≡ bytes_of_words registers ++ zeros = take_front (bytes_of_words registers) (0 ∷ 0 ∷ 0 ∷ 0 ∷ bytes) 132 4 (omega arith) in
      let d : drop 132 (bytes_of_words registers ++ (0 ∷ 0 ∷ 0 ∷ 0 ∷ bytes)) ≡ bytes = drop_front (bytes_of_words registers) (0 ∷ 0 ∷ 0 ∷ 0 ∷ bytes) 132 4 (omega arith) in
      let w : take 1024 bytes ≡ bytes = rw (← size) (take-length bytes) in
      let f : List ℕ → List ℕ → List ElfSegment = λ a b. record { kind = 4; offset = 116; vaddr = 0; memsz = 0; filesz = 224; flags = 0; body = note_start 1 ++ a } ∷ data_of b ∷ [] in
      ap (λ (a : List ℕ). f a (take 1024 (drop 132 (bytes_of_words registers ++ (0 ∷ 0 ∷ 0 ∷ 0 ∷ bytes))))) t ∙ ap (λ (b : List ℕ). f (bytes_of_words registers ++ zeros) (take 1024 b)) d ∙ ap (λ (b : List ℕ). f (bytes_of_words registers ++ zeros) b) w

  pub core_passes : first_failure (checks Core (core_file registers bytes)) ≡ None
  core_passes = let n = core_size in rw n refl

  note_rest : take 132 (bytes_of_words registers ++ zeros) ≡ bytes_of_words registers ++ zeros
  note_rest =
      let n = words_size in
      let a = length-append (bytes_of_words registers) zeros in
      let e : length (bytes_of_words registers ++ zeros) ≡ 132 = omega arith in
      rw (← e) (take-length (bytes_of_words registers ++ zeros))

  note_end : drop 132 (bytes_of_words registers ++ zeros) ≡ []
  note_end = let n = words_size in drop_front (bytes_of_words registers) zeros 132 4 (omega arith)

  abbrev note : Note
  note = first_note 116 (note_of registers).body

  desc_is : note.desc ≡ status_of 1 registers
  desc_is = ap (λ (xs : List ℕ). drop 20 (note_start 1) ++ xs) note_rest

  body_size : length (note_of registers).body ≡ 224
  body_size =
      let n = words_size in
      let a = length-append (bytes_of_words registers) zeros in
      omega arith

  status_size : length (status_of 1 registers) ≡ 204
  status_size =
      let n = words_size in
      let a = length-append (bytes_of_words registers) zeros in
      omega arith

  pub core_says : SaysRegisters (length (core_file registers bytes)) (segments (core_file registers bytes)) (Ok (status_of 1 registers))
  core_says =
      let n = core_size in
      let b = body_size in
      let whole : AreNotes 116 (note_of registers).body (note ∷ []) = ([], ((record { header = rw b (omega arith); fits = rw b (omega arith) }), refl, sym note_end), omega arith) in
      let have : HaveNotes (length (core_file registers bytes)) (note_of registers ∷ []) (note ∷ []) = (note ∷ [], [], refl, rw n (omega arith), whole, refl) in
      let long : nat_lt (length note.desc) 204 ≡ false = ap (λ (k : ℕ). nat_lt k 204) (ap (length {A = ℕ}) desc_is ∙ status_size) in
      let only : only_registers (note ∷ []) ≡ Ok (status_of 1 registers) = rw long (ap (λ (d : List ℕ). Ok d) desc_is) in
      let said : SaysRegisters (length (core_file registers bytes)) (note_of registers ∷ data_of bytes ∷ []) (Ok (status_of 1 registers)) = inr (note ∷ [], have, sym only) in
      subst (λ (ss : List ElfSegment). SaysRegisters (length (core_file registers bytes)) ss (Ok (status_of 1 registers))) (sym core_segments) said

  pub status_word : ((i : ℕ) → get_or registers i 0 < 2 ^ 32) → (i : ℕ) → i < 32 → word_at (status_of 1 registers) (72 + 4 * i) ≡ get_or registers i 0
  status_word small i lt =
      let d : drop (72 + 4 * i) (status_of 1 registers) ≡ drop (4 * i) (bytes_of_words registers ++ zeros) = drop_front (drop 20 (note_start 1)) (bytes_of_words registers ++ zeros) (72 + 4 * i) (4 * i) refl in
      ap (λ (xs : List ℕ). little_number 4 xs) d ∙ word_there registers zeros i (omega arith) small

-- What stands at an address of the code.
abbrev pub code_of : List ℕ → ElfSegment
code_of words = record { kind = 1; offset = 84; vaddr = 65536; memsz = 1024; filesz = 1024; flags = 5; body = bytes_of_words words }

yes_le : (a b : ℕ) → a ≤ b → nat_le a b ≡ true
yes_le a b h = grind (arith, nat_tests)

yes_lt : (a b : ℕ) → a < b → nat_lt a b ≡ true
yes_lt a b h = grind (arith, nat_tests)

module _ (words : List ℕ) (size : length words ≡ 256) (small : (i : ℕ) → get_or words i 0 < 2 ^ 32) where
  code_size : length (bytes_of_words words) ≡ 1024
  code_size = let h = length_words words in omega arith

  pub code_there : (a j : ℕ) → j < 256 → a ≡ 65536 + 4 * j → code_at (code_of words ∷ []) a ≡ Some (get_or words j 0)
  code_there a j lt e =
      let n = code_size in
      let t : nat_le 65536 a ≡ true = yes_le 65536 a (omega arith) in
      let u : nat_le (a + 4) (65536 + length (bytes_of_words words)) ≡ true = yes_le (a + 4) (65536 + length (bytes_of_words words)) (omega arith) in
      let d : a - 65536 ≡ 4 * j = omega arith in
      let w : word_at (bytes_of_words words) (4 * j) ≡ get_or words j 0 = subst (λ (xs : List ℕ). word_at xs (4 * j) ≡ get_or words j 0) (append-nil (bytes_of_words words)) (word_there words [] j (omega arith) small) in
      rw (t, u, d) (ap (λ (x : ℕ). Some x) w)

  pub look_there : (functions : ℕ → Option FunctionSymbol) (a j : ℕ) (i : Instr) → j < 256 → a ≡ 65536 + 4 * j → IsWord (get_or words j 0) i → look (words_of (held_by (code_of words ∷ []) functions)) a ≡ Ok i
  unfolding look
  look_there functions a j i lt e spelled =
      let even : (a % 4 == 0) ≡ true = (let m : a % 4 ≡ 0 = omega arith in rw m refl) in
      let c = code_there a j lt e in
      let r : instruction (get_or words j 0) ≡ Some i = reads (get_or words j 0) i spelled in
      rw (even, c, r) refl

-- The bytes that the two files give of memory.
and_true : (p q : Bool) → (p && q) ≡ true → (p ≡ true) × (q ≡ true)
and_true true true h = (refl, refl)
and_true true false h = cc
and_true false q h = cc

le_of : (a b : ℕ) → nat_le a b ≡ true → a ≤ b
le_of a b h = grind (arith, nat_tests)

either_segment : (f : ElfSegment → ℕ) (x y : ElfSegment) (b c : Bool) (v : ℕ) → option_or (option_map f (cond b (Some x) None)) (option_map f (cond c (Some y) None)) ≡ Some v → ((b ≡ true) × (f x ≡ v)) ⊎ ((c ≡ true) × (f y ≡ v))
either_segment f x y true c v h = inl (refl, (cc))
either_segment f x y false true v h = inr (refl, (cc))
either_segment f x y false false v h = cc

first_of : (xs : List ℕ) (k : ℕ) → k < length xs → get_or (drop k xs) 0 0 ≡ get_or xs k 0
first_of [] k lt = absurd (omega arith)
first_of (x ∷ xs) zero lt = refl
first_of (x ∷ xs) (suc k) lt = first_of xs k (omega arith)

module _ (words registers bytes : List ℕ) (memory : ℕ → ℕ) (size : length words ≡ 256) (count : length bytes ≡ 1024) (saved : (i : ℕ) → i < 1024 → get_or bytes i 0 ≡ memory (131072 + i)) where
  pub byte_there : (functions : ℕ → Option FunctionSymbol) (a v : ℕ) → crash_byte (held_by (code_of words ∷ []) functions) (note_of registers ∷ data_of bytes ∷ []) a ≡ Some v → laid_byte (bytes_of_words words) a (memory a) ≡ v
  byte_there functions a v h =
      let n : length (bytes_of_words words) ≡ 1024 = (let l = length_words words in omega arith) in
      let b : Bool = nat_le 131072 a && nat_le (a + 1) (131072 + length bytes) in
      let c : Bool = nat_le 65536 a && nat_le (a + 1) (65536 + length (bytes_of_words words)) in
      elim (either_segment (λ s. get_or (bytes_from a s) 0 0) (data_of bytes) (code_of words) (nat_le 131072 a && nat_le (a + 1) (131072 + length bytes)) (nat_le 65536 a && nat_le (a + 1) (65536 + length (bytes_of_words words))) v h) [
        | inl x ↦
            let t = and_true (nat_le 131072 a) (nat_le (a + 1) (131072 + length bytes)) x.0 in
            let low = le_of 131072 a t.0 in
            let up = le_of (a + 1) (131072 + length bytes) t.1 in
            let f : get_or (drop (a - 131072) bytes) 0 0 ≡ get_or bytes (a - 131072) 0 = first_of bytes (a - 131072) (omega arith) in
            let g : get_or bytes (a - 131072) 0 ≡ memory (131072 + (a - 131072)) = saved (a - 131072) (omega arith) in
            let e : 131072 + (a - 131072) ≡ a = omega arith in
            off_code (bytes_of_words words) a (memory a) (omega arith) ∙ ap memory (sym e) ∙ sym g ∙ sym f ∙ x.1
        | inr x ↦
            let t = and_true (nat_le 65536 a) (nat_le (a + 1) (65536 + length (bytes_of_words words))) x.0 in
            let low = le_of 65536 a t.0 in
            let up = le_of (a + 1) (65536 + length (bytes_of_words words)) t.1 in
            let f : get_or (drop (a - 65536) (bytes_of_words words)) 0 0 ≡ get_or (bytes_of_words words) (a - 65536) 0 = first_of (bytes_of_words words) (a - 65536) (omega arith) in
            let u : nat_le 65536 a ≡ true = yes_le 65536 a low in
            let w : nat_lt a 66560 ≡ true = yes_lt a 66560 (omega arith) in
            rw (u, w) (sym f ∙ x.1)
      ]
