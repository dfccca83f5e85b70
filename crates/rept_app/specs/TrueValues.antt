-- What a line claims of the values that an execution has at a point. HEX below is `0x` and eight
-- lower-case hexadecimal digits. This project's own.
use Rattle.std.specs.Prelude.{◌≡◌, ℕ, ◌+◌, ◌*◌, ◌-◌, ◌/◌, ◌≤◌, min, List, ◌∷◌, [], ◌++◌, Option, Some, codes, bit_and}
use Rattle.std.specs.List.{flat_map, range_with_len}
use Rattle.std.specs.Fmt.{decimal}
use Rattle.rept_word.specs.Hex.{hex_word}
use Rattle.rept_partial.specs.declared.range.Range.{Range}
use Rattle.rept_steps.specs.Course.{Row}
use Rattle.rept_order.specs.Writers.{Writer}
use Rattle.rept_order.specs.Writers.Writer.{writes, may_write, several, none}
use Rattle.rept_findings.specs.declared.place.ThreadPlace.{ThreadPlace}
use Rattle.rept_findings.specs.declared.place.ThreadPoint.{ThreadPoint}
use Rattle.rept_findings.specs.Texts.{byte_text, note_text, range_text, thread_named, value_line, wrapped}

-- What an execution has at a point of a thread: the thread's registers, the memory, and what holds
-- there of the step that last wrote a byte.
pub record PointHeld : Type 1 where
  pub register : ℕ → ℕ
  pub memory : ℕ → ℕ
  pub last_writer : ℕ → Writer → Type 0

-- What an execution has at each point of each thread, and its memory at each place that a line
-- names.
pub record ExecutionHeld : Type 1 where
  pub at : ThreadPoint → PointHeld
  pub memory : ThreadPlace → ℕ → ℕ

-- all values that are told of some registers or addresses are those that it has
abbrev pub IsHeld : (ℕ → Option ℕ) → (ℕ → ℕ) → Type 0
IsHeld told held = (k v : ℕ) → told k ≡ Some v → held k ≡ v

-- `xN HEX`: the register has that value. `xN unknown` claims nothing.
abbrev pub IsRegisterLineTrue : PointHeld → ℕ → List ℕ → Type 0
IsRegisterLineTrue x r text = (told : Option ℕ) × ((v : ℕ) → told ≡ Some v → x.register r ≡ v) × (text ≡ value_line r told)

-- a line for each of x1 to x31
abbrev pub AreRegisterLinesTrue : PointHeld → List ℕ → Type 0
AreRegisterLinesTrue x text = (told : ℕ → Option ℕ) × IsHeld told x.register × (text ≡ flat_map (λ r. value_line r (told r)) (range_with_len 1 31))

-- `xN HEX..HEX known HEX value HEX`: the register's value lies between the first two, and has under
-- the mask these bits
pub record IsRangeLineTrue (x : PointHeld) (r : ℕ) (text : List ℕ) : Type 0 where
  pub range : Range
  pub note : Option (ℕ × ℕ)
  pub from : range.lo ≤ x.register r
  pub to : x.register r ≤ range.hi
  pub bits : (n : ℕ × ℕ) → note ≡ Some n → bit_and (x.register r) n.0 ≡ n.1
  pub is : text ≡ range_text r range ++ note_text note ++ 10 ∷ []

-- `HEX:` and the bytes from there on, each of them as two digits or `??`
abbrev pub bytes_line : (ℕ → Option ℕ) → ℕ → ℕ → List ℕ
bytes_line told address count = hex_word address ++ codes ":" ++ flat_map (λ i. codes " " ++ byte_text (told (wrapped (address + i)))) (range_with_len 0 count) ++ 10 ∷ []

abbrev pub bytes_lines : (ℕ → Option ℕ) → ℕ → ℕ → List ℕ
bytes_lines told address count = flat_map (λ k. bytes_line told (wrapped (address + 16 * k)) (min 16 (count - 16 * k))) (range_with_len 0 ((count + 15) / 16))

-- each byte that is shown is the one that memory has
abbrev pub AreBytesTrue : PointHeld → ℕ → ℕ → List ℕ → Type 0
AreBytesTrue x address count text = (told : ℕ → Option ℕ) × IsHeld told x.memory × (text ≡ bytes_lines told address count)

-- `J`, and ` of T` in a run of several threads
abbrev pub step_named : ℕ → Row → List ℕ
step_named threads r = decimal r.step ++ thread_named threads r.thread

abbrev pub last_writer_text : ℕ → Writer → List ℕ
last_writer_text threads (writes r) = codes "writes " ++ step_named threads r
last_writer_text threads (may_write r) = codes "may write " ++ step_named threads r
last_writer_text threads several = codes "several"
last_writer_text threads none = codes "none"

-- `writes J`: step J wrote the byte, and no later step did; `may write J`: no step after J did;
-- `none`: no step wrote it. `several` claims nothing.
abbrev pub IsWriterLineTrue : ℕ → PointHeld → ℕ → List ℕ → Type 0
IsWriterLineTrue threads x a text = (w : Writer) × x.last_writer a w × (text ≡ last_writer_text threads w ++ 10 ∷ [])
