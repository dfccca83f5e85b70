-- The note in which Linux lists the mapped files of a process: `NT_FILE`
-- (include/uapi/linux/elf.h), whose descriptor `fill_files_note` of fs/binfmt_elf.c writes, with
-- words of 32 bits: a count, the page size, so many entries of a first address, the address after
-- the last and an offset in pages, and then the name of each, ended by a zero byte.
use Rattle.std.specs.Prelude.{ℕ, ◌+◌, ◌*◌, ◌<◌, ◌≤◌, List, [], length, drop, ◌==◌, slice_index_or, IsTrue}
use Rattle.std.specs.List.{slice_split}
use Rattle.std.specs.Str.{is_utf8}
use Rattle.rept_elf.specs.Header.{word_at}

-- `NT_FILE`
abbrev pub file_kind : ℕ
file_kind = 0x46494c45

-- the most entries that are read (the project's own)
abbrev pub most_entries : ℕ
most_entries = 4096

abbrev pub map_count : List ℕ → ℕ
map_count desc = word_at desc 0

abbrev pub page_size : List ℕ → ℕ
page_size desc = word_at desc 4

-- where the entry of an index begins
abbrev pub entry_offset : ℕ → ℕ
entry_offset i = 8 + 12 * i

-- what stands between zero bytes; no zero byte ends the last part
abbrev pub parts : List ℕ → List (List ℕ)
parts bytes = slice_split (λ b. b == 0) bytes

-- the parts of what stands after the entries: the names come first
abbrev pub names : List ℕ → List (List ℕ)
names desc = parts (drop (entry_offset (map_count desc)) desc)

-- a mapped part of a file: its addresses, from start to before end, its offset in the file in
-- bytes, and the file's name
pub record MapEntry : Type 0 where
  pub start : ℕ
  pub end : ℕ
  pub offset : ℕ
  pub name : List ℕ

-- the entry of an index with a name
abbrev pub entry_named : List ℕ → ℕ → List ℕ → MapEntry
entry_named desc i name = record {
  start = word_at desc (entry_offset i);
  end = word_at desc (entry_offset i + 4);
  offset = word_at desc (entry_offset i + 8) * page_size desc;
  name = name;
}

-- the entry of an index, with the name of that index
abbrev pub entry_at : List ℕ → ℕ → MapEntry
entry_at desc i = entry_named desc i (slice_index_or (names desc) i [])

-- the entry ends at or after its start, and its name is text
pub record IsEntry (e : MapEntry) : Type 0 where
  pub ordered : e.start ≤ e.end
  pub text : IsTrue (is_utf8 e.name)

-- the descriptor holds all entries and names, and each entry is one; bytes after the last name are
-- not looked at
pub record IsFileMap (desc : List ℕ) : Type 0 where
  pub header : 8 ≤ length desc
  pub entries : entry_offset (map_count desc) ≤ length desc
  pub ended : map_count desc < length (names desc)
  pub each : (i : ℕ) → i < map_count desc → IsEntry (entry_at desc i)
