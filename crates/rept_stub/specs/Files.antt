-- What the files of a crash tell a debugger besides the report (GDB manual, appendix Remote Serial
-- Protocol, section General Query Packets; System V ABI, RISC-V supplement, on the auxiliary
-- vector).
use Rattle.std.specs.Prelude.{ℕ, ◌+◌, min, List, [], ◌++◌, map, length, Bool, ◌==◌, ◌&&◌, Option, None, Some, codes, if◌then◌else◌}
use Rattle.std.specs.List.{list_any, range_with_len}
use Rattle.std.specs.Option.{option_or}
use Rattle.rept_elf.specs.Image.{segments_of}
use Rattle.rept_maps.specs.Mapped.Mapped.{mapped_byte}
use Rattle.rept_maps.specs.Mapped.Mappings.{mappings_of}
use Rattle.rept_dump.specs.Memory.{kept_at, may_be_written}
use Rattle.rept_findings.specs.Shown.{Shown, moment_at}
use Rattle.rept_findings.specs.Texts.{wrapped}
use Rattle.rept_findings.specs.declared.place.ThreadPoint.{ThreadPoint}
use Rattle.rept_remote.specs.Moves.Told.{byte_told}
use Rattle.rept_remote.specs.declared.request.request.TargetObject.{TargetObject}
use Rattle.rept_remote.specs.declared.request.request.TargetObject.TheVariants as object
use Rattle.rept_stub.specs.Description.{description_text}
use Rattle.rept_stub.specs.Replies.{big_word, known_run}
use Rattle.rept_stub.specs.declared.files.ProcessFiles.{ProcessFiles}
use Rattle.rept_stub.specs.declared.files.ProgramImages.{ProgramImages}
use Rattle.rept_stub.specs.declared.files.ProgramImages.TheVariants as images

-- the byte at an address that the files of a program hold in a segment that can't be written
abbrev pub kept_by : ProgramImages → ℕ → Option ℕ
kept_by (images.Executable image) a = kept_at (segments_of image) a
kept_by (images.Mapped mapped) a = mapped_byte (mappings_of mapped) a

-- The byte that an address has at each moment, by the assumption that what a program can't write
-- doesn't change: that of its files; none where the core file has the address in memory that could
-- be written.
abbrev pub constant_byte : ProcessFiles → ℕ → Option ℕ
constant_byte files a = if list_any (may_be_written a) (segments_of files.core) then None else kept_by files.program a

-- the byte that is shown at a moment: the one that is told, else the one that doesn't change
abbrev pub byte_shown : Shown → ProcessFiles → ℕ → ℕ → Option ℕ
byte_shown s files moment a = option_or (byte_told s moment a) (constant_byte files a)

-- at most so many bytes from an address on at a moment, up to the first one that isn't shown, and
-- at most 2000
abbrev pub known_bytes : Shown → ProcessFiles → ℕ → ℕ → ℕ → List ℕ
known_bytes s files moment address count = known_run (map (λ i. byte_shown s files moment (wrapped (address + i))) (range_with_len 0 (min count 2000)))

-- those at a point of a thread
abbrev pub bytes_shown : Shown → ProcessFiles → ThreadPoint → ℕ → ℕ → List ℕ
bytes_shown s files c address count = known_bytes s files (moment_at s c) address count

-- where the first segment of the executable was loaded, where that isn't its own address
abbrev pub offsets_reply : Option ℕ → List ℕ
offsets_reply None = []
offsets_reply (Some address) = codes "TextSeg=" ++ big_word address

-- the last point of the thread that crashed: thread 0, whose register note is the first one
abbrev pub is_crash_point : Shown → ThreadPoint → Bool
is_crash_point s c = c.thread == 0 && c.point == length (s.rows c.thread)

-- the text of which a part is asked: what is told of the signal is told at the crash alone
abbrev pub object_text : Shown → ProcessFiles → ThreadPoint → TargetObject → List ℕ
object_text s files c object.Description = description_text
object_text s files c object.AuxiliaryVector = files.auxiliary_vector.now
object_text s files c object.SignalInfo = if is_crash_point s c then files.signal_info.now else []
