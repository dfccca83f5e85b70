-- The file that an image borrows, and a segment of the code as one of the file.
use Rattle.std.specs.Prelude.{ℕ, List}
use Rattle.rept_elf.specs.Segments.{ElfSegment, segments}
use Rattle.rept_elf.specs.declared.image.Image.{Image}
use Rattle.rept_elf.specs.declared.segment.Segment.{Segment}

-- the bytes of the file
abbrev pub file_of : Image → List ℕ
file_of image = image.bytes.now

-- the segments of the file
abbrev pub segments_of : Image → List ElfSegment
segments_of image = segments (file_of image)

-- the fields and the bytes of a segment
abbrev pub segment_of : Segment → ElfSegment
segment_of s = record { kind = s.kind; offset = s.offset; vaddr = s.vaddr; memsz = s.memsz; filesz = s.filesz; flags = s.flags; body = s.body.now }
