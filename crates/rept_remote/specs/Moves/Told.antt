-- The bytes that a debugger is told. This project's own.
use Rattle.std.specs.Prelude.{ℕ, Option}
use Rattle.std.specs.Option.{option_or}
use Rattle.rept_findings.specs.Shown.{Shown}

-- the byte at an address that is told at a moment: the one that is known there; else that of the
-- code, which is assumed not to change
abbrev pub byte_told : Shown → ℕ → ℕ → Option ℕ
byte_told s moment address = option_or (s.byte moment address) (s.code address)
