-- Which lines a terminal shows. This project's own.
use Rattle.std.specs.Prelude.{ℕ, List, Bool, nat_eq, codes, if◌then◌else◌}
use Rattle.std.specs.List.{starts_with}
use Rattle.rept_app.specs.declared.terminal.Terminals.{Terminals}

-- of a line that was no command standard input, else standard output
unfoldable pub is_shown : Terminals → List ℕ → Bool
is_shown terminals line = if starts_with nat_eq line (codes "? ") then terminals.input else terminals.output
