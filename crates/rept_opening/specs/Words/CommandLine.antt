-- The command line as a command of `clap`: five subcommands, whose words go by their places. This
-- project's own.
use Rattle.std.specs.Prelude.{true, Some, codes}
use Rattle.clap.specs.Words.{App, Rule, Text, new_app, new_rule, with_rule, with_subcommand}
use Rattle.clap.specs.declared.builder.ArgAction.TheVariants.{Set}

-- a word that has to be there, and one that may be left out
abbrev pub needed : Text → Rule
needed id = record (new_rule id) { required = true; action = Some Set }

abbrev pub other : Text → Rule
other id = record (new_rule id) { action = Some Set }

-- a subcommand without help
abbrev pub plain_app : Text → App
plain_app name = record (new_app name) { top = record (new_app name).top { disable_help_flag = true } }

-- with a core file, a trace, and maybe a packet's number as the next words
abbrev pub traced : App → App
traced app = with_rule (with_rule (with_rule app (needed (codes "core"))) (needed (codes "trace"))) (other (codes "from"))

-- one whose words are the files of a crash, and maybe a packet's number
abbrev pub files_app : Text → App
files_app name = traced (with_rule (plain_app name) (needed (codes "exe")))

-- one whose words are a core file and a trace, and maybe a packet's number
abbrev pub maps_app : App
maps_app = traced (plain_app (codes "maps"))

abbrev pub self_app : App
self_app = with_rule (with_rule (plain_app (codes "self")) (needed (codes "seed"))) (needed (codes "steps"))

-- the program: no name of its own before the words, no help, and a subcommand that has to be there
abbrev pub bare_app : App
bare_app = record (new_app (codes "rept")) { top = record (new_app (codes "rept")).top { no_binary_name = true; disable_help_flag = true; disable_help_subcommand = true; subcommand_required = true } }

-- with the three subcommands whose words are three files
abbrev pub opening_app : App
opening_app = with_subcommand (with_subcommand (with_subcommand bare_app (files_app (codes "open")).top) (files_app (codes "bits")).top) (files_app (codes "infer")).top

abbrev pub rept_app : App
rept_app = with_subcommand (with_subcommand opening_app maps_app.top) self_app.top
