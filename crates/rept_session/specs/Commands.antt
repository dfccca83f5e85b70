-- Which command a line is. This project's own.
use Rattle.std.specs.Prelude.{ℕ, ◌+◌, ◌≤◌, ◌<◌, List, [], ◌∷◌, length, take, drop, Bool, false, ◌&&◌, ◌||◌, ◌==◌, is_some, nat_lt, nat_le, Option, None, Some, option_map, Result, Ok, Err, codes, if◌then◌else◌}
use Rattle.std.specs.Char.{is_ascii_digit}
use Rattle.std.specs.List.{position}
use Rattle.std.specs.Option.{option_or}
use Rattle.std.specs.Str.{bytes_eq}
use Rattle.rept_session.specs.declared.command.Command.{Command}
use Rattle.rept_session.specs.declared.command.Command.TheVariants as command
use Rattle.rept_session.specs.declared.command.BadCommand.{BadCommand}
use Rattle.rept_session.specs.declared.command.BadCommand.TheVariants as bad
use Rattle.rept_session.specs.declared.verb.Verb.{Verb}
use Rattle.rept_session.specs.declared.question.Question.TheVariants as question
use Rattle.rept_session.specs.declared.verb.QuestionWord.{QuestionWord}
use Rattle.rept_session.specs.declared.verb.QuestionWord.TheVariants as asks
use Rattle.rept_session.specs.declared.verb.Verb.TheVariants.{Lone, One, Two, Ask}
use Rattle.rept_session.specs.declared.verb.Single.{Single}
use Rattle.rept_session.specs.declared.verb.Single.TheVariants as single
use Rattle.rept_session.specs.declared.verb.Double.{Double}
use Rattle.rept_session.specs.declared.verb.Double.TheVariants as double
use Rattle.rept_findings.specs.Texts.{wrapped}
use Rattle.rept_word.specs.Parsing.Numbers.{number_of_word}
use Rattle.rept_session.specs.Registers.{register_of}
use Rattle.rept_session.specs.Words.{words_in}

-- the commands that take no words
abbrev pub lone_command : List ℕ → Option Command
lone_command word =
    if bytes_eq word (codes "where") then Some command.Where
    else if bytes_eq word (codes "regs") then Some command.Regs
    else if bytes_eq word (codes "stack") then Some command.Stack
    else if bytes_eq word (codes "summary") then Some command.Summary
    else if bytes_eq word (codes "quit") then Some command.Quit
    else if bytes_eq word (codes "at") then Some (command.Ask question.At)
    else if bytes_eq word (codes "premises") then Some (command.Ask question.Premises)
    else if bytes_eq word (codes "help") then Some (command.Ask question.Help)
    else None

-- those that take one word
abbrev pub single_verb : List ℕ → Option Single
single_verb word =
    if bytes_eq word (codes "back") then Some single.Back
    else if bytes_eq word (codes "fwd") then Some single.Fwd
    else if bytes_eq word (codes "goto") then Some single.Goto
    else if bytes_eq word (codes "thread") then Some single.Thread
    else if bytes_eq word (codes "reg") then Some single.Reg
    else if bytes_eq word (codes "range") then Some single.Range
    else if bytes_eq word (codes "writer") then Some single.Writer
    else if bytes_eq word (codes "why") then Some single.Why
    else None

-- those that take two
abbrev pub double_verb : List ℕ → Option Double
double_verb word =
    if bytes_eq word (codes "mem") then Some double.Mem
    else if bytes_eq word (codes "list") then Some double.List
    else None

-- questions that take words
abbrev pub question_word : List ℕ → Option QuestionWord
question_word word =
    if bytes_eq word (codes "around") then Some asks.Around
    else if bytes_eq word (codes "visits") then Some asks.Visits
    else if bytes_eq word (codes "find") then Some asks.Find
    else if bytes_eq word (codes "from") then Some asks.From
    else if bytes_eq word (codes "writers") then Some asks.Writers
    else if bytes_eq word (codes "calls") then Some asks.Calls
    else if bytes_eq word (codes "lost") then Some asks.Lost
    else None

abbrev pub verb_of : List ℕ → Option Verb
verb_of word = option_or (option_map Lone (lone_command word)) (option_or (option_map One (single_verb word)) (option_or (option_map Two (double_verb word)) (option_map Ask (question_word word))))

-- a word that names a register, or `pc`, and so no symbol
abbrev pub is_reserved : List ℕ → Bool
is_reserved word = is_some (register_of word) || bytes_eq word (codes "pc")

-- an address and what is added to it, modulo 2^32
abbrev pub moved_by : Option ℕ → Option ℕ → Option ℕ
moved_by None offset = None
moved_by (Some base) None = None
moved_by (Some base) (Some offset) = Some (wrapped (base + offset))

-- `NAME+NUMBER`, where the first `+` of the word is
abbrev pub offset_address : (List ℕ → Option ℕ) → List ℕ → Option ℕ → Option ℕ
offset_address named word None = None
offset_address named word (Some plus) = moved_by (named (take plus word)) (number_of_word (drop (plus + 1) word))

-- the address of a symbol of this name, or of `NAME+NUMBER`
abbrev pub symbol_address : (List ℕ → Option ℕ) → List ℕ → Option ℕ
symbol_address named word = option_or (named word) (offset_address named word (position (λ byte. byte == 43) word))

abbrev pub name_address : (List ℕ → Option ℕ) → List ℕ → Option ℕ
name_address named word = if is_reserved word then None else symbol_address named word

-- the address that a word tells, where `named` are the addresses of names: a number is one, and any
-- other word that names no register may be a symbol
abbrev pub address_of : (List ℕ → Option ℕ) → List ℕ → Option ℕ
address_of named word = option_or (number_of_word word) (name_address named word)

-- a command of a number
abbrev pub with_number : (ℕ → Command) → Option ℕ → Result Command BadCommand
with_number f None = Err bad.Number
with_number f (Some n) = Ok (f n)

-- a command of a register
abbrev pub with_register : (ℕ → Command) → Option ℕ → Result Command BadCommand
with_register f None = Err bad.Register
with_register f (Some r) = Ok (f r)

-- `reg`: a register, or `pc`
abbrev pub reg_command : Option ℕ → List ℕ → Result Command BadCommand
reg_command (Some r) word = Ok (command.Reg r)
reg_command None word = if bytes_eq word (codes "pc") then Ok (command.Ask question.Pc) else Err bad.Register

-- `goto`: a point up to the last one
abbrev pub goto_command : ℕ → Option ℕ → Result Command BadCommand
goto_command last None = Err bad.Number
goto_command last (Some i) = if nat_le i last then Ok (command.Goto i) else Err bad.Limit

-- `thread`: one of so many
abbrev pub thread_command : ℕ → Option ℕ → Result Command BadCommand
thread_command threads None = Err bad.Number
thread_command threads (Some t) = if nat_lt t threads then Ok (command.Thread t) else Err bad.Limit

abbrev pub begins_with_digit : List ℕ → Bool
begins_with_digit [] = false
begins_with_digit (byte ∷ bytes) = is_ascii_digit byte

-- what a word is that is neither a register nor an address: no number where it begins with a digit,
-- else no register
abbrev pub no_cell : List ℕ → BadCommand
no_cell word = if begins_with_digit word then bad.Number else bad.Register

-- a command of an address, where a register would do as well
abbrev pub with_cell : (ℕ → Command) → List ℕ → Option ℕ → Result Command BadCommand
with_cell f word None = Err (no_cell word)
with_cell f word (Some address) = Ok (f address)

-- `why`: a word that names a register is one; any other is an address
abbrev pub why_command : Option ℕ → List ℕ → Option ℕ → Result Command BadCommand
why_command (Some r) word address = Ok (command.WhyReg r)
why_command None word address = with_cell command.WhyByte word address

abbrev pub single_command : (List ℕ → Option ℕ) → ℕ → ℕ → Single → List ℕ → Result Command BadCommand
single_command named last threads single.Back word = with_number command.Back (number_of_word word)
single_command named last threads single.Fwd word = with_number command.Fwd (number_of_word word)
single_command named last threads single.Goto word = goto_command last (number_of_word word)
single_command named last threads single.Thread word = thread_command threads (number_of_word word)
single_command named last threads single.Reg word = reg_command (register_of word) word
single_command named last threads single.Range word = with_register command.Range (register_of word)
single_command named last threads single.Writer word = with_number command.Writer (address_of named word)
single_command named last threads single.Why word = why_command (register_of word) word (address_of named word)

-- a count of 1 to 256
abbrev pub is_count : ℕ → Bool
is_count k = nat_lt 0 k && nat_le k 256

-- the first number of `mem` is an address
abbrev pub first_number : (List ℕ → Option ℕ) → Double → List ℕ → Option ℕ
first_number named double.Mem word = address_of named word
first_number named double.List word = number_of_word word

-- `mem` and `list` of two numbers; the first step of `list` is at most the last point
abbrev pub double_command : ℕ → Double → Option ℕ → Option ℕ → Result Command BadCommand
double_command last verb None second = Err bad.Number
double_command last verb (Some first) None = Err bad.Number
double_command last double.Mem (Some address) (Some count) = if is_count count then Ok (command.Mem address count) else Err bad.Limit
double_command last double.List (Some first) (Some count) = if nat_le first last && is_count count then Ok (command.List first count) else Err bad.Limit

-- `list` alone is the last steps before the cursor
abbrev pub bare_command : Double → Result Command BadCommand
bare_command double.Mem = Err (bad.Words 0)
bare_command double.List = Ok (command.Ask question.Recent)

-- `around`: a count
abbrev pub around_command : Option ℕ → Result Command BadCommand
around_command None = Err bad.Number
around_command (Some count) = if is_count count then Ok (command.Ask (question.Around count)) else Err bad.Limit

-- `find`: a register and a number
abbrev pub find_command : Option ℕ → Option ℕ → Result Command BadCommand
find_command None value = Err bad.Register
find_command (Some register) None = Err bad.Number
find_command (Some register) (Some value) = Ok (command.Ask (question.Find register value))

-- `from`: as `why`, a register or else an address
abbrev pub from_command : Option ℕ → List ℕ → Option ℕ → Result Command BadCommand
from_command (Some r) word address = Ok (command.Ask (question.FromRegister r))
from_command None word address = with_cell (λ address. command.Ask (question.FromByte address)) word address

-- `calls`: a count
abbrev pub calls_command : Option ℕ → Result Command BadCommand
calls_command None = Err bad.Number
calls_command (Some count) = if is_count count then Ok (command.Ask (question.Calls count)) else Err bad.Limit

-- `lost`: as `why`, a register or else an address
abbrev pub lost_command : Option ℕ → List ℕ → Option ℕ → Result Command BadCommand
lost_command (Some r) word address = Ok (command.Ask (question.LostRegister r))
lost_command None word address = with_cell (λ address. command.Ask (question.LostByte address)) word address

-- `writers`: an address, and a count of bytes
abbrev pub writers_command : Option ℕ → Option ℕ → Result Command BadCommand
writers_command None count = Err bad.Number
writers_command (Some address) None = Err bad.Number
writers_command (Some address) (Some count) = if is_count count then Ok (command.Ask (question.Writers address count)) else Err bad.Limit

-- `around` with its words; alone it is `around 3`
abbrev pub around_words : List (List ℕ) → Result Command BadCommand
around_words [] = Ok (command.Ask (question.Around 3))
around_words (word ∷ []) = around_command (number_of_word word)
around_words words = Err (bad.Words (length words))

-- `calls` with its words; alone it is `calls 16`
abbrev pub calls_words : List (List ℕ) → Result Command BadCommand
calls_words [] = Ok (command.Ask (question.Calls 16))
calls_words (word ∷ []) = calls_command (number_of_word word)
calls_words words = Err (bad.Words (length words))

-- `find` with its words
abbrev pub find_words : List (List ℕ) → Result Command BadCommand
find_words (word ∷ second ∷ []) = find_command (register_of word) (number_of_word second)
find_words words = Err (bad.Words (length words))

-- the question of a first word, and the words that come after it; `writers` of an address alone is
-- of one byte
abbrev pub asked_command : (List ℕ → Option ℕ) → QuestionWord → List (List ℕ) → Result Command BadCommand
asked_command named asks.Around words = around_words words
asked_command named asks.Calls words = calls_words words
asked_command named asks.Find words = find_words words
asked_command named asks.Visits (word ∷ []) = with_number (λ address. command.Ask (question.Visits address)) (address_of named word)
asked_command named asks.Visits words = Err (bad.Words (length words))
asked_command named asks.From (word ∷ []) = from_command (register_of word) word (address_of named word)
asked_command named asks.From words = Err (bad.Words (length words))
asked_command named asks.Writers (word ∷ []) = writers_command (address_of named word) (Some 1)
asked_command named asks.Writers (word ∷ second ∷ []) = writers_command (address_of named word) (number_of_word second)
asked_command named asks.Writers words = Err (bad.Words (length words))
asked_command named asks.Lost (word ∷ []) = lost_command (register_of word) word (address_of named word)
asked_command named asks.Lost words = Err (bad.Words (length words))

abbrev pub alone : Command → List (List ℕ) → Result Command BadCommand
alone c [] = Ok c
alone c words = Err (bad.Words (length words))

-- the command of a first word, and the words that come after it; `mem A` and `list I` are of 16
abbrev pub command_of_verb : (List ℕ → Option ℕ) → ℕ → ℕ → Verb → List (List ℕ) → Result Command BadCommand
command_of_verb named last threads (Lone c) words = alone c words
command_of_verb named last threads (One verb) (word ∷ []) = single_command named last threads verb word
command_of_verb named last threads (One verb) words = Err (bad.Words (length words))
command_of_verb named last threads (Two verb) [] = bare_command verb
command_of_verb named last threads (Two verb) (word ∷ []) = double_command last verb (first_number named verb word) (Some 16)
command_of_verb named last threads (Two verb) (word ∷ second ∷ []) = double_command last verb (first_number named verb word) (number_of_word second)
command_of_verb named last threads (Two verb) words = Err (bad.Words (length words))
command_of_verb named last threads (Ask asked) words = asked_command named asked words

abbrev pub command_of_first : (List ℕ → Option ℕ) → ℕ → ℕ → Option Verb → List (List ℕ) → Result Command BadCommand
command_of_first named last threads None words = Err bad.Unknown
command_of_first named last threads (Some verb) words = command_of_verb named last threads verb words

abbrev pub command_of_words : (List ℕ → Option ℕ) → ℕ → ℕ → List (List ℕ) → Result Command BadCommand
command_of_words named last threads [] = Ok command.Nothing
command_of_words named last threads (word ∷ words) = command_of_first named last threads (verb_of word) words

-- the command that a line is, over a thread whose points end at `last` in a run of so many threads,
-- where `named` are the addresses of names; or the first check that fails
abbrev pub command_of : (List ℕ → Option ℕ) → ℕ → ℕ → List ℕ → Result Command BadCommand
command_of named last threads line = if nat_lt 256 (length line) then Err bad.LongLine else command_of_words named last threads (words_in line)

abbrev pub number_of_refusal : BadCommand → ℕ
number_of_refusal bad.Unknown = 1
number_of_refusal bad.Number = 2
number_of_refusal (bad.Words count) = 3
number_of_refusal bad.Register = 4
number_of_refusal bad.Limit = 5
number_of_refusal bad.LongLine = 6

-- a command whose point or step is one of the thread, whose thread is one of the run, and whose
-- count is 1 to 256
abbrev pub IsCommandWithin : ℕ → ℕ → Command → Type 0
IsCommandWithin last threads (command.Goto i) = i ≤ last
IsCommandWithin last threads (command.Thread t) = t < threads
IsCommandWithin last threads (command.Mem address count) = (0 < count) × (count ≤ 256)
IsCommandWithin last threads (command.List first count) = (first ≤ last) × (0 < count) × (count ≤ 256)
IsCommandWithin last threads _ = Unit {0}
