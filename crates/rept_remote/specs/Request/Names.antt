-- The thread that a packet names (GDB manual, appendix Remote Serial Protocol, sections Packets and
-- vCont). A number of a thread is written in hexadecimal digits, without one of a process before
-- it.
use Rattle.std.specs.Prelude.{ℕ, ◌+◌, List, drop, take, Bool, ◌==◌, Option, None, Some, codes, if◌then◌else◌}
use Rattle.std.specs.List.{position}
use Rattle.std.specs.Str.{bytes_eq}
use Rattle.rept_word.specs.Parsing.Numbers.{hexadecimal_of}
use Rattle.rept_remote.specs.Request.Numbers.{pair_of}
use Rattle.rept_remote.specs.declared.request.request.ThreadName.{ThreadName}
use Rattle.rept_remote.specs.declared.request.request.ThreadName.TheVariants as name

abbrev pub name_of : Option ℕ → ThreadName
name_of None = name.Unreadable
name_of (Some number) = if number == 0 then name.Any else name.One number

-- `0` is any thread, `-1` are all
abbrev pub thread_name : List ℕ → ThreadName
thread_name word = if bytes_eq word (codes "-1") then name.Any else name_of (hexadecimal_of word)

-- the thread that is named after so many bytes of a packet
abbrev pub thread_after : ℕ → List ℕ → ThreadName
thread_after count packet = thread_name (drop count packet)

abbrev pub is_semicolon : ℕ → Bool
is_semicolon byte = byte == 59

abbrev pub is_colon : ℕ → Bool
is_colon byte = byte == 58

abbrev pub up_to : List ℕ → Option ℕ → List ℕ
up_to text None = text
up_to text (Some i) = take i text

-- an action is parted from the next one by `;`
abbrev pub first_action : List ℕ → List ℕ
first_action actions = up_to actions (position is_semicolon actions)

abbrev pub named_after : List ℕ → Option ℕ → ThreadName
named_after action None = name.Any
named_after action (Some i) = thread_name (drop (i + 1) action)

-- the thread of an action comes after `:`; one without it is for any thread
abbrev pub action_thread : List ℕ → ThreadName
action_thread action = named_after action (position is_colon action)

-- an action without its thread
abbrev pub before_colon : List ℕ → List ℕ
before_colon action = up_to action (position is_colon action)

-- the two numbers of the first action after `vCont;`, which stand after the letter that says which
-- one it is
abbrev pub acted_range : List ℕ → Option (ℕ × ℕ)
acted_range packet = pair_of (before_colon (first_action (drop 7 packet)))

-- the thread of the first action after `vCont;`
abbrev pub acted_thread : List ℕ → ThreadName
acted_thread packet = action_thread (first_action (drop 6 packet))
