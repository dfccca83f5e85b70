-- A process that runs the top call: its words, its ports, and its status. This project's own.
use Rattle.std.specs.Prelude.{◌≡◌, ℕ, List, [], None, Result, Ok, Err, IfSome}
use Rattle.rept_ports.specs.Port.{Port, PortMove}
use Rattle.rept_ports.specs.Shelves.{Files, Shelved}
use Rattle.rept_ports.specs.declared.arguments.Unreadable.{Unreadable}
use Rattle.rept_ports.specs.declared.arguments.Unreadable.TheVariants.{NotText, OutOfMemory}
use Rattle.rept_opening.specs.Words.Words.{meaning_of}
use Rattle.rept_opening.specs.Delivered.{Delivers, SaysRefusal}
use Rattle.rept_app.specs.Promise.{Promise}
use Rattle.rept_app.specs.Told.{CallInput, CallWrites, call_input}
use Rattle.rept_opening.specs.Loading.{FaultsEnd}
use Rattle.rept_app.specs.Top.{FileStoreCauses, TopCauses, EndsByFiles}
use Rattle.rept_opening.specs.declared.refusal.Refusal.TheVariants as refusal
use Rattle.rept_opening.specs.declared.status.ExitStatus.{ExitStatus}
use Rattle.rept_opening.specs.declared.status.ExitStatus.TheVariants as ends

-- the words; none, where one of them isn't text
abbrev pub words_read : Result (List (List ℕ)) Unreadable → List (List ℕ)
words_read (Ok words) = words
words_read (Err why) = []

-- there was memory for the words
abbrev pub AreWordsRead : Result (List (List ℕ)) Unreadable → Type 0
AreWordsRead (Ok words) = Unit {0}
AreWordsRead (Err NotText) = Unit {0}
AreWordsRead (Err OutOfMemory) = ⊥

-- the words, or why they can't be read; and the file store, the input and the output before the
-- call and after it
pub record Process : Type 0 where
  pub words : Result (List (List ℕ)) Unreadable
  pub file_store : PortMove Shelved
  pub input : PortMove Port
  pub output : PortMove Port

abbrev pub process : Result (List (List ℕ)) Unreadable → PortMove Shelved → PortMove Port → PortMove Port → Process
process words file_store input output = record { words = words; file_store = file_store; input = input; output = output }

-- what the call was given, where its files and this input are told
abbrev pub given_to : Process → Files → List ℕ → CallInput
given_to p files input = call_input (words_read p.words) files p.file_store (record { input = input; left = p.input.after.bytes })

-- The status and the text are those of the top call on the words; without memory for them the line
-- of that.
pub record Answers (p : Process) (status : ExitStatus) : Type 0 where
  pub promise : AreWordsRead p.words → IfSome p.file_store.before.files (λ files. IfSome p.input.before.bytes (λ input. Promise (given_to p files input) p.output status))
  pub causes : TopCauses p.file_store p.input p.output status
  pub once : FaultsEnd (meaning_of (words_read p.words)) p.file_store.before.files → FileStoreCauses p.file_store status
  pub usage : status ≡ ends.Usage → meaning_of (words_read p.words) ≡ None
  pub files : AreWordsRead p.words → IfSome p.file_store.before.files (λ files. EndsByFiles (words_read p.words) files status)
  pub text : AreWordsRead p.words → IfSome p.file_store.before.files (λ files. IfSome p.input.before.bytes (λ input. Delivers (CallWrites (given_to p files input)) p.output status))
  pub memory : p.words ≡ Err OutOfMemory → Delivers (SaysRefusal refusal.OutOfMemory) p.output status
