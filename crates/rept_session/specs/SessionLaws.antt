-- A session line by line: what was answered so far, and what one line more makes of it.
use Rattle.std.specs.Prelude.{◌≡◌, ℕ, List, [], ◌∷◌, ◌++◌, length, Bool, true, false, Option, None, Some, MatchBool, ◌&&◌, nat_le, nat_lt, codes, if◌then◌else◌}
use Rattle.std.specs.Str.{bytes_eq}
use Rattle.std.proofs.Common.{refl, sym, subst, subst₂, ◌∙◌, append_assoc, append-nil}
use Rattle.rept_session.specs.Session.{HasAnswered, IsDivided, IsReply, IsSession, Said, cursor_of, ends, said_at}
use Rattle.rept_findings.specs.declared.place.ThreadPoint.{ThreadPoint}
use Rattle.rept_findings.specs.Shown.{SessionTold, number}
use Rattle.rept_session.specs.Texts.{is_quit}
use Rattle.rept_session.specs.Commands.{address_of, around_command, asked_command, bare_command, calls_command, command_of, command_of_first, command_of_verb, command_of_words, double_command, find_command, first_number, from_command, goto_command, is_count, lost_command, reg_command, single_command, thread_command, verb_of, why_command, with_cell, with_number, with_register, writers_command}
use Rattle.rept_session.specs.Registers.{register_of}
use Rattle.rept_session.specs.Words.{words_in}
use Rattle.rept_word.specs.Parsing.Numbers.{number_of_word}
use Rattle.rept_session.specs.declared.command.Command.{Command}
use Rattle.rept_session.specs.declared.verb.Verb.{Verb}
use Rattle.rept_session.specs.declared.verb.Verb.TheVariants.{Lone, One, Two, Ask}
use Rattle.rept_session.specs.declared.question.Question.TheVariants as question
use Rattle.rept_session.specs.declared.verb.QuestionWord.{QuestionWord}
use Rattle.rept_session.specs.declared.verb.QuestionWord.TheVariants as asks
use Rattle.rept_session.specs.declared.verb.Single.{Single}
use Rattle.rept_session.specs.declared.verb.Single.TheVariants as single
use Rattle.rept_session.specs.declared.verb.Double.{Double}
use Rattle.rept_session.specs.declared.verb.Double.TheVariants as double
use Rattle.rept_session.specs.declared.command.Command.TheVariants as command

-- a line ends the session at each cursor or at none
ends_by : (b : Bool) (x y x' y' : Said) → ends x ≡ ends x' → ends y ≡ ends y' → ends (if b then x else y) ≡ ends (if b then x' else y')
ends_by true x y x' y' h k = h
ends_by false x y x' y' h k = k

-- a command of a number, an address or a count doesn't end it
module _ (f : ℕ → Command) (still : (k : ℕ) → is_quit (f k) ≡ false) where
  number_stays : (o : Option ℕ) → ends (with_number f o) ≡ false
  number_stays None = refl
  number_stays (Some k) = still k

  cell_stays : (word : List ℕ) (o : Option ℕ) → ends (with_cell f word o) ≡ false
  cell_stays word None = refl
  cell_stays word (Some k) = still k

stays_by : (b : Bool) (x y : Said) → ends x ≡ false → ends y ≡ false → ends (if b then x else y) ≡ false
stays_by true x y h k = h
stays_by false x y h k = k

module _ (named : List ℕ → Option ℕ) (last threads : ℕ) where
  goto_stays : (o : Option ℕ) → ends (goto_command last o) ≡ false
  goto_stays None = refl
  goto_stays (Some i) = stays_by (nat_le i last) _ _ refl refl

  thread_stays : (o : Option ℕ) → ends (thread_command threads o) ≡ false
  thread_stays None = refl
  thread_stays (Some t) = stays_by (nat_lt t threads) _ _ refl refl

  register_stays : (o : Option ℕ) → ends (with_register command.Range o) ≡ false
  register_stays None = refl
  register_stays (Some r) = refl

  reg_stays : (o : Option ℕ) (word : List ℕ) → ends (reg_command o word) ≡ false
  reg_stays (Some r) word = refl
  reg_stays None word = stays_by (bytes_eq word (codes "pc")) _ _ refl refl

  why_stays : (o : Option ℕ) (word : List ℕ) (a : Option ℕ) → ends (why_command o word a) ≡ false
  why_stays (Some r) word a = refl
  why_stays None word a = cell_stays command.WhyByte (λ k. refl) word a

  single_stays : (verb : Single) (word : List ℕ) → ends (single_command named last threads verb word) ≡ false
  single_stays single.Back word = number_stays command.Back (λ k. refl) (number_of_word word)
  single_stays single.Fwd word = number_stays command.Fwd (λ k. refl) (number_of_word word)
  single_stays single.Goto word = goto_stays (number_of_word word)
  single_stays single.Thread word = thread_stays (number_of_word word)
  single_stays single.Reg word = reg_stays (register_of word) word
  single_stays single.Range word = register_stays (register_of word)
  single_stays single.Writer word = number_stays command.Writer (λ k. refl) (address_of named word)
  single_stays single.Why word = why_stays (register_of word) word (address_of named word)

  double_stays : (verb : Double) (first second : Option ℕ) → ends (double_command last verb first second) ≡ false
  double_stays verb None second = refl
  double_stays verb (Some first) None = refl
  double_stays double.Mem (Some address) (Some count) = stays_by (is_count count) _ _ refl refl
  double_stays double.List (Some first) (Some count) = stays_by (nat_le first last && is_count count) _ _ refl refl

  bare_stays : (verb : Double) → ends (bare_command verb) ≡ false
  bare_stays double.Mem = refl
  bare_stays double.List = refl

  around_stays : (o : Option ℕ) → ends (around_command o) ≡ false
  around_stays None = refl
  around_stays (Some count) = stays_by (is_count count) _ _ refl refl

  calls_stays : (o : Option ℕ) → ends (calls_command o) ≡ false
  calls_stays None = refl
  calls_stays (Some count) = stays_by (is_count count) _ _ refl refl

  find_stays : (r v : Option ℕ) → ends (find_command r v) ≡ false
  find_stays None v = refl
  find_stays (Some r) None = refl
  find_stays (Some r) (Some v) = refl

  from_stays : (o : Option ℕ) (word : List ℕ) (a : Option ℕ) → ends (from_command o word a) ≡ false
  from_stays (Some r) word a = refl
  from_stays None word a = cell_stays (λ address. command.Ask (question.FromByte address)) (λ k. refl) word a

  lost_stays : (o : Option ℕ) (word : List ℕ) (a : Option ℕ) → ends (lost_command o word a) ≡ false
  lost_stays (Some r) word a = refl
  lost_stays None word a = cell_stays (λ address. command.Ask (question.LostByte address)) (λ k. refl) word a

  writers_stays : (a count : Option ℕ) → ends (writers_command a count) ≡ false
  writers_stays None count = refl
  writers_stays (Some a) None = refl
  writers_stays (Some a) (Some count) = stays_by (is_count count) _ _ refl refl

  asked_stays : (v : QuestionWord) (words : List (List ℕ)) → ends (asked_command named v words) ≡ false
  asked_stays asks.Around [] = refl
  asked_stays asks.Around (w ∷ []) = around_stays (number_of_word w)
  asked_stays asks.Around (w ∷ x ∷ ws) = refl
  asked_stays asks.Visits [] = refl
  asked_stays asks.Visits (w ∷ []) = number_stays (λ address. command.Ask (question.Visits address)) (λ k. refl) (address_of named w)
  asked_stays asks.Visits (w ∷ x ∷ ws) = refl
  asked_stays asks.Find [] = refl
  asked_stays asks.Find (w ∷ []) = refl
  asked_stays asks.Find (w ∷ x ∷ []) = find_stays (register_of w) (number_of_word x)
  asked_stays asks.Find (w ∷ x ∷ y ∷ ws) = refl
  asked_stays asks.From [] = refl
  asked_stays asks.From (w ∷ []) = from_stays (register_of w) w (address_of named w)
  asked_stays asks.From (w ∷ x ∷ ws) = refl
  asked_stays asks.Writers [] = refl
  asked_stays asks.Writers (w ∷ []) = writers_stays (address_of named w) (Some 1)
  asked_stays asks.Writers (w ∷ x ∷ []) = writers_stays (address_of named w) (number_of_word x)
  asked_stays asks.Writers (w ∷ x ∷ y ∷ ws) = refl
  asked_stays asks.Calls [] = refl
  asked_stays asks.Calls (w ∷ []) = calls_stays (number_of_word w)
  asked_stays asks.Calls (w ∷ x ∷ ws) = refl
  asked_stays asks.Lost [] = refl
  asked_stays asks.Lost (w ∷ []) = lost_stays (register_of w) w (address_of named w)
  asked_stays asks.Lost (w ∷ x ∷ ws) = refl

  -- of the lines only one of a lone word may end it
  one_stays : (verb : Single) (words : List (List ℕ)) → ends (command_of_verb named last threads (One verb) words) ≡ false
  one_stays verb [] = refl
  one_stays verb (word ∷ []) = single_stays verb word
  one_stays verb (word ∷ second ∷ words) = refl

  two_stays : (verb : Double) (words : List (List ℕ)) → ends (command_of_verb named last threads (Two verb) words) ≡ false
  two_stays verb [] = bare_stays verb
  two_stays verb (word ∷ []) = double_stays verb (first_number named verb word) (Some 16)
  two_stays verb (word ∷ second ∷ []) = double_stays verb (first_number named verb word) (number_of_word second)
  two_stays verb (word ∷ second ∷ third ∷ words) = refl

module _ (named : List ℕ → Option ℕ) (last threads : ℕ) (named' : List ℕ → Option ℕ) (last' threads' : ℕ) where
  first_alike : (verb : Option Verb) (words : List (List ℕ)) → ends (command_of_first named last threads verb words) ≡ ends (command_of_first named' last' threads' verb words)
  first_alike None words = refl
  first_alike (Some (Lone c)) words = refl
  first_alike (Some (One verb)) words = one_stays named last threads verb words ∙ sym (one_stays named' last' threads' verb words)
  first_alike (Some (Two verb)) words = two_stays named last threads verb words ∙ sym (two_stays named' last' threads' verb words)
  first_alike (Some (Ask asked)) words = asked_stays named last threads asked words ∙ sym (asked_stays named' last' threads' asked words)

  words_alike : (words : List (List ℕ)) → ends (command_of_words named last threads words) ≡ ends (command_of_words named' last' threads' words)
  words_alike [] = refl
  words_alike (word ∷ words) = first_alike (verb_of word) words

  pub quits_alike : (line : List ℕ) → ends (command_of named last threads line) ≡ ends (command_of named' last' threads' line)
  quits_alike line = ends_by (nat_lt 256 (length line)) _ _ _ _ refl (words_alike (words_in line))

-- before the first line nothing was written
pub begun : (t : SessionTold) (start : ThreadPoint) → HasAnswered t start [] [] start
begun t start = record { onward = λ later text h. h }

module _ (t : SessionTold) (start : ThreadPoint) (lines : List (List ℕ)) (written : List ℕ) (cursor : ThreadPoint) (so_far : HasAnswered t start lines written cursor) where
  abbrev after : List ℕ → ThreadPoint
  after line = cursor_of t.shown cursor (said_at t.shown cursor line)

  -- one line more, which doesn't end the session: its answer comes after what was written
  pub answered_more : (line reply : List ℕ) → ends (said_at t.shown cursor line) ≡ false → IsReply t cursor (said_at t.shown cursor line) reply → HasAnswered t start (lines ++ line ∷ []) (written ++ reply) (after line)
  answered_more line reply goes_on answers = record { onward = further }
    where
      further : (later : List (List ℕ)) (text : List ℕ) → IsSession t (after line) later text → IsSession t start ((lines ++ line ∷ []) ++ later) ((written ++ reply) ++ text)
      further later text h =
          let First : List ℕ → Type 0 = IsReply t cursor (said_at t.shown cursor line) in
          let Rest : List ℕ → Type 0 = IsSession t (after line) later in
          let divided : IsDivided (reply ++ text) First Rest = record { first = reply; rest = text; parts = refl; answers = answers; follows = h } in
          let here : IsSession t cursor (line ∷ later) (reply ++ text) = subst (λ b. MatchBool b (reply ++ text ≡ []) (IsDivided (reply ++ text) First Rest)) (sym goes_on) divided in
          subst₂ (IsSession t start) (sym (append_assoc lines (line ∷ []) later)) (sym (append_assoc written reply text)) (so_far.onward (line ∷ later) (reply ++ text) here)

  -- after the last line it is the session's text
  pub session_over : IsSession t start lines written
  session_over = subst₂ (IsSession t start) (append-nil lines) (append-nil written) (so_far.onward [] [] refl)

  -- and so it is where a line ends the session, whatever lines come after it
  pub session_quit : (line : List ℕ) (more : List (List ℕ)) → ends (said_at t.shown cursor line) ≡ true → IsSession t start (lines ++ line ∷ more) written
  session_quit line more over =
      let First : List ℕ → Type 0 = IsReply t cursor (said_at t.shown cursor line) in
      let Rest : List ℕ → Type 0 = IsSession t (after line) more in
      let none : List ℕ = [] in
      let here : IsSession t cursor (line ∷ more) none = subst (λ b. MatchBool b (none ≡ []) (IsDivided none First Rest)) (sym over) refl in
      subst (IsSession t start (lines ++ line ∷ more)) (append-nil written) (so_far.onward (line ∷ more) [] here)
