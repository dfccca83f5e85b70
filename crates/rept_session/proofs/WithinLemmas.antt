-- The commands that lines are stay within the path and their limits.
use Rattle.std.proofs.Common.{◌≡◌, ℕ, List, [], ◌∷◌, length, Bool, true, false, ◌&&◌, nat_lt, nat_le, Option, None, Some, Result, codes, if◌then◌else◌, IfOk, IfSome, refl, arith}
use Rattle.std.proofs.lemmas.Bool.Decides.{nat_tests}
use Rattle.std.specs.Prelude.{option_map}
use Rattle.std.specs.Option.{option_or}
use Rattle.std.specs.Str.{bytes_eq}
use Rattle.rept_session.specs.declared.command.Command.{Command}
use Rattle.rept_session.specs.declared.command.Command.TheVariants as command
use Rattle.rept_session.specs.declared.command.BadCommand.{BadCommand}
use Rattle.rept_session.specs.declared.verb.Verb.{Verb}
use Rattle.rept_session.specs.declared.question.Question.TheVariants as question
use Rattle.rept_session.specs.declared.verb.QuestionWord.{QuestionWord}
use Rattle.rept_session.specs.declared.verb.QuestionWord.TheVariants as asks
use Rattle.rept_session.specs.declared.verb.Verb.TheVariants.{Lone, One, Two, Ask}
use Rattle.rept_session.specs.declared.verb.Single.{Single}
use Rattle.rept_session.specs.declared.verb.Single.TheVariants as single
use Rattle.rept_session.specs.declared.verb.Double.{Double}
use Rattle.rept_session.specs.declared.verb.Double.TheVariants as double
use Rattle.rept_session.specs.Commands.{IsCommandWithin, around_command, asked_command, bare_command, calls_command, command_of, command_of_first, command_of_words, double_command, double_verb, find_command, first_number, from_command, goto_command, lost_command, question_word, reg_command, thread_command, is_count, lone_command, single_command, single_verb, verb_of, why_command, with_cell, with_number, with_register, writers_command, address_of, no_cell}
use Rattle.rept_word.specs.Parsing.Numbers.{number_of_word}
use Rattle.rept_session.specs.Registers.{register_of}
use Rattle.rept_session.specs.Words.{words_in}

-- one of two, by a test
either : {A : Type 0} (P : A → Type 0) (b : Bool) (x y : A) → (b ≡ true → P x) → (b ≡ false → P y) → P (if b then x else y)
either P true x y p q = p refl
either P false x y p q = q refl

module _ (named : List ℕ → Option ℕ) (last threads : ℕ) where
  abbrev Good : Result Command BadCommand → Type 0
  Good r = IfOk r (IsCommandWithin last threads)

  abbrev GoodVerb : Option Verb → Type 0
  GoodVerb None = Unit {0}
  GoodVerb (Some (Lone c)) = IsCommandWithin last threads c
  GoodVerb (Some (One v)) = Unit {0}
  GoodVerb (Some (Two v)) = Unit {0}
  GoodVerb (Some (Ask v)) = Unit {0}

  abbrev GoodLone : Option Command → Type 0
  GoodLone o = IfSome o (IsCommandWithin last threads)

  lone : (word : List ℕ) → GoodLone (lone_command word)
  lone word =
      either GoodLone (bytes_eq word (codes "where")) _ _ (λ _. tt)
      (λ _. either GoodLone (bytes_eq word (codes "regs")) _ _ (λ _. tt)
      (λ _. either GoodLone (bytes_eq word (codes "stack")) _ _ (λ _. tt)
      (λ _. either GoodLone (bytes_eq word (codes "summary")) _ _ (λ _. tt)
      (λ _. either GoodLone (bytes_eq word (codes "quit")) _ _ (λ _. tt)
      (λ _. either GoodLone (bytes_eq word (codes "at")) _ _ (λ _. tt)
      (λ _. either GoodLone (bytes_eq word (codes "premises")) _ _ (λ _. tt)
      (λ _. either GoodLone (bytes_eq word (codes "help")) _ _ (λ _. tt) (λ _. tt))))))))

  verb_good : (a : Option Command) (b : Option Single) (c : Option Double) (d : Option QuestionWord) → GoodLone a → GoodVerb (option_or (option_map Lone a) (option_or (option_map One b) (option_or (option_map Two c) (option_map Ask d))))
  verb_good (Some a) b c d h = h
  verb_good None (Some b) c d h = tt
  verb_good None None (Some c) d h = tt
  verb_good None None None (Some d) h = tt
  verb_good None None None None h = tt

  number_good : (f : ℕ → Command) → ((k : ℕ) → IsCommandWithin last threads (f k)) → (o : Option ℕ) → Good (with_number f o)
  number_good f h None = tt
  number_good f h (Some k) = h k

  register_good : (f : ℕ → Command) → ((k : ℕ) → IsCommandWithin last threads (f k)) → (o : Option ℕ) → Good (with_register f o)
  register_good f h None = tt
  register_good f h (Some k) = h k

  cell_good : (f : ℕ → Command) → ((k : ℕ) → IsCommandWithin last threads (f k)) → (word : List ℕ) (o : Option ℕ) → Good (with_cell f word o)
  cell_good f h word None = tt
  cell_good f h word (Some k) = h k

  reg_good : (o : Option ℕ) (word : List ℕ) → Good (reg_command o word)
  reg_good (Some r) word = tt
  reg_good None word = either Good (bytes_eq word (codes "pc")) _ _ (λ _. tt) (λ _. tt)

  bare_good : (v : Double) → Good (bare_command v)
  bare_good double.Mem = tt
  bare_good double.List = tt

  around_good : (o : Option ℕ) → Good (around_command o)
  around_good None = tt
  around_good (Some count) = either Good (is_count count) _ _ (λ _. tt) (λ _. tt)

  find_good : (r v : Option ℕ) → Good (find_command r v)
  find_good None v = tt
  find_good (Some r) None = tt
  find_good (Some r) (Some v) = tt

  from_good : (o : Option ℕ) (word : List ℕ) (a : Option ℕ) → Good (from_command o word a)
  from_good (Some r) word a = tt
  from_good None word a = cell_good (λ a. command.Ask (question.FromByte a)) (λ k. tt) word a

  calls_good : (o : Option ℕ) → Good (calls_command o)
  calls_good None = tt
  calls_good (Some count) = either Good (is_count count) _ _ (λ _. tt) (λ _. tt)

  lost_good : (o : Option ℕ) (word : List ℕ) (a : Option ℕ) → Good (lost_command o word a)
  lost_good (Some r) word a = tt
  lost_good None word a = cell_good (λ a. command.Ask (question.LostByte a)) (λ k. tt) word a

  writers_good : (a count : Option ℕ) → Good (writers_command a count)
  writers_good None count = tt
  writers_good (Some a) None = tt
  writers_good (Some a) (Some count) = either Good (is_count count) _ _ (λ _. tt) (λ _. tt)

  asked_good : (v : QuestionWord) (words : List (List ℕ)) → Good (asked_command named v words)
  asked_good asks.Around [] = tt
  asked_good asks.Around (w ∷ []) = around_good (number_of_word w)
  asked_good asks.Around (w ∷ x ∷ ws) = tt
  asked_good asks.Visits [] = tt
  asked_good asks.Visits (w ∷ []) = number_good (λ a. command.Ask (question.Visits a)) (λ k. tt) (address_of named w)
  asked_good asks.Visits (w ∷ x ∷ ws) = tt
  asked_good asks.Find [] = tt
  asked_good asks.Find (w ∷ []) = tt
  asked_good asks.Find (w ∷ x ∷ []) = find_good (register_of w) (number_of_word x)
  asked_good asks.Find (w ∷ x ∷ y ∷ ws) = tt
  asked_good asks.From [] = tt
  asked_good asks.From (w ∷ []) = from_good (register_of w) w (address_of named w)
  asked_good asks.From (w ∷ x ∷ ws) = tt
  asked_good asks.Writers [] = tt
  asked_good asks.Writers (w ∷ []) = writers_good (address_of named w) (Some 1)
  asked_good asks.Writers (w ∷ x ∷ []) = writers_good (address_of named w) (number_of_word x)
  asked_good asks.Writers (w ∷ x ∷ y ∷ ws) = tt
  asked_good asks.Calls [] = tt
  asked_good asks.Calls (w ∷ []) = calls_good (number_of_word w)
  asked_good asks.Calls (w ∷ x ∷ ws) = tt
  asked_good asks.Lost [] = tt
  asked_good asks.Lost (w ∷ []) = lost_good (register_of w) w (address_of named w)
  asked_good asks.Lost (w ∷ x ∷ ws) = tt

  goto_good : (o : Option ℕ) → Good (goto_command last o)
  goto_good None = tt
  goto_good (Some i) = either Good (nat_le i last) _ _ (λ e. grind (arith, nat_tests, e)) (λ _. tt)

  thread_good : (o : Option ℕ) → Good (thread_command threads o)
  thread_good None = tt
  thread_good (Some t) = either Good (nat_lt t threads) _ _ (λ e. grind (arith, nat_tests, e)) (λ _. tt)

  why_good : (o : Option ℕ) (word : List ℕ) (a : Option ℕ) → Good (why_command o word a)
  why_good (Some r) word a = tt
  why_good None word a = cell_good command.WhyByte (λ k. tt) word a

  single_good : (v : Single) (word : List ℕ) → Good (single_command named last threads v word)
  single_good single.Back word = number_good command.Back (λ k. tt) (number_of_word word)
  single_good single.Fwd word = number_good command.Fwd (λ k. tt) (number_of_word word)
  single_good single.Goto word = goto_good (number_of_word word)
  single_good single.Thread word = thread_good (number_of_word word)
  single_good single.Reg word = reg_good (register_of word) word
  single_good single.Range word = register_good command.Range (λ k. tt) (register_of word)
  single_good single.Writer word = number_good command.Writer (λ k. tt) (address_of named word)
  single_good single.Why word = why_good (register_of word) word (address_of named word)

  both : (a b : Bool) → a && b ≡ true → (a ≡ true) × (b ≡ true)
  both true true e = (refl, refl)
  both true false e = let bad : ⊥ = cc in absurd bad
  both false b e = let bad : ⊥ = cc in absurd bad

  double_good : (v : Double) (a b : Option ℕ) → Good (double_command last v a b)
  double_good v None b = tt
  double_good v (Some a) None = tt
  double_good double.Mem (Some a) (Some k) =
      either Good (is_count k) _ _ (λ e. let p = both (nat_lt 0 k) (nat_le k 256) e in (grind (arith, nat_tests, p.0), grind (arith, nat_tests, p.1))) (λ _. tt)
  double_good double.List (Some i) (Some k) =
      either Good (nat_le i last && is_count k) _ _
      (λ e. let q = both (nat_le i last) (is_count k) e in let p = both (nat_lt 0 k) (nat_le k 256) q.1 in (grind (arith, nat_tests, q.0), grind (arith, nat_tests, p.0), grind (arith, nat_tests, p.1))) (λ _. tt)

  words_good : (o : Option Verb) (words : List (List ℕ)) → GoodVerb o → Good (command_of_first named last threads o words)
  words_good None words h = tt
  words_good (Some (Lone c)) [] h = h
  words_good (Some (Lone c)) (w ∷ ws) h = tt
  words_good (Some (One v)) [] h = tt
  words_good (Some (One v)) (w ∷ []) h = single_good v w
  words_good (Some (One v)) (w ∷ x ∷ ws) h = tt
  words_good (Some (Two v)) [] h = bare_good v
  words_good (Some (Two v)) (w ∷ []) h = double_good v (first_number named v w) (Some 16)
  words_good (Some (Two v)) (w ∷ x ∷ []) h = double_good v (first_number named v w) (number_of_word x)
  words_good (Some (Two v)) (w ∷ x ∷ y ∷ ws) h = tt
  words_good (Some (Ask v)) words h = asked_good v words

  line_good : (words : List (List ℕ)) → Good (command_of_words named last threads words)
  line_good [] = tt
  line_good (w ∷ ws) = words_good (verb_of w) ws (verb_good (lone_command w) (single_verb w) (double_verb w) (question_word w) (lone w))

  pub command_within : (line : List ℕ) → Good (command_of named last threads line)
  command_within line = either Good (nat_lt 256 (length line)) _ _ (λ _. tt) (λ _. line_good (words_in line))
