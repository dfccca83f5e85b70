-- Lines of a log, and their words.
use Rattle.std.proofs.Common.{◌≡◌, ℕ, zero, suc, ◌+◌, ◌-◌, ◌^◌, ◌<◌, ◌≤◌, List, [], ◌∷◌, length, take, drop, get_or, slice_get, Option, None, Some, refl, sym, ◌∙◌, ap, subst, arith}
use Rattle.std.specs.Option.{IfNone}
use Rattle.std.proofs.Math.Seq.{take-length}
use Rattle.std.proofs.lemmas.List.{length-drop}
use Rattle.std.proofs.lemmas.Option.{slice_get_within, slice_get-get_or}
use Rattle.rept_simlog.specs.Lines.{AreEntries, last_entries}
use Rattle.rept_simlog.proofs.Reading.{few_lines}
use Rattle.rept_simlog.specs.declared.hartlog.log.HartLogLine.{HartLogLine}
use Rattle.rept_simlog.specs.Hartlog.Log.{IsFirstSpace, IsLogWord, GivesEntry, AreNumbers, IsHartEntry, AreLinesFrom, AreLines}

pub none_of : (A : Type 0) (x : Option A) (P Q : Type 0) → (P → Q) → IfNone x P → IfNone x Q
none_of A None P Q f h = f h
none_of A (Some x) P Q f h = tt

space_once : (t : List ℕ) (m n : ℕ) → IsFirstSpace t m → IsFirstSpace t n → m ≡ n
space_once t m n a b =
    let low : m < n → ⊥ = λ lt. b.before m lt a.there in
    let high : n < m → ⊥ = λ lt. a.before n lt b.there in
    omega arith

-- what follows the first word is one text
pub rest_once : (t w r v s : List ℕ) → IsLogWord t w r → IsLogWord t v s → r ≡ s
rest_once t w r v s a b = a.later ∙ ap (λ (k : ℕ). drop (k + 1) t) (space_once t a.size b.size a.space b.space) ∙ sym b.later

-- and so is the word
pub word_once : (t w r v s : List ℕ) → IsLogWord t w r → IsLogWord t v s → w ≡ v
word_once t w r v s a b = a.front ∙ ap (λ (k : ℕ). take k t) (space_once t a.size b.size a.space b.space) ∙ sym b.front

-- what isn't given where the line's words are these
pub none_given : (line hart rest thread address : List ℕ) (entry : HartLogLine) → IsLogWord line hart rest → IsLogWord rest thread address → GivesEntry line entry → AreNumbers hart thread address entry
none_given line hart rest thread address entry one two g =
    let same_hart : g.hart ≡ hart = word_once line g.hart g.rest hart rest g.first one in
    let same_rest : g.rest ≡ rest = rest_once line g.hart g.rest hart rest g.first one in
    let second : IsLogWord rest g.thread g.address = subst (λ (r : List ℕ). IsLogWord r g.thread g.address) same_rest g.second in
    let same_thread : g.thread ≡ thread = word_once rest g.thread g.address thread address second two in
    let same_address : g.address ≡ address = rest_once rest g.thread g.address thread address second two in
    subst (λ (a : List ℕ). AreNumbers hart thread a entry) same_address (subst (λ (t : List ℕ). AreNumbers hart t g.address entry) same_thread (subst (λ (h : List ℕ). AreNumbers h g.thread g.address entry) same_hart g.numbers))

-- no second word
pub none_second : (line hart rest : List ℕ) (entry : HartLogLine) → IsLogWord line hart rest → ((word later : List ℕ) → IsLogWord rest word later → ⊥) → GivesEntry line entry → ⊥
none_second line hart rest entry one none g = none g.thread g.address (subst (λ (r : List ℕ). IsLogWord r g.thread g.address) (rest_once line g.hart g.rest hart rest g.first one) g.second)

lines_from : (line : ℕ) (entries : List HartLogLine) → ((i : ℕ) (entry : HartLogLine) → slice_get entries i ≡ Some entry → entry.line ≡ line + i) → AreLinesFrom line entries
lines_from line [] h = tt
lines_from line (x ∷ entries) h = (h 0 x refl ∙ omega arith, lines_from (line + 1) entries (λ i entry at. h (suc i) entry at ∙ omega arith))

lines_drop : (line : ℕ) (entries : List HartLogLine) (k : ℕ) → AreLinesFrom line entries → AreLinesFrom (line + k) (drop k entries)
lines_drop line entries zero h = let e : line ≡ line + 0 = omega arith in subst (λ (n : ℕ). AreLinesFrom n entries) e h
lines_drop line [] (suc k) h = tt
lines_drop line (x ∷ entries) (suc k) h = subst (λ (n : ℕ). AreLinesFrom n (drop k entries)) (omega arith) (lines_drop (line + 1) entries k h.1)

are_lines_drop : (entries : List HartLogLine) (k : ℕ) → k ≤ length entries → AreLines entries → AreLines (drop k entries)
are_lines_drop entries k within h =
    let few = h.few in
    let size = length-drop k entries in
    record { line = h.line + k; each = lines_drop h.line entries k h.each; few = omega arith }

-- what a range of a list up to its end is
pub rest_whole : (entries : List HartLogLine) (k : ℕ) → take (length entries - k) (drop k entries) ≡ drop k entries
rest_whole entries k = ap (λ (n : ℕ). take n (drop k entries)) (sym (length-drop k entries)) ∙ take-length (drop k entries)

pub are_lines_rest : (entries : List HartLogLine) (k : ℕ) → k ≤ length entries → AreLines entries → AreLines (take (length entries - k) (drop k entries))
are_lines_rest entries k within h = subst AreLines (sym (rest_whole entries k)) (are_lines_drop entries k within h)

pub line_at : (line : ℕ) (entries : List HartLogLine) (i : ℕ) (entry : HartLogLine) → AreLinesFrom line entries → slice_get entries i ≡ Some entry → entry.line ≡ line + i
line_at line [] i entry h there = absurd (cc)
line_at line (x ∷ entries) zero entry h there =
    let same : x ≡ entry = cc in
    ap (λ (e : HartLogLine). e.line) (sym same) ∙ h.0 ∙ omega arith
line_at line (x ∷ entries) (suc i) entry h there = line_at (line + 1) entries i entry h.1 there ∙ omega arith

-- the last entries of a log are of lines that follow one another
pub last_lines : (log : List ℕ) (entries : List HartLogLine) → length log < 2 ^ 32 → AreEntries IsHartEntry log entries → AreLines (last_entries entries)
last_lines log entries small are =
    let count = are.told.count in
    let few = few_lines log [] are.lines are.cut in
    are_lines_drop entries (length entries - 65537) (omega arith) (record { line = 1; each = lines_from 1 entries number; few = omega arith })
  where
    number : (i : ℕ) (entry : HartLogLine) → slice_get entries i ≡ Some entry → entry.line ≡ 1 + i
    number i entry at =
        let within = slice_get_within entries i entry at in
        let count = are.told.count in
        let told = are.told.each i (get_or are.lines i []) entry (slice_get-get_or are.lines i [] (omega arith)) at in
        told.0 ∙ omega arith
