-- Lines that were read, and what they told.
use Rattle.std.proofs.Common.{◌≡◌, ℕ, zero, suc, ◌+◌, ◌<◌, ◌≤◌, List, [], ◌∷◌, ◌++◌, length, slice_get, Some, refl, sym, ◌∙◌, ap, subst, arith, inl, inr, ◌⊎◌, length-append}
use Rattle.std.proofs.lemmas.List.{length-drop}
use Rattle.std.proofs.lemmas.Option.{slice_get_within}
use Rattle.rept_simlog.specs.Lines.{IsFirstLine, AreLinesThen, TellEntries, AreEntries, IsNoEntry}

-- an element of a list that has one more at its end
pub get_push : {A : Type 0} (xs : List A) (x : A) (i : ℕ) (y : A) → slice_get (xs ++ x ∷ []) i ≡ Some y → (slice_get xs i ≡ Some y) ⊎ ((i ≡ length xs) × (x ≡ y))
get_push [] x zero y h = inr (refl, (cc))
get_push [] x (suc i) y h = absurd (cc)
get_push (z ∷ xs) x zero y h = inl h
get_push (z ∷ xs) x (suc i) y h = elim (get_push xs x i y h) [ inl g ↦ inl g | inr g ↦ inr (ap suc g.0, g.1) ]

pub size_push : {A : Type 0} (old new : List A) (x : A) → new ≡ old ++ x ∷ [] → length new ≡ length old + 1
size_push {A = A} old new x e = ap (length {A = A}) e ∙ length-append old (x ∷ [])

-- The log is lines that tell these entries, and then the rest.
pub record ReadTo {E : Type 0} (tells : ℕ → List ℕ → E → Type 0) (log : List ℕ) (entries : List E) (rest : List ℕ) : Type 0 where
  pub lines : List (List ℕ)
  pub cut : AreLinesThen log lines rest
  pub told : TellEntries tells lines entries

lines_push : (bytes rest line after : List ℕ) (lines : List (List ℕ)) → AreLinesThen bytes lines rest → 0 < length rest → IsFirstLine rest line after → AreLinesThen bytes (lines ++ line ∷ []) after
lines_push bytes rest line after [] h some first =
    let e : rest ≡ bytes = sym h in
    (after, subst (λ (b : List ℕ). 0 < length b) e some, subst (λ (b : List ℕ). IsFirstLine b line after) e first, refl)
lines_push bytes rest line after (x ∷ lines) h some first = (h.0, h.1, h.2, lines_push h.0 rest line after lines h.3 some first)

-- each line has a byte
pub few_lines : (bytes rest : List ℕ) (lines : List (List ℕ)) → AreLinesThen bytes lines rest → length lines + length rest ≤ length bytes
few_lines bytes rest [] h = let e = ap (length {A = ℕ}) h in omega arith
few_lines bytes rest (x ∷ lines) h =
    let few = few_lines h.0 rest lines h.3 in
    let e = ap (length {A = ℕ}) h.2.later in
    let d = length-drop (h.2.size + 1) bytes in
    omega arith

module _ {E : Type 0} (tells : ℕ → List ℕ → E → Type 0) where
  told_push : (lines : List (List ℕ)) (line : List ℕ) (entries : List E) (entry : E) → TellEntries tells lines entries → tells (length entries + 1) line entry → TellEntries tells (lines ++ line ∷ []) (entries ++ entry ∷ [])
  told_push lines line entries entry told more = record {
    count = length-append entries (entry ∷ []) ∙ ap (λ (n : ℕ). n + 1) told.count ∙ sym (length-append lines (line ∷ []));
    each = λ i text e at is. elim (get_push lines line i text at) [
      | inl old ↦ elim (get_push entries entry i e is) [
        | inl kept ↦ told.each i text e old kept
        | inr new ↦ absurd (let w = slice_get_within lines i text old in let n = told.count in let k = new.0 in omega arith)
      ]
      | inr last ↦ elim (get_push entries entry i e is) [
        | inl kept ↦ absurd (let w = slice_get_within entries i e kept in let n = told.count in let k = last.0 in omega arith)
        | inr new ↦ subst (λ (k : ℕ). tells (k + 1) text e) (sym new.0) (subst (λ (t : List ℕ). tells (length entries + 1) t e) last.1 (subst (λ (x : E). tells (length entries + 1) line x) new.1 more))
      ]
    ];
  }

  pub read_none : (log : List ℕ) → ReadTo tells log [] log
  read_none log = record { lines = []; cut = refl; told = record { count = refl; each = λ i line entry at is. absurd (cc) } }

  -- one line more
  pub read_push : (log rest line after : List ℕ) (entries : List E) (entry : E) (number : ℕ) → ReadTo tells log entries rest → 0 < length rest → IsFirstLine rest line after → number ≡ length entries + 1 → tells number line entry → ReadTo tells log (entries ++ entry ∷ []) after
  read_push log rest line after entries entry number read some first place more = record {
    lines = read.lines ++ line ∷ [];
    cut = lines_push log rest line after read.lines read.cut some first;
    told = told_push read.lines line entries entry read.told (subst (λ (n : ℕ). tells n line entry) place more);
  }

  pub read_all : (log rest : List ℕ) (entries : List E) → ReadTo tells log entries rest → length rest ≡ 0 → AreEntries tells log entries
  read_all log [] entries read none = record { lines = read.lines; cut = read.cut; told = read.told }
  read_all log (x ∷ rest) entries read none = absurd (omega arith)

  -- a line that tells nothing
  pub read_stop : (log rest line after : List ℕ) (entries : List E) (number : ℕ) → ReadTo tells log entries rest → 0 < length rest → IsFirstLine rest line after → number ≡ length entries + 1 → ((entry : E) → tells number line entry → ⊥) → IsNoEntry tells log number
  read_stop log rest line after entries number read some first place none = record {
    lines = read.lines;
    line = line;
    rest = after;
    cut = lines_push log rest line after read.lines read.cut some first;
    entries = entries;
    told = read.told;
    none = none;
    place = place ∙ ap (λ (n : ℕ). n + 1) read.told.count;
  }
