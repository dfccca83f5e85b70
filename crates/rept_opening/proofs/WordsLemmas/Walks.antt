-- What `clap` does with plain words after a subcommand.
use Rattle.std.proofs.Common.{◌≡◌, ℕ, List, [], ◌∷◌, Bool, true, false, nat_eq, ◌++◌, ◌≤◌, length, cond, sym, arith, refl, codes, rules, ap, ◌∙◌, inl, inr, subst, append_assoc, append-nil}
use Rattle.std.specs.Prelude.{◌⊎◌, Option, None, Some, not, ◌&&◌, ◌||◌, nat_le, fold, is_some}
use Rattle.std.specs.List.{list_all}
use Rattle.std.specs.Str.{bytes_eq}
use Rattle.std.specs.Option.{option_and_then}
use Rattle.std.proofs.lemmas.Bool.{leb-true}
use Rattle.clap.specs.Words.{Rule, Text, App, Shape, new_rule, is_simple, subcommand_of, fault_of, is_simple_and_free, Kinds}
use Rattle.clap.specs.Walk.{Held, Names, Walk, after_step, arg_by_index, finished, is_multiple, next_position, nothing_held, positional_held, rows_after, settled, to_positional, walk, walk_from, walked, word_met}
use Rattle.clap.specs.Walk.Step.{value}
use Rattle.clap.specs.Walk.Waiting.{idle, positional}
use Rattle.clap.specs.Simple.{built, entered, names_of, new_shape}
use Rattle.clap.specs.Faults.{check_fault, defaults_fault, entered_fault, level_fault, settle_fault, step_fault, turn_fault, walk_fault, word_fault}
use Rattle.clap.specs.Kinds.{or_else}
use Rattle.clap.specs.declared.builder.ArgAction.TheVariants.{Set}
use Rattle.clap.specs.declared.builder.value_parser.ValueParser.TheVariants.{String}
use Rattle.clap.proofs.OnLiterals.{clap_on_literals}
use Rattle.rept_opening.specs.Words.CommandLine.{rept_app}
use Rattle.rept_word.specs.Parsing.Numbers.{decimal_of}
use Rattle.rept_opening.specs.Words.Words.{is_plain, domain_of, plain_meaning, meaning_of, opened_by}
use Rattle.rept_opening.specs.Words.Words.Meaning.{Open}
use Rattle.rept_opening.specs.Words.Found.{found_meaning, is_command, is_screened}
use Rattle.rept_opening.specs.declared.words.request.Domain.{Domain}
use Rattle.rept_opening.specs.declared.words.request.Domain.TheVariants as domain

pub simple : is_simple rept_app ≡ true
unfolding clap_on_literals
simple = refl

pub free : is_simple_and_free rept_app ≡ true
unfolding clap_on_literals
free = refl

abbrev has_fault : Kinds → Bool
has_fault [] = false
has_fault (k ∷ ks) = true

-- a word without a leading hyphen
data Plain : Text → Type 0 where
  plain : {b : ℕ} {bs : List ℕ} → nat_eq b 45 ≡ false → Plain (b ∷ bs)

data AllPlain : List Text → Type 0 where
  none : AllPlain []
  more : {w : Text} {ws : List Text} → Plain w → AllPlain ws → AllPlain (w ∷ ws)

plain_of : (w : Text) → is_plain w ≡ true → Plain w
plain_of [] h = let bad : ⊥ = cc in absurd bad
plain_of (b ∷ bs) h = plain (flip (nat_eq b 45) h)
  where
    flip : (q : Bool) → not q ≡ true → q ≡ false
    flip true h = let bad : ⊥ = cc in absurd bad
    flip false h = refl

both_true : (p q : Bool) → (p && q) ≡ true → (p ≡ true) × (q ≡ true)
both_true true q h = (refl, h)
both_true false q h = let bad : ⊥ = cc in absurd bad

one_true : (p q : Bool) → (p || q) ≡ true → (p ≡ true) ⊎ (q ≡ true)
one_true true q h = inl refl
one_true false q h = inr h

all_plain : (ws : List Text) → list_all is_plain ws ≡ true → AllPlain ws
all_plain [] h = none
all_plain (w ∷ ws) h = let k = both_true (is_plain w) (list_all is_plain ws) h in more (plain_of w k.0) (all_plain ws k.1)

clash : (k : Kinds) → k ≡ [] → has_fault k ≡ true → ⊥
clash [] e h = cc
clash (x ∷ xs) e h = cc

-- ---- plain words after a subcommand: each goes to the positional whose turn it is

-- where the walk over them stands
record Place : Type 0 where
  held : Held
  many : Bool
  position : ℕ
  is_trailing : Bool

abbrev walk_of : Place → Walk
walk_of p = record { held = p.held; waiting = cond p.many positional idle; position = p.position; is_trailing = p.is_trailing; stopped = None }

abbrev next_place : List Rule → Option Rule → Text → Place → Place
next_place c None word p = p
next_place c (Some a) word p = record { held = positional_held c a word p.held; many = is_multiple a; position = next_position a p.position; is_trailing = p.is_trailing || a.trailing_var_arg }

abbrev after_word : List Rule → Text → Place → Place
after_word c word p = next_place c (arg_by_index c p.position) word p

abbrev placed : List Rule → Place → List Text → Place
placed c p [] = p
placed c p (w ∷ ws) = placed c (after_word c w p) ws

abbrev place_fault : Shape → Place → List Text → Kinds
place_fault s p [] = []
place_fault s p (w ∷ ws) = or_else (step_fault s p.position p.held value) (place_fault s (after_word s.rules w p) ws)

-- a plain word is one for a positional
met_plain : (c : List Rule) (trailing many : Bool) (position : ℕ) (h : Held) (b : ℕ) (bs : List ℕ) → nat_eq b 45 ≡ false → word_met c [] trailing (cond many positional idle) position (b ∷ bs) h ≡ (h, value)
met_plain c true many position h b bs e = refl
met_plain c false true position h b bs e = rw (e, e) refl
met_plain c false false position h b bs e = rw (e, e) refl

plain_fault : (s : Shape) (trailing many : Bool) (h : Held) (b : ℕ) (bs : List ℕ) → nat_eq b 45 ≡ false → word_fault s [] trailing (cond many positional idle) (b ∷ bs) h ≡ []
plain_fault s true many h b bs e = refl
plain_fault s false true h b bs e = rw (e, e) refl
plain_fault s false false h b bs e = rw (e, e) refl

to_next : (c : List Rule) (a : Option Rule) (word : Text) (p : Place) → to_positional c a word (walk_of p) p.held ≡ walk_of (next_place c a word p)
to_next c None word p = refl
to_next c (Some a) word p = refl

turn : (c : List Rule) (p : Place) (b : ℕ) (bs : List ℕ) → nat_eq b 45 ≡ false → walked c [] (walk_of p) (b ∷ bs) ≡ walk_of (after_word c (b ∷ bs) p)
unfolding walked
turn c p b bs e = ap (λ m. after_step c (b ∷ bs) (walk_of p) m.0 m.1) (met_plain c p.is_trailing p.many p.position p.held b bs e) ∙ to_next c (arg_by_index c p.position) (b ∷ bs) p

fault_of_turn : (s : Shape) (p : Place) (b : ℕ) (bs : List ℕ) → nat_eq b 45 ≡ false → turn_fault s [] (walk_of p) (b ∷ bs) ≡ step_fault s p.position p.held value
fault_of_turn s p b bs e =
    ap (λ k. or_else k (let m = word_met s.rules [] p.is_trailing (cond p.many positional idle) p.position (b ∷ bs) p.held in step_fault s p.position m.0 m.1)) (plain_fault s p.is_trailing p.many p.held b bs e)
    ∙ ap (λ m. step_fault s p.position m.0 m.1) (met_plain s.rules p.is_trailing p.many p.position p.held b bs e)

walk_placed : (c : List Rule) (p : Place) (ws : List Text) → AllPlain ws → fold (walked c []) (walk_of p) ws ≡ walk_of (placed c p ws)
walk_placed c p [] none = refl
walk_placed c p (w ∷ ws) (more (plain e) es) = ap (λ k. fold (walked c []) k ws) (turn c p _ _ e) ∙ walk_placed c (after_word c w p) ws es

fault_placed : (s : Shape) (p : Place) (ws : List Text) → AllPlain ws → walk_fault s [] (walk_of p) ws ≡ place_fault s p ws
unfolding walk_fault
fault_placed s p [] none = refl
fault_placed s p (w ∷ ws) (more (plain e) es) =
    ap (λ k. or_else k (walk_fault s [] (walked s.rules [] (walk_of p) w) ws)) (fault_of_turn s p _ _ e)
    ∙ ap (or_else (step_fault s p.position p.held value)) (ap (λ k. walk_fault s [] k ws) (turn s.rules p _ _ e) ∙ fault_placed s (after_word s.rules w p) ws es)

abbrev begin : Place
begin = record { held = nothing_held; many = false; position = 1; is_trailing = false }

-- the fault of a command without subcommands whose walk has this fault and leads here
abbrev leaf_fault : Shape → Kinds → Held → Kinds
leaf_fault s fault end = or_else fault (or_else (settle_fault s.rules s.args_override_self end) (or_else (defaults_fault (settled s.rules end).rows s.rules) (check_fault s (finished s.rules end) false)))

abbrev fault_after : Shape → List Text → Kinds
fault_after s ws = leaf_fault s (place_fault s begin ws) (placed s.rules begin ws).held

leaf_plain : (s : Shape) (ws : List Text) → AllPlain ws → level_fault s [] nothing_held ws false [] ≡ fault_after s ws
leaf_plain s ws a =
    ap (λ k. leaf_fault s k (walk s.rules [] nothing_held ws).held) (fault_placed s begin ws a)
    ∙ ap (λ w. leaf_fault s (place_fault s begin ws) w.held) (walk_placed s.rules begin ws a)

rows_plain : (c : List Rule) (ws : List Text) → AllPlain ws → rows_after c [] ws ≡ finished c (placed c begin ws).held
rows_plain c ws a = ap (λ w. finished c w.held) (walk_placed c begin ws a)

-- ---- from the program to its subcommand

-- a walk that met a subcommand
abbrev stopped_walk : Held → Text → List Text → Walk
stopped_walk h name words = record { held = h; waiting = idle; position = 1; is_trailing = false; stopped = Some (name, words) }

passes : (c : List Rule) (names : Names) (h : Held) (name : Text) (words ws : List Text) → fold (walked c names) (stopped_walk h name words) ws ≡ stopped_walk h name (words ++ ws)
unfolding walked
passes c names h name words [] = ap (stopped_walk h name) (sym (append-nil words))
passes c names h name words (w ∷ ws) = passes c names h name (words ++ w ∷ []) ws ∙ ap (stopped_walk h name) (append_assoc words (w ∷ []) ws)

passes_fault : (s : Shape) (names : Names) (h : Held) (name : Text) (words ws : List Text) → walk_fault s names (stopped_walk h name words) ws ≡ []
unfolding walk_fault walked
passes_fault s names h name words [] = refl
passes_fault s names h name words (w ∷ ws) = passes_fault s names h name (words ++ w ∷ []) ws

abbrev top_fault : App → Kinds → Walk → Kinds
top_fault a fault end =
    or_else fault (or_else (entered_fault a end.stopped) (or_else (settle_fault a.top.rules a.top.args_override_self end.held)
    (or_else (defaults_fault (settled a.top.rules end.held).rows a.top.rules) (check_fault a.top (finished a.top.rules end.held) (is_some (entered a end.stopped))))))

-- a word of a subcommand when the command was built
abbrev slot : ℕ → Bool → Text → Rule
slot i must id = record (new_rule id) { index = Some i; action = Some Set; range = Some (record { start_inclusive = 1; end_inclusive = 1 }); parser = Some String; required = must }

abbrev leaf : Text → List Rule → Shape
leaf name words = record (new_shape name) { rules = words; no_binary_name = true; disable_help_flag = true; disable_help_subcommand = true; is_built = true }

abbrev files_words : List Rule
files_words = slot 1 true (codes "exe") ∷ slot 2 true (codes "core") ∷ slot 3 true (codes "trace") ∷ slot 4 false (codes "from") ∷ []

abbrev maps_words : List Rule
maps_words = slot 1 true (codes "core") ∷ slot 2 true (codes "trace") ∷ slot 3 false (codes "from") ∷ []

abbrev self_words : List Rule
self_words = slot 1 true (codes "seed") ∷ slot 2 true (codes "steps") ∷ []

abbrev program : App
program = record {
  top = record (new_shape (codes "rept")) { is_leaf = false; no_binary_name = true; disable_help_flag = true; disable_help_subcommand = true; subcommand_required = true; is_built = true };
  subs = leaf (codes "open") files_words ∷ leaf (codes "bits") files_words ∷ leaf (codes "infer") files_words ∷ leaf (codes "maps") maps_words ∷ leaf (codes "self") self_words ∷ [];
}

is_program : built rept_app ≡ program
is_program = refl

-- the first word, and the words that may come after it
data Verb : Type 0 where
  open_files : Domain → Verb
  maps_files : Verb
  self_made : Verb

abbrev word_of : Domain → Text
word_of domain.Ranges = codes "open"
word_of domain.KnownBits = codes "bits"
word_of domain.Inferred = codes "infer"

abbrev name_of : Verb → Text
name_of (open_files d) = word_of d
name_of maps_files = codes "maps"
name_of self_made = codes "self"

abbrev words_of : Verb → List Rule
words_of (open_files d) = files_words
words_of maps_files = maps_words
words_of self_made = self_words

abbrev begun : Text → List Text → Walk
begun name ws = fold (walked [] (names_of program)) (walked [] (names_of program) (walk_from nothing_held) name) ws

first_met : (v : Verb) → walked [] (names_of program) (walk_from nothing_held) (name_of v) ≡ stopped_walk nothing_held (name_of v) []
unfolding walked
first_met (open_files domain.Ranges) = refl
first_met (open_files domain.KnownBits) = refl
first_met (open_files domain.Inferred) = refl
first_met maps_files = refl
first_met self_made = refl

first_fault : (v : Verb) → turn_fault program.top (names_of program) (walk_from nothing_held) (name_of v) ≡ []
first_fault (open_files domain.Ranges) = refl
first_fault (open_files domain.KnownBits) = refl
first_fault (open_files domain.Inferred) = refl
first_fault maps_files = refl
first_fault self_made = refl

all_met : (v : Verb) (ws : List Text) → begun (name_of v) ws ≡ stopped_walk nothing_held (name_of v) ws
all_met v ws = ap (λ w. fold (walked [] (names_of program)) w ws) (first_met v) ∙ passes [] (names_of program) nothing_held (name_of v) [] ws

all_fault : (v : Verb) (ws : List Text) → walk_fault program.top (names_of program) (walk_from nothing_held) (name_of v ∷ ws) ≡ []
unfolding walk_fault
all_fault v ws =
    ap (λ k. or_else k (walk_fault program.top (names_of program) (walked [] (names_of program) (walk_from nothing_held) (name_of v)) ws)) (first_fault v)
    ∙ ap (λ w. walk_fault program.top (names_of program) w ws) (first_met v) ∙ passes_fault program.top (names_of program) nothing_held (name_of v) [] ws

enters : (v : Verb) (ws : List Text) → entered program (Some (name_of v, ws)) ≡ Some (name_of v, rows_after (words_of v) [] ws)
enters (open_files domain.Ranges) ws = refl
enters (open_files domain.KnownBits) ws = refl
enters (open_files domain.Inferred) ws = refl
enters maps_files ws = refl
enters self_made ws = refl

fault_below : (v : Verb) (ws : List Text) → top_fault program [] (stopped_walk nothing_held (name_of v) ws) ≡ or_else (level_fault (leaf (name_of v) (words_of v)) [] nothing_held ws false []) []
unfolding defaults_fault
fault_below (open_files domain.Ranges) ws = refl
fault_below (open_files domain.KnownBits) ws = refl
fault_below (open_files domain.Inferred) ws = refl
fault_below maps_files ws = refl
fault_below self_made ws = refl

or_none : (k : Kinds) → or_else k [] ≡ k
or_none [] = refl
or_none (x ∷ xs) = refl

fault_is : (v : Verb) (ws : List Text) → AllPlain ws → fault_of rept_app (name_of v ∷ ws) ≡ fault_after (leaf (name_of v) (words_of v)) ws
fault_is v ws a =
    ap (λ k. top_fault program k (begun (name_of v) ws)) (all_fault v ws) ∙ ap (top_fault program []) (all_met v ws) ∙ fault_below v ws
    ∙ or_none (level_fault (leaf (name_of v) (words_of v)) [] nothing_held ws false []) ∙ leaf_plain (leaf (name_of v) (words_of v)) ws a

found_is : (v : Verb) (ws : List Text) → AllPlain ws → subcommand_of rept_app (name_of v ∷ ws) ≡ Some (name_of v, finished (words_of v) (placed (words_of v) begin ws).held)
found_is v ws a = ap (λ w. entered program w.stopped) (all_met v ws) ∙ enters v ws ∙ ap (λ r. Some (name_of v, r)) (rows_plain (words_of v) ws a)

-- what clap does with these words
pub record Outcome (words : List Text) : Type 0 where
  pub takes_them : fault_of rept_app words ≡ [] → found_meaning (subcommand_of rept_app words) ≡ plain_meaning words
  pub refuses : (fault_of rept_app words ≡ [] → ⊥) → plain_meaning words ≡ None

refused : (v : Verb) (ws : List Text) → AllPlain ws → has_fault (fault_after (leaf (name_of v) (words_of v)) ws) ≡ true → plain_meaning (name_of v ∷ ws) ≡ None → Outcome (name_of v ∷ ws)
refused v ws a bad nothing = record { takes_them = λ k. absurd (clash _ (sym (fault_is v ws a) ∙ k) bad); refuses = λ _. nothing }

taken : (v : Verb) (ws : List Text) → AllPlain ws → fault_after (leaf (name_of v) (words_of v)) ws ≡ []
    → found_meaning (Some (name_of v, finished (words_of v) (placed (words_of v) begin ws).held)) ≡ plain_meaning (name_of v ∷ ws) → Outcome (name_of v ∷ ws)
taken v ws a right found = record { takes_them = λ _. ap found_meaning (found_is v ws a) ∙ found; refuses = λ k. absurd (k (fault_is v ws a ∙ right)) }

-- after `open`, `bits` and `infer`
files_three : (name e c t : Text) → fault_after (leaf name files_words) (e ∷ c ∷ t ∷ []) ≡ []
unfolding defaults_fault
files_three name e c t = refl

files_four : (name e c t f : Text) → fault_after (leaf name files_words) (e ∷ c ∷ t ∷ f ∷ []) ≡ []
unfolding defaults_fault
files_four name e c t f = refl

files_few : (name : Text) → has_fault (fault_after (leaf name files_words) []) ≡ true
unfolding defaults_fault
files_few name = refl

files_one : (name e : Text) → has_fault (fault_after (leaf name files_words) (e ∷ [])) ≡ true
unfolding defaults_fault
files_one name e = refl

files_two : (name e c : Text) → has_fault (fault_after (leaf name files_words) (e ∷ c ∷ [])) ≡ true
unfolding defaults_fault
files_two name e c = refl

files_five : (name e c t f g : Text) → has_fault (fault_after (leaf name files_words) (e ∷ c ∷ t ∷ f ∷ g ∷ [])) ≡ true
files_five name e c t f g = refl

found_three : (d : Domain) (e c t : Text) → found_meaning (Some (word_of d, finished files_words (placed files_words begin (e ∷ c ∷ t ∷ [])).held)) ≡ plain_meaning (word_of d ∷ e ∷ c ∷ t ∷ [])
found_three domain.Ranges e c t = refl
found_three domain.KnownBits e c t = refl
found_three domain.Inferred e c t = refl

found_four : (d : Domain) (e c t f : Text) → found_meaning (Some (word_of d, finished files_words (placed files_words begin (e ∷ c ∷ t ∷ f ∷ [])).held)) ≡ plain_meaning (word_of d ∷ e ∷ c ∷ t ∷ f ∷ [])
found_four domain.Ranges e c t f = refl
found_four domain.KnownBits e c t f = refl
found_four domain.Inferred e c t f = refl

no_run : (d : Domain) (w x : Text) → plain_meaning (word_of d ∷ w ∷ x ∷ []) ≡ None
no_run domain.Ranges w x = refl
no_run domain.KnownBits w x = refl
no_run domain.Inferred w x = refl

opens : (d : Domain) (ws : List Text) → AllPlain ws → length ws ≤ 5 → Outcome (word_of d ∷ ws)
opens d [] a h = refused (open_files d) [] a (files_few (word_of d)) refl
opens d (w ∷ []) a h = refused (open_files d) (w ∷ []) a (files_one (word_of d) w) refl
opens d (w ∷ x ∷ []) a h = refused (open_files d) (w ∷ x ∷ []) a (files_two (word_of d) w x) (no_run d w x)
opens d (w ∷ x ∷ y ∷ []) a h = taken (open_files d) (w ∷ x ∷ y ∷ []) a (files_three (word_of d) w x y) (found_three d w x y)
opens d (w ∷ x ∷ y ∷ z ∷ []) a h = taken (open_files d) (w ∷ x ∷ y ∷ z ∷ []) a (files_four (word_of d) w x y z) (found_four d w x y z)
opens d (w ∷ x ∷ y ∷ z ∷ v ∷ []) a h = refused (open_files d) (w ∷ x ∷ y ∷ z ∷ v ∷ []) a (files_five (word_of d) w x y z v) refl
opens d (w ∷ x ∷ y ∷ z ∷ v ∷ u ∷ ws) a h = absurd (omega arith)

-- after `self`
makes : (ws : List Text) → AllPlain ws → length ws ≤ 5 → Outcome (codes "self" ∷ ws)
unfolding defaults_fault
makes [] a h = refused self_made [] a refl refl
makes (w ∷ []) a h = refused self_made (w ∷ []) a refl refl
makes (w ∷ x ∷ []) a h = taken self_made (w ∷ x ∷ []) a refl refl
makes (w ∷ x ∷ y ∷ []) a h = refused self_made (w ∷ x ∷ y ∷ []) a refl refl
makes (w ∷ x ∷ y ∷ z ∷ []) a h = refused self_made (w ∷ x ∷ y ∷ z ∷ []) a refl refl
makes (w ∷ x ∷ y ∷ z ∷ v ∷ []) a h = refused self_made (w ∷ x ∷ y ∷ z ∷ v ∷ []) a refl refl
makes (w ∷ x ∷ y ∷ z ∷ v ∷ u ∷ ws) a h = absurd (omega arith)

-- after `maps`
maps : (ws : List Text) → AllPlain ws → length ws ≤ 5 → Outcome (codes "maps" ∷ ws)
unfolding defaults_fault
maps [] a h = refused maps_files [] a refl refl
maps (w ∷ []) a h = refused maps_files (w ∷ []) a refl refl
maps (w ∷ x ∷ []) a h = taken maps_files (w ∷ x ∷ []) a refl refl
maps (w ∷ x ∷ y ∷ []) a h = taken maps_files (w ∷ x ∷ y ∷ []) a refl refl
maps (w ∷ x ∷ y ∷ z ∷ []) a h = refused maps_files (w ∷ x ∷ y ∷ z ∷ []) a refl refl
maps (w ∷ x ∷ y ∷ z ∷ v ∷ []) a h = refused maps_files (w ∷ x ∷ y ∷ z ∷ v ∷ []) a refl refl
maps (w ∷ x ∷ y ∷ z ∷ v ∷ u ∷ ws) a h = absurd (omega arith)

-- the same, of words that are screened
abbrev IsNamed : Text → Type 0
IsNamed first = (bytes_eq first (codes "open") ≡ true) ⊎ (bytes_eq first (codes "bits") ≡ true) ⊎ (bytes_eq first (codes "infer") ≡ true) ⊎ (bytes_eq first (codes "maps") ≡ true) ⊎ (bytes_eq first (codes "self") ≡ true)

named_by : (first : Text) → is_command first ≡ true → IsNamed first
named_by first h = by_last (one_true (bytes_eq first (codes "open") || bytes_eq first (codes "bits") || bytes_eq first (codes "infer") || bytes_eq first (codes "maps")) (bytes_eq first (codes "self")) h)
  where
    by_two : (bytes_eq first (codes "open") ≡ true) ⊎ (bytes_eq first (codes "bits") ≡ true) → IsNamed first
    by_two (inl k) = inl k
    by_two (inr k) = inr (inl k)

    by_three : ((bytes_eq first (codes "open") || bytes_eq first (codes "bits")) ≡ true) ⊎ (bytes_eq first (codes "infer") ≡ true) → IsNamed first
    by_three (inl k) = by_two (one_true (bytes_eq first (codes "open")) (bytes_eq first (codes "bits")) k)
    by_three (inr k) = inr (inr (inl k))

    by_four : ((bytes_eq first (codes "open") || bytes_eq first (codes "bits") || bytes_eq first (codes "infer")) ≡ true) ⊎ (bytes_eq first (codes "maps") ≡ true) → IsNamed first
    by_four (inl k) = by_three (one_true (bytes_eq first (codes "open") || bytes_eq first (codes "bits")) (bytes_eq first (codes "infer")) k)
    by_four (inr k) = inr (inr (inr (inl k)))

    by_last : ((bytes_eq first (codes "open") || bytes_eq first (codes "bits") || bytes_eq first (codes "infer") || bytes_eq first (codes "maps")) ≡ true) ⊎ (bytes_eq first (codes "self") ≡ true) → IsNamed first
    by_last (inl k) = by_four (one_true (bytes_eq first (codes "open") || bytes_eq first (codes "bits") || bytes_eq first (codes "infer")) (bytes_eq first (codes "maps")) k)
    by_last (inr k) = inr (inr (inr (inr k)))

by_first : (first : Text) (ws : List Text) → IsNamed first → AllPlain ws → length ws ≤ 5 → Outcome (first ∷ ws)
by_first first ws (inl h) bare few = let is : first ≡ codes "open" = search rules in subst (λ w. Outcome (w ∷ ws)) (sym is) (opens domain.Ranges ws bare few)
by_first first ws (inr (inl h)) bare few = let is : first ≡ codes "bits" = search rules in subst (λ w. Outcome (w ∷ ws)) (sym is) (opens domain.KnownBits ws bare few)
by_first first ws (inr (inr (inl h))) bare few = let is : first ≡ codes "infer" = search rules in subst (λ w. Outcome (w ∷ ws)) (sym is) (opens domain.Inferred ws bare few)
by_first first ws (inr (inr (inr (inl h)))) bare few = let is : first ≡ codes "maps" = search rules in subst (λ w. Outcome (w ∷ ws)) (sym is) (maps ws bare few)
by_first first ws (inr (inr (inr (inr h)))) bare few = let is : first ≡ codes "self" = search rules in subst (λ w. Outcome (w ∷ ws)) (sym is) (makes ws bare few)

pub screened : (words : List Text) → is_screened words ≡ true → Outcome words
screened [] h = let bad : ⊥ = cc in absurd bad
screened (first ∷ ws) h =
    let k = both_true (is_command first) (nat_le (length ws) 5 && list_all is_plain ws) h in
    let m = both_true (nat_le (length ws) 5) (list_all is_plain ws) k.1 in by_first first ws (named_by first k.0) (all_plain ws m.1) (leb-true (length ws) 5 m.0)

plain_first : (first : Text) → is_command first ≡ true → is_plain first ≡ true
plain_first [] h = let bad : ⊥ = cc in absurd bad
plain_first (b ∷ bs) h = by (named_by (b ∷ bs) h)
  where
    by : IsNamed (b ∷ bs) → is_plain (b ∷ bs) ≡ true
    by (inl h) = let is : b ∷ bs ≡ codes "open" = search rules in ap is_plain is
    by (inr (inl h)) = let is : b ∷ bs ≡ codes "bits" = search rules in ap is_plain is
    by (inr (inr (inl h))) = let is : b ∷ bs ≡ codes "infer" = search rules in ap is_plain is
    by (inr (inr (inr (inl h)))) = let is : b ∷ bs ≡ codes "maps" = search rules in ap is_plain is
    by (inr (inr (inr (inr h)))) = let is : b ∷ bs ≡ codes "self" = search rules in ap is_plain is

-- screened words are plain
pub screened_meaning : (words : List Text) → is_screened words ≡ true → meaning_of words ≡ plain_meaning words
screened_meaning [] h = let bad : ⊥ = cc in absurd bad
screened_meaning (first ∷ ws) h =
    let k = both_true (is_command first) (nat_le (length ws) 5 && list_all is_plain ws) h in
    let m = both_true (nat_le (length ws) 5) (list_all is_plain ws) k.1 in
    let all : list_all is_plain (first ∷ ws) ≡ true = rw (plain_first first k.0, m.1) refl in
    ap (λ q. cond q (plain_meaning (first ∷ ws)) None) all

-- words of another count, or that begin otherwise, have no meaning
long_meaning : (first : Text) (ws : List Text) → nat_le (length ws) 5 ≡ false → plain_meaning (first ∷ ws) ≡ None
long_meaning first [] h = let bad : ⊥ = cc in absurd bad
long_meaning first (w ∷ []) h = let bad : ⊥ = cc in absurd bad
long_meaning first (w ∷ x ∷ []) h = let bad : ⊥ = cc in absurd bad
long_meaning first (w ∷ x ∷ y ∷ []) h = let bad : ⊥ = cc in absurd bad
long_meaning first (w ∷ x ∷ y ∷ z ∷ []) h = let bad : ⊥ = cc in absurd bad
long_meaning first (w ∷ x ∷ y ∷ z ∷ v ∷ ws) h = refl

no_domain : (first : Text) → bytes_eq first (codes "open") ≡ false → bytes_eq first (codes "bits") ≡ false → bytes_eq first (codes "infer") ≡ false → domain_of first ≡ None
no_domain first ho hb hi = rw (ho, hb, hi) refl

other_meaning : (first : Text) (ws : List Text) → bytes_eq first (codes "open") ≡ false → bytes_eq first (codes "bits") ≡ false → bytes_eq first (codes "infer") ≡ false → bytes_eq first (codes "maps") ≡ false → bytes_eq first (codes "self") ≡ false → plain_meaning (first ∷ ws) ≡ None
other_meaning first [] ho hb hi hm hs = refl
other_meaning first (w ∷ []) ho hb hi hm hs = refl
other_meaning first (w ∷ x ∷ []) ho hb hi hm hs = rw (hs, hm) refl
other_meaning first (w ∷ x ∷ y ∷ []) ho hb hi hm hs = rw (hm) (ap (λ o. option_and_then (λ d. Some (opened_by d (record { exe = w; core = x; trace = y }) None)) o) (no_domain first ho hb hi))
other_meaning first (w ∷ x ∷ y ∷ z ∷ []) ho hb hi hm hs = ap (λ o. option_and_then (λ d. option_and_then (λ k. Some (opened_by d (record { exe = w; core = x; trace = y }) (Some k))) (decimal_of z)) o) (no_domain first ho hb hi)
other_meaning first (w ∷ x ∷ y ∷ z ∷ v ∷ ws) ho hb hi hm hs = refl

unplain : (words : List Text) → list_all is_plain words ≡ false → meaning_of words ≡ None
unplain words h = ap (λ q. cond q (plain_meaning words) None) h

meaningless : (words : List Text) → plain_meaning words ≡ None → meaning_of words ≡ None
meaningless words h = by (list_all is_plain words)
  where
    by : (q : Bool) → cond q (plain_meaning words) None ≡ None
    by true = h
    by false = refl

pub unscreened : (words : List Text) → is_screened words ≡ false → meaning_of words ≡ None
unscreened [] h = refl
unscreened (first ∷ ws) h = by (bytes_eq first (codes "open")) (bytes_eq first (codes "bits")) (bytes_eq first (codes "infer")) (bytes_eq first (codes "maps")) (bytes_eq first (codes "self")) (nat_le (length ws) 5) (list_all is_plain ws) refl refl refl refl refl refl refl h
  where
    by : (o b i m s n p : Bool) → bytes_eq first (codes "open") ≡ o → bytes_eq first (codes "bits") ≡ b → bytes_eq first (codes "infer") ≡ i → bytes_eq first (codes "maps") ≡ m → bytes_eq first (codes "self") ≡ s → nat_le (length ws) 5 ≡ n → list_all is_plain ws ≡ p
        → ((o || b || i || m || s) && (n && p)) ≡ false → meaning_of (first ∷ ws) ≡ None
    by false false false false false n p ho hb hi hm hs hn hp h = meaningless (first ∷ ws) (other_meaning first ws ho hb hi hm hs)
    by o b i m s false p ho hb hi hm hs hn hp h = meaningless (first ∷ ws) (long_meaning first ws hn)
    by o b i m s n false ho hb hi hm hs hn hp h = unplain (first ∷ ws) (last (is_plain first))
      where
        last : (q : Bool) → (q && list_all is_plain ws) ≡ false
        last true = hp
        last false = refl
    by true b i m s true true ho hb hi hm hs hn hp h = let bad : ⊥ = cc in absurd bad
    by false true i m s true true ho hb hi hm hs hn hp h = let bad : ⊥ = cc in absurd bad
    by false false true m s true true ho hb hi hm hs hn hp h = let bad : ⊥ = cc in absurd bad
    by false false false true s true true ho hb hi hm hs hn hp h = let bad : ⊥ = cc in absurd bad
    by false false false false true true true ho hb hi hm hs hn hp h = let bad : ⊥ = cc in absurd bad
