-- Addresses whose functions are sought together: one more of them, and one mapping more.
use Rattle.std.specs.declared.alloc.AllocError.{AllocError}
use Rattle.std.proofs.Common.{Result, Ok, Err, IfOk, Vec, Global, ◌≡◌, ℕ, suc, zero, ◌+◌, ◌<◌, ◌≤◌, List, [], ◌∷◌, ◌++◌, length, map, take, Bool, true, false, cond, arith, refl, sym, subst, ◌∙◌, ap}
use Rattle.std.specs.Prelude.{Option, Some, None, slice_get, ◌||◌, ◌==◌, nat_lt}
use Rattle.std.specs.Option.{option_and_then, option_map, option_or}
use Rattle.std.proofs.lemmas.Bool.Decides.{nat_tests}
use Rattle.std.proofs.lemmas.List.{length-map, take_more, map_push}
use Rattle.std.proofs.lemmas.Option.{slice_get_past, slice_get_within, slice_get-get_or}
use Rattle.rept_elf.proofs.NamingLemmas.{map_two, map_same}
use Rattle.rept_elf.specs.Symbols.{FunctionSymbol, symbol_at, symbol_of}
use Rattle.rept_elf.specs.Image.{file_of}
use Rattle.rept_elf.specs.declared.image.Image.{Image}
use Rattle.rept_elf.specs.declared.symbol.Symbol.{Symbol}
use Rattle.rept_maps.proofs.MappedLemmas.Searches.{slice_get-mappings}
use Rattle.rept_maps.specs.Mapped.Mapped.{Mapping, mapped_symbol, mappings}
use Rattle.rept_maps.specs.Mapped.Naming.{AskedMapped, asked_in, file_at, found_of, in_the_end, is_in, named_at, named_in, or_named, own_of, so_far, some_in, with_file}
use Rattle.rept_maps.specs.Mapped.Views.{asked_of}
use Rattle.rept_maps.specs.declared.mapped.naming.FunctionSearch.{FunctionSearch}
use Rattle.rept_maps.specs.declared.mapped.naming.Home.{Home}

some_same : {X : Type 0} {x y : X} → Some x ≡ Some y → x ≡ y
some_same e = cc

pub get_map : {X Y : Type 0} → (f : X → Y) (xs : List X) (i : ℕ) (x : X) → slice_get xs i ≡ Some x → slice_get (map f xs) i ≡ Some (f x)
get_map f [] i x h = cc
get_map f (y ∷ ys) zero x h = ap (λ z. Some (f z)) (some_same h)
get_map f (y ∷ ys) (suc i) x h = get_map f ys i x h

-- what one address is told by the answers to all
pub by_answer : (file : List ℕ) (mapping : ℕ) (asked : List AskedMapped) (named : List (Option FunctionSymbol)) (i : ℕ) (s : AskedMapped) (n : Option FunctionSymbol)
    → named ≡ map (symbol_at file) (map own_of asked) → slice_get asked i ≡ Some s → slice_get named i ≡ Some n → or_named mapping s n ≡ asked_in file mapping s
by_answer file mapping asked named i s n are at there =
    let e : named ≡ map (λ s. symbol_at file (own_of s)) asked = are ∙ map_two (symbol_at file) own_of asked in
    ap (or_named mapping s) (some_same (sym there ∙ ap (λ ns. slice_get ns i) e ∙ get_map (λ s. symbol_at file (own_of s)) asked i s at))

-- of which addresses nothing changes
asked_unless : (ms : List Mapping) (i : ℕ) (s : AskedMapped) → is_in i s ≡ false → with_file ms i s ≡ s
asked_unless ms i s out = ap (λ b. cond b (record { home = s.home; found = option_or s.found (in_the_end ms s) }) s) out

or_false : (a b : Bool) → (a || b) ≡ false → b ≡ false
or_false true b h = cc
or_false false b h = h

or_false_first : (a b : Bool) → (a || b) ≡ false → a ≡ false
or_false_first true b h = cc
or_false_first false b h = refl

pub none_in : (ms : List Mapping) (i : ℕ) (asked : List AskedMapped) → some_in i asked ≡ false → asked ≡ map (with_file ms i) asked
none_in ms i [] out = refl
none_in ms i (s ∷ ss) out =
    ap (λ x. x ∷ ss) (sym (asked_unless ms i s (or_false_first (is_in i s) (some_in i ss) out))) ∙ ap (λ rest. with_file ms i s ∷ rest) (none_in ms i ss (or_false (is_in i s) (some_in i ss) out))

-- where its file is asked, an address has what its mapping's file has
abbrev sought : Option Home → Option FunctionSymbol → AskedMapped
sought home found = record { home = home; found = found }

in_file : (ms : List Mapping) (i : ℕ) (file : List ℕ) (h : Home) → file_at ms i ≡ Some file → (h.mapping == i) ≡ true → named_at ms h ≡ named_in file h
in_file ms i file h is at = ap (λ k. option_and_then (λ f. named_in f h) (file_at ms k)) (same h.mapping i at) ∙ ap (option_and_then (λ f. named_in f h)) is
  where
    same : (a b : ℕ) → (a == b) ≡ true → a ≡ b
    same a b e = grind (arith, nat_tests)

found_in : (hit : Bool) (h : Home) (found a b : Option FunctionSymbol) → (hit ≡ true → a ≡ b)
    → cond hit (sought (Some h) (option_or found a)) (sought (Some h) found) ≡ cond hit (sought (Some h) (option_or found b)) (sought (Some h) found)
found_in true h found a b same = ap (λ x. sought (Some h) (option_or found x)) (same refl)
found_in false h found a b same = refl

asked_file : (ms : List Mapping) (i : ℕ) (file : List ℕ) → file_at ms i ≡ Some file → (home : Option Home) (found : Option FunctionSymbol) → asked_in file i (sought home found) ≡ with_file ms i (sought home found)
asked_file ms i file is None found = refl
asked_file ms i file is (Some h) found = found_in (h.mapping == i) h found (named_in file h) (named_at ms h) (λ at. sym (in_file ms i file h is at))

pub with_image : (ms : List Mapping) (i : ℕ) (file : List ℕ) (asked more : List AskedMapped) → file_at ms i ≡ Some file → more ≡ map (asked_in file i) asked → more ≡ map (with_file ms i) asked
with_image ms i file asked more is are = are ∙ map_same (asked_in file i) (with_file ms i) (λ s. asked_file ms i file is s.home s.found) asked

no_file : (ms : List Mapping) (i : ℕ) → file_at ms i ≡ None → (h : Home) → (h.mapping == i) ≡ true → named_at ms h ≡ None
no_file ms i is h at = ap (λ k. option_and_then (λ f. named_in f h) (file_at ms k)) (same h.mapping i at) ∙ ap (option_and_then (λ f. named_in f h)) is
  where
    same : (a b : ℕ) → (a == b) ≡ true → a ≡ b
    same a b e = grind (arith, nat_tests)

or_none : (found : Option FunctionSymbol) → option_or found None ≡ found
or_none None = refl
or_none (Some s) = refl

kept_in : (hit : Bool) (h : Home) (found a : Option FunctionSymbol) → (hit ≡ true → a ≡ None) → sought (Some h) found ≡ cond hit (sought (Some h) (option_or found a)) (sought (Some h) found)
kept_in true h found a none = ap (sought (Some h)) (sym (or_none found)) ∙ ap (λ x. sought (Some h) (option_or found x)) (sym (none refl))
kept_in false h found a none = refl

without_file : (ms : List Mapping) (i : ℕ) → file_at ms i ≡ None → (home : Option Home) (found : Option FunctionSymbol) → sought home found ≡ with_file ms i (sought home found)
without_file ms i is None found = refl
without_file ms i is (Some h) found = kept_in (h.mapping == i) h found (named_at ms h) (no_file ms i is h)

map_kept : {X : Type 0} (f : X → X) → ((x : X) → x ≡ f x) → (xs : List X) → xs ≡ map f xs
map_kept f same [] = refl
map_kept f same (x ∷ xs) = ap (λ y. y ∷ xs) (same x) ∙ ap (λ rest. f x ∷ rest) (map_kept f same xs)

pub without_image : (ms : List Mapping) (i : ℕ) (asked : List AskedMapped) → file_at ms i ≡ None → asked ≡ map (with_file ms i) asked
without_image ms i asked is = map_kept (with_file ms i) (λ s. without_file ms i is s.home s.found) asked

-- one mapping more
home_kept : (ms : List Mapping) (i : ℕ) (home : Option Home) (found : Option FunctionSymbol) → in_the_end ms (with_file ms i (sought home found)) ≡ in_the_end ms (sought home found)
home_kept ms i None found = refl
home_kept ms i (Some h) found = both (h.mapping == i)
  where
    both : (hit : Bool) → in_the_end ms (cond hit (sought (Some h) (option_or found (named_at ms h))) (sought (Some h) found)) ≡ named_at ms h
    both true = refl
    both false = refl

pub ends_alike : (ms : List Mapping) (i : ℕ) (asked more : List AskedMapped) → more ≡ map (with_file ms i) asked → map (in_the_end ms) more ≡ map (in_the_end ms) asked
ends_alike ms i asked more are = ap (map (in_the_end ms)) are ∙ map_two (in_the_end ms) (with_file ms i) asked ∙ map_same (λ s. in_the_end ms (with_file ms i s)) (in_the_end ms) (λ s. home_kept ms i s.home s.found) asked

farther : (hit below below_next : Bool) (h : Home) (ms : List Mapping) (found : Option FunctionSymbol) → (hit ≡ true → below ≡ false) → (hit ≡ true → below_next ≡ true) → (hit ≡ false → below_next ≡ below)
    → found ≡ cond below (named_at ms h) None → found_of (cond hit (sought (Some h) (option_or found (named_at ms h))) (sought (Some h) found)) ≡ cond below_next (named_at ms h) None
farther true below below_next h ms found first then_next else_same is =
    let none : found ≡ None = is ∙ ap (λ b. cond b (named_at ms h) None) (first refl) in
    ap (λ f. option_or f (named_at ms h)) none ∙ ap (λ b. cond b (named_at ms h) None) (sym (then_next refl))
farther false below below_next h ms found first then_next else_same is = is ∙ ap (λ b. cond b (named_at ms h) None) (sym (else_same refl))

homes_alike : (ms : List Mapping) (i k : ℕ) (h : Home) (found : Option FunctionSymbol) → so_far ms k (with_file ms i (sought (Some h) found)) ≡ cond (nat_lt h.mapping k) (named_at ms h) None
homes_alike ms i k h found = both (h.mapping == i)
  where
    both : (hit : Bool) → so_far ms k (cond hit (sought (Some h) (option_or found (named_at ms h))) (sought (Some h) found)) ≡ cond (nat_lt h.mapping k) (named_at ms h) None
    both true = refl
    both false = refl

one_farther : (ms : List Mapping) (i : ℕ) (home : Option Home) (found : Option FunctionSymbol) → found ≡ so_far ms i (sought home found) → found_of (with_file ms i (sought home found)) ≡ so_far ms (i + 1) (with_file ms i (sought home found))
one_farther ms i None found is = is
one_farther ms i (Some h) found is =
    farther (h.mapping == i) (nat_lt h.mapping i) (nat_lt h.mapping (i + 1)) h ms found (λ e. at h.mapping i e) (λ e. next h.mapping i e) (λ e. other h.mapping i e) is ∙ sym (homes_alike ms i (i + 1) h found)
  where
    at : (a b : ℕ) → (a == b) ≡ true → nat_lt a b ≡ false
    at a b e = grind (arith, nat_tests)

    next : (a b : ℕ) → (a == b) ≡ true → nat_lt a (b + 1) ≡ true
    next a b e = grind (arith, nat_tests)

    other : (a b : ℕ) → (a == b) ≡ false → nat_lt a (b + 1) ≡ nat_lt a b
    other a b e = grind (arith, nat_tests)

cons_first : {X : Type 0} {x y : X} {xs ys : List X} → x ∷ xs ≡ y ∷ ys → x ≡ y
cons_first e = cc

cons_rest : {X : Type 0} {x y : X} {xs ys : List X} → x ∷ xs ≡ y ∷ ys → xs ≡ ys
cons_rest e = cc

far_with : (ms : List Mapping) (i : ℕ) (asked : List AskedMapped) → map found_of asked ≡ map (so_far ms i) asked → map found_of (map (with_file ms i) asked) ≡ map (so_far ms (i + 1)) (map (with_file ms i) asked)
far_with ms i [] is = refl
far_with ms i (s ∷ ss) is =
    ap (λ x. x ∷ map found_of (map (with_file ms i) ss)) (one_farther ms i s.home s.found (cons_first is)) ∙ ap (λ rest. so_far ms (i + 1) (with_file ms i s) ∷ rest) (far_with ms i ss (cons_rest is))

pub far_more : (ms : List Mapping) (i : ℕ) (asked more : List AskedMapped) → more ≡ map (with_file ms i) asked → map found_of asked ≡ map (so_far ms i) asked → map found_of more ≡ map (so_far ms (i + 1)) more
far_more ms i asked more are is = subst (λ (m : List AskedMapped). map found_of m ≡ map (so_far ms (i + 1)) m) (sym are) (far_with ms i asked is)

-- all mappings
far_all : (ms : List Mapping) (n : ℕ) → length ms ≤ n → (home : Option Home) (found : Option FunctionSymbol) → so_far ms n (sought home found) ≡ in_the_end ms (sought home found)
far_all ms n enough None found = refl
far_all ms n enough (Some h) found = either (nat_lt h.mapping n) (λ e. not_below h.mapping n e)
  where
    not_below : (a b : ℕ) → nat_lt a b ≡ false → b ≤ a
    not_below a b e = grind (arith, nat_tests)

    either : (below : Bool) → (below ≡ false → n ≤ h.mapping) → cond below (named_at ms h) None ≡ named_at ms h
    either true past = refl
    either false past = sym (ap (λ m. option_and_then (λ f. named_in f h) (option_and_then (λ (m : Mapping). m.file) m)) (slice_get_past ms h.mapping (omega (arith, enough, past refl))))

pub all_asked : (ms : List Mapping) (n : ℕ) (asked : List AskedMapped) (addresses : List ℕ) (found : List (Option FunctionSymbol)) → length ms ≤ n → found ≡ map found_of asked
    → map found_of asked ≡ map (so_far ms n) asked → map (in_the_end ms) asked ≡ map (mapped_symbol ms) addresses → found ≡ map (mapped_symbol ms) addresses
all_asked ms n asked addresses found enough are far ends = are ∙ far ∙ map_same (so_far ms n) (in_the_end ms) (λ s. far_all ms n enough s.home s.found) asked ∙ ends

-- the file of the mapping of an index, by its image
pub file_of_image : (desc : List ℕ) (images : List (Option Image)) (i : ℕ) (image : Option Image) → slice_get images i ≡ Some image → file_at (mappings desc images) i ≡ option_map file_of image
file_of_image desc images i image at = ap (option_and_then (λ (m : Mapping). m.file)) (slice_get-mappings desc images i image at)

-- one address more is asked
pub one_asked : (file : List ℕ) (mapping i : ℕ) (asked : List FunctionSearch) (more : List FunctionSearch) (named : List (Option Symbol)) (s r : FunctionSearch) (n : Option Symbol)
    → map (option_map symbol_of) named ≡ map (symbol_at file) (map own_of (map asked_of asked)) → slice_get asked i ≡ Some s → slice_get named i ≡ Some n
    → asked_of r ≡ or_named mapping (asked_of s) (option_map symbol_of n) → map asked_of more ≡ map (asked_in file mapping) (map asked_of (take i asked))
    → map asked_of (more ++ r ∷ []) ≡ map (asked_in file mapping) (map asked_of (take (i + 1) asked))
one_asked file mapping i asked more named s r n are at there is before =
    let one : or_named mapping (asked_of s) (option_map symbol_of n) ≡ asked_in file mapping (asked_of s) =
    by_answer file mapping (map asked_of asked) (map (option_map symbol_of) named) i (asked_of s) (option_map symbol_of n) are (get_map asked_of asked i s at) (get_map (option_map symbol_of) named i n there) in
    let within : i < length asked = slice_get_within asked i s at in
    let further : take (i + 1) asked ≡ take i asked ++ s ∷ [] = take_more asked i s within ∙ ap (λ x. take i asked ++ x ∷ []) (some_same (sym (slice_get-get_or asked i s within) ∙ at)) in
    map_push asked_of more r ∙ ap (λ front. front ++ asked_of r ∷ []) before ∙ ap (λ x. map (asked_in file mapping) (map asked_of (take i asked)) ++ x ∷ []) (is ∙ one)
    ∙ sym (map_push (asked_in file mapping) (map asked_of (take i asked)) (asked_of s)) ∙ ap (map (asked_in file mapping)) (sym (map_push asked_of (take i asked) s)) ∙ ap (λ xs. map (asked_in file mapping) (map asked_of xs)) (sym further)

-- the same of what a call answers
pub some_with_image : (ms : List Mapping) (i : ℕ) (file : List ℕ) (result : Result (Vec FunctionSearch Global) AllocError) (asked lent : List FunctionSearch) → file_at ms i ≡ Some file → lent ≡ asked
    → IfOk result (λ more. map asked_of more.items ≡ map (asked_in file i) (map asked_of lent)) → IfOk result (λ more. map asked_of more.items ≡ map (with_file ms i) (map asked_of asked))
some_with_image ms i file (Ok more) asked lent is same are = with_image ms i file (map asked_of asked) (map asked_of more.items) is (are ∙ ap (λ xs. map (asked_in file i) (map asked_of xs)) same)
some_with_image ms i file (Err e) asked lent is same are = tt

-- there are as many answers as addresses
pub as_many : (file : List ℕ) (asked : List FunctionSearch) (named : List (Option Symbol)) → map (option_map symbol_of) named ≡ map (symbol_at file) (map own_of (map asked_of asked)) → length named ≡ length asked
as_many file asked named are = sym (length-map named (option_map symbol_of)) ∙ ap length are ∙ length-map (map own_of (map asked_of asked)) (symbol_at file) ∙ length-map (map asked_of asked) own_of ∙ length-map asked asked_of

-- what is answered in the end
pub all_named : (ms : List Mapping) (n : ℕ) (asked lent : List FunctionSearch) (addresses : List ℕ) (result : Result (Vec (Option Symbol) Global) AllocError) → length ms ≤ n → lent ≡ asked
    → IfOk result (λ found. map (option_map symbol_of) found.items ≡ map found_of (map asked_of lent)) → map found_of (map asked_of asked) ≡ map (so_far ms n) (map asked_of asked)
    → map (in_the_end ms) (map asked_of asked) ≡ map (mapped_symbol ms) addresses → IfOk result (λ found. map (option_map symbol_of) found.items ≡ map (mapped_symbol ms) addresses)
all_named ms n asked lent addresses (Ok found) enough same are far ends =
    all_asked ms n (map asked_of asked) addresses (map (option_map symbol_of) found.items) enough (are ∙ ap (λ xs. map found_of (map asked_of xs)) same) far ends
all_named ms n asked lent addresses (Err e) enough same are far ends = tt
