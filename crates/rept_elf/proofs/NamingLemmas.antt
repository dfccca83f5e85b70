-- Addresses whose functions are looked for together: one symbol more, and one address more.
use Rattle.std.proofs.Common.{◌≡◌, ℕ, suc, zero, ◌+◌, ◌<◌, ◌≤◌, List, [], ◌∷◌, ◌++◌, length, map, get_or, take, drop, set, Bool, true, false, cond, arith, refl, sym, ◌∙◌, ap}
use Rattle.std.specs.Prelude.{Option, Some, None, slice_get, ◌&&◌, is_none}
use Rattle.std.specs.List.{find}
use Rattle.std.specs.Option.{option_and_then, option_map, option_or}
use Rattle.std.proofs.lemmas.List.{take_more, take_more_set, map_push, drop-set-lt, get_or-drop, drop-drop}
use Rattle.std.proofs.lemmas.List.Folds.{find-append}
use Rattle.std.proofs.lemmas.Option.{slice_get-get_or}
use Rattle.rept_elf.specs.Symbols.{ElfSymbol, FunctionSymbol, SymbolTables, function_in, is_function_at, named, symbol_at, symbol_tables, symbols}
use Rattle.rept_elf.specs.SectionParts.{entry_of}
use Rattle.rept_elf.specs.Naming.{Asked, answered, asked_among, asked_of}
use Rattle.rept_elf.specs.declared.naming.SymbolSearch.{SymbolSearch}

pub map_two : {X Y Z : Type 0} → (f : Y → Z) (g : X → Y) → (xs : List X) → map f (map g xs) ≡ map (λ x. f (g x)) xs
map_two f g [] = refl
map_two f g (x ∷ xs) = ap (λ rest. f (g x) ∷ rest) (map_two f g xs)

pub map_same : {X Y : Type 0} → (f g : X → Y) → ((x : X) → f x ≡ g x) → (xs : List X) → map f xs ≡ map g xs
map_same f g same [] = refl
map_same f g same (x ∷ xs) = ap (λ y. y ∷ map f xs) (same x) ∙ ap (λ rest. g x ∷ rest) (map_same f g same xs)

some_same : {X : Type 0} {x y : X} → Some x ≡ Some y → x ≡ y
some_same e = cc

-- of no address a function is known
abbrev pub no_function : ℕ → Option FunctionSymbol
no_function a = None

abbrev asked : ℕ → Option ElfSymbol → Asked
asked a found = record { address = a; found = found }

-- what is found of an address, by what was found and whether one symbol more is of its function
by_symbol : (a : ℕ) (found : Option ElfSymbol) (hit : Bool) (e : ElfSymbol) → cond (is_none found && hit) (asked a (Some e)) (asked a found) ≡ asked a (option_or found (cond hit (Some e) None))
by_symbol a None true e = refl
by_symbol a None false e = refl
by_symbol a (Some s) true e = refl
by_symbol a (Some s) false e = refl

one_address : (front : List ElfSymbol) (e : ElfSymbol) (a : ℕ) → answered e (asked_among front a) ≡ asked_among (front ++ e ∷ []) a
one_address front e a = by_symbol a (find (is_function_at a) front) (is_function_at a e) e ∙ ap (asked a) (sym (find-append (is_function_at a) front (e ∷ [])))

take_one : {X : Type 0} → (xs : List X) (i : ℕ) (x : X) → i < length xs → slice_get xs i ≡ Some x → take (i + 1) xs ≡ take i xs ++ x ∷ []
take_one xs i x h at = take_more xs i x h ∙ ap (λ y. take i xs ++ y ∷ []) (some_same (sym (slice_get-get_or xs i x h) ∙ at))

-- all addresses, with one symbol more
pub one_symbol : (symbols : List ElfSymbol) (i : ℕ) (e : ElfSymbol) (addresses : List ℕ) (old new : List Asked) → i < length symbols → slice_get symbols i ≡ Some e
    → old ≡ map (asked_among (take i symbols)) addresses → new ≡ map (answered e) old → new ≡ map (asked_among (take (i + 1) symbols)) addresses
one_symbol symbols i e addresses old new h at before step =
    step ∙ ap (map (answered e)) before ∙ map_two (answered e) (asked_among (take i symbols)) addresses
    ∙ map_same (λ a. answered e (asked_among (take i symbols) a)) (asked_among (take i symbols ++ e ∷ [])) (one_address (take i symbols) e) addresses
    ∙ ap (λ (front : List ElfSymbol). map (asked_among front) addresses) (sym (take_one symbols i e h at))

-- how far addresses were answered: those in front have the symbol, the others are as they were
pub record IsOffered (e : ElfSymbol) (i : ℕ) (old new : List SymbolSearch) : Type 0 where
  pub front : map asked_of (take i new) ≡ map (answered e) (map asked_of (take i old))
  pub same : length new ≡ length old
  pub back : drop i new ≡ drop i old

pub one_more : (e : ElfSymbol) (i : ℕ) (old now : List SymbolSearch) (d y : SymbolSearch) → i < length now → IsOffered e i old now → asked_of y ≡ answered e (asked_of (get_or now i d)) → IsOffered e (i + 1) old (set now i y)
one_more e i old now d y h so step = record {
  front =
      ap (map asked_of) (take_more_set now i y h) ∙ map_push asked_of (take i now) y ∙ ap (λ (f : List Asked). f ++ asked_of y ∷ []) so.front ∙ ap (λ z. map (answered e) (map asked_of (take i old)) ++ z ∷ []) step
      ∙ sym
      (ap (λ (f : List SymbolSearch). map (answered e) (map asked_of f)) (take_more old i d (omega (arith, h, so.same)) ∙ ap (λ z. take i old ++ z ∷ []) there)
      ∙ ap (map (answered e)) (map_push asked_of (take i old) (get_or now i d)) ∙ map_push (answered e) (map asked_of (take i old)) (asked_of (get_or now i d)));
  same = length_set now i y ∙ so.same;
  back = drop-set-lt (i + 1) now i y (omega arith) ∙ next_drop now old i so.back;
}
  where
    length_set : (xs : List SymbolSearch) (k : ℕ) (z : SymbolSearch) → length (set xs k z) ≡ length xs
    length_set [] k z = refl
    length_set (w ∷ ws) zero z = refl
    length_set (w ∷ ws) (suc k) z = ap suc (length_set ws k z)

    zero_more : i + 0 ≡ i
    zero_more = omega arith

    there : get_or old i d ≡ get_or now i d
    there = ap (λ k. get_or old k d) (sym zero_more) ∙ sym (get_or-drop i old 0 d) ∙ ap (λ (xs : List SymbolSearch). get_or xs 0 d) (sym so.back) ∙ get_or-drop i now 0 d ∙ ap (λ k. get_or now k d) zero_more

    next_drop : (xs ys : List SymbolSearch) (k : ℕ) → drop k xs ≡ drop k ys → drop (k + 1) xs ≡ drop (k + 1) ys
    next_drop xs ys k same = sym (drop-drop 1 k xs) ∙ ap (drop 1) same ∙ drop-drop 1 k ys

-- the function that was found of an address
abbrev pub name_of : List ℕ → SymbolSearch → Option FunctionSymbol
name_of names s = option_and_then (named names) (option_map entry_of s.found)

-- the functions of a table, from what was found among all of its symbols
pub named_all : (tables : SymbolTables) (addresses : List ℕ) (all : List SymbolSearch) → map asked_of all ≡ map (asked_among (symbols tables.entries)) addresses → map (name_of tables.names) all ≡ map (function_in tables) addresses
named_all tables addresses all are =
    let name : Asked → Option FunctionSymbol = λ s. option_and_then (named tables.names) s.found in
    sym (map_two name asked_of all) ∙ ap (map name) are ∙ map_two name (asked_among (symbols tables.entries)) addresses

-- those of a file that has tables, and of one that has none
pub by_tables : (file : List ℕ) (tables : SymbolTables) (addresses : List ℕ) → symbol_tables file ≡ Some tables → map (function_in tables) addresses ≡ map (symbol_at file) addresses
by_tables file tables addresses is =
    map_same (function_in tables) (symbol_at file) (λ a. sym (ap (option_and_then (λ (t : SymbolTables). function_in t a)) is)) addresses

pub without_tables : (file : List ℕ) (addresses : List ℕ) → symbol_tables file ≡ None → map (λ (a : ℕ). no_function a) addresses ≡ map (symbol_at file) addresses
without_tables file addresses is = map_same no_function (symbol_at file) (λ a. sym (ap (option_and_then (λ (t : SymbolTables). function_in t a)) is)) addresses
