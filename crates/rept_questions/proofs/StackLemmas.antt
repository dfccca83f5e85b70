-- The places of a stack.
use Rattle.std.proofs.Common.{◌≡◌, ℕ, ◌+◌, ◌-◌, ◌<◌, ◌≤◌, suc, zero, List, [], ◌∷◌, ◌++◌, length, map, reverse, get_or, take, arith, refl, sym, ap, ◌∙◌}
use Rattle.std.specs.Prelude.{Option, Some, None, slice_get}
use Rattle.std.specs.Option.{option_and_then, option_map, option_to_list}
use Rattle.std.proofs.lemmas.List.{append-nil, get_or-map, get_or-reverse, length-map, length-reverse}
use Rattle.std.proofs.lemmas.Option.{slice_get-get_or, slice_get-map}
use Rattle.rept_elf.specs.Symbols.{FunctionSymbol, symbol_of}
use Rattle.rept_elf.specs.declared.symbol.Symbol.{Symbol}
use Rattle.rept_questions.specs.declared.frames.frames.Frame.{Frame}
use Rattle.rept_findings.specs.Shown.{Shown}
use Rattle.rept_questions.specs.Texts.{frame_line, place_line}

-- another place: that of the call so many places before the end
pub place_back : (pc : ℕ) (frames : List Frame) (k : ℕ) (d : Frame) → 0 < k → k ≤ length frames → slice_get (pc ∷ reverse (map (λ f. f.at) frames)) k ≡ Some (get_or frames (length frames - k) d).at
place_back pc frames zero d some within = absurd (omega arith)
place_back pc frames (suc k) d some within =
    let xs : List ℕ = map (λ f. f.at) frames in
    let long : length xs ≡ length frames = length-map frames (λ f. f.at) in
    let same : length (reverse xs) ≡ length xs = length-reverse xs in
    let at : length xs - 1 - k ≡ length frames - suc k = omega arith in
    slice_get-get_or (reverse xs) k d.at (omega arith)
    ∙ ap Some (get_or-reverse xs k d.at (omega arith) ∙ ap (λ i. get_or xs i d.at) at ∙ get_or-map (λ f. f.at) frames (length frames - suc k) d d.at (omega arith))

-- the first elements, with one more
take_on : {X : Type 0} → (xs : List X) (k : ℕ) → take (suc k) xs ≡ take k xs ++ option_to_list (slice_get xs k)
take_on [] zero = refl
take_on [] (suc k) = refl
take_on (x ∷ xs) zero = refl
take_on (x ∷ xs) (suc k) = ap (λ rest. x ∷ rest) (take_on xs k)

pub one_place : (stack : List ℕ) (k : ℕ) (old new : List ℕ) (place : Option ℕ) → old ≡ take k stack → place ≡ slice_get stack k → new ≡ old ++ option_to_list place → new ≡ take (k + 1) stack
one_place stack k old new place before at step =
    let more : suc k ≡ k + 1 = omega arith in
    step ∙ ap (λ (xs : List ℕ). xs ++ option_to_list place) before ∙ ap (λ o. take k stack ++ option_to_list o) at ∙ sym (take_on stack k) ∙ ap (λ n. take n stack) more

-- an element of the first ones
slice_get_front : {X : Type 0} → (n : ℕ) (xs : List X) (k : ℕ) → k < n → slice_get (take n xs) k ≡ slice_get xs k
slice_get_front zero xs k h = absurd (omega arith)
slice_get_front (suc n) [] k h = refl
slice_get_front (suc n) (x ∷ xs) zero h = refl
slice_get_front (suc n) (x ∷ xs) (suc k) h = slice_get_front n xs k (omega arith)

-- the line of a place, whose function is that of its address
by_place : (s : Shown) (k : ℕ) (o : Option ℕ) → place_line k o (option_and_then (λ f. f) (option_map s.symbol o)) ≡ frame_line s k o
by_place s k None = refl
by_place s k (Some address) = refl

pub named_line : (s : Shown) (stack places : List ℕ) (functions : List (Option Symbol)) (k : ℕ) (place : Option ℕ) (function : Option Symbol) → k < 256 → places ≡ take 256 stack
    → map (option_map symbol_of) functions ≡ map s.symbol places → place ≡ slice_get places k → option_map symbol_of function ≡ option_and_then (λ f. f) (slice_get (map (option_map symbol_of) functions) k)
    → place_line k place (option_map symbol_of function) ≡ frame_line s k (slice_get stack k)
named_line s stack places functions k place function h are named at is =
    let here : slice_get places k ≡ slice_get stack k = ap (λ (xs : List ℕ). slice_get xs k) are ∙ slice_get_front 256 stack k h in
    let of : option_map symbol_of function ≡ option_and_then (λ f. f) (option_map s.symbol (slice_get stack k)) =
    is ∙ ap (λ (fs : List (Option FunctionSymbol)). option_and_then (λ f. f) (slice_get fs k)) named ∙ ap (option_and_then (λ (f : Option FunctionSymbol). f)) (slice_get-map s.symbol places k ∙ ap (option_map s.symbol) here) in
    ap (λ o. place_line k o (option_map symbol_of function)) (at ∙ here) ∙ ap (place_line k (slice_get stack k)) of ∙ by_place s k (slice_get stack k)
