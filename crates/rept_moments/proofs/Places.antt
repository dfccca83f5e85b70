-- Points, their rows, and what a function says of each of them.
use Rattle.std.proofs.Common.{◌≡◌, ℕ, zero, suc, ◌+◌, ◌<◌, ◌≤◌, Bool, true, false, List, [], ◌∷◌, ◌++◌, length, Option, Some, None, slice_get, get_or, nat_lt, unwrap_or, inl, inr, refl, sym, ap, ◌∙◌, subst, arith, length-append}
use Rattle.std.specs.Option.{is_some, IsSome}
use Rattle.std.proofs.lemmas.Bool.{cases_order, ltb-true}
use Rattle.std.proofs.lemmas.Option.{slice_get_past, slice_get_cases, slice_get_within, slice_get_read, slice_get-get_or, unwrap_or-slice_get}
use Rattle.std.proofs.lemmas.List.{get_or_default}
use Rattle.rept_isa.specs.declared.row.StepRow.{StepRow}
use Rattle.rept_steps.specs.declared.threads.ThreadRows.{ThreadRows}
use Rattle.rept_steps.specs.Course.{Course, Row, row_of, rows_of, no_thread, IsRow, row_at}
use Rattle.rept_order.specs.Legs.{Point, points_before, number_of, row_from, leg_row}
use Rattle.rept_order.specs.Moments.{is_writing, stores}
use Rattle.rept_order.proofs.Legs.{point_number, thread_inside, leg_leads}
use Rattle.rept_moments.specs.Naming.Numbered.{row_on}
use Rattle.rept_moments.proofs.NamingLemmas.Naming.{some_is, row_inside, are_legs}
use Rattle.rept_moments.specs.declared.points.Edges.{Edges}
use Rattle.rept_moments.specs.declared.side.PointOfThread.{PointOfThread}
use Rattle.rept_moments.specs.declared.side.PointSide.{PointSide}
use Rattle.rept_moments.specs.Points.{points_in, place_on, by_point}
use Rattle.rept_moments.specs.Edges.{edges_in, edges_at, times_at, ArePoints}

some_none : {A : Type 0} {x : A} → Some x ≡ None → ⊥
some_none e = cc

-- at the end of a list, and before it
pub get_end : {A : Type 0} (xs : List A) (x : A) → slice_get (xs ++ x ∷ []) (length xs) ≡ Some x
get_end [] x = refl
get_end (y ∷ xs) x = get_end xs x

pub get_before : {A : Type 0} (xs : List A) (x : A) (k : ℕ) → k < length xs → slice_get (xs ++ x ∷ []) k ≡ slice_get xs k
get_before [] x k less = absurd (omega arith)
get_before (y ∷ xs) x zero less = refl
get_before (y ∷ xs) x (suc k) less = get_before xs x k (omega arith)

pub by_point_length : {A : Type 0} (f : ℕ → A) (n : ℕ) → length (by_point f n) ≡ n
by_point_length f zero = refl
by_point_length f (suc n) = let rest = by_point_length f n in let all = length-append (by_point f n) (f n ∷ []) in omega arith

pub by_point_get : {A : Type 0} (f : ℕ → A) (n g : ℕ) → g < n → slice_get (by_point f n) g ≡ Some (f g)
by_point_get f zero g less = absurd (omega arith)
by_point_get {A} f (suc n) g less =
    let count = by_point_length f n in
    elim (cases_order g n) [
      | inl same ↦ ap (λ (k : ℕ). slice_get (by_point f n ++ f n ∷ []) k) (same ∙ sym count) ∙ get_end (by_point f n) (f n) ∙ ap (λ (k : ℕ). Some (f k)) (sym same)
      | inr (inl below) ↦ get_before (by_point f n) (f n) g (omega arith) ∙ by_point_get f n g below
      | inr (inr over) ↦ absurd (omega arith)
    ]

-- with that of one more point
pub by_point_more : {A : Type 0} (f : ℕ → A) (n : ℕ) (xs ys : List A) (x : A) → xs ≡ by_point f n → x ≡ f n → ys ≡ xs ++ x ∷ [] → ys ≡ by_point f (n + 1)
by_point_more {A} f n xs ys x are is pushed =
    let next : suc n ≡ n + 1 = omega arith in
    pushed ∙ ap (λ (zs : List A). zs ++ x ∷ []) are ∙ ap (λ (y : A). by_point f n ++ y ∷ []) is ∙ ap (λ (k : ℕ). by_point f k) next

pub by_point_past : {A : Type 0} (f : ℕ → A) (n g : ℕ) → n ≤ g → slice_get (by_point f n) g ≡ None
by_point_past f n g past = let count = by_point_length f n in slice_get_past (by_point f n) g (omega arith)

-- the row at a place, read from the threads
pub row_read : (C : Course) (ts : List ThreadRows) (t s : ℕ) (d : ThreadRows) (rows : List StepRow) (r : StepRow) → ts ≡ C.threads → true ≡ nat_lt t (length ts) → d ≡ get_or ts t d → rows ≡ d.steps → true ≡ nat_lt s (length rows) → r ≡ get_or rows s r → Some r ≡ row_at C (row_of t s)
row_read C ts t s d rows r all inside its same less read =
    let there : slice_get C.threads t ≡ Some d = ap (λ (xs : List ThreadRows). slice_get xs t) (sym all) ∙ slice_get_read ts (length ts) t d refl (ltb-true t (length ts) (sym inside)) its in
    let thread : (unwrap_or (slice_get C.threads t) no_thread) ≡ d = ap (λ (o : Option ThreadRows). unwrap_or o no_thread) there in
    sym (slice_get_read rows (length rows) s r refl (ltb-true s (length rows) (sym less)) read)
    ∙ ap (λ (xs : List StepRow). slice_get xs s) (same ∙ ap (λ (x : ThreadRows). x.steps) (sym thread))

-- a row has a point
pub row_there : (C : Course) (r : Row) → IsRow C r → is_some (row_at C r) ≡ true
row_there C r is =
    elim (slice_get_cases (rows_of C r.thread) r.step).1 [
      | inl found ↦ ap is_some found.2
      | inr past ↦ absurd (let far = past.0 in omega arith)
    ]

pub there_row : (C : Course) (r : Row) → is_some (row_at C r) ≡ true → IsRow C r
there_row C r e = let found = some_is (row_at C r) e in row_inside C r found.0 found.1

abbrev pub point_of_row : Course → Row → ℕ
point_of_row C r = number_of C r.thread r.step

pub row_point : (C : Course) (r : Row) → IsRow C r → row_on C (point_of_row C r) ≡ r
row_point C r is = ap row_from (point_number C r.thread r.step (thread_inside C r is) (omega arith))

pub row_before : (C : Course) (g : ℕ) → IsRow C (row_on C g) → suc g < points_in C
row_before C g is =
    let found = some_is (leg_row C g) (row_there C (row_on C g) is) in
    let below = (are_legs C).inside g found.0 found.1 in
    omega arith

-- the points of one thread, and then those of the next ones
pub next_thread : (threads : List ThreadRows) (t : ℕ) → t < length threads → points_before threads (suc t) ≡ points_before threads t + suc (length (unwrap_or (slice_get threads t) no_thread).steps)
next_thread [] t below = absurd (omega arith)
next_thread (thread ∷ threads) zero below = omega arith
next_thread (thread ∷ threads) (suc t) below = let rest = next_thread threads t (omega arith) in omega arith

-- what the table of points says
module _ (C : Course) (list : List PointOfThread) (firsts : List ℕ) (all : List Edges) (its : ArePoints C list firsts all) where
  pub places_count : length list ≡ points_in C
  places_count = ap (λ (xs : List PointOfThread). length xs) its.places ∙ by_point_length (place_on C) (points_in C)

  pub places_few : length list ≤ 66560
  places_few = let count = places_count in let few = its.few in omega arith

  pub place_at : (g : ℕ) → g < length list → slice_get list g ≡ Some (place_on C g)
  place_at g less = let count = places_count in ap (λ (xs : List PointOfThread). slice_get xs g) its.places ∙ by_point_get (place_on C) (points_in C) g (omega arith)

  pub place_is : (g : ℕ) (p : PointOfThread) → slice_get list g ≡ Some p → row_of p.thread p.step ≡ row_on C g
  place_is g p e =
      let less = slice_get_within list g p e in
      ap (λ (q : PointOfThread). row_of q.thread q.step) (some_same (sym e ∙ place_at g less))
    where
      some_same : {x y : PointOfThread} → Some x ≡ Some y → x ≡ y
      some_same k = cc

  pub no_row_past : (g : ℕ) → length list ≤ g → leg_row C g ≡ None
  no_row_past g past = none_by (leg_row C g) (λ its_row e.
      let count = places_count in
      let below = (are_legs C).inside g its_row e in
      omega arith)
    where
      none_by : (o : Option StepRow) → ((x : StepRow) → o ≡ Some x → ⊥) → o ≡ None
      none_by None k = refl
      none_by (Some x) k = absurd (k x refl)

  pub row_some : (V : Course) (g : ℕ) (p : PointOfThread) (xs : List PointOfThread) (r : Option StepRow) → C ≡ V → xs ≡ list → true ≡ nat_lt g (length xs) → p ≡ get_or xs g p → r ≡ row_at C (row_of p.thread p.step) → r ≡ leg_row V g
  row_some V g p xs r view same less read e =
      let there = slice_get_read xs (length xs) g p refl (ltb-true g (length xs) (sym less)) read in
      e ∙ ap (row_at C) (place_is g p (sym (ap (λ (ys : List PointOfThread). slice_get ys g) same) ∙ there)) ∙ ap (λ (D : Course). leg_row D g) view

  pub row_none : (V : Course) (g : ℕ) (xs : List PointOfThread) → C ≡ V → xs ≡ list → length xs ≤ g → None ≡ leg_row V g
  row_none V g xs view same past = sym (no_row_past g (subst (λ (ys : List PointOfThread). length ys ≤ g) same past)) ∙ ap (λ (D : Course). leg_row D g) view

  pub place_here : (V : Course) (g : ℕ) (p d : PointOfThread) (xs : List PointOfThread) → C ≡ V → xs ≡ list → g < points_in V → p ≡ get_or xs g d → row_of p.thread p.step ≡ row_on V g
  place_here V g p d xs view same less read =
      let count = places_count in
      let whole : points_in C ≡ points_in V = ap (λ (D : Course). points_in D) view in
      let long : length xs ≡ length list = ap (λ (ys : List PointOfThread). length ys) same in
      let below : g < length list = omega arith in
      place_is g p (slice_get-get_or list g d below ∙ ap (λ (ys : List PointOfThread). Some (get_or ys g d)) (sym same) ∙ ap (λ (q : PointOfThread). Some q) (sym read)) ∙ ap (λ (D : Course). row_on D g) view

  pub place_value : (V : Course) (g : ℕ) (p d : PointOfThread) (xs : List PointOfThread) → C ≡ V → xs ≡ list → g < points_in V → p ≡ get_or xs g d → p ≡ place_on V g
  place_value V g p d xs view same less read =
      let count = places_count in
      let whole : points_in C ≡ points_in V = ap (λ (D : Course). points_in D) view in
      let long : length xs ≡ length list = ap (λ (ys : List PointOfThread). length ys) same in
      let below : g < length list = omega arith in
      some_same (ap (λ (q : PointOfThread). Some q) read ∙ ap (λ (ys : List PointOfThread). Some (get_or ys g d)) same ∙ sym (slice_get-get_or list g d below) ∙ place_at g below) ∙ ap (λ (D : Course). place_on D g) view
    where
      some_same : {x y : PointOfThread} → Some x ≡ Some y → x ≡ y
      some_same k = cc

  pub edges_count : length all ≡ points_in C
  edges_count = ap (λ (xs : List Edges). length xs) its.edges ∙ by_point_length (edges_at C) (points_in C)

  edges_here : (V : Course) (g : ℕ) (d : Edges) (xs : List Edges) → C ≡ V → xs ≡ all → g < points_in V → get_or xs g d ≡ edges_at V g
  edges_here V g d xs view same less =
      let count = edges_count in
      let whole : points_in C ≡ points_in V = ap (λ (D : Course). points_in D) view in
      let long : length xs ≡ length all = ap (λ (ys : List Edges). length ys) same in
      some_same (sym (slice_get-get_or xs g d (omega arith)) ∙ ap (λ (ys : List Edges). slice_get ys g) (same ∙ its.edges) ∙ by_point_get (edges_at C) (points_in C) g (omega arith)) ∙ ap (λ (D : Course). edges_at D g) view
    where
      some_same : {x y : Edges} → Some x ≡ Some y → x ≡ y
      some_same k = cc

  pub stores_some : (V : Course) (g : ℕ) (x : Edges) (xs : List Edges) → C ≡ V → xs ≡ all → true ≡ nat_lt g (length xs) → x ≡ get_or xs g x → x.stores ≡ stores V (row_on V g)
  stores_some V g x xs view same less read =
      let count = edges_count in
      let whole : points_in C ≡ points_in V = ap (λ (D : Course). points_in D) view in
      let long : length xs ≡ length all = ap (λ (ys : List Edges). length ys) same in
      let below : g < length xs = ltb-true g (length xs) (sym less) in
      ap (λ (e : Edges). e.stores) (read ∙ edges_here V g x xs view same (omega arith))

  pub stores_none : (V : Course) (g : ℕ) (xs : List Edges) → C ≡ V → xs ≡ all → length xs ≤ g → false ≡ stores V (row_on V g)
  stores_none V g xs view same past =
      let count = edges_count in
      let places = places_count in
      let long : length xs ≡ length all = ap (λ (ys : List Edges). length ys) same in
      ap is_writing (sym (no_row_past g (omega arith))) ∙ ap (λ (D : Course). stores D (row_on D g)) view

  pub times_after : (V : Course) (s : PointSide) (d : Edges) (xs : List Edges) → C ≡ V → xs ≡ all → s.point < points_in V → s.is_after ≡ true → (get_or xs s.point d).after ≡ times_at V s
  times_after V s d xs view same less e = ap (λ (x : Edges). x.after) (edges_here V s.point d xs view same less) ∙ ap (λ (b : Bool). times_at V (record { point = s.point; is_after = b })) (sym e)

  pub times_before : (V : Course) (s : PointSide) (d : Edges) (xs : List Edges) → C ≡ V → xs ≡ all → s.point < points_in V → s.is_after ≡ false → (get_or xs s.point d).before ≡ times_at V s
  times_before V s d xs view same less e = ap (λ (x : Edges). x.before) (edges_here V s.point d xs view same less) ∙ ap (λ (b : Bool). times_at V (record { point = s.point; is_after = b })) (sym e)

-- one more point of a thread
pub add_place : (C : Course) (t i : ℕ) (xs ys : List PointOfThread) → t < length C.threads → i ≤ length (rows_of C t) → xs ≡ by_point (place_on C) (points_before C.threads t + i) → ys ≡ xs ++ record { thread = t; step = i } ∷ [] → ys ≡ by_point (place_on C) (points_before C.threads t + (i + 1))
add_place C t i xs ys below few before e =
    let next : suc (points_before C.threads t + i) ≡ points_before C.threads t + (i + 1) = omega arith in
    let here : place_on C (points_before C.threads t + i) ≡ record { thread = t; step = i } = ap as_place (point_number C t i below few) in
    e ∙ ap (λ (zs : List PointOfThread). zs ++ record { thread = t; step = i } ∷ []) before ∙ ap (λ (p : PointOfThread). by_point (place_on C) (points_before C.threads t + i) ++ p ∷ []) (sym here) ∙ ap (by_point (place_on C)) next
  where
    as_place : Point → PointOfThread
    as_place x = record { thread = x.thread; step = x.number }

pub rows_count : (C : Course) (t n : ℕ) (all : List ThreadRows) (d : ThreadRows) → all ≡ C.threads → t < length C.threads → n ≡ length (get_or all t d).steps → n ≡ length (rows_of C t)
rows_count C t n all d same below e =
    e ∙ ap (λ (ts : List ThreadRows). length (get_or ts t d).steps) same ∙ ap (λ (x : ThreadRows). length x.steps) (get_or_default C.threads t d no_thread below ∙ sym (unwrap_or-slice_get C.threads t no_thread))

pub all_added : (C : Course) (t n i : ℕ) (xs : List PointOfThread) → t < length C.threads → n ≡ length (rows_of C t) → i ≡ n + 1 → xs ≡ by_point (place_on C) (points_before C.threads t + i) → xs ≡ by_point (place_on C) (points_before C.threads (t + 1))
all_added C t n i xs below rows end e =
    let next = next_thread C.threads t below in
    let one : t + 1 ≡ suc t = omega arith in
    let rows_all : length (rows_of C t) ≡ length (unwrap_or (slice_get C.threads t) no_thread).steps = refl in
    let place : points_before C.threads t + i ≡ points_before C.threads (suc t) = omega arith in
    e ∙ ap (by_point (place_on C)) (place ∙ ap (points_before C.threads) (sym one))

pub few_threads : (threads : List ThreadRows) → length threads ≤ points_before threads (length threads)
few_threads [] = omega arith
few_threads (thread ∷ threads) = let rest = few_threads threads in omega arith

pub leg_below : (C : Course) (g : ℕ) → IsSome (leg_row C g) → suc g < points_in C
leg_below C g e = row_before C g (there_row C (row_on C g) e)

pub below_in : (C V : Course) (g : ℕ) → C ≡ V → IsSome (leg_row V g) → g < points_in C
below_in C V g view e = let less = leg_below V g e in let same : points_in C ≡ points_in V = ap (λ (D : Course). points_in D) view in omega arith

-- the row that comes next in the thread
pub next_row : (C : Course) (g : ℕ) → IsRow C (row_on C g) → row_on C (suc g) ≡ row_of (row_on C g).thread (suc (row_on C g).step)
next_row C g is =
    let found = some_is (leg_row C g) (row_there C (row_on C g) is) in
    ap row_from (leg_leads C g found.0 found.1)

pub some_below : (xs : List StepRow) (k : ℕ) → IsSome (slice_get xs k) → k < length xs
some_below xs k e = let found = some_is (slice_get xs k) e in slice_get_within xs k found.0 found.1

pub points_most : (threads : List ThreadRows) (t : ℕ) → t ≤ length threads → points_before threads t ≤ points_before threads (length threads)
points_most [] zero few = omega arith
points_most [] (suc t) few = absurd (omega arith)
points_most (thread ∷ threads) zero few = omega arith
points_most (thread ∷ threads) (suc t) few = let rest = points_most threads t (omega arith) in omega arith

-- the first points, one thread after the other
abbrev pub AreStarts : List ThreadRows → ℕ → List ℕ → ℕ → Type 0
AreStarts threads t starts point = record {
  starts : starts ≡ by_point (points_before threads) t;
  point : point ≡ points_before threads t;
}

pub start_next : (C : Course) (t n point : ℕ) → t < length C.threads → n ≡ length (rows_of C t) → point ≡ points_before C.threads t → point + (n + 1) ≡ points_before C.threads (t + 1)
start_next C t n point below rows e =
    let next = next_thread C.threads t below in
    let one : t + 1 ≡ suc t = omega arith in
    let same : points_before C.threads (t + 1) ≡ points_before C.threads (suc t) = ap (points_before C.threads) one in
    omega arith

pub start_fits : (C : Course) (t n point : ℕ) → t < length C.threads → n ≡ length (rows_of C t) → point ≡ points_before C.threads t → points_in C ≤ 66560 → point + (n + 1) ≤ 66560
start_fits C t n point below rows e few =
    let next = start_next C t n point below rows e in
    let most = points_most C.threads (t + 1) (omega arith) in
    omega arith

pub starts_more : (C : Course) (t : ℕ) (xs ys : List ℕ) (point : ℕ) → xs ≡ by_point (points_before C.threads) t → point ≡ points_before C.threads t → ys ≡ xs ++ point ∷ [] → ys ≡ by_point (points_before C.threads) (t + 1)
starts_more C t xs ys point are e pushed =
    let one : suc t ≡ t + 1 = omega arith in
    pushed ∙ ap (λ (zs : List ℕ). zs ++ point ∷ []) are ∙ ap (λ (k : ℕ). by_point (points_before C.threads) t ++ k ∷ []) e ∙ ap (by_point (points_before C.threads)) one

pub start_at : (C V : Course) (t : ℕ) (xs : List ℕ) (d : ℕ) → C ≡ V → xs ≡ by_point (points_before C.threads) (length C.threads) → t < length V.threads → get_or xs t d ≡ points_before V.threads t
start_at C V t xs d view are less =
    let whole : length C.threads ≡ length V.threads = ap (λ (D : Course). length D.threads) view in
    let below : t < length C.threads = omega arith in
    let count = by_point_length (points_before C.threads) (length C.threads) in
    let long : length xs ≡ length (by_point (points_before C.threads) (length C.threads)) = ap (λ (ys : List ℕ). length ys) are in
    some_number (sym (slice_get-get_or xs t d (omega arith)) ∙ ap (λ (ys : List ℕ). slice_get ys t) are ∙ by_point_get (points_before C.threads) (length C.threads) t below) ∙ ap (λ (D : Course). points_before D.threads t) view
  where
    some_number : {x y : ℕ} → Some x ≡ Some y → x ≡ y
    some_number e = cc

-- one more point's times
pub edges_more : (C : Course) (places : List PointOfThread) (i : ℕ) (d : PointOfThread) (xs ys : List Edges) (x : Edges) → places ≡ by_point (place_on C) (points_in C) → i < length places → xs ≡ by_point (edges_at C) i → x ≡ edges_in C (get_or places i d) → ys ≡ xs ++ x ∷ [] → ys ≡ by_point (edges_at C) (i + 1)
edges_more C places i d xs ys x are less before its e =
    let long : length places ≡ points_in C = ap (λ (ps : List PointOfThread). length ps) are ∙ by_point_length (place_on C) (points_in C) in
    let here : get_or places i d ≡ place_on C i = some_place (sym (slice_get-get_or places i d less) ∙ ap (λ (ps : List PointOfThread). slice_get ps i) are ∙ by_point_get (place_on C) (points_in C) i (omega arith)) in
    let next : suc i ≡ i + 1 = omega arith in
    e ∙ ap (λ (zs : List Edges). zs ++ x ∷ []) before ∙ ap (λ (z : Edges). by_point (edges_at C) i ++ z ∷ []) (its ∙ ap (edges_in C) here) ∙ ap (by_point (edges_at C)) next
  where
    some_place : {x y : PointOfThread} → Some x ≡ Some y → x ≡ y
    some_place k = cc

pub edges_all : (C : Course) (places : List PointOfThread) (i : ℕ) (xs : List Edges) → places ≡ by_point (place_on C) (points_in C) → length places ≤ i → i ≤ length places → xs ≡ by_point (edges_at C) i → xs ≡ by_point (edges_at C) (points_in C)
edges_all C places i xs are past within e =
    let long : length places ≡ points_in C = ap (λ (ps : List PointOfThread). length ps) are ∙ by_point_length (place_on C) (points_in C) in
    let same : i ≡ points_in C = omega arith in
    e ∙ ap (by_point (edges_at C)) same
