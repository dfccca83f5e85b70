-- A route over the packets of a stretch, oldest first.
use Rattle.std.proofs.Common.{◌≡◌, inl, inr, ℕ, ◌+◌, List, [], ◌∷◌, ◌++◌, length, reverse, Bool, true, false, cond, refl, sym, ◌∙◌, ap, subst, arith, append_assoc, length-append}
use Rattle.std.proofs.lemmas.List.{append-nil, reverse-append, reverse-reverse}
use Rattle.std.proofs.lemmas.Grind.{flat_map-append}
use Rattle.rept_isa.specs.declared.row.StepRow.{StepRow}
use Rattle.rept_trace.specs.declared.packet.Packet.{Packet}
use Rattle.rept_trace.specs.declared.packet.Packet.TheVariants.{Start, Context, Support, Address, Map, MapAddress}
use Rattle.rept_path.specs.Code.{Code}
use Rattle.rept_path.specs.Packets.{begins, waiting, waits_after, reported_after}
use Rattle.rept_path.specs.Moves.{Place, place_along}
use Rattle.rept_path.specs.Route.{Met, WaitingLeg, FirstLeg, Origin, Route, met_by, place}
use Rattle.rept_path.proofs.PathFacts.{rows_after}
use Rattle.rept_path.proofs.Waiting.{LegIn}
use Rattle.rept_streams.specs.Slices.Stamps.{is_start, address_of}
use Rattle.rept_streams.specs.Slices.Stretches.{same_stretch, marks}
use Rattle.rept_streams.proofs.SlicesLemmas.Packs.{rows_by, counts_from, Cut, kind}
use Rattle.rept_streams.proofs.ThreadsLemmas.Leading.{Leads, leg_leads, start_at}

-- No packet begins a stretch.
abbrev pub NoneBegins : Bool → List Packet → Type 0
NoneBegins waits [] = Unit {0}
NoneBegins waits (p ∷ ps) = (begins p waits ≡ false) × NoneBegins (waits_after p waits) ps

pub none_begins : (waits : Bool) (later : List Packet) → NoneBegins waits (same_stretch waits later)
none_begins waits [] = tt
none_begins waits (p ∷ later) = go (begins p waits) refl (none_begins (waits_after p waits) later) where
  rest : List Packet
  rest = same_stretch (waits_after p waits) later

  go : (b : Bool) → begins p waits ≡ b → NoneBegins (waits_after p waits) rest → NoneBegins waits (cond b [] (p ∷ rest))
  go true is more = tt
  go false is more = (is, more)

module _ (code : Code) (origin : Origin) where
  waits_empty : (p : Packet) (met : Met) (leg : List StepRow) → begins p true ≡ false → WaitingLeg code p met leg → leg ≡ []
  waits_empty (Start branch privilege a time context) met leg h x = absurd (cc)
  waits_empty (Address report) met leg h x = elim x [ ]
  waits_empty (MapAddress count map report) met leg h x = elim x [ ]
  waits_empty (Map map) met leg h x = elim x [ ]
  waits_empty (Context privilege time context) met leg h x = x
  waits_empty (Support enabled status) met leg h x = x

  leg_empty : (p : Packet) (waits : Bool) (met : Met) (leg : List StepRow) → begins p waits ≡ false → LegIn code p waits met leg → waits ≡ true → leg ≡ []
  leg_empty p true met leg h x w = waits_empty p met leg h x
  leg_empty p false met leg h x w = absurd (cc)

-- Legs, oldest first, that lead from the one address to the other, each start packet to its own.
abbrev pub Steered : ℕ → List Packet → List (List StepRow) → ℕ → Type 0
Steered a [] ls b = (ls ≡ []) × (a ≡ b)
Steered a (p ∷ ps) [] b = ⊥
Steered a (p ∷ ps) (l ∷ ls) b = (c : ℕ) × Leads l a c × (is_start p ≡ true → c ≡ address_of p) × Steered c ps ls b

start_begins : (p : Packet) → is_start p ≡ true → begins p true ≡ true
start_begins p s = elim (kind p) [
  | inl o ↦ o.begins true
  | inr k ↦ absurd (elim k [ inl e ↦ wrong e.start | inr i ↦ wrong i.start ])
] where
  wrong : is_start p ≡ false → ⊥
  wrong h = cc

-- a start packet in the midst of a stretch leads to its address
started_at : (code : Code) (p : Packet) (waits : Bool) (met : Met) (leg : List StepRow) → begins p waits ≡ false → LegIn code p waits met leg → is_start p ≡ true → (place_along code met.place leg).at ≡ address_of p
started_at code p true met leg b x s = absurd (let t = start_begins p s in cc)
started_at code p false met leg b x s = start_at code p met leg s x

-- the legs of the later packets, oldest first, and those of the earlier ones
pub record Parted (code : Code) (origin : Origin) (ps done : List Packet) (legs : List (List StepRow)) : Type 0 where
  pub later : List (List StepRow)
  pub before : List (List StepRow)
  pub same : legs ≡ reverse later ++ before
  pub route : Route code origin done before
  pub cut : Cut (waiting done) ps later
  pub steered : Steered (place code done before).at ps later (place code (reverse ps ++ done) legs).at

module _ (code : Code) (origin : Origin) where
  part : (ps : List Packet) (d : Packet) (ds : List Packet) (legs : List (List StepRow)) → Route code origin (reverse ps ++ d ∷ ds) legs → NoneBegins (waiting (d ∷ ds)) ps → Parted code origin ps (d ∷ ds) legs
  unfolding waiting place
  part [] d ds legs r n = record { later = []; before = legs; same = refl; route = r; cut = refl; steered = (refl, refl) }
  part (p ∷ ps) d ds legs r n =
      let e : reverse (p ∷ ps) ++ d ∷ ds ≡ reverse ps ++ p ∷ (d ∷ ds) = ap (λ (xs : List Packet). xs ++ d ∷ ds) (reverse-append (p ∷ []) ps) ∙ append_assoc (reverse ps) (p ∷ []) (d ∷ ds) in
      let q = part ps p (d ∷ ds) legs (subst (λ (xs : List Packet). Route code origin xs legs) e r) n.1 in
      go q.later q.before q.same q.route q.cut (subst (λ (xs : List Packet). Steered (place code (p ∷ (d ∷ ds)) q.before).at ps q.later (place code xs legs).at) (sym e) q.steered)
    where
      go : (later before : List (List StepRow)) → legs ≡ reverse later ++ before → Route code origin (p ∷ (d ∷ ds)) before → Cut (waiting (p ∷ (d ∷ ds))) ps later → Steered (place code (p ∷ (d ∷ ds)) before).at ps later (place code (reverse (p ∷ ps) ++ d ∷ ds) legs).at → Parted code origin (p ∷ ps) (d ∷ ds) legs
      go later [] s x c t = elim x [ ]
      go later (l ∷ ls) s x c t = record {
        later = l ∷ later;
        before = ls;
        same = s ∙ sym (ap (λ (xs : List (List StepRow)). xs ++ ls) (reverse-append (l ∷ []) later) ∙ append_assoc (reverse later) (l ∷ []) ls);
        route = x.1;
        cut = ((λ w. leg_empty code origin p (waiting (d ∷ ds)) (met_by code origin (d ∷ ds) ls) l n.0 x.0 w), c);
        steered =
            let met = met_by code origin (d ∷ ds) ls in
            let there : place code (p ∷ (d ∷ ds)) (l ∷ ls) ≡ place_along code (place code (d ∷ ds) ls) l = ap (λ (b : Bool). cond b (record { at = reported_after p 0; rows = l ++ (place code (d ∷ ds) ls).rows; branches = 0 }) (place_along code (place code (d ∷ ds) ls) l)) n.0 in
            let leads : Leads l (place code (d ∷ ds) ls).at (place code (p ∷ (d ∷ ds)) (l ∷ ls)).at = subst (λ (q : Place). Leads l (place code (d ∷ ds) ls).at q.at) (sym there) (leg_leads code p (waiting (d ∷ ds)) met l n.0 x.0) in
            ((place code (p ∷ (d ∷ ds)) (l ∷ ls)).at, leads, (λ s. ap (λ (q : Place). q.at) there ∙ started_at code p (waiting (d ∷ ds)) met l n.0 x.0 s), t);
      }

  -- the rows of a route, oldest first
  rows_place : (ps : List Packet) (ls : List (List StepRow)) → Route code origin ps ls → reverse (place code ps ls).rows ≡ rows_by (reverse ls)
  unfolding place
  rows_place [] [] x = refl
  rows_place [] (l ∷ ls) x = elim x [ ]
  rows_place (p ∷ ps) [] x = elim x [ ]
  rows_place (p ∷ ps) (l ∷ ls) x =
      let here : (place code (p ∷ ps) (l ∷ ls)).rows ≡ l ++ (place code ps ls).rows = rows_after code p (waiting ps) (place code ps ls) l in
      let one : rows_by (reverse (l ∷ ls)) ≡ rows_by (reverse ls) ++ (reverse l ++ []) = ap rows_by (reverse-append (l ∷ []) ls) ∙ flat_map-append reverse (reverse ls) (l ∷ []) in
      ap reverse here ∙ reverse-append l (place code ps ls).rows ∙ ap (λ (xs : List StepRow). xs ++ reverse l) (rows_place ps ls x.1) ∙ ap (λ (xs : List StepRow). rows_by (reverse ls) ++ xs) (sym (append-nil (reverse l))) ∙ sym one

  marks_from : (waits : Bool) (ps : List Packet) (ls : List (List StepRow)) (done : List Packet) (before : List (List StepRow)) → Cut waits ps ls
      → marks code (reverse ps ++ done) (reverse ls ++ before) ≡ marks code done before ++ counts_from (length (place code done before).rows) ps ls
  unfolding place
  marks_from waits [] [] done before c = sym (append-nil (marks code done before))
  marks_from waits [] (l ∷ ls) done before c = absurd (cc)
  marks_from waits (p ∷ ps) [] done before c = absurd c
  marks_from waits (p ∷ ps) (l ∷ ls) done before c =
      let n = length (place code done before).rows in
      let e : reverse (p ∷ ps) ++ done ≡ reverse ps ++ p ∷ done = ap (λ (xs : List Packet). xs ++ done) (reverse-append (p ∷ []) ps) ∙ append_assoc (reverse ps) (p ∷ []) done in
      let f : reverse (l ∷ ls) ++ before ≡ reverse ls ++ l ∷ before = ap (λ (xs : List (List StepRow)). xs ++ before) (reverse-append (l ∷ []) ls) ∙ append_assoc (reverse ls) (l ∷ []) before in
      let here : (place code (p ∷ done) (l ∷ before)).rows ≡ l ++ (place code done before).rows = rows_after code p (waiting done) (place code done before) l in
      let long = ap (length {A = StepRow}) here in
      let m : length (place code (p ∷ done) (l ∷ before)).rows ≡ length (place code done before).rows + length l = omega (arith, long, length-append l (place code done before).rows) in
      let h = marks_from (waits_after p waits) ps ls (p ∷ done) (l ∷ before) c.1 in
      ap (λ (xs : List Packet). marks code xs (reverse (l ∷ ls) ++ before)) e ∙ ap (λ (xs : List (List StepRow)). marks code (reverse ps ++ p ∷ done) xs) f ∙ h
      ∙ append_assoc (marks code done before) (cond (is_start p) (length (place code (p ∷ done) (l ∷ before)).rows ∷ []) []) (counts_from (length (place code (p ∷ done) (l ∷ before)).rows) ps ls)
      ∙ ap (λ (k : ℕ). marks code done before ++ (cond (is_start p) (k ∷ []) [] ++ counts_from k ps ls)) m

-- The legs of a stretch, oldest first.
pub record Rowed (code : Code) (first : Packet) (ps : List Packet) (legs : List (List StepRow)) : Type 0 where
  pub later : List (List StepRow)
  pub all : reverse legs ≡ [] ∷ later
  pub cut : Cut false (first ∷ ps) ([] ∷ later)
  pub marked : marks code (reverse (first ∷ ps)) legs ≡ counts_from 0 (first ∷ ps) ([] ∷ later)
  pub rows : reverse (place code (reverse (first ∷ ps)) legs).rows ≡ rows_by ([] ∷ later)
  pub steered : Steered (address_of first) ps later (place code (reverse (first ∷ ps)) legs).at

first_empty : (code : Code) (p : Packet) (leg : List StepRow) → FirstLeg code p leg → leg ≡ []
first_empty code (Start branch privilege a time context) leg x = x.1
first_empty code (Address report) leg x = elim x [ ]
first_empty code (MapAddress count map report) leg x = elim x [ ]
first_empty code (Map map) leg x = elim x [ ]
first_empty code (Context privilege time context) leg x = elim x [ ]
first_empty code (Support enabled status) leg x = elim x [ ]

-- where a first start packet stands
reported_is : (p : Packet) → is_start p ≡ true → reported_after p 0 ≡ address_of p
reported_is (Start branch privilege a time context) s = refl
reported_is (Context privilege time context) s = absurd (cc)
reported_is (Support enabled status) s = absurd (cc)
reported_is (Address report) s = absurd (cc)
reported_is (Map map) s = absurd (cc)
reported_is (MapAddress count map report) s = absurd (cc)

pub rowed : (code : Code) (origin : Origin) (first : Packet) (ps : List Packet) (legs : List (List StepRow)) → is_start first ≡ true → ((b : Bool) → waits_after first b ≡ false) → NoneBegins false ps → Route code origin (reverse (first ∷ ps)) legs → Rowed code first ps legs
unfolding waiting place
rowed code origin first ps legs starts runs n r =
    let e : reverse (first ∷ ps) ≡ reverse ps ++ first ∷ [] = reverse-append (first ∷ []) ps in
    let w : waiting (first ∷ []) ≡ false = runs true in
    let q = part code origin ps first [] legs (subst (λ (xs : List Packet). Route code origin xs legs) e r) (subst (λ (b : Bool). NoneBegins b ps) (sym w) n) in
    go q.later q.before q.same q.route (subst (λ (b : Bool). Cut b ps q.later) w q.cut) (subst (λ (xs : List Packet). Steered (place code (first ∷ []) q.before).at ps q.later (place code xs legs).at) (sym e) q.steered)
  where
    first_at : (leg : List StepRow) → (place code (first ∷ []) (leg ∷ [])).at ≡ address_of first
    first_at leg = ap (λ (b : Bool). (cond b (record { at = reported_after first 0; rows = leg ++ []; branches = 0 }) (place_along code (record { at = 0; rows = []; branches = 0 }) leg)).at) (start_begins first starts) ∙ reported_is first starts

    whole : (later : List (List StepRow)) (l : List StepRow) → l ≡ [] → legs ≡ reverse later ++ l ∷ [] → Cut false ps later → Steered (place code (first ∷ []) (l ∷ [])).at ps later (place code (reverse (first ∷ ps)) legs).at → Rowed code first ps legs
    whole later l empty s c t =
        let legs_are : legs ≡ reverse later ++ [] ∷ [] = s ∙ ap (λ (x : List StepRow). reverse later ++ x ∷ []) empty in
        let legs_back : legs ≡ reverse ([] ∷ later) = legs_are ∙ sym (reverse-append ([] ∷ []) later) in
        let all : reverse legs ≡ [] ∷ later = ap reverse legs_back ∙ reverse-reverse ([] ∷ later) in
        let cut : Cut false (first ∷ ps) ([] ∷ later) = ((λ x. refl), subst (λ (b : Bool). Cut b ps later) (sym (runs false)) c) in
        record {
          later = later;
          all = all;
          cut = cut;
          marked =
              let m = marks_from code origin false (first ∷ ps) ([] ∷ later) [] [] cut in
              ap (marks code (reverse (first ∷ ps))) legs_back ∙ ap (λ (xs : List Packet). marks code xs (reverse ([] ∷ later))) (sym (append-nil (reverse (first ∷ ps)))) ∙ ap (marks code (reverse (first ∷ ps) ++ [])) (sym (append-nil (reverse ([] ∷ later)))) ∙ m ∙ start;
          rows = rows_place code origin (reverse (first ∷ ps)) legs r ∙ ap rows_by all;
          steered = subst (λ (a : ℕ). Steered a ps later (place code (reverse (first ∷ ps)) legs).at) (first_at l) t;
        }
      where
        start : marks code [] [] ++ counts_from (length (place code [] []).rows) (first ∷ ps) ([] ∷ later) ≡ counts_from 0 (first ∷ ps) ([] ∷ later)
        start = refl

    go : (later before : List (List StepRow)) → legs ≡ reverse later ++ before → Route code origin (first ∷ []) before → Cut false ps later → Steered (place code (first ∷ []) before).at ps later (place code (reverse (first ∷ ps)) legs).at → Rowed code first ps legs
    go later [] s x c t = elim x [ ]
    go later (l ∷ []) s x c t = whole later l (first_empty code first l x.0) s c t
    go later (l ∷ (k ∷ ls)) s x c t = elim x.1 [ ]
