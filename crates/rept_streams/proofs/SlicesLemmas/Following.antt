-- The slices that streams tell, each with those after it in its stream.
use Rattle.std.proofs.Common.{◌≡◌, ◌⊎◌, inl, inr, ℕ, suc, ◌+◌, ◌≤◌, List, [], ◌∷◌, ◌++◌, length, map, drop, Bool, true, false, cond, Option, None, refl, sym, ◌∙◌, ap, subst, arith, length-drop}
use Rattle.std.specs.Prelude.{unwrap_or, not, nat_le, ◌&&◌}
use Rattle.std.specs.List.{prefix_len, sum_by}
use Rattle.std.proofs.lemmas.List.Sums.{sum_by-cons}
use Rattle.rept_trace.specs.declared.packet.Packet.{Packet}
use Rattle.rept_streams.specs.Slices.Stamps.{clock_of, is_start, running_after}
use Rattle.rept_streams.specs.Slices.Parts.{LeftPackets, ToldSlice, told_from, told_in, slices_told}
use Rattle.rept_streams.specs.Slices.Skipping.{numbered, whole, skip, windows, window_of, full_from, kept}
use Rattle.rept_streams.proofs.SlicesLemmas.InTime.{Each}
use Rattle.rept_streams.proofs.SlicesLemmas.Calm.{each_append}
use Rattle.rept_streams.proofs.SlicesLemmas.Apart.{Alone, Apart}
use Rattle.rept_streams.proofs.SlicesLemmas.Packs.{kind}

-- A slice is of no number before this one.
abbrev pub From : ℕ → ToldSlice → Type 0
From k t = k ≤ t.number

pub each_from_less : (k m : ℕ) → k ≤ m → (ts : List ToldSlice) → Each (From m) ts → Each (From k) ts
each_from_less k m le [] h = tt
each_from_less k m le (t ∷ ts) h = (let n = h.0 in omega (arith, n, le), each_from_less k m le ts h.1)

pub told_from_on : (s k : ℕ) (inside : Option ℕ) (packets : List Packet) → Each (From k) (told_from s k inside packets)
told_from_on s k inside [] = tt
told_from_on s k inside (p ∷ later) = go (is_start p) (each_from_less k (suc k) (omega arith) rest (told_from_on s (suc k) (running_after p inside) later)) where
  here : ToldSlice
  here = record { stream = s; number = k; start = p; later = later; inside = inside }

  rest : List ToldSlice
  rest = told_from s (suc k) (running_after p inside) later

  go : (b : Bool) → Each (From k) rest → Each (From k) (cond b (here ∷ rest) rest)
  go true more = (omega arith, more)
  go false more = more

-- A slice is of no stream before this one.
abbrev pub FromStream : ℕ → ToldSlice → Type 0
FromStream s t = s ≤ t.stream

streams_less : (s r : ℕ) → s ≤ r → (ts : List ToldSlice) → Each (FromStream r) ts → Each (FromStream s) ts
streams_less s r le [] h = tt
streams_less s r le (t ∷ ts) h = (let n = h.0 in omega (arith, n, le), streams_less s r le ts h.1)

told_stream : (s k : ℕ) (inside : Option ℕ) (packets : List Packet) → Each (FromStream s) (told_from s k inside packets)
told_stream s k inside [] = tt
told_stream s k inside (p ∷ later) = go (is_start p) (told_stream s (suc k) (running_after p inside) later) where
  here : ToldSlice
  here = record { stream = s; number = k; start = p; later = later; inside = inside }

  rest : List ToldSlice
  rest = told_from s (suc k) (running_after p inside) later

  go : (b : Bool) → Each (FromStream s) rest → Each (FromStream s) (cond b (here ∷ rest) rest)
  go true more = (omega arith, more)
  go false more = more

-- The first of them begins a stretch.
abbrev pub HeadFirst : List ToldSlice → Type 0
HeadFirst [] = Unit {0}
HeadFirst (t ∷ ts) = t.inside ≡ None

pub head_first_told : (s k : ℕ) (packets : List Packet) (others : List ToldSlice) → HeadFirst others → HeadFirst (told_from s k None packets ++ others)
head_first_told s k [] others h = h
head_first_told s k (p ∷ later) others h = elim (kind p) [
  | inl o ↦ started o.start
  | inr j ↦ elim j [
    | inl i ↦ passed i.start (i.runs None) (head_first_told s (suc k) later others h)
    | inr i ↦ passed i.start (i.runs None) (head_first_told s (suc k) later others h)
  ]
] where
  here : ToldSlice
  here = record { stream = s; number = k; start = p; later = later; inside = None }

  rest : List ToldSlice
  rest = told_from s (suc k) (running_after p None) later

  started : is_start p ≡ true → HeadFirst (cond (is_start p) (here ∷ rest) rest ++ others)
  started e = subst (λ (b : Bool). HeadFirst (cond b (here ∷ rest) rest ++ others)) (sym e) refl

  passed : is_start p ≡ false → running_after p None ≡ None → HeadFirst (told_from s (suc k) None later ++ others) → HeadFirst (cond (is_start p) (here ∷ rest) rest ++ others)
  passed e runs more = subst (λ (b : Bool). HeadFirst (cond b (here ∷ rest) rest ++ others)) (sym e) (subst (λ (o : Option ℕ). HeadFirst (told_from s (suc k) o later ++ others)) (sym runs) more)

-- A slice and those after it are what its stream tells from its start packet on, and slices of
-- later packets than those of the stream.
pub record Follows (t : ToldSlice) (later : List ToldSlice) : Type 0 where
  pub others : List ToldSlice
  pub same : t ∷ later ≡ told_from t.stream t.number t.inside (t.start ∷ t.later) ++ others
  pub after : Each (From (t.number + 1 + length t.later)) others
  pub streams : Each (FromStream (suc t.stream)) others
  pub heads : HeadFirst others

abbrev pub Following : List ToldSlice → Type 0
Following [] = Unit {0}
Following (t ∷ ts) = Follows t ts × Following ts

follow_told : (s k : ℕ) (inside : Option ℕ) (packets : List Packet) (others : List ToldSlice) → Each (From (k + length packets)) others → Each (FromStream (suc s)) others → HeadFirst others → Following others → Following (told_from s k inside packets ++ others)
follow_told s k inside [] others a b h f = f
follow_told s k inside (p ∷ later) others a b h f = go (is_start p) refl (follow_told s (suc k) (running_after p inside) later others (each_from_less (suc k + length later) (k + suc (length later)) (omega arith) others a) b h f) where
  here : ToldSlice
  here = record { stream = s; number = k; start = p; later = later; inside = inside }

  rest : List ToldSlice
  rest = told_from s (suc k) (running_after p inside) later

  go : (b : Bool) → is_start p ≡ b → Following (rest ++ others) → Following (cond b (here ∷ rest) rest ++ others)
  go true is more = (
    record {
      others = others;
      same = sym (ap (λ (b : Bool). cond b (here ∷ rest) rest ++ others) is);
      after = each_from_less (k + 1 + length later) (k + suc (length later)) (omega arith) others a;
      streams = b;
      heads = h;
    },
    more,
  )
  go false is more = more

-- the packets of a stream have numbers from the one to the other, if it has any
abbrev pub Fits : ℕ → ℕ → LeftPackets → Type 0
Fits k m l = (k ≤ m) × ((l.packets ≡ []) ⊎ ((k ≤ l.number) × (l.number + length l.packets ≤ m)))

-- Streams that stand one after the other, from that of this number on, with packets of numbers from
-- the one to the other.
abbrev pub Spaced : ℕ → ℕ → ℕ → List LeftPackets → Type 0
Spaced s k n [] = k ≤ n
Spaced s k n (l ∷ ls) = (m : ℕ) × (l.stream ≡ s) × Fits k m l × Spaced (suc s) m n ls

spaced_within : (s k n : ℕ) (ls : List LeftPackets) → Spaced s k n ls → k ≤ n
spaced_within s k n [] h = h
spaced_within s k n (l ∷ ls) h = let a = spaced_within (suc s) h.0 n ls h.3 in let b = h.2.0 in omega (arith, a, b)

spaced_told : (s k n : ℕ) (ls : List LeftPackets) → Spaced s k n ls → Each (From k) (slices_told ls) × Each (FromStream s) (slices_told ls) × HeadFirst (slices_told ls) × Following (slices_told ls)
spaced_told s k n [] h = (tt, tt, tt, tt)
spaced_told s k n (l ∷ ls) h =
    let rest = spaced_told (suc s) h.0 n ls h.3 in
    let le = h.2.0 in
    go l.packets refl h.2.1 rest le
  where
    go : (ps : List Packet) → l.packets ≡ ps → (l.packets ≡ []) ⊎ ((k ≤ l.number) × (l.number + length l.packets ≤ h.0)) → Each (From h.0) (slices_told ls) × Each (FromStream (suc s)) (slices_told ls) × HeadFirst (slices_told ls) × Following (slices_told ls) → k ≤ h.0
        → Each (From k) (told_from l.stream l.number None l.packets ++ slices_told ls) × Each (FromStream s) (told_from l.stream l.number None l.packets ++ slices_told ls) × HeadFirst (told_from l.stream l.number None l.packets ++ slices_told ls) × Following (told_from l.stream l.number None l.packets ++ slices_told ls)
    go ps e (inl none) rest le =
        subst (λ (qs : List Packet). Each (From k) (told_from l.stream l.number None qs ++ slices_told ls) × Each (FromStream s) (told_from l.stream l.number None qs ++ slices_told ls) × HeadFirst (told_from l.stream l.number None qs ++ slices_told ls) × Following (told_from l.stream l.number None qs ++ slices_told ls)) (sym none)
        (each_from_less k h.0 le (slices_told ls) rest.0, streams_less s (suc s) (omega arith) (slices_told ls) rest.1, rest.2, rest.3)
    go ps e (inr (low, high)) rest le =
        let stream = h.1 in
        let own : l.stream ≡ s = h.1 in (
          each_append (From k) (told_from l.stream l.number None l.packets) (slices_told ls) (each_from_less k l.number low (told_from l.stream l.number None l.packets) (told_from_on l.stream l.number None l.packets)) (each_from_less k h.0 le (slices_told ls) rest.0),
          each_append (FromStream s) (told_from l.stream l.number None l.packets) (slices_told ls) (streams_less s l.stream (omega (arith, own)) (told_from l.stream l.number None l.packets) (told_stream l.stream l.number None l.packets)) (streams_less s (suc s) (omega arith) (slices_told ls) rest.1),
          head_first_told l.stream l.number l.packets (slices_told ls) rest.2,
          follow_told l.stream l.number None l.packets (slices_told ls) (each_from_less (l.number + length l.packets) h.0 high (slices_told ls) rest.0) (streams_less (suc l.stream) (suc s) (omega (arith, own)) (slices_told ls) rest.1) rest.2 rest.3,
        )

fits_skip : (k m n : ℕ) (l : LeftPackets) → Fits k m l → Fits k m (skip n l)
fits_skip k m n l h = (h.0, go (drop n l.packets) refl h.1) where
  go : (ps : List Packet) → drop n l.packets ≡ ps → (l.packets ≡ []) ⊎ ((k ≤ l.number) × (l.number + length l.packets ≤ m)) → (drop n l.packets ≡ []) ⊎ ((k ≤ l.number + n) × (l.number + n + length (drop n l.packets) ≤ m))
  go [] e h = inl e
  go (p ∷ ps) e h =
      let d = length-drop n l.packets in
      let f = ap (length {A = Packet}) e in
      elim h [
        | inl none ↦ absurd (let g = ap (length {A = Packet}) none in omega (arith, d, f, g))
        | inr t ↦ let low = t.0 in let high = t.1 in inr (omega (arith, low), omega (arith, d, f, high))
      ]

spaced_skip : (f : LeftPackets → ℕ) (s k n : ℕ) (ls : List LeftPackets) → Spaced s k n ls → Spaced s k n (map (λ l. skip (f l) l) ls)
spaced_skip f s k n [] h = h
spaced_skip f s k n (l ∷ ls) h = (h.0, h.1, fits_skip k h.0 (f l) l h.2, spaced_skip f (suc s) h.0 n ls h.3)

spaced_numbered : (s k : ℕ) (streams : List (List Packet)) → Spaced s k (k + sum_by (λ packets. length packets) streams) (numbered s k streams)
spaced_numbered s k [] = omega arith
spaced_numbered s k (packets ∷ streams) =
    let sizes = sum_by-cons (λ (ps : List Packet). length ps) packets streams in
    let rest = spaced_numbered (suc s) (k + length packets) streams in
    let e : k + length packets + sum_by (λ packets. length packets) streams ≡ k + sum_by (λ packets. length packets) (packets ∷ streams) = omega (arith, sizes) in
    (k + length packets, refl, (omega arith, inr (omega arith, omega arith)), subst (λ (n : ℕ). Spaced (suc s) (k + length packets) n (numbered (suc s) (k + length packets) streams)) e rest)

spaced_windows : (from : ℕ) (streams : List (List Packet)) → Spaced 0 0 (0 + sum_by (λ packets. length packets) streams) (windows from streams)
spaced_windows from streams = spaced_skip (λ l. unwrap_or (window_of from l.packets) 0) 0 0 (0 + sum_by (λ packets. length packets) streams) (whole streams) (spaced_numbered 0 0 streams)

spaced_kept : (from : ℕ) (streams : List (List Packet)) → Spaced 0 0 (0 + sum_by (λ packets. length packets) streams) (kept from streams)
spaced_kept from streams =
    spaced_skip (λ l. prefix_len (λ p. not (is_start p && nat_le (full_from (windows from streams)) (clock_of p))) l.packets) 0 0 (0 + sum_by (λ packets. length packets) streams) (windows from streams) (spaced_windows from streams)

pub windows_follow : (from : ℕ) (streams : List (List Packet)) → Following (slices_told (windows from streams))
windows_follow from streams = (spaced_told 0 0 (0 + sum_by (λ packets. length packets) streams) (windows from streams) (spaced_windows from streams)).3

pub kept_follow : (from : ℕ) (streams : List (List Packet)) → Following (slices_told (kept from streams))
kept_follow from streams = (spaced_told 0 0 (0 + sum_by (λ packets. length packets) streams) (kept from streams) (spaced_kept from streams)).3

pub kept_heads : (from : ℕ) (streams : List (List Packet)) → HeadFirst (slices_told (kept from streams))
kept_heads from streams = (spaced_told 0 0 (0 + sum_by (λ packets. length packets) streams) (kept from streams) (spaced_kept from streams)).2

-- A slice's packets are some of all packets.
abbrev pub Few : ℕ → ToldSlice → Type 0
Few n t = t.number + 1 + length t.later ≤ n

told_few : (s k n : ℕ) (inside : Option ℕ) (packets : List Packet) → k + length packets ≤ n → Each (Few n) (told_from s k inside packets)
told_few s k n inside [] le = tt
told_few s k n inside (p ∷ later) le = go (is_start p) (told_few s (suc k) n (running_after p inside) later (omega (arith, le))) where
  here : ToldSlice
  here = record { stream = s; number = k; start = p; later = later; inside = inside }

  rest : List ToldSlice
  rest = told_from s (suc k) (running_after p inside) later

  go : (b : Bool) → Each (Few n) rest → Each (Few n) (cond b (here ∷ rest) rest)
  go true more = (omega (arith, le), more)
  go false more = more

spaced_few : (s k n : ℕ) (ls : List LeftPackets) → Spaced s k n ls → Each (Few n) (slices_told ls)
spaced_few s k n [] h = tt
spaced_few s k n (l ∷ ls) h =
    let within = spaced_within (suc s) h.0 n ls h.3 in
    each_append (Few n) (told_in l) (slices_told ls) (go h.2.1 within) (spaced_few (suc s) h.0 n ls h.3)
  where
    go : (l.packets ≡ []) ⊎ ((k ≤ l.number) × (l.number + length l.packets ≤ h.0)) → h.0 ≤ n → Each (Few n) (told_from l.stream l.number None l.packets)
    go (inl none) within = subst (λ (qs : List Packet). Each (Few n) (told_from l.stream l.number None qs)) (sym none) tt
    go (inr (low, high)) within = told_few l.stream l.number n None l.packets (omega (arith, high, within))

pub kept_few : (from : ℕ) (streams : List (List Packet)) → Each (Few (0 + sum_by (λ packets. length packets) streams)) (slices_told (kept from streams))
kept_few from streams = spaced_few 0 0 (0 + sum_by (λ packets. length packets) streams) (kept from streams) (spaced_kept from streams)

-- slices after a slice have later numbers
abbrev split_cond : (b : Bool) (x : ToldSlice) (xs : List ToldSlice) → List ToldSlice
split_cond b x xs = cond b (x ∷ xs) xs

pub later_numbers : (t : ToldSlice) (later : List ToldSlice) → is_start t.start ≡ true → Follows t later → Each (From (suc t.number)) later
later_numbers t later starts f =
    let rest : List ToldSlice = told_from t.stream (suc t.number) (running_after t.start t.inside) t.later in
    let here : told_from t.stream t.number t.inside (t.start ∷ t.later) ≡ t ∷ rest = ap (λ (b : Bool). cond b (t ∷ rest) rest) starts in
    let whole : t ∷ later ≡ t ∷ (rest ++ f.others) = f.same ∙ ap (λ (xs : List ToldSlice). xs ++ f.others) here in
    let e : later ≡ rest ++ f.others = ap (drop 1) whole in
    subst (Each (From (suc t.number))) (sym e) (each_append (From (suc t.number)) rest f.others (told_from_on t.stream (suc t.number) (running_after t.start t.inside) t.later) (each_from_less (suc t.number) (t.number + 1 + length t.later) (omega arith) f.others f.after))

others_apart : (n : ℕ) (ts : List ToldSlice) → Each (From (suc n)) ts → Alone n ts
others_apart n [] h = tt
others_apart n (t ∷ ts) h = (λ e. let le = h.0 in absurd (omega (arith, le, e)), others_apart n ts h.1)

pub apart : (ts : List ToldSlice) → Each (λ (t : ToldSlice). is_start t.start ≡ true) ts → Following ts → Apart ts
apart [] s f = tt
apart (t ∷ ts) s f = (others_apart t.number ts (later_numbers t ts s.0 f.0), apart ts s.1 f.1)
