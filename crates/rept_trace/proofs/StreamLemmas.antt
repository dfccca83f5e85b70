-- Files of several streams.
use Rattle.std.proofs.Common.{◌≡◌, ℕ, zero, suc, ◌+◌, ◌-◌, ◌<◌, ◌≤◌, List, [], ◌∷◌, ◌++◌, length, take, drop, slice_get, Bool, Some, Result, Ok, Err, refl, sym, ◌∙◌, ap, subst, arith, length-append, length-drop, inl, inr}
use Rattle.std.proofs.Math.Seq.{take-append_seam, drop-append_seam}
use Rattle.std.proofs.lemmas.Bool.{cases_order}
use Rattle.byteorder.specs.Endian.{little_number}
use Rattle.rept_trace.specs.declared.fault.TraceFault.{TraceFault}
use Rattle.rept_trace.specs.declared.fault.TraceFault.TheVariants.{BadMagic, BadHeader, Truncated, Optional, Trap, BadSupport, StreamPastEnd, Rest}
use Rattle.rept_trace.specs.declared.header.Heading.{Heading}
use Rattle.rept_trace.specs.Header.{several_streams, heading_of, HasHeader}
use Rattle.rept_trace.specs.Streams.{StreamFile, IsStreamThen, AreStreamsThen, IsStreamCut, IsCutAfter, GoesOn, AreNoStreams, AreStreams, OpensStreams}
use Rattle.rept_trace.specs.Opened.{streams_in}
use Rattle.rept_trace.proofs.Frames.{same_cut}
use Rattle.rept_trace.proofs.HeaderLemmas.{one_header, no_wrong_byte, one_header_fault, no_magic, length_of_header}

-- the streams by their lengths are these
pub streams_in_is : (b : List ℕ) (xs : List (List ℕ)) (r : List ℕ) → AreStreamsThen b xs r → streams_in (length xs) b ≡ xs
streams_in_is b [] r m = refl
streams_in_is b (x ∷ xs) r m =
    let s = m.1 in
    let first : take (little_number 4 b) (drop 4 b) ≡ x = rw (← s.size, s.parts) (take-append_seam x m.0) in
    let after : drop (little_number 4 b) (drop 4 b) ≡ m.0 = rw (← s.size, s.parts) (drop-append_seam x m.0) in
    rw (first, after, streams_in_is m.0 xs r m.2) refl

-- one stream more
pub append_stream : (b r x a : List ℕ) (xs : List (List ℕ)) → AreStreamsThen b xs r → IsStreamThen r x a → AreStreamsThen b (xs ++ x ∷ []) a
append_stream b r x a [] h s = (a, subst (λ (l : List ℕ). IsStreamThen l x a) h s, refl)
append_stream b r x a (y ∷ xs) h s = (h.0, h.1, append_stream h.0 r x a xs h.2 s)

one_stream : (b x r y s : List ℕ) → IsStreamThen b x r → IsStreamThen b y s → (x ≡ y) × (r ≡ s)
one_stream b x r y s m n = same_cut x y r s (m.size ∙ sym n.size) (sym m.parts ∙ n.parts)

cut_or_stream : (b x r : List ℕ) → IsStreamThen b x r → IsStreamCut b → ⊥
cut_or_stream b x r m c = elim c [
  | inl short ↦ let w = m.whole in omega arith
  | inr short ↦
      let w = m.whole in
      let n = m.size in
      let l : length (drop 4 b) ≡ length x + length r = ap (length {A = ℕ}) m.parts ∙ length-append x r in
      omega (arith, l, n, w, length-drop 4 b)
]

splits : (b r s : List ℕ) (xs ys : List (List ℕ)) → AreStreamsThen b xs r → AreStreamsThen b ys s → length xs ≡ length ys → (xs ≡ ys) × (r ≡ s)
splits b r s [] [] m n e = (refl, m ∙ sym n)
splits b r s [] (y ∷ ys) m n e = absurd (omega arith)
splits b r s (x ∷ xs) [] m n e = absurd (omega arith)
splits b r s (x ∷ xs) (y ∷ ys) m n e =
    let o = one_stream b x m.0 y n.0 m.1 n.1 in
    let i = splits n.0 r s xs ys (subst (λ (l : List ℕ). AreStreamsThen l xs r) o.1 m.2) n.2 (omega arith) in
    let head : x ≡ y = o.0 in
    let tail : xs ≡ ys = i.0 in
    ((cc), i.1)

pub cut_in : (b : List ℕ) (xs : List (List ℕ)) (r : List ℕ) (ys : List (List ℕ)) (c : List ℕ) → AreStreamsThen b xs r → AreStreamsThen b ys c → IsStreamCut c → length ys < length xs → ⊥
cut_in b [] r ys c m n cut lt = omega arith
cut_in b (x ∷ xs) r [] c m n cut lt = cut_or_stream b x m.0 m.1 (subst (λ (l : List ℕ). IsStreamCut l) n cut)
cut_in b (x ∷ xs) r (y ∷ ys) c m n cut lt =
    let o = one_stream b x m.0 y n.0 m.1 n.1 in
    cut_in n.0 xs r ys c (subst (λ (l : List ℕ). AreStreamsThen l xs r) o.1 m.2) n.2 cut (omega arith)

one_cut : (b : List ℕ) (s t : ℕ) → IsCutAfter b s → IsCutAfter b t → s ≡ t
one_cut b s t x y =
    let m = x.counted in
    let n = y.counted in
    elim (cases_order s t) [
      | inl e ↦ e
      | inr (inl l) ↦ absurd (cut_in b y.streams y.rest x.streams x.rest y.before x.before x.cut (omega (arith, m, n)))
      | inr (inr g) ↦ absurd (cut_in b x.streams x.rest y.streams y.rest x.before y.before y.cut (omega (arith, m, n)))
    ]

-- the bytes are one thing
past_or_whole : (b : List ℕ) (x : Heading) (xs : List (List ℕ)) (s : ℕ) (rest after : List ℕ) → HasHeader several_streams b x rest → length xs ≡ x.count → AreStreamsThen rest xs after → AreNoStreams b (StreamPastEnd s) → ⊥
past_or_whole b x xs s rest after h count whole f =
    let o = one_header several_streams b x f.0 rest f.1 h f.2 in
    let cut = f.4 in
    let size = ap (λ (y : Heading). y.count) o.0 in
    let n = cut.counted in
    let lt = f.3 in
    cut_in f.1 xs after cut.streams cut.rest (subst (λ (l : List ℕ). AreStreamsThen l xs after) o.1 whole) cut.before cut.cut (omega (arith, size, count, n, lt))

-- the streams of two files, or what is left of them
one_end : (b : List ℕ) (x y : StreamFile) (p q r s : List ℕ) → HasHeader several_streams b (heading_of (length x.streams) x.halves) p → AreStreamsThen p x.streams r → HasHeader several_streams b (heading_of (length y.streams) y.halves) q → AreStreamsThen q y.streams s → (x ≡ y) × (r ≡ s)
one_end b x y p q r s g m h n =
    let o = one_header several_streams b (heading_of (length x.streams) x.halves) (heading_of (length y.streams) y.halves) p q g h in
    let size : length x.streams ≡ length y.streams = ap (λ (z : Heading). z.count) o.0 in
    let parts = splits q r s x.streams y.streams (subst (λ (l : List ℕ). AreStreamsThen l x.streams r) o.1 m) n size in
    (same_file x y (ap (λ (z : Heading). z.halves) o.0) parts.0, parts.1)
  where
    same_file : (x y : StreamFile) → x.halves ≡ y.halves → x.streams ≡ y.streams → x ≡ y
    same_file x y a c =
        let f : Bool → List (List ℕ) → StreamFile = λ h l. record { halves = h; streams = l } in
        let e : f x.halves x.streams ≡ f y.halves y.streams = cc in
        e

-- the file of what goes on
abbrev file_of : (b : List ℕ) (o : ℕ) → GoesOn b o → StreamFile
file_of b o g = record { halves = g.halves; streams = g.streams }

streams_or_fault : (b : List ℕ) (x : StreamFile) (f : TraceFault) → AreStreams b x → AreNoStreams b f → ⊥
streams_or_fault b x BadMagic a y = no_magic several_streams b (heading_of (length x.streams) x.halves) a.0 a.1 y
streams_or_fault b x (BadHeader i) a y = no_wrong_byte several_streams b (heading_of (length x.streams) x.halves) a.0 i a.1 y.1
streams_or_fault b x (Truncated k) a y = y
streams_or_fault b x (Optional k) a y = y
streams_or_fault b x (Trap k) a y = y
streams_or_fault b x (BadSupport k) a y = y
streams_or_fault b x (StreamPastEnd s) a y = past_or_whole b (heading_of (length x.streams) x.halves) x.streams s a.0 [] a.1 refl a.2 y
streams_or_fault b x (Rest offset) a y =
    let o = one_end b x (file_of b offset y) a.0 y.rest [] y.after a.1 a.2 y.header y.whole in
    let n = ap (length {A = ℕ}) o.1 in
    let some = y.some in
    omega (arith, n, some)

one_reason : (b : List ℕ) (f g : TraceFault) → AreNoStreams b f → AreNoStreams b g → f ≡ g
one_reason b (Truncated k) g x y = elim x [ ]
one_reason b (Optional k) g x y = elim x [ ]
one_reason b (Trap k) g x y = elim x [ ]
one_reason b (BadSupport k) g x y = elim x [ ]
one_reason b f (Truncated k) x y = elim y [ ]
one_reason b f (Optional k) x y = elim y [ ]
one_reason b f (Trap k) x y = elim y [ ]
one_reason b f (BadSupport k) x y = elim y [ ]
one_reason b BadMagic BadMagic x y = refl
one_reason b BadMagic (BadHeader j) x y = one_header_fault several_streams b BadMagic (BadHeader j) x y
one_reason b BadMagic (StreamPastEnd t) x y = absurd (no_magic several_streams b y.0 y.1 y.2 x)
one_reason b BadMagic (Rest o) x y = absurd (no_magic several_streams b (heading_of (length y.streams) y.halves) y.rest y.header x)
one_reason b (BadHeader i) BadMagic x y = one_header_fault several_streams b (BadHeader i) BadMagic x y
one_reason b (BadHeader i) (BadHeader j) x y = one_header_fault several_streams b (BadHeader i) (BadHeader j) x y
one_reason b (BadHeader i) (StreamPastEnd t) x y = absurd (no_wrong_byte several_streams b y.0 y.1 i y.2 x.1)
one_reason b (BadHeader i) (Rest o) x y = absurd (no_wrong_byte several_streams b (heading_of (length y.streams) y.halves) y.rest i y.header x.1)
one_reason b (StreamPastEnd s) BadMagic x y = absurd (no_magic several_streams b x.0 x.1 x.2 y)
one_reason b (StreamPastEnd s) (BadHeader j) x y = absurd (no_wrong_byte several_streams b x.0 x.1 j x.2 y.1)
one_reason b (StreamPastEnd s) (StreamPastEnd t) x y =
    let o = one_header several_streams b x.0 y.0 x.1 y.1 x.2 y.2 in
    ap StreamPastEnd (one_cut y.1 s t (subst (λ (l : List ℕ). IsCutAfter l s) o.1 x.4) y.4)
one_reason b (StreamPastEnd s) (Rest o) x y = absurd (past_or_whole b (heading_of (length y.streams) y.halves) y.streams s y.rest y.after y.header refl y.whole x)
one_reason b (Rest o) BadMagic x y = absurd (no_magic several_streams b (heading_of (length x.streams) x.halves) x.rest x.header y)
one_reason b (Rest o) (BadHeader j) x y = absurd (no_wrong_byte several_streams b (heading_of (length x.streams) x.halves) x.rest j x.header y.1)
one_reason b (Rest o) (StreamPastEnd t) x y = absurd (past_or_whole b (heading_of (length x.streams) x.halves) x.streams t x.rest x.after x.header refl x.whole y)
one_reason b (Rest o) (Rest p) x y =
    let e = one_end b (file_of b o x) (file_of b p y) x.rest y.rest x.after y.after x.header x.whole y.header y.whole in
    let n = ap (length {A = ℕ}) e.1 in
    let i = x.place in
    let j = y.place in
    ap Rest (omega (arith, n, i, j))

pub one_opening : (b : List ℕ) (x y : Result StreamFile TraceFault) → OpensStreams b x → OpensStreams b y → x ≡ y
one_opening b (Ok x) (Ok y) m n = let o = one_end b x y m.0 n.0 [] [] m.1 m.2 n.1 n.2 in ap Ok o.0
one_opening b (Ok x) (Err g) m n = absurd (streams_or_fault b x g m n)
one_opening b (Err f) (Ok y) m n = absurd (streams_or_fault b y f n m)
one_opening b (Err f) (Err g) m n = ap (λ (z : TraceFault). Err z) (one_reason b f g m n)

-- the stream of a number
pub stream_found : (b : List ℕ) (xs : List (List ℕ)) (r : List ℕ) (ys : List (List ℕ)) (c x a : List ℕ) → AreStreamsThen b xs r → AreStreamsThen b ys c → IsStreamThen c x a → length ys < length xs → slice_get xs (length ys) ≡ Some x
stream_found b [] r ys c x a m n s lt = absurd (omega arith)
stream_found b (z ∷ xs) r [] c x a m n s lt =
    let o = one_stream b z m.0 x a m.1 (subst (λ (l : List ℕ). IsStreamThen l x a) n s) in
    ap (λ (l : List ℕ). Some l) o.0
stream_found b (z ∷ xs) r (y ∷ ys) c x a m n s lt =
    let o = one_stream b z m.0 y n.0 m.1 n.1 in
    stream_found n.0 xs r ys c x a (subst (λ (l : List ℕ). AreStreamsThen l xs r) o.1 m.2) n.2 s (omega arith)

-- no stream up to that number is cut
pub none_cut : (b : List ℕ) (xs : List (List ℕ)) (r : List ℕ) (s : ℕ) → AreStreamsThen b xs r → IsCutAfter b s → s < length xs → ⊥
none_cut b xs r s m c lt = let n = c.counted in cut_in b xs r c.streams c.rest m c.before c.cut (omega (arith, n))

-- what is left is no longer
stream_shorter : (b x a : List ℕ) → IsStreamThen b x a → length a ≤ length b
stream_shorter b x a s =
    let l : length (drop 4 b) ≡ length x + length a = ap (length {A = ℕ}) s.parts ∙ length-append x a in
    omega (arith, l, length-drop 4 b)

pub shorter_rest : (b : List ℕ) (xs : List (List ℕ)) (r : List ℕ) → AreStreamsThen b xs r → length r ≤ length b
shorter_rest b [] r m = omega (arith, ap (length {A = ℕ}) m)
shorter_rest b (x ∷ xs) r m =
    let here = stream_shorter b x m.0 m.1 in
    let later = shorter_rest m.0 xs r m.2 in
    omega arith

pub length-streams_in : (n : ℕ) (b : List ℕ) → length (streams_in n b) ≡ n
length-streams_in zero b = refl
length-streams_in (suc n) b = let i = length-streams_in n (drop (little_number 4 b) (drop 4 b)) in omega arith

-- the streams that are kept
pub kept : (b : List ℕ) (n : ℕ) (xs : List (List ℕ)) (r : List ℕ) → length xs ≡ n → AreStreamsThen b xs r → r ≡ [] → AreStreamsThen b (streams_in n b) []
kept b n xs r size m none =
    let e : xs ≡ streams_in n b = sym (streams_in_is b xs r m) ∙ ap (λ (k : ℕ). streams_in k b) size in
    subst (λ (l : List ℕ). AreStreamsThen b (streams_in n b) l) none (subst (λ (ys : List (List ℕ)). AreStreamsThen b ys r) e m)

pub opens : (b : List ℕ) (x : Heading) (rest : List ℕ) (xs : List (List ℕ)) (r : List ℕ) → HasHeader several_streams b x rest → length xs ≡ x.count → AreStreamsThen rest xs r → r ≡ [] → AreStreams b (record { halves = x.halves; streams = streams_in x.count rest })
opens b x rest xs r h size m none = (rest, subst (λ (k : ℕ). HasHeader several_streams b (heading_of k x.halves) rest) (sym (length-streams_in x.count rest)) h, kept rest x.count xs r size m none)

pub goes_on : (b : List ℕ) (x : Heading) (rest : List ℕ) (xs : List (List ℕ)) (r : List ℕ) → HasHeader several_streams b x rest → length xs ≡ x.count → AreStreamsThen rest xs r → 0 < length r → GoesOn b (length b - length r)
goes_on b x rest xs r h size m some =
    let less = shorter_rest rest xs r m in
    let whole = length_of_header several_streams b x rest h in
    record { streams = xs; rest = rest; after = r; halves = x.halves; header = subst (λ (k : ℕ). HasHeader several_streams b (heading_of k x.halves) rest) (sym size) h; whole = m; some = some; place = omega arith }
