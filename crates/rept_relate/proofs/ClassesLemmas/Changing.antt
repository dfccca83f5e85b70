-- How the words of all nodes stay the same, or become fewer, where one node changes.
use Rattle.std.proofs.Common.{◌≡◌, ℕ, zero, suc, ◌+◌, ◌-◌, ◌%◌, ◌^◌, ◌<◌, true, List, [], ◌∷◌, ◌++◌, length, get_or, Some, None, slice_get, inl, inr, refl, sym, ap, subst, ◌∙◌, arith}
use Rattle.std.specs.Prelude.{Result, Ok, Err, OnErr}
use Rattle.std.proofs.lemmas.Bool.{cases_eq, cases_lt}
use Rattle.std.proofs.lemmas.List.{length_push}
use Rattle.std.proofs.lemmas.Option.{slice_get_within, slice_get-get_or}
use Rattle.rept_isa.specs.Numbers.{beside}
use Rattle.rept_known.specs.declared.both.Both.{Both}
use Rattle.rept_known.specs.Both.{both_has, both_meet}
use Rattle.rept_known.specs.Laws.BothLaws.{both_lawful}
use Rattle.rept_relate.specs.declared.classes.node.ClassNode.{ClassNode}
use Rattle.rept_relate.specs.declared.classes.node.Term.{Term}
use Rattle.rept_relate.specs.Classes.Valuations.{word_of, IsNodeValued, IsValued, IsNodeInPlace, IsRoot, KeepsWords, HaveSameWords}

same_some : {W : Type 0} {x y : W} → Some x ≡ Some y → x ≡ y
same_some e = cc

pub any_err : {T E P : Type 0} (r : Result T E) → P → OnErr r P
any_err (Ok x) p = tt
any_err (Err e) p = p

-- ---- sums of words
-- two ways upward are one
up_twice : (a b c o p : ℕ) → a ≡ (b + o) % 2 ^ 32 → b ≡ (c + p) % 2 ^ 32 → a ≡ (c + (o + p) % 2 ^ 32) % 2 ^ 32
up_twice a b c o p e f = omega (arith, e, f)

up_once : (a b c o p : ℕ) → a ≡ (c + (o + p) % 2 ^ 32) % 2 ^ 32 → b ≡ (c + p) % 2 ^ 32 → a ≡ (b + o) % 2 ^ 32
up_once a b c o p e f = omega (arith, e, f)

pub further : (v u o p : ℕ) → v ≡ (u + o) % 2 ^ 32 → (u + (o + p) % 2 ^ 32) % 2 ^ 32 ≡ (v + p) % 2 ^ 32
further v u o p e = omega (arith, e)

difference : (r k ro ko : ℕ) → r < 2 ^ 32 → ro < 2 ^ 32 → (r + ro) % 2 ^ 32 ≡ (k + ko) % 2 ^ 32 → r ≡ (k + (ko + (2 ^ 32 - ro)) % 2 ^ 32) % 2 ^ 32
difference r k ro ko s t e = omega (arith, s, t, e)

difference_back : (r k ro ko : ℕ) → ro < 2 ^ 32 → r ≡ (k + (ko + (2 ^ 32 - ro)) % 2 ^ 32) % 2 ^ 32 → (r + ro) % 2 ^ 32 ≡ (k + ko) % 2 ^ 32
difference_back r k ro ko t e = omega (arith, t, e)

-- what is left where the offset is taken away again
pub less : (r o w : ℕ) → r < 2 ^ 32 → o < 2 ^ 32 → w ≡ (r + o) % 2 ^ 32 → (w + (0 + (2 ^ 32 - o)) % 2 ^ 32) % 2 ^ 32 ≡ r
less r o w s t e = omega (arith, s, t, e)

-- ---- one node changes
module _ (value : ℕ → ℕ) where
  pub small : (nodes : List ClassNode) (x : ℕ) (node : ClassNode) → IsValued nodes value → slice_get nodes x ≡ Some node → value x < 2 ^ 32
  small nodes x node valued at = let e = (valued x node at).stands in omega (arith, e)

  pub put_valued : (old new : List ClassNode) (x : ℕ) (node : ClassNode) → slice_get new x ≡ Some node → ((y : ℕ) → (y ≡ x → ⊥) → slice_get new y ≡ slice_get old y) → IsNodeValued value x node → IsValued old value → IsValued new value
  put_valued old new x node here others it valued y n is = elim (cases_eq y x) [
    | inl same ↦
        let e : node ≡ n = same_some (sym here ∙ (ap (λ (k : ℕ). slice_get new k) (sym same) ∙ is)) in
        subst (λ (m : ClassNode). IsNodeValued value y m) e (subst (λ (k : ℕ). IsNodeValued value k node) (sym same) it)
    | inr ne ↦ valued y n (sym (others y ne) ∙ is)
  ]

  pub put_back : (old new : List ClassNode) (x : ℕ) (node : ClassNode) → slice_get old x ≡ Some node → ((y : ℕ) → (y ≡ x → ⊥) → slice_get new y ≡ slice_get old y) → IsNodeValued value x node → IsValued new value → IsValued old value
  put_back old new x node here others it valued = put_valued new old x node here (λ y ne. sym (others y ne)) it valued

-- ---- a node on the parent of its parent
module _ (old : List ClassNode) (x : ℕ) (node above : ClassNode) (at : slice_get old x ≡ Some node) (up : slice_get old node.parent ≡ Some above) (lower : node.parent < x) where
  pub shortened_alike : (value : ℕ → ℕ) → IsValued old value → value x ≡ (value above.parent + (node.offset + above.offset) % 2 ^ 32) % 2 ^ 32
  shortened_alike value valued = up_twice (value x) (value node.parent) (value above.parent) node.offset above.offset (valued x node at).stands (valued node.parent above up).stands

  pub shortened_same : (new : List ClassNode) (short : ClassNode) → short.parent ≡ above.parent → short.offset ≡ (node.offset + above.offset) % 2 ^ 32 → short.set ≡ node.set → slice_get new x ≡ Some short → ((y : ℕ) → (y ≡ x → ⊥) → slice_get new y ≡ slice_get old y) → HaveSameWords old new
  shortened_same new short p o s here others = record { onward = onward; back = back }
    where
      onward : KeepsWords old new
      onward value valued = put_valued value old new x short here others (record {
        stands = rw (p, o) (shortened_alike value valued);
        held = rw s (valued x node at).held;
      }) valued

      apart : node.parent ≡ x → ⊥
      apart e = omega (arith, lower, e)

      back : KeepsWords new old
      back value valued =
          let it = valued x short here in
          let stands : value x ≡ (value above.parent + (node.offset + above.offset) % 2 ^ 32) % 2 ^ 32 = rw (p, o) at it.stands in
          put_back value old new x node at others (record {
            stands = up_once (value x) (value node.parent) (value above.parent) node.offset above.offset stands (valued node.parent above (others node.parent apart ∙ up)).stands;
            held = subst (λ (w : Both). both_has w (value x) ≡ true) s it.held;
          }) valued

-- ---- the same words, one after the other
pub same_itself : (nodes : List ClassNode) → HaveSameWords nodes nodes
same_itself nodes = record { onward = λ value valued. valued; back = λ value valued. valued }

pub same_then : (a b c : List ClassNode) → HaveSameWords a b → HaveSameWords b c → HaveSameWords a c
same_then a b c f g = record { onward = λ value valued. g.onward value (f.onward value valued); back = λ value valued. f.back value (g.back value valued) }

-- ---- a smaller set
module _ (old : List ClassNode) (x : ℕ) (node : ClassNode) (set : Both) (at : slice_get old x ≡ Some node) where
  module _ (new : List ClassNode) (cut : ClassNode) (p : cut.parent ≡ node.parent) (o : cut.offset ≡ node.offset) (met : both_meet node.set set ≡ Some cut.set) (here : slice_get new x ≡ Some cut) (others : (y : ℕ) → (y ≡ x → ⊥) → slice_get new y ≡ slice_get old y) where
    pub cut_keeps : (value : ℕ → ℕ) → IsValued old value → both_has set (value x) ≡ true → IsValued new value
    cut_keeps value valued has =
        let it = valued x node at in
        put_valued value old new x cut here others (record { stands = rw (p, o) it.stands; held = both_lawful.meet_some node.set set cut.set (value x) met it.held has }) valued

    pub cut_tells : (value : ℕ → ℕ) → IsValued new value → (IsValued old value) × (both_has set (value x) ≡ true)
    cut_tells value valued =
        let it = valued x cut here in
        let in_both = both_lawful.meet_within node.set set cut.set (value x) met it.held in
        let stands : value x ≡ beside (value node.parent) node.offset = rw (p, o) at it.stands in
        (put_back value old new x node at others (record { stands = stands; held = in_both.0 }) valued, in_both.1)

  pub cut_refuses : both_meet node.set set ≡ None → (value : ℕ → ℕ) → IsValued old value → both_has set (value x) ≡ true → ⊥
  cut_refuses none value valued has = both_lawful.meet_none node.set set (value x) none (valued x node at).held has

-- ---- a root on another node
module _ (old new : List ClassNode) (root onto : Term) (node hung : ClassNode) (at : slice_get old root.node ≡ Some node) (place : IsNodeInPlace root.node node) (is_root : IsRoot old root.node) (fits : root.offset < 2 ^ 32) (p : hung.parent ≡ onto.node) (o : hung.offset ≡ (onto.offset + (2 ^ 32 - root.offset)) % 2 ^ 32) (s : hung.set ≡ node.set) (here : slice_get new root.node ≡ Some hung) (others : (y : ℕ) → (y ≡ root.node → ⊥) → slice_get new y ≡ slice_get old y) where
  pub link_keeps : (value : ℕ → ℕ) → IsValued old value → word_of value root ≡ word_of value onto → IsValued new value
  link_keeps value valued same =
      let it = valued root.node node at in
      put_valued value old new root.node hung here others (record {
        stands = rw (p, o) (difference (value root.node) (value onto.node) root.offset onto.offset (small value old root.node node valued at) fits same);
        held = rw s it.held;
      }) valued

  pub link_tells : (value : ℕ → ℕ) → IsValued new value → (IsValued old value) × (word_of value root ≡ word_of value onto)
  link_tells value valued =
      let it = valued root.node hung here in
      let stands : value root.node ≡ (value onto.node + (onto.offset + (2 ^ 32 - root.offset)) % 2 ^ 32) % 2 ^ 32 = rw (p, o) at it.stands in
      let own : node.parent ≡ root.node = is_root node at in
      let none : node.offset ≡ 0 = place.still own in
      let word : value root.node < 2 ^ 32 = small value new root.node hung valued here in
      let itself : value root.node ≡ (value root.node + 0) % 2 ^ 32 = omega (arith, word) in (
        put_back value old new root.node node at others (record {
          stands = rw (own, none) itself;
          held = subst (λ (w : Both). both_has w (value root.node) ≡ true) s it.held;
        }) valued,
        difference_back (value root.node) (value onto.node) root.offset onto.offset fits stands,
      )

-- what the class of the one root has becomes a set of the other node's word
pub onto_has : (value : ℕ → ℕ) (old : List ClassNode) (root onto : Term) (node near : ClassNode) (set : Both) → slice_get old root.node ≡ Some node → slice_get old onto.node ≡ Some near → onto.offset < 2 ^ 32 → ((v : ℕ) → both_has node.set v ≡ true → both_has set (beside v ((root.offset + (2 ^ 32 - onto.offset)) % 2 ^ 32)) ≡ true) → IsValued old value → word_of value root ≡ word_of value onto → both_has set (value onto.node) ≡ true
onto_has value old root onto node near set at there fits moved valued same =
    let it = valued root.node node at in
    let is : value onto.node ≡ (value root.node + (root.offset + (2 ^ 32 - onto.offset)) % 2 ^ 32) % 2 ^ 32 = difference (value onto.node) (value root.node) onto.offset root.offset (small value old onto.node near valued there) fits (sym same) in
    subst (λ (n : ℕ). both_has set n ≡ true) (sym is) (moved (value root.node) it.held)

-- ---- one node more
get_end : (xs : List ClassNode) (x : ClassNode) → slice_get (xs ++ x ∷ []) (length xs) ≡ Some x
get_end [] x = refl
get_end (y ∷ xs) x = get_end xs x

get_before : (xs : List ClassNode) (x : ClassNode) (k : ℕ) → k < length xs → slice_get (xs ++ x ∷ []) k ≡ slice_get xs k
get_before [] x k less = absurd (omega arith)
get_before (y ∷ xs) x zero less = refl
get_before (y ∷ xs) x (suc k) less = get_before xs x k (omega arith)

module _ (old new : List ClassNode) (node : ClassNode) (x : ℕ) (long : x ≡ length old) (pushed : new ≡ old ++ node ∷ []) where
  pub added_keeps : node.parent ≡ x → node.offset ≡ 0 → (value : ℕ → ℕ) → IsValued old value → both_has node.set (value x) ≡ true → IsValued new value
  added_keeps p o value valued has y n is = elim (cases_lt y (length old)) [
    | inl lt ↦ valued y n (sym (get_before old node y lt) ∙ at)
    | inr le ↦
        let within = slice_get_within (old ++ node ∷ []) y n at in
        let more = length_push old node in
        let here : y ≡ length old = omega (arith, within, more, le) in
        let e : node ≡ n = same_some (sym (get_end old node) ∙ (ap (λ (k : ℕ). slice_get (old ++ node ∷ []) k) (sym here) ∙ at)) in
        subst (λ (m : ClassNode). IsNodeValued value y m) e (subst (λ (k : ℕ). IsNodeValued value k node) (long ∙ sym here) own)
  ]
    where
      at : slice_get (old ++ node ∷ []) y ≡ Some n
      at = subst (λ (xs : List ClassNode). slice_get xs y ≡ Some n) pushed is

      own : IsNodeValued value x node
      own =
          let word = both_lawful.words node.set (value x) has in
          let itself : value x ≡ (value x + 0) % 2 ^ 32 = omega (arith, word) in
          record { stands = rw (p, o) itself; held = has }

  pub added_tells : (value : ℕ → ℕ) → IsValued new value → (IsValued old value) × (both_has node.set (value x) ≡ true)
  added_tells value valued = (olds, (valued x node last).held)
    where
      last : slice_get new x ≡ Some node
      last = ap (λ (xs : List ClassNode). slice_get xs x) pushed ∙ (ap (λ (k : ℕ). slice_get (old ++ node ∷ []) k) long ∙ get_end old node)

      olds : IsValued old value
      olds y n is = valued y n (ap (λ (xs : List ClassNode). slice_get xs y) pushed ∙ (get_before old node y (slice_get_within old y n is) ∙ is))

-- ---- two terms and their roots
pub same_offset : (v o p : ℕ) → o < 2 ^ 32 → p < 2 ^ 32 → (v + o) % 2 ^ 32 ≡ (v + p) % 2 ^ 32 → o ≡ p
same_offset v o p s t e = omega (arith, s, t, e)

module _ (old mid new : List ClassNode) (a b first second : Term) (s : HaveSameWords old mid) (t : HaveSameWords mid new) (f : (value : ℕ → ℕ) → IsValued old value → word_of value first ≡ word_of value a) (g : (value : ℕ → ℕ) → IsValued mid value → word_of value second ≡ word_of value b) where
  pub found_valued : (value : ℕ → ℕ) → IsValued old value → IsValued new value
  found_valued value valued = t.onward value (s.onward value valued)

  pub found : (value : ℕ → ℕ) → IsValued old value → word_of value a ≡ word_of value b → word_of value first ≡ word_of value second
  found value valued e = f value valued ∙ e ∙ sym (g value (s.onward value valued))

  pub found_back : (value : ℕ → ℕ) → IsValued new value → word_of value first ≡ word_of value second → (IsValued old value) × (word_of value a ≡ word_of value b)
  found_back value valued e =
      let m = t.back value valued in
      let o = s.back value m in
      (o, sym (f value o) ∙ e ∙ g value m)

  pub found_apart : first.node ≡ second.node → first.offset < 2 ^ 32 → second.offset < 2 ^ 32 → (first.offset ≡ second.offset → ⊥) → (value : ℕ → ℕ) → IsValued old value → word_of value a ≡ word_of value b → ⊥
  found_apart node small_first small_second ne value valued e =
      let same : (value first.node + first.offset) % 2 ^ 32 ≡ (value first.node + second.offset) % 2 ^ 32 = found value valued e ∙ ap (λ (n : ℕ). (value n + second.offset) % 2 ^ 32) (sym node) in
      ne (same_offset (value first.node) first.offset second.offset small_first small_second same)

pub words_alike : (value : ℕ → ℕ) (first second : Term) → first.node ≡ second.node → first.offset ≡ second.offset → word_of value first ≡ word_of value second
words_alike value first second n o = rw (n, o) refl

-- ---- a set of a term's word, as one of its root's
pub root_has : (value : ℕ → ℕ) (old : List ClassNode) (term root : Term) (set moved : Both) → root.node < length old → root.offset < 2 ^ 32 → IsValued old value → word_of value root ≡ word_of value term → ((v : ℕ) → both_has set v ≡ true → both_has moved (beside v ((0 + (2 ^ 32 - root.offset)) % 2 ^ 32)) ≡ true) → both_has set (word_of value term) ≡ true → both_has moved (value root.node) ≡ true
root_has value old term root set moved inside fits valued same moves has =
    let any : ClassNode = record { parent = 0; offset = 0; set = set } in
    let word = small value old root.node (get_or old root.node any) valued (slice_get-get_or old root.node any inside) in
    let is = less (value root.node) root.offset (word_of value term) word fits (sym same) in
    subst (λ (n : ℕ). both_has moved n ≡ true) is (moves (word_of value term) has)
