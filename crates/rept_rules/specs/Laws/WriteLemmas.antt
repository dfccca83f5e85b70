-- What a row may write is what its steps write.
use Rattle.std.proofs.Common.{◌≡◌, ℕ, ◌<◌, ◌≤◌, ◌^◌, ◌⊎◌, true, false, inl, inr, refl, sym, ap, subst, ◌∙◌, Bool, [], ◌∷◌, ◌&&◌, arith, Option, Some, None, ◌==◌, ◌≢◌, pos, not}
use Rattle.std.specs.Prelude.{is_some, cond}
use Rattle.std.specs.List.{All}
use Rattle.std.proofs.lemmas.Bool.{cases_eq}
use Rattle.rept_isa.specs.declared.instr.Instr.{Instr}
use Rattle.rept_isa.specs.declared.instr.Instr.TheVariants.{Store, Amo, Ecall}
use Rattle.rept_isa.specs.declared.instr.AmoOp.{AmoOp}
use Rattle.rept_isa.specs.declared.instr.AmoOp.TheVariants as atomic
use Rattle.rept_isa.specs.declared.instr.StoreOp.{StoreOp}
use Rattle.rept_isa.specs.declared.instr.StoreOp.TheVariants.{Sb, Sh, Sw}
use Rattle.rept_isa.specs.Numbers.{word, plus, beside}
use Rattle.rept_partial.specs.declared.range.Range.{Range}
use Rattle.rept_partial.specs.declared.flat.Flat.{Flat}
use Rattle.rept_partial.specs.declared.flat.Flat.TheVariants.{Unknown, Known}
use Rattle.rept_partial.specs.Ranges.{from_to}
use Rattle.rept_machine.specs.Arithmetic.{store_width}
use Rattle.rept_machine.specs.State.{State, IsState}
use Rattle.rept_machine.specs.Calls.{may_change}
use Rattle.rept_alias.specs.Accesses.{hits, call_hits, access_of}
use Rattle.rept_alias.specs.Laws.AccessLemmas as access
use Rattle.rept_havoc.specs.Havoc.{changed, Lies, IsExact, NumberWithin, RangeWithin}
use Rattle.rept_havoc.specs.Laws.HavocLemmas.{changed_covers, changed_exact, changed_within}
use Rattle.rept_reason.specs.declared.view.inferred.When.{When}
use Rattle.rept_reason.specs.declared.view.inferred.When.TheVariants.{Before, After}
use Rattle.rept_reason.specs.declared.view.inferred.RegisterAt.{RegisterAt}
use Rattle.rept_reason.specs.View.Seen.{Seen, IsLawful, KnowsMore, Meets, state_at}
use Rattle.rept_reason.specs.View.Written.{WritesBy}
use Rattle.rept_machine.specs.Writes.{WritesAtomic, IsOneOfBytes}
use Rattle.rept_rules.specs.MayWrite.{IsKnownCall, is_register, range_of, only_value, is_failure, has_failed, writes_word, instr_may_write, register_at, tells_atomic, tells_writes, instr_is_sure}
use Rattle.rept_rules.specs.Laws.ValueLemmas.{either_way, true≢false, equal}

some_store : (op : StoreOp) → 0 < store_width op
some_store Sb = omega arith
some_store Sh = omega arith
some_store Sw = omega arith

few_store : (op : StoreOp) → store_width op ≤ 4
few_store Sb = omega arith
few_store Sh = omega arith
few_store Sw = omega arith

in_file : (r : ℕ) → is_register r ≡ true → r < 32
in_file r t = grind (arith, t)

-- a register lies in its range
lies : (view : Seen) (before after : State) (when : When) (r : ℕ) → Meets view before after → IsState before → IsState after → Lies ((state_at before after when).register r) (range_of view when r)
lies view before after when r meets is also = elim (either_way (is_register r)) [
  | inl t ↦ let m = meets.range when r (in_file r t) in rw t m
  | inr f ↦ rw f (low when, high when)
]
  where
    low : (when : When) → (from_to 0 4294967295).lo ≤ (state_at before after when).register r
    low Before = omega arith
    low After = omega arith

    high : (when : When) → (state_at before after when).register r ≤ (from_to 0 4294967295).hi
    high Before = let w = is.words r in omega (arith, w)
    high After = let w = also.words r in omega (arith, w)

-- the number of a call, where its range has one value
one_number : (range : Range) (v : ℕ) → Lies v range → (only_value range ≡ Unknown) ⊎ (only_value range ≡ Known v)
one_number range v h = elim (either_way (range.lo == range.hi)) [
  | inl t ↦ let e = equal range.lo range.hi t in inr (rw t (ap Known (omega (arith, e, h))))
  | inr f ↦ inl (rw f refl)
]

call_covers : (view : Seen) (before after : State) (image_end a : ℕ) (number : Flat) → (number ≡ Unknown) ⊎ (number ≡ Known (before.register 17)) → Meets view before after → may_change image_end before.register (after.register 10) a ≡ true → call_hits (changed number (view.range Before) (view.range After 10) image_end) a ≡ true
call_covers view before after image_end a number (inl e) meets t = subst (λ (n : Flat). call_hits (changed n (view.range Before) (view.range After 10) image_end) a ≡ true) (sym e) refl
call_covers view before after image_end a number (inr e) meets t =
    subst (λ (n : Flat). call_hits (changed n (view.range Before) (view.range After 10) image_end) a ≡ true) (sym e)
    (changed_covers (before.register 17) (view.range Before) (view.range After 10) image_end before.register (after.register 10) a refl (λ r low high. meets.range Before r (omega (arith, high))) (meets.range After 10 (omega arith)) t)

-- an offset of 0
pub beside_plain : (base k : ℕ) → beside (plus base (pos 0)) k ≡ beside base k
unfolding word
beside_plain base k = omega arith

atomic_beside : (op : AmoOp) (rd base : ℕ) (after : ℕ → ℕ) (a : ℕ) → WritesAtomic op rd base after a → IsOneOfBytes base 4 a
atomic_beside atomic.Lr rd base after a w = absurd w
atomic_beside atomic.Sc rd base after a w = w.1
atomic_beside atomic.Swap rd base after a w = w
atomic_beside atomic.Add rd base after a w = w
atomic_beside atomic.Xor rd base after a w = w
atomic_beside atomic.And rd base after a w = w
atomic_beside atomic.Or rd base after a w = w
atomic_beside atomic.Min rd base after a w = w
atomic_beside atomic.Max rd base after a w = w
atomic_beside atomic.Minu rd base after a w = w
atomic_beside atomic.Maxu rd base after a w = w

not_failure : (x : Flat) (v : ℕ) → (x ≡ Unknown) ⊎ (x ≡ Known v) → v ≡ 0 → is_failure x ≡ false
not_failure x v (inl e) zero = ap is_failure e
not_failure x v (inr e) zero = ap is_failure e ∙ ap (λ (n : ℕ). not (n == 0)) zero

-- an SC that succeeded isn't known to have failed
success_seen : (rd v : ℕ) (view : Seen) → (rd ≢ 0 → v ≡ 0) → Lies v (range_of view After rd) → not (has_failed rd view) ≡ true
success_seen rd v view zero h = elim (either_way (rd == 0)) [
  | inl t ↦ rw t refl
  | inr f ↦
      let named : rd ≢ 0 = (λ e. true≢false (rw e at f)) in
      let none = not_failure (only_value (range_of view After rd)) v (one_number (range_of view After rd) v h) (zero named) in
      rw (f, none) refl
]

atomic_covers : (op : AmoOp) (rd base : ℕ) (view : Seen) (after : ℕ → ℕ) (a : ℕ) → Lies (after rd) (range_of view After rd) → WritesAtomic op rd base after a → writes_word op rd view ≡ true
atomic_covers atomic.Lr rd base view after a h w = absurd w
atomic_covers atomic.Sc rd base view after a h w = success_seen rd (after rd) view w.0 h
atomic_covers atomic.Swap rd base view after a h w = refl
atomic_covers atomic.Add rd base view after a h w = refl
atomic_covers atomic.Xor rd base view after a h w = refl
atomic_covers atomic.And rd base view after a h w = refl
atomic_covers atomic.Or rd base view after a h w = refl
atomic_covers atomic.Min rd base view after a h w = refl
atomic_covers atomic.Max rd base view after a h w = refl
atomic_covers atomic.Minu rd base view after a h w = refl
atomic_covers atomic.Maxu rd base view after a h w = refl

pub two_true : (p q : Bool) → p ≡ true → q ≡ true → (p && q) ≡ true
two_true p q t u = rw (t, u) refl

pub covers_by : (instr : Instr) (image_end : ℕ) (view : Seen) (before after : State) (a : ℕ) → Meets view before after → IsState before → IsState after → WritesBy instr image_end before after a → instr_may_write instr view image_end a ≡ true
covers_by (Store op rs1 rs2 imm) image_end view before after a meets is also w =
    let l = lies view before after Before rs1 meets is also in
    subst (λ (x : ℕ). hits (access_of (range_of view Before rs1) imm (store_width op)) x ≡ true) (sym w.2) (access.covers (range_of view Before rs1) imm (store_width op) (before.register rs1) w.0 (few_store op) l.0 l.1 w.1)
covers_by (Amo op rd rs1 rs2) image_end view before after a meets is also w =
    let l = lies view before after Before rs1 meets is also in
    let x = atomic_beside op rd (before.register rs1) after.register a w in
    let word_hit = access.covers (range_of view Before rs1) (pos 0) 4 (before.register rs1) x.0 (omega arith) l.0 l.1 x.1 in
    let hit = subst (λ (b : ℕ). hits (access_of (range_of view Before rs1) (pos 0) 4) b ≡ true) (beside_plain (before.register rs1) x.0 ∙ sym x.2) word_hit in
    two_true (writes_word op rd view) (hits (access_of (range_of view Before rs1) (pos 0) 4) a) (atomic_covers op rd (before.register rs1) view after.register a (lies view before after After rd meets is also) w) hit
covers_by Ecall image_end view before after a meets is also w = call_covers view before after image_end a (only_value (view.range Before 17)) (one_number (view.range Before 17) (before.register 17) (meets.range Before 17 (omega arith))) meets w
covers_by _ image_end view before after a meets is also w = absurd w

pub both : (p q : Bool) → (p && q) ≡ true → (p ≡ true) × (q ≡ true)
both true q t = (refl, t)
both false q t = absurd (true≢false (sym t))

pub is_there : (x : Option ℕ) → is_some x ≡ true → (v : ℕ) × (x ≡ Some v)
is_there None t = absurd (true≢false (sym t))
is_there (Some v) t = (v, refl)

-- a base that is known
pub known_base : (view : Seen) (r b : ℕ) → IsLawful view → is_register r ≡ true → view.register Before r ≡ Some b → ((range_of view Before r).lo ≡ b) × ((range_of view Before r).hi ≡ b)
known_base view r b lawful t e = rw t (lawful.known Before r b e)

pub certain_by : (instr : Instr) (image_end : ℕ) (view : Seen) (before after : State) (a : ℕ) → IsLawful view → Meets view before after → a < 2 ^ 32 → instr_is_sure instr view ≡ true → instr_may_write instr view image_end a ≡ true → WritesBy instr image_end before after a
certain_by (Store op rs1 rs2 imm) image_end view before after a lawful meets fits sure may =
    let t = both (is_register rs1) (is_some (view.register Before rs1)) sure in
    let v = is_there (view.register Before rs1) t.1 in
    let ends = known_base view rs1 v.0 lawful t.0 v.1 in
    let x = access.exact (range_of view Before rs1) imm (store_width op) a (some_store op) (few_store op) (ends.0 ∙ sym ends.1) fits may in
    let base = ends.0 ∙ sym (meets.register Before rs1 v.0 v.1) in
    (x.0, x.1, x.2 ∙ ap (λ (b : ℕ). beside (plus b imm) x.0) base)
certain_by _ image_end view before after a lawful meets fits sure may = absurd (true≢false (sym sure))

range_within : (s t : Seen) (when : When) (r : ℕ) → KnowsMore s t → ((range_of s when r).lo ≤ (range_of t when r).lo) × ((range_of t when r).hi ≤ (range_of s when r).hi)
range_within s t when r more = elim (either_way (is_register r)) [
  | inl u ↦ rw u (more.range when r)
  | inr f ↦ rw f (omega arith, omega arith)
]

number_within : (narrow wide : Range) → wide.lo ≤ narrow.lo → narrow.hi ≤ wide.hi → NumberWithin (only_value narrow) (only_value wide)
number_within narrow wide low high = elim (either_way (wide.lo == wide.hi)) [
  | inl t ↦
      let o = narrow.ordered in
      let e = equal wide.lo wide.hi t in
      let same : narrow.lo ≡ narrow.hi = omega (arith, e) in
      let u : (narrow.lo == narrow.hi) ≡ true = grind (arith, same) in
      rw (t, u) (omega (arith, e))
  | inr f ↦ rw f tt
]

same_failure : (x y : Flat) → NumberWithin x y → is_failure y ≡ true → is_failure x ≡ true
same_failure x Unknown within t = absurd (true≢false (sym t))
same_failure Unknown (Known w) within t = absurd within
same_failure (Known v) (Known w) within t = ap (λ (n : ℕ). not (n == 0)) within ∙ t

-- an SC that was known to have failed is still
still_failed : (rd : ℕ) (s t : Seen) → KnowsMore s t → has_failed rd s ≡ true → has_failed rd t ≡ true
still_failed rd s t more failed = elim (either_way (rd == 0)) [
  | inl u ↦ absurd (true≢false (sym (rw u at failed)))
  | inr f ↦
      let ends = range_within s t After rd more in
      rw f (same_failure (only_value (range_of t After rd)) (only_value (range_of s After rd)) (number_within (range_of t After rd) (range_of s After rd) ends.0 ends.1) (rw f at failed))
]

not_back : (p q : Bool) → (p ≡ true → q ≡ true) → not q ≡ true → not p ≡ true
not_back true q f t = absurd (true≢false (sym (rw (f refl) at t)))
not_back false q f t = refl

less_word : (op : AmoOp) (rd : ℕ) (s t : Seen) → KnowsMore s t → writes_word op rd t ≡ true → writes_word op rd s ≡ true
less_word atomic.Lr rd s t more w = w
less_word atomic.Sc rd s t more w = not_back (has_failed rd s) (has_failed rd t) (still_failed rd s t more) w
less_word atomic.Swap rd s t more w = refl
less_word atomic.Add rd s t more w = refl
less_word atomic.Xor rd s t more w = refl
less_word atomic.And rd s t more w = refl
less_word atomic.Or rd s t more w = refl
less_word atomic.Min rd s t more w = refl
less_word atomic.Max rd s t more w = refl
less_word atomic.Minu rd s t more w = refl
less_word atomic.Maxu rd s t more w = refl

pub touched_less_by : (instr : Instr) (image_end : ℕ) (s t : Seen) (a : ℕ) → KnowsMore s t → instr_may_write instr t image_end a ≡ true → instr_may_write instr s image_end a ≡ true
touched_less_by (Store op rs1 rs2 imm) image_end s t a more may = access.narrower (range_of t Before rs1) (range_of s Before rs1) imm (store_width op) a (some_store op) (few_store op) (range_within s t Before rs1 more) may
touched_less_by (Amo op rd rs1 rs2) image_end s t a more may =
    let parts = both (writes_word op rd t) (hits (access_of (range_of t Before rs1) (pos 0) 4) a) may in
    two_true (writes_word op rd s) (hits (access_of (range_of s Before rs1) (pos 0) 4) a) (less_word op rd s t more parts.0) (access.narrower (range_of t Before rs1) (range_of s Before rs1) (pos 0) 4 a (omega arith) (omega arith) (range_within s t Before rs1 more) parts.1)
touched_less_by Ecall image_end s t a more may =
    let n = more.range Before 17 in
    changed_within (only_value (t.range Before 17)) (only_value (s.range Before 17)) (t.range Before) (s.range Before) (t.range After 10) (s.range After 10) image_end a (number_within (t.range Before 17) (s.range Before 17) n.0 n.1) (λ r low high. more.range Before r) (more.range After 10) may
touched_less_by _ image_end s t a more may = absurd (true≢false (sym may))

pub still_sure : (b : Bool) (x y : Option ℕ) → ((v : ℕ) → x ≡ Some v → y ≡ Some v) → (b && is_some x) ≡ true → (b && is_some y) ≡ true
still_sure true None y h t = absurd (true≢false (sym t))
still_sure true (Some v) y h t = ap is_some (h v refl)
still_sure false x y h t = t

pub sure_more_by : (instr : Instr) (s t : Seen) → KnowsMore s t → instr_is_sure instr s ≡ true → instr_is_sure instr t ≡ true
sure_more_by (Store op rs1 rs2 imm) s t more sure = still_sure (is_register rs1) (s.register Before rs1) (t.register Before rs1) (more.register Before rs1) sure
sure_more_by _ s t more sure = absurd (true≢false (sym sure))

-- a call of which all is known
known_number : (range : Range) (v : ℕ) → IsExact range v → only_value range ≡ Known v
known_number range v e =
    let low = e.0 in
    let high = e.1 in
    let same : range.lo ≡ range.hi = low ∙ sym high in
    let t : (range.lo == range.hi) ≡ true = grind (arith, same) in
    rw t (ap Known low)

pub exact_by : (s : Seen) (image_end : ℕ) (register : ℕ → ℕ) (answer a : ℕ) → IsKnownCall s register answer → a < 2 ^ 32 → instr_may_write Ecall s image_end a ≡ may_change image_end register answer a
exact_by s image_end register answer a known fits =
    ap (λ (n : Flat). call_hits (changed n (s.range Before) (s.range After 10) image_end) a) (known_number (s.range Before 17) (register 17) known.number)
    ∙ changed_exact (register 17) (s.range Before) (s.range After 10) image_end register answer a refl known.arguments known.answered fits

-- the registers that tell a row's bytes
equal_within : (x y : Range) → x ≡ y → RangeWithin x y
equal_within x y e = subst (λ (r : Range). RangeWithin x r) e (omega arith, omega arith)

both_ways : (p q : Bool) → (p ≡ true → q ≡ true) → (q ≡ true → p ≡ true) → p ≡ q
both_ways true q f g = sym (f refl)
both_ways false true f g = g refl
both_ways false false f g = refl

module _ (s t : Seen) where
  abbrev pub AgreeAt : When → ℕ → Type 0
  AgreeAt when r = s.range when r ≡ t.range when r

  arguments_agree : AgreeAt Before 10 → AgreeAt Before 11 → AgreeAt Before 12 → AgreeAt Before 13 → AgreeAt Before 14 → AgreeAt Before 15 → (r : ℕ) → 10 ≤ r → r ≤ 15 → AgreeAt Before r
  arguments_agree e10 e11 e12 e13 e14 e15 r low high = elim (cases_eq r 10) [
    | inl e ↦ subst (AgreeAt Before) (sym e) e10
    | inr n10 ↦ elim (cases_eq r 11) [
      | inl e ↦ subst (AgreeAt Before) (sym e) e11
      | inr n11 ↦ elim (cases_eq r 12) [
        | inl e ↦ subst (AgreeAt Before) (sym e) e12
        | inr n12 ↦ elim (cases_eq r 13) [
          | inl e ↦ subst (AgreeAt Before) (sym e) e13
          | inr n13 ↦ elim (cases_eq r 14) [
            | inl e ↦ subst (AgreeAt Before) (sym e) e14
            | inr n14 ↦ let e : r ≡ 15 = omega arith in subst (AgreeAt Before) (sym e) e15
          ]
        ]
      ]
    ]
  ]

call_told : (s t : Seen) (image_end a : ℕ) → AgreeAt s t Before 17 → ((r : ℕ) → 10 ≤ r → r ≤ 15 → AgreeAt s t Before r) → AgreeAt s t After 10 → instr_may_write Ecall s image_end a ≡ true → instr_may_write Ecall t image_end a ≡ true
call_told s t image_end a number arguments answered may =
    let n = equal_within (s.range Before 17) (t.range Before 17) number in
    changed_within (only_value (s.range Before 17)) (only_value (t.range Before 17)) (s.range Before) (t.range Before) (s.range After 10) (t.range After 10) image_end a (number_within (s.range Before 17) (t.range Before 17) n.0 n.1) (λ r low high. equal_within (s.range Before r) (t.range Before r) (arguments r low high)) (equal_within (s.range After 10) (t.range After 10) answered) may

-- what an atomic instruction may write, where the range of its address is the same
word_told : (rs1 : ℕ) (s t : Seen) (a : ℕ) → s.range Before rs1 ≡ t.range Before rs1 → hits (access_of (range_of s Before rs1) (pos 0) 4) a ≡ hits (access_of (range_of t Before rs1) (pos 0) 4) a
word_told rs1 s t a base = ap (λ (range : Range). hits (access_of (cond (is_register rs1) range (from_to 0 4294967295)) (pos 0) 4) a) base

failed_told : (rd : ℕ) (s t : Seen) → s.range After rd ≡ t.range After rd → has_failed rd s ≡ has_failed rd t
failed_told rd s t same = ap (λ (range : Range). cond (rd == 0) false (is_failure (only_value (cond (is_register rd) range (from_to 0 4294967295))))) same

try_told : (rd rs1 : ℕ) (s t : Seen) (a : ℕ) → All (λ x. s.range x.when x.register ≡ t.range x.when x.register) (tells_atomic atomic.Sc rd rs1) → (writes_word atomic.Sc rd s && hits (access_of (range_of s Before rs1) (pos 0) 4) a) ≡ (writes_word atomic.Sc rd t && hits (access_of (range_of t Before rs1) (pos 0) 4) a)
try_told rd rs1 s t a h = elim (either_way (rd == 0)) [
  | inl u ↦
      let at_base : s.range Before rs1 ≡ t.range Before rs1 = h 0 (register_at Before 0) (omega arith) in
      rw u (word_told rs1 s t a at_base)
  | inr f ↦
      let all = subst (λ (b : Bool). All (λ (x : RegisterAt). s.range x.when x.register ≡ t.range x.when x.register) (register_at Before rs1 ∷ cond b [] (register_at After rd ∷ []))) f h in
      let at_base : s.range Before rs1 ≡ t.range Before rs1 = all 0 (register_at Before 0) (omega arith) in
      let answer : s.range After rd ≡ t.range After rd = all 1 (register_at Before 0) (omega arith) in
      ap (λ (b : Bool). not b && hits (access_of (range_of s Before rs1) (pos 0) 4) a) (failed_told rd s t answer) ∙ ap (λ (b : Bool). not (has_failed rd t) && b) (word_told rs1 s t a at_base)
]

atomic_told : (op : AmoOp) (rd rs1 : ℕ) (s t : Seen) (a : ℕ) → All (λ x. s.range x.when x.register ≡ t.range x.when x.register) (tells_atomic op rd rs1) → (writes_word op rd s && hits (access_of (range_of s Before rs1) (pos 0) 4) a) ≡ (writes_word op rd t && hits (access_of (range_of t Before rs1) (pos 0) 4) a)
atomic_told atomic.Lr rd rs1 s t a h = refl
atomic_told atomic.Sc rd rs1 s t a h = try_told rd rs1 s t a h
atomic_told atomic.Swap rd rs1 s t a h = word_told rs1 s t a (h 0 (register_at Before 0) (omega arith))
atomic_told atomic.Add rd rs1 s t a h = word_told rs1 s t a (h 0 (register_at Before 0) (omega arith))
atomic_told atomic.Xor rd rs1 s t a h = word_told rs1 s t a (h 0 (register_at Before 0) (omega arith))
atomic_told atomic.And rd rs1 s t a h = word_told rs1 s t a (h 0 (register_at Before 0) (omega arith))
atomic_told atomic.Or rd rs1 s t a h = word_told rs1 s t a (h 0 (register_at Before 0) (omega arith))
atomic_told atomic.Min rd rs1 s t a h = word_told rs1 s t a (h 0 (register_at Before 0) (omega arith))
atomic_told atomic.Max rd rs1 s t a h = word_told rs1 s t a (h 0 (register_at Before 0) (omega arith))
atomic_told atomic.Minu rd rs1 s t a h = word_told rs1 s t a (h 0 (register_at Before 0) (omega arith))
atomic_told atomic.Maxu rd rs1 s t a h = word_told rs1 s t a (h 0 (register_at Before 0) (omega arith))

pub told_by : (instr : Instr) (image_end : ℕ) (s t : Seen) (a : ℕ) → All (λ x. s.range x.when x.register ≡ t.range x.when x.register) (tells_writes instr) → instr_may_write instr s image_end a ≡ instr_may_write instr t image_end a
told_by (Store op rs1 rs2 imm) image_end s t a h =
    let base : s.range Before rs1 ≡ t.range Before rs1 = h 0 (register_at Before 0) (omega arith) in
    ap (λ (range : Range). hits (access_of (cond (is_register rs1) range (from_to 0 4294967295)) imm (store_width op)) a) base
told_by (Amo op rd rs1 rs2) image_end s t a h = atomic_told op rd rs1 s t a h
told_by Ecall image_end s t a h =
    let arguments = arguments_agree s t (h 1 (register_at Before 0) (omega arith)) (h 2 (register_at Before 0) (omega arith)) (h 3 (register_at Before 0) (omega arith)) (h 4 (register_at Before 0) (omega arith)) (h 5 (register_at Before 0) (omega arith)) (h 6 (register_at Before 0) (omega arith)) in
    let number : AgreeAt s t Before 17 = h 0 (register_at Before 0) (omega arith) in
    let answered : AgreeAt s t After 10 = h 7 (register_at Before 0) (omega arith) in
    both_ways (instr_may_write Ecall s image_end a) (instr_may_write Ecall t image_end a) (call_told s t image_end a number arguments answered)
    (call_told t s image_end a (sym number) (λ r low high. sym (arguments r low high)) (sym answered))
told_by _ image_end s t a h = refl
