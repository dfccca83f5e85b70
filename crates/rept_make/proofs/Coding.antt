-- The code of a seed, word by word.
use Rattle.std.proofs.Common.{◌≡◌, ℕ, suc, ◌+◌, ◌*◌, ◌<◌, List, [], ◌∷◌, ◌++◌, length, get_or, refl, sym, ◌∙◌, ap, subst, arith, inl, inr}
use Rattle.std.proofs.lemmas.Bool.{cases_eq}
use Rattle.std.proofs.lemmas.Grind.{common_steps}
use Rattle.rept_isa.specs.declared.instr.Instr.{Instr}
use Rattle.rept_isa.specs.Words.{IsWord}
use Rattle.rept_make.specs.Draws.{drawn, drawn_times, after_slot}
use Rattle.rept_make.specs.Code.{made_instr, IsPlaced}
use Rattle.rept_make.specs.Words.{SpellsAt}

times_suc : (n seed : ℕ) → drawn_times (suc n) seed ≡ drawn (drawn_times n seed)
unfolding drawn_times
times_suc n seed = refl

five_more : (n seed : ℕ) → drawn_times (suc (suc (suc (suc (suc n))))) seed ≡ after_slot (drawn_times n seed)
unfolding drawn_times
five_more n seed = refl

pub next_state : (i seed : ℕ) → drawn_times (11 + 5 * (i + 1)) seed ≡ after_slot (drawn_times (11 + 5 * i) seed)
next_state i seed =
    let e : 11 + 5 * (i + 1) ≡ suc (suc (suc (suc (suc (11 + 5 * i))))) = omega arith in
    ap (λ (k : ℕ). drawn_times k seed) e ∙ five_more (11 + 5 * i) seed

get_last : (xs : List ℕ) (x : ℕ) → get_or (xs ++ x ∷ []) (length xs) 0 ≡ x
get_last [] x = refl
get_last (y ∷ xs) x = get_last xs x

get_before : (xs ys : List ℕ) (k : ℕ) → k < length xs → get_or (xs ++ ys) k 0 ≡ get_or xs k 0
get_before xs ys k lt = grind (arith, common_steps)

pub spells_more : (old new : List ℕ) (i word seed : ℕ) (instr : Instr) → new ≡ old ++ word ∷ [] → length old ≡ i → ((k : ℕ) → k < i → SpellsAt k (get_or old k 0) (made_instr seed k)) → IsWord word instr → IsPlaced i instr → instr ≡ made_instr seed i → (k : ℕ) → k < i + 1 → SpellsAt k (get_or new k 0) (made_instr seed k)
spells_more old new i word seed instr is size before spelled placed same k lt = elim (cases_eq k i) [
  | inl e ↦
      let a : get_or new k 0 ≡ word = ap (λ (xs : List ℕ). get_or xs k 0) is ∙ ap (λ (j : ℕ). get_or (old ++ word ∷ []) j 0) (e ∙ sym size) ∙ get_last old word in
      let there : SpellsAt i word instr = record { spelled = spelled; placed = placed } in
      let other : SpellsAt i word (made_instr seed i) = subst (λ (x : Instr). SpellsAt i word x) same there in
      let moved : SpellsAt k word (made_instr seed k) = subst (λ (j : ℕ). SpellsAt j word (made_instr seed j)) (sym e) other in
      subst (λ (x : ℕ). SpellsAt k x (made_instr seed k)) (sym a) moved
  | inr ne ↦
      let a : get_or new k 0 ≡ get_or old k 0 = ap (λ (xs : List ℕ). get_or xs k 0) is ∙ get_before old (word ∷ []) k (omega arith) in
      subst (λ (x : ℕ). SpellsAt k x (made_instr seed k)) (sym a) (before k (omega arith))
]
