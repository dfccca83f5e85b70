-- What may act between a name and one that is next to it is told by what lies past the one and
-- ahead of the other.
use Rattle.std.proofs.Common.{◌≡◌, ℕ, ◌≤◌, ◌&&◌, ◌||◌, not, Bool, true, false, Some, refl, sym, ap, ◌∙◌, subst}
use Rattle.std.specs.Option.{is_some}
use Rattle.std.proofs.lemmas.Bool.{false≢true, and_from, or_right}
use Rattle.rept_steps.specs.Course.{Course, Row, IsRow, calls, IsSoundCourse}
use Rattle.rept_order.specs.Moments.{Moment, IsMoment, Act, IsAct, WhollyBefore, WhollyAfter, Stretch, stretch, MayAct, stores}
use Rattle.rept_order.specs.Moments.Moment.{before, after}
use Rattle.rept_order.specs.Moments.Act.{row, untraced}
use Rattle.rept_order.specs.Times.{wholly_before, may_act_between}
use Rattle.rept_order.proofs.Between.{after_earlier}
use Rattle.rept_order.proofs.Acting.{before_from, after_true, after_from, may_act_true, may_act_from}
use Rattle.rept_report.specs.Moments.{AreMoments}
use Rattle.rept_moments.specs.Naming.Names.{MomentNames, IsLink, AreNames, NoOwn}
use Rattle.rept_moments.specs.Naming.Numbered.{legs_on, row_on, may_act_by, untraced_by, moments_of}
use Rattle.rept_moments.proofs.NamingLemmas.Naming.{some_is, stores_inside, can, to_last, after_to_last, after_from_last, are_moments}

not_so : (b : Bool) → (b ≡ true → ⊥) → b ≡ false
not_so true k = absurd (k refl)
not_so false k = refl

module _ (C : Course) (sound : IsSoundCourse C) (N : MomentNames) (names : AreNames C N) where
  -- between all others
  module _ (m w : ℕ) (none : NoOwn C N m w) (x : Stretch) (found : N.link m w ≡ Some x) where
    link : IsLink C N m w x
    link = names.links m w x found

    no_own : (r : Row) → calls C r ≡ false → x ≡ stretch (before r) (after r) → ⊥
    no_own r plain e =
        let inside : IsRow C r = subst (λ (y : Moment). IsMoment C y) (ap (λ (y : Stretch). y.from) e) link.from in
        none r inside plain (ap N.name (sym (ap (λ (y : Stretch). y.from) e)) ∙ link.from_name) (ap N.name (sym (ap (λ (y : Stretch). y.to) e)) ∙ link.to_name)

    link_may_act : (act : Act) → IsAct C act → can C act ≡ true → (WhollyBefore C act (N.last m) → ⊥) → (WhollyAfter C act (N.last w) → ⊥) → MayAct C act x
    link_may_act act is writes not_past not_ahead = record {
      not_before = λ e. not_past (subst (λ (k : ℕ). WhollyBefore C act (N.last k)) link.from_name (to_last C sound N names act is writes x.from link.from e));
      not_after = λ l. not_ahead (subst (λ (k : ℕ). WhollyAfter C act (N.last k)) link.to_name (after_to_last C sound N names act is writes x.to link.to l));
      alone = λ r plain e. absurd (no_own r plain e);
    }

    last_at : IsMoment C (N.last m)
    last_at = (names.named m (subst (λ (k : ℕ). k ≤ N.end) link.from_name (names.few x.from link.from))).0

    next_at : IsMoment C (N.last w)
    next_at = (names.named w (subst (λ (k : ℕ). k ≤ N.end) link.to_name (names.few x.to link.to))).0

    next : (moments_of C N).next m w ≡ true
    next = ap is_some found

    laws : AreMoments (legs_on C) (moments_of C N)
    laws = are_moments C sound N names

    row_may_act : (i : ℕ) (p a : Bool) → stores C (row_on C i) ≡ true → (moments_of C N).past i m ≡ p → (moments_of C N).ahead i w ≡ a → (not p && not a) ≡ may_act_between C (row (row_on C i)) x.from x.to
    row_may_act i true a writes past ahead =
        let out = (laws.past_onward i m w next past).1 in
        sym (sym (ap (λ (b : Bool). b && may_act_between C (row (row_on C i)) x.from x.to) writes) ∙ sym (ap (may_act_by C (row_on C i)) found) ∙ out)
    row_may_act i false true writes past ahead =
        let is = stores_inside C (row_on C i) writes in
        sym (not_so (may_act_between C (row (row_on C i)) x.from x.to) (λ t.
        (may_act_true C sound (row (row_on C i)) x.from x.to is link.from link.to t).not_after (after_from_last C sound N names (row (row_on C i)) is writes x.to link.to (subst (λ (k : ℕ). WhollyAfter C (row (row_on C i)) (N.last k)) (sym link.to_name) (after_true C sound (row (row_on C i)) (N.last w) is next_at ahead)))))
    row_may_act i false false writes past ahead =
        let is = stores_inside C (row_on C i) writes in
        sym (may_act_from C sound (row (row_on C i)) x.from x.to is link.from link.to (link_may_act (row (row_on C i)) is writes (λ e. false≢true (sym past ∙ or_right (not (stores C (row_on C i))) (wholly_before C (row (row_on C i)) (N.last m)) (before_from C sound (row (row_on C i)) (N.last m) is last_at e))) (λ l. false≢true (sym ahead ∙ after_from C sound (row (row_on C i)) (N.last w) l))))

    rest_may_act_by : (i : ℕ) (b : Bool) → stores C (row_on C i) ≡ b → (stores C (row_on C i) && (not ((moments_of C N).past i m) && not ((moments_of C N).ahead i w))) ≡ (stores C (row_on C i) && may_act_between C (row (row_on C i)) x.from x.to)
    rest_may_act_by i false e = ap (λ (b : Bool). b && (not ((moments_of C N).past i m) && not ((moments_of C N).ahead i w))) e ∙ sym (ap (λ (b : Bool). b && may_act_between C (row (row_on C i)) x.from x.to) e)
    rest_may_act_by i true e = ap (λ (b : Bool). stores C (row_on C i) && b) (row_may_act i ((moments_of C N).past i m) ((moments_of C N).ahead i w) e refl refl)

    rest_may_act : (i : ℕ) → (stores C (row_on C i) && (not ((moments_of C N).past i m) && not ((moments_of C N).ahead i w))) ≡ may_act_by C (row_on C i) (N.link m w)
    rest_may_act i = rest_may_act_by i (stores C (row_on C i)) refl ∙ sym (ap (may_act_by C (row_on C i)) found)

    untraced_may_act : (b : Bool) → (moments_of C N).untraced_past m ≡ b → not b ≡ untraced_by C (N.link m w)
    untraced_may_act true e = sym (laws.untraced_onward m w next e).1
    untraced_may_act false e = go (is_some C.untraced) refl
      where
        go : (b : Bool) → is_some C.untraced ≡ b → true ≡ untraced_by C (N.link m w)
        go false light = absurd (false≢true (sym e ∙ ap (λ (b : Bool). not b || wholly_before C untraced (N.last m)) light))
        go true told =
            let is = some_is C.untraced told in
            let may_act = may_act_from C sound untraced x.from x.to is link.from link.to (link_may_act untraced is refl (λ early. false≢true (sym e ∙ or_right (not (is_some C.untraced)) (wholly_before C untraced (N.last m)) (before_from C sound untraced (N.last m) is last_at early))) (λ l. l)) in
            sym (ap (untraced_by C) found ∙ and_from (is_some C.untraced) (may_act_between C untraced x.from x.to) told may_act)

  pub else_may_act : (m w i : ℕ) → (moments_of C N).next m w ≡ true → NoOwn C N m w → (stores C (row_on C i) && (not ((moments_of C N).past i m) && not ((moments_of C N).ahead i w))) ≡ may_act_by C (row_on C i) (N.link m w)
  else_may_act m w i next none = let found = some_is (N.link m w) next in rest_may_act m w none found.0 found.1 i

  pub else_untraced : (m w : ℕ) → (moments_of C N).next m w ≡ true → NoOwn C N m w → not ((moments_of C N).untraced_past m) ≡ untraced_by C (N.link m w)
  else_untraced m w next none = let found = some_is (N.link m w) next in untraced_may_act m w none found.0 found.1 ((moments_of C N).untraced_past m) refl

  -- what lies ahead of a name lies ahead of those to which it is next
  pub ahead_back : (i m w : ℕ) → stores C (row_on C i) ≡ true → (moments_of C N).next m w ≡ true → (moments_of C N).ahead i w ≡ true → (moments_of C N).ahead i m ≡ true
  ahead_back i m w writes next ahead =
      let found = some_is (N.link m w) next in
      let link = names.links m w found.0 found.1 in
      let is = stores_inside C (row_on C i) writes in
      let at : IsMoment C (N.last w) = (names.named w (subst (λ (k : ℕ). k ≤ N.end) link.to_name (names.few found.0.to link.to))).0 in
      let there : WhollyAfter C (row (row_on C i)) found.0.to = after_from_last C sound N names (row (row_on C i)) is writes found.0.to link.to (subst (λ (k : ℕ). WhollyAfter C (row (row_on C i)) (N.last k)) (sym link.to_name) (after_true C sound (row (row_on C i)) (N.last w) is at ahead)) in
      let here : WhollyAfter C (row (row_on C i)) found.0.from = after_earlier C (row (row_on C i)) found.0.from found.0.to link.next.later.0 there in
      after_from C sound (row (row_on C i)) (N.last m) (subst (λ (k : ℕ). WhollyAfter C (row (row_on C i)) (N.last k)) link.from_name (after_to_last C sound N names (row (row_on C i)) is writes found.0.from link.from here))
