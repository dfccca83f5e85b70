-- The slices of all stretches lead on to one another, and so do those of each thread.
use Rattle.std.proofs.Common.{◌≡◌, inl, inr, ℕ, suc, ◌+◌, ◌-◌, ◌==◌, List, [], ◌∷◌, ◌++◌, length, map, reverse, drop, Bool, true, false, cond, Option, Some, None, refl, sym, ◌∙◌, ap, subst, arith, append_assoc}
use Rattle.std.specs.Prelude.{is_none, nat_le}
use Rattle.std.specs.List.{filter}
use Rattle.rept_trace.specs.declared.packet.Packet.{Packet}
use Rattle.rept_path.specs.Code.{Code}
use Rattle.rept_streams.specs.Slices.Stamps.{is_start, address_of}
use Rattle.rept_streams.specs.Slices.Parts.{ToldSlice, thread_of, begin_of, told_from, slices_told}
use Rattle.rept_streams.specs.Slices.Skipping.{kept}
use Rattle.rept_streams.specs.Slices.Order.{put, by_time, slices_of}
use Rattle.rept_streams.specs.Slices.Stretches.{same_stretch, stretch, heads, StretchLegs, last_place, origin_after, count_of, Goes as GoesBy, Walks as AreWalks, RanSlice, within, ran_by, ran_in, ran}
use Rattle.rept_streams.specs.Slices.Joins.{of_thread}
use Rattle.rept_streams.specs.Threads.Linking.{GoesFromTo, Chained}
use Rattle.rept_streams.proofs.SlicesLemmas.InTime.{Each, each_by_time, each_filter}
use Rattle.rept_streams.proofs.SlicesLemmas.Whether.{Started, starts_told}
use Rattle.rept_streams.proofs.SlicesLemmas.Following.{From, Following, kept_follow}
use Rattle.rept_streams.proofs.SlicesLemmas.Packs.{kind, stretch_on, Cut}
use Rattle.rept_streams.proofs.ThreadsLemmas.Routed.{none_begins, Rowed, rowed, Steered}
use Rattle.rept_streams.proofs.ThreadsLemmas.Gathering.{inner_slices, gathered}
use Rattle.rept_streams.proofs.ThreadsLemmas.Steering.{Locals, stretch_locals}
use Rattle.rept_streams.proofs.ThreadsLemmas.Walking.{Earlier, before_earlier, follow_there, started_there, none_before}
use Rattle.rept_streams.proofs.ThreadsLemmas.Nexting.{InPlace, in_place, Apt, chained}

-- the slices after the first one of a stretch begin while the trace runs
abbrev Running : List RanSlice → Type 0
Running rs = Each (λ (r : RanSlice). is_none r.told.inside ≡ false) rs

abbrev pub HeadRan : List RanSlice → Type 0
HeadRan [] = Unit {0}
HeadRan (r ∷ rs) = r.told.inside ≡ None

inner_running : (code : Code) (w : StretchLegs) (ts : List ToldSlice) → Running (map (ran_by code w) (inner_slices ts))
inner_running code w [] = tt
inner_running code w (t ∷ ts) = go (is_none t.inside) refl (inner_running code w ts) where
  go : (b : Bool) → is_none t.inside ≡ b → Running (map (ran_by code w) (inner_slices ts)) → Running (map (ran_by code w) (cond b [] (t ∷ inner_slices ts)))
  go true e r = tt
  go false e r = (e, r)

chained_append : (r : RanSlice) (rs ys : List RanSlice) → Locals (r ∷ rs) → Running rs → Chained ys → HeadRan ys → Chained ((r ∷ rs) ++ ys)
chained_append r [] [] l n c h = (l.0, tt)
chained_append r [] (y ∷ ys) l n c h = (subst (λ (a : ℕ). GoesFromTo r.rows (address_of r.told.start) a) (sym (ap (λ (o : Option ℕ). cond (is_none o) r.last.at (address_of y.told.start)) h)) l.0, c)
chained_append r (q ∷ rs) ys l n c h = (subst (λ (a : ℕ). GoesFromTo r.rows (address_of r.told.start) a) (sym (ap (λ (b : Bool). cond b r.last.at (address_of q.told.start)) n.0)) l.0, chained_append q rs ys l.1 n.1 c h)

module _ (code : Code) (ts : List ToldSlice) where
  -- the slices of one stretch
  own_locals : (before later : List ToldSlice) (count : ℕ) (w : StretchLegs) → ts ≡ before ++ w.head ∷ later → Each Started (before ++ w.head ∷ later) → Following (before ++ w.head ∷ later) → GoesBy code count w → Locals (ran_in code ts w)
  own_locals before later count w e s f g = elim (kind w.head.start) [
    | inr j ↦ absurd (elim j [ inl i ↦ wrong i.start | inr i ↦ wrong i.start ])
    | inl o ↦
        let t = w.head in
        let x = follow_there before w.head later f in
        let starts = started_there before w.head later s in
        let sheet : Rowed code w.head.start (same_stretch false w.head.later) w.legs = rowed code (origin_after count w.head) w.head.start (same_stretch false w.head.later) w.legs starts o.waits (none_begins false w.head.later) g in
        let long : same_stretch false (w.head.start ∷ w.head.later) ≡ stretch w.head = stretch_on w.head.start false false w.head.later (o.begins false) (o.waits false) in
        let size = ap (length {A = Packet}) long in
        let zero_is : w.head.number - w.head.number ≡ 0 = omega arith in
        let steered : Steered (address_of w.head.start) (stretch w.head) ([] ∷ sheet.later) (last_place code w).at = (address_of w.head.start, refl, (λ k. refl), sheet.steered) in
        let after = x.after in
        let there = stretch_locals code w (w.head.start ∷ w.head.later) w.head.stream w.head.number w.head.inside x.others ([] ∷ sheet.later) (address_of w.head.start) (omega arith) (omega (arith, size))
        (subst (λ (m : ℕ). Each (From m) x.others) (let m : w.head.number + 1 + length w.head.later ≡ w.head.number + suc (length w.head.later) = omega arith in m) after)
        (ap (λ (j : ℕ). drop j (reverse w.legs)) zero_is ∙ sheet.all)
        (subst (λ (ps : List Packet). Cut false ps ([] ∷ sheet.later)) (sym long) sheet.cut)
        (subst (λ (ps : List Packet). Steered (address_of w.head.start) ps ([] ∷ sheet.later) (last_place code w).at) (sym long) steered) in
        let here_ran : map (ran_by code w) (filter (within w) (told_from w.head.stream w.head.number w.head.inside (w.head.start ∷ w.head.later) ++ x.others)) ≡ ran_in code ts w =
        ap (λ (xs : List ToldSlice). map (ran_by code w) (filter (within w) xs)) (sym x.same) ∙ ap (map (ran_by code w)) (sym (none_before w before (w.head ∷ later) (before_earlier before w.head later s f))) ∙ ap (λ (xs : List ToldSlice). map (ran_by code w) (filter (within w) xs)) (sym e) in
        subst Locals here_ran there
  ] where
    wrong : is_start w.head.start ≡ false → ⊥
    wrong h = let starts : is_start w.head.start ≡ true = started_there before w.head later s in cc

  chain : (before later : List ToldSlice) (count : ℕ) (ws : List StretchLegs) → ts ≡ before ++ later → Each Started (before ++ later) → Following (before ++ later) → AreWalks code count (heads later) ws → Chained (ran code ts ws) × HeadRan (ran code ts ws)
  chain before [] count ws e s f a = subst (λ (vs : List StretchLegs). Chained (ran code ts vs) × HeadRan (ran code ts vs)) (sym a) (tt, tt)
  chain before (t ∷ later) count ws e s f a = go t.inside refl ws a (λ n vs b. chain (before ++ t ∷ []) later n vs (e ∙ sym shift) (subst (Each Started) (sym shift) s) (subst Following (sym shift) f) b) where
    shift : (before ++ t ∷ []) ++ later ≡ before ++ t ∷ later
    shift = append_assoc before (t ∷ []) later

    go : (o : Option ℕ) → t.inside ≡ o → (ws : List StretchLegs) → AreWalks code count (cond (is_none t.inside) (t ∷ heads later) (heads later)) ws
        → ((n : ℕ) (vs : List StretchLegs) → AreWalks code n (heads later) vs → Chained (ran code ts vs) × HeadRan (ran code ts vs)) → Chained (ran code ts ws) × HeadRan (ran code ts ws)
    go (Some x) is ws a more = more count ws (subst (λ (o : Option ℕ). AreWalks code count (cond (is_none o) (t ∷ heads later) (heads later)) ws) is a)
    go None is [] a more = absurd (subst (λ (o : Option ℕ). AreWalks code count (cond (is_none o) (t ∷ heads later) (heads later)) []) is a)
    go None is (w ∷ vs) a more =
        let b = subst (λ (o : Option ℕ). AreWalks code count (cond (is_none o) (t ∷ heads later) (heads later)) (w ∷ vs)) is a in
        let y = follow_there before t later f in
        let number = ap (λ (u : ToldSlice). u.number) b.0 in
        let early = subst (λ (n : ℕ). Each (Earlier n) before) (sym number) (before_earlier before t later s f) in
        let own : filter (within w) ts ≡ t ∷ inner_slices later = ap (filter (within w)) e ∙ none_before w before (t ∷ later) early ∙ gathered w t later y.others b.0 (started_there before t later s) y.same y.after y.heads in
        let at : before ++ t ∷ later ≡ before ++ w.head ∷ later = ap (λ (u : ToldSlice). before ++ u ∷ later) (sym b.0) in
        let local = own_locals before later count w (e ∙ at) (subst (Each Started) at s) (subst Following at f) b.1 in
        let parts : ran_in code ts w ≡ ran_by code w t ∷ map (ran_by code w) (inner_slices later) = ap (map (ran_by code w)) own in
        let rest = more (count + count_of code w) vs b.2 in
        let all : Chained ((ran_by code w t ∷ map (ran_by code w) (inner_slices later)) ++ ran code ts vs) = chained_append (ran_by code w t) (map (ran_by code w) (inner_slices later)) (ran code ts vs) (subst Locals parts local) (inner_running code w later) rest.0 rest.1 in
        (subst (λ (rs : List RanSlice). Chained (rs ++ ran code ts vs)) (sym parts) all, subst (λ (rs : List RanSlice). HeadRan (rs ++ ran code ts vs)) (sym parts) is)

-- what of_thread tells
module _ (process : ℕ) where
  tell_put : (r : RanSlice) (rs : List RanSlice) → map (λ (q : RanSlice). q.told) (put (λ (q : RanSlice). begin_of q.told) r rs) ≡ put begin_of r.told (map (λ (q : RanSlice). q.told) rs)
  tell_put r [] = refl
  tell_put r (q ∷ rs) = go (nat_le (begin_of r.told) (begin_of q.told)) (tell_put r rs) where
    go : (b : Bool) → map (λ (q : RanSlice). q.told) (put (λ (q : RanSlice). begin_of q.told) r rs) ≡ put begin_of r.told (map (λ (q : RanSlice). q.told) rs)
        → map (λ (q : RanSlice). q.told) (cond b (r ∷ q ∷ rs) (q ∷ put (λ (q : RanSlice). begin_of q.told) r rs)) ≡ cond b (r.told ∷ q.told ∷ map (λ (q : RanSlice). q.told) rs) (q.told ∷ put begin_of r.told (map (λ (q : RanSlice). q.told) rs))
    go true h = refl
    go false h = ap (λ (ts : List ToldSlice). q.told ∷ ts) h

  tell_by_time : (rs : List RanSlice) → map (λ (q : RanSlice). q.told) (by_time (λ (q : RanSlice). begin_of q.told) rs) ≡ by_time begin_of (map (λ (q : RanSlice). q.told) rs)
  tell_by_time [] = refl
  tell_by_time (r ∷ rs) = tell_put r (by_time (λ (q : RanSlice). begin_of q.told) rs) ∙ ap (put begin_of r.told) (tell_by_time rs)

  tell_filter : (rs : List RanSlice) → map (λ (q : RanSlice). q.told) (filter (λ (q : RanSlice). thread_of q.told == process) rs) ≡ filter (λ (t : ToldSlice). thread_of t == process) (map (λ (q : RanSlice). q.told) rs)
  tell_filter [] = refl
  tell_filter (r ∷ rs) = go (thread_of r.told == process) (tell_filter rs) where
    go : (b : Bool) → map (λ (q : RanSlice). q.told) (filter (λ (q : RanSlice). thread_of q.told == process) rs) ≡ filter (λ (t : ToldSlice). thread_of t == process) (map (λ (q : RanSlice). q.told) rs)
        → map (λ (q : RanSlice). q.told) (cond b (r ∷ filter (λ (q : RanSlice). thread_of q.told == process) rs) (filter (λ (q : RanSlice). thread_of q.told == process) rs)) ≡ cond b (r.told ∷ filter (λ (t : ToldSlice). thread_of t == process) (map (λ (q : RanSlice). q.told) rs)) (filter (λ (t : ToldSlice). thread_of t == process) (map (λ (q : RanSlice). q.told) rs))
    go true h = ap (λ (ts : List ToldSlice). r.told ∷ ts) h
    go false h = h

  tell_thread : (rs : List RanSlice) → map (λ (q : RanSlice). q.told) (of_thread process rs) ≡ slices_of process (map (λ (q : RanSlice). q.told) rs)
  tell_thread rs = tell_by_time (filter (λ (q : RanSlice). thread_of q.told == process) rs) ∙ ap (by_time begin_of) (tell_filter rs)

-- the slices of a thread, where no two of them meet
pub thread_chained : (code : Code) (rs : List RanSlice) (ts : List ToldSlice) (process : ℕ) → map (λ (r : RanSlice). r.told) rs ≡ ts → Chained rs → Apt ts (slices_of process ts) → Chained (of_thread process rs)
thread_chained code rs ts process told_are c a =
    let places : Each (InPlace rs) rs = in_place [] rs c in
    let own = each_by_time (λ (r : RanSlice). begin_of r.told) (InPlace rs) (filter (λ (r : RanSlice). thread_of r.told == process) rs) (each_filter (InPlace rs) (λ (r : RanSlice). thread_of r.told == process) rs places) in
    let same : slices_of process ts ≡ map (λ (r : RanSlice). r.told) (of_thread process rs) = sym (tell_thread process rs ∙ ap (slices_of process) told_are) in
    chained rs ts told_are [] (of_thread process rs) (subst (Apt ts) same a) own

-- all slices
pub all_chained : (code : Code) (from : ℕ) (lists : List (List Packet)) (ws : List StretchLegs) → AreWalks code 0 (heads (slices_told (kept from lists))) ws → Chained (ran code (slices_told (kept from lists)) ws)
all_chained code from lists ws a = (chain code (slices_told (kept from lists)) [] (slices_told (kept from lists)) 0 ws refl (starts_told (kept from lists)) (kept_follow from lists) a).0
