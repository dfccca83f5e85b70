use Rattle.std.proofs.Common.{◌≡◌, ◌++◌, map, ap, sym, ◌∙◌, arith, true, false}
use Rattle.std.proofs.lemmas.Bool.Decides.{nat_tests}
use Rattle.std.proofs.lemmas.List.{length-map}
use Rattle.std.specs.Prelude.{is_some, not}
use Rattle.rept_maps.specs.NamesLeft.{names_left}
use Rattle.rept_maps.specs.Mapfiles.Kept.{distinct_from, place_in}
use Rattle.rept_maps.proofs.MapfilesLemmas.Distinct.{asked_end, asked_full, asked_next, asked_same, map_push}
use Rattle.rept_maps.proofs.mapfiles.names.asked_names.Goals as goal

pub returns-then-len-eq-MOST_NAMES : goal.returns-then-len-eq-MOST_NAMES
returns-then-len-eq-MOST_NAMES c =
    let seen = map (λ n. n.now) c.loop-name.asked.items in
    sym (asked_full _ seen _ 64 c.loop-name.invariant.0 (omega (arith, length-map c.loop-name.asked.items (λ n. n.now), c.len.ensures, c.if-len-eq-MOST_NAMES.true)))

pub loop-name-preserved-in-Continue-1 : goal.loop-name-preserved-in-Continue-1
loop-name-preserved-in-Continue-1 c =
    let seen = map (λ n. n.now) c.loop-name.asked.items in
    let place = c.place_of.ensures ∙ ap (λ ns. place_in (map (λ n. n.now) ns) c.in-Some.name.now) c.as_slice.ensures.value in
    let fresh : is_some (place_in seen c.in-Some.name.now) ≡ false = ap is_some (sym place) ∙ c.is_none.ensures ∙ ap not c.if-is_none.true in (
      asked_next _ seen (map (λ n. n.now) c.push.new.self.items) (names_left c.loop-name.names) (names_left c.next.new.self) c.in-Some.name.now c.in-Some.ensures
          (ap (map (λ n. n.now)) c.in_ok-push.ensures.items ∙ map_push (λ n. n.now) c.loop-name.asked.items c.in-Some.name) fresh c.loop-name.invariant.0,
      grind (arith, nat_tests, c.loop-name.invariant.1, c.len.ensures, c.if-len-eq-MOST_NAMES.false, c.in_ok-push.ensures.len),
    )

pub loop-name-preserved : goal.loop-name-preserved
loop-name-preserved c =
    let seen = map (λ n. n.now) c.loop-name.asked.items in
    let place = c.place_of.ensures ∙ ap (λ ns. place_in (map (λ n. n.now) ns) c.in-Some.name.now) c.as_slice.ensures.value in
    let met : is_some (place_in seen c.in-Some.name.now) ≡ true = ap is_some (sym place) ∙ c.is_none.ensures ∙ ap not c.if-is_none.false in (
      asked_same _ seen (names_left c.loop-name.names) (names_left c.next.new.self) c.in-Some.name.now c.in-Some.ensures met c.loop-name.invariant.0,
      c.loop-name.invariant.1,
    )

pub returns : goal.returns
returns c =
    let seen = map (λ n. n.now) c.loop-name.asked.items in
    sym (asked_end _ seen 64 (c.loop-name.invariant.0 ∙ ap (λ ns. seen ++ distinct_from seen ns) c.in_default.ensures.0) (omega (arith, length-map c.loop-name.asked.items (λ n. n.now), c.loop-name.invariant.1)))
