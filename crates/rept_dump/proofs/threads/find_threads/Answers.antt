use Rattle.std.proofs.Common.{◌≡◌, ◌≤◌, ◌∙◌, length, inr, refl, sym, arith}
use Rattle.std.specs.List.{filter}
use Rattle.rept_dump.specs.Registers.{is_status, descs_of}
use Rattle.rept_dump.proofs.ThreadLemmas.{too_short, too_many, two_of_one, each_its_own, all_long, length-descs}
use Rattle.rept_dump.proofs.threads.find_threads.Goals as goal

pub returns-in-Some-clause-err : goal.returns-in-Some-clause-err
returns-in-Some-clause-err c =
    let told = c.in_ok-found.ensures.ok in
    inr (told.0, told.1, too_short (filter is_status told.0) c.in-Some.size (sym c.in-Some.is ∙ c.in_ok-short.ensures.ok told.0 told.1))

pub returns-then-found-clause-err : goal.returns-then-found-clause-err
returns-then-found-clause-err c =
    let told = c.in_ok-found.ensures.ok in
    let e = told.2.counted in
    inr (told.0, told.1, too_many (filter is_status told.0) c.in_ok-found.found.count e (sym (c.in_ok-short.ensures.ok told.0 told.1) ∙ c.in_default.is) c.if-found.true)

pub returns-in-Some-twin_of-clause-err : goal.returns-in-Some-twin_of-clause-err
returns-in-Some-twin_of-clause-err c =
    let told = c.in_ok-found.ensures.ok in
    let e = told.2.counted in
    let whole = sym (c.in_ok-short.ensures.ok told.0 told.1) ∙ c.in_default.is in
    let n : length (descs_of (filter is_status told.0)) ≡ c.in_ok-found.found.count = length-descs (filter is_status told.0) ∙ sym e in
    let twin = c.in-Some-twin_of.ensures (descs_of (filter is_status told.0)) (told.0, told.1, refl) (all_long (filter is_status told.0) whole) n in
    inr (told.0, told.1, two_of_one (filter is_status told.0) c.in_ok-found.found.count c.in-Some-twin_of.pid e c.if-found-eq0.false whole c.if-found.false twin)

pub unreachable-requires : goal.unreachable-requires
unreachable-requires c =
    let told = c.in_ok-found.ensures.ok in
    let e = told.2.counted in
    let some = c.if-found-eq0.false in
    let n : length (descs_of (filter is_status told.0)) ≡ c.in_ok-found.found.count = length-descs (filter is_status told.0) ∙ sym e in
    let none : length (descs_of (filter is_status told.0)) ≤ 0 = c.in-None.ensures (descs_of (filter is_status told.0)) (told.0, told.1, refl) in
    some (omega arith)

pub returns-clause-ok : goal.returns-clause-ok
returns-clause-ok c =
    let told = c.in_ok-found.ensures.ok in
    let e = told.2.counted in
    let whole = sym (c.in_ok-short.ensures.ok told.0 told.1) ∙ c.in_default.is in
    let n : length (descs_of (filter is_status told.0)) ≡ c.in_ok-found.found.count = length-descs (filter is_status told.0) ∙ sym e in
    let long = all_long (filter is_status told.0) whole in
    let none = c.in_default-twin_of.ensures (descs_of (filter is_status told.0)) (told.0, told.1, refl) long n in
    let first = c.in-Some-search_core.ensures (descs_of (filter is_status told.0)) (told.0, told.1, refl) in (
      record { descs = descs_of (filter is_status told.0); have = (told.0, told.1, refl); first_is = first; counted = n; long = long },
      inr (told.0, told.1, each_its_own (filter is_status told.0) c.in_ok-found.found.count e c.if-found-eq0.false whole c.if-found.false none),
    )
