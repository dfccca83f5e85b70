use Rattle.std.proofs.Common.{◌≡◌, List, length, Some, slice_get, refl, ◌∙◌, subst}
use Rattle.std.proofs.lemmas.Option.{slice_get_read}
use Rattle.rept_report.specs.declared.paths.NumberWindow.{NumberWindow}
use Rattle.rept_moments.specs.Several.{seen_of}
use Rattle.rept_extents.specs.Timelines.{as_timeline}
use Rattle.rept_extents.proofs.Acting.{extent_listed}
use Rattle.rept_extents.proofs.extents.Extents.among.Goals as goal

pub returns-in-Some : goal.returns-in-Some
returns-in-Some c =
    let there : slice_get c.args.self.now c.args.row ≡ Some c.in-Some.window.now = subst (λ (xs : List NumberWindow). slice_get xs c.args.row ≡ Some c.in-Some.window.now) (c.deref.ensures.value ∙ c.self.view_is) (slice_get_read c.deref.result.now (length c.deref.result.now) c.args.row c.in-Some.window.now refl c.in-Some.ensures.lookup.3.0 c.in-Some.ensures.lookup.1) in
    extent_listed (as_timeline (seen_of c.args.many.now)) c.args.self.now c.args.row c.in-Some.window.now c.requires.extents there c.requires.row
