-- What a report knows of a path holds in each execution of it.
use Rattle.std.proofs.Common.{◌≡◌, ℕ, ◌<◌, ◌≤◌, ◌^◌, Bool, true, false, length, Option, Some, None, refl, sym, subst, ◌∙◌, arith}
use Rattle.std.specs.Prelude.{nat_lt, if◌then◌else◌}
use Rattle.rept_machine.specs.State.{State}
use Rattle.rept_known.specs.declared.both.Both.{Both}
use Rattle.rept_known.specs.Both.{both_has, both_sets}
use Rattle.rept_known.specs.Laws.BothLaws.{both_lawful}
use Rattle.rept_report.specs.OneThread.{ThreadPath}
use Rattle.rept_found.specs.Crash.{Means}
use Rattle.rept_found.specs.Truth.{IsTrueOf}
use Rattle.rept_found.specs.View.{CrashView, set_in}
use Rattle.rept_narrow.specs.Admitted.{Story}
use Rattle.rept_infer.specs.Holding.{Holds, holding_of}
use Rattle.rept_found.specs.Inferred.Known.{byte_known, or_all, set_known, shown_in}

module _ {R : Type 0} (m : Means Both) (v : CrashView Both R) (P : ThreadPath Both) (story : Story) (run : ℕ → State) (same : length story.rows ≡ length P.given.rows)
    (words : (p r : ℕ) → p ≤ length P.given.rows → (run p).register r < 2 ^ 32) (sets : (p r : ℕ) (w : Both) → p ≤ length P.given.rows → set_in m v p r ≡ Some w → both_has w ((run p).register r) ≡ true)
    (moments : (p : ℕ) → p ≤ length P.given.rows → (shown_in m v).moment p ≡ p) (t : IsTrueOf P (shown_in m v) run) where
  is_set : (b : Bool) (u w : Both) → (if b then Some u else None) ≡ Some w → u ≡ w
  is_set true u w e = cc
  is_set false u w e = let bad : ⊥ = cc in absurd bad

  has_any : (p r : ℕ) → p ≤ length P.given.rows → (o : Option Both) → set_in m v p r ≡ o → both_has (or_all o) ((run p).register r) ≡ true
  has_any p r early None e = both_lawful.unknown ((run p).register r) (words p r early)
  has_any p r early (Some w) e = sets p r w early e

  has_known : (p r : ℕ) → p ≤ length P.given.rows → (b : Bool) → both_has (if b then or_all (set_in m v p r) else both_sets.unknown) ((run p).register r) ≡ true
  has_known p r early true = has_any p r early (set_in m v p r) refl
  has_known p r early false = both_lawful.unknown ((run p).register r) (words p r early)

  byte_there : (p a x : ℕ) → p ≤ length P.given.rows → (b : Bool) → (if b then (shown_in m v).byte ((shown_in m v).moment p) a else None) ≡ Some x → (run p).memory a ≡ x
  byte_there p a x early true e = t.bytes p a x (subst (λ (k : ℕ). (shown_in m v).byte k a ≡ Some x) (moments p early) e)
  byte_there p a x early false e = let bad : ⊥ = cc in absurd bad

  -- the sets and bytes of the report
  pub known_holds : Holds story (holding_of (set_known m v) (byte_known m v)) run
  known_holds = record {
    sets = λ p r w early e. let at : p ≤ length P.given.rows = omega (arith, same, early) in
        subst (λ (x : Both). both_has x ((run p).register r) ≡ true) (is_set (nat_lt r 32) (set_known m v p r) w e) (has_known p r at (nat_lt p (shown_in m v).points));
    bytes = λ p a x early e. let at : p ≤ length P.given.rows = omega (arith, same, early) in byte_there p a x at (nat_lt p (shown_in m v).points) e;
  }
