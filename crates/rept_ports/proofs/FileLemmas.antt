-- A map's look-up by text is that in the list of its files.
use Rattle.std.proofs.Common.{◌≡◌, ℕ, List, [], ◌∷◌, ap, refl, sym, ◌∙◌, cond, string_bytes, String, true, false, Bool}
use Rattle.std.specs.Prelude.{Option, Some}
use Rattle.std.specs.Option.{option_map}
use Rattle.std.specs.Ordering.{nat_cmp}
use Rattle.std.specs.Cmp.Lexicographic.{slice_cmp}
use Rattle.std.specs.Str.{bytes_eq}
use Rattle.std.specs.BTreeMap.{BTreeMap, is_at, get_by_text, UpdatesBy}
use Rattle.std.specs.String.{string_cmp}
use Rattle.std.specs.Map.{lookup}
use Rattle.std.specs.Global.{Vec, Global}
use Rattle.std.proofs.lemmas.Map.Text.{is_eq-slice_cmp, btree_map_updates_text}
use Rattle.rept_ports.specs.FileList.{file_in, file_list}

at_entries : (es : List (String Global × Vec ℕ)) (name : List ℕ) → file_in (file_list es) name ≡ option_map (λ v. v.items) (lookup (is_at (λ k. slice_cmp nat_cmp name (string_bytes k))) es)
at_entries [] name = refl
at_entries (e ∷ es) name = rw (at_entries es name, is_eq-slice_cmp name (string_bytes e.0)) (either (bytes_eq name (string_bytes e.0)) e.1 _)
  where
    either : (b : Bool) (v : Vec ℕ) (o : Option (Vec ℕ)) → cond b (Some v.items) (option_map (λ v. v.items) o) ≡ option_map (λ v. v.items) (cond b (Some v) o)
    either true v o = refl
    either false v o = refl

pub file_in-list : (m : BTreeMap (String Global) (Vec ℕ)) (name : List ℕ) → file_in (file_list m.entries) name ≡ option_map (λ v. v.items) (get_by_text m name)
file_in-list m name = at_entries m.entries name

-- after a file was put, a look-up finds it, or what was found before
pub file_in-put : (key : String Global) (name : List ℕ) (v : Vec ℕ) (bytes : List ℕ) (m n : BTreeMap (String Global) (Vec ℕ)) → string_bytes key ≡ name → v.items ≡ bytes
    → UpdatesBy string_cmp (λ k. slice_cmp nat_cmp (string_bytes key) (string_bytes k)) m n (Some v)
    → (q : List ℕ) → file_in (file_list n.entries) q ≡ cond (bytes_eq name q) (Some bytes) (file_in (file_list m.entries) q)
file_in-put key name v bytes m n named filled updates q =
    file_in-list n q ∙ ap (option_map (λ v. v.items)) (btree_map_updates_text (string_bytes key) m n (Some v) updates q)
    ∙ ap (λ t. option_map (λ v. v.items) (cond (bytes_eq t q) (Some v) (get_by_text m q))) named
    ∙ either (bytes_eq name q) v (get_by_text m q)
    ∙ ap (λ bs. cond (bytes_eq name q) (Some bs) (option_map (λ v. v.items) (get_by_text m q))) filled
    ∙ ap (cond (bytes_eq name q) (Some bytes)) (sym (file_in-list m q))
  where
    either : (b : Bool) (v : Vec ℕ) (o : Option (Vec ℕ)) → option_map (λ v. v.items) (cond b (Some v) o) ≡ cond b (Some v.items) (option_map (λ v. v.items) o)
    either true v o = refl
    either false v o = refl
