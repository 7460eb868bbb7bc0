-- The map of labels has what the list of labels says.
use Rattle.std.proofs.Common.{◌≡◌, ℕ, Bool, true, false, cond, List, [], ◌∷◌, ◌++◌, refl, sym, ap, ◌∙◌, subst, Ordering}
use Rattle.std.specs.Prelude.{Option, Some, None, option_map, is_some, find, if◌then◌else◌}
use Rattle.std.specs.declared.cmp.Ordering.TheVariants.{Less, Equal, Greater}
use Rattle.std.specs.Ordering.{is_eq}
use Rattle.std.specs.Str.{bytes_eq}
use Rattle.std.specs.BTreeMap.{BTreeMap, get, is_at}
use Rattle.std.proofs.lemmas.Map.Text.{is_eq-slice_cmp}
use Rattle.std.proofs.lemmas.Map.Lookups.{exact_bytes}
use Rattle.pal_asm.specs.declared.name.Name.{Name}
use Rattle.pal_asm.specs.Names.{or_else}
use Rattle.pal_asm.specs.Assembling.{value_of, is_defined, with_label}
use Rattle.pal_asm.specs.SeenDraft.{name_cmp, HasLabels}

is_equal : (o : Ordering) → is_eq o ≡ true → o ≡ Equal
is_equal Less h = cc
is_equal Equal h = refl
is_equal Greater h = cc

-- the value that one more label gives a name
abbrev last : Name → ℕ → Name → Option ℕ
last name at q = if bytes_eq name q then Some at else None

only : (name q : Name) (at : ℕ) (b : Bool) → bytes_eq name q ≡ b
    → value_of ((name, at) ∷ []) q ≡ last name at q
only name q at true h = rw h refl
only name q at false h = rw h refl

more_by : (e : Name × ℕ) (ls : List (Name × ℕ)) (name q : Name) (at : ℕ) (b : Bool)
    → bytes_eq e.0 q ≡ b
    → value_of (ls ++ (name, at) ∷ []) q ≡ or_else (value_of ls q) (last name at q)
    → value_of (e ∷ ls ++ (name, at) ∷ []) q ≡ or_else (value_of (e ∷ ls) q) (last name at q)
more_by e ls name q at true h ih = rw h refl
more_by e ls name q at false h ih = rw h ih

more : (ls : List (Name × ℕ)) (name q : Name) (at : ℕ)
    → value_of (ls ++ (name, at) ∷ []) q ≡ or_else (value_of ls q) (last name at q)
more [] name q at = only name q at (bytes_eq name q) refl
more (e ∷ ls) name q at = more_by e ls name q at (bytes_eq e.0 q) refl (more ls name q at)

absent : (o : Option ℕ) → is_some o ≡ false → o ≡ None
absent None h = refl
absent (Some n) h = cc

no_else : (o : Option ℕ) → or_else o None ≡ o
no_else None = refl
no_else (Some n) = refl

updated : (ls : List (Name × ℕ)) (name q : Name) (at : ℕ) (b : Bool) → is_eq (name_cmp name q) ≡ b
    → value_of ls name ≡ None
    → cond b (Some at) (value_of ls q) ≡ or_else (value_of ls q) (last name at q)
updated ls name q at true e n =
    let same : name ≡ q = exact_bytes name q (is_equal (name_cmp name q) e) in
    let none : value_of ls q ≡ None =
    ap (λ bytes. option_map (λ (x : Name × ℕ). x.1)
    (find (λ (x : Name × ℕ). bytes_eq x.0 bytes) ls)) (sym same) ∙ n in
    let here : bytes_eq name q ≡ true = sym (is_eq-slice_cmp name q) ∙ e in
    rw (none, here) refl
updated ls name q at false e n =
    let other : bytes_eq name q ≡ false = sym (is_eq-slice_cmp name q) ∙ e in
    rw other (sym (no_else (value_of ls q)))

-- a map with one more label
pub defined : (old new : BTreeMap Name ℕ) (label : Option Name) (name : Name) (at : ℕ)
    (ls : List (Name × ℕ)) → label ≡ Some name
    → ((q : Name) → get name_cmp new q ≡ cond (is_at (name_cmp name) q) (Some at)
    (get name_cmp old q)) → HasLabels old ls → is_defined ls label ≡ false
    → HasLabels new (with_label label at ls)
defined old new label name at ls e u h d =
    let absent_name : value_of ls name ≡ None =
    absent (value_of ls name) (ap (is_defined ls) (sym e) ∙ d) in
    let one : (q : Name) → get name_cmp new q ≡ value_of (ls ++ (name, at) ∷ []) q =
    λ q. u q ∙ ap (cond (is_eq (name_cmp name q)) (Some at)) (h q)
    ∙ updated ls name q at (is_eq (name_cmp name q)) refl absent_name
    ∙ sym (more ls name q at) in
    subst (λ l. HasLabels new (with_label l at ls)) (sym e) one
