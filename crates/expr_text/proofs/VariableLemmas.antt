-- The table that kept entries make, seen by what is looked up in it.
use Rattle.std.proofs.Common.{◌≡◌, ℕ, ◌<◌, ◌≤◌, Bool, true, false, cond, List, [], ◌∷◌, length, map, refl, sym, ap, ◌∙◌, arith}
use Rattle.std.specs.Prelude.{Option, Some, None, option_map}
use Rattle.std.specs.Ordering.{nat_cmp}
use Rattle.std.specs.Cmp.{eq_by_cmp_equiv}
use Rattle.std.specs.Cmp.Lexicographic.{slice_cmp, nat_list_cmp_total, texts_ties, same_text}
use Rattle.std.specs.FinMap.{get, insert, find, get-insert, get-from_entries, same_map, slice_cmp-IsAntisymmetric, nat_cmp-IsAntisymmetric}
use Rattle.std.specs.Map.{lookup}
use Rattle.std.specs.Str.{bytes_eq}
use Rattle.flk_base.specs.Buffer.{Buffer}
use Rattle.expr_text.specs.Variables.{Table, table_of, HasShortNames}
use Rattle.expr_text.specs.declared.name.TheConstants.{LONGEST_NAME}

abbrev pub bytes_of : Option Buffer → Option (List ℕ)
bytes_of kept = option_map (λ b. b.bytes) kept

abbrev Entries : Type 0
Entries = List (List ℕ × Buffer)

picked : (b : Bool) (x : Buffer) (o : Option Buffer)
    → cond b (Some x.bytes) (bytes_of o) ≡ bytes_of (cond b (Some x) o)
picked true x o = refl
picked false x o = refl

found : (es : Entries) (q : List ℕ)
    → find (slice_cmp nat_cmp) q (map (λ e. (e.0, e.1.bytes)) es)
    ≡ bytes_of (lookup (bytes_eq q) es)
found [] q = refl
found (e ∷ es) q =
    ap (λ b. cond b (Some e.1.bytes) (find (slice_cmp nat_cmp) q (map (λ e. (e.0, e.1.bytes)) es)))
    (sym (texts_ties q e.0))
    ∙ ap (cond (bytes_eq q e.0) (Some e.1.bytes)) (found es q)
    ∙ picked (bytes_eq q e.0) e.1 (lookup (bytes_eq q) es)

-- what the table has at a name
pub get-table_of : (es : Entries) (q : List ℕ)
    → get (table_of es) q ≡ bytes_of (lookup (bytes_eq q) es)
get-table_of es q =
    get-from_entries nat_list_cmp_total (map (λ e. (e.0, e.1.bytes)) es) q ∙ found es q

same : (m n : Table) → ((q : List ℕ) → get m q ≡ get n q) → m ≡ n
same m n h = same_map nat_list_cmp_total (slice_cmp-IsAntisymmetric nat_cmp-IsAntisymmetric) m n h

-- entries that answer alike make one table
pub same_tables : (fs es : Entries)
    → ((q : List ℕ) → lookup (bytes_eq q) fs ≡ lookup (bytes_eq q) es) → table_of fs ≡ table_of es
same_tables fs es h =
    same _ _ (λ q. get-table_of fs q ∙ ap bytes_of (h q) ∙ sym (get-table_of es q))

-- entries that differ at one name make tables that differ there
pub one_bound : (fs es : Entries) (k : List ℕ) (b : Buffer)
    → ((q : List ℕ)
    → lookup (bytes_eq q) fs ≡ cond (bytes_eq k q) (Some b) (lookup (bytes_eq q) es))
    → table_of fs ≡ insert (table_of es) k b.bytes
one_bound fs es k b h = same _ _ (λ q.
    get-table_of fs q ∙ ap bytes_of (h q) ∙ sym (picked (bytes_eq k q) b (lookup (bytes_eq q) es))
    ∙ ap (λ t. cond t (Some b.bytes) (bytes_of (lookup (bytes_eq q) es)))
    (texts_ties k q ∙ (eq_by_cmp_equiv nat_list_cmp_total).symm k q)
    ∙ sym (get-insert nat_list_cmp_total (table_of es) k b.bytes q
    ∙ ap (cond _ (Some b.bytes)) (get-table_of es q)))

pub short_same : (fs es : Entries)
    → ((q : List ℕ) → lookup (bytes_eq q) fs ≡ lookup (bytes_eq q) es) → HasShortNames es
    → HasShortNames fs
short_same fs es h short q long = h q ∙ short q long

other : (k q : List ℕ) (t : Bool) (x o : Option Buffer) → bytes_eq k q ≡ t → length k ≤ LONGEST_NAME
    → LONGEST_NAME < length q → cond t x o ≡ o
other k q true x o e low high =
    let s : length k ≡ length q = ap length (same_text k q (sym e)) in absurd (omega arith)
other k q false x o e low high = refl

-- a short name is bound
pub short_bound : (fs es : Entries) (k : List ℕ) (b : Buffer)
    → ((q : List ℕ)
    → lookup (bytes_eq q) fs ≡ cond (bytes_eq k q) (Some b) (lookup (bytes_eq q) es))
    → length k ≤ LONGEST_NAME → HasShortNames es → HasShortNames fs
short_bound fs es k b h low short q high =
    h q ∙ other k q (bytes_eq k q) (Some b) (lookup (bytes_eq q) es) refl low high ∙ short q high

-- what is found among the entries is what the table has
pub got : (es : Entries) (q k : List ℕ) (t : Table) (o : Option Buffer) → table_of es ≡ t → k ≡ q
    → o ≡ lookup (bytes_eq k) es → bytes_of o ≡ get t q
got es q k t o same_table same_name is =
    ap bytes_of (is ∙ ap (λ name. lookup (bytes_eq name) es) same_name) ∙ sym (get-table_of es q)
    ∙ ap (λ table. get table q) same_table

-- no long name is bound
pub none_long : (es : Entries) (q : List ℕ) (t : Table) → table_of es ≡ t → HasShortNames es
    → LONGEST_NAME < length q → None ≡ get t q
none_long es q t same_table short long =
    ap bytes_of (sym (short q long)) ∙ got es q q t (lookup (bytes_eq q) es) same_table refl refl
