-- How clauses see what lines gave.
use Rattle.std.specs.Prelude.{◌≡◌, ℕ, List, map, Result, Ok, MatchResult}
use Rattle.std.specs.Ordering.{nat_cmp}
use Rattle.std.specs.Cmp.Lexicographic.{slice_cmp}
use Rattle.std.specs.BTreeMap.{BTreeMap, get}
use Rattle.std.specs.declared.cmp.Ordering.{Ordering}
use Rattle.pal_asm.specs.declared.fault.AsmKind.{AsmKind}
use Rattle.pal_asm.specs.declared.fault.AsmError.{AsmError}
use Rattle.pal_asm.specs.declared.fault.LineFault.{LineFault}
use Rattle.pal_asm.specs.declared.name.Name.{Name}
use Rattle.pal_asm.specs.declared.placed.PlacedStatement.{PlacedStatement as HeldPlaced}
use Rattle.pal_asm.specs.declared.draft.Draft.{Draft as HeldDraft}
use Rattle.pal_asm.specs.Assembling.{Line, PlacedStatement, Draft, value_of, at_line, with_line, line_in, line_tokens}
use Rattle.pal_asm.specs.Seen.{Refuses, RefusesLine}
use Rattle.pal_asm.specs.SeenStatements.{statement_view}

-- the order of names
abbrev pub name_cmp : Name → Name → Ordering
name_cmp = slice_cmp nat_cmp

-- the map has the value of each label
abbrev pub HasLabels : BTreeMap Name ℕ → List (Name × ℕ) → Type 0
HasLabels held labels = (name : Name) → get name_cmp held name ≡ value_of labels name

-- a statement with its line and its offset
abbrev pub placed_view : HeldPlaced → PlacedStatement
placed_view p = record { line = p.line; at = p.at; statement = statement_view p.statement }

-- what the code holds stands for what lines gave
pub record Stands (held : HeldDraft) (draft : Draft) : Type 0 where
  pub labels : HasLabels held.labels draft.labels
  pub placed : map placed_view held.placed.items ≡ draft.placed
  pub end : held.end ≡ draft.end

-- a line was added, or has this fault
abbrev pub Adds : {T : Type 0} → ℕ → Draft → HeldDraft → Result Line AsmKind
    → Result T LineFault → Type 0
Adds number before after line result =
    MatchResult result (λ _. (l : Line) × (line ≡ Ok l) × Stands after (with_line number before l))
    (λ fault. RefusesLine fault line)

-- the same of a line with its number
abbrev pub AddsLine : {T : Type 0} → ℕ → Draft → HeldDraft → List ℕ → Result T AsmError → Type 0
AddsLine number before after line result =
    MatchResult result
    (λ _. (l : Line) × (at_line number (line_in before (line_tokens line)) ≡ Ok l)
    × Stands after (with_line number before l))
    (λ error. Refuses error (at_line number (line_in before (line_tokens line))))
