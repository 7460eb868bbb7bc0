-- The first word of a text, for the cursor over words.
use Rattle.std.specs.Prelude.{◌≡◌, ℕ, List, [], ◌∷◌}
use Rattle.script_text.specs.Lines.{words}

-- the first word of a text and what stands after it; no bytes where the text has no words
abbrev pub IsFirstWord : List ℕ → List ℕ → List ℕ → Type 0
IsFirstWord text [] rest = (words text ≡ []) × (words rest ≡ [])
IsFirstWord text (c ∷ cs) rest = words text ≡ (c ∷ cs) ∷ words rest
