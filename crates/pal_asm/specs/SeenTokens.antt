-- How clauses see the tokens that the code holds.
use Rattle.std.specs.Prelude.{◌≢◌, ℕ, List, [], ◌∷◌, if◌then◌else◌}
use Rattle.pal_asm.specs.declared.tokens.Token.{Token as Held}
use Rattle.pal_asm.specs.declared.tokens.Token.TheVariants as held
use Rattle.pal_asm.specs.Tokens.{Token, Word, Dashed, Open, Close, Plus, Minus, Comma, Colon, Other, tokens, begins_word, with_dash}

-- the token, with the words' texts in place of references to them
abbrev pub token_view : Held → Token
token_view (held.Word text) = Word text.now
token_view (held.Dashed text) = Dashed text.now
token_view held.Open = Open
token_view held.Close = Close
token_view held.Plus = Plus
token_view held.Minus = Minus
token_view held.Comma = Comma
token_view held.Colon = Colon
token_view held.Other = Other

-- the tokens of a minus and a text
abbrev pub after_minus : List ℕ → List Token
after_minus text = if begins_word text then with_dash (tokens text) else Minus ∷ tokens text

-- no word stands first
abbrev pub NoWordFirst : List Token → Type 0
NoWordFirst ts = (word : List ℕ) (rest : List Token) → ts ≢ Word word ∷ rest

-- they are not a word and a closing bracket
abbrev pub NoClosedWord : List Token → Type 0
NoClosedWord ts = (word : List ℕ) → ts ≢ Word word ∷ Close ∷ []

-- no colon stands first
abbrev pub NoColonFirst : List Token → Type 0
NoColonFirst ts = (rest : List Token) → ts ≢ Colon ∷ rest
