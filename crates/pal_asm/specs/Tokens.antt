-- How the text of a line is cut into tokens.
use Rattle.std.specs.Prelude.{ℕ, ◌==◌, ◌||◌, ◌&&◌, nat_le, Bool, true, false, List, [], ◌∷◌, if◌then◌else◌}

-- a word, a word with a minus directly before it, or one of the other characters
pub data Token : Type 0 where
  Word : (text : List ℕ) → Token
  Dashed : (text : List ℕ) → Token
  Open : Token
  Close : Token
  Plus : Token
  Minus : Token
  Comma : Token
  Colon : Token
  Other : Token

-- a space or a tab
abbrev pub is_space_or_tab : ℕ → Bool
is_space_or_tab c = c == 32 || c == 9

-- a letter, a digit or `_`
abbrev pub is_name_byte : ℕ → Bool
is_name_byte c =
    nat_le 97 c && nat_le c 122 || nat_le 65 c && nat_le c 90
    || nat_le 48 c && nat_le c 57 || c == 95

-- a character of a word: one of a name, or a point
abbrev pub is_word_byte : ℕ → Bool
is_word_byte c = is_name_byte c || c == 46

-- the token of a character that stands in no word and is no space or tab
abbrev pub mark_of : ℕ → Token
mark_of c =
    if c == 91 then Open else if c == 93 then Close
    else if c == 43 then Plus else if c == 45 then Minus
    else if c == 44 then Comma else if c == 58 then Colon else Other

-- a character of a word begins one, directly before what follows
abbrev pub begins_word : List ℕ → Bool
begins_word [] = false
begins_word (c ∷ cs) = is_word_byte c

-- the word that begins the tokens gets one more character before it
abbrev pub longer : ℕ → List Token → List Token
longer c (Word text ∷ tokens) = Word (c ∷ text) ∷ tokens
longer c tokens = Word (c ∷ []) ∷ tokens

-- the word that begins the tokens gets the minus before it
abbrev pub with_dash : List Token → List Token
with_dash (Word text ∷ tokens) = Dashed text ∷ tokens
with_dash tokens = Minus ∷ tokens

-- The tokens of a text. Words are as long as can be, and a minus belongs to the word that stands
-- directly after it.
abbrev pub tokens : List ℕ → List Token
tokens [] = []
tokens (c ∷ cs) =
    if is_word_byte c
    then (if begins_word cs then longer c (tokens cs) else Word (c ∷ []) ∷ tokens cs)
    else if is_space_or_tab c then tokens cs
    else if c == 45 then (if begins_word cs then with_dash (tokens cs) else Minus ∷ tokens cs)
    else mark_of c ∷ tokens cs

-- a comma
abbrev pub is_comma : Token → Bool
is_comma Comma = true
is_comma _ = false
