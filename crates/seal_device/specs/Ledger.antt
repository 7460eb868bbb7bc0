-- What a run hashed, sealed and quoted so far, and when that is enough for a command that compares.
-- One text for all platforms.
use Rattle.std.specs.Prelude.{◌≡◌, ◌≢◌, ℕ, List, [], ◌∷◌, ◌++◌, map, Option, Some, None, slice_get}
use Rattle.std.specs.Prelude.{IsTrue, IfSome, Contains, Result, Ok, Err, ⊤}
use Rattle.sha1.specs.Sha1.{sha1}
use Rattle.tpm_state.specs.Chain.{Start, Chain, From, ◌▷◌, start_value, value}
use Rattle.flk_base.specs.Plan.{Machine}
use Rattle.seal_device.specs.Keys.{Keys}
use Rattle.seal_device.specs.Quoted.{is_tagged_for}
use Rattle.seal_device.specs.Blobs.{tag_ok}
use Rattle.seal_device.specs.Rules.{Device, Rules}
use Rattle.seal_device.specs.Commands.{Command, Measure, Extend, Seal, Unseal, CheckNext, Quote}
use Rattle.seal_device.specs.Commands.{Check, Reply, act, compares}
use Rattle.seal_device.specs.Commands.{launch_start}

-- the strings that were hashed for registers so far, the blobs that sealing gave, and the quotes that
-- were given, each beside its nonce
pub record Ledger : Type 0 where
  pub hashed : List (List ℕ)
  pub made : List (List ℕ)
  pub quoted : List (List ℕ × List ℕ)

-- a ledger with nothing in it
abbrev pub no_ledger : Ledger
no_ledger = record { hashed = []; made = []; quoted = [] }

-- the strings that are hashed to extend a value by a text: the text, and the value with its digest
abbrev pub strings_to_extend : List ℕ → List ℕ → List (List ℕ)
strings_to_extend value text = text ∷ (value ++ sha1 text) ∷ []

-- those that are hashed to extend a chain, where there is one
abbrev pub strings_at : {H M : Type 0} → Rules H M → List ℕ → Option H → List (List ℕ)
strings_at R text None = []
strings_at R text (Some chain) = strings_to_extend (R.shown chain) text

-- the strings that were hashed for a chain
abbrev pub strings : Chain → List (List ℕ)
strings (From start) = []
strings (chain ▷ text) = strings chain ++ strings_to_extend (value chain) text

-- those that are hashed to check a quote against a chain: none where there are no keys to check it by
abbrev pub strings_to_check : Chain → Option Keys → List (List ℕ)
strings_to_check chain None = []
strings_to_check chain (Some keys) = strings chain

-- the strings that a command hashes
abbrev pub hashed_by : {H M : Type 0} → Rules H M → Command → Device H M → List (List ℕ)
hashed_by R (Measure image) d = strings_to_extend (R.shown (R.start launch_start)) image
hashed_by R (Extend r text) d = strings_at R text (slice_get d.chains r)
hashed_by R (Check claim bytes) d = strings_to_check claim.chain d.keys
hashed_by R _ d = []

-- the bytes of a reply, where it is no refusal
abbrev pub if_given : {E : Type 0} → Result (List ℕ) E → List (List ℕ)
if_given (Ok bytes) = bytes ∷ []
if_given (Err refusal) = []

-- the blob that a command gives by its reply
abbrev pub made_by : (c : Command) → Reply c → List (List ℕ)
made_by (Seal bytes counter ahead) reply = if_given reply
made_by _ reply = []

-- the quote that a command gives by its reply, beside its nonce
abbrev pub quoted_by : (c : Command) → Reply c → List (List ℕ × List ℕ)
quoted_by (Quote nonce) reply = map (λ bytes. (nonce, bytes)) (if_given reply)
quoted_by _ reply = []

-- the ledger after a command
abbrev pub ledger_after : {H M : Type 0} → Rules H M → Command → Device H M → Ledger → Ledger
ledger_after R c d ledger = record {
  hashed = ledger.hashed ++ hashed_by R c d;
  made = ledger.made ++ made_by c (act R c d).1;
  quoted = ledger.quoted ++ quoted_by c (act R c d).1;
}

-- a device that keeps a ledger
abbrev pub noted : {H M : Type 0} → Rules H M → Machine Command Reply (Device H M × Ledger)
noted R c w = (((act R c w.0).0, ledger_after R c w.0 w.1), (act R c w.0).1)

-- no two different strings share a digest, and none has a start's value as its digest
pub record Clean (hashed : List (List ℕ)) : Type 0 where
  pub apart : (x y : List ℕ) → Contains hashed x → Contains hashed y → sha1 x ≡ sha1 y → x ≡ y
  pub no_start : (x : List ℕ) → Contains hashed x → (s : Start) → sha1 x ≢ start_value s

-- bytes with the tag of a blob under these keys, if there are some, are a blob that was made
abbrev pub WasMade : Option Keys → List ℕ → Ledger → Type 0
WasMade keys bytes ledger =
    IfSome keys (λ keys. IsTrue (tag_ok keys bytes) → Contains ledger.made bytes)

-- bytes with the tag of a quote for a nonce under these keys, if there are some, were given as one
abbrev pub WasQuoted : Option Keys → List ℕ → List ℕ → Ledger → Type 0
WasQuoted keys nonce bytes ledger =
    IfSome keys (λ keys. IsTrue (is_tagged_for keys nonce bytes) →
    Contains ledger.quoted (nonce, bytes))

-- no blob and no quote is forged that a command is shown
abbrev pub Unforged : {H M : Type 0} → Command → Device H M × Ledger → Type 0
Unforged (Unseal bytes) w = WasMade w.0.keys bytes w.1
Unforged (CheckNext bytes) w = WasMade w.0.keys bytes w.1
Unforged (Check claim bytes) w = WasQuoted w.0.keys claim.nonce bytes w.1
Unforged _ w = ⊤

-- a command is fair where it compares nothing, or the strings hashed up to and with it are clean
-- and the blob or the quote that it is shown is not forged
abbrev pub Fair : {H M : Type 0} → Rules H M → Command → Device H M × Ledger → Type 0
Fair R c w = IsTrue (compares c) → Clean (ledger_after R c w.0 w.1).hashed × Unforged c w
