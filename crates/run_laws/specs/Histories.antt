-- What a device was asked for since it was new, and what of it a quote tells.
use Rattle.std.specs.Prelude.{◌≡◌, ℕ, ◌==◌, Bool, true, false, List, [], ◌∷◌, ◌++◌, map, All}
use Rattle.std.specs.Prelude.{Some, if◌then◌else◌}
use Rattle.tpm_state.specs.Chain.{Chain}
use Rattle.tpm_state.specs.Sessions.{Session, pal_text, closing, session_chain}
use Rattle.seal_device.specs.Keys.{Keys}
use Rattle.seal_device.specs.Quoted.{Quoted}
use Rattle.seal_device.specs.Rules.{launch_register}
use Rattle.seal_device.specs.Commands.{Command, Measure, Extend, Quote, PowerOn, act, blank}
use Rattle.seal_device.specs.Lists.{ListDevice, lists}

-- a device of lists after commands, one after another
abbrev pub device_after : ListDevice → List Command → ListDevice
device_after d [] = d
device_after d (c ∷ commands) = device_after (act lists c d).0 commands

-- the commands that make register 17 start anew: a launch, and power-on
abbrev pub restarts : Command → Bool
restarts (Measure image) = true
restarts PowerOn = true
restarts c = false

-- the text by which a command extends register 17, if it does
abbrev pub text_for_17 : Command → List (List ℕ)
text_for_17 (Extend r text) = if r == launch_register then text ∷ [] else []
text_for_17 c = []

-- the texts by which commands extend register 17, in their order
abbrev pub texts_for_17 : List Command → List (List ℕ)
texts_for_17 [] = []
texts_for_17 (c ∷ commands) = text_for_17 c ++ texts_for_17 commands

-- the quote of a session for a nonce: of the chain that the session leaves
abbrev pub quote_of_session : Session → List ℕ → Quoted Chain
quote_of_session s nonce = record { chain = session_chain s; nonce = nonce }

-- Of these commands, given to a device that was new, one launched the session's image; those that
-- follow it, up to one that quoted register 17 for this nonce, extended register 17 by the texts of the
-- session's code, in their order, and then by those with which the session closes, and by nothing
-- else; no launch and no power-on came between; and there were these keys when the quote was made
pub record HeldAndQuoted (keys : Keys) (s : Session) (nonce : List ℕ) (commands : List Command) :
    Type 0
  where
    pub before : List Command
    pub within : List Command
    pub after : List Command
    pub whole : commands ≡ before ++ Measure s.image ∷ within ++ Quote nonce ∷ after
    pub undisturbed : All (λ c. restarts c ≡ false) within
    pub extended : texts_for_17 within
        ≡ map pal_text s.texts ++ closing s.inputs s.outputs s.end s.nonce
    pub provisioned : (device_after (blank lists) (before ++ Measure s.image ∷ within)).keys ≡ Some keys
