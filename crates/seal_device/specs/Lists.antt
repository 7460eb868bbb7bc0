-- The platform of lists: a chain is kept as its start and all its texts, and each record that was
-- sealed is kept, and each quote that was made. A blob is never read, and no digest is compared.
use Rattle.std.specs.Prelude.{◌≡◌, ℕ, Bool, true, false, ◌&&◌, List, [], ◌∷◌, ◌++◌, Option, Some}
use Rattle.std.specs.Prelude.{Contains, IfSome, bytes_eq}
use Rattle.std.specs.List.{find, list_any}
use Rattle.tpm_state.specs.Chain.{Start, Zeros, Ones, Chain, From, ◌▷◌, value}
use Rattle.seal_device.specs.Keys.{Keys}
use Rattle.seal_device.specs.Sealed.{Sealed, with_chain_by}
use Rattle.seal_device.specs.Quoted.{Quoted, quote_bytes}
use Rattle.seal_device.specs.Blobs.{blob}
use Rattle.seal_device.specs.Rules.{Device, Rules}
use Rattle.seal_device.specs.Bearings.{Stands}
use Rattle.seal_device.specs.Sealing.{present_chain}

-- all that a device gave out: the records that it sealed, and the quotes that it made, in their order
pub record Made : Type 0 where
  pub records : List (Sealed Chain)
  pub quotes : List (Quoted Chain)

-- nothing was given out
abbrev pub nothing_made : Made
nothing_made = record { records = []; quotes = [] }

-- a device that keeps all texts of each register, and all that it gave out
abbrev pub ListDevice : Type 0
ListDevice = Device Chain Made

-- two starts are one
abbrev pub same_start : Start → Start → Bool
same_start Zeros Zeros = true
same_start Ones Ones = true
same_start _ _ = false

-- two chains are one: they have one start, and the same texts
abbrev pub same_chain : Chain → Chain → Bool
same_chain (From start) (From other) = same_start start other
same_chain (chain ▷ text) (other ▷ text') = same_chain chain other && bytes_eq text text'
same_chain _ _ = false

-- the blob of a record
abbrev pub blob_of : Keys → Sealed Chain → List ℕ
blob_of keys r = blob keys (with_chain_by value r)

-- the first record whose blob the bytes are
abbrev pub record_of : Keys → List (Sealed Chain) → List ℕ → Option (Sealed Chain)
record_of keys made bytes = find (λ r. bytes_eq (blob_of keys r) bytes) made

-- two quotes are one: they have one chain, and one nonce
abbrev pub same_quote : Quoted Chain → Quoted Chain → Bool
same_quote q other = same_chain q.chain other.chain && bytes_eq q.nonce other.nonce

-- the quote is one of these, and the bytes are its
abbrev pub is_said : Keys → List (Quoted Chain) → Quoted Chain → List ℕ → Bool
is_said keys made claim bytes =
    list_any (same_quote claim) made && bytes_eq (quote_bytes keys claim) bytes

-- the rules of lists
abbrev pub lists : Rules Chain Made
lists = record {
  start = λ start. From start;
  extended = λ chain text. chain ▷ text;
  shown = value;
  same = same_chain;
  nothing_made = nothing_made;
  remembered = λ r made. record made { records = made.records ++ r ∷ [] };
  with_quote = λ q made. record made { quotes = made.quotes ++ q ∷ [] };
  opened = λ keys made bytes. record_of keys made.records bytes;
  says = λ keys made claim bytes. is_said keys made.quotes claim bytes;
}

-- bytes open to what they are the blob of: a record that the device keeps, under its keys, in whose
-- chain register 17 stands, and with whose value the counter that it bears, if it bears one
pub record OpensTo (d : ListDevice) (bytes content : List ℕ) : Type 0 where
  pub keys : Keys
  pub sealed : Sealed Chain
  pub provisioned : d.keys ≡ Some keys
  pub kept : Contains d.made.records sealed
  pub is : blob_of keys sealed ≡ bytes
  pub chain : sealed.chain ≡ present_chain lists d
  pub counter : IfSome sealed.counter (Stands d.counters)
  pub bytes_are : sealed.bytes ≡ content
