-- What a decoder has taken of a source.
use Rattle.std.specs.Prelude.{◌≡◌, ◌⊎◌, ℕ, ◌+◌, ◌≤◌, ◌<◌, List, [], ◌++◌, length, Option, Ok}
use Rattle.std.specs.Io.KnownBytes.{IsAtEnd}
use Rattle.ncc_header.specs.declared.decoder.Decoder.{Decoder}
use Rattle.ncc_header.specs.declared.fault.HeaderError.{HeaderError}
use Rattle.ncc_header.specs.declared.fault.HeaderError.TheVariants as errors
use Rattle.ncc_header.specs.declared.state.Fed.{Fed}
use Rattle.ncc_header.specs.Decoder.{Took, HasFailed, limit_of}
use Rattle.ncc_schema.specs.Device.{Loses}
use Rattle.ncc_header.specs.State.{FailedOn, Feeds, IsSettled, front_taken}

-- the decoder was fed n bytes that the source has lost, with room for so many
pub record HasFed (old now : Option (List ℕ)) (d e : Decoder) (room n : ℕ) : Type 0 where
  pub piece : List ℕ
  pub lost : Loses old now piece
  pub long : length piece ≡ n
  pub few : n ≤ room
  pub fed : Fed
  pub feeds : (bytes : List ℕ) → Took d bytes → Feeds bytes piece (limit_of d) (Ok fed)
  pub takes : (bytes : List ℕ) → Took d bytes → Took e (bytes ++ front_taken (Ok fed) piece)
  pub limit : limit_of e ≡ limit_of d
  pub fresh : ¬ HasFailed e errors.Memory
  pub end : n ≡ 0 → 0 < room → IsAtEnd now

-- the decoder failed on bytes that the source has lost, with room for so many
pub record FailsOn (old now : Option (List ℕ)) (d : Decoder) (room : ℕ) (e : HeaderError) : Type 0 where
  pub piece : List ℕ
  pub lost : Loses old now piece
  pub few : length piece ≤ room
  pub failed : (bytes : List ℕ) → Took d bytes → FailedOn (bytes ++ piece) (limit_of d) e
  pub memory : e ≡ errors.Memory → (bytes : List ℕ) → Took d bytes → 8 < length bytes + length piece

-- the source failed and lost nothing, or the decoder failed
abbrev pub FailsFeeding : (old now : Option (List ℕ)) → Decoder → (room : ℕ) → HeaderError → Type 0
FailsFeeding old now d room e = ((e ≡ errors.Device) × Loses old now []) ⊎ FailsOn old now d room e

-- the decoder has taken all bytes that the source has lost
pub record HasRead (old now : Option (List ℕ)) (d : Decoder) (limit taken : ℕ) : Type 0 where
  pub bytes : List ℕ
  pub lost : Loses old now bytes
  pub took : Took d bytes
  pub limit_is : limit_of d ≡ limit
  pub long : length bytes ≡ taken

-- the source is at its end, or no more bytes are wanted
abbrev pub IsOver : Option (List ℕ) → Decoder → (limit : ℕ) → Type 0
IsOver now d limit = IsAtEnd now ⊎ ((bytes : List ℕ) → Took d bytes → IsSettled bytes limit)
