-- What a decoder has taken of a store.
use Rattle.std.specs.Prelude.{◌≡◌, ◌⊎◌, ℕ, ◌+◌, ◌*◌, ◌/◌, ◌<◌, ◌≤◌, max, min, Bool, List, [], ◌++◌, length, take, IsTrue, Result, Ok, Err}
use Rattle.ncc_store.specs.declared.store.Store.{Ghosts}
use Rattle.ncc_schema.specs.declared.schema.Header.{Header}
use Rattle.ncc_header.specs.declared.fault.Fault.{Fault}
use Rattle.ncc_header.specs.declared.decoder.Decoder.{Decoder}
use Rattle.ncc_header.specs.declared.state.Fed.{Fed}
use Rattle.ncc_header.specs.Answers.{Begins, Stops}
use Rattle.ncc_header.specs.Decoder.{Took, limit_of}
use Rattle.ncc_header.specs.State.{StopsForGood, IsWhole, Feeds, front_taken}
use Rattle.ncc_check.specs.declared.fault.FileFault.TheVariants.{Header as OfHeader, Layout as OfLayout}
use Rattle.ncc_check.specs.declared.fault.Refusal.{Refusal}
use Rattle.ncc_check.specs.declared.fault.Refusal.TheVariants as refusals

-- how many reads of at most 65,536 bytes so many bytes take
abbrev pub reads_for : (bytes : ℕ) → ℕ
reads_for bytes = (bytes + 65535) / 65536

-- the calls of a check: one for the length, and the reads of what may be the header
abbrev pub calls_for : (file limit : ℕ) → ℕ
calls_for file limit = 1 + reads_for (min file limit)

-- what so many reads bring begins with a header, or has a fault that stays, whatever follows
abbrev pub SettledBy : (bytes : List ℕ) (limit reads : ℕ) → Type 0
SettledBy bytes limit reads = (0 < reads) × (((h : Header) × Begins (take (reads * 65536) bytes) limit h)
    ⊎ ((f : Fault) × StopsForGood (take (reads * 65536) bytes) limit f))

-- where so many reads settle it, there were no more of them, beside so many calls before, and none ended further on
pub record ReadsFew {S : Type 0} (g : Ghosts S) (old new : S) (bytes : List ℕ) (limit before : ℕ) : Type 0 where
  pub calls : (n : ℕ) → SettledBy bytes limit n → g.calls new ≤ g.calls old + before + n
  pub reach : (n : ℕ) → SettledBy bytes limit n → g.reach new ≤ max (g.reach old) (n * 65536)

-- a decoder was refused these bytes, whatever follows, unless memory or the device failed
abbrev pub RefusedOn : (bytes : List ℕ) (limit : ℕ) → Refusal → Type 0
RefusedOn bytes limit (refusals.Fault (OfHeader f)) = StopsForGood bytes limit f
RefusedOn bytes limit (refusals.Fault (OfLayout f)) = ⊥
RefusedOn bytes limit refusals.Device = Unit {0}
RefusedOn bytes limit refusals.Memory = Unit {0}

-- the decoder was fed this piece of the store's bytes
pub record FedPiece (d e : Decoder) (piece : List ℕ) (fed : Fed) : Type 0 where
  pub feeds : (taken : List ℕ) → Took d taken → Feeds taken piece (limit_of d) (Ok fed)
  pub takes : (taken : List ℕ) → Took d taken → Took e (taken ++ front_taken (Ok fed) piece)
  pub limit : limit_of e ≡ limit_of d

-- the device failed, or the decoder was refused a piece, which is this one where the store tells its bytes
abbrev pub FailsPiece : (told : Bool) → (there : List ℕ) → Decoder → Refusal → Type 0
FailsPiece told there d e =
    (e ≡ refusals.Device) ⊎ ((piece : List ℕ) × (IsTrue told → piece ≡ there) × ((taken : List ℕ) → Took d taken → RefusedOn (taken ++ piece) (limit_of d) e))

-- all of the bytes that may take part were taken, or a whole header
abbrev pub IsEnough : (taken rest : List ℕ) (limit : ℕ) → Type 0
IsEnough taken rest limit = (limit ≤ length taken) ⊎ ((rest ≡ []) ⊎ IsWhole taken limit)

-- the decoder has taken a front of the bytes, and no further byte can change its answer
pub record HasEnough (bytes : List ℕ) (limit : ℕ) (taken : List ℕ) : Type 0 where
  pub rest : List ℕ
  pub joined : bytes ≡ taken ++ rest
  pub enough : IsEnough taken rest limit

-- what was found out about the header of bytes
abbrev pub ReadsHeader : (bytes : List ℕ) (limit : ℕ) → Result Header Refusal → Type 0
ReadsHeader bytes limit (Ok h) = Begins bytes limit h
ReadsHeader bytes limit (Err (refusals.Fault (OfHeader f))) = Stops bytes limit f
ReadsHeader bytes limit (Err (refusals.Fault (OfLayout f))) = ⊥
ReadsHeader bytes limit (Err refusals.Device) = Unit {0}
ReadsHeader bytes limit (Err refusals.Memory) = Unit {0}

-- some input begins with it
abbrev pub IsBegun : Header → Type 0
IsBegun h = (input : List ℕ) × (limit : ℕ) × Begins input limit h
