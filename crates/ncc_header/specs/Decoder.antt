-- What a decoder has taken, and what it answers.
use Rattle.std.specs.Prelude.{ℕ, List, length}
use Rattle.ncc_header.specs.declared.decoder.Decoder.{Decoder}
use Rattle.ncc_header.specs.declared.fault.HeaderError.{HeaderError}
use Rattle.ncc_header.specs.declared.state.State.{State}
use Rattle.ncc_header.specs.declared.state.State.TheVariants as states
use Rattle.ncc_header.specs.Steps.{size_of}
use Rattle.ncc_header.specs.Least.{rest_of, expects_of}
use Rattle.ncc_header.specs.Reading.{next_of, held_of}
use Rattle.ncc_header.specs.State.{limit_at, TookAt, HasFailedAt}

-- how long a header may be, in bytes
abbrev pub limit_of : Decoder → ℕ
limit_of d = limit_at d.state

-- the decoder has taken these bytes
abbrev pub Took : Decoder → (taken : List ℕ) → Type 0
Took d taken = TookAt d.state taken

-- the decoder has met this error, and answers it for good
abbrev pub HasFailed : Decoder → HeaderError → Type 0
HasFailed d e = HasFailedAt d.state e

-- how many bytes are surely still to come after what was taken: those of the next field, and the least of those after
-- it in CDF-1 and without padding (Least), as far as the limit
abbrev pub expects_at : State → ℕ
expects_at (states.Reading r) =
    expects_of (size_of (next_of r)) (rest_of r.next r.partial.lists) r.limit r.at (length (held_of r))
expects_at (states.Failed limit e) = 0
