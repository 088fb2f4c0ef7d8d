-- What the extend engine writes.
use Rattle.std.specs.Prelude.{max, ◌≡◌, ◌≢◌, ◌⊎◌, ℕ, ◌+◌, ◌*◌, ◌<◌, ◌≤◌, false, List, [], ◌++◌, Result, Ok, Err}
use Rattle.ncc_values.specs.Failures.{Rose}
use Rattle.ncc_store.specs.Store.{LeavesOnly, Only, Unmoved}
use Rattle.ncc_store.specs.declared.store.Store.{Ghosts}
use Rattle.ncc_schema.specs.Schema.{Place}
use Rattle.ncc_schema.specs.declared.schema.Count.TheVariants.{Known}
use Rattle.ncc_schema.specs.declared.schema.Schema.{Schema}
use Rattle.ncc_layout.specs.declared.placed_file.Placed.{Placed}
use Rattle.ncc_layout.specs.Placed.{records_of_file}
use Rattle.ncc_check.specs.Checks.{Opens}
use Rattle.ncc_check.specs.FromStore.{SettledBy}
use Rattle.ncc_check.specs.Passes.{Passes}
use Rattle.ncc_check.specs.declared.append_error.AppendError.{AppendError}
use Rattle.ncc_check.specs.declared.append_error.AppendError.TheVariants as errors
use Rattle.ncc_lines.specs.Refusals.{append_line}
use Rattle.ncc_lines.specs.Texts.{records_line}
use Rattle.ncc_check.specs.AppendLaws.{CanGrow}
use Rattle.ncc_build.specs.Dataset.{Dataset, IsDataset}
use Rattle.ncc_write.specs.Additions.{HoldsAll}
use Rattle.ncc_write.specs.Extends.{ExtendsAs, HasFillsOrNot, HoldsSome, IsFullFor, TakesRecords, filled_bytes, with_fills}
use Rattle.ncc_answers.specs.declared.answer.Answer.{Answer}
use Rattle.ncc_answers.specs.declared.answer.Answer.TheVariants.{Passed, Refused, Device, Memory}
use Rattle.ncc_answers.specs.Answers.{Texts}
use Rattle.ncc_engines.specs.Checking.{IsFaultOf}

-- ---- an open file

-- all of the records can be added, and the line says how many there are then; or one of them can't, and the line says why
abbrev pub IsExtended : Schema → Placed → (more : ℕ) → Answer → (text : List ℕ) → Type 0
IsExtended s p n Passed text =
    ExtendsAs false s p n (Ok tt) × (text ≡ records_line (Known (records_of_file p + n)))
IsExtended s p n Refused text = (e : AppendError) × ExtendsAs false s p n (Err e)
    × (e ≢ errors.Device) × (e ≢ errors.Memory) × (text ≡ append_line e)
IsExtended s p n Device text = ⊥
IsExtended s p n Memory text = ⊥

-- ---- of bytes

abbrev pub IsExtensionOf : (bytes : List ℕ) (limit more : ℕ) → Answer → (text : List ℕ) → Type 0
IsExtensionOf b limit n answer text =
    (s : Schema) × (p : Placed) × Opens b limit s p × IsExtended s p n answer text

abbrev pub IsExtendText : (bytes : List ℕ) (limit more : ℕ) → Answer → (text : List ℕ) → Type 0
IsExtendText b limit n Passed text = IsExtensionOf b limit n Passed text
IsExtendText b limit n Refused text = IsExtensionOf b limit n Refused text ⊎ IsFaultOf b limit text
IsExtendText b limit n Device text = ⊥
IsExtendText b limit n Memory text = ⊥

-- nothing went out, or a front of a right text
abbrev pub IsFrontOfText : Texts → (out : List ℕ) → Type 0
IsFrontOfText IsText out = (out ≡ []) ⊎
    ((answer : Answer) × (text : List ℕ) × (rest : List ℕ) × IsText answer text × (text ≡ out ++ rest))

-- what went out, by the answer
abbrev pub ExtendsInto : (bytes : List ℕ) (limit more : ℕ) → Answer → (out : List ℕ) → Type 0
ExtendsInto b limit n Passed out = IsExtendText b limit n Passed out
ExtendsInto b limit n Refused out = IsExtendText b limit n Refused out
ExtendsInto b limit n Device out = IsFrontOfText (IsExtendText b limit n) out
ExtendsInto b limit n Memory out = IsFrontOfText (IsExtendText b limit n) out

-- nothing went out, or a front of a line that says why
abbrev pub IsFrontOfRefusal : (bytes : List ℕ) (limit more : ℕ) → (out : List ℕ) → Type 0
IsFrontOfRefusal b limit n out =
    (out ≡ []) ⊎ ((text : List ℕ) × (rest : List ℕ) × IsExtendText b limit n Refused text × (text ≡ out ++ rest))

-- ---- what stands

-- bytes that were opened, with so many records of fill values more
pub record IsFilled (old : List ℕ) (limit more : ℕ) (new : List ℕ) : Type 0 where
  pub schema : Schema
  pub placed : Placed
  pub opens : Opens old limit schema placed
  pub bytes : new ≡ filled_bytes old schema placed more

-- and with some of them, at most so many, each whole
abbrev pub IsFilledWhole : (old : List ℕ) (limit most : ℕ) (new : List ℕ) → Type 0
IsFilledWhole old limit most new = (more : ℕ) × (more ≤ most) × IsFilled old limit more new

-- the records that there is room for were added, and there is none for another
pub record IsFilledUp (old : List ℕ) (limit more : ℕ) (new : List ℕ) : Type 0 where
  pub fits : ℕ
  pub fewer : fits < more
  pub filled : IsFilled old limit fits new
  pub room : TakesRecords filled.schema filled.placed fits
  pub grows : CanGrow filled.schema filled.placed
  pub full : IsFullFor filled.schema.version filled.placed (fits + 1)

-- the records for which there was room were added, by four calls each and two more at most; where there was room for
-- none, nothing was written or synced
abbrev pub FillsUp : (old : List ℕ) (limit more : ℕ) (new : List ℕ) → (unmoved : Type 0) → (before calls : ℕ) → Type 0
FillsUp old limit more new unmoved before calls =
    (u : IsFilledUp old limit more new) × (u.fits ≡ 0 → unmoved × (calls ≤ before))
    × (calls ≤ before + 4 * u.fits + 2)

-- the bytes don't pass, or they are of a file that takes no record, whatever room there is
abbrev pub TakesNone : (bytes : List ℕ) (limit : ℕ) → Type 0
TakesNone b limit = (Passes b limit → ⊥) ⊎ ((s : Schema) × (p : Placed) × Opens b limit s p × (CanGrow s p → ⊥))

-- some of the records were added to a file that takes records, at most so many, and of the next one nothing below its
-- place or all
pub record IsFilledSome (old : List ℕ) (limit most : ℕ) (new : List ℕ) : Type 0 where
  pub schema : Schema
  pub placed : Placed
  pub opens : Opens old limit schema placed
  pub grows : CanGrow schema placed
  pub more : ℕ
  pub few : more ≤ most
  pub is : (new ≡ filled_bytes old schema placed more) ⊎ ((more < most) × HasFillsOrNot old schema placed more new)

-- ---- telling

abbrev pub TellsText : Result (Unit {0}) AppendError → (records : ℕ) → Texts
TellsText (Ok x) n Passed text = text ≡ records_line (Known n)
TellsText (Ok x) n answer text = ⊥
TellsText (Err e) n Refused text = (e ≢ errors.Device) × (e ≢ errors.Memory) × (text ≡ append_line e)
TellsText (Err e) n answer text = ⊥

-- what went out, by the answer
abbrev pub Tells : Result (Unit {0}) AppendError → (records : ℕ) → Answer → (out : List ℕ) → Type 0
Tells result n Passed out = TellsText result n Passed out
Tells result n Refused out = TellsText result n Refused out
Tells result n Device out = IsFrontOfText (TellsText result n) out
Tells result n Memory out = IsFrontOfText (TellsText result n) out

-- ---- what a run of the engine leaves of a store

module _ {S : Type 0} (g : Ghosts S) (store after : S) where
  abbrev pub Stays : Type 0
  Stays = Unmoved g.bytes g.images g.moment g.images_since store after

  -- its bytes, by the answer, where they are told
  pub record LeavesBytes (limit more : ℕ) (answer : Answer) : Type 0 where
    pub bytes : answer ≡ Passed → ∥ IsFilled (g.bytes store) limit more (g.bytes after) ∥₁
    pub holds : answer ≡ Passed → (places : List Place) (d : Dataset) → IsDataset d
        → HoldsAll (g.bytes store) limit places d → ∥ HoldsAll (g.bytes after) limit places (with_fills d more) ∥₁
    pub leaves : Stays ⊎ (∥ IsFilledSome (g.bytes store) limit more (g.bytes after) ∥₁)
    pub whole : answer ≢ Device → Stays ⊎ (∥ IsFilledWhole (g.bytes store) limit more (g.bytes after) ∥₁)
    pub unprinted : (Rose (g.failures store) (g.failures after) → ⊥)
        → Stays ⊎ (∥ IsFilledWhole (g.bytes store) limit more (g.bytes after) ∥₁)
    pub holds_some : (places : List Place) (d : Dataset) → IsDataset d → HoldsAll (g.bytes store) limit places d
        → ∥ HoldsSome (g.bytes after) limit places d more ∥₁
    pub refused : (Passes (g.bytes store) limit → ⊥) → Stays

  -- what a stop at any moment of it might have left, where its bytes are told
  pub record LeavesAtStop (limit more : ℕ) : Type 0 where
    pub any_moment : Only (g.bytes store) (g.images store) → (places : List Place) (d : Dataset) → IsDataset d
        → HoldsAll (g.bytes store) limit places d
        → LeavesOnly g.moment g.images_since store after (λ c. ∥ HoldsSome c limit places d more ∥₁)
    pub whatever_was_pending : (places : List Place) (d : Dataset) → IsDataset d
        → HoldsAll (g.bytes store) limit places d → LeavesOnly g.moment g.images_since store after
        (λ c. g.images store c ⊎ (∥ HoldsSome c limit places d more ∥₁))

  -- whether anything is pending after it, and when it writes nothing
  pub record Settles (more : ℕ) (answer : Answer) : Type 0 where
    pub durable : Only (g.bytes store) (g.images store) → answer ≡ Passed → Only (g.bytes after) (g.images after)
    pub settled : 0 < more → answer ≡ Passed → Only (g.bytes after) (g.images after)
    pub rest : answer ≢ Device → Stays ⊎ Only (g.bytes after) (g.images after)
    pub none : more ≡ 0 → Stays
    pub memory : answer ≡ Memory → Stays

  -- The calls that it makes and how far they read, where its bytes are told, and so many are enough for a check. Where a
  -- record was refused for want of room, they are those for the records that were added.
  pub record ExtendsByFew (limit more : ℕ) (answer : Answer) (checked : ℕ) : Type 0 where
    pub most : g.calls after ≤ g.calls store + checked + 4 * more + 2
    pub none : (more ≡ 0) ⊎ TakesNone (g.bytes store) limit → g.calls after ≤ g.calls store + checked
    pub untouched : answer ≡ Refused → (Stays × TakesNone (g.bytes store) limit)
        ⊎ (∥ FillsUp (g.bytes store) limit more (g.bytes after) Stays (g.calls store + checked) (g.calls after) ∥₁)
    pub reach : (reads : ℕ) → SettledBy (g.bytes store) limit reads → g.reach after ≤ max (g.reach store) (reads * 65536)
