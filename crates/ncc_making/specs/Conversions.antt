-- What a conversion leaves of its target, what it prints, and how often it calls its store.
use Rattle.std.specs.Prelude.{◌≡◌, ◌≢◌, ◌⊎◌, ◌+◌, ◌*◌, ◌≤◌, max, Bool, IsTrue, List, ℕ, Option, None}
use Rattle.ncc_values.specs.Failures.{Rose}
use Rattle.ncc_values.specs.declared.version.Version.{Version}
use Rattle.ncc_schema.specs.Device.{Puts}
use Rattle.ncc_schema.specs.declared.schema.Schema.{Schema}
use Rattle.ncc_schema.specs.declared.sink.Sink.{Ghosts as SinkGhosts}
use Rattle.ncc_store.specs.declared.store.Store.{Ghosts as StoreGhosts}
use Rattle.ncc_check.specs.FromStore.{SettledBy}
use Rattle.ncc_build.specs.declared.fault.WriteFault.{WriteFault}
use Rattle.ncc_convert.specs.Lines.{converted_line, plan_line}
use Rattle.ncc_engines.specs.Converting.{IsRefusalLine, HasConvertedFront, HasRefusalFront}
use Rattle.ncc_engines.specs.Planning.{IsAgainst, SendErrorLine}
use Rattle.ncc_answers.specs.declared.answer.Answer.{Answer}
use Rattle.ncc_answers.specs.declared.answer.Answer.TheVariants.{Passed, Refused, Device, Memory}
use Rattle.ncc_making.specs.Making.{FewCalls}
use Rattle.ncc_target.specs.Names.{MayLeave, IsUnnamed, IsNoneOrWhole, IsPublished}
use Rattle.ncc_target.specs.declared.entries.Entry.TheVariants.{Made}
use Rattle.ncc_target.specs.declared.target.Target.{Ghosts}

-- why a file isn't converted
abbrev pub IsRefused : (bytes : List ℕ) (limit : ℕ) → Version → Type 0
IsRefused b limit v = (text : List ℕ) × IsRefusalLine b limit v text

-- what is against a schema with so many records, in this version
abbrev pub HasAgainst : Version → Schema → (records : ℕ) → Type 0
HasAgainst v s n = (f : WriteFault) × IsAgainst v s n f

-- ---- the target

module _ {T Out : Type 0} (g : Ghosts T Out) (target after : T) where
  -- What has the name, by the answer, where store and target tell their bytes: after a conversion the whole file; else
  -- what had it before, or what couldn't be taken back. Where only the answer couldn't be printed it is the whole file too.
  pub record Names (whole : Option (List ℕ) → Type 0) (refused unread unsent : Type 0) (answer : Answer) : Type 0 where
    pub made : answer ≡ Passed → whole (g.named after)
    pub unnamed : answer ≢ Passed → IsUnnamed (g.named target) (g.named after) whole (g.entries after)
        ⊎ (unsent × whole (g.named after))
    pub unprinted : answer ≡ Device → (refused → ⊥) → (unread → ⊥) → (Rose (g.failures target) (g.failures after) → ⊥)
        → whole (g.named after)

  -- a stop leaves what has the name now
  abbrev pub IsDurable : Type 0
  IsDurable = (c : Option (List ℕ)) → g.names after c → c ≡ g.named after

  -- That the file is on the disk with its name: after a conversion, and also where only its answer couldn't be printed
  -- and the store tells its bytes.
  pub record Lasts (told : Bool) (refused unread : Type 0) (answer : Answer) : Type 0 where
    pub durable : answer ≡ Passed → IsDurable
    pub settled : answer ≡ Passed → IsPublished (g.entries after)
    pub published : IsTrue told → answer ≡ Device → (refused → ⊥) → (unread → ⊥)
        → (Rose (g.failures target) (g.failures after) → ⊥) → IsPublished (g.entries after) × IsDurable

  -- what a stop at any moment may have left under the name, where the bytes are told
  pub record Stops (whole : Option (List ℕ) → Type 0) : Type 0 where
    pub any_moment : ((c : Option (List ℕ)) → g.names target c → c ≡ None)
        → (c : Option (List ℕ)) → g.names_since after (g.moment target) c → IsNoneOrWhole whole (g.entries after) c
    pub whatever_was_pending : (c : Option (List ℕ)) → g.names_since after (g.moment target) c
        → MayLeave (g.names target) whole (g.entries after) c

  -- What it made and left: no part and, unless it passed or the answer couldn't be printed, no name, but where one couldn't
  -- be removed; after want of memory what had the name; one part at most.
  pub record Leaves (unsent : Type 0) (answer : Answer) : Type 0 where
    pub no_part : (g.entries target).part ≢ Made → (g.entries after).part ≢ Made
    pub no_name : answer ≢ Passed → (g.entries target).name ≢ Made → ((g.entries after).name ≢ Made) ⊎ unsent
    pub spared : answer ≡ Memory → g.named after ≡ g.named target
    pub once : g.makes after ≤ g.makes target + 1

-- ---- the lines

module _ {W : Type 0} (g : SinkGhosts W) (sink sent : W) where
  -- of an open file with this schema and so many records
  pub record PrintsPlan (v : Version) (s : Schema) (records : ℕ) (answer : Answer) : Type 0 where
    pub passed : answer ≡ Passed → Puts (g.put sink) (g.put sent) (converted_line v)
    pub refused : answer ≡ Refused → (f : WriteFault) × IsAgainst v s records f
        × Puts (g.put sink) (g.put sent) (plan_line f)
    pub order : (f : WriteFault) → IsAgainst v s records f → answer ≡ Device → Rose (g.failures sink) (g.failures sent)
    pub memory : answer ≡ Memory → sent ≡ sink
    pub halted : answer ≡ Device → (g.put sent ≡ g.put sink) ⊎ SendErrorLine v s records (g.put sink) (g.put sent)
    pub printed : answer ≡ Device → (g.put sent ≡ g.put sink) ⊎ Rose (g.failures sink) (g.failures sent)

  -- of the bytes of a store, where it tells them
  pub record Prints (told : Bool) (bytes : List ℕ) (limit : ℕ) (v : Version) (answer : Answer) : Type 0 where
    pub passed : answer ≡ Passed → Puts (g.put sink) (g.put sent) (converted_line v)
    pub printed : answer ≡ Device → (g.put sent ≡ g.put sink) ⊎ Rose (g.failures sink) (g.failures sent)
    pub refused : IsTrue told → answer ≡ Refused → (text : List ℕ) × Puts (g.put sink) (g.put sent) text
        × IsRefusalLine bytes limit v text
    pub memory : answer ≡ Memory → sent ≡ sink
    pub halted : IsTrue told → answer ≡ Device → (g.put sent ≡ g.put sink)
        ⊎ HasRefusalFront bytes limit v (g.put sink) (g.put sent)
        ⊎ HasConvertedFront bytes limit v (g.put sink) (g.put sent)

-- ---- the store

-- The calls, where the store tells its bytes, and so many are enough for a check: of a file that is converted one more
-- for each piece of its slabs. Where it is refused, or the name is taken, none more, and nothing further on is read.
pub record ChecksAndCopies {S : Type 0} (g : StoreGhosts S) (store after : S) (limit : ℕ) (v : Version) (taken : Type 0) (checked : ℕ) : Type 0 where
  pub most : FewCalls (g.bytes store) limit v checked (g.calls store) (g.calls after)
  pub refused : IsRefused (g.bytes store) limit v → g.calls after ≤ g.calls store + checked
  pub occupied : taken → g.calls after ≤ g.calls store + checked
  pub reach : IsRefused (g.bytes store) limit v ⊎ taken → (reads : ℕ) → SettledBy (g.bytes store) limit reads
      → g.reach after ≤ max (g.reach store) (reads * 65536)
