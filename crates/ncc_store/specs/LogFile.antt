-- A file over a log.
use Rattle.std.specs.Prelude.{Bool}
use Rattle.ncc_store.specs.declared.log.LogStore.{LogStore}
use Rattle.ncc_store.specs.declared.log_file.LogFile.{LogFile}

-- the log below
abbrev pub log_of : LogFile → LogStore
log_of f = f.log

-- no call failed
abbrev pub log_sound : LogFile → Bool
log_sound f = f.sound
