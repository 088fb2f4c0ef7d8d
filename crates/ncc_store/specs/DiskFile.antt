-- A file of the disk.
use Rattle.std.specs.Prelude.{Bool}
use Rattle.ncc_store.specs.declared.disk_file.DiskFile.{DiskFile}

-- the call that takes its lock succeeded, and no write and no sync failed since
abbrev pub is_writable : DiskFile → Bool
is_writable f = f.writable
