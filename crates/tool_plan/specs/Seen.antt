-- What reading sees of its files.
use Rattle.std.specs.Prelude.{ℕ, Option}
use Rattle.cni_io.specs.{Failures.Rose, Files.StoredFiles}

-- the files, where they are told, and the count of their failures before and now
pub record FilesSeen : Type 0 where
  pub stored : Option StoredFiles
  pub failures_before : ℕ
  pub failures_now : ℕ

abbrev pub files_seen : {F : Type 0} → (stored : F → Option StoredFiles) → (failures : F → ℕ) → (old new : F)
    → FilesSeen
files_seen stored failures old new =
    record { stored = stored old; failures_before = failures old; failures_now = failures new }

-- a read failed
abbrev pub HasReadFailure : FilesSeen → Type 0
HasReadFailure files = Rose files.failures_before files.failures_now
