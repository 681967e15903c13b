-- What a writer of rolling files shows, and what its builder was told.
use Rattle.std.specs.Prelude.{◌++◌, ◌==◌, if◌then◌else◌, ℕ, List, [], Option, codes, length, string_bytes}
use Rattle.span_appender.specs.declared.place.Place.{Place}
use Rattle.span_appender.specs.declared.rolling.Builder.{Builder}
use Rattle.span_appender.specs.declared.rolling.RollingFileAppender.{RollingFileAppender}
use Rattle.span_appender.specs.declared.rotation.Rotation.{Rotation}

-- which file is written to, and how far
abbrev pub place_of : {R C F D : Type 0} → RollingFileAppender R C F D → Place
place_of w = w.place

-- the file that is written to
abbrev pub file_of : {R C F D : Type 0} → RollingFileAppender R C F D → F
file_of w = w.file

-- what stands before the number in a file's name: this, and a dot if there is any
abbrev pub before_number : List ℕ → List ℕ
before_number prefix = if length prefix == 0 then [] else prefix ++ codes "."

-- what stands behind the date in a file's name: this, and a dot before it if there is any
abbrev pub behind_date : List ℕ → List ℕ
behind_date suffix = if length suffix == 0 then [] else codes "." ++ suffix

-- what files are made: when a new one begins, how many are kept, if not all, and what their names
-- begin and end with
pub record Settings : Type 0 where
  pub rotation : Rotation
  pub kept : Option ℕ
  pub front : List ℕ
  pub back : List ℕ

-- what files a writer makes
abbrev pub settings_of : {R C F D : Type 0} → RollingFileAppender R C F D → Settings
settings_of w = record {
  rotation = w.rotation;
  kept = w.max_log_files;
  front = string_bytes w.files.before;
  back = string_bytes w.files.behind;
}

-- what files a builder's writer is to make
abbrev pub settings_asked : Builder → Settings
settings_asked b = record {
  rotation = b.rotation;
  kept = b.max_log_files;
  front = before_number b.prefix.now;
  back = behind_date b.suffix.now;
}
