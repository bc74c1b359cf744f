-- What contracts see of a file, and what a call adds to it.
use Rattle.std.specs.Prelude.{◌≡◌, ℕ, true, List, Vec}
use Rattle.std.specs.declared.alloc.Global.{Global}
use Rattle.log_file.specs.declared.content.Content.{Content}
use Rattle.log_file.specs.declared.past.Past.{Past}
use Rattle.log_file.specs.declared.past.Past.TheVariants.{Opened, Appended, Cut, Synced, Broken}
use Rattle.log_file.specs.declared.file.LogFile.{LogFile}
use Rattle.log_file.specs.declared.reader.FileReader.{FileReader}
use Rattle.log_file.specs.Crashes.{bytes_of, has_ended}

-- what was read of a file
abbrev pub content_read : {F : Type 0} → FileReader F → Content
content_read reader = reader.content

-- its bytes
abbrev pub read_of : {F : Type 0} → FileReader F → List ℕ
read_of reader = bytes_of reader.content

-- it was read to its end
abbrev pub IsReadToEnd : {F : Type 0} → FileReader F → Type 0
IsReadToEnd reader = has_ended reader.content ≡ true

-- what was done with the file
abbrev pub past_of : {F : Type 0} → LogFile F → Past
past_of file = file.past

-- it was opened and synced, and then had this content
abbrev pub after_open : Content → Past
after_open content = Opened (record { marker = record {}; value = content })

-- these bytes were appended
abbrev pub after_append : Past → Vec ℕ Global → Past
after_append before bytes = Appended (record { marker = record {}; value = before }) (record { marker = record {}; value = bytes })

-- it was cut to this length
abbrev pub after_cut : Past → ℕ → Past
after_cut before len = Cut (record { marker = record {}; value = before }) (record { marker = record {}; value = len })

-- it was synced
abbrev pub after_sync : Past → Past
after_sync before = Synced (record { marker = record {}; value = before })

-- the newest call failed
abbrev pub after_failure : Past → Past
after_failure before = Broken (record { marker = record {}; value = before })
