-- What is written, and what is still to be written.
use Rattle.std.specs.Prelude.{◌≡◌, ℕ, ◌≤◌, Bool, true, List, [], ◌++◌, vec_len, vec_capacity, Vec, Option}
use Rattle.std.specs.Io.KnownBytes.{Appends}
use Rattle.std.specs.declared.alloc.Global.{Global}
use Rattle.session_lines.specs.States.{State}
use Rattle.session_serving.specs.Bytes.{text, max_kept}
use Rattle.session_serving.specs.Advances.{Advances}
use Rattle.session_serving.specs.declared.chunk.Buffers.{Buffers}

-- the bytes that a writer took, where they are known, and those that are still to be written
pub record Output : Type 0 where
  pub written : Option (List ℕ)
  pub pending : List ℕ

abbrev pub output_of : Option (List ℕ) → List ℕ → Output
output_of written pending = record { written = written; pending = pending }

-- a buffer that has its room for 65,536 bytes
abbrev pub HasRoom : Vec ℕ Global → Type 0
HasRoom out = (vec_len out ≤ 65536) × (65536 ≤ vec_capacity out)

-- a buffer that has its room for what is kept of a line
abbrev pub HasLineRoom : Vec ℕ Global → Type 0
HasLineRoom line = (vec_len line ≤ max_kept) × (max_kept ≤ vec_capacity line)

-- both buffers of a session have their room
abbrev pub HaveRoom : Buffers → Type 0
HaveRoom buffers = HasLineRoom buffers.line × HasRoom buffers.out

-- a front of what was pending and of these bytes was written; where `full`, the rest is pending
pub record Writes (old new : Output) (full : Bool) (bytes : List ℕ) : Type 0 where
  pub front : List ℕ
  pub left : List ℕ
  pub moved : Appends old.written new.written front
  pub parts : front ++ left ≡ old.pending ++ bytes
  pub all : full ≡ true → new.pending ≡ left

-- the session goes on without reading a line or giving out a job, and what it says is written or
-- pending
pub record Says (old : State) (before : Output) (new : State) (after : Output)
    (full : Bool) : Type 0 where
  pub said : List (List ℕ)
  pub advances : Advances old [] [] said new
  pub writes : Writes before after full (text said)
  pub id : new.id ≡ old.id
  pub count : new.job_count ≡ old.job_count
