use Rattle.std.proofs.Common.{◌≡◌, ◌++◌, take}
use Rattle.board_file.specs.Files.{escaped}
use Rattle.board_file.proofs.element.add_escaped.Given as goal

-- the bytes so far are appended
abbrev pub invariant-loop-byte : goal.invariant-loop-byte
invariant-loop-byte l = l.file.items ≡ l.fn.file.items ++ escaped (take l.byte-index l.text)
