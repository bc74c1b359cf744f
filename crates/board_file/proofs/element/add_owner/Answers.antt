use Rattle.std.proofs.Common.{append_assoc}
use Rattle.board_file.proofs.element.add_owner.Goals as goal

pub returns : goal.returns
returns c =
    rw (c.in-Some.is, c.in_ok-extend_from_slice-3.ensures.items, c.in_ok-extend_from_slice-2.ensures.items, c.in_ok-extend_from_slice.ensures.items, c.as_bytes.ensures.value, c.as_str.ensures.text)
    (simp append_assoc)
