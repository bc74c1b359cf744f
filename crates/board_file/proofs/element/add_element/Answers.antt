use Rattle.std.proofs.Common.{append_assoc}
use Rattle.board_file.specs.Files.{element}
use Rattle.board_file.proofs.element.add_element.Goals as goal

pub returns : goal.returns
unfolding element
returns c =
    rw (c.in_ok-extend_from_slice-5.ensures.items, c.in_ok-add_escaped.ensures, c.in_ok-extend_from_slice-4.ensures.items, c.in_ok-add_owner.ensures, c.in_ok-extend_from_slice-3.ensures.items, c.in_ok-extend_from_slice-2.ensures.items, c.in_ok-extend_from_slice.ensures.items, c.as_bytes.ensures.value)
    (simp append_assoc)
