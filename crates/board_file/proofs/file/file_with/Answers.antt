use Rattle.board_file.specs.Files.{file_with}
use Rattle.board_file.proofs.file.file_with.Goals as goal

pub returns : goal.returns
unfolding file_with
returns c =
    rw (c.in_ok-extend_from_slice-2.ensures.items, c.in_ok-add_element-2.ensures, c.in_ok-add_element.ensures, c.in_ok-extend_from_slice.ensures.items, c.new-file.ensures.items)
    (rw (c.as_bytes-2.ensures.value, c.as_bytes.ensures.value, c.as_slice-3.ensures.value, c.as_slice-2.ensures.value, c.in_ok-records.ensures, c.in_ok-legs.ensures, c.as_slice.ensures.value))
