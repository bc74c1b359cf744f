-- The text of the reply to a message that is accepted.
use Rattle.reply_writer.proofs.Common.{◌≡◌, ℕ, ◌<◌, ◌^◌, ◌++◌, Some, codes, decimal, refl, escape_byte, read, compact_text, Accepted, read-compact_text, reply_fields, reply_data}
use Rattle.reply_writer.proofs.ShapeLemmas.{reply_ordered}

-- its parts: the digits of the message's number stand between two texts
pub accepted_text : (n : ℕ) → compact_text (reply_data (Accepted n)) ≡ codes "{\"no\":" ++ (decimal n ++ codes ",\"reply\":\"accepted\"}")
unfolding reply_fields escape_byte
accepted_text n = refl

-- it is read as its fields
pub accepted_read : (n : ℕ) → n < 2 ^ 64 → read (compact_text (reply_data (Accepted n))) ≡ Some (reply_data (Accepted n))
unfolding reply_fields
accepted_read n small = read-compact_text (reply_data (Accepted n)) (reply_ordered 121 (Accepted n)) (small, (tt, tt))
