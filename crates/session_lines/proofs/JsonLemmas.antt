-- The JSON of a line, if it is any.
use Rattle.session_lines.proofs.Common.{◌≡◌, ℕ, ◌∙◌, sym, refl, true, false, cond, List, Some, None, is_utf8, IsUtf8, IsUtf8-from_is_utf8, is_utf8-from_IsUtf8, Data, json_of_line}
use Rattle.serde_json.specs.Read.{read as read_json}

pub no_text : (line : List ℕ) → (IsUtf8 line → ⊥) → None ≡ json_of_line line
unfolding json_of_line
no_text line never =
    elim (is_utf8 line) as (λ t. is_utf8 line ≡ t → None ≡ cond t (read_json line) None) [
      | true ↦ λ e. absurd (never (IsUtf8-from_is_utf8 line e))
      | false ↦ λ e. refl
    ] refl

pub read_text : (line : List ℕ) (d : Data) → IsUtf8 line → read_json line ≡ Some d → Some d ≡ json_of_line line
unfolding json_of_line
read_text line d utf8 is =
    let t : is_utf8 line ≡ true = is_utf8-from_IsUtf8 line utf8 in
    sym ((λ i. cond (t i) (read_json line) None) ∙ is)
