use Rattle.json_tokens.proofs.Common.{◌≡◌, ◌∷◌, ◌++◌, HaveSmallNumbers, members_text}
use denote.Shadow.{shadow}
use denote.Text.{Utf8}
use Rattle.json_tokens.proofs.scan.scan_members.Given as goal

-- the members so far, each with its comma, come before the rest
abbrev pub invariant-loop-i : goal.invariant-loop-i
invariant-loop-i l = HaveSmallNumbers l.members.items × (l.text ≡ 123 ∷ (members_text l.members.items ++ l.rest)) × shadow (Utf8 l.rest)
