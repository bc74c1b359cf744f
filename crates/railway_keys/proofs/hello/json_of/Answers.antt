use Rattle.std.proofs.Common.{◌∙◌, sym, ap}
use Rattle.serde_json.specs.Read.{read as read_json}
use Rattle.session_lines.proofs.JsonLemmas.{no_text, read_text}
use Rattle.railway_keys.proofs.hello.json_of.Goals as goal

pub returns-in_default : goal.returns-in_default
returns-in_default c = no_text c.args.line.now c.in_default.ensures.cases.0

pub returns-in-Ok-from_str : goal.returns-in-Ok-from_str
returns-in-Ok-from_str c = read_text c.args.line.now _ c.in-Ok.ensures.cases.1 (ap read_json (sym c.in-Ok.ensures.cases.0) ∙ c.in-Ok-from_str.ensures.ok)
