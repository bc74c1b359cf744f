-- What a limited service answers.
use Rattle.std.specs.Prelude.{◌≡◌, ℕ, List}
use Rattle.http.specs.declared.request.Request.{Request}
use Rattle.http_server.specs.declared.response.Response.{Response}
use Rattle.board_connections.specs.Answers.{LimitedAnswer}
use Rattle.board_connections.specs.declared.limited.LimitedService.{LimitedService}

-- as the service does where it may answer, and else by the refusal; whether it may stays
abbrev pub AnswersLimited : {S : Type 0} → (S → Request (List ℕ) → Response → S → Type 0)
    → LimitedService S → Request (List ℕ) → Response → LimitedService S → Type 0
AnswersLimited answers old request response new =
    LimitedAnswer answers old.may_answer old.service request response new.service × (new.may_answer ≡ old.may_answer)
