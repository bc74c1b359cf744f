-- What goes out over the connections of the board.
use Rattle.std.specs.Prelude.{◌≡◌, ◌⊎◌, ℕ, List, [], ◌∷◌, codes, Bool, true, false}
use Rattle.http.specs.declared.request.Request.{Request}
use Rattle.http_server.specs.declared.response.Response.{Response}
use Rattle.http_server.specs.Response.{IsResponse}
use Rattle.http_server.specs.Exchange.{Call, Chain}

-- 503, to be asked again after a second, with no body
abbrev pub IsRefusal : Response → Type 0
IsRefusal = IsResponse 503 ((codes "retry-after", codes "1") ∷ []) []

-- the service's answer where it may answer, and else the refusal, which leaves it as it was
abbrev pub LimitedAnswer : {S : Type 0} → (S → Request (List ℕ) → Response → S → Type 0)
    → Bool → S → Request (List ℕ) → Response → S → Type 0
LimitedAnswer answers true old request response new = answers old request response new
LimitedAnswer answers false old request response new = IsRefusal response × (new ≡ old)

-- an answer of the service, or the refusal, which leaves it as it was
abbrev pub AnswersOrRefuses : {S : Type 0} → (S → Request (List ℕ) → Response → S → Type 0)
    → S → Request (List ℕ) → Response → S → Type 0
AnswersOrRefuses answers old request response new =
    answers old request response new ⊎ (IsRefusal response × (new ≡ old))

-- calls one after another, each answered so, lead from one state of the service to the other
abbrev pub AnswersInTurn : {S : Type 0} → (S → Request (List ℕ) → Response → S → Type 0) → S → S → Type 0
AnswersInTurn answers old new = (calls : List Call) × Chain (AnswersOrRefuses answers) old calls new
