-- Calls of a limited service, as calls of the service itself.
use Rattle.std.proofs.Common.{◌≡◌, ℕ, Bool, true, false, List, [], ◌∷◌, ◌++◌, refl, ap, subst, inl, inr}
use Rattle.http.specs.declared.request.Request.{Request}
use Rattle.http_server.specs.declared.response.Response.{Response}
use Rattle.http_server.specs.Exchange.{Call, Chain, Calls}
use Rattle.http_server.proofs.StreamLemmas.{Chain-append}
use Rattle.board_connections.specs.declared.limited.LimitedService.{LimitedService}
use Rattle.board_connections.specs.Answers.{LimitedAnswer, AnswersOrRefuses, AnswersInTurn}
use Rattle.board_connections.specs.LimitedService.{AnswersLimited}

-- an answer of the limited service is the service's or the refusal
or_refuses : {S : Type 0} (answers : S → Request (List ℕ) → Response → S → Type 0) (may_answer : Bool) (old : S) (request : Request (List ℕ)) (response : Response) (new : S)
    → LimitedAnswer answers may_answer old request response new → AnswersOrRefuses answers old request response new
or_refuses answers true old request response new h = inl h
or_refuses answers false old request response new h = inr h

Chain-limited : {S : Type 0} (answers : S → Request (List ℕ) → Response → S → Type 0) (calls : List Call) (old new : LimitedService S)
    → Chain (AnswersLimited answers) old calls new → Chain (AnswersOrRefuses answers) old.service calls new.service
Chain-limited {S} answers [] old new h = ap (λ (s : LimitedService S). s.service) h
Chain-limited {S} answers (c ∷ calls) old new h = (
  h.0.service,
  or_refuses answers old.may_answer old.service c.0 c.1 h.0.service h.1.0,
  Chain-limited answers calls h.0 new h.2,
)

-- the calls on a connection are calls of the service
pub Calls-in_turn : {S : Type 0} (answers : S → Request (List ℕ) → Response → S → Type 0) (a : S) (old new : LimitedService S) (before after : List Call)
    → old.service ≡ a → Calls (AnswersLimited answers) old new before after → AnswersInTurn answers a new.service
Calls-in_turn {S} answers a old new before after same h =
    subst (λ (s : S). AnswersInTurn answers s new.service) same (h.0, Chain-limited answers h.0 old new h.2)

-- whether it may answer is no part of what the service is
pub limited_calls : {S : Type 0} (answers : S → Request (List ℕ) → Response → S → Type 0) (old told new : LimitedService S) (may_answer : Bool) (before after : List Call)
    → told ≡ record old { may_answer = may_answer } → Calls (AnswersLimited answers) told new before after → AnswersInTurn answers old.service new.service
limited_calls {S} answers old told new may_answer before after same h =
    Calls-in_turn answers old.service told new before after (ap (λ (s : LimitedService S). s.service) same) h

-- no call changes nothing
pub AnswersInTurn-none : {S : Type 0} (answers : S → Request (List ℕ) → Response → S → Type 0) (a : S) → AnswersInTurn answers a a
AnswersInTurn-none answers a = ([], refl)

-- and calls may follow others
pub AnswersInTurn-then : {S : Type 0} (answers : S → Request (List ℕ) → Response → S → Type 0) (a b c : S)
    → AnswersInTurn answers a b → AnswersInTurn answers b c → AnswersInTurn answers a c
AnswersInTurn-then answers a b c x y = (x.0 ++ y.0, Chain-append (AnswersOrRefuses answers) x.0 y.0 a b c x.1 y.1)
