-- The newest event of a journey is taken back.
use Rattle.journey.proofs.Common.{◌≡◌, ◌-◌, List, [], ◌∷◌, ◌++◌, length, take, ap, ◌∙◌, arith, length-append, take-append_seam, Event, without_newest}

-- those before it are left
pub without_newest-push : (events : List Event) (e : Event) → without_newest (events ++ e ∷ []) ≡ events
without_newest-push events e =
    let more = length-append events (e ∷ []) in
    let shorter : length (events ++ e ∷ []) - 1 ≡ length events = omega (arith, more) in
    ap (λ n. take n (events ++ e ∷ [])) shorter ∙ take-append_seam events (e ∷ [])
