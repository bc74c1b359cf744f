-- Units are asked one after another.
use Rattle.hub_tables.proofs.Common.{◌≡◌, ℕ, ◌+◌, ◌<◌, false, List, length, drop, get_or, refl, sym, ap, ◌∙◌, add-one, drop-cons, UnitLoad, HubState, is_unit_busy, unit_fault}

-- past a unit that is not busy
pub past_one : (s : HubState) (units : List UnitLoad) (i : ℕ) (l : UnitLoad) → i < length units → l ≡ get_or units i l → is_unit_busy s l.unit ≡ false →
    unit_fault s (drop i units) ≡ unit_fault s (drop (i + 1) units)
past_one s units i l lt is free =
    ap (unit_fault s) (drop-cons units i l lt) ∙ rw add-one (rw (sym is) (rw free refl))
