-- Both parts of a test that holds, for the walks: a value of a struct has its type where each field has.
use mathlib.Core.Bool.{Bool, true, false, ◌&&◌}
use lib.Dec.{T as Holds}

pub and_left : (p q : Bool) → Holds (p && q) → Holds p
and_left true q h = tt
and_left false q h = absurd h

pub and_right : (p q : Bool) → Holds (p && q) → Holds q
and_right true q h = h
and_right false q h = absurd h
