-- The same content lays the same bytes.
use mathlib.Core.Path.{◌≡◌}
use Prim.Native.Nat.{ℕ, zero, suc}
use lib.ListN.{length}
use Rattle.model.specs.Table.{State}
use Rattle.image.specs.Image.{table_bytes}
use Rattle.image.specs.WellFormed.{Writable}
use Rattle.same.specs.Same.{Same, SameLaysSame}
use Rattle.same.proofs.RenamedLaws.{count_renamed}
use Rattle.same.proofs.PlanLaws.{SameContent, lays_renamed}
use Rattle.same.proofs.PairLaws.{to, to_has, paired, renamed}

-- as many items
pub count_same : (state other : State) (d t v : ℕ) → Writable state d t → Writable other d v → Same state other d t v → length (state t).members ≡ length (other v).members
unfolding Writable Same
count_same state other zero t v good good-there s = absurd good
count_same state other (suc d) t v good good-there s =
    count_renamed (to (λ u w. Same state other d u w) (state t) (other v) good.0 good-there.0 s) (state t) (other v)
    (renamed (λ u w. Same state other d u w) (state t) (other v) good.0 good-there.0 s)

pub same_lays_same : SameLaysSame
unfolding Writable Same
same_lays_same rule filter state other zero t v at good good-there s = absurd good
same_lays_same rule filter state other (suc d) t v at good good-there s =
    let is : ℕ → ℕ → Type 0 = λ u w. Same state other d u w in
    let f = to is (state t) (other v) good.0 good-there.0 s in
    lays_renamed rule filter state other d t v f
    (paired is (state t) (other v) good.0 good-there.0 s state other (λ u w. (start : ℕ) → table_bytes rule filter state d u start ≡ table_bytes rule filter other d w start)
    (λ i u w h e e-there q. let a = good.1 i u h e in
    let b = good-there.1 (f i) w (to_has is (state t) (other v) good.0 good-there.0 s i h) e-there in
    SameContent.nested u w (count_same state other d u w a b q) (λ start. same_lays_same rule filter state other d u w start a b q))) at
