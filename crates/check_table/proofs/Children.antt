-- Of a sound table: a container's key and a child's fragment, joined, are a key that is looked up as that child.
use Rattle.std.specs.Prelude.{Result, Ok, Err, Option, Some, None}
use Prim.Native.Nat.{ℕ, zero, suc, ◌-◌, ◌<◌}
use mathlib.Core.Path.{◌≡◌, refl, sym, ap, ◌∙◌}
use mathlib.Core.List.{List, ◌++◌}
use native.Mathlib.Omega.{arith}
use Rattle.layout.specs.declared.refusal.Refusal.{Refusal}
use Rattle.layout.specs.declared.table.Table.{Table}
use Rattle.layout.specs.Table.{InFile}
use Rattle.layout.specs.Item.{item_at}
use Rattle.read_chain.specs.Chain.{fragment_of, parent_of, climb_from, Joined, append, join_step, key_of}
use Rattle.read_chain.proofs.ChainLaws.{key_turn, climb_or}
use Rattle.check_rules.specs.Rules.{index_of}
use Rattle.check_table.specs.Sound.{SoundIn}
use Rattle.read_find.specs.Find.{Manner}
use Rattle.check_table.proofs.RuleWords.{parent_up, few_items}

joined_same : {a b : List ℕ} → Joined.joined a ≡ Joined.joined b → a ≡ b
joined_same e = cc

-- a joined key with a fragment behind it
append_parts : (j : Joined) (f : List ℕ) {k : List ℕ} → append j f ≡ Joined.joined k → (above : List ℕ) × (j ≡ Joined.joined above) × (k ≡ above ++ f)
unfolding append
append_parts (Joined.joined above) f e = (above, refl, cc)
append_parts (Joined.broken why) f e = let z : ◌≡◌ {A = ℕ} 0 1 = cc in absurd (omega arith)

-- a chain that reaches a root is the same with more steps
join_more : (s : Result (Option ℕ) Refusal) (f : List ℕ) (fewer more : ℕ → Joined) {k : List ℕ}
    → ((p : ℕ) (above : List ℕ) → fewer p ≡ Joined.joined above → more p ≡ Joined.joined above)
    → join_step s f fewer ≡ Joined.joined k → join_step s f more ≡ Joined.joined k
unfolding join_step append
join_more (Ok None) f fewer more same e = e
join_more (Ok (Some p)) f fewer more same e =
    let (above, is, whole) = append_parts (fewer p) f e in
    rw (same p above is) (ap Joined.joined (sym whole))
join_more (Err why) f fewer more same e = let z : ◌≡◌ {A = ℕ} 0 1 = cc in absurd (omega arith)

pub key_more : (file : List ℕ) (t : Table) (steps index : ℕ) (k : List ℕ) → key_of file t steps index ≡ Joined.joined k → key_of file t (suc steps) index ≡ Joined.joined k
unfolding key_of
key_more file t zero index k e = let z : ◌≡◌ {A = ℕ} 0 1 = cc in absurd (omega arith)
key_more file t (suc steps) index k e =
    join_more (climb_from file t.count (item_at file t index)) (fragment_of file (item_at file t index)) (λ p. key_of file t steps p) (λ p. key_of file t (suc steps) p)
    (λ p above is. key_more file t steps p above is) e

-- an item that reads and names a parent: its key is the parent's with its fragment behind it
pub not-refused : (s : Result (Option ℕ) Refusal) (f : List ℕ) (key_at : ℕ → Joined) {k : List ℕ} → join_step s f key_at ≡ Joined.joined k → (why : Refusal) → s ≡ Err why → ⊥
unfolding join_step
not-refused s f key_at e why is =
    let z : join_step (Err why) f key_at ≡ Joined.joined _ = ap (λ (x : Result (Option ℕ) Refusal). join_step x f key_at) (sym is) ∙ e in
    let y : ◌≡◌ {A = ℕ} 0 1 = cc in
    omega arith

module _ (file : List ℕ) (t : Table) (inside : InFile file t) (i j : ℕ) (hi : i < t.count) (hj : j < t.count) (names : (item_at file t j).parent ≡ i) where
  child_step : {k : List ℕ} → key_of file t t.count j ≡ Joined.joined k → climb_from file t.count (item_at file t j) ≡ Ok (Some i)
  child_step e =
      let some : 0 < t.count = omega arith in
      let here = key_turn file t t.count j (item_at file t j) _ some refl refl in
      (climb_or file t.count (item_at file t j) (not-refused _ _ _ (sym here ∙ e))).is
      ∙ ap (parent_of t.count) names ∙ parent_up file t j i hi (few_items inside)

  pub child_key : {ki kj : List ℕ} → key_of file t t.count i ≡ Joined.joined ki → key_of file t t.count j ≡ Joined.joined kj → kj ≡ ki ++ fragment_of file (item_at file t j)
  unfolding join_step
  child_key {ki} {kj} ei ej =
      let some : 0 < t.count = omega arith in
      let one : suc (t.count - 1) ≡ t.count = omega arith in
      let f = fragment_of file (item_at file t j) in
      let (above, is, whole) = append_parts (key_of file t (t.count - 1) i) f (sym (key_turn file t t.count j (item_at file t j) _ some refl (child_step ej)) ∙ ej) in
      let more : key_of file t t.count i ≡ Joined.joined above = ap (λ (n : ℕ). key_of file t n i) (sym one) ∙ key_more file t (t.count - 1) i above is in
      let same : above ≡ ki = joined_same (sym more ∙ ei) in
      whole ∙ ap (λ (z : List ℕ). z ++ f) same

  -- looking up the container's key and the child's fragment, joined, answers the child
  pub child_found : (manner : Manner) → SoundIn manner file t → (ki : List ℕ) → key_of file t t.count i ≡ Joined.joined ki → index_of manner file t (ki ++ fragment_of file (item_at file t j)) ≡ Some j
  child_found manner s ki ei =
      let (kj, ej, found) = s.keys j hj in
      ap (index_of manner file t) (sym (child_key ei ej)) ∙ found
