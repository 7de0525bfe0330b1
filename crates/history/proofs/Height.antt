-- The height that the model follows through the entries is the one that the words tell, on honest memory.
use Prim.Native.Nat.{ℕ, zero, suc, ◌+◌, ◌≤◌, ◌<◌}
use native.Mathlib.Nat.{not-suc-le-zero}
use native.Mathlib.Numerals.{add-one}
use native.Mathlib.Omega.{arith}
use mathlib.Core.Path.{◌≡◌, refl, sym, ap, ◌∙◌}
use mathlib.Core.Bool.{Bool, true, false, ◌&&◌}
use mathlib.Core.List.{List}
use borrow.Author.Tests.{eqb-true, eqb-false, eq-eqb, ne_eqb, ltb-true, lt-ltb, le-ltb}
use lib.Dec.{eqb, ltb}
use Rattle.words.specs.Choice.{pick}
use Rattle.words.proofs.ChoiceLaws.{both, both_hold}
use Rattle.model.specs.Table.{Content, Entry}
use Rattle.model.specs.Builder.{most, held_by}
use Rattle.model.specs.Builder as told
use Rattle.layout.specs.Kind.{value_kind, table_kind}
use Rattle.build_memory.specs.Memory.{table_total, item_total}
use Rattle.build_memory.specs.Meaning.{meaning}
use Rattle.build_nested.specs.Nest.{held_height}
use Rattle.history.specs.Items.{Item, item_of, table_of}
use Rattle.history.specs.Consistent.{held_item, held_in}
use Rattle.history.specs.Honest.{Honest}
use Rattle.history.proofs.TidySearch.{false-true}
use Rattle.history.proofs.Consistent.{most_cong, item_cong}
use Rattle.history.proofs.HonestNesting.{held_is}
use Rattle.history.proofs.Meaning.{content_from, entry_from, items_of, items_count, tables_count, item_at_lem}

-- ---- how many indices below n pass

unfoldable tally : (ℕ → Bool) → ℕ → ℕ
tally p zero = 0
tally p (suc n) = pick (p n) (suc (tally p n)) (tally p n)

tally_most : (p : ℕ → Bool) (n : ℕ) → tally p n ≤ n
unfolding tally pick
tally_most p zero = omega arith
tally_most p (suc n) = by_test (p n) (tally_most p n)
  where
    by_test : (q : Bool) → tally p n ≤ n → pick q (suc (tally p n)) (tally p n) ≤ suc n
    by_test true h = omega arith
    by_test false h = omega arith

tally_short : (p : ℕ → Bool) (n i : ℕ) → i < n → p i ≡ false → tally p n < n
unfolding tally pick
tally_short p zero i h e = absurd (not-suc-le-zero h)
tally_short p (suc n) i h e = by_test (p n) refl (eqb i n) refl (tally_short p n i) (tally_most p n)
  where
    by_test : (q : Bool) → p n ≡ q → (r : Bool) → eqb i n ≡ r → (i < n → p i ≡ false → tally p n < n) → tally p n ≤ n → pick q (suc (tally p n)) (tally p n) < suc n
    by_test true a true b ih h = false-true (sym e ∙ ap p (eqb-true i n b) ∙ a)
    by_test true a false b ih m = let ne = eqb-false i n b in let l = ih (omega arith) e in omega arith
    by_test false a r b ih m = omega arith

tally_more : (p q : ℕ → Bool) (n : ℕ) → ((j : ℕ) → p j ≡ true → q j ≡ true) → tally p n ≤ tally q n
unfolding tally pick
tally_more p q zero h = omega arith
tally_more p q (suc n) h = by_test (p n) refl (q n) refl (tally_more p q n h)
  where
    by_test : (a : Bool) → p n ≡ a → (b : Bool) → q n ≡ b → tally p n ≤ tally q n → pick a (suc (tally p n)) (tally p n) ≤ pick b (suc (tally q n)) (tally q n)
    by_test true x true y l = omega arith
    by_test true x false y l = false-true (sym y ∙ h n x)
    by_test false x true y l = omega arith
    by_test false x false y l = l

tally_less : (p q : ℕ → Bool) (n i : ℕ) → i < n → p i ≡ false → q i ≡ true → ((j : ℕ) → p j ≡ true → q j ≡ true) → tally p n < tally q n
unfolding tally pick
tally_less p q zero i l u v h = absurd (not-suc-le-zero l)
tally_less p q (suc n) i l u v h = by_test (p n) refl (q n) refl (eqb i n) refl (λ m. tally_less p q n i m u v h) (tally_more p q n h)
  where
    by_test : (a : Bool) → p n ≡ a → (b : Bool) → q n ≡ b → (r : Bool) → eqb i n ≡ r → (i < n → tally p n < tally q n) → tally p n ≤ tally q n
        → pick a (suc (tally p n)) (tally p n) < pick b (suc (tally q n)) (tally q n)
    by_test true x b y true z ih m = false-true (sym u ∙ ap p (eqb-true i n z) ∙ x)
    by_test false x true y true z ih m = omega arith
    by_test false x false y true z ih m = false-true (sym y ∙ ap q (sym (eqb-true i n z)) ∙ v)
    by_test true x true y false z ih m = let ne = eqb-false i n z in let k = ih (omega arith) in omega arith
    by_test true x false y false z ih m = false-true (sym y ∙ h n x)
    by_test false x true y false z ih m = omega arith
    by_test false x false y false z ih m = let ne = eqb-false i n z in ih (omega arith)

-- ---- what an item adds

one_same : (h : ℕ → ℕ) (t : ℕ) (x : Item) → pick (eqb (entry_from x).table t) (held_by h t (entry_from x).content) 0 ≡ held_item h t x
unfolding entry_from content_from held_item pick held_by
one_same h t x = by_kind (eqb x.table t) (eqb x.kind value_kind) refl (eqb x.kind table_kind) refl
  where
    by_kind : (a p : Bool) → eqb x.kind value_kind ≡ p → (q : Bool) → eqb x.kind table_kind ≡ q
        → pick a (held_by h t (pick p (Content.bytes x.value) (pick q (Content.nested x.guest) Content.container))) 0 ≡ pick (a && q) (h x.guest) 0
    by_kind true true e true f = absurd (let y = eqb-true x.kind value_kind e in let z = eqb-true x.kind table_kind f in omega arith)
    by_kind true true e false f = refl
    by_kind true false e true f = refl
    by_kind true false e false f = refl
    by_kind false p e q f = refl

module _ (ws ar : List ℕ) (honest : Honest ws ar) where
  abbrev high : ℕ → ℕ
  high u = (table_of ws u).height

  abbrev items : List Entry
  items = items_of ws ar

  -- the tables that are placed and lower than h
  abbrev lower : ℕ → ℕ → Bool
  lower h u = eqb (table_of ws u).placed 1 && ltb (high u) h

  lower_up : (a b : ℕ) → a ≤ b → (u : ℕ) → lower a u ≡ true → lower b u ≡ true
  lower_up a b l u e =
      let r = both (eqb (table_of ws u).placed 1) (ltb (high u) a) e in
      let h = ltb-true (high u) a r.1 in
      both_hold r.0 (lt-ltb (high u) b (omega arith))

  lower_self : (u : ℕ) → lower (high u) u ≡ false
  lower_self u = by_test (eqb (table_of ws u).placed 1) (le-ltb (high u) (high u) (omega arith))
    where
      by_test : (q : Bool) → ltb (high u) (high u) ≡ false → (q && ltb (high u) (high u)) ≡ false
      by_test true e = e
      by_test false e = refl

  -- a guest's height needs less depth than its holder's
  rank_less : (u v : ℕ) → v < table_total ws → (table_of ws v).placed ≡ 1 → high v < high u → tally (lower (high v)) (table_total ws) < tally (lower (high u)) (table_total ws)
  rank_less u v l p h =
      tally_less (lower (high v)) (lower (high u)) (table_total ws) v l (lower_self v)
      (both_hold (eq-eqb (table_of ws v).placed 1 p) (lt-ltb (high v) (high u) h)) (lower_up (high v) (high u) (omega arith))

  -- where the heights of a table's guests are told correctly one level down, so is the table's
  level : (d u : ℕ) → ((i : ℕ) → i < item_total ws → (item_of ws ar i).table ≡ u → (item_of ws ar i).kind ≡ 72 → suc (told.held_in items d (item_of ws ar i).guest) ≡ high (item_of ws ar i).guest)
      → told.held_in items (suc d) u ≡ held_in (item_total ws) (item_of ws ar) high u
  unfolding told.held_in held_in
  level d u consistent =
      ap (most _) (items_count ws ar)
      ∙ most_cong _ (λ (i : ℕ). held_item high u (item_of ws ar i)) (item_total ws)
      (λ i l.
      ap (λ (e : Entry). pick (eqb e.table u) (held_by (λ (v : ℕ). suc (told.held_in items d v)) u e.content) 0) (item_at_lem ws ar i l)
      ∙ one_same (λ (v : ℕ). suc (told.held_in items d v)) u (item_of ws ar i)
      ∙ item_cong (λ (v : ℕ). suc (told.held_in items d v)) high u (item_of ws ar i) (consistent i l))

  placed_height : (d u : ℕ) → u < table_total ws → (table_of ws u).placed ≡ 1 → tally (lower (high u)) (table_total ws) < d → suc (told.held_in items d u) ≡ high u
  placed_height zero u l p h = absurd (not-suc-le-zero h)
  placed_height (suc d) u l p h =
      ap suc (level d u (λ i b e k.
      let r = honest.consistent.guests i b k in
      let rank = honest.consistent.ranks i b k (ap (λ (x : ℕ). (table_of ws x).placed) e ∙ p) in
      let same = ap high e in
      let less = rank_less u (item_of ws ar i).guest r.0 r.1 (omega arith) in
      placed_height d (item_of ws ar i).guest r.0 r.1 (omega arith)))
      ∙ sym (add-one (held_in (item_total ws) (item_of ws ar) high u)) ∙ sym (honest.consistent.exact u l p)

  depth_by : (T : ℕ) → T ≡ table_total ws → (t : ℕ) → t < table_total ws → (table_of ws t).placed ≡ 0 → told.held_in items T t ≡ held_height ws t
  depth_by zero e t l p = absurd (omega arith)
  depth_by (suc d) e t l p =
      level d t (λ i b at k.
      let r = honest.consistent.guests i b k in
      let v = (item_of ws ar i).guest in
      let below = tally_less (lower (high v)) (λ (u : ℕ). eqb (table_of ws u).placed 1) (table_total ws) v r.0 (lower_self v) (eq-eqb (table_of ws v).placed 1 r.1)
      (λ j x. (both (eqb (table_of ws j).placed 1) (ltb (high j) (high v)) x).0) in
      let short = tally_short (λ (u : ℕ). eqb (table_of ws u).placed 1) (table_total ws) t l (ne_eqb (table_of ws t).placed 1 (λ (z : (table_of ws t).placed ≡ 1). omega arith)) in
      placed_height d v r.0 r.1 (omega arith))
      ∙ sym (held_is ws ar honest t)

  -- the height of a table that is not placed
  pub height_same : (t : ℕ) → t < table_total ws → (table_of ws t).placed ≡ 0 → told.height (meaning ws ar) t ≡ held_height ws t + 1
  unfolding told.height meaning
  height_same t l p = ap suc (ap (λ (n : ℕ). told.held_in items n t) (tables_count ws) ∙ depth_by (table_total ws) refl t l p) ∙ sym (add-one (held_height ws t))
