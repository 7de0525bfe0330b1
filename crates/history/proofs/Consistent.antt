-- One item more, one item written again, one table placed, and one table more keep tables and items consistent.
use Prim.Native.Nat.{ℕ, zero, suc, ◌+◌, ◌-◌, ◌≤◌, ◌<◌}
use native.Mathlib.Numerals.{add-one}
use native.Mathlib.Omega.{arith}
use native.Mathlib.Decide.{dec_lt}
use mathlib.Core.Path.{◌≡◌, refl, sym, ap, ◌∙◌, subst}
use mathlib.Core.Bool.{Bool, true, false, ◌&&◌}
use mathlib.Core.List.{List}
use borrow.Author.Tests.{eqb-true, eqb-false, eq-eqb, ne_eqb, le-ltb}
use lib.Dec.{eqb, ltb}
use lib.ListN.{length, take, get_or}
use Rattle.layout.specs.Limits.{deepest, longest_key, most_items, most_tables}
use Rattle.words.specs.Choice.{pick}
use Rattle.text.specs.Utf8.{is_utf8}
use Rattle.layout.specs.Kind.{kind_known}
use Rattle.model.specs.Builder.{most}
use Rattle.history.specs.Items.{Item, item, Table}
use Rattle.history.specs.Consistent.{is_bytes, There, Above, Parent, held_item, held_in, Consistent}

pub there_on : (n n' : ℕ) (f f' : ℕ → Item) → n ≤ n' → ((j : ℕ) → j < n → ((f' j).table ≡ (f j).table) × ((f' j).key ≡ (f j).key))
    → (t : ℕ) (k : List ℕ) → There n f t k → There n' f' t k
there_on n n' f f' le same t k h =
    let b = h.below in
    record { index = h.index; below = omega arith; of_table = (same h.index b).0 ∙ h.of_table; has_key = (same h.index b).1 ∙ h.has_key }

pub above_on : (n n' : ℕ) (f f' : ℕ → Item) → n ≤ n' → ((j : ℕ) → j < n → ((f' j).table ≡ (f j).table) × ((f' j).key ≡ (f j).key))
    → (t : ℕ) (k : List ℕ) (parent from : ℕ) → Above n f t k parent from → Above n' f' t k parent from
above_on n n' f f' le same t k parent from a =
    record {
      within = a.within;
      root = a.root;
      holds = λ j e. let h = a.holds j e in (let l = h.0 in omega arith, (same j h.0).0 ∙ h.1, (same j h.0).1 ∙ h.2);
    }

parent_on : (f f' : ℕ → Item) (i : ℕ) → ((j : ℕ) → j < i → ((f' j).table ≡ (f j).table) × ((f' j).key ≡ (f j).key)) → (x : Item) (sep : ℕ) → Parent f i x sep → Parent f' i x sep
parent_on f f' i same x sep p =
    record {
      from = p.from;
      above = above_on i i f f' (omega arith) same x.table x.key x.parent p.from p.above;
      proper = p.proper;
      gap = p.gap;
    }

-- ---- heights held
pub most_cong : (p q : ℕ → ℕ) (n : ℕ) → ((i : ℕ) → i < n → p i ≡ q i) → most p n ≡ most q n
unfolding most pick
most_cong p q zero h = refl
most_cong p q (suc n) h =
    ap (λ (x : ℕ). pick (ltb x (p n)) (p n) x) (most_cong p q n (λ i l. h i (omega arith)))
    ∙ ap (λ (x : ℕ). pick (ltb (most q n) x) x (most q n)) (h n (omega arith))

most-zero : (p : ℕ → ℕ) (n : ℕ) → p n ≡ 0 → most p (n + 1) ≡ most p n
unfolding most pick
most-zero p n e = rw add-one (ap (λ (x : ℕ). pick (ltb (most p n) x) x (most p n)) e ∙ simp (le-ltb (most p n) 0 (omega arith)))

pub item_else : (h : ℕ → ℕ) (t : ℕ) (x : Item) → (x.table ≡ t → ⊥) → held_item h t x ≡ 0
unfolding held_item pick
item_else h t x ne = simp (ne_eqb _ _ ne)

pub item_kind_lem : (h : ℕ → ℕ) (t : ℕ) (x : Item) → (x.kind ≡ 72 → ⊥) → held_item h t x ≡ 0
unfolding held_item pick
item_kind_lem h t x ne = by_test (eqb x.table t) (ne_eqb x.kind 72 ne)
  where
    by_test : (q : Bool) → eqb x.kind 72 ≡ false → pick (q && eqb x.kind 72) (h x.guest) 0 ≡ 0
    by_test true e = simp e
    by_test false e = refl

pub item-holds : (h : ℕ → ℕ) (t : ℕ) (x : Item) → x.table ≡ t → x.kind ≡ 72 → held_item h t x ≡ h x.guest
unfolding held_item pick
item-holds h t x a b = simp (eq-eqb _ _ a, eq-eqb _ _ b)

-- two ways to say the heights agree on what an item adds where they agree on the table it holds
pub item_cong : (h h' : ℕ → ℕ) (t : ℕ) (x : Item) → (x.table ≡ t → x.kind ≡ 72 → h x.guest ≡ h' x.guest) → held_item h t x ≡ held_item h' t x
item_cong h h' t x e = by_test (eqb x.table t) refl (eqb x.kind 72) refl
  where
    by_test : (q : Bool) → eqb x.table t ≡ q → (r : Bool) → eqb x.kind 72 ≡ r → held_item h t x ≡ held_item h' t x
    by_test true a true b =
        let at = eqb-true x.table t a in
        let bt = eqb-true x.kind 72 b in
        item-holds h t x at bt ∙ e at bt ∙ sym (item-holds h' t x at bt)
    by_test true a false b = item_kind_lem h t x (eqb-false x.kind 72 b) ∙ sym (item_kind_lem h' t x (eqb-false x.kind 72 b))
    by_test false a r b = item_else h t x (eqb-false x.table t a) ∙ sym (item_else h' t x (eqb-false x.table t a))

pub held_cong : (n : ℕ) (f f' : ℕ → Item) (h h' : ℕ → ℕ) (t : ℕ) → ((i : ℕ) → i < n → held_item h t (f i) ≡ held_item h' t (f' i)) → held_in n f h t ≡ held_in n f' h' t
unfolding held_in
held_cong n f f' h h' t e = most_cong (λ (i : ℕ). held_item h t (f i)) (λ (i : ℕ). held_item h' t (f' i)) n e

held_more : (n : ℕ) (f : ℕ → Item) (h : ℕ → ℕ) (t : ℕ) → ((f n).table ≡ t → ⊥) → held_in (n + 1) f h t ≡ held_in n f h t
unfolding held_in
held_more n f h t ne = most-zero (λ (i : ℕ). held_item h t (f i)) n (item_else h t (f n) ne)

-- ---- one item more
pub record NewItem (T n : ℕ) (g : ℕ → Table) (f : ℕ → Item) (x : Item) : Type 0 where
  pub known : x.table < T
  pub loose : (g x.table).placed ≡ 1 → ⊥
  pub text : is_utf8 x.key ≡ true
  pub short : length x.key ≤ longest_key
  pub key_bytes : is_bytes x.key ≡ true
  pub kind : kind_known x.kind ≡ true
  pub missing : (i : ℕ) → i < n → (f i).table ≡ x.table → (f i).key ≡ x.key → ⊥
  pub parent : Parent f n x (g x.table).sep
  pub closed : (e : ℕ) → 1 ≤ e → e < length x.key → get_or x.key (e - 1) 0 ≡ (g x.table).sep → There n f x.table (take e x.key)
  pub guest : x.kind ≡ 72 → (x.guest < T) × ((g x.guest).placed ≡ 1) × ((g x.guest).height < deepest)
  pub free : x.kind ≡ 72 → (i : ℕ) → i < n → (f i).kind ≡ 72 → (f i).guest ≡ x.guest → ⊥

module _ (T n : ℕ) (g : ℕ → Table) (f f' : ℕ → Item) (x : Item) (consistent : Consistent T n g f) (same : (j : ℕ) → j < n → f' j ≡ f j) (is : f' n ≡ x)
    (few : n < most_items) (new : NewItem T n g f x) where
  abbrev same_place : (j : ℕ) → j < n → ((f' j).table ≡ (f j).table) × ((f' j).key ≡ (f j).key)
  same_place j l = (ap (λ (y : Item). y.table) (same j l), ap (λ (y : Item). y.key) (same j l))

  extend : (P : ℕ → Item → Type 0) → ((i : ℕ) → i < n → P i (f i)) → P n x → (i : ℕ) → i < n + 1 → P i (f' i)
  extend P old own i h = by_field (eqb i n) refl
    where
      by_field : (q : Bool) → eqb i n ≡ q → P i (f' i)
      by_field true e = subst (λ (j : ℕ). P j (f' j)) (sym (eqb-true i n e)) (subst (P n) (sym is) own)
      by_field false e = let ne = eqb-false i n e in subst (P i) (sym (same i (omega arith))) (old i (omega arith))

  -- two items that agree in R are one, where no old one agrees with the new one
  pair : (R : Item → Item → Type 0) → ((i j : ℕ) → i < n → j < n → R (f i) (f j) → i ≡ j) → ((i : ℕ) → i < n → R (f i) x → ⊥) → ((i : ℕ) → i < n → R x (f i) → ⊥)
      → (i j : ℕ) → i < n + 1 → j < n + 1 → R (f' i) (f' j) → i ≡ j
  pair R old left consistent' i j hi hj r = by_field (eqb i n) refl (eqb j n) refl
    where
      by_field : (p : Bool) → eqb i n ≡ p → (q : Bool) → eqb j n ≡ q → i ≡ j
      by_field true a true b = eqb-true i n a ∙ sym (eqb-true j n b)
      by_field true a false b =
          let ne = eqb-false j n b in
          let lj : j < n = omega arith in
          absurd (consistent' j lj (subst (λ (y : Item). R y (f j)) (ap f' (eqb-true i n a) ∙ is) (subst (R (f' i)) (same j lj) r)))
      by_field false a true b =
          let ne = eqb-false i n a in
          let li : i < n = omega arith in
          absurd (left i li (subst (R (f i)) (ap f' (eqb-true j n b) ∙ is) (subst (λ (y : Item). R y (f' j)) (same i li) r)))
      by_field false a false b =
          let na = eqb-false i n a in
          let nb = eqb-false j n b in
          old i j (omega arith) (omega arith) (subst (R (f i)) (same j (omega arith)) (subst (λ (y : Item). R y (f' j)) (same i (omega arith)) r))

  pub consistent_add : Consistent T (n + 1) g f'
  consistent_add =
      record {
        tables = consistent.tables;
        count = omega arith;
        seps = consistent.seps;
        flags = consistent.flags;
        known = extend (λ i y. y.table < T) consistent.known new.known;
        texts = extend (λ i y. is_utf8 y.key ≡ true) consistent.texts new.text;
        short = extend (λ i y. length y.key ≤ longest_key) consistent.short new.short;
        key_bytes = extend (λ i y. is_bytes y.key ≡ true) consistent.key_bytes new.key_bytes;
        kinds = extend (λ i y. kind_known y.kind ≡ true) consistent.kinds new.kind;
        distinct = λ i j hi hj et ek. pair (λ a b. (a.table ≡ b.table) × (a.key ≡ b.key)) (λ a b la lb r. consistent.distinct a b la lb r.0 r.1)
            (λ a la r. new.missing a la r.0 r.1) (λ a la r. new.missing a la (sym r.0) (sym r.1)) i j hi hj (et, ek);
        parents = extend (λ i y. Parent f' i y (g y.table).sep)
            (λ i l. parent_on f f' i (λ j lj. same_place j (omega arith)) (f i) (g (f i).table).sep (consistent.parents i l))
            (parent_on f f' n same_place x (g x.table).sep new.parent);
        closed = extend (λ i y. (e : ℕ) → 1 ≤ e → e < length y.key → get_or y.key (e - 1) 0 ≡ (g y.table).sep → There (n + 1) f' y.table (take e y.key))
            (λ i l e p u s. there_on n (n + 1) f f' (omega arith) same_place (f i).table (take e (f i).key) (consistent.closed i l e p u s))
            (λ e p u s. there_on n (n + 1) f f' (omega arith) same_place x.table (take e x.key) (new.closed e p u s));
        guests = extend (λ i y. y.kind ≡ 72 → (y.guest < T) × ((g y.guest).placed ≡ 1) × ((g y.guest).height < deepest)) consistent.guests new.guest;
        once = λ i j hi hj a b c. pair (λ y z. (y.kind ≡ 72) × (z.kind ≡ 72) × (y.guest ≡ z.guest)) (λ p q lp lq r. consistent.once p q lp lq r.0 r.1 r.2)
            (λ p lp r. new.free r.1 p lp r.0 r.2) (λ p lp r. new.free r.0 p lp r.1 (sym r.2)) i j hi hj (a, b, c);
        ranks = extend (λ i y. y.kind ≡ 72 → (g y.table).placed ≡ 1 → (g y.guest).height < (g y.table).height) consistent.ranks (λ e p. absurd (new.loose p));
        exact = λ t l p.
            consistent.exact t l p
            ∙ ap (λ (x : ℕ). x + 1) (sym (held_more n f' (λ (x : ℕ). (g x).height) t (λ (e : (f' n).table ≡ t). new.loose (ap (λ (x : ℕ). (g x).placed) (ap (λ (y : Item). y.table) (sym is) ∙ e) ∙ p))
            ∙ held_cong n f' f (λ (x : ℕ). (g x).height) (λ (x : ℕ). (g x).height) t (λ i u. ap (held_item (λ (x : ℕ). (g x).height) t) (same i u))));
      }

-- ---- one item written again: table, key and parent stay
pub record NewContent (T n : ℕ) (g : ℕ → Table) (f : ℕ → Item) (y : Item) : Type 0 where
  pub loose : (g y.table).placed ≡ 1 → ⊥
  pub kind : kind_known y.kind ≡ true
  pub guest : y.kind ≡ 72 → (y.guest < T) × ((g y.guest).placed ≡ 1) × ((g y.guest).height < deepest)
  pub free : y.kind ≡ 72 → (i : ℕ) → i < n → (f i).kind ≡ 72 → (f i).guest ≡ y.guest → ⊥

module _ (T n : ℕ) (g : ℕ → Table) (f f' : ℕ → Item) (o kind : ℕ) (v : List ℕ) (guest : ℕ) (consistent : Consistent T n g f) (there : o < n)
    (same : (j : ℕ) → j < n → (j ≡ o → ⊥) → f' j ≡ f j) (is : f' o ≡ item (f o).table (f o).key (f o).parent kind v guest)
    (new : NewContent T n g f (item (f o).table (f o).key (f o).parent kind v guest)) where
  abbrev y : Item
  y = item (f o).table (f o).key (f o).parent kind v guest

  change : (P : ℕ → Item → Type 0) → ((i : ℕ) → i < n → P i (f i)) → P o y → (i : ℕ) → i < n → P i (f' i)
  change P old own i h = by_field (eqb i o) refl
    where
      by_field : (q : Bool) → eqb i o ≡ q → P i (f' i)
      by_field true e = subst (λ (j : ℕ). P j (f' j)) (sym (eqb-true i o e)) (subst (P o) (sym is) own)
      by_field false e = subst (P i) (sym (same i h (eqb-false i o e))) (old i h)

  same_spot : (j : ℕ) → j < n → ((f' j).table ≡ (f j).table) × ((f' j).key ≡ (f j).key)
  same_spot = change (λ j z. (z.table ≡ (f j).table) × (z.key ≡ (f j).key)) (λ j l. (refl, refl)) (refl, refl)

  once_by : (i j : ℕ) → i < n → j < n → (f' i).kind ≡ 72 → (f' j).kind ≡ 72 → (f' i).guest ≡ (f' j).guest → (p : Bool) → eqb i o ≡ p → (q : Bool) → eqb j o ≡ q → i ≡ j
  once_by i j li lj a b c true ei true ej = eqb-true i o ei ∙ sym (eqb-true j o ej)
  once_by i j li lj a b c true ei false ej =
      let fi : f' i ≡ y = ap f' (eqb-true i o ei) ∙ is in
      let fj = same j lj (eqb-false j o ej) in
      absurd (new.free (ap (λ (z : Item). z.kind) (sym fi) ∙ a) j lj (ap (λ (z : Item). z.kind) (sym fj) ∙ b) (ap (λ (z : Item). z.guest) (sym fj) ∙ sym c ∙ ap (λ (z : Item). z.guest) fi))
  once_by i j li lj a b c false ei true ej =
      let fj : f' j ≡ y = ap f' (eqb-true j o ej) ∙ is in
      let fi = same i li (eqb-false i o ei) in
      absurd (new.free (ap (λ (z : Item). z.kind) (sym fj) ∙ b) i li (ap (λ (z : Item). z.kind) (sym fi) ∙ a) (ap (λ (z : Item). z.guest) (sym fi) ∙ c ∙ ap (λ (z : Item). z.guest) fj))
  once_by i j li lj a b c false ei false ej =
      let fi = same i li (eqb-false i o ei) in
      let fj = same j lj (eqb-false j o ej) in
      consistent.once i j li lj (ap (λ (z : Item). z.kind) (sym fi) ∙ a) (ap (λ (z : Item). z.kind) (sym fj) ∙ b) (ap (λ (z : Item). z.guest) (sym fi) ∙ c ∙ ap (λ (z : Item). z.guest) fj)

  pub consistent_set : Consistent T n g f'
  consistent_set =
      record {
        tables = consistent.tables;
        count = consistent.count;
        seps = consistent.seps;
        flags = consistent.flags;
        known = change (λ i z. z.table < T) consistent.known (consistent.known o there);
        texts = change (λ i z. is_utf8 z.key ≡ true) consistent.texts (consistent.texts o there);
        short = change (λ i z. length z.key ≤ longest_key) consistent.short (consistent.short o there);
        key_bytes = change (λ i z. is_bytes z.key ≡ true) consistent.key_bytes (consistent.key_bytes o there);
        kinds = change (λ i z. kind_known z.kind ≡ true) consistent.kinds new.kind;
        distinct = λ i j hi hj et ek. consistent.distinct i j hi hj (sym (same_spot i hi).0 ∙ et ∙ (same_spot j hj).0) (sym (same_spot i hi).1 ∙ ek ∙ (same_spot j hj).1);
        parents = change (λ i z. Parent f' i z (g z.table).sep)
            (λ i l. parent_on f f' i (λ j lj. same_spot j (omega arith)) (f i) (g (f i).table).sep (consistent.parents i l))
            (let p = consistent.parents o there in
            record {
              from = p.from;
              above = above_on o o f f' (omega arith) (λ j lj. same_spot j (omega arith)) (f o).table (f o).key (f o).parent p.from p.above;
              proper = p.proper;
              gap = p.gap;
            });
        closed = change (λ i z. (e : ℕ) → 1 ≤ e → e < length z.key → get_or z.key (e - 1) 0 ≡ (g z.table).sep → There n f' z.table (take e z.key))
            (λ i l e p u s. there_on n n f f' (omega arith) same_spot (f i).table (take e (f i).key) (consistent.closed i l e p u s))
            (λ e p u s. there_on n n f f' (omega arith) same_spot (f o).table (take e (f o).key) (consistent.closed o there e p u s));
        guests = change (λ i z. z.kind ≡ 72 → (z.guest < T) × ((g z.guest).placed ≡ 1) × ((g z.guest).height < deepest)) consistent.guests new.guest;
        once = λ i j li lj a b c. once_by i j li lj a b c (eqb i o) refl (eqb j o) refl;
        ranks = change (λ i z. z.kind ≡ 72 → (g z.table).placed ≡ 1 → (g z.guest).height < (g z.table).height) consistent.ranks (λ e p. absurd (new.loose p));
        exact = λ t l p.
            let h : ℕ → ℕ = λ x. (g x).height in
            let apart : ((f o).table ≡ t) → ⊥ = λ e. new.loose (ap (λ (x : ℕ). (g x).placed) e ∙ p) in
            consistent.exact t l p
            ∙ ap (λ (x : ℕ). x + 1) (sym (held_cong n f' f h h t (change (λ i z. held_item h t z ≡ held_item h t (f i)) (λ i u. refl) (item_else h t y apart ∙ sym (item_else h t (f o) apart)))));
      }

-- ---- one table placed
module _ (T n : ℕ) (g g' : ℕ → Table) (f : ℕ → Item) (p h : ℕ) (consistent : Consistent T n g f) (loose : (g p).placed ≡ 0) (low : h ≤ 7)
    (same : (t : ℕ) → t < T → (t ≡ p → ⊥) → g' t ≡ g t) (sep : (t : ℕ) → t < T → (g' t).sep ≡ (g t).sep) (placed : (g' p).placed ≡ 1) (height : (g' p).height ≡ h)
    (lower : (i : ℕ) → i < n → (f i).table ≡ p → (f i).kind ≡ 72 → (g (f i).guest).height < h)
    (exactly : h ≡ held_in n f (λ (x : ℕ). (g x).height) p + 1) where
  -- a table that is held is another than the one placed now
  held_other : (i : ℕ) → i < n → (f i).kind ≡ 72 → g' (f i).guest ≡ g (f i).guest
  held_other i l e =
      let r = consistent.guests i l e in
      same (f i).guest r.0 (λ (q : (f i).guest ≡ p). let z : 1 ≡ 0 = sym r.1 ∙ ap (λ (t : ℕ). (g t).placed) q ∙ loose in omega arith)

  rank_by : (i : ℕ) → i < n → (f i).kind ≡ 72 → (g' (f i).table).placed ≡ 1 → (q : Bool) → eqb (f i).table p ≡ q → (g' (f i).guest).height < (g' (f i).table).height
  rank_by i l e a true q =
      let t = eqb-true (f i).table p q in
      let b = lower i l t e in
      let c = ap (λ (z : Table). z.height) (held_other i l e) in
      let d : (g' (f i).table).height ≡ h = ap (λ (z : ℕ). (g' z).height) t ∙ height in
      omega arith
  rank_by i l e a false q =
      let s = same (f i).table (consistent.known i l) (eqb-false (f i).table p q) in
      let b = consistent.ranks i l e (ap (λ (z : Table). z.placed) (sym s) ∙ a) in
      let c = ap (λ (z : Table). z.height) (held_other i l e) in
      let d = ap (λ (z : Table). z.height) s in
      omega arith

  same_held : (t : ℕ) → held_in n f (λ (x : ℕ). (g x).height) t ≡ held_in n f (λ (x : ℕ). (g' x).height) t
  same_held t =
      held_cong n f f (λ (x : ℕ). (g x).height) (λ (x : ℕ). (g' x).height) t
      (λ i l. item_cong (λ (x : ℕ). (g x).height) (λ (x : ℕ). (g' x).height) t (f i) (λ a b. ap (λ (z : Table). z.height) (sym (held_other i l b))))

  exact_by : (t : ℕ) → t < T → (g' t).placed ≡ 1 → (q : Bool) → eqb t p ≡ q → (g' t).height ≡ held_in n f (λ (x : ℕ). (g' x).height) t + 1
  exact_by t l a true e =
      let z = eqb-true t p e in
      ap (λ (x : ℕ). (g' x).height) z ∙ height ∙ exactly ∙ ap (λ (x : ℕ). held_in n f (λ (y : ℕ). (g y).height) x + 1) (sym z) ∙ ap (λ (x : ℕ). x + 1) (same_held t)
  exact_by t l a false e =
      let s = same t l (eqb-false t p e) in
      ap (λ (z : Table). z.height) s ∙ consistent.exact t l (ap (λ (z : Table). z.placed) (sym s) ∙ a) ∙ ap (λ (x : ℕ). x + 1) (same_held t)

  flag_by : (t : ℕ) → t < T → (q : Bool) → eqb t p ≡ q → (g' t).placed ≤ 1
  flag_by t l true q = let e : (g' t).placed ≡ 1 = ap (λ (x : ℕ). (g' x).placed) (eqb-true t p q) ∙ placed in omega arith
  flag_by t l false q = let e = ap (λ (z : Table). z.placed) (same t l (eqb-false t p q)) in let b = consistent.flags t l in omega arith

  pub ranges_of : Consistent T n g' f
  ranges_of =
      record {
        tables = consistent.tables;
        count = consistent.count;
        seps = λ t l u. let s = sep t l in let b = consistent.seps t l (omega arith) in omega arith;
        flags = λ t l. flag_by t l (eqb t p) refl;
        known = consistent.known;
        texts = consistent.texts;
        short = consistent.short;
        key_bytes = consistent.key_bytes;
        kinds = consistent.kinds;
        distinct = consistent.distinct;
        parents = λ i l. subst (Parent f i (f i)) (sym (sep (f i).table (consistent.known i l))) (consistent.parents i l);
        closed = λ i l e a u s. consistent.closed i l e a u (s ∙ sep (f i).table (consistent.known i l));
        guests = λ i l e. subst (λ (z : Table). ((f i).guest < T) × (z.placed ≡ 1) × (z.height < deepest)) (sym (held_other i l e)) (consistent.guests i l e);
        once = consistent.once;
        ranks = λ i l e a. rank_by i l e a (eqb (f i).table p) refl;
        exact = λ t l a. exact_by t l a (eqb t p) refl;
      }

-- ---- more tables, and another way to say those that are there
module _ (T T' n : ℕ) (g g' : ℕ → Table) (f : ℕ → Item) (consistent : Consistent T n g f) (more : T ≤ T') (few : T' ≤ most_tables) (same : (t : ℕ) → t < T → g' t ≡ g t)
    (unplaced : (t : ℕ) → T ≤ t → t < T' → (g' t).placed ≡ 0) (fine : (t : ℕ) → T ≤ t → t < T' → (g' t).sep < 256 → (g' t).sep ≤ 127) where
  pub consistent_grow : Consistent T' n g' f
  consistent_grow =
      record {
        tables = few;
        count = consistent.count;
        seps = λ t l u. sep_by t l u (dec_lt t T);
        flags = λ t l. flag_by t l (dec_lt t T);
        known = λ i l. let h = consistent.known i l in omega arith;
        texts = consistent.texts;
        short = consistent.short;
        key_bytes = consistent.key_bytes;
        kinds = consistent.kinds;
        distinct = consistent.distinct;
        parents = λ i l. subst (λ (z : Table). Parent f i (f i) z.sep) (sym (same (f i).table (consistent.known i l))) (consistent.parents i l);
        closed = λ i l e a u s. consistent.closed i l e a u (s ∙ ap (λ (z : Table). z.sep) (same (f i).table (consistent.known i l)));
        guests = λ i l e. let r = consistent.guests i l e in
            subst (λ (z : Table). ((f i).guest < T') × (z.placed ≡ 1) × (z.height < deepest)) (sym (same (f i).guest r.0)) (let b = r.0 in omega arith, r.1, r.2);
        once = consistent.once;
        ranks = λ i l e a. let r = consistent.guests i l e in
            let s = same (f i).table (consistent.known i l) in
            let b = consistent.ranks i l e (ap (λ (z : Table). z.placed) (sym s) ∙ a) in
            let c = ap (λ (z : Table). z.height) (same (f i).guest r.0) in
            let d = ap (λ (z : Table). z.height) s in
            omega arith;
        exact = λ t l a. exact_by t l a (dec_lt t T);
      }
    where
      sep_by : (t : ℕ) → t < T' → (g' t).sep < 256 → Dec (t < T) → (g' t).sep ≤ 127
      sep_by t l u (yes h) = let s = ap (λ (z : Table). z.sep) (same t h) in let b = consistent.seps t h (omega arith) in omega arith
      sep_by t l u (no h) = fine t (omega arith) l u

      flag_by : (t : ℕ) → t < T' → Dec (t < T) → (g' t).placed ≤ 1
      flag_by t l (yes h) = let e = ap (λ (z : Table). z.placed) (same t h) in let b = consistent.flags t h in omega arith
      flag_by t l (no h) = let e = unplaced t (omega arith) l in omega arith

      exact_by : (t : ℕ) → t < T' → (g' t).placed ≡ 1 → Dec (t < T) → (g' t).height ≡ held_in n f (λ (x : ℕ). (g' x).height) t + 1
      exact_by t l a (yes u) =
          let s = same t u in
          ap (λ (z : Table). z.height) s ∙ consistent.exact t u (ap (λ (z : Table). z.placed) (sym s) ∙ a)
          ∙ ap (λ (x : ℕ). x + 1) (held_cong n f f (λ (x : ℕ). (g x).height) (λ (x : ℕ). (g' x).height) t
          (λ i v. item_cong (λ (x : ℕ). (g x).height) (λ (x : ℕ). (g' x).height) t (f i) (λ y z. ap (λ (w : Table). w.height) (sym (same (f i).guest (consistent.guests i v z).0)))))
      exact_by t l a (no u) = let z = unplaced t (omega arith) l in absurd (omega arith)

-- ---- nothing yet
pub consistent_none : (g : ℕ → Table) (f : ℕ → Item) → Consistent 0 0 g f
consistent_none g f =
    record {
      tables = omega arith;
      count = omega arith;
      seps = λ t l. absurd (omega arith);
      flags = λ t l. absurd (omega arith);
      known = λ i l. absurd (omega arith);
      texts = λ i l. absurd (omega arith);
      short = λ i l. absurd (omega arith);
      key_bytes = λ i l. absurd (omega arith);
      kinds = λ i l. absurd (omega arith);
      distinct = λ i j l m a b. absurd (omega arith);
      parents = λ i l. absurd (omega arith);
      closed = λ i l. absurd (omega arith);
      guests = λ i l. absurd (omega arith);
      once = λ i j l m a b c. absurd (omega arith);
      ranks = λ i l. absurd (omega arith);
      exact = λ t l. absurd (omega arith);
    }
