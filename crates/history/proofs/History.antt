-- Every memory that a history of calls reaches is honest, keeps the rules that every call judges, and keeps the rules that a write judges:
-- a caller who changes nothing between calls never meets 29.
use Prim.Native.Nat.{ℕ, suc, ◌+◌, ◌-◌, ◌<◌}
use native.Mathlib.Omega.{arith}
use native.Mathlib.Decide.{dec_lt}
use mathlib.Core.Path.{◌≡◌, refl, sym, ap, ◌∙◌, subst}
use mathlib.Core.Bool.{Bool, true, false, ◌&&◌, ◌||◌, not}
use mathlib.Core.List.{List}
use borrow.Author.Tests.{eqb-true, eqb-false, eq-eqb, ne_eqb, lt-ltb, le-leb}
use lib.Dec.{eqb, ltb, leb}
use lib.ListN.{length, take}
use lib.Seq.{length-take-le}
use Rattle.words.specs.Below.{some_below}
use Rattle.key_hash.specs.Hash.{hash_of}
use Rattle.words.proofs.ChoiceLaws.{both, both_hold, pick_with}
use Rattle.words.proofs.BelowLaws.{below_all, some_below_lem}
use Rattle.key_order.specs.Compare.{same_bytes}
use Rattle.text.specs.Utf8.{is_utf8}
use Rattle.key_order.proofs.CompareLaws.{equal_same}
use Rattle.layout.specs.Kind.{kind_known, value_kind, table_kind}
use Rattle.layout.specs.Limits.{longest_key, deepest}
use Rattle.layout.specs.Item.{no_item}
use Rattle.build_memory.specs.Memory.{word, links, link_at, table_total, item_total, room_used, table_placed, table_height, item_table, item_hash, key_start, key_size, item_parent, item_kind, value_start, value_size, item_guest, key_of, valid}
use Rattle.build_memory.specs.Find.{find_key}
use Rattle.build_memory.proofs.MemoryLaws.{valid-holds}
use Rattle.build_rules.specs.Valid.{table_known, key_within, key_short, kind_valid, value_within, ranges_valid, key_utf8, hash_valid, key_found, key_valid, begun_by, parent_valid, height_limit, guest_placed, guest_valid, holds_table, held_once, item_valid, link_empty, fully_valid}
use Rattle.history.specs.Items.{Item, item_of, table_of}
use Rattle.history.specs.Consistent.{Consistent, held_in}
use Rattle.history.specs.Honest.{Honest}
use Rattle.history.specs.Reached.{Reached, fresh, new_table, insert_value, insert_table}
use Rattle.history.proofs.TidySearch.{key_size_lem, find_found, find_missing}
use Rattle.history.proofs.HonestCalls.{fresh_honest, table_honest, value_honest, placed_word, height-word}
use Rattle.history.proofs.HonestNesting.{nest_honest}

pub reached_honest : (ws ar : List ℕ) → Reached ws ar → Honest ws ar
reached_honest w a (fresh ws ar long) = fresh_honest ws ar long
reached_honest w a (new_table ws ar r separator) = table_honest ws ar separator (reached_honest ws ar r)
reached_honest w a (insert_value ws ar r t key value) = value_honest ws ar (reached_honest ws ar r) t key value
reached_honest w a (insert_table ws ar r t key guest) = nest_honest ws ar (reached_honest ws ar r) t key guest

-- the rules that every call judges
pub honest_valid : (ws ar : List ℕ) → Honest ws ar → valid ws (length ar) ≡ true
honest_valid ws ar honest = valid-holds ws (length ar) honest.tidy.valid-memory

pub reached_valid : (ws ar : List ℕ) → Reached ws ar → valid ws (length ar) ≡ true
reached_valid ws ar r = honest_valid ws ar (reached_honest ws ar r)

-- ---- the rules that a write judges

-- what holds unless a test does
unless_holds : (p q : Bool) → (p ≡ true → q ≡ true) → (not p || q) ≡ true
unless_holds true q f = f refl
unless_holds false q f = refl

or_holds : (p q : Bool) → (p ≡ false → q ≡ true) → (p || q) ≡ true
or_holds true q f = refl
or_holds false q f = f refl

-- no item made before holds what item i holds
twice : (ws ar : List ℕ) → Honest ws ar → (i : ℕ) → i < item_total ws → (item_of ws ar i).kind ≡ table_kind
    → (k : ℕ) × (k < i) × (holds_table ws (item_guest ws i) k ≡ true) → ⊥
unfolding holds_table item_of
twice ws ar honest i l e s =
    let j = s.0 in
    let b = s.1 in
    let r = both (eqb (item_kind ws j) table_kind) (eqb (item_guest ws j) (item_guest ws i)) s.2 in
    let z : j ≡ i = honest.consistent.once j i (omega arith) l (eqb-true (item_kind ws j) table_kind r.0) e (eqb-true (item_guest ws j) (item_guest ws i) r.1) in
    omega arith

module _ (ws ar : List ℕ) (honest : Honest ws ar) where
  abbrev f : ℕ → Item
  f = item_of ws ar

  abbrev consistent : Consistent (table_total ws) (item_total ws) (table_of ws) f
  consistent = honest.consistent

  -- what an item and a table say, by their words
  words_of : (i : ℕ) → ((f i).table ≡ item_table ws i) × ((f i).key ≡ key_of ws ar i) × ((f i).parent ≡ item_parent ws i) × ((f i).kind ≡ item_kind ws i) × ((f i).guest ≡ item_guest ws i)
  unfolding item_of
  words_of i = (refl, refl, refl, refl, refl)

  pub placed_one : (t : ℕ) → t < table_total ws → eqb (table_placed ws t) 0 ≡ false → table_placed ws t ≡ 1
  placed_one t h e =
      let ne = eqb-false (table_placed ws t) 0 e in
      let b = consistent.flags t h in
      let w = placed_word ws t in
      omega arith

  module _ (i : ℕ) (l : i < item_total ws) where
    place-holds : ranges_valid ws i ≡ true
    unfolding ranges_valid table_known key_within key_short kind_valid value_within
    place-holds =
        let w = words_of i in
        let size = key_size_lem ws ar honest.tidy i l in
        let known = consistent.known i l in
        let short = consistent.short i l in
        let same = ap length w.1 in
        both_hold (lt-ltb (item_table ws i) (table_total ws) (omega arith))
        (both_hold (le-leb (key_start ws i + key_size ws i) (room_used ws) (honest.tidy.keys i l))
        (both_hold (le-leb (key_size ws i) longest_key (omega arith))
        (both_hold (ap kind_known (sym w.3) ∙ consistent.kinds i l)
        (unless_holds (eqb (item_kind ws i) value_kind) _ (λ e. le-leb (value_start ws i + value_size ws i) (room_used ws) (honest.tidy.values i l))))))

    -- the search answers this very item
    found_holds : find_key ws ar (item_table ws i) (key_of ws ar i) ≡ i
    found_holds = by_field (dec_lt (find_key ws ar (item_table ws i) (key_of ws ar i)) (item_total ws))
      where
        by_field : Dec (find_key ws ar (item_table ws i) (key_of ws ar i) < item_total ws) → find_key ws ar (item_table ws i) (key_of ws ar i) ≡ i
        by_field (yes h) =
            let j = find_key ws ar (item_table ws i) (key_of ws ar i) in
            let r = find_found ws ar honest.tidy (item_table ws i) (key_of ws ar i) j refl h in
            let w = words_of i in
            let v = words_of j in
            consistent.distinct j i h l (v.0 ∙ r.0 ∙ sym w.0) (v.1 ∙ r.1 ∙ sym w.1)
        by_field (no h) = absurd (find_missing ws ar honest.tidy (item_table ws i) (key_of ws ar i) (omega arith) i l refl refl)

    key_holds : key_valid ws ar i ≡ true
    unfolding key_valid key_utf8 hash_valid key_found
    key_holds =
        both_hold (ap is_utf8 (sym (words_of i).1) ∙ consistent.texts i l)
        (both_hold (eq-eqb (item_hash ws i) (hash_of (key_of ws ar i)) (honest.tidy.hashes i l)) (eq-eqb _ i found_holds))

    parent_holds : parent_valid ws ar i ≡ true
    unfolding parent_valid begun_by
    parent_holds = or_holds (eqb (item_parent ws i) 0) _ (λ e. by_parent (eqb-false (item_parent ws i) 0 e))
      where
        by_parent : (item_parent ws i ≡ 0 → ⊥)
            → (leb (item_parent ws i) i && (eqb (item_table ws (item_parent ws i - 1)) (item_table ws i)
            && (ltb (length (key_of ws ar (item_parent ws i - 1))) (length (key_of ws ar i))
            && same_bytes (key_of ws ar (item_parent ws i - 1)) (take (length (key_of ws ar (item_parent ws i - 1))) (key_of ws ar i))))) ≡ true
        by_parent ne =
            let w = words_of i in
            let j = item_parent ws i - 1 in
            let p = consistent.parents i l in
            let is : (f i).parent ≡ suc j = w.2 ∙ (let z : item_parent ws i ≡ suc (item_parent ws i - 1) = omega arith in z) in
            let h = p.above.holds j is in
            let below = h.0 in
            let v = words_of j in
            let key_is : key_of ws ar j ≡ take p.from (key_of ws ar i) = sym v.1 ∙ h.2 ∙ ap (take p.from) w.1 in
            let long : length (f i).key ≡ length (key_of ws ar i) = ap length w.1 in
            let proper = p.proper j is in
            let within = p.above.within in
            let size : length (key_of ws ar j) ≡ p.from = ap length key_is ∙ length-take-le p.from (key_of ws ar i) (omega arith) in
            both_hold (le-leb (item_parent ws i) i (omega arith))
            (both_hold (eq-eqb (item_table ws j) (item_table ws i) (sym v.0 ∙ h.1 ∙ w.0))
            (both_hold (lt-ltb (length (key_of ws ar j)) (length (key_of ws ar i)) (omega arith))
            (equal_same (key_of ws ar j) (take (length (key_of ws ar j)) (key_of ws ar i)) (key_is ∙ ap (λ (n : ℕ). take n (key_of ws ar i)) (sym size)))))

    -- the height of a placed table is at least 1, and what an item holds is lower than its table may be
    limit_holds : (f i).kind ≡ table_kind → table_height ws (item_guest ws i) < height_limit ws (item_table ws i)
    unfolding height_limit
    limit_holds e =
        let w = words_of i in
        let r = consistent.guests i l e in
        let high : (table_of ws (f i).guest).height ≡ table_height ws (item_guest ws i) = ap (λ (x : ℕ). (table_of ws x).height) w.4 ∙ height-word ws (item_guest ws i) in
        let low = r.2 in
        pick_with (λ (n : ℕ). table_height ws (item_guest ws i) < n) (eqb (table_placed ws (item_table ws i)) 0) deepest (table_height ws (item_table ws i))
        (λ z. omega arith)
        (λ z.
        let rank = consistent.ranks i l e (ap (λ (x : ℕ). (table_of ws x).placed) w.0 ∙ placed_word ws (item_table ws i) ∙ placed_one (item_table ws i) (subst (λ (x : ℕ). x < table_total ws) w.0 (consistent.known i l)) z) in
        let own : (table_of ws (f i).table).height ≡ table_height ws (item_table ws i) = ap (λ (x : ℕ). (table_of ws x).height) w.0 ∙ height-word ws (item_table ws i) in
        omega arith)

    guest_holds : guest_valid ws i ≡ true
    unfolding guest_valid guest_placed
    guest_holds =
        unless_holds (eqb (item_kind ws i) table_kind) _ (λ k.
        let w = words_of i in
        let e : (f i).kind ≡ table_kind = w.3 ∙ eqb-true (item_kind ws i) table_kind k in
        let r = consistent.guests i l e in
        let known : item_guest ws i < table_total ws = subst (λ (x : ℕ). x < table_total ws) w.4 r.0 in
        let placed : table_placed ws (item_guest ws i) ≡ 1 = sym (placed_word ws (item_guest ws i)) ∙ ap (λ (x : ℕ). (table_of ws x).placed) (sym w.4) ∙ r.1 in
        let high : table_height ws (item_guest ws i) ≡ held_in (item_total ws) f (λ (x : ℕ). (table_of ws x).height) (item_guest ws i) + 1 =
        sym (height-word ws (item_guest ws i)) ∙ consistent.exact (item_guest ws i) known (placed_word ws (item_guest ws i) ∙ placed) in
        both_hold (lt-ltb (item_guest ws i) (table_total ws) known)
        (both_hold (ap not (ne_eqb (table_placed ws (item_guest ws i)) 0 (λ (z : table_placed ws (item_guest ws i) ≡ 0). omega arith)))
        (both_hold (le-leb 1 (table_height ws (item_guest ws i)) (omega arith)) (lt-ltb (table_height ws (item_guest ws i)) (height_limit ws (item_table ws i)) (limit_holds e)))))

    once_holds : held_once ws i ≡ true
    unfolding held_once
    once_holds =
        unless_holds (eqb (item_kind ws i) table_kind) _ (λ k.
        by_some (w_kind k) (some_below (holds_table ws (item_guest ws i)) i) refl)
      where
        w_kind : eqb (item_kind ws i) table_kind ≡ true → (f i).kind ≡ table_kind
        w_kind k = (words_of i).3 ∙ eqb-true (item_kind ws i) table_kind k

        by_some : (f i).kind ≡ table_kind → (q : Bool) → some_below (holds_table ws (item_guest ws i)) i ≡ q → not q ≡ true
        by_some e true s = absurd (twice ws ar honest i l e (some_below_lem (holds_table ws (item_guest ws i)) i s))
        by_some e false s = refl

    item-holds : item_valid ws ar i ≡ true
    unfolding item_valid
    item-holds = both_hold place-holds (both_hold key_holds (both_hold parent_holds guest_holds))

  link_holds : (j : ℕ) → j < links → link_empty ws j ≡ true
  unfolding link_empty
  link_holds j h = eq-eqb (word ws (link_at j)) no_item (honest.tidy.clear j h)

  pub honest_whole : fully_valid ws ar ≡ true
  unfolding fully_valid
  honest_whole =
      both_hold (honest_valid ws ar honest)
      (both_hold (below_all (item_valid ws ar) (item_total ws) item-holds)
      (both_hold (below_all (held_once ws) (item_total ws) once_holds) (below_all (link_empty ws) links link_holds)))

pub reached_whole : (ws ar : List ℕ) → Reached ws ar → fully_valid ws ar ≡ true
reached_whole ws ar r = honest_whole ws ar (reached_honest ws ar r)
